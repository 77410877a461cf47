use Rattle.scenario.proofs.WrittenLemmas.{reads_again, written_again, written_lines}
use Rattle.scenario.proofs.laws.reads_what_was_written.Goals as goal

pub returns : goal.returns
returns c = record { again = reads_again; lines = written_lines; same = written_again }
