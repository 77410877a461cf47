use Rattle.scenario.proofs.ValidLemmas.{valid_lines}
use Rattle.scenario.proofs.WrittenLemmas.{all_allowed}
use Rattle.scenario.proofs.laws.valid_lines.Goals as goal

pub returns : goal.returns
returns c = record { shape = valid_lines; order = all_allowed }
