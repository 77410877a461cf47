use Rattle.fanout.proofs.Lines.{told_lines}
use Rattle.fanout.proofs.laws.each_is_told_its_lines.Goals as goal

pub returns : goal.returns
returns c = told_lines
