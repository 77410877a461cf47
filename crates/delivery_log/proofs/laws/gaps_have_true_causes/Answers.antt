use Rattle.delivery_log.proofs.Causes.{caused_lines}
use Rattle.delivery_log.proofs.laws.gaps_have_true_causes.Goals as goal

pub returns : goal.returns
returns c = caused_lines
