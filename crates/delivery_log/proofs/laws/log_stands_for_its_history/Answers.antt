use Rattle.delivery_log.proofs.Kept.{log_stands}
use Rattle.delivery_log.proofs.laws.log_stands_for_its_history.Goals as goal

pub returns : goal.returns
returns c = log_stands
