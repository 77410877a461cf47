use Rattle.delivery_log.proofs.Joined.{joined_safe}
use Rattle.delivery_log.proofs.laws.logs_of_both_are_safe.Goals as goal

pub returns : goal.returns
returns c = joined_safe
