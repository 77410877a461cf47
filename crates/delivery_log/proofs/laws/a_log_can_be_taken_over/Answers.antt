use Rattle.delivery_log.proofs.Joined.{after_is_joined}
use Rattle.delivery_log.proofs.laws.a_log_can_be_taken_over.Goals as goal

pub returns : goal.returns
returns c = after_is_joined
