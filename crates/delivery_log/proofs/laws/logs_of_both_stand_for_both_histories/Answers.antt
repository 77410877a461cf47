use Rattle.delivery_log.proofs.Joined.{joined_stands}
use Rattle.delivery_log.proofs.laws.logs_of_both_stand_for_both_histories.Goals as goal

pub returns : goal.returns
returns c = joined_stands
