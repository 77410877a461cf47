use Rattle.delivery_log.proofs.Joined.{joined_caused}
use Rattle.delivery_log.proofs.laws.gaps_of_both_have_true_causes.Goals as goal

pub returns : goal.returns
returns c = joined_caused
