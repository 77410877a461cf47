use Rattle.failover_core.proofs.Best.{chosen, none_chosen}
use Rattle.failover_core.proofs.laws.choices_are_best.Goals as goal

pub returns-clause-best : goal.returns-clause-best
returns-clause-best c = chosen

pub returns-clause-none : goal.returns-clause-none
returns-clause-none c = none_chosen
