use Rattle.failover_core.proofs.Best.{switched}
use Rattle.failover_core.proofs.laws.switches_are_choices.Goals as goal

pub returns : goal.returns
returns c = switched
