use Rattle.direct_world.proofs.Law.{world_safe, world_in_order}
use Rattle.direct_world.proofs.Plainness.{world_plain}
use Rattle.direct_world.proofs.laws.log_is_safe.Goals as goal

pub returns-clause-safe : goal.returns-clause-safe
returns-clause-safe c = world_safe

pub returns-clause-order : goal.returns-clause-order
returns-clause-order c = world_in_order

pub returns-clause-plain : goal.returns-clause-plain
returns-clause-plain c = world_plain
