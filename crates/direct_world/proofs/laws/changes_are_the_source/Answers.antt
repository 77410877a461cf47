use Rattle.direct_world.proofs.Law.{world_changes}
use Rattle.direct_world.proofs.laws.changes_are_the_source.Goals as goal

pub returns : goal.returns
returns c = world_changes
