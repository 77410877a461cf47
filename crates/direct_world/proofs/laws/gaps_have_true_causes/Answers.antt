use Rattle.direct_world.proofs.Law.{world_caused}
use Rattle.direct_world.proofs.laws.gaps_have_true_causes.Goals as goal

pub returns : goal.returns
returns c = world_caused
