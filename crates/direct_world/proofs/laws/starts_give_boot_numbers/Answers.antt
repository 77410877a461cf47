use Rattle.direct_world.proofs.Lived.{world_boots}
use Rattle.direct_world.proofs.laws.starts_give_boot_numbers.Goals as goal

pub returns : goal.returns
returns c = world_boots
