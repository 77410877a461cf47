use Rattle.direct_world.proofs.Lived.{world_are_lives, world_lives_boots}
use Rattle.direct_world.proofs.laws.lives_are_of_the_source.Goals as goal

pub returns-clause-lives : goal.returns-clause-lives
returns-clause-lives c = world_are_lives

pub returns-clause-boots : goal.returns-clause-boots
returns-clause-boots c = world_lives_boots
