use Rattle.direct_world.proofs.Law.{world_source, world_lines, world_fed}
use Rattle.direct_world.proofs.laws.history_is_well_fed.Goals as goal

pub returns-clause-source : goal.returns-clause-source
returns-clause-source c = world_source

pub returns-clause-lines : goal.returns-clause-lines
returns-clause-lines c = world_lines

pub returns-clause-fed : goal.returns-clause-fed
returns-clause-fed c = λ n m oldest size ls two. (world_fed n m oldest size ls two).well
