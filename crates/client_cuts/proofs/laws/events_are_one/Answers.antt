use Rattle.client_cuts.proofs.Cutting.{events_cut}
use Rattle.client_cuts.proofs.Resting.{life_cut}
use Rattle.client_cuts.proofs.laws.events_are_one.Goals as goal

pub returns-clause-rest : goal.returns-clause-rest
returns-clause-rest c = events_cut

pub returns-clause-life : goal.returns-clause-life
returns-clause-life c = life_cut
