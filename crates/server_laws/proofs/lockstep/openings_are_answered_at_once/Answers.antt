use Rattle.server_laws.proofs.Putting.{opening_answered, replied_one}
use Rattle.server_laws.proofs.lockstep.openings_are_answered_at_once.Goals as goal

pub returns-clause-openings : goal.returns-clause-openings
returns-clause-openings c = opening_answered

pub returns-clause-answers : goal.returns-clause-answers
returns-clause-answers c = replied_one
