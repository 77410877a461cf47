use Rattle.server_laws.specs.Lockstep.{Other}
use Rattle.server_laws.proofs.Quieting.{replied_at_once}
use Rattle.server_laws.proofs.lockstep.requests_are_answered_at_once.Goals as goal

pub returns : goal.returns
returns c = λ conn. replied_at_once (Other conn) conn
