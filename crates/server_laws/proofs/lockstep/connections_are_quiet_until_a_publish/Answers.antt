use Rattle.server_laws.specs.Lockstep.{Other}
use Rattle.server_laws.proofs.Keeping.{ends_quiet, own_waits}
use Rattle.server_laws.proofs.Quieting.{after_tells}
use Rattle.server_laws.proofs.lockstep.connections_are_quiet_until_a_publish.Goals as goal

pub returns-clause-others : goal.returns-clause-others
returns-clause-others c = λ conn. after_tells (Other conn)

pub returns-clause-own : goal.returns-clause-own
returns-clause-own c = λ conn. own_waits (Other conn) conn

pub returns-clause-ends : goal.returns-clause-ends
returns-clause-ends c = ends_quiet
