use Rattle.server_laws.specs.Lockstep.{Never}
use Rattle.server_laws.proofs.Keeping.{never_says, nothing_said, own_waits}
use Rattle.server_laws.proofs.Quieting.{replied_at_once}
use Rattle.server_laws.proofs.lockstep.nothing_is_sent_before_a_publish.Goals as goal

pub returns-clause-silent : goal.returns-clause-silent
returns-clause-silent c = nothing_said

pub returns-clause-answered : goal.returns-clause-answered
returns-clause-answered c = replied_at_once Never

pub returns-clause-stays : goal.returns-clause-stays
returns-clause-stays c = own_waits Never

pub returns-clause-none : goal.returns-clause-none
returns-clause-none c = never_says
