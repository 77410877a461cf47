use Rattle.sessions.proofs.Moments.{before_due, when_due, after_due}
use Rattle.sessions.proofs.laws.sessions_expire_when_due.Goals as goal

pub returns-clause-before : goal.returns-clause-before
returns-clause-before c = λ now state. before_due now state.sessions

pub returns-clause-when : goal.returns-clause-when
returns-clause-when c = λ now state. when_due now state.sessions

pub returns-clause-after : goal.returns-clause-after
returns-clause-after c = λ now state. after_due now state.sessions
