use Rattle.server_laws.proofs.Living.{acts_are, said_is, state_is}
use Rattle.server_laws.proofs.lives.lives_are_steps.Goals as goal

pub returns-clause-state : goal.returns-clause-state
returns-clause-state c = state_is

pub returns-clause-acts : goal.returns-clause-acts
returns-clause-acts c = acts_are

pub returns-clause-said : goal.returns-clause-said
returns-clause-said c = said_is
