use Rattle.server_laws.proofs.Numbering.{highest_is, numbers_are, numbers_rise, rise_after}
use Rattle.server_laws.proofs.lockstep.connections_are_those_opened.Goals as goal

pub returns-clause-numbers : goal.returns-clause-numbers
returns-clause-numbers c = numbers_are

pub returns-clause-highest : goal.returns-clause-highest
returns-clause-highest c = highest_is

pub returns-clause-rise : goal.returns-clause-rise
returns-clause-rise c = rise_after

pub returns-clause-life : goal.returns-clause-life
returns-clause-life c = numbers_rise
