use Rattle.server_keeps.proofs.Lawful.{opens_lawful, orders_lawful}
use Rattle.server_keeps.proofs.laws.orders_are_lawful.Goals as goal

pub returns-clause-opens : goal.returns-clause-opens
returns-clause-opens c = opens_lawful

pub returns-clause-step : goal.returns-clause-step
returns-clause-step c = orders_lawful
