use Rattle.client_orders.proofs.Clients.{dialled_long}
use Rattle.client_orders.proofs.Whole.{client_lawful, client_quiet, dialled_talks, servers_stay}
use Rattle.client_orders.proofs.laws.orders_are_lawful.Goals as goal

pub returns-clause-step : goal.returns-clause-step
returns-clause-step c = client_lawful

pub returns-clause-others : goal.returns-clause-others
returns-clause-others c = client_quiet

pub returns-clause-dialled : goal.returns-clause-dialled
returns-clause-dialled c = dialled_talks

pub returns-clause-servers : goal.returns-clause-servers
returns-clause-servers c = servers_stay

pub returns-clause-servers_dialled : goal.returns-clause-servers_dialled
returns-clause-servers_dialled c = dialled_long
