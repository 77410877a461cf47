use Rattle.client_orders.proofs.Whole.{anew_knows, client_in_use, dialled_in_use, link_in_use}
use Rattle.client_orders.proofs.laws.orders_are_lawful_on_each_connection.Goals as goal

pub returns-clause-anew : goal.returns-clause-anew
returns-clause-anew c = anew_knows

pub returns-clause-link : goal.returns-clause-link
returns-clause-link c = link_in_use

pub returns-clause-step : goal.returns-clause-step
returns-clause-step c = client_in_use

pub returns-clause-dialled : goal.returns-clause-dialled
returns-clause-dialled c = dialled_in_use
