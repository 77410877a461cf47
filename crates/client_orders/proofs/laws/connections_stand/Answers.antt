use Rattle.client_orders.proofs.Whole.{client_holds, client_opens, dialled_holds}
use Rattle.client_orders.proofs.laws.connections_stand.Goals as goal

pub returns-clause-stays : goal.returns-clause-stays
returns-clause-stays c = client_holds

pub returns-clause-opens : goal.returns-clause-opens
returns-clause-opens c = client_opens

pub returns-clause-dialled : goal.returns-clause-dialled
returns-clause-dialled c = dialled_holds
