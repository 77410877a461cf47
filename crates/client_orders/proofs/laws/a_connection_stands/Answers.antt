use Rattle.client_orders.proofs.Ordering.{link_holds, link_opens}
use Rattle.client_orders.proofs.Whole.{wish_opens}
use Rattle.client_orders.proofs.laws.a_connection_stands.Goals as goal

pub returns-clause-stays : goal.returns-clause-stays
returns-clause-stays c = link_holds

pub returns-clause-opens : goal.returns-clause-opens
returns-clause-opens c = link_opens

pub returns-clause-wish : goal.returns-clause-wish
returns-clause-wish c = wish_opens
