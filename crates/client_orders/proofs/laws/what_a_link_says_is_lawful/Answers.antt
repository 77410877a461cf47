use Rattle.client_orders.proofs.Ordering.{link_lawful}
use Rattle.client_orders.proofs.laws.what_a_link_says_is_lawful.Goals as goal

pub returns : goal.returns
returns c = link_lawful
