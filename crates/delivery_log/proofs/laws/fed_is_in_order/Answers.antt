use Rattle.delivery_log.proofs.Law.{in_order_from_fed}
use Rattle.delivery_log.proofs.laws.fed_is_in_order.Goals as goal

pub returns : goal.returns
returns c = in_order_from_fed
