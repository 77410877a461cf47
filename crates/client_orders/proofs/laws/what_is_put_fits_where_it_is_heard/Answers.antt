use Rattle.client_orders.proofs.Whole.{client_puts}
use Rattle.client_orders.proofs.laws.what_is_put_fits_where_it_is_heard.Goals as goal

pub returns : goal.returns
returns c = client_puts
