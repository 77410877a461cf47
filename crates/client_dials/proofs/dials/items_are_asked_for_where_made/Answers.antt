use Rattle.client_dials.proofs.Asking.{items_asked_where_made}
use Rattle.client_dials.proofs.dials.items_are_asked_for_where_made.Goals as goal

pub returns : goal.returns
returns c = items_asked_where_made c.items_are_made_once.ensures.once c.items_are_made_once.ensures.config
