use Rattle.client_messages.proofs.Events as events
use Rattle.client_messages.proofs.Hearing as hearing
use Rattle.client_messages.proofs.Ordering.{client_orders}
use Rattle.client_messages.proofs.laws.events_are_shown.Goals as goal

pub returns-clause-opened : goal.returns-clause-opened
returns-clause-opened c = events.opened client_orders

pub returns-clause-refused : goal.returns-clause-refused
returns-clause-refused c = events.refused client_orders

pub returns-clause-bytes : goal.returns-clause-bytes
returns-clause-bytes c = hearing.hears client_orders

pub returns-clause-closed : goal.returns-clause-closed
returns-clause-closed c = events.closed client_orders

pub returns-clause-time : goal.returns-clause-time
returns-clause-time c = events.waited client_orders
