use Rattle.ua_client.specs.declared.event.ClientEvent.TheVariants as event
use Rattle.ua_client.proofs.Strangers.{no_event}
use Rattle.ua_client.proofs.laws.others_are_nothing.Goals as goal

pub returns-clause-opened : goal.returns-clause-opened
returns-clause-opened c = λ server s e. no_event (event.Opened server) s e

pub returns-clause-refused : goal.returns-clause-refused
returns-clause-refused c = λ server s e. no_event (event.Refused server) s e

pub returns-clause-bytes : goal.returns-clause-bytes
returns-clause-bytes c = λ server bytes s e. no_event (event.Bytes server bytes) s e

pub returns-clause-closed : goal.returns-clause-closed
returns-clause-closed c = λ server s e. no_event (event.Closed server) s e
