use Rattle.subscription.proofs.Sent.{data_number, next_is, keep_alive_number}
use Rattle.subscription.proofs.laws.messages_are_numbered.Goals as goal

pub returns-clause-data : goal.returns-clause-data
returns-clause-data c = data_number

pub returns-clause-next : goal.returns-clause-next
returns-clause-next c = next_is

pub returns-clause-keep_alive : goal.returns-clause-keep_alive
returns-clause-keep_alive c = keep_alive_number
