use Rattle.client_messages.proofs.Awaiting as awaiting
use Rattle.client_messages.proofs.Hearing as hearing
use Rattle.client_messages.proofs.Ordering.{client_orders}
use Rattle.client_messages.proofs.Taking as taking
use Rattle.client_messages.proofs.laws.bytes_are_awaited.Goals as goal

pub returns-clause-next : goal.returns-clause-next
returns-clause-next c = hearing.heard_expects client_orders

pub returns-clause-beside : goal.returns-clause-beside
returns-clause-beside c = awaiting.beside_expects

pub returns-clause-opened : goal.returns-clause-opened
returns-clause-opened c = awaiting.opened_expects

pub returns-clause-standing : goal.returns-clause-standing
returns-clause-standing c = awaiting.standing_expects

pub returns-clause-taken : goal.returns-clause-taken
returns-clause-taken c = taking.out_expects
