use Rattle.ua_chunks.proofs.Leading.{breaks_at, first_fault_is}
use Rattle.ua_chunks.proofs.laws.messages_come_before_a_fault.Goals as goal

pub returns-clause-breaks : goal.returns-clause-breaks
returns-clause-breaks c = breaks_at

pub returns-clause-first : goal.returns-clause-first
returns-clause-first c = first_fault_is
