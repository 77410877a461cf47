use Rattle.ua_chunks.proofs.Making.{dropped, message_made}
use Rattle.ua_chunks.proofs.laws.chunks_make_a_message.Goals as goal

pub returns-clause-message : goal.returns-clause-message
returns-clause-message c = message_made

pub returns-clause-aborted : goal.returns-clause-aborted
returns-clause-aborted c = dropped
