use Rattle.ua_chunks.proofs.Putting.{limits_send, new_sends, put_sends, renewed_sends}
use Rattle.ua_chunks.proofs.laws.senders_stay_sound.Goals as goal

pub returns-clause-begin : goal.returns-clause-begin
returns-clause-begin c = new_sends

pub returns-clause-renewed : goal.returns-clause-renewed
returns-clause-renewed c = renewed_sends

pub returns-clause-limits : goal.returns-clause-limits
returns-clause-limits c = limits_send

pub returns-clause-put : goal.returns-clause-put
returns-clause-put c = put_sends
