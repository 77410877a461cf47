use Rattle.ua_client.proofs.Taking.{messages_taken}
use Rattle.ua_client.proofs.laws.bytes_are_messages.Goals as goal

pub returns : goal.returns
returns c = λ server sent channel s e arrive. messages_taken server sent channel s e arrive
