use Rattle.ua_server.proofs.Taking.{messages_taken}
use Rattle.ua_server.proofs.laws.bytes_are_messages.Goals as goal

pub returns : goal.returns
returns c = λ conn sent channel s found arrive. messages_taken conn sent channel s found arrive
