use Rattle.server_laws.proofs.Counting.{counted}
use Rattle.server_laws.proofs.messages.messages_are_counted.Goals as goal

pub returns : goal.returns
returns c = counted
