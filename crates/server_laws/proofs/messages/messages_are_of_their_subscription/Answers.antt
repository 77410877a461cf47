use Rattle.server_laws.proofs.Saying.{messages_of}
use Rattle.server_laws.proofs.messages.messages_are_of_their_subscription.Goals as goal

pub returns : goal.returns
returns c = messages_of (record {
  numbers = c.messages_are_numbered.ensures.«data»;
  next = c.messages_are_numbered.ensures.next;
  keeps = c.sent_messages_are_kept.ensures.given;
})
