use Rattle.server_laws.proofs.Bounding.{bounded_in}
use Rattle.server_laws.proofs.messages.messages_of_lives_are_counted.Goals as goal

pub returns : goal.returns
returns c = bounded_in (record {
  numbers = c.messages_are_numbered.ensures.«data»;
  next = c.messages_are_numbered.ensures.next;
  keeps = c.sent_messages_are_kept.ensures.given;
})
