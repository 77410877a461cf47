use Rattle.server_laws.proofs.Saying.{repeats_of}
use Rattle.server_laws.proofs.messages.kept_messages_were_sent.Goals as goal

pub returns : goal.returns
returns c = repeats_of (record {
  numbers = c.messages_are_numbered.ensures.«data»;
  next = c.messages_are_numbered.ensures.next;
  keeps = c.sent_messages_are_kept.ensures.given;
})
