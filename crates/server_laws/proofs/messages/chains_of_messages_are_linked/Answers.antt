use Rattle.server_laws.proofs.Chaining.{chain_of}
use Rattle.server_laws.proofs.messages.chains_of_messages_are_linked.Goals as goal

pub returns : goal.returns
returns c = chain_of (record {
  linked = c.neighbours_are_linked.ensures.linked;
  ends = c.neighbours_are_linked.ensures.ends;
}) c.ids_rise.ensures (record {
  numbers = c.messages_are_numbered.ensures.«data»;
  next = c.messages_are_numbered.ensures.next;
  keeps = c.sent_messages_are_kept.ensures.given;
})
