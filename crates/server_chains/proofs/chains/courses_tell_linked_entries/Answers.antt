use Rattle.server_chains.proofs.Lasting.{chains_of}
use Rattle.server_chains.proofs.chains.courses_tell_linked_entries.Goals as goal

pub returns : goal.returns
returns c = chains_of (record {
  streams = record { rises = c.ids_rise.ensures; stops = c.streams_are_of_the_source.ensures.stops };
  linked = c.neighbours_are_linked.ensures.linked;
}) (record {
  numbers = c.messages_are_numbered.ensures.«data»;
  next = c.messages_are_numbered.ensures.next;
  keeps = c.sent_messages_are_kept.ensures.given;
})
