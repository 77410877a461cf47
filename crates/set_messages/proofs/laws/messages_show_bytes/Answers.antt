use Rattle.set_rules.specs.World.{after_all}
use Rattle.set_world.specs.Bytes.{beginning, nodes}
use Rattle.set_world.specs.State.{new_world}
use Rattle.set_messages.specs.World.{messages_after}
use Rattle.set_messages.proofs.ServerFacts.{server_laws}
use Rattle.set_messages.proofs.Whole.{known_new, seen, shown, wire}
use Rattle.set_messages.proofs.laws.messages_show_bytes.Goals as goal

pub returns-clause-shown : goal.returns-clause-shown
returns-clause-shown c = λ mode servers items queue oldest lines few some long fits.
    seen servers (after_all nodes (beginning mode servers items) items lines (new_world mode servers items queue oldest).set)
    (messages_after mode servers items queue oldest lines)
    (shown (server_laws (record {
      begins = c.messages_show_bytes.ensures.begins;
      opened = c.messages_show_bytes.ensures.opened;
      closed = c.messages_show_bytes.ensures.closed;
      fed = c.messages_show_bytes.ensures.fed;
      ticked = c.messages_show_bytes.ensures.ticked;
      leveled = c.messages_show_bytes.ensures.leveled;
      shown = c.messages_show_what_comes.ensures.shown;
      awaits = c.messages_show_what_comes.ensures.awaits;
      deaf = c.what_comes_is_awaited_still.ensures.deaf;
    })) mode servers items queue oldest few some long lines fits (known_new mode servers items queue oldest))

pub returns-clause-wire : goal.returns-clause-wire
returns-clause-wire c = λ mode servers items queue oldest lines few some long fits server to_server.
    wire server to_server (after_all nodes (beginning mode servers items) items lines (new_world mode servers items queue oldest).set)
    (messages_after mode servers items queue oldest lines)
    (seen servers (after_all nodes (beginning mode servers items) items lines (new_world mode servers items queue oldest).set)
    (messages_after mode servers items queue oldest lines)
    (shown (server_laws (record {
      begins = c.messages_show_bytes.ensures.begins;
      opened = c.messages_show_bytes.ensures.opened;
      closed = c.messages_show_bytes.ensures.closed;
      fed = c.messages_show_bytes.ensures.fed;
      ticked = c.messages_show_bytes.ensures.ticked;
      leveled = c.messages_show_bytes.ensures.leveled;
      shown = c.messages_show_what_comes.ensures.shown;
      awaits = c.messages_show_what_comes.ensures.awaits;
      deaf = c.what_comes_is_awaited_still.ensures.deaf;
    })) mode servers items queue oldest few some long lines fits (known_new mode servers items queue oldest)))
