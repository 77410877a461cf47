-- The world of a set over whole messages.
use Rattle.std.specs.Prelude.{ℕ, Bool, List}
use Rattle.ua_base.specs.declared.modes.SetMode.{SetMode}
use Rattle.ua_channel.specs.State.{WireState}
use Rattle.scenario.specs.declared.line.Line.{Line}
use Rattle.client_messages.specs.Messages as learning
use Rattle.set_rules.specs.State.{SetState}
use Rattle.set_rules.specs.World.{after_all, new_set}
use Rattle.set_world.specs.Texts.{client_config}
use Rattle.set_messages.specs.Nodes.{Client, Server, beginning, nodes}

abbrev pub MessageSet : Type 0
MessageSet = SetState Server Client (List WireState)

-- a set that begins: how it is used, how many servers and items it has, how long the queues are, and whether they discard
-- the oldest
abbrev pub new_messages : SetMode → ℕ → ℕ → ℕ → Bool → MessageSet
new_messages mode servers items queue oldest =
    new_set (beginning mode servers items) servers (learning.new_talk (client_config mode servers items queue oldest))

-- and after these lines
abbrev pub messages_after : SetMode → ℕ → ℕ → ℕ → Bool → List Line → MessageSet
messages_after mode servers items queue oldest lines =
    after_all nodes (beginning mode servers items) items lines (new_messages mode servers items queue oldest)
