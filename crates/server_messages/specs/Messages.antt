-- A server over whole messages: its rules, and the ends of its connections without bytes, pieces and numbers of chunks.
use Rattle.std.specs.Prelude.{ℕ, Bool, ◌&&◌, is_some, List, Some, None, if◌then◌else◌}
use Rattle.set_model.specs.declared.source.Change.{Change}
use Rattle.ua_channel.specs.declared.heard.Heard.{Heard}
use Rattle.ua_channel.specs.declared.wire.Order.{Order}
use Rattle.ua_channel.specs.State.{WireState, is_deaf}
use Rattle.message_ends.specs.Ends.{MessageEnds, new_end, no_ends, obeyed_each, set_end}
use Rattle.message_ends.specs.Talk.{Talk, heard_all}
use Rattle.server_rules.specs.declared.config.ServerConfig.{ServerConfig}
use Rattle.server_rules.specs.State.{ServerState, new_server}
use Rattle.server_rules.specs.Said.{Did, orders_of}
use Rattle.server_rules.specs.Connecting.{is_above}
use Rattle.server_rules.specs.Step.{Closes, Feeds, Levels, Opens, Ticks, after, ears, heard as hears}

-- what is heard of a connection changes the server, which orders something then
abbrev pub answers : ℕ → Heard → ServerState → ServerState × List (ℕ × Order)
answers conn h s = ((hears conn h s).state, orders_of (hears conn h s).said)

-- a life that begins has no connections
abbrev pub new_talk : ServerConfig → List Change → Talk ServerState
new_talk config current = record { hub = new_server config current; ends = no_ends }

-- what a rule did, with its orders obeyed by these ends
abbrev pub with_ends : MessageEnds → Did → Talk ServerState
with_ends ends did = record { hub = did.state; ends = obeyed_each (orders_of did.said) ends }

-- ---- events

-- a connection has an end from now on
abbrev pub end_opened : ℕ → MessageEnds → MessageEnds
end_opened conn ends = if is_some (ends conn) then ends else set_end conn (Some new_end) ends

abbrev pub end_closed : ℕ → MessageEnds → MessageEnds
end_closed conn ends = set_end conn None ends

-- a number that isn't above all that were opened before opens nothing
abbrev pub opened : ℕ → Talk ServerState → Talk ServerState
opened conn t = if is_above t.hub.highest conn then with_ends (end_opened conn t.ends) (after (Opens conn) t.hub) else t

-- one that isn't there can't be closed
abbrev pub closed : ℕ → Talk ServerState → Talk ServerState
closed conn t = if is_some (t.ends conn) then with_ends (end_closed conn t.ends) (after (Closes conn) t.hub) else t

-- messages come on a connection, one after another
abbrev pub heard : ℕ → List WireState → Talk ServerState → Talk ServerState
heard conn wires t = heard_all ears answers conn wires t

-- an item's value changes; so many milliseconds go by; the ServiceLevel is set
abbrev pub fed : Change → Talk ServerState → Talk ServerState
fed change t = with_ends t.ends (after (Feeds change) t.hub)

abbrev pub ticked : ℕ → Talk ServerState → Talk ServerState
ticked ms t = with_ends t.ends (after (Ticks ms) t.hub)

abbrev pub leveled : ℕ → Talk ServerState → Talk ServerState
leveled level t = with_ends t.ends (after (Levels level) t.hub)

-- ---- what is seen of a connection

-- it is to be closed once what was put is taken
abbrev pub is_closing : ℕ → Talk ServerState → Bool
is_closing conn t = is_some (t.ends conn) && is_deaf (ears conn t.hub)
