-- A client over whole messages: the client behind the ends of its servers' connections, with no bytes, no pieces and no
-- numbers of chunks.
use Rattle.std.specs.Prelude.{ℕ, ◌&&◌, nat_le, List, Option, Some, None, if◌then◌else◌}
use Rattle.ua_channel.specs.declared.heard.Heard.{Heard}
use Rattle.ua_channel.specs.declared.wire.Order.{Order}
use Rattle.ua_channel.specs.State.{WireState, is_deaf}
use Rattle.link_rules.specs.Opening.{begins_anew}
use Rattle.client_rules.specs.declared.config.ClientConfig.{ClientConfig}
use Rattle.client_rules.specs.State.{ClientState, is_server, link_of, servers_of}
use Rattle.client_rules.specs.Acts.{Closes, Opens, Refuses, Ticks}
use Rattle.client_rules.specs.Doing.{ClientDid}
use Rattle.client_rules.specs.Dialling.{dialled}
use Rattle.client_rules.specs.Step.{after, ears, heard, new_client}
use Rattle.ua_client.specs.State.{without_wish}
use Rattle.message_ends.specs.Ends.{MessageEnd, MessageEnds, new_end, obeyed_each, set_end}
use Rattle.message_ends.specs.Talk.{Talk, heard_all, settled_by}

-- the client is the hub behind its ends
abbrev pub MessagesState : Type 0
MessagesState = Talk ClientState

-- what is heard of a server changes the client, and it orders something
abbrev pub answers : ℕ → Heard → ClientState → ClientState × List (ℕ × Order)
answers server h c = ((heard server h c).client, (heard server h c).orders)

-- ---- a client that begins

-- each of the first so many servers has an end
abbrev pub first_ends : ℕ → MessageEnds
first_ends count server = if nat_le 1 server && nat_le server count then Some new_end else None

-- it has dialled
abbrev pub new_talk : ClientConfig → MessagesState
new_talk config = record { hub = new_client config; ends = first_ends (servers_of config) }

-- ---- orders

-- what a rule did, with its orders obeyed by these ends
abbrev pub with_ends : MessageEnds → ClientDid → MessagesState
with_ends ends did = record { hub = did.client; ends = obeyed_each did.orders ends }

-- ---- connections

-- an end that is there is a new one
abbrev pub renewed_by : Option MessageEnd → Option MessageEnd
renewed_by None = None
renewed_by (Some e) = Some new_end

-- with a connection that is opened where none stood messages begin: what wasn't taken was for one before
abbrev pub end_renewed : ℕ → MessagesState → MessageEnds
end_renewed server t =
    if begins_anew (link_of server t.hub) then set_end server (renewed_by (t.ends server)) t.ends else t.ends

-- the client hears of it, and all ends obey
abbrev pub opened : ℕ → MessagesState → MessagesState
opened server t = with_ends (end_renewed server t) (after (Opens server) t.hub)

-- none could be made
abbrev pub refused : ℕ → MessagesState → MessagesState
refused server t = with_ends t.ends (after (Refuses server) t.hub)

-- one ended
abbrev pub closed : ℕ → MessagesState → MessagesState
closed server t = with_ends t.ends (after (Closes server) t.hub)

-- ---- messages and time

-- messages come from a server, one after another
abbrev pub heard_of : ℕ → List WireState → MessagesState → MessagesState
heard_of server wires t = heard_all ears answers server wires t

-- milliseconds go by
abbrev pub waited : ℕ → MessagesState → MessagesState
waited ms t = with_ends t.ends (after (Ticks ms) t.hub)

-- ---- the end of an event

-- where nothing is heard of a server nothing is taken any more
abbrev pub shut : ClientState → MessageEnds → MessageEnds
shut c ends server =
    if is_server server c && is_deaf (ears server c) then settled_by ears answers (ends server) else ends server

-- deaf ends take nothing, and the links dial that may
abbrev pub ended : MessagesState → MessagesState
ended t = record { hub = dialled t.hub; ends = shut t.hub t.ends }

-- ---- events: what comes of a server that it doesn't have is none

-- a connection to a server was made
abbrev pub connects : ℕ → MessagesState → MessagesState
connects server t = if is_server server t.hub then ended (opened server t) else t

-- none could be made
abbrev pub is_refused : ℕ → MessagesState → MessagesState
is_refused server t = if is_server server t.hub then ended (refused server t) else t

-- messages came from a server
abbrev pub hears : ℕ → List WireState → MessagesState → MessagesState
hears server wires t = if is_server server t.hub then ended (heard_of server wires t) else t

-- a connection ended
abbrev pub closes : ℕ → MessagesState → MessagesState
closes server t = if is_server server t.hub then ended (closed server t) else t

-- time went by
abbrev pub waits : ℕ → MessagesState → MessagesState
waits ms t = ended (waited ms t)

-- ---- wishes

-- what it wishes for the connection to a server is taken
abbrev pub without_wish_of : ℕ → MessagesState → MessagesState
without_wish_of server t = record t { hub = without_wish server t.hub }
