-- What each event makes of a client over bytes: the rule of the client over whole messages, whose orders the ends obey.
use Rattle.std.specs.Prelude.{ℕ, ◌+◌, zero, suc, Bool, true, List, [], ◌∷◌, length, Option, Some, None, if◌then◌else◌}
use Rattle.ua_channel.specs.declared.ear.Ear.{Ear}
use Rattle.ua_channel.specs.declared.heard.Heard.{Heard}
use Rattle.ua_channel.specs.declared.wire.Order.{Order}
use Rattle.ua_channel.specs.declared.side.Side.TheVariants as sides
use Rattle.ua_channel.specs.State.{ChannelState, blank_end, is_deaf, new_channel}
use Rattle.ua_channel.specs.Arriving.{Sent, heard_all}
use Rattle.ua_channel.specs.Node.{NodeState, node_of}
use Rattle.ua_channel.specs.Sharing.{Ends, end_at, obeyed_at, obeyed_each, others, own, put_back, shut_by, taken_at, with_end}
use Rattle.link_rules.specs.Opening.{begins_anew}
use Rattle.client_rules.specs.State.{ClientState, is_server, link_of}
use Rattle.client_rules.specs.Acts.{Closes, Opens, Refuses, Ticks}
use Rattle.client_rules.specs.Doing.{ClientDid}
use Rattle.client_rules.specs.Dialling.{dialled}
use Rattle.client_rules.specs.Step.{after, ears, heard}
use Rattle.ua_client.specs.declared.event.ClientEvent.{ClientEvent}
use Rattle.ua_client.specs.declared.event.ClientEvent.TheVariants as event
use Rattle.ua_client.specs.State.{BytesState}

-- ---- orders

-- what a rule did, with its orders obeyed by these ends
abbrev pub with_ends : Ends → ClientDid → BytesState
with_ends ends did = record { hub = did.client; channels = obeyed_each did.orders ends }

-- ---- bytes

-- which frames a server's end takes next
abbrev pub rest_ears : ℕ → BytesState → Ear
rest_ears server s = ears server s.hub

-- what is heard of a server changes the client; orders for other servers are obeyed at once
abbrev pub rest_answer : ℕ → Heard → BytesState → BytesState × List Order
rest_answer server h s = (
  record { hub = (heard server h s.hub).client; channels = others server (heard server h s.hub).orders s.channels },
  own server (heard server h s.hub).orders,
)

abbrev pub ends_of : BytesState → Ends
ends_of s = s.channels

abbrev pub put_ends : Ends → BytesState → BytesState
put_ends ends s = record s { channels = ends }

-- bytes that come from a server, in any pieces
unfoldable pub taken : ℕ → List ℕ → BytesState → BytesState
taken server bytes s = taken_at (rest_ears server) (rest_answer server) ends_of put_ends server bytes s

-- a server's end, and all the rest behind it
abbrev pub apart : ℕ → ChannelState → BytesState → NodeState BytesState
apart server c s = node_of (put_ends (with_end server blank_end s.channels) s) c

-- messages that come from a server of this end, whole
abbrev pub heard_on : ℕ → List Sent → ChannelState → BytesState → BytesState
heard_on server sent c s =
    put_back (rest_ears server) (rest_answer server) ends_of put_ends server
    (heard_all (rest_ears server) (rest_answer server) sent (apart server c s))

-- ---- connections

-- with a connection that is opened where none stood a stream begins: what wasn't taken was for one before
abbrev pub end_renewed : ℕ → BytesState → Ends
end_renewed server s =
    if begins_anew (link_of server s.hub) then with_end server (new_channel sides.Client) s.channels else s.channels

abbrev pub opened_bytes : ℕ → BytesState → BytesState
opened_bytes server s = with_ends (end_renewed server s) (after (Opens server) s.hub)

-- ---- the end of an event

-- where nothing is heard of a server nothing is kept of what came from it
abbrev pub shut_at : ℕ → ClientState → Ends → Ends
shut_at server c ends = if is_deaf (ears server c) then shut_by (end_at server ends) server ends else ends

-- each of the first so many servers
unfoldable pub shut_among : ℕ → ClientState → Ends → Ends
shut_among zero c ends = ends
shut_among (suc count) c ends = shut_at (count + 1) c (shut_among count c ends)

-- deaf ends are shut, and the links dial that may
abbrev pub ended : BytesState → BytesState
ended s = record { hub = dialled s.hub; channels = shut_among (length s.hub.links) s.hub s.channels }

-- ---- events

abbrev pub happened : ClientEvent → BytesState → BytesState
happened (event.Opened server) s = opened_bytes server s
happened (event.Refused server) s = with_ends s.channels (after (Refuses server) s.hub)
happened (event.Bytes server bytes) s = taken server bytes s
happened (event.Closed server) s = with_ends s.channels (after (Closes server) s.hub)
happened (event.Tick ms) s = with_ends s.channels (after (Ticks ms) s.hub)

abbrev pub is_of_client : ClientEvent → ClientState → Bool
is_of_client (event.Opened server) c = is_server server c
is_of_client (event.Refused server) c = is_server server c
is_of_client (event.Bytes server bytes) c = is_server server c
is_of_client (event.Closed server) c = is_server server c
is_of_client (event.Tick ms) c = true

-- what comes of a server that it doesn't have is no event
abbrev pub stepped : ClientEvent → BytesState → BytesState
stepped e s = if is_of_client e s.hub then ended (happened e s) else s
