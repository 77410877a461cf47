-- What each event makes of a server over bytes: the rule of the server over whole messages, whose orders the ends obey.
use Rattle.std.specs.Prelude.{ℕ, is_some, List, [], ◌∷◌, if◌then◌else◌}
use Rattle.std.specs.Ordering.{nat_cmp}
use Rattle.std.specs.BTreeMap.{insert_entry, is_at}
use Rattle.std.specs.Map.{remove_entry}
use Rattle.ua_channel.specs.declared.ear.Ear.{Ear}
use Rattle.ua_channel.specs.declared.heard.Heard.{Heard}
use Rattle.ua_channel.specs.declared.wire.Order.{Order}
use Rattle.ua_channel.specs.declared.side.Side.TheVariants as sides
use Rattle.ua_channel.specs.State.{ChannelState, blank_end, new_channel}
use Rattle.ua_channel.specs.Arriving.{Sent, heard_all}
use Rattle.ua_channel.specs.Node.{NodeState, node_of}
use Rattle.ua_channel.specs.Sharing.{Ends, end_at, obeyed_at, obeyed_each, others, own, put_back, taken_at, with_end}
use Rattle.server_rules.specs.Said.{Did, orders_of}
use Rattle.server_rules.specs.Connecting.{is_above}
use Rattle.server_rules.specs.Step.{Feeds, Closes, Levels, Opens, Ticks, after, ears, heard}
use Rattle.ua_server.specs.declared.event.ServerEvent.{ServerEvent}
use Rattle.ua_server.specs.declared.event.ServerEvent.TheVariants as event
use Rattle.ua_server.specs.State.{BytesState}

-- ---- orders

-- what a rule did, with its orders obeyed by these ends
abbrev pub with_ends : Ends → Did → BytesState
with_ends ends did = record { hub = did.state; channels = obeyed_each (orders_of did.said) ends }

-- ---- bytes

-- which frames a connection takes next
abbrev pub rest_ears : ℕ → BytesState → Ear
rest_ears conn s = ears conn s.hub

-- what is heard of a connection changes the server; orders for other connections are obeyed at once
abbrev pub rest_answer : ℕ → Heard → BytesState → BytesState × List Order
rest_answer conn h s = (
  record { hub = (heard conn h s.hub).state; channels = others conn (orders_of (heard conn h s.hub).said) s.channels },
  own conn (orders_of (heard conn h s.hub).said),
)

abbrev pub ends_of : BytesState → Ends
ends_of s = s.channels

abbrev pub put_ends : Ends → BytesState → BytesState
put_ends ends s = record s { channels = ends }

-- bytes that come for a connection, in any pieces
unfoldable pub taken : ℕ → List ℕ → BytesState → BytesState
taken conn bytes s = taken_at (rest_ears conn) (rest_answer conn) ends_of put_ends conn bytes s

-- a connection's end, and all the rest behind it
abbrev pub apart : ℕ → ChannelState → BytesState → NodeState BytesState
apart conn c s = node_of (put_ends (with_end conn blank_end s.channels) s) c

-- messages that come for a connection of this end, whole
abbrev pub heard_on : ℕ → List Sent → ChannelState → BytesState → BytesState
heard_on conn sent c s =
    put_back (rest_ears conn) (rest_answer conn) ends_of put_ends conn
    (heard_all (rest_ears conn) (rest_answer conn) sent (apart conn c s))

-- ---- events

-- a connection has an end from now on
abbrev pub end_opened : ℕ → Ends → Ends
end_opened conn ends =
    if is_some (end_at conn ends) then ends else insert_entry nat_cmp ends conn (new_channel sides.Server)

abbrev pub end_closed : ℕ → Ends → Ends
end_closed conn ends = remove_entry (is_at (nat_cmp conn)) ends

-- a number that isn't above all that were opened before opens nothing
abbrev pub opened_bytes : ℕ → BytesState → BytesState
opened_bytes conn s =
    if is_above s.hub.highest conn then with_ends (end_opened conn s.channels) (after (Opens conn) s.hub) else s

-- one that isn't there can't be closed
abbrev pub closed_bytes : ℕ → BytesState → BytesState
closed_bytes conn s =
    if is_some (end_at conn s.channels) then with_ends (end_closed conn s.channels) (after (Closes conn) s.hub) else s

abbrev pub stepped : ServerEvent → BytesState → BytesState
stepped (event.Opened conn) s = opened_bytes conn s
stepped (event.Bytes conn bytes) s = taken conn bytes s
stepped (event.Closed conn) s = closed_bytes conn s
stepped (event.Feed change) s = with_ends s.channels (after (Feeds change) s.hub)
stepped (event.Tick ms) s = with_ends s.channels (after (Ticks ms) s.hub)
stepped (event.Level level) s = with_ends s.channels (after (Levels level) s.hub)
