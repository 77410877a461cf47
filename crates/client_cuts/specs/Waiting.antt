-- Bytes for a server that wait to be taken.
use Rattle.std.specs.Prelude.{◌≢◌, ℕ, List, ◌++◌, Option, Some, None}
use Rattle.ua_channel.specs.State.{ChannelState}
use Rattle.ua_channel.specs.Sharing.{Ends, end_at, with_end}
use Rattle.ua_client.specs.declared.event.ClientEvent.{ClientEvent}
use Rattle.ua_client.specs.declared.event.ClientEvent.TheVariants as event
use Rattle.ua_client.specs.State.{BytesState}

abbrev pub waiting_by : Option ChannelState → ℕ → List ℕ → Ends → Ends
waiting_by None server bytes ends = ends
waiting_by (Some c) server bytes ends = with_end server (record c { out = bytes ++ c.out }) ends

-- a client for whose server these bytes wait before the others
abbrev pub with_waiting : ℕ → List ℕ → BytesState → BytesState
with_waiting server bytes s = record s { channels = waiting_by (end_at server s.channels) server bytes s.channels }

-- no connection to this server is opened, with which its stream begins
abbrev pub IsNoOpening : ℕ → ClientEvent → Type 0
IsNoOpening server (event.Opened other) = server ≢ other
IsNoOpening server (event.Refused other) = Unit {0}
IsNoOpening server (event.Bytes other bytes) = Unit {0}
IsNoOpening server (event.Closed other) = Unit {0}
IsNoOpening server (event.Tick ms) = Unit {0}
