-- A server over bytes: the server over whole messages, and the ends of its connections.
use Rattle.std.specs.Prelude.{ℕ, Bool, false, List, [], ◌&&◌, is_some, Option, Some, None}
use Rattle.set_model.specs.declared.source.Change.{Change}
use Rattle.ua_channel.specs.declared.hub.Rest.{Rest}
use Rattle.ua_channel.specs.State.{ChannelState, held_in, is_deaf}
use Rattle.ua_channel.specs.Sharing.{Ends, emptied_by, end_at, out_by, with_end}
use Rattle.server_rules.specs.declared.config.ServerConfig.{ServerConfig}
use Rattle.server_rules.specs.State.{ServerState, new_server}
use Rattle.server_rules.specs.Step.{ears}

-- the server is the hub behind its channels, each of which stands from the moment at which its connection is opened to
-- the moment at which it is closed
abbrev pub BytesState : Type 0
BytesState = Rest ServerState

-- that, and whether memory was refused
pub record Life : Type 0 where
  pub failed : Bool
  pub bytes : BytesState

abbrev pub life_of : BytesState → Life
life_of s = record { failed = false; bytes = s }

-- a life that begins has no connections
abbrev pub new_bytes : ServerConfig → List Change → BytesState
new_bytes config current = record { hub = new_server config current; channels = [] }

-- ---- what is seen of a connection; of one that isn't there, nothing

-- the bytes that weren't taken
abbrev pub out_of : ℕ → BytesState → List ℕ
out_of conn s = out_by (end_at conn s.channels)

-- they are taken
abbrev pub without_out : ℕ → BytesState → BytesState
without_out conn s = record s { channels = emptied_by (end_at conn s.channels) conn s.channels }

-- it is to be closed once they are taken
abbrev pub is_closing : ℕ → BytesState → Bool
is_closing conn s = is_some (end_at conn s.channels) && is_deaf (ears conn s.hub)

abbrev pub held_by : Option ChannelState → ℕ → BytesState → ℕ
held_by None conn s = 0
held_by (Some c) conn s = held_in (ears conn s.hub) c

-- how many bytes are kept of what came and is no whole message
abbrev pub held_of : ℕ → BytesState → ℕ
held_of conn s = held_by (end_at conn s.channels) conn s
