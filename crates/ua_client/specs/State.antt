-- A client over bytes: the client over whole messages, and the ends of its servers' connections.
use Rattle.std.specs.Prelude.{ℕ, ◌+◌, zero, suc, Bool, false, List, [], is_some, Option, Some, None, if◌then◌else◌}
use Rattle.std.specs.Ordering.{nat_cmp}
use Rattle.std.specs.BTreeMap.{insert_entry}
use Rattle.ua_channel.specs.declared.hub.Rest.{Rest}
use Rattle.ua_channel.specs.declared.side.Side.TheVariants as sides
use Rattle.ua_channel.specs.State.{ChannelState, held_in, new_channel}
use Rattle.ua_channel.specs.Sharing.{Ends, emptied_by, end_at, out_by, with_end}
use Rattle.link_rules.specs.declared.notice.Wish.{Wish}
use Rattle.link_rules.specs.declared.notice.Wish.TheVariants as wish
use Rattle.link_rules.specs.Step.{wish_of}
use Rattle.client_rules.specs.declared.config.ClientConfig.{ClientConfig}
use Rattle.client_rules.specs.State.{ClientState, is_server, link_of, servers_of}
use Rattle.client_rules.specs.Step.{ears, new_client}
pub use Rattle.client_rules.specs.Step.{without_wish}

-- the client is the hub behind its ends, of which each server has one from the beginning
abbrev pub BytesState : Type 0
BytesState = Rest ClientState

-- that, and whether memory was refused
pub record Life : Type 0 where
  pub failed : Bool
  pub bytes : BytesState

abbrev pub life_of : BytesState → Life
life_of s = record { failed = false; bytes = s }

-- ---- a client that begins

abbrev pub end_opened : ℕ → Ends → Ends
end_opened server ends =
    if is_some (end_at server ends) then ends else insert_entry nat_cmp ends server (new_channel sides.Client)

-- those of the first so many servers
unfoldable pub first_ends : ℕ → Ends
first_ends zero = []
first_ends (suc count) = end_opened (count + 1) (first_ends count)

-- it has dialled
abbrev pub new_bytes : ClientConfig → BytesState
new_bytes config = record { hub = new_client config; channels = first_ends (servers_of config) }

-- ---- what is seen of a server; of one that it doesn't have, nothing

-- the bytes that weren't taken
abbrev pub out_of : ℕ → BytesState → List ℕ
out_of server s = out_by (end_at server s.channels)

-- they are taken
abbrev pub without_out : ℕ → BytesState → BytesState
without_out server s = record s { channels = emptied_by (end_at server s.channels) server s.channels }

abbrev pub held_by : Option ChannelState → ℕ → BytesState → ℕ
held_by None server s = 0
held_by (Some c) server s = held_in (ears server s.hub) c

-- how many bytes are kept of what came and is no whole message
abbrev pub held_of : ℕ → BytesState → ℕ
held_of server s = held_by (end_at server s.channels) server s

-- ---- wishes

-- what it wishes for the connection to a server
abbrev pub wished : ℕ → ClientState → Wish
wished server c = if is_server server c then wish_of (link_of server c) else wish.None
