-- A server over bytes is shown by one over messages.
use Rattle.std.specs.Prelude.{◌≡◌, ◌⊎◌, ℕ, true, List, map}
use Rattle.ua_channel.specs.State.{WireState, is_deaf}
use Rattle.ua_channel.specs.Arriving.{Chain, Sent, bytes_of}
use Rattle.ua_channel.specs.Sharing.{end_at}
use Rattle.message_ends.specs.Talk.{Talk}
use Rattle.message_ends.specs.Showing.{AllBring, ExpectsIn, Stands}
use Rattle.server_rules.specs.State.{ServerState}
use Rattle.server_rules.specs.Step.{ears}
use Rattle.server_keeps.specs.Fitting.{FitsServer}
use Rattle.server_keeps.specs.Lawful.{HasLimit}
use Rattle.ua_server.specs.State.{BytesState}
use Rattle.server_ends.specs.Matching.{Matches}
use Rattle.server_messages.specs.Fitting.{Brings}

-- the same server, whose state keeps the limits and knows those of its ends; ends that are shown, one for each
-- connection; and messages put that fit where a link hears them. `firsts` says of each end with which number the
-- messages begin that weren't taken
pub record ServerStands (firsts : ℕ → ℕ) (r : BytesState) (t : Talk ServerState) : Type 0 where
  pub stands : Stands FitsServer HasLimit Brings firsts r t
  pub matches : Matches r

-- a connection that is deaf, or whose end awaits this number
abbrev pub Awaits : ℕ → ℕ → BytesState → Type 0
Awaits conn next r = (is_deaf (ears conn r.hub) ≡ true) ⊎ ExpectsIn next (end_at conn r.channels)

-- these bytes are those of these messages, whose chunks are numbered from `first` on and up to `next`, and each of
-- which fits where a link hears it
pub record ArePut (first next : ℕ) (bytes : List ℕ) (wires : List WireState) : Type 0 where
  pub sent : List Sent
  pub wires_are : map (λ m. m.wire) sent ≡ wires
  pub bytes_are : bytes ≡ bytes_of sent
  pub chain : Chain first sent next
  pub brings : AllBring Brings wires
