-- A node over bytes is shown by one over messages.
use Rattle.std.specs.Prelude.{◌≡◌, ℕ, ◌==◌, if◌then◌else◌, List, [], ◌∷◌, map, Option, Some, None}
use Rattle.ua_chunks.specs.Assembly.{tokens_of}
use Rattle.ua_chunks.specs.Sending.{IsSending, limit_of}
use Rattle.ua_channel.specs.declared.hub.Rest.{Rest}
use Rattle.ua_channel.specs.declared.wire.Order.{Order}
use Rattle.ua_channel.specs.declared.wire.Order.TheVariants as order
use Rattle.ua_channel.specs.State.{ChannelState, WireState}
use Rattle.ua_channel.specs.Arriving.{Chain, Expects, Sent, bytes_of}
use Rattle.ua_channel.specs.Sharing.{end_at}
use Rattle.message_ends.specs.Ends.{MessageEnd, out_by}
use Rattle.message_ends.specs.Talk.{Talk}

-- ---- ends

-- the same tokens; and what was put and not taken is the bytes of the messages, whose chunks are numbered from `first` on
pub record EndShows (first : ℕ) (c : ChannelState) (e : MessageEnd) : Type 0 where
  pub tokens : tokens_of c.assembly ≡ e.tokens
  pub sending : IsSending c.sending
  pub sent : List Sent
  pub wires : map (λ m. m.wire) sent ≡ e.out
  pub bytes : c.out ≡ bytes_of sent
  pub chain : Chain first sent c.sending.next

-- both are there, or neither is
abbrev pub ShowsEnd : ℕ → Option ChannelState → Option MessageEnd → Type 0
ShowsEnd first None None = Unit {0}
ShowsEnd first None (Some e) = ⊥
ShowsEnd first (Some c) None = ⊥
ShowsEnd first (Some c) (Some e) = EndShows first c e

-- ---- nodes

-- the same hub, and ends that are shown; the numbers are those with which the messages of each begin
pub record Shows {H : Type 0} (firsts : ℕ → ℕ) (r : Rest H) (t : Talk H) : Type 0 where
  pub hub : r.hub ≡ t.hub
  pub ends : (conn : ℕ) → ShowsEnd (firsts conn) (end_at conn r.channels) (t.ends conn)

-- ---- numbers of chunks

-- the number that the end gives next
abbrev pub next_in : Option ChannelState → ℕ
next_in None = 1
next_in (Some c) = c.sending.next

-- from then on the messages of this connection begin with this number
abbrev pub firsts_with : ℕ → ℕ → (ℕ → ℕ) → ℕ → ℕ
firsts_with conn next firsts k = if k == conn then next else firsts k

-- ---- what comes next

abbrev pub ExpectsIn : ℕ → Option ChannelState → Type 0
ExpectsIn next None = Unit {0}
ExpectsIn next (Some c) = Expects next c

-- ---- what a hub knows of its ends

module _ {H : Type 0} (Limits : ℕ → ℕ → H → Type 0) where
  abbrev pub LimitIn : Option ChannelState → ℕ → H → Type 0
  LimitIn None conn hub = Unit {0}
  LimitIn (Some c) conn hub = Limits conn (limit_of c.sending) hub

-- ---- what is put

module _ (Brings : WireState → Type 0) where
  abbrev pub AllBring : List WireState → Type 0
  AllBring [] = Unit {0}
  AllBring (w ∷ wires) = Brings w × AllBring wires

  abbrev pub OrderBrings : Order → Type 0
  OrderBrings (order.Put w) = Brings w
  OrderBrings (order.Limit l) = Unit {0}
  OrderBrings (order.Renew channel token) = Unit {0}

  abbrev pub OrdersBring : List (ℕ × Order) → Type 0
  OrdersBring [] = Unit {0}
  OrdersBring (o ∷ orders) = OrderBrings o.1 × OrdersBring orders

-- ---- a hub whose ends are shown

-- it keeps to its rules (`Keeps`, where what is heard is as `Fits` says), knows the limits of its ends, and puts messages
-- that are as `Brings` says
module _ {H : Type 0} (Keeps : H → Type 0) (Limits : ℕ → ℕ → H → Type 0) (Brings : WireState → Type 0) where
  pub record Stands (firsts : ℕ → ℕ) (r : Rest H) (t : Talk H) : Type 0 where
    pub shows : Shows firsts r t
    pub keeps : Keeps r.hub
    pub limits : (conn : ℕ) → LimitIn Limits (end_at conn r.channels) conn r.hub
    pub brings : (conn : ℕ) → AllBring Brings (out_by (t.ends conn))
