-- Messages that one end put, as they come to the other end.
use Rattle.std.specs.Prelude.{◌≡◌, ◌≤◌, ◌<◌, ◌^◌, ℕ, true, List, [], ◌∷◌, ◌++◌, length, map, None, ◌⊎◌, if◌then◌else◌}
use Rattle.ua_chunks.specs.declared.frame.Kind.{Kind}
use Rattle.ua_chunks.specs.declared.frame.Kind.TheVariants as kind
use Rattle.ua_chunks.specs.Frames.{moved}
use Rattle.ua_chunks.specs.Framing.{IsBetween}
use Rattle.ua_chunks.specs.Assembly.{Assembly, assembled, takes_number, tokens_of, with_number}
use Rattle.ua_chunks.specs.Sending.{IsSending, Sending, with_limits}
use Rattle.ua_chunks.specs.Arrival.{placed}
use Rattle.ua_channel.specs.declared.ear.Ear.{Ear}
use Rattle.ua_channel.specs.declared.heard.Heard.{Heard}
use Rattle.ua_channel.specs.declared.wire.Order.{Order}
use Rattle.ua_channel.specs.declared.wire.Order.TheVariants as order
use Rattle.ua_channel.specs.State.{ChannelState, MayCarry, WireState}
use Rattle.ua_channel.specs.Orders.{after_wire, is_fitting, renewed_for, wire_bytes, wire_parts_by}
use Rattle.ua_channel.specs.Messages.{MessageState, hearing_of}
use Rattle.ua_channel.specs.Node.{NodeState, deaf, node_after, told}

-- ---- a message put

-- with the sender that put it, as it stood before
pub record Sent : Type 0 where
  pub wire : WireState
  pub by : Sending

-- it was put as it says, and wasn't too large
pub record IsSent (m : Sent) : Type 0 where
  pub sending : IsSending m.by
  pub channel : m.wire.channel ≡ m.by.channel
  pub token : m.wire.token ≡ m.by.token
  pub request : m.wire.request < 2 ^ 32
  pub short : MayCarry m.wire.kind (length m.wire.body)
  pub fits : is_fitting m.wire m.by ≡ true

abbrev pub sent_bytes : Sent → List ℕ
sent_bytes m = wire_bytes m.wire m.by

abbrev pub after_sent : Sent → Sending
after_sent m = after_wire m.wire m.by

abbrev pub bytes_of : List Sent → List ℕ
bytes_of [] = []
bytes_of (m ∷ sent) = sent_bytes m ++ bytes_of sent

-- each takes the number after those of the one before: from `first` on, and `next` is the one after all
abbrev pub Chain : ℕ → List Sent → ℕ → Type 0
Chain first [] next = first ≡ next
Chain first (m ∷ sent) next = (m.by.next ≡ first) × IsSent m × Chain (after_sent m).next sent next

-- ---- the end that they come to

-- it awaits this number, stands between two messages, and had no fault
pub record Expects (next : ℕ) (c : ChannelState) : Type 0 where
  pub number : takes_number next c.assembly.last ≡ true
  pub chunks : c.assembly.chunks ≡ 0
  pub body : c.assembly.body ≡ []
  pub fault : c.assembly.fault ≡ None
  pub between : IsBetween c.framing

-- the message is the next one: nothing is said of channel and token, which the end judges
pub record Follows (m : Sent) (c : ChannelState) : Type 0 where
  pub sent : IsSent m
  pub expects : Expects m.by.next c

-- what a message leaves of the assembler: a greeting all, an OPN its number, a MSG or a CLO what its chunks leave
abbrev pub assembly_after : Kind → Sent → ℕ → Assembly → Assembly
assembly_after kind.Hel m place a = a
assembly_after kind.Ack m place a = a
assembly_after kind.Err m place a = a
assembly_after kind.Opn m place a = with_number m.by.next a
assembly_after kind.Msg m place a = assembled (placed place (wire_parts_by kind.Msg m.wire m.by)) a
assembly_after kind.Clo m place a = assembled (placed place (wire_parts_by kind.Clo m.wire m.by)) a

abbrev pub past : Sent → ChannelState → ChannelState
past m c = record c {
  framing = record c.framing { place = moved c.framing.place (length (sent_bytes m)) };
  assembly = assembly_after m.wire.kind m c.framing.place c.assembly;
}

-- an order that an end may be given: a message of numbers of 32 bits that fits, or limits of frames of 8192 bytes
abbrev pub IsLawfulOrder : Order → Sending → Type 0
IsLawfulOrder (order.Put w) s =
    (w.channel < 2 ^ 32) × (w.token < 2 ^ 32) × (w.request < 2 ^ 32) × MayCarry w.kind (length w.body)
    × (is_fitting w s ≡ true)
IsLawfulOrder (order.Limit l) s = 8192 ≤ l.size
IsLawfulOrder (order.Renew channel token) s = Unit {0}

abbrev pub after_order : Order → Sending → Sending
after_order (order.Put w) s = after_wire w (renewed_for w s)
after_order (order.Limit l) s = with_limits l.size l.max_message l.max_chunks s
after_order (order.Renew channel token) s = s

abbrev pub AreLawful : List Order → Sending → Type 0
AreLawful [] s = Unit {0}
AreLawful (o ∷ orders) s = IsLawfulOrder o s × AreLawful orders (after_order o s)

-- what puts on an end, after these orders
abbrev pub after_orders : List Order → Sending → Sending
after_orders [] s = s
after_orders (o ∷ orders) s = after_orders orders (after_order o s)

module _ {C : Type 0} (ears : C → Ear) (answer : Heard → C → C × List Order) where
  -- what is heard of it
  abbrev pub heard_in : Sent → NodeState C → Heard
  heard_in m n = (hearing_of (ears n.core) m.wire (tokens_of n.channel.assembly)).heard

  -- the core hears the message, if the end isn't deaf
  unfoldable pub heard_next : Sent → NodeState C → NodeState C
  heard_next m n =
      if deaf ears answer n then n
      else told ears answer (heard_in m n) (record n { channel = past m n.channel })

  abbrev pub heard_all : List Sent → NodeState C → NodeState C
  heard_all [] n = n
  heard_all (m ∷ sent) n = heard_all sent (heard_next m n)

  -- each of them comes to a deaf end, or is the next one
  abbrev pub Arrive : List Sent → NodeState C → Type 0
  Arrive [] n = Unit {0}
  Arrive (m ∷ sent) n = ((deaf ears answer n ≡ true) ⊎ Follows m n.channel) × Arrive sent (heard_next m n)

-- two ends that differ in what came and is no whole message alone
pub record SameButPart {C : Type 0} (n k : NodeState C) : Type 0 where
  pub core : n.core ≡ k.core
  pub sending : n.channel.sending ≡ k.channel.sending
  pub out : n.channel.out ≡ k.channel.out

module _ {C : Type 0} (ears : C → Ear) (answer : Heard → C → C × List Order) where
  -- of some first bytes of messages the core heard the first of the messages, and nothing else
  pub record HearsFront (front : List ℕ) (sent : List Sent) (n : NodeState C) : Type 0 where
    pub before : List Sent
    pub later : List Sent
    pub are : sent ≡ before ++ later
    pub same : SameButPart (node_after ears answer front n) (heard_all ears answer before n)

-- an end over bytes and one over messages: the same core and tokens, and what was put and not taken is the bytes of the
-- messages, whose numbers go on from `first`
pub record Mirrors {C : Type 0} (first : ℕ) (n : NodeState C) (k : MessageState C) : Type 0 where
  pub core : n.core ≡ k.core
  pub tokens : tokens_of n.channel.assembly ≡ k.tokens
  pub sending : IsSending n.channel.sending
  pub sent : List Sent
  pub wires : map (λ m. m.wire) sent ≡ k.out
  pub bytes : n.channel.out ≡ bytes_of sent
  pub chain : Chain first sent n.channel.sending.next
