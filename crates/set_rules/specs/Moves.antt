-- What happens between the client and one of the servers: each the event of one node or of both, with all that they put
-- then in flight. A server is named by its place, the first being at 0.
use Rattle.std.specs.Prelude.{ℕ, ◌+◌, zero, suc, false, true, Bool, Option, Some, None, length, slice_index_or, slice_set}
use Rattle.link_rules.specs.declared.notice.Wish.{Wish}
use Rattle.link_rules.specs.declared.notice.Wish.TheVariants as wish
use Rattle.set_rules.specs.State.{Connection, SetState, Slot}
use Rattle.set_rules.specs.Nodes.{Nodes}
use Rattle.set_rules.specs.Slots.{accepted, parted, served, stopped}

-- ---- one server of the set

-- there is one wherever it is asked for
abbrev pub no_slot : {S W : Type 0} → Slot S W
no_slot = record { boot = 0; life = None; position = 0; held = true; given = 0; connection = None }

abbrev pub slot_at : {S C W : Type 0} → ℕ → SetState S C W → Slot S W
slot_at place w = slice_index_or w.slots place no_slot

abbrev pub with_slot : {S C W : Type 0} → ℕ → Slot S W → SetState S C W → SetState S C W
with_slot place s w = record w { slots = slice_set w.slots place s }

abbrev pub in_slot : {S C W : Type 0} → ℕ → (Slot S W → Slot S W) → SetState S C W → SetState S C W
in_slot place change w = with_slot place (change (slot_at place w)) w

module _ {S C W : Type 0} (n : Nodes S C W) where
  -- ---- what the client puts

  -- what it put for a server joins what is in flight there, where a connection stands
  abbrev pub asked_by : Option (Connection W) → W → Slot S W → Slot S W
  asked_by None put s = s
  asked_by (Some c) put s = record s { connection = Some (record c { there = n.joined c.there put }) }

  abbrev pub cleared_by : Option (Connection W) → ℕ → C → C
  cleared_by None server client = client
  cleared_by (Some c) server client = n.cleared server client

  abbrev pub gathered_at : ℕ → SetState S C W → SetState S C W
  gathered_at place w = let s = slot_at place w in
      record (with_slot place (asked_by s.connection (n.asked (place + 1) w.client) s) w) {
        client = cleared_by s.connection (place + 1) w.client;
      }

  -- for the first so many servers
  unfoldable pub gathered_among : ℕ → SetState S C W → SetState S C W
  gathered_among zero w = w
  gathered_among (suc place) w = gathered_at place (gathered_among place w)

  -- an event of the client, after which what it put is in flight, to any of the servers
  abbrev pub client_does : (C → C) → SetState S C W → SetState S C W
  client_does event w = gathered_among (length w.slots) (record w { client = event w.client })

  -- ---- connections

  abbrev pub lost_by : Option (Connection W) → ℕ → SetState S C W → SetState S C W
  lost_by None place w = w
  lost_by (Some c) place w = client_does (n.loses (place + 1)) (in_slot place (parted n) w)

  -- the connection ends for both, and what is in flight on it is lost
  abbrev pub lost : ℕ → SetState S C W → SetState S C W
  lost place w = lost_by (slot_at place w).connection place w

  -- what is in flight to the server still comes to it, and what is in flight from it is lost
  abbrev pub halved : ℕ → SetState S C W → SetState S C W
  halved place w = lost place (in_slot place (served n) w)

  abbrev pub ended_by : Option (Connection W) → ℕ → SetState S C W → SetState S C W
  ended_by None place w = in_slot place stopped w
  ended_by (Some c) place w = client_does (n.loses (place + 1)) (in_slot place stopped w)

  -- the life of a server ends; a client that was connected to it loses the connection
  abbrev pub ended : ℕ → SetState S C W → SetState S C W
  ended place w = ended_by (slot_at place w).connection place w

  abbrev pub dialled_by : Option S → ℕ → SetState S C W → SetState S C W
  dialled_by None place w = client_does (n.is_refused (place + 1)) w
  dialled_by (Some life) place w =
      client_does (n.connects (place + 1)) (in_slot place (λ s. accepted n (parted n s)) w)

  -- the client dials a server, in place of a connection that stood: one that is stopped refuses
  abbrev pub dialled : ℕ → SetState S C W → SetState S C W
  dialled place w = dialled_by (slot_at place w).life place w

  abbrev pub wish_taken : ℕ → SetState S C W → SetState S C W
  wish_taken place w = record w { client = n.wish_taken (place + 1) w.client }

  abbrev pub after_close : Wish → ℕ → SetState S C W → SetState S C W
  after_close wish.Dial place w = dialled place (wish_taken place w)
  after_close wish.None place w = wish_taken place w
  after_close wish.Close place w = wish_taken place w

  -- behind a wish for its end another one may be for the next connection
  abbrev pub closed : ℕ → SetState S C W → SetState S C W
  closed place w = after_close (n.wish (place + 1) w.client) place w

  abbrev pub wished_by : Wish → ℕ → SetState S C W → SetState S C W
  wished_by wish.None place w = wish_taken place w
  wished_by wish.Dial place w = dialled place (wish_taken place w)
  wished_by wish.Close place w = closed place (in_slot place (parted n) (wish_taken place w))

  -- what the client wishes for the connection to a server is done
  abbrev pub wished : ℕ → SetState S C W → SetState S C W
  wished place w = wished_by (n.wish (place + 1) w.client) place w

  -- ---- what is in flight

  abbrev pub learned_by : Option (Connection W) → ℕ → SetState S C W → SetState S C W
  learned_by None place w = w
  learned_by (Some c) place w =
      client_does (n.learns (place + 1) c.back)
      (with_slot place (record (slot_at place w) { connection = Some (record c { back = n.nothing }) }) w)

  -- all that is in flight from a server comes to the client
  abbrev pub learned : ℕ → SetState S C W → SetState S C W
  learned place w = learned_by (slot_at place w).connection place w

  abbrev pub is_left_by : Option S → Option (Connection W) → Bool
  is_left_by None connection = false
  is_left_by (Some life) None = false
  is_left_by (Some life) (Some c) = n.is_closing c.number life

  -- the server is closing the connection
  abbrev pub is_left : Slot S W → Bool
  is_left s = is_left_by s.life s.connection
