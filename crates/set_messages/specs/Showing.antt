-- A set over bytes is shown by one over messages.
use Rattle.std.specs.Prelude.{◌≡◌, ◌≤◌, ℕ, ◌+◌, List, [], ◌∷◌, map, length, Option, Some, None}
use Rattle.ua_channel.specs.State.{WireState}
use Rattle.ua_channel.specs.Arriving.{Chain, Sent, bytes_of}
use Rattle.scenario.specs.declared.line.Line.{Line}
use Rattle.scenario.specs.declared.line.Line.TheVariants as line
use Rattle.ua_server.specs.State as server
use Rattle.set_rules.specs.State.{Connection, Slot}
use Rattle.set_rules.specs.Moves.{slot_at}
use Rattle.set_world.specs.Bytes.{ByteSlot}
use Rattle.set_world.specs.State.{ByteSet}
use Rattle.set_messages.specs.Nodes.{Server}
use Rattle.set_messages.specs.World.{MessageSet}

-- ---- what is in flight

-- these bytes are the written messages, framed one after another: their chunks are numbered from the first on
pub record AreBytesOf (bytes : List ℕ) (wires : List WireState) : Type 0 where
  pub first : ℕ
  pub next : ℕ
  pub sent : List Sent
  pub wires_are : map (λ m. m.wire) sent ≡ wires
  pub bytes_are : bytes ≡ bytes_of sent
  pub chain : Chain first sent next

-- the connection of the same number, with the same messages in flight in each direction
pub record ConnectionShows (c : Connection (List ℕ)) (d : Connection (List WireState)) : Type 0 where
  pub number : c.number ≡ d.number
  pub there : AreBytesOf c.there d.there
  pub back : AreBytesOf c.back d.back

-- both have one, or neither has
abbrev pub ShowsConnection : Option (Connection (List ℕ)) → Option (Connection (List WireState)) → Type 0
ShowsConnection None None = Unit {0}
ShowsConnection None (Some d) = ⊥
ShowsConnection (Some c) None = ⊥
ShowsConnection (Some c) (Some d) = ConnectionShows c d

-- ---- a server, and a set

-- the same server behind its connections, where it runs
abbrev pub ShowsLife : Option server.BytesState → Option Server → Type 0
ShowsLife None None = Unit {0}
ShowsLife None (Some t) = ⊥
ShowsLife (Some r) None = ⊥
ShowsLife (Some r) (Some t) = r.hub ≡ t.hub

pub record SlotIsShown (s : ByteSlot) (z : Slot Server (List WireState)) : Type 0 where
  pub boot : s.boot ≡ z.boot
  pub position : s.position ≡ z.position
  pub held : s.held ≡ z.held
  pub given : s.given ≡ z.given
  pub life : ShowsLife s.life z.life
  pub connection : ShowsConnection s.connection z.connection

-- the same source, servers and client, and so the same log; and the same messages in flight
pub record SetIsShown (b : ByteSet) (m : MessageSet) : Type 0 where
  pub source : b.source ≡ m.source
  pub client : b.client.hub ≡ m.client.hub
  pub count : length b.slots ≡ length m.slots
  pub slots : (place : ℕ) → place + 1 ≤ length b.slots → SlotIsShown (slot_at place b) (slot_at place m)

-- ---- lines without those that say how bytes are cut

abbrev pub without_pieces : List Line → List Line
without_pieces [] = []
without_pieces (line.Piece bytes ∷ lines) = without_pieces lines
without_pieces (line ∷ lines) = line ∷ without_pieces lines
