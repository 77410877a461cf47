-- One server of a set: what happens to its life, and what becomes of its connection.
use Rattle.std.specs.Prelude.{ℕ, ◌+◌, ◌^◌, ◌-◌, min, zero, suc, false, List, [], ◌∷◌, ◌++◌, take, drop, Option, Some, None, length}
use Rattle.set_model.specs.declared.source.Change.{Change}
use Rattle.set_model.specs.Source.{last_of}
use Rattle.set_rules.specs.State.{Connection, Slot}
use Rattle.set_rules.specs.Nodes.{Nodes}

-- ---- current values

abbrev pub current_of : Option Change → List Change
current_of None = []
current_of (Some change) = change ∷ []

-- the last change of each of the first so many items that has one
unfoldable pub currents : ℕ → List Change → List Change
currents zero source = []
currents (suc count) source = currents count source ++ current_of (last_of (count + 1) source)

module _ {S C W : Type 0} (n : Nodes S C W) where
  -- ---- what the life puts

  -- what it put for the connection that stands joins what is in flight to the client
  abbrev pub collected_by : Option S → Option (Connection W) → Slot S W → Slot S W
  collected_by None connection s = s
  collected_by (Some life) None s = s
  collected_by (Some life) (Some c) s = record s {
    life = Some (n.emptied c.number life);
    connection = Some (record c { back = n.joined c.back (n.answered c.number life) });
  }

  abbrev pub collected : Slot S W → Slot S W
  collected s = collected_by s.life s.connection s

  -- ---- what happens to it

  abbrev pub happens_by : Option S → (S → S) → Slot S W → Slot S W
  happens_by None event s = s
  happens_by (Some life) event s = collected (record s { life = Some (event life) })

  -- an event of the life; a server that is stopped has none
  abbrev pub happens : (S → S) → Slot S W → Slot S W
  happens event s = happens_by s.life event s

  -- it is fed these changes, one after another
  abbrev pub fed_all : List Change → Slot S W → Slot S W
  fed_all [] s = s
  fed_all (change ∷ changes) s = fed_all changes (happens (n.feeds change) s)

  -- and they are behind it
  abbrev pub fed_with : List Change → Slot S W → Slot S W
  fed_with changes s = record (fed_all changes s) { position = s.position + length changes }

  -- the next changes of the source, up to so many
  abbrev pub fed : ℕ → List Change → Slot S W → Slot S W
  fed count source s = fed_with (take count (drop s.position source)) s

  -- ---- its connection

  -- connections have numbers of 32 bits, each life its own
  abbrev pub next_number : Slot S W → ℕ
  next_number s = min (s.given + 1) (2 ^ 32 - 1)

  -- a connection begins, with nothing in flight
  abbrev pub connected : ℕ → Slot S W → Slot S W
  connected number s = record s {
    given = number;
    connection = Some (record { number = number; there = n.nothing; back = n.nothing });
  }

  abbrev pub accepted : Slot S W → Slot S W
  accepted s = happens (n.accepts (next_number s)) (connected (next_number s) s)

  abbrev pub parted_by : Option (Connection W) → Slot S W → Slot S W
  parted_by None s = s
  parted_by (Some c) s = happens (n.ends c.number) (record s { connection = None })

  -- the connection ends, and what is in flight on it is lost
  abbrev pub parted : Slot S W → Slot S W
  parted s = parted_by s.connection s

  abbrev pub served_by : Option (Connection W) → Slot S W → Slot S W
  served_by None s = s
  served_by (Some c) s =
      happens (n.hears c.number c.there) (record s { connection = Some (record c { there = n.nothing }) })

  -- all that is in flight to the server comes to it
  abbrev pub served : Slot S W → Slot S W
  served s = served_by s.connection s

module _ {S W : Type 0} where
  -- ---- its lives

  -- the set begins, and with it this life
  abbrev pub new_slot : S → Slot S W
  new_slot life = record {
    boot = 1;
    life = Some life;
    position = 0;
    held = false;
    given = 0;
    connection = None;
  }

  -- the life ends with its connection
  abbrev pub stopped : Slot S W → Slot S W
  stopped s = record s { life = None; connection = None }

  abbrev pub next_boot : Slot S W → ℕ
  next_boot s = min (s.boot + 1) (2 ^ 16 - 1)

  -- the next life begins at the end of the source; nobody is connected to it
  abbrev pub started : S → ℕ → Slot S W → Slot S W
  started life position s = record s {
    boot = next_boot s;
    life = Some life;
    position = position;
    given = 0;
    connection = None;
  }
