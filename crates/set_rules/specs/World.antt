-- The world of a set: what each line of a scenario makes of it.
use Rattle.std.specs.Prelude.{ℕ, ◌+◌, zero, suc, false, true, List, [], ◌∷◌, ◌++◌, Option, Some, None, length}
use Rattle.set_model.specs.declared.source.Change.{Change}
use Rattle.direct_world.specs.Server.{place_in}
use Rattle.direct_world.specs.World.{appended}
use Rattle.scenario.specs.declared.line.Line.{Line}
use Rattle.scenario.specs.declared.line.Line.TheVariants as line
use Rattle.set_rules.specs.State.{SetState, Slot}
use Rattle.set_rules.specs.Nodes.{Nodes}
use Rattle.set_rules.specs.Slots.{currents, fed, happens, new_slot, next_boot, started}
use Rattle.set_rules.specs.Moves.{ended, halved, in_slot, lost, slot_at}
use Rattle.set_rules.specs.Rounds.{rounds, ticked}

-- a life of a server by its number, the number of the life, and the items' current values
abbrev pub Beginning : Type 0 → Type 0
Beginning S = ℕ → ℕ → List Change → S

-- the servers of a set that begins
unfoldable pub new_slots : {S W : Type 0} → Beginning S → ℕ → List (Slot S W)
new_slots begins zero = []
new_slots begins (suc count) = new_slots begins count ++ new_slot (begins (count + 1) 1 []) ∷ []

-- a set that begins, with a client that does
abbrev pub new_set : {S C W : Type 0} → Beginning S → ℕ → C → SetState S C W
new_set begins servers client = record { source = []; slots = new_slots begins servers; client = client }

module _ {S C W : Type 0} (n : Nodes S C W) (begins : Beginning S) (items : ℕ) where
  -- the life that a server would begin now, with each item's last change as its current value
  abbrev pub next_life : ℕ → SetState S C W → S
  next_life place w = begins (place + 1) (next_boot (slot_at place w)) (currents items w.source)

  abbrev pub begun : ℕ → SetState S C W → SetState S C W
  begun place w = in_slot place (started (next_life place w) (length w.source)) w

  abbrev pub at_place : Option ℕ → (ℕ → SetState S C W → SetState S C W) → SetState S C W → SetState S C W
  at_place None act w = w
  at_place (Some place) act w = act place w

  -- there is no server of another number
  abbrev pub at_server : ℕ → (ℕ → SetState S C W → SetState S C W) → SetState S C W → SetState S C W
  at_server number act w = at_place (place_in number (length w.slots)) act w

  -- how bytes are cut into pieces makes no difference, and what the other lines say is of no node
  abbrev pub after : Line → SetState S C W → SetState S C W
  after (line.Change change) w = record w { source = appended change w.source }
  after (line.Feed server count) w = at_server server (λ place. in_slot place (fed n count w.source)) w
  after (line.Tick ms) w = ticked n ms w
  after (line.Pass count) w = rounds n count w
  after (line.Level server level) w = at_server server (λ place. in_slot place (happens n (n.levels level))) w
  after (line.Stop server) w = at_server server (ended n) w
  after (line.Start server) w = at_server server begun w
  after (line.Cut server) w = at_server server (lost n) w
  after (line.Half server) w = at_server server (halved n) w
  after (line.Hold server) w = at_server server (λ place. in_slot place (λ s. record s { held = true })) w
  after (line.Free server) w = at_server server (λ place. in_slot place (λ s. record s { held = false })) w
  after _ w = w

  -- these lines, one after another
  abbrev pub after_all : List Line → SetState S C W → SetState S C W
  after_all [] w = w
  after_all (line ∷ lines) w = after_all lines (after line w)
