-- All lives of the servers of a set, also those that are over.
use Rattle.std.specs.Prelude.{ℕ, ◌==◌, List, [], ◌∷◌, Option, Some, None, length, if◌then◌else◌}
use Rattle.direct_world.specs.Server.{place_in}
use Rattle.scenario.specs.declared.line.Line.{Line}
use Rattle.scenario.specs.declared.line.Line.TheVariants as line
use Rattle.set_rules.specs.State.{SetState}
use Rattle.set_rules.specs.Nodes.{Nodes}
use Rattle.set_rules.specs.Moves.{slot_at}
use Rattle.set_rules.specs.World.{Beginning, after}

-- a life, where there is one, before earlier ones
abbrev pub before : {S : Type 0} → Option S → List S → List S
before None lives = lives
before (Some life) lives = life ∷ lives

module _ {S C A : Type 0} where
  -- the life of the server at a place is over; the others' lives stay
  abbrev pub over_at : Option ℕ → SetState S C (List A) → (ℕ → List S) → ℕ → List S
  over_at None w lives place = lives place
  over_at (Some here) w lives place = if place == here then before (slot_at here w).life (lives place) else lives place

  -- the lives that are over, by their server's place, newest first: a line ends the life of a server that it stops or starts
  abbrev pub over_by : Line → SetState S C (List A) → (ℕ → List S) → ℕ → List S
  over_by (line.Stop server) w lives = over_at (place_in server (length w.slots)) w lives
  over_by (line.Start server) w lives = over_at (place_in server (length w.slots)) w lives
  over_by other w lives = lives

module _ {S C A : Type 0} (n : Nodes S C (List A)) (begins : Beginning S) (items : ℕ) where
  abbrev pub over_after : List Line → SetState S C (List A) → (ℕ → List S) → ℕ → List S
  over_after [] w lives = lives
  over_after (line ∷ lines) w lives = over_after lines (after n begins items line w) (over_by line w lives)
