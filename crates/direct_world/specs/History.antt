-- What the lines of a scenario did to a direct world: the history of the client's log, and the lives of each server.
use Rattle.std.specs.Prelude.{ℕ, List, [], ◌∷◌, Bool}
use Rattle.delivery_log.specs.History.{Act}
use Rattle.scenario.specs.declared.line.Line.{Line}
use Rattle.direct_world.specs.State.{WorldState}
use Rattle.direct_world.specs.Acts.{with_acts}
use Rattle.direct_world.specs.Lives.{Life, first_life, lives_after}
use Rattle.direct_world.specs.World.{after, new_world, step_of}

-- the history, newest first, with the acts of these lines, one after another
abbrev pub with_lines : List Line → WorldState → List Act → List Act
with_lines [] w history = history
with_lines (line ∷ lines) w history = with_lines lines (after line w) (with_acts (step_of line w).acts history)

-- the history of a world of so many servers and items, with queues of this rule and size, over these lines
abbrev pub history_of : ℕ → ℕ → Bool → ℕ → List Line → List Act
history_of servers items oldest size lines = with_lines lines (new_world servers items oldest size) []

-- the lives of a server, the newest first, with what these lines give to them
abbrev pub lives_with : ℕ → List Line → WorldState → List Life → List Life
lives_with server [] w lives = lives
lives_with server (line ∷ lines) w lives =
    lives_with server lines (after line w) (lives_after server (step_of line w).lives lives)

-- the lives of a server of a world as above: the first begins with the set
abbrev pub lives_of : ℕ → ℕ → Bool → ℕ → ℕ → List Line → List Life
lives_of servers items oldest size server lines =
    lives_with server lines (new_world servers items oldest size) (first_life items ∷ [])
