-- The world of a set in any mode.
use Rattle.std.specs.Prelude.{ℕ, Bool, List, [], ◌∷◌}
use Rattle.ua_base.specs.declared.modes.SetMode.{SetMode}
use Rattle.ua_base.specs.declared.modes.SetMode.TheVariants.{Direct, Hot, Warm, Cold}
use Rattle.set_model.specs.declared.line.LogLine.{LogLine}
use Rattle.scenario.specs.declared.line.Line.{Line}
use Rattle.direct_world.specs.World as direct
use Rattle.set_world.specs.declared.world.World.{World}
use Rattle.set_world.specs.declared.world.World.TheVariants as world
use Rattle.set_world.specs.Flight.{flight_of}
use Rattle.set_world.specs.State as bytes

-- one that begins: how the set is used, how many servers and items it has, how long the queues are, and whether a full one
-- discards its oldest value
abbrev pub world_of : SetMode → ℕ → ℕ → ℕ → Bool → World
world_of Direct servers items queue oldest = world.Direct (direct.new_world servers items oldest queue)
world_of Hot servers items queue oldest = world.Redundant (bytes.new_world Hot servers items queue oldest)
world_of Warm servers items queue oldest = world.Redundant (bytes.new_world Warm servers items queue oldest)
world_of Cold servers items queue oldest = world.Redundant (bytes.new_world Cold servers items queue oldest)

-- after a line
abbrev pub taken : Line → World → World
taken line (world.Direct w) = world.Direct (direct.after line w)
taken line (world.Redundant w) = world.Redundant (bytes.world_after line w)

-- after these lines, one after another
abbrev pub all_taken : List Line → World → World
all_taken [] w = w
all_taken (line ∷ lines) w = all_taken lines (taken line w)

-- the client's log
abbrev pub lines_of : World → List LogLine
lines_of (world.Direct w) = w.log.lines
lines_of (world.Redundant w) = w.set.client.hub.log.lines

-- what is in flight to a server, or from it: nothing in a direct set
abbrev pub flight_in : ℕ → Bool → World → List ℕ
flight_in server to_server (world.Direct w) = []
flight_in server to_server (world.Redundant w) = flight_of [] server to_server w.set

-- memory was refused
abbrev pub has_failed : World → Bool
has_failed (world.Direct w) = w.failed
has_failed (world.Redundant w) = w.failed
