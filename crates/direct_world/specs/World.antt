-- The world of direct servers, line by line: each line is a step, which says what it makes of the source and the
-- servers and what it does; the client's log is what the steps' acts make of it.
use Rattle.std.specs.Prelude.{ℕ, ◌+◌, List, [], ◌∷◌, ◌++◌, Bool, true, false, Option, Some, None, length, replicate, nat_le, if◌then◌else◌, slice_index_or, slice_set}
use Rattle.set_model.specs.declared.source.Change.{Change}
use Rattle.set_model.specs.declared.source.SourceFault.{SourceFault}
use Rattle.set_model.specs.Source.{refusal}
use Rattle.delivery_log.specs.History.{Act}
use Rattle.delivery_log.specs.Log.{new_log}
use Rattle.scenario.specs.declared.line.Line.{Line}
use Rattle.scenario.specs.declared.line.Line.TheVariants as line
use Rattle.direct_world.specs.State.{ServerState, WorldState}
use Rattle.direct_world.specs.Acts.{after_acts, reopening, taking}
use Rattle.direct_world.specs.Lives.{LifeAct, Begins, feeding}
use Rattle.direct_world.specs.Server.{place_in, new_server, next_of, fed, stopped, started, next_boot, values_of, left_after}

-- what a line comes to: the source and the servers after it, what it does to the client's log, and what it gives to the
-- servers' lives
pub record Step : Type 0 where
  pub source : List Change
  pub servers : List ServerState
  pub acts : List Act
  pub lives : List LifeAct

-- nothing happens
abbrev pub rest : WorldState → Step
rest w = record { source = w.source; servers = w.servers; acts = []; lives = [] }

abbrev pub appended_unless : Option SourceFault → Change → List Change → List Change
appended_unless None change source = source ++ change ∷ []
appended_unless (Some fault) change source = source

-- the source with one change more, unless it can't be one of it; in a valid scenario each can
abbrev pub appended : Change → List Change → List Change
appended change source =
    if nat_le change.pico 9999 then appended_unless (refusal source change) change source else source

-- the server of a place; there is one wherever it is asked for
abbrev pub server_at : ℕ → List ServerState → ServerState
server_at place servers = slice_index_or servers place (new_server 0 true 2)

-- a server that runs is fed these changes
abbrev pub fed_if : Bool → ℕ → List Change → ServerState → WorldState → Step
fed_if false place changes server w = rest w
fed_if true place changes server w = record (rest w) {
  servers = slice_set w.servers place (fed changes server);
  lives = feeding (place + 1) changes;
}

-- the client takes from a server that runs, up to so many of each item
abbrev pub taken_if : Bool → ℕ → ℕ → ServerState → WorldState → Step
taken_if false place count server w = rest w
taken_if true place count server w = record (rest w) {
  servers = slice_set w.servers place (record server { queues = left_after count server.queues });
  acts = taking (place + 1) 1 count server.queues;
}

abbrev pub fed_at : ℕ → ℕ → WorldState → Step
fed_at count place w =
    let server = server_at place w.servers in fed_if server.running place (next_of count w.source server) server w

abbrev pub taken_at : ℕ → ℕ → WorldState → Step
taken_at count place w = let server = server_at place w.servers in taken_if server.running place count server w

abbrev pub stopped_at : ℕ → WorldState → Step
stopped_at place w = record (rest w) { servers = slice_set w.servers place (stopped (server_at place w.servers)) }

-- a new life of the server, and new joints for its items
abbrev pub started_at : ℕ → WorldState → Step
started_at place w = let server = server_at place w.servers in record (rest w) {
  servers = slice_set w.servers place (started w.source server);
  acts = reopening (place + 1);
  lives = Begins (place + 1) (next_boot server.boot) (values_of w.source server) ∷ [];
}

abbrev pub at_place : Option ℕ → (ℕ → WorldState → Step) → WorldState → Step
at_place None act w = rest w
at_place (Some place) act w = act place w

-- what a line does to the server that it names; there is none of another number
abbrev pub at_server : ℕ → (ℕ → WorldState → Step) → WorldState → Step
at_server number act w = at_place (place_in number (length w.servers)) act w

-- the step of a line; one that says nothing of direct servers changes nothing
abbrev pub step_of : Line → WorldState → Step
step_of (line.Change change) w = record (rest w) { source = appended change w.source }
step_of (line.Feed server count) w = at_server server (fed_at count) w
step_of (line.Take server count) w = at_server server (taken_at count) w
step_of (line.Stop server) w = at_server server stopped_at w
step_of (line.Start server) w = at_server server started_at w
step_of _ w = rest w

-- the world after a step: the log is what the acts make of it
abbrev pub after_step : Step → WorldState → WorldState
after_step step w = record w { source = step.source; servers = step.servers; log = after_acts step.acts w.log }

-- the world after a line
abbrev pub after : Line → WorldState → WorldState
after line w = after_step (step_of line w) w

-- the world of so many servers and items, with queues of this rule and size, when the set begins
abbrev pub new_world : ℕ → ℕ → Bool → ℕ → WorldState
new_world servers items oldest size = record {
  source = [];
  servers = replicate servers (new_server items oldest size);
  log = new_log servers items;
  failed = false;
}

-- the world after these lines
abbrev pub after_all : List Line → WorldState → WorldState
after_all [] w = w
after_all (line ∷ lines) w = after_all lines (after line w)

-- what these lines make of a world of so many servers and items, with queues of this rule and size
abbrev pub world_of : ℕ → ℕ → Bool → ℕ → List Line → WorldState
world_of servers items oldest size lines = after_all lines (new_world servers items oldest size)
