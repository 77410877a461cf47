-- The lives of a server of a set, without their bytes in flight.
use Rattle.std.specs.Prelude.{ℕ, List, map}
use Rattle.ua_base.specs.declared.modes.SetMode.{SetMode}
use Rattle.ua_channel.specs.State.{WireState}
use Rattle.set_histories.specs.Below.{server_config, Accepted, NotedLife}
use Rattle.set_histories.specs.Recording.{RecordedLife}
use Rattle.set_talks.specs.Meetings.{Life}

abbrev pub life_noted : SetMode → ℕ → ℕ → ℕ → NotedLife RecordedLife WireState → Life
life_noted mode servers items number life = record {
  config = server_config mode servers items number life.boot;
  current = life.current;
  happenings = life.node.happenings;
  connections = map (λ (a : Accepted WireState). a.number) life.connections;
}

-- all of these, of one server
abbrev pub lives_noted : SetMode → ℕ → ℕ → ℕ → List (NotedLife RecordedLife WireState) → List Life
lives_noted mode servers items number lives = map (life_noted mode servers items number) lives
