-- What comes to a server's life is heard on a connection that it accepted and that isn't deaf.
use Rattle.std.specs.Prelude.{◌≡◌, ◌≤◌, ℕ, false, List, [], ◌∷◌}
use Rattle.ua_base.specs.declared.modes.SetMode.{SetMode}
use Rattle.ua_channel.specs.State.{WireState, is_deaf}
use Rattle.server_rules.specs.State.{ServerState, new_server}
use Rattle.server_rules.specs.Acts.{state_after}
use Rattle.server_rules.specs.Step as server
use Rattle.set_histories.specs.Below.{server_config, Accepted, NotedLife}
use Rattle.set_histories.specs.Recording.{RecordedLife}
use Rattle.set_talks.specs.On.{AreOn}

-- each message is heard where its connection isn't deaf; what happened is told newest first
abbrev pub AreHeard : List server.Happening → ServerState → Type 0
AreHeard [] s = Unit {0}
AreHeard (server.Hears conn h ∷ earlier) s = (is_deaf (server.ears conn (state_after earlier s)) ≡ false) × AreHeard earlier s
AreHeard (other ∷ earlier) s = AreHeard earlier s

-- no connection of a higher number was opened, and nothing was heard on one
abbrev pub AreUpTo : ℕ → List server.Happening → Type 0
AreUpTo number [] = Unit {0}
AreUpTo number (server.Opens conn ∷ earlier) = (conn ≤ number) × AreUpTo number earlier
AreUpTo number (server.Hears conn h ∷ earlier) = (conn ≤ number) × AreUpTo number earlier
AreUpTo number (other ∷ earlier) = AreUpTo number earlier

-- one connection after another: when one is opened, and when something is heard on one, none that follows it was opened before
abbrev pub AreInTurn : List server.Happening → Type 0
AreInTurn [] = Unit {0}
AreInTurn (server.Opens conn ∷ earlier) = AreUpTo conn earlier × AreInTurn earlier
AreInTurn (server.Hears conn h ∷ earlier) = AreUpTo conn earlier × AreInTurn earlier
AreInTurn (other ∷ earlier) = AreInTurn earlier

-- the numbers of connections
abbrev pub numbers_of : List (Accepted WireState) → List ℕ
numbers_of [] = []
numbers_of (a ∷ earlier) = a.number ∷ numbers_of earlier

-- a life hears on its own connections alone, on one after another, and on none that is deaf
pub record IsAttentive (mode : SetMode) (servers items number : ℕ) (life : NotedLife RecordedLife WireState) : Type 0 where
  pub heard : AreHeard life.node.happenings (new_server (server_config mode servers items number life.boot) life.current)
  pub on : AreOn (numbers_of life.connections) life.node.happenings
  pub turn : AreInTurn life.node.happenings

-- each of these lives does
abbrev pub AllAttentive : SetMode → ℕ → ℕ → ℕ → List (NotedLife RecordedLife WireState) → Type 0
AllAttentive mode servers items number [] = Unit {0}
AllAttentive mode servers items number (life ∷ earlier) =
    IsAttentive mode servers items number life × AllAttentive mode servers items number earlier
