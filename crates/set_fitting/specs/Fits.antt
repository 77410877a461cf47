-- All that happens in a set fits the wire.
use Rattle.std.specs.Prelude.{ℕ, List, [], ◌∷◌}
use Rattle.std.specs.List.{AllByRecursion}
use Rattle.ua_base.specs.declared.modes.SetMode.{SetMode}
use Rattle.ua_channel.specs.State.{WireState}
use Rattle.server_keeps.specs.Fitting.{FitsChange, FitsConfig, FitsHappening}
use Rattle.set_histories.specs.Below.{server_config, NotedLife}
use Rattle.set_histories.specs.Recording.{RecordedLife}

-- a life of a server begins with a config and current values that fit, and all that happens to it does
pub record LifeFits (mode : SetMode) (servers items number : ℕ) (life : NotedLife RecordedLife WireState) : Type 0 where
  pub config : FitsConfig (server_config mode servers items number life.boot)
  pub current : AllByRecursion FitsChange life.current
  pub happenings : AllByRecursion FitsHappening life.node.happenings

-- each of these lives of one server does
abbrev pub AllFit : SetMode → ℕ → ℕ → ℕ → List (NotedLife RecordedLife WireState) → Type 0
AllFit mode servers items number [] = Unit {0}
AllFit mode servers items number (life ∷ earlier) =
    LifeFits mode servers items number life × AllFit mode servers items number earlier
