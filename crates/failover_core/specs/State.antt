-- What a client that fails over remembers between two choices.
use Rattle.std.specs.Prelude.{ℕ, Option}
use Rattle.ua_base.specs.declared.modes.SetMode.{SetMode}

-- how it uses the set, and the server from which it takes its data, if there is one
pub record CoreState : Type 0 where
  pub mode : SetMode
  pub active : Option ℕ
