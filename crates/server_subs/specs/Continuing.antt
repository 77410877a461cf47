-- How far a rule of several steps has come.
use Rattle.std.specs.Prelude.{◌≡◌, ℕ, List, ◌++◌}
use Rattle.ua_channel.specs.declared.wire.Order.{Order}
use Rattle.server_rules.specs.Said.{Did, orders_of}

-- what is left to do, with what was said so far, comes to what all does
pub record Continues (rest all : Did) (to before : List (ℕ × Order)) : Type 0 where
  pub state : rest.state ≡ all.state
  pub said : to ++ orders_of rest.said ≡ before ++ orders_of all.said
