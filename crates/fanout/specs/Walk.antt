-- Within one `tell`: those before a place were told, and those from there on are still to be told.
use Rattle.std.specs.Prelude.{◌≡◌, ℕ, List, ◌++◌, length}
use Rattle.set_model.specs.declared.line.LogLine.{LogLine}
use Rattle.fanout.specs.declared.hearing.Stopped.{Stopped}
use Rattle.fanout.specs.State.{Attached}
use Rattle.fanout.specs.Calls.{Outcome, Become, staying, stopping}

-- of those that were attached some are done, with these outcomes, and the rest is as it was
pub record IsUnderWay (told : LogLine) (olds : List Attached) (before : List Stopped) (nows : List Attached) (to : List Stopped) (place : ℕ) : Type 0 where
  pub done : List Attached
  pub rest : List Attached
  pub outcomes : List Outcome
  pub olds_are : olds ≡ done ++ rest
  pub nows_are : nows ≡ staying outcomes ++ rest
  pub place_is : place ≡ length (staying outcomes)
  pub become : Become told done outcomes
  pub to_are : to ≡ before ++ stopping outcomes
