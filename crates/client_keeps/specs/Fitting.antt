-- What keeps the limits: what a client begins with, what happens to it, and what it does.
use Rattle.std.specs.Prelude.{◌≤◌, ◌<◌, ◌^◌, ℕ, List, length, Option, IfSome, FitsSigned}
use Rattle.std.specs.List.{AllByRecursion}
use Rattle.std.specs.Int.{w64}
use Rattle.link_keeps.specs.Fitting.{FitsHeard, FitsLink, IsUInt32, KeepsSaid}
use Rattle.client_rules.specs.declared.config.ClientConfig.{ClientConfig}
use Rattle.client_rules.specs.State.{ClientState}
use Rattle.client_rules.specs.Acts.{ClientAct, Happening, Happened, Tells, Says, Switches, Opens, Refuses, Hears, Closes, Ticks}
use Rattle.client_rules.specs.Step.{Moment, Goes, Ends, Takes}

-- a url to which a number can be appended
abbrev pub FitsUrl : Option (List ℕ) → Type 0
FitsUrl url = IfSome url (λ run. length run ≤ 4070)

pub record FitsConfig (config : ClientConfig) : Type 0 where
  pub urls : AllByRecursion FitsUrl config.urls
  pub items : config.items < 2 ^ 8
  pub queue : IsUInt32 config.queue
  pub start : FitsSigned w64 config.start

abbrev pub FitsHappening : Happening → Type 0
FitsHappening (Opens server) = Unit {0}
FitsHappening (Refuses server) = Unit {0}
FitsHappening (Hears server h) = FitsHeard h
FitsHappening (Closes server) = Unit {0}
FitsHappening (Ticks ms) = Unit {0}

abbrev pub FitsMoment : Moment → Type 0
FitsMoment (Goes h) = FitsHappening h
FitsMoment Ends = Unit {0}
FitsMoment (Takes server) = Unit {0}

pub record FitsClient (c : ClientState) : Type 0 where
  pub config : FitsConfig c.config
  pub links : AllByRecursion FitsLink c.links

-- what it says to its servers
abbrev pub KeepsAct : ClientAct → Type 0
KeepsAct (Happened h) = Unit {0}
KeepsAct (Tells server n) = Unit {0}
KeepsAct (Says server said) = KeepsSaid said
KeepsAct (Switches from to) = Unit {0}
