-- What a link asks for in the lives of its server.
use Rattle.std.specs.Prelude.{◌≡◌, ◌⊎◌, ℕ, List, [], ◌∷◌, Some}
use Rattle.std.specs.List.{AllByRecursion}
use Rattle.ua_base.specs.declared.modes.Timestamps.TheVariants as timestamps
use Rattle.server_laws.specs.Whole.{NeverOff}
use Rattle.server_keeps.specs.Fitting.{FitsChange, FitsConfig, FitsHappening}
use Rattle.server_makings.specs.Asked.{asked_in, asked_with}
use Rattle.link_keeps.specs.Fitting.{KeepsSaid}
use Rattle.link_rules.specs.declared.config.LinkConfig.{LinkConfig}
use Rattle.link_rules.specs.Requests.{item_requests}
use Rattle.set_talks.specs.On.{AreOn}
use Rattle.client_dials.specs.Spoken.{Spoken}
use Rattle.set_talks.specs.Meetings.{Life}

-- what a link says on each of these connections keeps the limits of the wire
abbrev pub AllKept : List Spoken → Type 0
AllKept all = AllByRecursion (λ (spoken : Spoken). AllByRecursion KeepsSaid spoken.said) all

-- no two connections of a life have the same number
abbrev pub AreAbove : ℕ → List ℕ → Type 0
AreAbove number [] = Unit {0}
AreAbove number (other ∷ numbers) = (other ≡ number → ⊥) × AreAbove number numbers

abbrev pub AreApart : List ℕ → Type 0
AreApart [] = Unit {0}
AreApart (number ∷ numbers) = AreAbove number numbers × AreApart numbers

-- a life begins with what fits the wire, all that happens to it does, and it hears on its own connections alone, each of
-- which has a number of its own
pub record IsOrderly (life : Life) : Type 0 where
  pub config : FitsConfig life.config
  pub current : AllByRecursion FitsChange life.current
  pub happenings : AllByRecursion FitsHappening life.happenings
  pub on : AreOn life.connections life.happenings
  pub apart : AreApart life.connections

-- in the subscription of an id items were asked for once, as a link asks for them, with their source times; or none was. And
-- nobody asked for Disabled
pub record IsAskedOnce (config : LinkConfig) (id : ℕ) (life : Life) : Type 0 where
  pub once : (asked_in id life.happenings ≡ [])
      ⊎ (asked_in id life.happenings ≡ asked_with (Some timestamps.Source) (item_requests config config.items))
  pub on : NeverOff life.happenings id
