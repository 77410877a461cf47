-- How often time goes by for a client.
use Rattle.std.specs.Prelude.{ℕ, suc, List, [], ◌∷◌}
use Rattle.client_rules.specs.Acts.{Ticks}
use Rattle.client_rules.specs.Step.{Goes, Moment}

-- at how many of these moments milliseconds go by
abbrev pub ticks_in_moments : List Moment → ℕ
ticks_in_moments [] = 0
ticks_in_moments (Goes (Ticks ms) ∷ moments) = suc (ticks_in_moments moments)
ticks_in_moments (other ∷ moments) = ticks_in_moments moments
