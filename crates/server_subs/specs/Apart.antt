-- A server's subscriptions are told apart by their ids.
use Rattle.std.specs.Prelude.{◌≡◌, ℕ, ◌==◌, List, [], ◌∷◌, map, Bool, false}
use Rattle.std.specs.List.{list_any}
use Rattle.subscription.specs.State.{SubState}

abbrev pub ids_of : List SubState → List ℕ
ids_of subs = map (λ sub. sub.spec.id) subs

-- a number is among these
abbrev pub is_among : ℕ → List ℕ → Bool
is_among id ids = list_any (λ other. other == id) ids

-- no number stands twice
abbrev pub AreDistinct : List ℕ → Type 0
AreDistinct [] = Unit {0}
AreDistinct (id ∷ ids) = (is_among id ids ≡ false) × AreDistinct ids

-- no two have one id
abbrev pub AreApart : List SubState → Type 0
AreApart subs = AreDistinct (ids_of subs)
