-- The messages of one era, as one more is taken.
use Rattle.std.proofs.Common.{◌≡◌, ℕ, zero, suc, ◌+◌, ◌==◌, List, [], ◌∷◌, ◌++◌, take, Bool, true, false, Some, None, if◌then◌else◌, sym, ◌∙◌, ap, append_assoc, arith}
use Rattle.std.specs.List.{slice_get}
use Rattle.std.proofs.lemmas.Bool.Decides.{nat_tests}
use Rattle.std.proofs.lemmas.List.{append-nil}
use Rattle.std.proofs.lemmas.Option.{same_Some}
use Rattle.ua_sub_msgs.specs.declared.notification.MonitoredItemNotification.{MonitoredItemNotification}
use Rattle.link_following.specs.Book.{joined}
use Rattle.warm_links.specs.Eras.{of_era}

-- all that the messages of an era bring, of those from a place on
abbrev pub part : (ℕ → ℕ) → ℕ → ℕ → List (List MonitoredItemNotification) → List MonitoredItemNotification
part eras era from messages = joined (of_era eras era from messages)

is_same : (one other : ℕ) → one ≡ other → (one == other) ≡ true
is_same one other e = grind (arith, nat_tests)

kept_front : (b : Bool) (first : List MonitoredItemNotification) (rest : List (List MonitoredItemNotification)) → b ≡ true
    → joined (if b then first ∷ rest else rest) ≡ first ++ joined rest
kept_front b first rest test = ap (λ (t : Bool). joined (if t then first ∷ rest else rest)) test

front_by : (b : Bool) (first : List MonitoredItemNotification) (all some : List (List MonitoredItemNotification))
    (more : List MonitoredItemNotification) → joined all ≡ joined some ++ more
    → joined (if b then first ∷ all else all) ≡ joined (if b then first ∷ some else some) ++ more
front_by true first all some more e =
    ap (λ (l : List MonitoredItemNotification). first ++ l) e ∙ sym (append_assoc first (joined some) more)
front_by false first all some more e = e

-- the place of the first one
starts : (at from : ℕ) → at ≡ from + zero → from ≡ at
starts at from e = omega (arith, e)

later : (at from place : ℕ) → at ≡ from + suc place → at ≡ from + 1 + place
later at from place e = omega (arith, e)

first_test : (eras : ℕ → ℕ) (era from at : ℕ) → at ≡ from + zero → eras at ≡ era → (eras from == era) ≡ true
first_test eras era from at e is = is_same (eras from) era (ap eras (starts at from e) ∙ is)

-- the message at a place stands behind those before it
pub part_at : (eras : ℕ → ℕ) (era from : ℕ) (messages : List (List MonitoredItemNotification)) (place at : ℕ)
    (values : List MonitoredItemNotification) → slice_get messages place ≡ Some values → at ≡ from + place → eras at ≡ era
    → (behind : List MonitoredItemNotification)
    × (part eras era from messages ≡ part eras era from (take place messages) ++ (values ++ behind))
part_at eras era from [] place at values h e is = let bad : None ≡ Some values = h in absurd cc
part_at eras era from (first ∷ messages) zero at values h e is = (
  part eras era (from + 1) messages,
  kept_front (eras from == era) first (of_era eras era (from + 1) messages) (first_test eras era from at e is)
      ∙ ap (λ (l : List MonitoredItemNotification). l ++ part eras era (from + 1) messages) (same_Some first values h),
)
part_at eras era from (first ∷ messages) (suc place) at values h e is =
    let rest = part_at eras era (from + 1) messages place at values h (later at from place e) is in (
      rest.0,
      front_by (eras from == era) first (of_era eras era (from + 1) messages) (of_era eras era (from + 1) (take place messages))
          (values ++ rest.0) rest.1,
    )

-- and before the next place are those and it
pub part_next : (eras : ℕ → ℕ) (era from : ℕ) (messages : List (List MonitoredItemNotification)) (place at : ℕ)
    (values : List MonitoredItemNotification) → slice_get messages place ≡ Some values → at ≡ from + place → eras at ≡ era
    → part eras era from (take (suc place) messages) ≡ part eras era from (take place messages) ++ values
part_next eras era from [] place at values h e is = let bad : None ≡ Some values = h in absurd cc
part_next eras era from (first ∷ messages) zero at values h e is =
    kept_front (eras from == era) first [] (first_test eras era from at e is) ∙ append-nil first ∙ same_Some first values h
part_next eras era from (first ∷ messages) (suc place) at values h e is =
    front_by (eras from == era) first (of_era eras era (from + 1) (take (suc place) messages))
    (of_era eras era (from + 1) (take place messages)) values
    (part_next eras era (from + 1) messages place at values h (later at from place e) is)
