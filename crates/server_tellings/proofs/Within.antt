-- Lists that are within others, in order.
use Rattle.std.proofs.Common.{◌≡◌, List, [], ◌∷◌, ◌++◌, refl, sym, ap, subst, ◌⊎◌, inl, inr}
use Rattle.std.specs.List.{AllByRecursion}
use Rattle.server_laws.specs.Facts.{IsWithin, picked}
use Rattle.server_laws.specs.Moves.{Fact}
use Rattle.server_laws.proofs.Within.{none_within, all_within, within_join, not_within}

-- an element has what all have
pub one_has : {A : Type 0} (P : A → Type 0) (x : A) (list : List A) → AllByRecursion P list → IsWithin (x ∷ []) list → P x
one_has P x [] h within = absurd (not_within x [] refl within)
one_has P x (one ∷ list) h (inl within) = one_has P x list h.1 within
one_has P x (one ∷ list) h (inr within) =
    let is : x ∷ [] ≡ one ∷ within.0 = within.1 in
    let same : one ≡ x = cc in
    subst P same h.0

-- ---- what is picked of them

pub picked_within : {A : Type 0} (pick : Fact → List A) (some all : List Fact) → IsWithin some all → IsWithin (picked pick some) (picked pick all)
picked_within pick some [] h = ap (picked pick) h
picked_within pick some (fact ∷ all) (inl h) =
    within_join [] (pick fact) (picked pick some) (picked pick all) (none_within (pick fact)) (picked_within pick some all h)
picked_within pick some (fact ∷ all) (inr h) =
    subst (λ l. IsWithin (picked pick l) (pick fact ++ picked pick all)) (sym h.1)
    (within_join (pick fact) (pick fact) (picked pick h.0) (picked pick all) (all_within (pick fact)) (picked_within pick h.0 all h.2))
