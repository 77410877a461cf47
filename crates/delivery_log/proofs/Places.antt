-- In a list of changes with rising stamps, the order of stamps is the order of places.
use Rattle.std.proofs.Common.{◌≡◌, ℕ, zero, suc, ◌<◌, ◌≤◌, ◌⊎◌, inl, inr, true, false, List, [], ◌∷◌, Some, slice_get, sym, ◌∙◌, ap, subst, arith}
use Rattle.std.proofs.lemmas.Bool.{cases_lt}
use Rattle.std.proofs.lemmas.Option.{same_Some}
use Rattle.set_model.specs.declared.source.Change.{Change}
use Rattle.set_model.specs.Source.{stamp_of, RisesAfter, Rises}
use Rattle.set_model.specs.Stamp.{is_before}
use Rattle.delivery_log.proofs.Stamps.{apart, goes_on, not_before, not_both}

rises_tail : (c : Change) (cs : List Change) → RisesAfter c cs → Rises cs
rises_tail c [] h = tt
rises_tail c (d ∷ ds) h = h.1

-- a change is before each one that stands after it
rise_after : (c : Change) (cs : List Change) (place : ℕ) (d : Change) → RisesAfter c cs → slice_get cs place ≡ Some d → is_before (stamp_of c) (stamp_of d) ≡ true
rise_after c [] place d h at = absurd cc
rise_after c (e ∷ es) zero d h at = let P : Change → Type 0 = λ x. is_before (stamp_of c) (stamp_of x) ≡ true in subst P (same_Some e d at) h.0.later
rise_after c (e ∷ es) (suc place) d h at = goes_on (stamp_of c) (stamp_of e) (stamp_of d) h.0.later (rise_after e es place d h.1 at)

-- an earlier place has an earlier stamp
pub stamp_from_place : (cs : List Change) (i j : ℕ) (c d : Change) → Rises cs → i < j → slice_get cs i ≡ Some c → slice_get cs j ≡ Some d → is_before (stamp_of c) (stamp_of d) ≡ true
stamp_from_place [] i j c d h less at_c at_d = absurd cc
stamp_from_place (e ∷ es) i zero c d h less at_c at_d = absurd (omega arith)
stamp_from_place (e ∷ es) zero (suc j) c d h less at_c at_d =
    let P : Change → Type 0 = λ x. is_before (stamp_of x) (stamp_of d) ≡ true in subst P (same_Some e c at_c) (rise_after e es j d h at_d)
stamp_from_place (e ∷ es) (suc i) (suc j) c d h less at_c at_d = stamp_from_place es i j c d (rises_tail e es h) (omega arith) at_c at_d

place_cases : (cs : List Change) (i j : ℕ) (c d : Change) → Rises cs → is_before (stamp_of d) (stamp_of c) ≡ false → slice_get cs i ≡ Some c → slice_get cs j ≡ Some d
    → (j < i) ⊎ (i ≤ j) → i ≤ j
place_cases cs i j c d h late at_c at_d (inl less) = absurd (not_both (is_before (stamp_of d) (stamp_of c)) (stamp_from_place cs j i d c h less at_d at_c) late)
place_cases cs i j c d h late at_c at_d (inr most) = most

-- a stamp that is not later has no later place
pub place_from_stamp : (cs : List Change) (i j : ℕ) (c d : Change) → Rises cs → is_before (stamp_of d) (stamp_of c) ≡ false → slice_get cs i ≡ Some c → slice_get cs j ≡ Some d → i ≤ j
place_from_stamp cs i j c d h late at_c at_d = place_cases cs i j c d h late at_c at_d (cases_lt j i)

-- two changes at one place are one
same_place : (cs : List Change) (i j : ℕ) (c d : Change) → i ≡ j → slice_get cs i ≡ Some c → slice_get cs j ≡ Some d → c ≡ d
same_place cs i j c d is at_c at_d = same_Some c d (sym at_c ∙ ap (slice_get cs) is ∙ at_d)

not_at : (cs : List Change) (i j : ℕ) (c d : Change) → is_before (stamp_of c) (stamp_of d) ≡ true → slice_get cs i ≡ Some c → slice_get cs j ≡ Some d → i ≡ j → ⊥
not_at cs i j c d early at_c at_d is =
    let P : Change → Type 0 = λ x. is_before (stamp_of x) (stamp_of d) ≡ true in
    not_both (is_before (stamp_of d) (stamp_of d)) (subst P (same_place cs i j c d is at_c at_d) early) (apart (stamp_of d))

-- an earlier stamp has an earlier place
pub before_from_stamp : (cs : List Change) (i j : ℕ) (c d : Change) → Rises cs → is_before (stamp_of c) (stamp_of d) ≡ true → slice_get cs i ≡ Some c → slice_get cs j ≡ Some d → i < j
before_from_stamp cs i j c d h early at_c at_d =
    let most : i ≤ j = place_from_stamp cs i j c d h (not_before (stamp_of c) (stamp_of d) early) at_c at_d in
    let apart : i ≡ j → ⊥ = not_at cs i j c d early at_c at_d in
    omega arith
