-- The servers of a set by their places, and by their numbers.
use Rattle.std.proofs.Common.{◌≡◌, ◌≢◌, ◌⊎◌, inl, inr, ℕ, zero, suc, ◌+◌, ◌-◌, ◌==◌, ◌≤◌, ◌&&◌, nat_le, Bool, true, false, cond, List, [], ◌∷◌, ◌++◌, length, Some, None, slice_index_or, slice_set, refl, sym, ap, subst, ◌∙◌, arith}
use Rattle.std.proofs.lemmas.Bool.Decides.{nat_tests}
use Rattle.std.proofs.lemmas.Grind.{get_or-set_at}
use Rattle.std.proofs.lemmas.List.{get_or-set_other, length-append}
use Rattle.direct_world.specs.Server.{place_in}
use Rattle.set_rules.specs.State.{Slot}
use Rattle.set_rules.specs.Moves.{no_slot}
use Rattle.set_rules.specs.Slots.{new_slot}
use Rattle.set_rules.specs.World.{Beginning, new_slots}

-- ---- places

pub here_or_not : (b : Bool) (q place : ℕ) → (q == place) ≡ b → (q ≡ place) ⊎ (q ≢ place)
here_or_not true q place e = inl (grind (arith, nat_tests))
here_or_not false q place e = inr (λ same. absurd (not_same q place e same))
  where
    not_same : (q place : ℕ) → (q == place) ≡ false → q ≡ place → ⊥
    not_same q place e same = grind (arith, nat_tests)

pub slot_here : {S W : Type 0} (slots : List (Slot S W)) (place : ℕ) (s : Slot S W) → place + 1 ≤ length slots
    → slice_index_or (slice_set slots place s) place no_slot ≡ s
slot_here slots place s within = get_or-set_at slots place place s no_slot refl (omega (arith, within))

pub slot_other : {S W : Type 0} (slots : List (Slot S W)) (place q : ℕ) (s : Slot S W) → q ≢ place
    → slice_index_or (slice_set slots place s) q no_slot ≡ slice_index_or slots q no_slot
slot_other slots place q s differ = get_or-set_other slots place q s no_slot differ

-- ---- numbers of servers

pub other_server : (q place : ℕ) → q ≢ place → (q + 1 == place + 1) ≡ false
other_server q place differ = next_differs (q == place) refl
  where
    same_next : (q place : ℕ) → (q == place) ≡ true → q ≡ place
    same_next q place e = grind (arith, nat_tests)

    apart_next : (q place : ℕ) → (q == place) ≡ false → (q + 1 == place + 1) ≡ false
    apart_next q place e = grind (arith, nat_tests)

    next_differs : (b : Bool) → (q == place) ≡ b → (q + 1 == place + 1) ≡ false
    next_differs true e = absurd (differ (same_next q place e))
    next_differs false e = apart_next q place e

within_by : (b : Bool) (number count place : ℕ) → (nat_le 1 number && nat_le number count) ≡ b → cond b (Some (number - 1)) None ≡ Some place → place + 1 ≤ count
within_by true number count place is found = within number count place is (some_same (number - 1) place found)
  where
    some_same : (n k : ℕ) → Some n ≡ Some k → n ≡ k
    some_same n k e = cc

    within : (number count place : ℕ) → (nat_le 1 number && nat_le number count) ≡ true → number - 1 ≡ place → place + 1 ≤ count
    within number count place is same = grind (arith, nat_tests)
within_by false number count place is found = absurd cc

pub place_within : (number count place : ℕ) → place_in number count ≡ Some place → place + 1 ≤ count
place_within number count place found = within_by (nat_le 1 number && nat_le number count) number count place refl found

-- ---- the servers of a set that begins

get_left : {A : Type 0} (xs : List A) (y : A) (i : ℕ) (d : A) → i + 1 ≤ length xs → slice_index_or (xs ++ y ∷ []) i d ≡ slice_index_or xs i d
get_left [] y i d less = absurd (omega (arith, less))
get_left (x ∷ xs) y zero d less = refl
get_left (x ∷ xs) y (suc i) d less = get_left xs y i d (omega (arith, less))

get_last : {A : Type 0} (xs : List A) (y : A) (i : ℕ) (d : A) → i ≡ length xs → slice_index_or (xs ++ y ∷ []) i d ≡ y
get_last [] y zero d is = refl
get_last [] y (suc i) d is = absurd (omega (arith, is))
get_last (x ∷ xs) y zero d is = absurd (omega (arith, is))
get_last (x ∷ xs) y (suc i) d is = get_last xs y i d (omega (arith, is))

earlier : (place count : ℕ) → place + 1 ≤ suc count → place ≢ count → place + 1 ≤ count
earlier place count less differ = omega (arith, less, differ)

module _ {S : Type 0} (W : Type 0) (begins : Beginning S) where
  pub slots_long : (count : ℕ) → length (new_slots {S = S} {W = W} begins count) ≡ count
  unfolding new_slots
  slots_long zero = refl
  slots_long (suc count) =
      let last = length-append (new_slots {S = S} {W = W} begins count) (new_slot (begins (count + 1) 1 []) ∷ []) in
      let before = slots_long count in omega (arith, last, before)

  new_by : (count place : ℕ) → place + 1 ≤ suc count → (place ≡ count) ⊎ (place ≢ count)
      → (place + 1 ≤ count → slice_index_or (new_slots {S = S} {W = W} begins count) place no_slot ≡ new_slot (begins (place + 1) 1 []))
      → slice_index_or (new_slots {S = S} {W = W} begins count ++ new_slot (begins (count + 1) 1 []) ∷ []) place no_slot ≡ new_slot (begins (place + 1) 1 [])
  new_by count place less (inl same) before =
      get_last (new_slots {S = S} {W = W} begins count) (new_slot (begins (count + 1) 1 [])) place no_slot (same ∙ sym (slots_long count))
      ∙ ap (λ n. new_slot (begins (n + 1) 1 [])) (sym same)
  new_by count place less (inr differ) before =
      get_left (new_slots {S = S} {W = W} begins count) (new_slot (begins (count + 1) 1 [])) place no_slot
      (subst (λ n. place + 1 ≤ n) (sym (slots_long count)) (earlier place count less differ))
      ∙ before (earlier place count less differ)

  pub slot_new : (count place : ℕ) → place + 1 ≤ count → slice_index_or (new_slots {S = S} {W = W} begins count) place no_slot ≡ new_slot (begins (place + 1) 1 [])
  unfolding new_slots
  slot_new zero place less = absurd (omega (arith, less))
  slot_new (suc count) place less = new_by count place less (here_or_not (place == count) place count refl) (λ small. slot_new count place small)
