-- Products that are capped.
use Rattle.std.proofs.Common.{◌≡◌, ℕ, zero, suc, ◌*◌, ◌≤◌, min, List, [], ◌∷◌, sym, ap, ◌∙◌, arith, inl, inr}
use Rattle.std.proofs.Math.Nat.{min-eq_left, min-eq_right, le-mul_of_pos_right, mul_assoc, mul-zero}
use Rattle.std.proofs.lemmas.Bool.{cases_lt}
use Rattle.ua_variants.specs.Grammar.{product}

both_large : (a b m : ℕ) → m ≤ a → m ≤ b → min a m ≡ min b m
both_large a b m p q = min-eq_right p ∙ sym (min-eq_right q)

pub capped_times : (a p m : ℕ) → min (min a m * p) m ≡ min (a * p) m
capped_times a zero m = ap (λ (n : ℕ). min n m) (mul-zero (min a m) ∙ sym (mul-zero a))
capped_times a (suc p) m = elim (cases_lt m a) [
  | inl lt ↦
      let le : m ≤ a = omega arith in
      let large : m ≤ m * suc p = le-mul_of_pos_right m (omega arith) in
      let larger : a ≤ a * suc p = le-mul_of_pos_right a (omega arith) in
      ap (λ (n : ℕ). min (n * suc p) m) (min-eq_right le) ∙ both_large (m * suc p) (a * suc p) m large (omega (arith, le, larger))
  | inr le ↦ ap (λ (n : ℕ). min (n * suc p) m) (min-eq_left le)
]

-- no size more
pub whole_product : (total m : ℕ) (more : List ℕ) (whole : ℕ) → total ≤ m → more ≡ [] → min (total * product more) m ≡ whole → total ≡ whole
whole_product total m more whole le is so_far =
    let one : total * product more ≡ total = ap (λ (l : List ℕ). total * product l) is ∙ omega arith in
    sym (min-eq_left le) ∙ ap (λ (n : ℕ). min n m) (sym one) ∙ so_far

-- one size more
pub more_product : (total size m : ℕ) (more sizes : List ℕ) (whole : ℕ) → sizes ≡ size ∷ more → min (total * product sizes) m ≡ whole → min (min (total * size) m * product more) m ≡ whole
more_product total size m more sizes whole is so_far =
    capped_times (total * size) (product more) m ∙ ap (λ (n : ℕ). min n m) (mul_assoc total size (product more)) ∙ ap (λ (l : List ℕ). min (total * product l) m) (sym is) ∙ so_far
