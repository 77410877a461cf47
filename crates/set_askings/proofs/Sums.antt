-- Sums over numbers, and how often one is among others.
use Rattle.std.proofs.Common.{◌≡◌, ℕ, ◌+◌, ◌<◌, ◌≤◌, ◌==◌, List, [], ◌∷◌, ◌++◌, Bool, true, false, cond, if◌then◌else◌, refl, sym, subst, arith}
use Rattle.std.proofs.lemmas.Bool.Decides.{nat_tests}
use Rattle.server_laws.specs.Facts.{RiseBetween}
use Rattle.set_talks.specs.On.{IsIn}
use Rattle.set_askings.specs.Once.{AreAbove, AreApart}

abbrev pub sum : (ℕ → ℕ) → List ℕ → ℕ
sum f [] = 0
sum f (n ∷ ns) = f n + sum f ns

pub sum_most : (f g : ℕ → ℕ) → ((n : ℕ) → f n ≤ g n) → (ns : List ℕ) → sum f ns ≤ sum g ns
sum_most f g each [] = omega arith
sum_most f g each (n ∷ ns) =
    let first : f n ≤ g n = each n in
    let rest : sum f ns ≤ sum g ns = sum_most f g each ns in
    omega arith

-- a sum of two is one sum more
pub sum_two : (f g k : ℕ → ℕ) → ((n : ℕ) → k n ≡ f n + g n) → (ns : List ℕ) → sum k ns ≡ sum f ns + sum g ns
sum_two f g k each [] = refl
sum_two f g k each (n ∷ ns) =
    let first : k n ≡ f n + g n = each n in
    let rest : sum k ns ≡ sum f ns + sum g ns = sum_two f g k each ns in
    omega arith

-- one of the numbers counts
pub sum_one : (f : ℕ → ℕ) (before : List ℕ) (n : ℕ) (later : List ℕ) → f n ≤ sum f (before ++ n ∷ later)
sum_one f [] n later = omega arith
sum_one f (other ∷ before) n later =
    let rest : f n ≤ sum f (before ++ n ∷ later) = sum_one f before n later in
    omega arith

pub sum_in : (f : ℕ → ℕ) (n : ℕ) (ns : List ℕ) → IsIn n ns → f n ≤ sum f ns
sum_in f n ns is = subst (λ (l : List ℕ). f n ≤ sum f l) (sym is.2) (sum_one f is.0 n is.1)

-- ---- what counts for one number alone

abbrev pub only : ℕ → ℕ → ℕ → ℕ
only number worth n = if number == n then worth else 0

only_none : (b : Bool) (number n worth : ℕ) → (number == n) ≡ b → (n ≡ number → ⊥) → cond b worth 0 ≡ 0
only_none true number n worth test other = absurd (other (grind (arith, nat_tests)))
only_none false number n worth test other = refl

none_above : (number worth : ℕ) (ns : List ℕ) → AreAbove number ns → sum (only number worth) ns ≡ 0
none_above number worth [] apart = refl
none_above number worth (n ∷ ns) apart =
    let first : only number worth n ≡ 0 = only_none (number == n) number n worth refl apart.0 in
    let rest : sum (only number worth) ns ≡ 0 = none_above number worth ns apart.1 in
    omega arith

only_first : (b : Bool) (number worth n : ℕ) (ns : List ℕ) → (number == n) ≡ b → AreAbove n ns → sum (only number worth) ns ≤ worth
    → cond b worth 0 + sum (only number worth) ns ≤ worth
only_first true number worth n ns test apart rest =
    let same : n ≡ number = grind (arith, nat_tests) in
    let none : sum (only number worth) ns ≡ 0 = none_above number worth ns (subst (λ (m : ℕ). AreAbove m ns) same apart) in
    omega arith
only_first false number worth n ns test apart rest = omega (arith, rest)

-- numbers that differ count once at the most
pub sum_only : (number worth : ℕ) (ns : List ℕ) → AreApart ns → sum (only number worth) ns ≤ worth
sum_only number worth [] apart = omega arith
sum_only number worth (n ∷ ns) apart = only_first (number == n) number worth n ns refl apart.0 (sum_only number worth ns apart.1)

-- ---- how often a number is one of these

abbrev pub count : ℕ → List ℕ → ℕ
count id [] = 0
count id (n ∷ ns) = (if n == id then 1 else 0) + count id ns

pub count_join : (id : ℕ) (one other : List ℕ) → count id (one ++ other) ≡ count id one + count id other
count_join id [] other = omega arith
count_join id (n ∷ one) other =
    let rest : count id (one ++ other) ≡ count id one + count id other = count_join id one other in
    omega arith

count_other : (b : Bool) (id n rest : ℕ) → (n == id) ≡ b → id < n → rest ≡ 0 → cond b 1 0 + rest ≡ 0
count_other true id n rest test above none = absurd (grind (arith, nat_tests))
count_other false id n rest test above none = omega (arith, none)

count_none : (id low high : ℕ) (ns : List ℕ) → id ≤ low → RiseBetween low high ns → count id ns ≡ 0
count_none id low high [] below rise = refl
count_none id low high (n ∷ ns) below rise =
    let above : low < n = rise.0 in
    count_other (n == id) id n (count id ns) refl (omega arith) (count_none id n high ns (omega arith) rise.2)

count_by : (b : Bool) (id n high : ℕ) (ns : List ℕ) → (n == id) ≡ b → RiseBetween n high ns → count id ns ≤ 1 → cond b 1 0 + count id ns ≤ 1
count_by true id n high ns test rise rest =
    let same : id ≡ n = grind (arith, nat_tests) in
    let none : count id ns ≡ 0 = count_none id n high ns (omega arith) rise in
    omega arith
count_by false id n high ns test rise rest = omega (arith, rest)

-- of numbers that rise each comes once
pub count_once : (id low high : ℕ) (ns : List ℕ) → RiseBetween low high ns → count id ns ≤ 1
count_once id low high [] rise = omega arith
count_once id low high (n ∷ ns) rise =
    count_by (n == id) id n high ns refl rise.2 (count_once id n high ns rise.2)
