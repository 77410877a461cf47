-- Stamps are totally ordered, by their times and then by their picoseconds.
use Rattle.std.proofs.Common.{◌≡◌, ◌⊎◌, ℕ, ◌<◌, ◌<ℤ◌, ℤ, Bool, true, false, refl, sym, ◌∙◌, ap, arith, inl, inr}
use Rattle.std.specs.Prelude.{int_lt, nat_lt, ◌||◌, ◌&&◌}
use Rattle.std.specs.Ordering.{int_eq}
use Rattle.std.proofs.lemmas.Bool.Decides.{nat_tests, Decides-int_eq}
use Rattle.std.proofs.lemmas.Int.{ints}
use Rattle.set_model.specs.declared.stamp.Stamp.{Stamp}
use Rattle.set_model.specs.Stamp.{is_before, IsOrder}

apart_test : (a : Stamp) (earlier same less : Bool) → int_lt a.time a.time ≡ earlier → int_eq a.time a.time ≡ same → nat_lt a.pico a.pico ≡ less
    → (earlier || (same && less)) ≡ false
apart_test a true same less e s l = absurd (grind (arith, ints))
apart_test a false false less e s l = refl
apart_test a false true true e s l = absurd (grind (arith, nat_tests))
apart_test a false true false e s l = refl

pub stamp_apart : (a : Stamp) → is_before a a ≡ false
stamp_apart a = apart_test a _ _ _ refl refl refl

-- how one stamp is before another one
earlier_test : (a b : Stamp) (earlier same less : Bool) → int_lt a.time b.time ≡ earlier → int_eq a.time b.time ≡ same → nat_lt a.pico b.pico ≡ less
    → (earlier || (same && less)) ≡ true → (a.time <ℤ b.time) ⊎ ((a.time ≡ b.time) × (a.pico < b.pico))
earlier_test a b true same less e s l h = inl (grind (arith, ints))
earlier_test a b false false less e s l h = absurd cc
earlier_test a b false true false e s l h = absurd cc
earlier_test a b false true true e s l h = inr ((Decides-int_eq a.time b.time).0 s, grind (arith, nat_tests))

earlier : (a b : Stamp) → is_before a b ≡ true → (a.time <ℤ b.time) ⊎ ((a.time ≡ b.time) × (a.pico < b.pico))
earlier a b h = earlier_test a b _ _ _ refl refl refl h

before_test : (a b : Stamp) (earlier same less : Bool) → int_lt a.time b.time ≡ earlier → int_eq a.time b.time ≡ same → nat_lt a.pico b.pico ≡ less
    → ((a.time <ℤ b.time) ⊎ ((a.time ≡ b.time) × (a.pico < b.pico))) → (earlier || (same && less)) ≡ true
before_test a b true same less e s l h = refl
before_test a b false same less e s l (inl t) = absurd (grind (arith, ints))
before_test a b false false less e s l (inr t) = absurd (let q = (Decides-int_eq a.time b.time).1 t.0 in cc)
before_test a b false true false e s l (inr t) = let q = t.1 in absurd (grind (arith, nat_tests))
before_test a b false true true e s l (inr t) = refl

before : (a b : Stamp) → ((a.time <ℤ b.time) ⊎ ((a.time ≡ b.time) × (a.pico < b.pico))) → is_before a b ≡ true
before a b h = before_test a b _ _ _ refl refl refl h

goes_on_by : (a b c : Stamp) → ((a.time <ℤ b.time) ⊎ ((a.time ≡ b.time) × (a.pico < b.pico))) → ((b.time <ℤ c.time) ⊎ ((b.time ≡ c.time) × (b.pico < c.pico)))
    → ((a.time <ℤ c.time) ⊎ ((a.time ≡ c.time) × (a.pico < c.pico)))
goes_on_by a b c (inl s) (inl t) = inl (grind (arith, ints))
goes_on_by a b c (inl s) (inr t) = let e = t.0 in inl (grind (arith, ints))
goes_on_by a b c (inr s) (inl t) = let e = s.0 in inl (grind (arith, ints))
goes_on_by a b c (inr s) (inr t) = let e = s.1 in let f = t.1 in inr (s.0 ∙ t.0, grind arith)

pub stamp_goes_on : (a b c : Stamp) → is_before a b ≡ true → is_before b c ≡ true → is_before a c ≡ true
stamp_goes_on a b c h k = before a c (goes_on_by a b c (earlier a b h) (earlier b c k))

same_by : (a b : Stamp) → a.time ≡ b.time → a.pico ≡ b.pico → a ≡ b
same_by a b t p = let f : ℤ → ℕ → Stamp = λ x y. record { time = x; pico = y } in
    ap (λ x. f x a.pico) t ∙ ap (f b.time) p

total_test : (a b : Stamp) (earlier same less later more : Bool) → int_lt a.time b.time ≡ earlier → int_eq a.time b.time ≡ same → nat_lt a.pico b.pico ≡ less
    → int_lt b.time a.time ≡ later → int_eq b.time a.time ≡ same → nat_lt b.pico a.pico ≡ more
    → (earlier || (same && less)) ≡ false → (later || (same && more)) ≡ false → a ≡ b
total_test a b true same less later more e s l f t m h k = absurd cc
total_test a b false same less true more e s l f t m h k = absurd cc
total_test a b false false less false more e s l f t m h k = absurd (grind (arith, ints))
total_test a b false true true false more e s l f t m h k = absurd cc
total_test a b false true false false true e s l f t m h k = absurd cc
total_test a b false true false false false e s l f t m h k = same_by a b ((Decides-int_eq a.time b.time).0 s) (grind (arith, nat_tests))

same_back : (x y : ℤ) (p q : Bool) → int_eq y x ≡ p → int_eq x y ≡ q → p ≡ q
same_back x y true true a b = refl
same_back x y false false a b = refl
same_back x y true false a b = absurd (let e = (Decides-int_eq x y).1 (sym ((Decides-int_eq y x).0 a)) in cc)
same_back x y false true a b = absurd (let e = (Decides-int_eq y x).1 (sym ((Decides-int_eq x y).0 b)) in cc)

int_eq_back : (x y : ℤ) → int_eq y x ≡ int_eq x y
int_eq_back x y = same_back x y _ _ refl refl

pub stamp_total : (a b : Stamp) → is_before a b ≡ false → is_before b a ≡ false → a ≡ b
stamp_total a b h k =
    let k' : (int_lt b.time a.time || (int_eq a.time b.time && nat_lt b.pico a.pico)) ≡ false =
    ap (λ x. int_lt b.time a.time || (x && nat_lt b.pico a.pico)) (sym (int_eq_back a.time b.time)) ∙ k in
    total_test a b _ _ _ _ _ refl refl refl refl (int_eq_back a.time b.time) refl h k'

pub stamp_order : IsOrder is_before
stamp_order = record { apart = stamp_apart; goes_on = stamp_goes_on; total = stamp_total }
