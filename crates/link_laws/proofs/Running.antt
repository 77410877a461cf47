-- Messages that are taken follow one another.
use Rattle.std.proofs.Common.{◌≡◌, ◌≤◌, ◌<◌, ◌+◌, ◌-◌, ◌%◌, ◌==◌, ◌&&◌, ◌||◌, ℕ, List, [], ◌∷◌, ◌++◌, Bool, true, false, nat_le, Option, Some, if◌then◌else◌, refl, sym, ap, ◌∙◌, subst, arith, None}
use Rattle.std.proofs.lemmas.Bool.Decides.{nat_tests}
use Rattle.ua_base.specs.Number.{after_message}
use Rattle.link_rules.specs.declared.remembered.Monitored.{Monitored}
use Rattle.link_rules.specs.declared.remembered.Remembered.{Remembered}
use Rattle.link_rules.specs.Numbers.{ahead, is_jump, is_new, is_next}
use Rattle.link_laws.specs.Course.{AllStay, AreAbove, AreBelow, AreDoable, AreKnown, IsKnown, IsSomething, monitored_after, monitored_by, Data, Deed, Streams, Monitors, Takes, Leaps, Passes, Skips, Forgets, IsAbove, IsDoable, IsOnward, IsRun, IsRunOf, Stays, data_of, data_of_all, remembered_after, remembered_by, run_after, run_by, with_next, ids_of, told_after}

-- ---- runs

run_more : (run : List ℕ) (number : ℕ) → IsRun run number → IsRun (run ++ number ∷ []) (after_message number)
run_more [] number h = refl
run_more (one ∷ []) number h = (h, refl)
run_more (one ∷ another ∷ more) number h = (h.0, run_more (another ∷ more) number h.1)

run_on : (deed : Deed) (o : Option Remembered) (run : List ℕ) → IsDoable deed o → IsRunOf run o → IsRunOf (run_by deed run) (remembered_by deed o)
run_on (Streams id) o run h is = tt
run_on (Monitors items) o run h is = is
run_on (Takes number values) o run h is =
    subst (λ x. IsRunOf (run ++ number ∷ []) (with_next (after_message number) x)) (sym h.1)
    (run_more run number (subst (IsRun run) (sym h.2) (subst (IsRunOf run) h.1 is)))
run_on (Leaps number values) o run h is =
    subst (λ x. IsRunOf (number ∷ []) (with_next (after_message number) x)) (sym h.1) refl
run_on (Passes number values) o run h is = is
run_on (Skips number) o run h is = subst (λ x. IsRunOf [] (with_next number x)) (sym h.1) tt
run_on Forgets o run h is = refl

pub runs_follow : (deeds : List Deed) (o : Option Remembered) (run : List ℕ) → AreDoable deeds o → IsRunOf run o
    → IsRunOf (run_after deeds run) (remembered_after deeds o)
runs_follow [] o run h is = is
runs_follow (deed ∷ deeds) o run h is =
    runs_follow deeds (remembered_by deed o) (run_by deed run) h.1 (run_on deed o run h.0 is)

-- ---- small numbers

pub both_is : (a b : Bool) → (a && b) ≡ true → (a ≡ true) × (b ≡ true)
both_is true true e = (refl, refl)
both_is true false e = absurd cc
both_is false b e = absurd cc

neither_is : (a b : Bool) → (a || b) ≡ false → (a ≡ false) × (b ≡ false)
neither_is false false e = (refl, refl)
neither_is false true e = absurd cc
neither_is true b e = absurd cc

ahead_later : (next number : ℕ) → next ≤ number → number < 4294967295 → (number + 4294967295 - next) % 4294967295 ≡ number - next
ahead_later next number less small = omega (arith, less, small)

ahead_former : (next number : ℕ) → number < next → next < 4294967295 → (number + 4294967295 - next) % 4294967295 ≡ number + 4294967295 - next
ahead_former next number less small = omega (arith, less, small)

le_of : (a b : ℕ) → nat_le a b ≡ true → a ≤ b
le_of a b e = grind (arith, nat_tests)

lt_of : (a b : ℕ) → nat_le a b ≡ false → b < a
lt_of a b e = grind (arith, nat_tests)

pub same_of : (a b : ℕ) → a ≡ b → (a == b) ≡ true
same_of a b e = grind (arith, nat_tests)

near_of : (a : ℕ) → 1 ≤ a → a ≤ 2147483647 → (nat_le 1 a && nat_le a 2147483647) ≡ true
near_of a one most = grind (arith, nat_tests)

no_both : {A : Type 0} (b : Bool) → b ≡ true → b ≡ false → A
no_both b yes_is no_is = let bad : true ≡ false = sym yes_is ∙ no_is in absurd cc

jump_far : (next number n : ℕ) → next ≤ 2147483648 → 1 ≤ number → number < next → n ≡ number + 4294967295 - next → n ≤ 2147483647 → ⊥
jump_far next number n small one before far near = absurd (omega (arith, small, one, before, far, near))

jump_later : (next number : ℕ) → next ≤ 2147483648 → 1 ≤ number → is_jump next number ≡ true → next ≤ number
jump_later next number small one jump = by_test (nat_le next number) refl
  where
    by_test : (b : Bool) → nat_le next number ≡ b → next ≤ number
    by_test true e = le_of next number e
    by_test false e =
        let before : number < next = lt_of next number e in
        let few : next < 4294967295 = omega (arith, small) in
        let tests = both_is (nat_le 1 (ahead next number)) (nat_le (ahead next number) 2147483647) jump in
        absurd (jump_far next number (ahead next number) small one before (ahead_former next number before few)
        (le_of (ahead next number) 2147483647 tests.1))

gap_least : (next number n : ℕ) → next ≤ number → (number ≡ next → ⊥) → number < 2147483648 → n ≡ number - next → (1 ≤ n) × (n ≤ 2147483647)
gap_least next number n least apart less is = by_gap (nat_le number next) refl
  where
    by_gap : (b : Bool) → nat_le number next ≡ b → (1 ≤ n) × (n ≤ 2147483647)
    by_gap true e =
        let other : number ≤ next = le_of number next e in
        let same : number ≡ next = omega (arith, least, other) in
        absurd (apart same)
    by_gap false e =
        let more : next < number = lt_of number next e in
        let one : 1 ≤ n = omega (arith, more, is) in
        let most : n ≤ 2147483647 = omega (arith, less, is) in
        (one, most)

pub old_former : (next number : ℕ) → number < 2147483648 → is_new next number ≡ false → number < next
old_former next number less old = by_test (nat_le next number) refl
  where
    by_test : (b : Bool) → nat_le next number ≡ b → number < next
    by_test false e = lt_of next number e
    by_test true e =
        let tests = neither_is (is_next next number) (is_jump next number) old in
        let least : next ≤ number = le_of next number e in
        let few : number < 4294967295 = omega (arith, less) in
        let gap = gap_least next number (ahead next number) least (λ same. no_both (number == next) (same_of number next same) tests.0) less
        (ahead_later next number least few) in
        no_both (is_jump next number) (near_of (ahead next number) gap.0 gap.1) tests.1

pub small_after : (number : ℕ) → number < 2147483648 → after_message number ≡ number + 1
small_after number less = by_test (number == 4294967295) refl
  where
    by_test : (b : Bool) → (number == 4294967295) ≡ b → (if b then 1 else number + 1) ≡ number + 1
    by_test true e = let is : number ≡ 4294967295 = grind (arith, nat_tests) in absurd (omega (arith, is, less))
    by_test false e = refl

-- ---- one deed

record IsStep (r : Remembered) (deed : Deed) : Type 0 where
  pub later : Remembered
  pub is : remembered_by deed (Some r) ≡ Some later
  pub id : later.id ≡ r.id
  pub rises : r.next ≤ later.next
  pub small : later.next ≤ 2147483648
  pub above : IsAbove r.next deed
  pub below : AreBelow later.next (data_of deed)

same_next : (r other : Remembered) → Some r ≡ Some other → other.next ≡ r.next
same_next r other e = let same : other ≡ r = cc in ap (λ (x : Remembered). x.next) same

step_by : (deed : Deed) (r : Remembered) → Stays deed → IsDoable deed (Some r) → r.next ≤ 2147483648 → IsStep r deed
step_by (Streams id) r stays h small = absurd stays
step_by (Monitors items) r stays h small =
    record { later = r; is = refl; id = refl; rises = omega arith; small = small; above = tt; below = tt }
step_by (Takes number values) r stays h small =
    let is : number ≡ r.next = h.2 ∙ same_next r h.0 h.1 in
    let after : after_message number ≡ number + 1 = small_after number stays.1 in
    let less : number < 2147483648 = stays.1 in
    record {
      later = record r { next = after_message number };
      is = refl;
      id = refl;
      rises = omega (arith, is, after);
      small = omega (arith, after, less);
      above = omega (arith, is);
      below = (omega (arith, after), tt);
    }
step_by (Leaps number values) r stays h small =
    let jump : is_jump r.next number ≡ true = subst (λ n. is_jump n number ≡ true) (same_next r h.0 h.1) h.2 in
    let later : r.next ≤ number = jump_later r.next number small stays.0 jump in
    let after : after_message number ≡ number + 1 = small_after number stays.1 in
    let less : number < 2147483648 = stays.1 in
    record {
      later = record r { next = after_message number };
      is = refl;
      id = refl;
      rises = omega (arith, later, after);
      small = omega (arith, after, less);
      above = later;
      below = (omega (arith, after), tt);
    }
step_by (Passes number values) r stays h small =
    let old : is_new r.next number ≡ false = subst (λ n. is_new n number ≡ false) (same_next r h.0 h.1) h.2 in
    record {
      later = r;
      is = refl;
      id = refl;
      rises = omega arith;
      small = small;
      above = tt;
      below = (old_former r.next number stays.1 old, tt);
    }
step_by (Skips number) r stays h small =
    let jump : is_jump r.next number ≡ true = subst (λ n. is_jump n number ≡ true) (same_next r h.0 h.1) h.2 in
    let less : number < 2147483648 = stays.1 in
    record {
      later = record r { next = number };
      is = refl;
      id = refl;
      rises = jump_later r.next number small stays.0 jump;
      small = omega (arith, less);
      above = tt;
      below = tt;
    }
step_by Forgets r stays h small = absurd stays

-- ---- all deeds

below_more : (one other : ℕ) (list : List Data) → one ≤ other → AreBelow one list → AreBelow other list
below_more one other [] less h = tt
below_more one other (first ∷ list) less h =
    (trans_less first.number one other h.0 less, below_more one other list less h.1)
  where
    trans_less : (a b c : ℕ) → a < b → b ≤ c → a < c
    trans_less a b c x y = omega (arith, x, y)

below_join : (next : ℕ) (one other : List Data) → AreBelow next one → AreBelow next other → AreBelow next (one ++ other)
below_join next [] other h rest = rest
below_join next (first ∷ one) other h rest = (h.0, below_join next one other h.1 rest)

above_one : (one other : ℕ) (deed : Deed) → one ≤ other → IsAbove other deed → IsAbove one deed
above_one one other (Takes number values) less h = omega (arith, less, h)
above_one one other (Leaps number values) less h = omega (arith, less, h)
above_one one other (Streams id) less h = tt
above_one one other (Monitors items) less h = tt
above_one one other (Passes number values) less h = tt
above_one one other (Skips number) less h = tt
above_one one other Forgets less h = tt

above_less : (one other : ℕ) (deeds : List Deed) → one ≤ other → AreAbove other deeds → AreAbove one deeds
above_less one other [] less h = tt
above_less one other (deed ∷ deeds) less h = (above_one one other deed less h.0, above_less one other deeds less h.1)

pub numbers_go_onward : (deeds : List Deed) (r : Remembered) → AllStay deeds → AreDoable deeds (Some r) → r.next ≤ 2147483648 → IsOnward r deeds
numbers_go_onward [] r stays h small =
    record { later = r; is = refl; id = refl; rises = omega arith; small = small; above = tt; below = tt }
numbers_go_onward (deed ∷ deeds) r stays h small =
    let one : IsStep r deed = step_by deed r stays.0 h.0 small in
    let rest : IsOnward one.later deeds =
    numbers_go_onward deeds one.later stays.1 (subst (AreDoable deeds) one.is h.1) one.small in
    let first : r.next ≤ one.later.next = one.rises in
    let second : one.later.next ≤ rest.later.next = rest.rises in
    record {
      later = rest.later;
      is = ap (remembered_after deeds) one.is ∙ rest.is;
      id = rest.id ∙ one.id;
      rises = omega (arith, first, second);
      small = rest.small;
      above = (one.above, above_less r.next one.later.next deeds first rest.above);
      below = below_join rest.later.next (data_of deed) (data_of_all deeds)
          (below_more one.later.next rest.later.next (data_of deed) second one.below) rest.below;
    }

-- ---- items

item_stays : (deed : Deed) (monitored : List Monitored) → Stays deed → IsSomething monitored → IsKnown deed monitored → monitored_by deed monitored ≡ monitored
item_stays (Streams id) monitored stays some h = absurd stays
item_stays (Monitors items) monitored stays some h = absurd (subst IsSomething h.0 some)
item_stays (Takes number values) monitored stays some h = refl
item_stays (Leaps number values) monitored stays some h = refl
item_stays (Passes number values) monitored stays some h = refl
item_stays (Skips number) monitored stays some h = refl
item_stays Forgets monitored stays some h = absurd stays

pub items_stay : (deeds : List Deed) (monitored : List Monitored) → AllStay deeds → IsSomething monitored → AreKnown deeds monitored
    → monitored_after deeds monitored ≡ monitored
items_stay [] monitored stays some h = refl
items_stay (deed ∷ deeds) monitored stays some h =
    let same : monitored_by deed monitored ≡ monitored = item_stays deed monitored stays.0 some h.0 in
    ap (monitored_after deeds) same ∙ items_stay deeds monitored stays.1 some (subst (AreKnown deeds) same h.1)

-- ---- nothing is remembered

no_some : {A : Type 0} (r : Remembered) → None ≡ Some r → A
no_some r e = absurd cc

pub nothing_is_told : (count : ℕ) (deeds : List Deed) (monitored : List Monitored) → AreDoable deeds None → ids_of deeds ≡ []
    → told_after count deeds monitored ≡ []
nothing_is_told count [] monitored h none_made = refl
nothing_is_told count (Streams id ∷ deeds) monitored h none_made = absurd cc
nothing_is_told count (Monitors items ∷ deeds) monitored h none_made = nothing_is_told count deeds items h.1 none_made
nothing_is_told count (Takes number values ∷ deeds) monitored h none_made = no_some h.0.0 h.0.1
nothing_is_told count (Leaps number values ∷ deeds) monitored h none_made = no_some h.0.0 h.0.1
nothing_is_told count (Passes number values ∷ deeds) monitored h none_made = no_some h.0.0 h.0.1
nothing_is_told count (Skips number ∷ deeds) monitored h none_made = no_some h.0.0 h.0.1
nothing_is_told count (Forgets ∷ deeds) monitored h none_made = nothing_is_told count deeds [] h.1 none_made
