-- Of two candidates, which one is no better than the other: an order of levels, and of turns within a level.
use Rattle.std.proofs.Common.{◌≡◌, ◌⊎◌, ℕ, ◌+◌, ◌<◌, ◌≤◌, ◌==◌, ◌||◌, ◌&&◌, Bool, true, false, not, nat_lt, Option, refl, inl, inr, arith}
use Rattle.std.proofs.lemmas.Bool.Decides.{nat_tests}
use Rattle.failover_core.specs.declared.choice.Candidate.{Candidate}
use Rattle.failover_core.specs.Choice.{goes_before, is_active}

-- the turn of a server within its level: that of the active one comes first
abbrev pub turn_by : Bool → ℕ → ℕ
turn_by true server = 0
turn_by false server = server + 1

abbrev pub turn : Option ℕ → ℕ → ℕ
turn active server = turn_by (is_active active server) server

-- a candidate is no better than another one
abbrev pub IsBehind : Option ℕ → Candidate → Candidate → Type 0
IsBehind active one other =
    (one.level < other.level) ⊎ ((one.level ≡ other.level) × (turn active other.server ≤ turn active one.server))

-- none is better than itself
pub itself : (active : Option ℕ) (one : Candidate) → IsBehind active one one
itself active one = inr (refl, omega arith)

goes_on_by : (active : Option ℕ) (a b c : Candidate) → IsBehind active a b → IsBehind active b c → IsBehind active a c
goes_on_by active a b c (inl s) (inl t) = inl (omega arith)
goes_on_by active a b c (inl s) (inr t) = let e = t.0 in inl (omega arith)
goes_on_by active a b c (inr s) (inl t) = let e = s.0 in inl (omega arith)
goes_on_by active a b c (inr s) (inr t) =
    let e = s.0 in let f = t.0 in let g = s.1 in let h = t.1 in inr (omega arith, omega arith)

pub goes_on : (active : Option ℕ) (a b c : Candidate) → IsBehind active a b → IsBehind active b c → IsBehind active a c
goes_on = goes_on_by

first_test : (x r : ℕ) (p q l : Bool) → nat_lt x r ≡ l → (not q && (p || l)) ≡ false → turn_by q r ≤ turn_by p x
first_test x r p true l e h = omega arith
first_test x r true false l e h = absurd cc
first_test x r false false true e h = absurd cc
first_test x r false false false e h = grind (arith, nat_tests)

last_test : (x r : ℕ) (p q l : Bool) → nat_lt x r ≡ l → (not q && (p || l)) ≡ true → turn_by p x ≤ turn_by q r
last_test x r p true l e h = absurd cc
last_test x r true false l e h = omega arith
last_test x r false false true e h = grind (arith, nat_tests)
last_test x r false false false e h = absurd cc

behind_test : (active : Option ℕ) (x r : Candidate) (higher same first : Bool)
    → nat_lt r.level x.level ≡ higher → (x.level == r.level) ≡ same
    → (not (is_active active r.server) && (is_active active x.server || nat_lt x.server r.server)) ≡ first
    → (higher || (same && first)) ≡ false → IsBehind active x r
behind_test active x r true same first e s f h = absurd cc
behind_test active x r false false first e s f h = inl (grind (arith, nat_tests))
behind_test active x r false true true e s f h = absurd cc
behind_test active x r false true false e s f h =
    inr (grind (arith, nat_tests), first_test x.server r.server _ _ _ refl f)

-- one that doesn't go before another one is behind it
pub behind : (active : Option ℕ) (x r : Candidate) → goes_before active x r ≡ false → IsBehind active x r
behind active x r h = behind_test active x r _ _ _ refl refl refl h

before_test : (active : Option ℕ) (x r : Candidate) (higher same first : Bool)
    → nat_lt r.level x.level ≡ higher → (x.level == r.level) ≡ same
    → (not (is_active active r.server) && (is_active active x.server || nat_lt x.server r.server)) ≡ first
    → (higher || (same && first)) ≡ true → IsBehind active r x
before_test active x r true same first e s f h = inl (grind (arith, nat_tests))
before_test active x r false false first e s f h = absurd cc
before_test active x r false true false e s f h = absurd cc
before_test active x r false true true e s f h =
    inr (grind (arith, nat_tests), last_test x.server r.server _ _ _ refl f)

-- the other one is behind one that goes before it
pub before : (active : Option ℕ) (x r : Candidate) → goes_before active x r ≡ true → IsBehind active r x
before active x r h = before_test active x r _ _ _ refl refl refl h
