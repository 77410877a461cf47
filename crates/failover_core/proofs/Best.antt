-- The best of a list: it is of the list, has data, and none of the list goes before it.
use Rattle.std.proofs.Common.{◌≡◌, ◌≢◌, ◌⊎◌, ◌↔◌, ℕ, ◌<◌, ◌≤◌, ◌==◌, List, [], ◌∷◌, Bool, true, false, if◌then◌else◌, Option, Some, None, refl, sym, ◌∙◌, ap, subst, inl, inr, arith}
use Rattle.std.proofs.lemmas.Bool.Decides.{nat_tests}
use Rattle.failover_core.specs.declared.choice.Candidate.{Candidate}
use Rattle.failover_core.specs.State.{CoreState}
use Rattle.failover_core.specs.Choice.{best_from, best_of, choose, decided, goes_before, has_data, is_active, is_same, number_of, server_of, switch_of}
use Rattle.failover_core.specs.Laws.{IsAmong, IsBest}
use Rattle.failover_core.proofs.Order.{IsBehind, before, behind, goes_on, itself, turn, turn_by}

-- a best one of what came first and of what is left
record IsFound (active : Option ℕ) (first : Candidate) (more : List Candidate) (best : Candidate) : Type 0 where
  among : (best ≡ first) ⊎ IsAmong best more
  enough : 2 ≤ best.level
  first_behind : IsBehind active first best
  behind : (one : Candidate) → IsAmong one more → IsBehind active one best

step_among : (first next one : Candidate) (more : List Candidate) (best : Candidate)
    → ((next ≡ first) ⊎ (next ≡ one)) → ((best ≡ next) ⊎ IsAmong best more)
    → (best ≡ first) ⊎ IsAmong best (one ∷ more)
step_among first next one more best which (inr among) = inr (inr among)
step_among first next one more best (inl w) (inl is) = inl (is ∙ w)
step_among first next one more best (inr w) (inl is) = inr (inl (is ∙ w))

step_behind : (active : Option ℕ) (next one : Candidate) (more : List Candidate) (best : Candidate)
    → IsBehind active one next → IsFound active next more best
    → (other : Candidate) → ((other ≡ one) ⊎ IsAmong other more) → IsBehind active other best
step_behind active next one more best right found other (inr among) = found.behind other among
step_behind active next one more best right found other (inl is) =
    subst (λ x. IsBehind active x best) (sym is) (goes_on active one next best right found.first_behind)

-- the search goes on with one of two, behind which the other one is
step : (active : Option ℕ) (first next one : Candidate) (more : List Candidate) (best : Candidate)
    → ((next ≡ first) ⊎ (next ≡ one)) → IsBehind active first next → IsBehind active one next
    → IsFound active next more best → IsFound active first (one ∷ more) best
step active first next one more best which left right found = record {
  among = step_among first next one more best which found.among;
  enough = found.enough;
  first_behind = goes_on active first next best left found.first_behind;
  behind = λ other among. step_behind active next one more best right found other among;
}

some_is : (a b : Candidate) → ◌≡◌ {A = Option Candidate} (Some a) (Some b) → a ≡ b
some_is a b e = cc

raised : (active : Option ℕ) (first one : Candidate) → IsBehind active first one → 2 ≤ first.level → 2 ≤ one.level
raised active first one (inl s) h = omega arith
raised active first one (inr s) h = let e = s.0 in omega arith

Finds : Option ℕ → List Candidate → Candidate → Type 0
Finds active more best =
    (next : Candidate) → 2 ≤ next.level → best_from active (Some next) more ≡ Some best → IsFound active next more best

test : (active : Option ℕ) (first one : Candidate) (more : List Candidate) (best : Candidate) (b : Bool)
    → goes_before active one first ≡ b → 2 ≤ first.level
    → best_from active (if b then Some one else Some first) more ≡ Some best
    → Finds active more best → IsFound active first (one ∷ more) best
unfolding Finds
test active first one more best true g h e found =
    let behind_one = before active one first g in
    step active first one one more best (inr refl) behind_one (itself active one)
    (found one (raised active first one behind_one h) e)
test active first one more best false g h e found =
    step active first first one more best (inl refl) (itself active first) (behind active one first g) (found first h e)

found_from : (active : Option ℕ) (more : List Candidate) (best first : Candidate)
    → 2 ≤ first.level → best_from active (Some first) more ≡ Some best → IsFound active first more best
unfolding Finds
found_from active [] best first h e =
    let is = some_is first best e in record {
      among = inl (sym is);
      enough = subst (λ x. 2 ≤ x.level) is h;
      first_behind = subst (λ x. IsBehind active first x) is (itself active first);
      behind = λ one among. absurd among;
    }
found_from active (one ∷ more) best first h e =
    test active first one more best (goes_before active one first) refl h e (found_from active more best)

-- the best of a list
pub record IsTop (active : Option ℕ) (ready : List Candidate) (best : Candidate) : Type 0 where
  pub among : IsAmong best ready
  pub enough : 2 ≤ best.level
  pub behind : (one : Candidate) → IsAmong one ready → IsBehind active one best

first_found : (active : Option ℕ) (first : Candidate) (more : List Candidate) (best : Candidate)
    → IsFound active first more best
    → (one : Candidate) → ((one ≡ first) ⊎ IsAmong one more) → IsBehind active one best
first_found active first more best found one (inl is) = subst (λ x. IsBehind active x best) (sym is) found.first_behind
first_found active first more best found one (inr among) = found.behind one among

first_left : (active : Option ℕ) (first : Candidate) (more : List Candidate) (best : Candidate)
    → first.level < 2 → IsTop active more best
    → (one : Candidate) → ((one ≡ first) ⊎ IsAmong one more) → IsBehind active one best
first_left active first more best h top one (inl is) =
    subst (λ x. IsBehind active x best) (sym is) (let e = top.enough in inl (omega arith))
first_left active first more best h top one (inr among) = top.behind one among

top_test : (active : Option ℕ) (first : Candidate) (more : List Candidate) (best : Candidate) (b : Bool)
    → has_data first ≡ b → best_from active (if b then Some first else None) more ≡ Some best
    → (best_from active None more ≡ Some best → IsTop active more best) → IsTop active (first ∷ more) best
top_test active first more best true h e rest =
    let found = found_from active more best first (grind (arith, nat_tests)) e in record {
      among = found.among;
      enough = found.enough;
      behind = first_found active first more best found;
    }
top_test active first more best false h e rest = record {
  among = inr (rest e).among;
  enough = (rest e).enough;
  behind = first_left active first more best (grind (arith, nat_tests)) (rest e);
}

pub top : (active : Option ℕ) (ready : List Candidate) (best : Candidate)
    → best_of ready active ≡ Some best → IsTop active ready best
top active [] best e = absurd cc
top active (first ∷ more) best e = top_test active first more best _ refl e (top active more best)

-- ---- none

some_test : (active : Option ℕ) (first one : Candidate) (more : List Candidate) (b : Bool) → goes_before active one first ≡ b
    → best_from active (if b then Some one else Some first) more ≡ None
    → ((next : Candidate) → best_from active (Some next) more ≡ None → ⊥) → ⊥
some_test active first one more true g e rest = rest one e
some_test active first one more false g e rest = rest first e

some_stays : (active : Option ℕ) (more : List Candidate) (first : Candidate)
    → best_from active (Some first) more ≡ None → ⊥
some_stays active [] first e = absurd cc
some_stays active (one ∷ more) first e = some_test active first one more _ refl e (some_stays active more)

without_data : (first : Candidate) (more : List Candidate) → first.level < 2
    → ((one : Candidate) → IsAmong one more → one.level < 2)
    → (one : Candidate) → ((one ≡ first) ⊎ IsAmong one more) → one.level < 2
without_data first more h rest one (inl is) = subst (λ x. x.level < 2) (sym is) h
without_data first more h rest one (inr among) = rest one among

none_test : (active : Option ℕ) (first : Candidate) (more : List Candidate) (b : Bool)
    → has_data first ≡ b → best_from active (if b then Some first else None) more ≡ None
    → (best_from active None more ≡ None → (one : Candidate) → IsAmong one more → one.level < 2)
    → (one : Candidate) → ((one ≡ first) ⊎ IsAmong one more) → one.level < 2
none_test active first more true h e rest = absurd (some_stays active more first e)
none_test active first more false h e rest = without_data first more (grind (arith, nat_tests)) (rest e)

pub none_has : (active : Option ℕ) (ready : List Candidate) → best_of ready active ≡ None
    → (one : Candidate) → IsAmong one ready → one.level < 2
none_has active [] e = λ one among. absurd among
none_has active (first ∷ more) e = none_test active first more _ refl e (none_has active more)

left_out : (active : Option ℕ) (first : Candidate) (more : List Candidate) (b : Bool) → has_data first ≡ b → first.level < 2
    → best_from active (if b then Some first else None) more ≡ best_from active None more
left_out active first more true h less = absurd (grind (arith, nat_tests))
left_out active first more false h less = refl

pub has_none : (active : Option ℕ) (ready : List Candidate)
    → ((one : Candidate) → IsAmong one ready → one.level < 2) → best_of ready active ≡ None
has_none active [] less = refl
has_none active (first ∷ more) less =
    left_out active first more _ refl (less first (inl refl)) ∙ has_none active more (λ one among. less one (inr among))

-- ---- what was chosen

kept_test : (kept server : ℕ) (p q : Bool) → (kept == server) ≡ p → (kept == kept) ≡ q → turn_by p server ≤ turn_by q kept → server ≡ kept
kept_test kept server true q e f h = grind (arith, nat_tests)
kept_test kept server false true e f h = absurd (omega arith)
kept_test kept server false false e f h = absurd (grind (arith, nat_tests))

level_kept : (active : Option ℕ) (kept level : ℕ) (best : Candidate) → active ≡ Some kept → level ≡ best.level
    → IsBehind active (record { server = kept; level = level }) best → best.server ≡ kept
level_kept active kept level best is same (inl less) = absurd (omega arith)
level_kept active kept level best is same (inr turns) =
    kept_test kept best.server _ _ refl refl (subst (λ a. turn a best.server ≤ turn a kept) is turns.1)

not_active_test : (a server : ℕ) (b : Bool) → (a == server) ≡ b → ◌≢◌ {A = Option ℕ} (Some a) (Some server) → b ≡ false
not_active_test a server true e h = absurd (h (ap (λ n. Some n) (grind (arith, nat_tests))))
not_active_test a server false e h = refl

not_active : (active : Option ℕ) (server : ℕ) → active ≢ Some server → is_active active server ≡ false
not_active None server h = refl
not_active (Some a) server h = not_active_test a server _ refl h

lower_test : (server other : ℕ) (p q : Bool) → p ≡ false → turn_by p server ≤ turn_by q other → server ≤ other
lower_test server other true q e h = absurd cc
lower_test server other false true e h = absurd (omega arith)
lower_test server other false false e h = omega arith

level_lowest : (active : Option ℕ) (other level : ℕ) (best : Candidate) → active ≢ Some best.server → level ≡ best.level
    → IsBehind active (record { server = other; level = level }) best → best.server ≤ other
level_lowest active other level best isnt same (inl less) = absurd (omega arith)
level_lowest active other level best isnt same (inr turns) =
    lower_test best.server other _ _ (not_active active best.server isnt) turns.1

not_higher : (active : Option ℕ) (one best : Candidate) → IsBehind active one best → one.level ≤ best.level
not_higher active one best (inl less) = omega arith
not_higher active one best (inr turns) = let e = turns.0 in omega arith

is_best : (ready : List Candidate) (active : Option ℕ) (best : Candidate) → IsTop active ready best
    → IsBest ready active best.server
is_best ready active best top = record {
  level = best.level;
  listed = top.among;
  has_data = top.enough;
  highest = λ other among. not_higher active other best (top.behind other among);
  keeps = λ kept is among. level_kept active kept best.level best is refl (top.behind _ among);
  lowest = λ isnt other among. level_lowest active other best.level best isnt refl (top.behind _ among);
}

by_option : (ready : List Candidate) (active : Option ℕ) (server : ℕ) (o : Option Candidate) → best_of ready active ≡ o
    → server_of o ≡ Some server → IsBest ready active server
by_option ready active server None e f = absurd cc
by_option ready active server (Some best) e f =
    let is : best.server ≡ server = cc in
    subst (IsBest ready active) is (is_best ready active best (top active ready best e))

pub chosen : (ready : List Candidate) (active : Option ℕ) (server : ℕ) → choose ready active ≡ Some server
    → IsBest ready active server
chosen ready active server e = by_option ready active server _ refl e

no_server : (o : Option Candidate) → server_of o ≡ None → o ≡ None
no_server None e = refl
no_server (Some best) e = absurd cc

pub none_chosen : (ready : List Candidate) (active : Option ℕ)
    → (choose ready active ≡ None) ↔ ((one : Candidate) → IsAmong one ready → one.level < 2)
none_chosen ready active = (λ e. none_has active ready (no_server (best_of ready active) e), λ less. ap server_of (has_none active ready less))

-- ---- switches

switch_test : (m n from to : ℕ) (same : Bool)
    → if◌then◌else◌ {A = Option (ℕ × ℕ)} same None (Some (m, n)) ≡ Some (from, to)
    → (m ≡ from) × (n ≡ to)
switch_test m n from to true e = absurd cc
switch_test m n from to false e = let is : ◌≡◌ {A = ℕ × ℕ} (m, n) (from, to) = cc in (ap (λ p. p.0) is, ap (λ p. p.1) is)

pub switched : (ready : List Candidate) (core : CoreState) (from to : ℕ) → switch_of ready core ≡ Some (from, to)
    → (number_of core.active ≡ from) × (number_of (decided ready core).active ≡ to)
    × ((server : ℕ) → (decided ready core).active ≡ Some server → IsBest ready core.active server)
switched ready core from to e =
    let both = switch_test (number_of core.active) (number_of (choose ready core.active)) from to (is_same core.active (choose ready core.active)) e in
    (both.0, both.1, λ server is. chosen ready core.active server is)
