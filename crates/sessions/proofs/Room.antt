-- Which session leaves where one more is made.
use Rattle.std.proofs.Common.{◌≡◌, ℕ, ◌+◌, ◌<◌, ◌≤◌, List, [], ◌∷◌, Bool, true, false, cond, nat_lt, Option, Some, None, length, refl, sym, ◌∙◌, ap, arith}
use Rattle.std.specs.Prelude.{◌==◌, is_some}
use Rattle.std.specs.Option.{option_or}
use Rattle.std.proofs.lemmas.Bool.Decides.{nat_tests}
use Rattle.std.proofs.lemmas.List.Folds.{find-append}
use Rattle.sessions.specs.declared.session.Session.{Session}
use Rattle.sessions.specs.Session.{is_numbered, is_unbound, new_session}
use Rattle.sessions.specs.Sound.{IsOldestUnbound, IsSound, RiseAbove, counters}
use Rattle.sessions.specs.State.{SessionsState}
use Rattle.sessions.specs.Table.{created, lives, session_at, with_room, without_first}

-- the session of a counter in a list of which the first one is known
found_first : (counter : ℕ) (first : Session) (more : Option Session) (session : Session) (k : Bool) → cond k (Some first) more ≡ Some session
    → (k ≡ true → first ≡ session → ⊥) → more ≡ Some session
found_first counter first more session true is other = absurd (other refl cc)
found_first counter first more session false is other = is

-- a session that is bound stays
stays_step : (counter : ℕ) (first : Session) (sessions : List Session) (session : Session) (b k : Bool) → is_unbound first ≡ b → (first.counter == counter) ≡ k
    → cond k (Some first) (session_at counter sessions) ≡ Some session → is_unbound session ≡ false
    → (session_at counter sessions ≡ Some session → session_at counter (without_first is_unbound sessions) ≡ Some session)
    → session_at counter (cond b sessions (first ∷ without_first is_unbound sessions)) ≡ Some session
stays_step counter first sessions session true true free numbered is bound rest =
    let same : first ≡ session = cc in
    absurd (cc (sym free ∙ ap is_unbound same ∙ bound))
stays_step counter first sessions session true false free numbered is bound rest = is
stays_step counter first sessions session false true free numbered is bound rest = rw numbered is
stays_step counter first sessions session false false free numbered is bound rest = rw numbered (rest is)

stays_without : (counter : ℕ) (sessions : List Session) (session : Session) → session_at counter sessions ≡ Some session → is_unbound session ≡ false
    → session_at counter (without_first is_unbound sessions) ≡ Some session
stays_without counter [] session is bound = is
stays_without counter (first ∷ sessions) session is bound =
    stays_step counter first sessions session _ _ refl refl is bound (λ more. stays_without counter sessions session more bound)

stays_room : (counter : ℕ) (sessions : List Session) (session : Session) (room : Bool) → session_at counter sessions ≡ Some session
    → is_unbound session ≡ false → session_at counter (cond room sessions (without_first is_unbound sessions)) ≡ Some session
stays_room counter sessions session true is bound = is
stays_room counter sessions session false is bound = stays_without counter sessions session is bound

pub stays : (counter conn : ℕ) (uri : Option (List ℕ)) (timeout now : ℕ) (session : Session) (state : SessionsState)
    → session_at counter state.sessions ≡ Some session → is_unbound session ≡ false
    → session_at counter (created conn uri timeout now state).sessions ≡ Some session
stays counter conn uri timeout now session state is bound =
    let new : Session = new_session (state.last_counter + 1) conn uri timeout now in
    find-append (is_numbered counter) (with_room state.sessions) (new ∷ [])
    ∙ ap (λ found. option_or found (session_at counter (new ∷ [])))
    (stays_room counter state.sessions session (nat_lt (length state.sessions) 16) is bound)

-- a session behind has a higher counter
above_step : (low counter : ℕ) (first : Session) (more : Option Session) (session : Session) (k : Bool) → (first.counter == counter) ≡ k
    → cond k (Some first) more ≡ Some session → low < first.counter → (more ≡ Some session → first.counter < counter) → low < counter
above_step low counter first more session true test is above rest = let same : first.counter ≡ counter = grind (arith, nat_tests) in omega arith
above_step low counter first more session false test is above rest = let later = rest is in omega arith

above : (low counter : ℕ) (sessions : List Session) (session : Session) → RiseAbove low (counters sessions) → session_at counter sessions ≡ Some session
    → low < counter
above low counter [] session rises is = absurd cc
above low counter (first ∷ sessions) session rises is =
    above_step low counter first (session_at counter sessions) session _ refl is rises.0
    (λ more. above first.counter counter sessions session rises.1 more)

-- where the first one leaves, all others stand behind it
behind : (counter other : ℕ) (first another : Session) (sessions : List Session) (k : Bool) → (first.counter == other) ≡ k → first.counter ≡ counter
    → RiseAbove first.counter (counters sessions) → cond k (Some first) (session_at other sessions) ≡ Some another → counter ≤ other
behind counter other first another sessions true test same rises is = let same_other : first.counter ≡ other = grind (arith, nat_tests) in omega arith
behind counter other first another sessions false test same rises is =
    let later = above first.counter other sessions another rises is in omega arith

-- a bound one that stands first is not among the unbound
not_first : (other : ℕ) (first another : Session) (more : Option Session) (k : Bool) → is_unbound first ≡ false → is_unbound another ≡ true
    → cond k (Some first) more ≡ Some another → more ≡ Some another
not_first other first another more true bound free is =
    let same : first ≡ another = cc in absurd (cc (sym bound ∙ ap is_unbound same ∙ free))
not_first other first another more false bound free is = is

leaves_step : (low counter : ℕ) (first : Session) (sessions : List Session) (session : Session) (b k : Bool) → is_unbound first ≡ b
    → (first.counter == counter) ≡ k → low < first.counter → RiseAbove first.counter (counters sessions)
    → cond k (Some first) (session_at counter sessions) ≡ Some session
    → session_at counter (cond b sessions (first ∷ without_first is_unbound sessions)) ≡ None
    → (session_at counter sessions ≡ Some session → session_at counter (without_first is_unbound sessions) ≡ None → IsOldestUnbound counter session sessions)
    → IsOldestUnbound counter session (first ∷ sessions)
leaves_step low counter first sessions session true true free numbered under rises is gone rest =
    let same : first ≡ session = cc in
    let number : first.counter ≡ counter = grind (arith, nat_tests) in
    record {
      unbound = ap is_unbound (sym same) ∙ free;
      oldest = λ other another found out. behind counter other first another sessions _ refl number rises found;
    }
leaves_step low counter first sessions session true false free numbered under rises is gone rest = absurd (cc (sym is ∙ gone))
leaves_step low counter first sessions session false true free numbered under rises is gone rest =
    let here : session_at counter (first ∷ without_first is_unbound sessions) ≡ Some first = rw numbered refl in
    absurd (cc (sym here ∙ gone))
leaves_step low counter first sessions session false false free numbered under rises is gone rest =
    let not_here : session_at counter (first ∷ without_first is_unbound sessions) ≡ session_at counter (without_first is_unbound sessions) = rw numbered refl in
    let h = rest is (sym not_here ∙ gone) in
    record {
      unbound = h.unbound;
      oldest = λ other another found out.
          h.oldest other another (not_first other first another (session_at other sessions) (first.counter == other) free out found) out;
    }

leaves_without : (low counter : ℕ) (sessions : List Session) (session : Session) → RiseAbove low (counters sessions)
    → session_at counter sessions ≡ Some session → session_at counter (without_first is_unbound sessions) ≡ None → IsOldestUnbound counter session sessions
leaves_without low counter [] session rises is gone = absurd cc
leaves_without low counter (first ∷ sessions) session rises is gone =
    leaves_step low counter first sessions session _ _ refl refl rises.0 rises.1 is gone
    (λ more left. leaves_without first.counter counter sessions session rises.1 more left)

leaves_room : (counter : ℕ) (sessions : List Session) (session : Session) (room : Bool) → RiseAbove 0 (counters sessions)
    → session_at counter sessions ≡ Some session → session_at counter (cond room sessions (without_first is_unbound sessions)) ≡ None
    → IsOldestUnbound counter session sessions
leaves_room counter sessions session true rises is gone = absurd (cc (sym is ∙ gone))
leaves_room counter sessions session false rises is gone = leaves_without 0 counter sessions session rises is gone

-- what is no part of a whole is no part of its front
no_front : (front back : Option Session) → is_some (option_or front back) ≡ false → front ≡ None
no_front None back none = refl
no_front (Some session) back none = absurd cc

pub leaves_oldest : (counter conn : ℕ) (uri : Option (List ℕ)) (timeout now : ℕ) (session : Session) (state : SessionsState) → IsSound state
    → session_at counter state.sessions ≡ Some session → lives counter (created conn uri timeout now state).sessions ≡ false
    → IsOldestUnbound counter session state.sessions
leaves_oldest counter conn uri timeout now session state h is gone =
    let new : Session = new_session (state.last_counter + 1) conn uri timeout now in
    let whole = find-append (is_numbered counter) (with_room state.sessions) (new ∷ []) in
    leaves_room counter state.sessions session (nat_lt (length state.sessions) 16) h.rise is
    (no_front (session_at counter (with_room state.sessions)) (session_at counter (new ∷ [])) (ap is_some (sym whole) ∙ gone))
