-- The counters of the sessions, and of those that calls give.
use Rattle.std.proofs.Common.{◌≡◌, ℕ, ◌+◌, ◌<◌, ◌≤◌, List, [], ◌∷◌, ◌++◌, Bool, true, false, cond, ◌||◌, refl, ap, ap₂, arith}
use Rattle.std.specs.List.{All, filter, list_any}
use Rattle.std.specs.Prelude.{map, ◌==◌, is_some, Option, Some, None}
use Rattle.std.proofs.lemmas.List.Elements.{All-head, All-tail, All-cons}
use Rattle.sessions.specs.declared.session.Session.{Session}
use Rattle.sessions.specs.Calls.{Call, Create, Activate, Check, Bound, Unbind, Close, Expire, Park, Unpark, Own, Disown, Transfer, after_call, after_create, counters_given, given_by_create}
use Rattle.sessions.specs.Sound.{RiseAbove, counters}
use Rattle.sessions.specs.State.{SessionsState}
use Rattle.sessions.specs.Table.{at_first, given_to, is_full, lives, may_transfer, owned_by, session_at, transferred, without_first}

-- what changes a session and leaves its counter
abbrev pub Numbers : (Session → Session) → Type 0
Numbers change = (session : Session) → (change session).counter ≡ session.counter

at_test : (change : Session → Session) (session : Session) (sessions changed : List Session) (b : Bool) → Numbers change
    → counters changed ≡ counters sessions → counters (cond b (change session ∷ sessions) (session ∷ changed)) ≡ counters (session ∷ sessions)
at_test change session sessions changed true numbers rest = ap (λ counter. counter ∷ counters sessions) (numbers session)
at_test change session sessions changed false numbers rest = ap (λ more. session.counter ∷ more) rest

pub counters_at_first : (test : Session → Bool) (change : Session → Session) (sessions : List Session) → Numbers change
    → counters (at_first test change sessions) ≡ counters sessions
counters_at_first test change [] numbers = refl
counters_at_first test change (session ∷ sessions) numbers =
    at_test change session sessions (at_first test change sessions) (test session) numbers (counters_at_first test change sessions numbers)

pub counters_map : (change : Session → Session) (sessions : List Session) → Numbers change → counters (map change sessions) ≡ counters sessions
counters_map change [] numbers = refl
counters_map change (session ∷ sessions) numbers = ap₂ (λ counter more. counter ∷ more) (numbers session) (counters_map change sessions numbers)

-- rising above a number is rising above a lower one
rise_lower : (low high : ℕ) (numbers : List ℕ) → low ≤ high → RiseAbove high numbers → RiseAbove low numbers
rise_lower low high [] under rises = tt
rise_lower low high (number ∷ numbers) under rises = let above = rises.0 in (omega arith, rises.1)

-- one goes or stays
rise_test : (low : ℕ) (session : Session) (sessions : List Session) (b : Bool) → low < session.counter
    → RiseAbove session.counter (counters sessions) → RiseAbove low (counters (cond b (session ∷ sessions) sessions))
rise_test low session sessions true above rises = (above, rises)
rise_test low session sessions false above rises = rise_lower low session.counter (counters sessions) (omega arith) rises

pub rise_kept : (p : Session → Bool) (low : ℕ) (sessions : List Session) → RiseAbove low (counters sessions) → RiseAbove low (counters (filter p sessions))
rise_kept p low [] rises = tt
rise_kept p low (session ∷ sessions) rises =
    rise_test low session (filter p sessions) (p session) rises.0 (rise_kept p session.counter sessions rises.1)

given_test : (last : ℕ) (session : Session) (sessions : List Session) (b : Bool) → session.counter ≤ last
    → All (λ counter. counter ≤ last) (counters sessions) → All (λ counter. counter ≤ last) (counters (cond b (session ∷ sessions) sessions))
given_test last session sessions true first given = All-cons (λ counter. counter ≤ last) session.counter (counters sessions) first given
given_test last session sessions false first given = given

pub given_kept : (p : Session → Bool) (last : ℕ) (sessions : List Session) → All (λ counter. counter ≤ last) (counters sessions)
    → All (λ counter. counter ≤ last) (counters (filter p sessions))
given_kept p last [] given = given
given_kept p last (session ∷ sessions) given =
    given_test last session (filter p sessions) (p session) (All-head (λ counter. counter ≤ last) session.counter (counters sessions) given)
    (given_kept p last sessions (All-tail (λ counter. counter ≤ last) session.counter (counters sessions) given))

-- without the first that passes
rise_left : (low : ℕ) (session : Session) (sessions left : List Session) (b : Bool) → low < session.counter
    → RiseAbove session.counter (counters sessions) → RiseAbove session.counter (counters left)
    → RiseAbove low (counters (cond b sessions (session ∷ left)))
rise_left low session sessions left true above rises rest = rise_lower low session.counter (counters sessions) (omega arith) rises
rise_left low session sessions left false above rises rest = (above, rest)

pub rise_without : (test : Session → Bool) (low : ℕ) (sessions : List Session) → RiseAbove low (counters sessions)
    → RiseAbove low (counters (without_first test sessions))
rise_without test low [] rises = tt
rise_without test low (session ∷ sessions) rises =
    rise_left low session sessions (without_first test sessions) (test session) rises.0 rises.1 (rise_without test session.counter sessions rises.1)

-- one more above all
pub rise_more : (low last : ℕ) (numbers : List ℕ) → low ≤ last → RiseAbove low numbers → All (λ number. number ≤ last) numbers
    → RiseAbove low (numbers ++ (last + 1) ∷ [])
rise_more low last [] under rises most = (omega arith, tt)
rise_more low last (number ∷ numbers) under rises most =
    (rises.0, rise_more number last numbers (All-head (λ number. number ≤ last) number numbers most) rises.1 (All-tail (λ number. number ≤ last) number numbers most))

-- whether a session exists is a question of the counters
known : (counter : ℕ) (session : Session) (sessions : List Session) (b : Bool) → is_some (session_at counter sessions) ≡ list_any (λ n. n == counter) (counters sessions)
    → is_some (cond b (Some session) (session_at counter sessions)) ≡ (b || list_any (λ n. n == counter) (counters sessions))
known counter session sessions true rest = refl
known counter session sessions false rest = rest

pub lives_by_counter : (counter : ℕ) (sessions : List Session) → lives counter sessions ≡ list_any (λ n. n == counter) (counters sessions)
lives_by_counter counter [] = refl
lives_by_counter counter (session ∷ sessions) = known counter session sessions (session.counter == counter) (lives_by_counter counter sessions)

pub last_owned : (id : ℕ) (session : Option Session) (state : SessionsState) → (owned_by id session state).last_counter ≡ state.last_counter
last_owned id None state = refl
last_owned id (Some session) state = refl

last_transferred : (id to : ℕ) (state : SessionsState) → (transferred id to state).last_counter ≡ state.last_counter
last_transferred id to state = by_test (may_transfer id to state)
  where
    by_test : (b : Bool) → (cond b (record state { owned = map (given_to id to) state.owned }) state).last_counter ≡ state.last_counter
    by_test true = refl
    by_test false = refl

-- the counters that are given rise above the one given last
pub given_rise : (calls : List Call) (state : SessionsState) (low : ℕ) → low ≤ state.last_counter → RiseAbove low (counters_given calls state)
given_rise [] state low under = tt
given_rise (Create conn uri timeout now ∷ calls) state low under =
    by_refusal (is_full state) (given_rise calls)
  where
    by_refusal : (b : Bool) → ((after : SessionsState) (low : ℕ) → low ≤ after.last_counter → RiseAbove low (counters_given calls after))
        → RiseAbove low (given_by_create b state ++ counters_given calls (after_create b conn uri timeout now state))
    by_refusal true rest = rest state low under
    by_refusal false rest = (omega arith, rest (after_create false conn uri timeout now state) (state.last_counter + 1) (omega arith))
given_rise (Activate token conn now ∷ calls) state low under = given_rise calls (after_call (Activate token conn now) state) low under
given_rise (Check token conn now ∷ calls) state low under = given_rise calls (after_call (Check token conn now) state) low under
given_rise (Bound token conn now ∷ calls) state low under = given_rise calls (after_call (Bound token conn now) state) low under
given_rise (Unbind conn ∷ calls) state low under = given_rise calls (after_call (Unbind conn) state) low under
given_rise (Close session ∷ calls) state low under = given_rise calls (after_call (Close session) state) low under
given_rise (Expire now ∷ calls) state low under = given_rise calls (after_call (Expire now) state) low under
given_rise (Park session publish ∷ calls) state low under = given_rise calls (after_call (Park session publish) state) low under
given_rise (Unpark session ∷ calls) state low under = given_rise calls (after_call (Unpark session) state) low under
given_rise (Own id session ∷ calls) state low under =
    given_rise calls (after_call (Own id session) state) low (rw (last_owned id (session_at session state.sessions) state) under)
given_rise (Disown id ∷ calls) state low under = given_rise calls (after_call (Disown id) state) low under
given_rise (Transfer id to ∷ calls) state low under =
    given_rise calls (after_call (Transfer id to) state) low (rw (last_transferred id to state) under)

given_left : (last : ℕ) (session : Session) (sessions left : List Session) (b : Bool) → All (λ counter. counter ≤ last) (counters (session ∷ sessions))
    → All (λ counter. counter ≤ last) (counters left) → All (λ counter. counter ≤ last) (counters (cond b sessions (session ∷ left)))
given_left last session sessions left true given rest = All-tail (λ counter. counter ≤ last) session.counter (counters sessions) given
given_left last session sessions left false given rest =
    All-cons (λ counter. counter ≤ last) session.counter (counters left)
    (All-head (λ counter. counter ≤ last) session.counter (counters sessions) given) rest

pub given_without : (test : Session → Bool) (last : ℕ) (sessions : List Session) → All (λ counter. counter ≤ last) (counters sessions)
    → All (λ counter. counter ≤ last) (counters (without_first test sessions))
given_without test last [] given = given
given_without test last (session ∷ sessions) given =
    given_left last session sessions (without_first test sessions) (test session) given
    (given_without test last sessions (All-tail (λ counter. counter ≤ last) session.counter (counters sessions) given))
