-- What always holds holds after each call.
use Rattle.std.proofs.Common.{◌≡◌, ℕ, ◌+◌, ◌-◌, ◌<◌, ◌≤◌, ◌^◌, List, [], ◌∷◌, ◌++◌, Bool, true, false, cond, not, ◌&&◌, ◌||◌, ◌==◌, nat_lt, Option, Some, None, length, refl, sym, ◌∙◌, ap, subst, arith, length-append, suc}
use Rattle.std.specs.List.{All, filter, list_any}
use Rattle.std.specs.Prelude.{map}
use Rattle.std.proofs.lemmas.Bool.Decides.{nat_tests}
use Rattle.std.proofs.lemmas.List.{length-map, map-append}
use Rattle.std.proofs.lemmas.List.Elements.{All-filter, All-map, All-nil, All-push, All-weaker}
use Rattle.sessions.specs.declared.ownership.Ownership.{Ownership}
use Rattle.sessions.specs.declared.session.Session.{Session}
use Rattle.sessions.specs.Calls.{AreAllowed, Call, Create, Activate, Check, Bound, Unbind, Close, Expire, Park, Unpark, Own, Disown, Transfer, IsAllowed, after_call, after_calls, after_create}
use Rattle.sessions.specs.Session as one
use Rattle.sessions.specs.Session.{has_token, is_numbered, is_unbound, lasts_past, new_session}
use Rattle.sessions.specs.Sound.{AreApart, IsOwned, IsSound, IsTidy, RiseAbove, counters}
use Rattle.sessions.specs.State.{SessionsState}
use Rattle.sessions.specs.Table.{are_bound, at_first, created, given_to, is_full, keeps, lives, may_transfer, no_sessions, owned_by, session_at, transferred, with_room, with_sessions, without_first}
use Rattle.sessions.proofs.Counters.{Numbers, counters_at_first, counters_map, given_kept, given_without, lives_by_counter, rise_kept, rise_more, rise_without}
use Rattle.sessions.proofs.Moments.{length_kept}
use Rattle.sessions.proofs.Owners.{apart_among, apart_given, apart_more, apart_part, not_kept, owners_among, owners_given, owners_stay, same_number}
use Rattle.sessions.proofs.Tidy.{bound_found, tidy_activated, tidy_first, tidy_new, tidy_parked, tidy_requested, tidy_unbound, tidy_unparked, tidy_without}

-- the sessions change, and their counters stay
same_length : (before after : List Session) → counters after ≡ counters before → length after ≡ length before
same_length before after same =
    sym (length-map after (λ session. session.counter)) ∙ ap length same ∙ length-map before (λ session. session.counter)

pub sound_changed : (state : SessionsState) (after : List Session) → IsSound state → counters after ≡ counters state.sessions → All IsTidy after
    → IsSound (record state { sessions = after })
sound_changed state after h same tidy =
    let long : length after ≡ length state.sessions = same_length state.sessions after same in
    let most = h.most in
    record {
      rise = subst (RiseAbove 0) (sym same) h.rise;
      given = subst (All (λ counter. counter ≤ state.last_counter)) (sym same) h.given;
      last = h.last;
      most = omega arith;
      tidy = tidy;
      owners = owners_stay state.sessions after state.owned
          (λ counter. lives_by_counter counter after ∙ ap (list_any (λ n. n == counter)) same ∙ sym (lives_by_counter counter state.sessions)) h.owners;
      apart = h.apart;
    }

-- the sessions are others, and what those owned that are no more has no owner
pub sound_others : (state : SessionsState) (after : List Session) → state.last_counter < 2 ^ 32 → AreApart state.owned → RiseAbove 0 (counters after)
    → All (λ counter. counter ≤ state.last_counter) (counters after) → length after ≤ 16 → All IsTidy after
    → IsSound (with_sessions after state)
sound_others state after last apart rise given most tidy = record {
  rise = rise;
  given = given;
  last = last;
  most = most;
  tidy = tidy;
  owners = owners_among after state.owned;
  apart = apart_among after state.owned apart;
}

sound_kept : (state : SessionsState) (p : Session → Bool) → IsSound state → IsSound (with_sessions (filter p state.sessions) state)
sound_kept state p h =
    let fewer = length_kept p state.sessions in
    let most = h.most in
    sound_others state (filter p state.sessions) h.last h.apart (rise_kept p 0 state.sessions h.rise)
    (given_kept p state.last_counter state.sessions h.given) (omega arith) (All-filter p IsTidy state.sessions h.tidy)

-- one session changes
pub sound_first : (state : SessionsState) (test : Session → Bool) (change : Session → Session) → IsSound state → Numbers change
    → ((session : Session) → IsTidy session → IsTidy (change session))
    → IsSound (record state { sessions = at_first test change state.sessions })
sound_first state test change h numbers keeps =
    sound_changed state (at_first test change state.sessions) h (counters_at_first test change state.sessions numbers)
    (tidy_first test change state.sessions h.tidy (λ session is. keeps session))

-- with room for one more
unbound_step : (session : Session) (sessions : List Session) (b : Bool) → is_unbound session ≡ b
    → (not b && are_bound sessions) ≡ false → (are_bound sessions ≡ false → length (without_first is_unbound sessions) + 1 ≡ length sessions)
    → length (cond b sessions (session ∷ without_first is_unbound sessions)) + 1 ≡ suc (length sessions)
unbound_step session sessions true is some rest = omega arith
unbound_step session sessions false is some rest = let fewer = rest some in omega arith

one_leaves : (sessions : List Session) → are_bound sessions ≡ false → length (without_first is_unbound sessions) + 1 ≡ length sessions
one_leaves [] some = absurd cc
one_leaves (session ∷ sessions) some = unbound_step session sessions _ refl some (one_leaves sessions)

length_room : (sessions : List Session) (b : Bool) → nat_lt (length sessions) 16 ≡ b → (not b && are_bound sessions) ≡ false
    → length sessions ≤ 16 → length (cond b sessions (without_first is_unbound sessions)) + 1 ≤ 16
length_room sessions true test some most = let room : length sessions < 16 = grind (arith, nat_tests) in omega arith
length_room sessions false test some most = let fewer = one_leaves sessions some in omega arith

rise_room : (sessions : List Session) (b : Bool) → RiseAbove 0 (counters sessions)
    → RiseAbove 0 (counters (cond b sessions (without_first is_unbound sessions)))
rise_room sessions true rise = rise
rise_room sessions false rise = rise_without is_unbound 0 sessions rise

given_room : (last : ℕ) (sessions : List Session) (b : Bool) → All (λ counter. counter ≤ last) (counters sessions)
    → All (λ counter. counter ≤ last) (counters (cond b sessions (without_first is_unbound sessions)))
given_room last sessions true given = given
given_room last sessions false given = given_without is_unbound last sessions given

tidy_room : (sessions : List Session) (b : Bool) → All IsTidy sessions → All IsTidy (cond b sessions (without_first is_unbound sessions))
tidy_room sessions true tidy = tidy
tidy_room sessions false tidy = tidy_without is_unbound sessions tidy

neither : (first second : Bool) → (first || second) ≡ false → (first ≡ false) × (second ≡ false)
neither true second is = absurd cc
neither false second is = (refl, is)

pub sound_created : (state : SessionsState) (conn : ℕ) (uri : Option (List ℕ)) (timeout now : ℕ) → IsSound state → is_full state ≡ false
    → IsSound (created conn uri timeout now state)
sound_created state conn uri timeout now h room =
    let free = neither (not (nat_lt (length state.sessions) 16) && are_bound state.sessions) (state.last_counter == 2 ^ 32 - 1) room in
    let session : Session = new_session (state.last_counter + 1) conn uri timeout now in
    let left : List Session = with_room state.sessions in
    let rise : RiseAbove 0 (counters left) = rise_room state.sessions (nat_lt (length state.sessions) 16) h.rise in
    let given : All (λ counter. counter ≤ state.last_counter) (counters left) =
    given_room state.last_counter state.sessions (nat_lt (length state.sessions) 16) h.given in
    let most : length left + 1 ≤ 16 = length_room state.sessions _ refl free.0 h.most in
    let tidy : All IsTidy left = tidy_room state.sessions (nat_lt (length state.sessions) 16) h.tidy in
    let last = h.last in
    let more : state.last_counter + 1 < 2 ^ 32 = last_more state.last_counter last free.1 in
    let long = length-append left (session ∷ []) in
    let numbers : counters (left ++ session ∷ []) ≡ counters left ++ (state.last_counter + 1) ∷ [] = map-append (λ s. s.counter) left (session ∷ []) in
    sound_others (record state { last_counter = state.last_counter + 1 }) (left ++ session ∷ []) more h.apart
    (subst (RiseAbove 0) (sym numbers) (rise_more 0 state.last_counter (counters left) (omega arith) rise given))
    (subst (All (λ counter. counter ≤ state.last_counter + 1)) (sym numbers)
    (All-push (λ counter. counter ≤ state.last_counter + 1) (counters left) (state.last_counter + 1)
    (All-weaker (λ counter. counter ≤ state.last_counter) (λ counter. counter ≤ state.last_counter + 1) (λ counter under. omega arith) (counters left) given)
    (omega arith)))
    (omega arith)
    (All-push IsTidy left session tidy (tidy_new (state.last_counter + 1) conn uri timeout now))
  where
    last_more : (last : ℕ) → last < 2 ^ 32 → (last == 2 ^ 32 - 1) ≡ false → last + 1 < 2 ^ 32
    last_more last under other = grind (arith, nat_tests)

sound_create : (state : SessionsState) (conn : ℕ) (uri : Option (List ℕ)) (timeout now : ℕ) (b : Bool) → is_full state ≡ b → IsSound state
    → IsSound (after_create b conn uri timeout now state)
sound_create state conn uri timeout now true is h = h
sound_create state conn uri timeout now false is h = sound_created state conn uri timeout now h is

-- a test of a session leaves its counter, whichever way it goes
either : (b : Bool) (first second : Session) (counter : ℕ) → first.counter ≡ counter → second.counter ≡ counter → (cond b first second).counter ≡ counter
either true first second counter one other = one
either false first second counter one other = other

requested_numbers : (conn now : ℕ) → Numbers (one.requested conn now)
requested_numbers conn now session = either (one.is_bound_to conn session) _ _ session.counter refl refl

activated_numbers : (conn now : ℕ) → Numbers (one.activated conn now)
activated_numbers conn now session = either (one.may_activate conn session) _ _ session.counter refl refl

unbound_numbers : (conn : ℕ) → Numbers (one.unbound_from conn)
unbound_numbers conn session = either (one.is_bound_to conn session) _ _ session.counter refl refl

-- an owner is one of the sessions
sound_owned : (state : SessionsState) (id counter : ℕ) (found : Option Session) → session_at counter state.sessions ≡ found → IsSound state
    → lives counter state.sessions ≡ true → keeps id state.owned ≡ false → IsSound (owned_by id found state)
sound_owned state id counter None is h exists fresh = h
sound_owned state id counter (Some session) is h exists fresh =
    let numbered : session.counter ≡ counter = same_number counter state.sessions session is in
    let ownership : Ownership = record { id = id; owner = Some session.counter; uri = session.uri } in
    record {
      rise = h.rise;
      given = h.given;
      last = h.last;
      most = h.most;
      tidy = h.tidy;
      owners = All-push (IsOwned state.sessions) state.owned ownership h.owners (ap (λ n. lives n state.sessions) numbered ∙ exists);
      apart = apart_more state.owned ownership h.apart (not_kept id state.owned fresh);
    }

-- a subscription goes to a session that exists
sound_given : (state : SessionsState) (id to : ℕ) → IsSound state → lives to state.sessions ≡ true → IsSound (transferred id to state)
sound_given state id to h exists = by_test (may_transfer id to state)
  where
    by_test : (b : Bool) → IsSound (cond b (record state { owned = map (given_to id to) state.owned }) state)
    by_test true = record {
      rise = h.rise;
      given = h.given;
      last = h.last;
      most = h.most;
      tidy = h.tidy;
      owners = owners_given id to state.sessions state.owned exists h.owners;
      apart = apart_given id to state.owned h.apart;
    }
    by_test false = h

pub sound_start : (boot : ℕ) → IsSound (no_sessions boot)
sound_start boot = record {
  rise = tt;
  given = All-nil (λ counter. counter ≤ 0);
  last = omega arith;
  most = omega arith;
  tidy = All-nil IsTidy;
  owners = All-nil (IsOwned []);
  apart = tt;
}

pub sound_step : (call : Call) (state : SessionsState) → IsAllowed call state → IsSound state → IsSound (after_call call state)
sound_step (Create conn uri timeout now) state allowed h = sound_create state conn uri timeout now _ refl h
sound_step (Activate token conn now) state allowed h =
    sound_first state (has_token state.boot token) (one.activated conn now) h (activated_numbers conn now) (tidy_activated conn now)
sound_step (Check token conn now) state allowed h =
    sound_first state (has_token state.boot token) (one.requested conn now) h (requested_numbers conn now) (tidy_requested conn now)
sound_step (Bound token conn now) state allowed h =
    sound_first state (has_token state.boot token) (one.requested conn now) h (requested_numbers conn now) (tidy_requested conn now)
sound_step (Unbind conn) state allowed h =
    sound_changed state (map (one.unbound_from conn) state.sessions) h (counters_map (one.unbound_from conn) state.sessions (unbound_numbers conn))
    (All-map IsTidy (one.unbound_from conn) state.sessions
    (All-weaker IsTidy (λ session. IsTidy (one.unbound_from conn session)) (tidy_unbound conn) state.sessions h.tidy))
sound_step (Close session) state allowed h = sound_kept state (λ kept. not (is_numbered session kept)) h
sound_step (Expire now) state allowed h = sound_kept state (lasts_past now) h
sound_step (Park session publish) state allowed h =
    sound_changed state (at_first (is_numbered session) (one.with_parked publish) state.sessions) h
    (counters_at_first (is_numbered session) (one.with_parked publish) state.sessions (λ _. refl))
    (tidy_first (is_numbered session) (one.with_parked publish) state.sessions h.tidy
    (λ found is. tidy_parked publish found (bound_found (session_at session state.sessions) found allowed is)))
sound_step (Unpark session) state allowed h =
    sound_first state (is_numbered session) one.without_oldest h (λ _. refl) tidy_unparked
sound_step (Own id session) state allowed h = sound_owned state id session _ refl h allowed.0 allowed.1
sound_step (Disown id) state allowed h = record {
  rise = h.rise;
  given = h.given;
  last = h.last;
  most = h.most;
  tidy = h.tidy;
  owners = All-filter (λ ownership. not (ownership.id == id)) (IsOwned state.sessions) state.owned h.owners;
  apart = apart_part (λ ownership. not (ownership.id == id)) state.owned h.apart;
}
sound_step (Transfer id to) state allowed h = sound_given state id to h allowed

sound_from : (calls : List Call) (state : SessionsState) → AreAllowed calls state → IsSound state → IsSound (after_calls calls state)
sound_from [] state allowed h = h
sound_from (call ∷ calls) state allowed h = sound_from calls (after_call call state) allowed.1 (sound_step call state allowed.0 h)

pub sound_always : (boot : ℕ) (calls : List Call) → AreAllowed calls (no_sessions boot) → IsSound (after_calls calls (no_sessions boot))
sound_always boot calls allowed = sound_from calls (no_sessions boot) allowed (sound_start boot)
