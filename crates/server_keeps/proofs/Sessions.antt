-- Every call on the sessions leaves queued Publishes that keep the limits.
use Rattle.std.proofs.Common.{ℕ, ◌+◌, List, [], ◌∷◌, ◌++◌, Bool, not, Option, Some, None, IfSome, map, drop, length, nat_lt}
use Rattle.std.specs.List.{AllByRecursion}
use Rattle.sessions.specs.declared.session.Parked.{Parked}
use Rattle.sessions.specs.declared.session.Session.{Session}
use Rattle.sessions.specs.Session as one
use Rattle.sessions.specs.Session.{is_bound_to, is_numbered, is_unbound, may_activate, new_session}
use Rattle.sessions.specs.State.{SessionsState}
use Rattle.sessions.specs.Table.{activated, at_first, closed, created, disowned, driven_out_of, expired, given_to, may_transfer, oldest_of, owned, owned_by, parked, requested, session_at, transferred, unbound, unparked, with_room, without_first}
use Rattle.server_keeps.specs.Fitting.{FitsParked, FitsSession}
use Rattle.server_keeps.proofs.Lists.{all_drop, all_filter, all_map, all_more, choice, found, got}

abbrev pub FitSessions : SessionsState → Type 0
FitSessions state = AllByRecursion FitsSession state.sessions

all_at_first : (test : Session → Bool) (change : Session → Session) → ((session : Session) → FitsSession session → FitsSession (change session))
    → (sessions : List Session) → AllByRecursion FitsSession sessions → AllByRecursion FitsSession (at_first test change sessions)
all_at_first test change step [] h = tt
all_at_first test change step (session ∷ sessions) h =
    choice (AllByRecursion FitsSession) (test session) (change session ∷ sessions) (session ∷ at_first test change sessions)
    (step session h.0, h.1) (h.0, all_at_first test change step sessions h.1)

all_without_first : (test : Session → Bool) (sessions : List Session) → AllByRecursion FitsSession sessions
    → AllByRecursion FitsSession (without_first test sessions)
all_without_first test [] h = tt
all_without_first test (session ∷ sessions) h =
    choice (AllByRecursion FitsSession) (test session) sessions (session ∷ without_first test sessions) h.1 (h.0, all_without_first test sessions h.1)

room_fits : (sessions : List Session) → AllByRecursion FitsSession sessions → AllByRecursion FitsSession (with_room sessions)
room_fits sessions h =
    choice (AllByRecursion FitsSession) (nat_lt (length sessions) 16) sessions (without_first is_unbound sessions) h (all_without_first is_unbound sessions h)

pub created_fits : (conn : ℕ) (uri : Option (List ℕ)) (timeout now : ℕ) (state : SessionsState) → FitSessions state
    → FitSessions (created conn uri timeout now state)
created_fits conn uri timeout now state h =
    all_more FitsSession (with_room state.sessions) (new_session (state.last_counter + 1) conn uri timeout now) (room_fits state.sessions h) tt

activated_fits_one : (conn now : ℕ) (session : Session) → FitsSession session → FitsSession (one.activated conn now session)
activated_fits_one conn now session h =
    choice FitsSession (may_activate conn session) (one.activated_on conn now session) session
    (choice (AllByRecursion FitsParked) (is_bound_to conn session) session.queued [] h tt) h

pub activated_fits : (token : Option (List ℕ)) (conn now : ℕ) (state : SessionsState) → FitSessions state → FitSessions (activated token conn now state)
activated_fits token conn now state h = all_at_first (one.has_token state.boot token) (one.activated conn now) (activated_fits_one conn now) state.sessions h

requested_fits_one : (conn now : ℕ) (session : Session) → FitsSession session → FitsSession (one.requested conn now session)
requested_fits_one conn now session h = choice FitsSession (is_bound_to conn session) (record session { last = now }) session h h

pub requested_fits : (token : Option (List ℕ)) (conn now : ℕ) (state : SessionsState) → FitSessions state → FitSessions (requested token conn now state)
requested_fits token conn now state h = all_at_first (one.has_token state.boot token) (one.requested conn now) (requested_fits_one conn now) state.sessions h

pub unbound_fits : (conn : ℕ) (state : SessionsState) → FitSessions state → FitSessions (unbound conn state)
unbound_fits conn state h =
    all_map FitsSession FitsSession (one.unbound_from conn)
    (λ session fits. choice FitsSession (is_bound_to conn session) (one.unbound session) session tt fits) state.sessions h

pub closed_fits : (counter : ℕ) (state : SessionsState) → FitSessions state → FitSessions (closed counter state)
closed_fits counter state h = all_filter FitsSession (λ session. not (is_numbered counter session)) state.sessions h

pub expired_fits : (now : ℕ) (state : SessionsState) → FitSessions state → FitSessions (expired now state)
expired_fits now state h = all_filter FitsSession (one.lasts_past now) state.sessions h

parked_fits_one : (publish : Parked) → FitsParked publish → (session : Session) → FitsSession session → FitsSession (one.with_parked publish session)
parked_fits_one publish fits session h =
    choice (AllByRecursion FitsParked) (nat_lt (length session.queued) 16) (session.queued ++ publish ∷ []) (drop 1 session.queued ++ publish ∷ [])
    (all_more FitsParked session.queued publish h fits) (all_more FitsParked (drop 1 session.queued) publish (all_drop FitsParked 1 session.queued h) fits)

pub parked_fits : (counter : ℕ) (publish : Parked) (state : SessionsState) → FitsParked publish → FitSessions state → FitSessions (parked counter publish state)
parked_fits counter publish state fits h = all_at_first (is_numbered counter) (one.with_parked publish) (parked_fits_one publish fits) state.sessions h

pub unparked_fits : (counter : ℕ) (state : SessionsState) → FitSessions state → FitSessions (unparked counter state)
unparked_fits counter state h =
    all_at_first (is_numbered counter) one.without_oldest (λ session fits. all_drop FitsParked 1 session.queued fits) state.sessions h

pub disowned_fits : (id : ℕ) (state : SessionsState) → FitSessions state → FitSessions (disowned id state)
disowned_fits id state h = h

owned_by_fits : (id : ℕ) (session : Option Session) (state : SessionsState) → FitSessions state → FitSessions (owned_by id session state)
owned_by_fits id None state h = h
owned_by_fits id (Some session) state h = h

pub owned_fits : (id counter : ℕ) (state : SessionsState) → FitSessions state → FitSessions (owned id counter state)
owned_fits id counter state h = owned_by_fits id (session_at counter state.sessions) state h

pub transferred_fits : (id to : ℕ) (state : SessionsState) → FitSessions state → FitSessions (transferred id to state)
transferred_fits id to state h =
    choice FitSessions (may_transfer id to state) (record state { owned = map (given_to id to) state.owned }) state h h

-- ---- what is queued

oldest_by : (found : Option Session) → IfSome found FitsSession → IfSome (oldest_of found) FitsParked
oldest_by None h = tt
oldest_by (Some session) h = got FitsParked session.queued 0 h

pub oldest_fits : (session : ℕ) (state : SessionsState) → FitSessions state → IfSome (oldest_of (session_at session state.sessions)) FitsParked
oldest_fits session state h = oldest_by (session_at session state.sessions) (found FitsSession (is_numbered session) state.sessions h)

driven_by : (found : Option Session) → IfSome found FitsSession → IfSome (driven_out_of found) FitsParked
driven_by None h = tt
driven_by (Some session) h =
    choice (λ o. IfSome o FitsParked) (nat_lt (length session.queued) 16) None _ tt (got FitsParked session.queued 0 h)

pub driven_fits : (session : ℕ) (state : SessionsState) → FitSessions state → IfSome (driven_out_of (session_at session state.sessions)) FitsParked
driven_fits session state h = driven_by (session_at session state.sessions) (found FitsSession (is_numbered session) state.sessions h)
