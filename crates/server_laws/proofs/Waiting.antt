-- On which connections Publishes wait, after each call on the sessions.
use Rattle.std.proofs.Common.{◌≡◌, ℕ, List, [], ◌∷◌, ◌++◌, Bool, true, false, cond, map, filter, drop, nat_lt, length, Option, Some, None, refl, ap, ◌∙◌, subst, arith, slice_get, ◌⊎◌, inl, inr}
use Rattle.std.proofs.lemmas.Bool.Decides.{nat_tests}
use Rattle.sessions.specs.declared.session.Parked.{Parked}
use Rattle.sessions.specs.declared.session.Session.{Session}
use Rattle.sessions.specs.Session as one
use Rattle.sessions.specs.Session.{has_token, is_bound_to, is_numbered, is_unbound, lasts_past, may_activate, new_session}
use Rattle.sessions.specs.State.{SessionsState}
use Rattle.sessions.specs.Table.{at_first, conn_of, given_to, may_transfer, oldest_of, owned_by, session_at, transferred, with_room, without_first}
use Rattle.server_rules.specs.declared.waiting.Waiting.{Waiting}
use Rattle.server_rules.specs.State.{ServerState}
use Rattle.server_rules.specs.Moves.{oldest_waiting, waiting_of, waiting_on}
use Rattle.server_laws.specs.Lockstep.{AllWait, WaitsOn}

-- ---- lists

first_by : (P : ℕ → Type 0) (b : Bool) (change : Session → Session) (session : Session) (sessions rest : List Session)
    → ((x : Session) → WaitsOn P x → WaitsOn P (change x)) → WaitsOn P session × AllWait P sessions → AllWait P rest
    → AllWait P (cond b (change session ∷ sessions) (session ∷ rest))
first_by P true change session sessions rest on h more = (on session h.0, h.1)
first_by P false change session sessions rest on h more = (h.0, more)

pub first_waits : (P : ℕ → Type 0) (test : Session → Bool) (change : Session → Session) (sessions : List Session)
    → ((x : Session) → WaitsOn P x → WaitsOn P (change x)) → AllWait P sessions → AllWait P (at_first test change sessions)
first_waits P test change [] on h = tt
first_waits P test change (session ∷ sessions) on h =
    first_by P (test session) change session sessions (at_first test change sessions) on h (first_waits P test change sessions on h.1)

pub map_waits : (P : ℕ → Type 0) (change : Session → Session) (sessions : List Session)
    → ((x : Session) → WaitsOn P x → WaitsOn P (change x)) → AllWait P sessions → AllWait P (map change sessions)
map_waits P change [] on h = tt
map_waits P change (session ∷ sessions) on h = (on session h.0, map_waits P change sessions on h.1)

kept_by : (P : ℕ → Type 0) (b : Bool) (session : Session) (rest : List Session) → WaitsOn P session → AllWait P rest → AllWait P (cond b (session ∷ rest) rest)
kept_by P true session rest h more = (h, more)
kept_by P false session rest h more = more

pub filter_waits : (P : ℕ → Type 0) (test : Session → Bool) (sessions : List Session) → AllWait P sessions → AllWait P (filter test sessions)
filter_waits P test [] h = tt
filter_waits P test (session ∷ sessions) h = kept_by P (test session) session (filter test sessions) h.0 (filter_waits P test sessions h.1)

left_by : (P : ℕ → Type 0) (b : Bool) (session : Session) (sessions rest : List Session) → WaitsOn P session × AllWait P sessions → AllWait P rest
    → AllWait P (cond b sessions (session ∷ rest))
left_by P true session sessions rest h more = h.1
left_by P false session sessions rest h more = (h.0, more)

without_waits : (P : ℕ → Type 0) (test : Session → Bool) (sessions : List Session) → AllWait P sessions → AllWait P (without_first test sessions)
without_waits P test [] h = tt
without_waits P test (session ∷ sessions) h = left_by P (test session) session sessions (without_first test sessions) h (without_waits P test sessions h.1)

either_waits : (P : ℕ → Type 0) (b : Bool) (one other : List Session) → AllWait P one → AllWait P other → AllWait P (cond b one other)
either_waits P true one other h rest = h
either_waits P false one other h rest = rest

room_waits : (P : ℕ → Type 0) (sessions : List Session) → AllWait P sessions → AllWait P (with_room sessions)
room_waits P sessions h = either_waits P (nat_lt (length sessions) 16) sessions (without_first is_unbound sessions) h (without_waits P is_unbound sessions h)

append_waits : (P : ℕ → Type 0) (sessions others : List Session) → AllWait P sessions → AllWait P others → AllWait P (sessions ++ others)
append_waits P [] others h rest = rest
append_waits P (session ∷ sessions) others h rest = (h.0, append_waits P sessions others h.1 rest)

pub created_waits : (P : ℕ → Type 0) (counter conn : ℕ) (uri : Option (List ℕ)) (timeout now : ℕ) (sessions : List Session) → AllWait P sessions
    → AllWait P (with_room sessions ++ new_session counter conn uri timeout now ∷ [])
created_waits P counter conn uri timeout now sessions h = append_waits P (with_room sessions) _ (room_waits P sessions h) ((λ other is. inl refl), tt)

-- ---- one session

pub requested_waits : (P : ℕ → Type 0) (conn now : ℕ) (x : Session) → WaitsOn P x → WaitsOn P (one.requested conn now x)
requested_waits P conn now x h = by_bound (is_bound_to conn x)
  where
    by_bound : (b : Bool) → WaitsOn P (cond b (record x { last = now }) x)
    by_bound true = h
    by_bound false = h

bound_by : (conn other : ℕ) (bound : Option ℕ) → one.is_conn conn bound ≡ true → Some conn ≡ Some other → bound ≡ Some other
bound_by conn other None is same = absurd cc
bound_by conn other (Some number) is same =
    let own : number ≡ conn = grind (arith, nat_tests) in ap Some own ∙ same

activated_on_waits : (P : ℕ → Type 0) (conn now : ℕ) (x : Session) → WaitsOn P x → WaitsOn P (one.activated_on conn now x)
activated_on_waits P conn now x h = by_bound (is_bound_to conn x) refl
  where
    by_bound : (b : Bool) → is_bound_to conn x ≡ b
        → (other : ℕ) → Some conn ≡ Some other → (cond b x.queued [] ≡ []) ⊎ P other
    by_bound true is other same = h other (bound_by conn other x.conn is same)
    by_bound false is other same = inl refl

pub activated_waits : (P : ℕ → Type 0) (conn now : ℕ) (x : Session) → WaitsOn P x → WaitsOn P (one.activated conn now x)
activated_waits P conn now x h = by_may (may_activate conn x)
  where
    by_may : (b : Bool) → WaitsOn P (cond b (one.activated_on conn now x) x)
    by_may true = activated_on_waits P conn now x h
    by_may false = h

pub unbound_waits : (P : ℕ → Type 0) (conn : ℕ) (x : Session) → WaitsOn P x → WaitsOn P (one.unbound_from conn x)
unbound_waits P conn x h = by_bound (is_bound_to conn x)
  where
    by_bound : (b : Bool) → WaitsOn P (cond b (one.unbound x) x)
    by_bound true = λ other is. inl refl
    by_bound false = h

pub unparked_waits : (P : ℕ → Type 0) (x : Session) → WaitsOn P x → WaitsOn P (one.without_oldest x)
unparked_waits P x h = λ conn is. by_queue (h conn is)
  where
    by_queue : {Q : Type 0} → (x.queued ≡ []) ⊎ Q → (drop 1 x.queued ≡ []) ⊎ Q
    by_queue (inl none) = inl (ap (drop 1) none)
    by_queue (inr p) = inr p

-- ---- the oldest that waits

found_by : (P : ℕ → Type 0) (b : Bool) (session x : Session) (rest : Option Session) → WaitsOn P session → (rest ≡ Some x → WaitsOn P x)
    → cond b (Some session) rest ≡ Some x → WaitsOn P x
found_by P true session x rest h on is = let same : session ≡ x = cc in subst (WaitsOn P) same h
found_by P false session x rest h on is = on is

pub found_waits : (P : ℕ → Type 0) (counter : ℕ) (sessions : List Session) (x : Session) → AllWait P sessions → session_at counter sessions ≡ Some x → WaitsOn P x
found_waits P counter [] x h is = absurd cc
found_waits P counter (session ∷ sessions) x h is =
    found_by P (is_numbered counter session) session x (session_at counter sessions) h.0 (found_waits P counter sessions x h.1) is

waits_by : (P : ℕ → Type 0) (bound : Option ℕ) (queued : List Parked) (waiting : Waiting) → waiting_of bound (slice_get queued 0) ≡ Some waiting
    → ((conn : ℕ) → bound ≡ Some conn → (queued ≡ []) ⊎ P conn) → P waiting.asker.conn
waits_by P None queued waiting is h = absurd cc
waits_by P (Some conn) [] waiting is h = absurd cc
waits_by P (Some conn) (publish ∷ queued) waiting is h = by_queue (h conn refl)
  where
    by_queue : (publish ∷ queued ≡ []) ⊎ P conn → P waiting.asker.conn
    by_queue (inl none) = absurd cc
    by_queue (inr p) = let same : waiting_on conn publish ≡ waiting = cc in subst (λ (w : Waiting). P w.asker.conn) same p

at_session : (P : ℕ → Type 0) (found : Option Session) (waiting : Waiting) → waiting_of (conn_of found) (oldest_of found) ≡ Some waiting
    → ((x : Session) → found ≡ Some x → WaitsOn P x) → P waiting.asker.conn
at_session P None waiting is h = absurd cc
at_session P (Some x) waiting is h = waits_by P x.conn x.queued waiting is (h x refl)

pub oldest_waits : (P : ℕ → Type 0) (session : ℕ) (s : ServerState) (waiting : Waiting) → AllWait P s.sessions.sessions
    → oldest_waiting session s ≡ Some waiting → P waiting.asker.conn
oldest_waits P session s waiting h is =
    at_session P (session_at session s.sessions.sessions) waiting is (λ x found. found_waits P session s.sessions.sessions x h found)

-- ---- calls that leave the sessions as they are

pub transferred_same : (id to : ℕ) (state : SessionsState) → (transferred id to state).sessions ≡ state.sessions
transferred_same id to state = by_test (may_transfer id to state)
  where
    by_test : (b : Bool) → (cond b (record state { owned = map (given_to id to) state.owned }) state).sessions ≡ state.sessions
    by_test true = refl
    by_test false = refl

pub owned_same : (id : ℕ) (session : Option Session) (state : SessionsState) → (owned_by id session state).sessions ≡ state.sessions
owned_same id None state = refl
owned_same id (Some session) state = refl
