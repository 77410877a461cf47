-- What each call does to the sessions of a server (sections are of OPC 10000-4).
use Rattle.std.specs.Prelude.{ℕ, ◌+◌, ◌-◌, ◌^◌, ◌==◌, ◌&&◌, ◌||◌, not, nat_lt, min, length, List, [], ◌∷◌, ◌++◌, Bool, true, false, if◌then◌else◌, Option, Some, None, is_some, Result, Ok, Err, slice_get, bytes_eq, find, position, filter, map}
use Rattle.std.specs.List.{list_all}
use Rattle.ua_base.specs.Status.{bad_session_id_invalid, bad_subscription_id_invalid}
use Rattle.sessions.specs.declared.fault.SessionFault.{SessionFault}
use Rattle.sessions.specs.declared.fault.SessionFault.TheVariants.{Code}
use Rattle.sessions.specs.declared.ownership.Ownership.{Ownership}
use Rattle.sessions.specs.declared.session.Parked.{Parked}
use Rattle.sessions.specs.declared.session.Session.{Session}
use Rattle.sessions.specs.Session as one
use Rattle.sessions.specs.Session.{new_session, is_numbered, has_token, is_unbound}
use Rattle.sessions.specs.State.{SessionsState}

-- a server that gave no session yet
abbrev pub no_sessions : ℕ → SessionsState
no_sessions boot = record { boot = boot; last_counter = 0; sessions = []; owned = [] }

-- the first session that passes a test changes, all others stay
abbrev pub at_first : (Session → Bool) → (Session → Session) → List Session → List Session
at_first test change [] = []
at_first test change (session ∷ sessions) =
    if test session then change session ∷ sessions else session ∷ at_first test change sessions

-- the session of this counter, if it exists
abbrev pub session_at : ℕ → List Session → Option Session
session_at counter sessions = find (is_numbered counter) sessions

-- the session of this token, if it is known
abbrev pub session_of : Option (List ℕ) → SessionsState → Option Session
session_of token state = find (has_token state.boot token) state.sessions

-- the session of this counter changes
abbrev pub with_change_at : ℕ → (Session → Session) → SessionsState → SessionsState
with_change_at counter change state = record state { sessions = at_first (is_numbered counter) change state.sessions }

-- the session of this token changes
abbrev pub with_change_of : Option (List ℕ) → (Session → Session) → SessionsState → SessionsState
with_change_of token change state =
    record state { sessions = at_first (has_token state.boot token) change state.sessions }

-- whether this session exists
abbrev pub lives : ℕ → List Session → Bool
lives counter sessions = is_some (session_at counter sessions)

-- an owner that is no more is none
abbrev pub owner_among : List Session → Option ℕ → Option ℕ
owner_among sessions None = None
owner_among sessions (Some owner) = if lives owner sessions then Some owner else None

abbrev pub owned_among : List Session → Ownership → Ownership
owned_among sessions ownership = record ownership { owner = owner_among sessions ownership.owner }

-- with these sessions in place of those before: what a session owned that is no more has no owner
abbrev pub with_sessions : List Session → SessionsState → SessionsState
with_sessions sessions state = record state { sessions = sessions; owned = map (owned_among sessions) state.owned }

-- without the first session that passes a test
abbrev pub without_first : (Session → Bool) → List Session → List Session
without_first test [] = []
without_first test (session ∷ sessions) = if test session then sessions else session ∷ without_first test sessions

-- whether each is bound to a connection
abbrev pub are_bound : List Session → Bool
are_bound sessions = list_all (λ session. not (is_unbound session)) sessions

-- the place of the one that leaves for a further one
abbrev pub place_to_leave : List Session → Option ℕ
place_to_leave sessions = if nat_lt (length sessions) 16 then None else position is_unbound sessions

-- with room for one more: where the most exist, the oldest unbound one goes
abbrev pub with_room : List Session → List Session
with_room sessions = if nat_lt (length sessions) 16 then sessions else without_first is_unbound sessions

-- no session more is given where the most exist and each is bound, or where the counter stands at its last value
abbrev pub is_full : SessionsState → Bool
is_full state =
    (not (nat_lt (length state.sessions) 16) && are_bound state.sessions) || (state.last_counter == 2 ^ 32 - 1)

-- CreateSession (5.6.2)
abbrev pub created : ℕ → Option (List ℕ) → ℕ → ℕ → SessionsState → SessionsState
created conn uri timeout now state =
    with_sessions (with_room state.sessions ++ new_session (state.last_counter + 1) conn uri timeout now ∷ [])
    (record state { last_counter = state.last_counter + 1 })

-- an unknown token is told so, and else the session whose token it is answers
abbrev pub answer_of : {E : Type 0} → E → (Session → Result ℕ E) → Option Session → Result ℕ E
answer_of unknown answer None = Err unknown
answer_of unknown answer (Some session) = answer session

-- ActivateSession (5.6.3)
abbrev pub activate_answer : Option (List ℕ) → ℕ → SessionsState → Result ℕ SessionFault
activate_answer token conn state =
    answer_of (Code bad_session_id_invalid) (one.activate_answer conn) (session_of token state)

abbrev pub activated : Option (List ℕ) → ℕ → ℕ → SessionsState → SessionsState
activated token conn now state = with_change_of token (one.activated conn now) state

-- any request of a session: its token, its connection, and whether it was activated
abbrev pub check_answer : Option (List ℕ) → ℕ → SessionsState → Result ℕ ℕ
check_answer token conn state = answer_of bad_session_id_invalid (one.check_answer conn) (session_of token state)

-- a CloseSession: its token and its connection
abbrev pub bound_answer : Option (List ℕ) → ℕ → SessionsState → Result ℕ ℕ
bound_answer token conn state = answer_of bad_session_id_invalid (one.bound_answer conn) (session_of token state)

-- a request that passes as far as the connection is the session's last one, even where the session is not activated
abbrev pub requested : Option (List ℕ) → ℕ → ℕ → SessionsState → SessionsState
requested token conn now state = with_change_of token (one.requested conn now) state

-- the end of a connection
abbrev pub unbound : ℕ → SessionsState → SessionsState
unbound conn state = record state { sessions = map (one.unbound_from conn) state.sessions }

-- CloseSession (5.6.4)
abbrev pub closed : ℕ → SessionsState → SessionsState
closed counter state = with_sessions (filter (λ session. not (is_numbered counter session)) state.sessions) state

-- the sessions whose moment came go; a moment past the last age is above every age, and never comes
abbrev pub expired : ℕ → SessionsState → SessionsState
expired now state = with_sessions (filter (one.lasts_past now) state.sessions) state

-- the earliest moment at which a session expires; the last age where none does before it
abbrev pub due_of : List Session → ℕ
due_of [] = 2 ^ 64 - 1
due_of (session ∷ sessions) = min (one.moment session) (due_of sessions)

-- a Publish is queued (5.13.5)
abbrev pub parked : ℕ → Parked → SessionsState → SessionsState
parked counter publish state = with_change_at counter (one.with_parked publish) state

-- what one Publish more drives out of its queue: none, unless the most were queued
abbrev pub driven_out_of : Option Session → Option Parked
driven_out_of None = None
driven_out_of (Some session) = one.driven_out session.queued

-- the oldest queued Publish is answered
abbrev pub unparked : ℕ → SessionsState → SessionsState
unparked counter state = with_change_at counter one.without_oldest state

abbrev pub oldest_of : Option Session → Option Parked
oldest_of None = None
oldest_of (Some session) = slice_get session.queued 0

-- whether a Publish of that session is queued
abbrev pub waits : Option Session → Bool
waits None = false
waits (Some session) = one.waits session

-- the connection to which it is bound
abbrev pub conn_of : Option Session → Option ℕ
conn_of None = None
conn_of (Some session) = session.conn

-- what is kept of a subscription's owner
abbrev pub ownership_of : ℕ → List Ownership → Option Ownership
ownership_of id owned = find (λ ownership. ownership.id == id) owned

-- whether anything is kept of it
abbrev pub keeps : ℕ → List Ownership → Bool
keeps id owned = is_some (ownership_of id owned)

abbrev pub owner_of : Option Ownership → Option ℕ
owner_of None = None
owner_of (Some ownership) = ownership.owner

-- the session owns this subscription, of which nothing was kept
abbrev pub owned_by : ℕ → Option Session → SessionsState → SessionsState
owned_by id None state = state
owned_by id (Some session) state =
    record state { owned = state.owned ++ record { id = id; owner = Some session.counter; uri = session.uri } ∷ [] }

abbrev pub owned : ℕ → ℕ → SessionsState → SessionsState
owned id counter state = owned_by id (session_at counter state.sessions) state

abbrev pub without_id : ℕ → List Ownership → List Ownership
without_id id owned = filter (λ ownership. not (ownership.id == id)) owned

-- nothing is kept of this subscription
abbrev pub disowned : ℕ → SessionsState → SessionsState
disowned id state = record state { owned = without_id id state.owned }

-- whether two texts are one
abbrev pub same_text : Option (List ℕ) → Option (List ℕ) → Bool
same_text None None = true
same_text (Some one) (Some other) = bytes_eq one other
same_text one other = false

-- a subscription may go to a session of the client that owned it last: the ApplicationUris are one (5.13.7)
abbrev pub may_own : Option Ownership → Option Session → Bool
may_own (Some ownership) (Some session) = same_text ownership.uri session.uri
may_own kept session = false

abbrev pub may_transfer : ℕ → ℕ → SessionsState → Bool
may_transfer id to state = may_own (ownership_of id state.owned) (session_at to state.sessions)

abbrev pub transfer_told : Bool → Result (Unit {0}) SessionFault
transfer_told true = Ok tt
transfer_told false = Err (Code bad_subscription_id_invalid)

-- TransferSubscriptions, of one subscription (5.13.7)
abbrev pub transfer_answer : ℕ → ℕ → SessionsState → Result (Unit {0}) SessionFault
transfer_answer id to state = transfer_told (may_transfer id to state)

-- with this owner, where it is the subscription of this id
abbrev pub given_to : ℕ → ℕ → Ownership → Ownership
given_to id to ownership = if ownership.id == id then record ownership { owner = Some to } else ownership

abbrev pub transferred : ℕ → ℕ → SessionsState → SessionsState
transferred id to state =
    if may_transfer id to state then record state { owned = map (given_to id to) state.owned } else state
