-- What any calls come to.
use Rattle.std.specs.Prelude.{◌≡◌, ℕ, ◌+◌, ◌-◌, length, drop, List, [], ◌∷◌, ◌++◌, Bool, true, false, Option, IsSome}
use Rattle.sessions.specs.declared.session.Parked.{Parked}
use Rattle.sessions.specs.Session.{with_publish}
use Rattle.sessions.specs.State.{SessionsState}
use Rattle.sessions.specs.Table.{activated, closed, conn_of, created, disowned, expired, is_full, keeps, lives, owned, parked, requested, session_at, transferred, unbound, unparked}

-- one call that changes the sessions, with the arguments that it is given
pub data Call : Type 0 where
  Create : ℕ → Option (List ℕ) → ℕ → ℕ → Call
  Activate : Option (List ℕ) → ℕ → ℕ → Call
  Check : Option (List ℕ) → ℕ → ℕ → Call
  Bound : Option (List ℕ) → ℕ → ℕ → Call
  Unbind : ℕ → Call
  Close : ℕ → Call
  Expire : ℕ → Call
  Park : ℕ → Parked → Call
  Unpark : ℕ → Call
  Own : ℕ → ℕ → Call
  Disown : ℕ → Call
  Transfer : ℕ → ℕ → Call

-- a CreateSession makes a session, unless it is refused
abbrev pub after_create : Bool → ℕ → Option (List ℕ) → ℕ → ℕ → SessionsState → SessionsState
after_create true conn uri timeout now state = state
after_create false conn uri timeout now state = created conn uri timeout now state

abbrev pub after_call : Call → SessionsState → SessionsState
after_call (Create conn uri timeout now) state = after_create (is_full state) conn uri timeout now state
after_call (Activate token conn now) state = activated token conn now state
after_call (Check token conn now) state = requested token conn now state
after_call (Bound token conn now) state = requested token conn now state
after_call (Unbind conn) state = unbound conn state
after_call (Close session) state = closed session state
after_call (Expire now) state = expired now state
after_call (Park session publish) state = parked session publish state
after_call (Unpark session) state = unparked session state
after_call (Own id session) state = owned id session state
after_call (Disown id) state = disowned id state
after_call (Transfer id to) state = transferred id to state

abbrev pub after_calls : List Call → SessionsState → SessionsState
after_calls [] state = state
after_calls (call ∷ calls) state = after_calls calls (after_call call state)

-- a Publish is queued for a session that is bound, since it came on a connection; a subscription is given to a session
-- that exists, where nothing is kept of it
abbrev pub IsAllowed : Call → SessionsState → Type 0
IsAllowed (Park session publish) state = IsSome (conn_of (session_at session state.sessions))
IsAllowed (Own id session) state = (lives session state.sessions ≡ true) × (keeps id state.owned ≡ false)
IsAllowed (Transfer id to) state = lives to state.sessions ≡ true
IsAllowed call state = Unit {0}

-- each of the calls is one that may be made after those before it
abbrev pub AreAllowed : List Call → SessionsState → Type 0
AreAllowed [] state = Unit {0}
AreAllowed (call ∷ calls) state = IsAllowed call state × AreAllowed calls (after_call call state)

-- the counter that a CreateSession gives, unless it is refused
abbrev pub given_by_create : Bool → SessionsState → List ℕ
given_by_create true state = []
given_by_create false state = (state.last_counter + 1) ∷ []

abbrev pub given_by : Call → SessionsState → List ℕ
given_by (Create conn uri timeout now) state = given_by_create (is_full state) state
given_by call state = []

-- the counters that these calls give, in order
abbrev pub counters_given : List Call → SessionsState → List ℕ
counters_given [] state = []
counters_given (call ∷ calls) state = given_by call state ++ counters_given calls (after_call call state)

-- a session's queue after these Publishes came, one after the other
abbrev pub with_publishes : List Parked → List Parked → List Parked
with_publishes [] queued = queued
with_publishes (publish ∷ publishes) queued = with_publishes publishes (with_publish publish queued)

-- the last Publishes, as many as are queued
abbrev pub last_publishes : List Parked → List Parked
last_publishes publishes = drop (length publishes - 16) publishes
