-- What always holds of a server's sessions, whatever calls were made.
use Rattle.std.specs.Prelude.{◌≡◌, ℕ, ◌<◌, ◌≤◌, ◌^◌, List, [], ◌∷◌, length, map, All, None, Some, IfSome, true}
use Rattle.sessions.specs.declared.ownership.Ownership.{Ownership}
use Rattle.sessions.specs.declared.session.Session.{Session}
use Rattle.sessions.specs.Session.{is_unbound}
use Rattle.sessions.specs.State.{SessionsState}
use Rattle.sessions.specs.Table.{lives, ownership_of, session_at}

-- numbers that rise, each above this one
abbrev pub RiseAbove : ℕ → List ℕ → Type 0
RiseAbove low [] = Unit {0}
RiseAbove low (number ∷ numbers) = (low < number) × RiseAbove number numbers

abbrev pub counters : List Session → List ℕ
counters sessions = map (λ session. session.counter) sessions

-- at most so many Publishes are queued, and none where the session is bound to no connection
pub record IsTidy (session : Session) : Type 0 where
  pub queued : length session.queued ≤ 16
  pub bound : session.conn ≡ None → session.queued ≡ []

-- an owner exists
abbrev pub IsOwned : List Session → Ownership → Type 0
IsOwned sessions ownership = IfSome ownership.owner (λ owner. lives owner sessions ≡ true)

-- no subscription is kept twice
abbrev pub AreApart : List Ownership → Type 0
AreApart [] = Unit {0}
AreApart (ownership ∷ owned) = (ownership_of ownership.id owned ≡ None) × AreApart owned

pub record IsSound (state : SessionsState) : Type 0 where
  -- no two sessions have one counter, and each counter was given
  pub rise : RiseAbove 0 (counters state.sessions)
  pub given : All (λ counter. counter ≤ state.last_counter) (counters state.sessions)
  pub last : state.last_counter < 2 ^ 32
  pub most : length state.sessions ≤ 16
  pub tidy : All IsTidy state.sessions
  pub owners : All (IsOwned state.sessions) state.owned
  pub apart : AreApart state.owned

-- the session of this counter is unbound, and no other unbound one has a lower counter
pub record IsOldestUnbound (counter : ℕ) (session : Session) (sessions : List Session) : Type 0 where
  pub unbound : is_unbound session ≡ true
  pub oldest : (other : ℕ) (another : Session) → session_at other sessions ≡ Some another → is_unbound another ≡ true
      → counter ≤ other
