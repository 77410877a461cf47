-- What a contract sees of the sessions of a server.
use Rattle.std.specs.Prelude.{ℕ, List}
use Rattle.sessions.specs.declared.session.Session.{Session}
use Rattle.sessions.specs.declared.ownership.Ownership.{Ownership}

-- the server's boot number, the counter given last, the sessions in order of their counters, and what is known of each
-- subscription's owner
pub record SessionsState : Type 0 where
  pub boot : ℕ
  pub last_counter : ℕ
  pub sessions : List Session
  pub owned : List Ownership
