-- A redundant set between two events. It is said once for nodes of any kind: `S` is a life of a server, `C` the client,
-- and `W` what is in flight in one direction of a connection.
use Rattle.std.specs.Prelude.{ℕ, Bool, List, Option}
use Rattle.set_model.specs.declared.source.Change.{Change}

-- a connection that stands: its number at the server, and what is in flight to the server and to the client
pub record Connection (W : Type 0) : Type 0 where
  pub number : ℕ
  pub there : W
  pub back : W

pub record Slot (S W : Type 0) : Type 0 where
  -- the number of the life that runs, or of the one that ran last
  pub boot : ℕ
  -- the life, while the server runs
  pub life : Option S
  -- how many changes of the source it was fed or began behind
  pub position : ℕ
  -- rounds leave it out
  pub held : Bool
  -- how many connections were opened to this life
  pub given : ℕ
  -- the one connection to the client, if it stands
  pub connection : Option (Connection W)

pub record SetState (S C W : Type 0) : Type 0 where
  pub source : List Change
  -- server 1 first
  pub slots : List (Slot S W)
  pub client : C
