-- What a world of direct servers keeps.
use Rattle.std.specs.Prelude.{ℕ, List, Bool}
use Rattle.set_model.specs.declared.source.Change.{Change}
use Rattle.item_queue.specs.State.{QueueState}
use Rattle.delivery_log.specs.State.{LogState}

-- one server: its boot number, whether it runs, its position (how many changes of the source it was given or began
-- after), and each item's queue, item 1 first
pub record ServerState : Type 0 where
  pub boot : ℕ
  pub running : Bool
  pub position : ℕ
  pub queues : List QueueState

-- the one source, the servers, server 1 first, and the client's log; a world that has failed stays so
pub record WorldState : Type 0 where
  pub source : List Change
  pub servers : List ServerState
  pub log : LogState
  pub failed : Bool
