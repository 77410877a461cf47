-- What a contract sees of an item's queue.
use Rattle.std.specs.Prelude.{ℕ, ◌≤◌, List, length, Bool}
use Rattle.item_queue.specs.declared.queue.Entry.{Entry}

-- whether it discards its oldest entry or its newest where it is full, how many entries it may hold, and those that it
-- holds, the oldest first
pub record QueueState : Type 0 where
  pub oldest : Bool
  pub size : ℕ
  pub entries : List Entry

-- a queue has from 1 to 1,000 places, and holds no more entries than it has places
abbrev pub IsSized : ℕ → List Entry → Type 0
IsSized size entries = (1 ≤ size) × (size ≤ 1000) × (length entries ≤ size)
