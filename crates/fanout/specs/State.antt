-- What a contract sees of the attached listeners.
use Rattle.std.specs.Prelude.{ℕ, List}
use Rattle.fanout.specs.Hearing.{Hearing}

-- an attached listener: its id, the item whose lines it is told, and what it heard
pub record Attached : Type 0 where
  pub id : ℕ
  pub item : ℕ
  pub hearing : Hearing

abbrev pub attached : ℕ → ℕ → Hearing → Attached
attached id item hearing = record { id = id; item = item; hearing = hearing }

-- those that are attached, in the order in which they were, and the id that was given last, 0 before any was
pub record FanoutState : Type 0 where
  pub attached : List Attached
  pub last : ℕ
