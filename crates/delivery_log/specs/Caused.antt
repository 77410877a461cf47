-- What a gap line tells: why the entry that is delivered after it may not be the next one.
use Rattle.std.specs.Prelude.{◌≡◌, ℕ, ◌+◌, List, ◌∷◌, ◌++◌, length, true, Some, slice_get}
use Rattle.set_model.specs.declared.line.Arrived.{Arrived}
use Rattle.set_model.specs.declared.line.GapCause.{GapCause}
use Rattle.set_model.specs.declared.line.GapCause.TheVariants.{Warm, Overflow}
use Rattle.set_model.specs.declared.line.LogLine.{LogLine}
use Rattle.set_model.specs.declared.line.LogLine.TheVariants as line
use Rattle.set_model.specs.declared.stamp.Stamp.{Stamp}
use Rattle.delivery_log.specs.declared.rule.Joint.{Joint}
use Rattle.delivery_log.specs.declared.rule.Joint.TheVariants.{Joined, Open, Held}
use Rattle.delivery_log.specs.Judge.{has_overflow}
use Rattle.delivery_log.specs.Log.{data_line}
use Rattle.delivery_log.specs.History.{Act, Enter, joint_of, lines_of}

-- the cause of the gap before an entry, by the joint that it found: that of an open joint; warm where it was held; and
-- overflow where it was joined and the entry says that its queue dropped values
abbrev pub IsCause : Joint → Arrived → GapCause → Type 0
IsCause (Open cause) entry told = told ≡ cause
IsCause Held entry told = told ≡ Warm
IsCause Joined entry told = (told ≡ Overflow) × (has_overflow entry.status ≡ true)

-- at a place of the log stands the gap line of an entry that was entered then, with its data line next and its true
-- cause
pub record IsCaused (history : List Act) (log : List LogLine) (place item : ℕ) (cause : GapCause) : Type 0 where
  pub after : List Act
  pub before : List Act
  pub server : ℕ
  pub entry : Arrived
  pub stamp : Stamp
  pub came : after ++ Enter server item entry ∷ before ≡ history
  pub then_at : length (lines_of before) ≡ place
  pub timed : entry.time ≡ Some stamp
  pub next : slice_get log (place + 1) ≡ Some (data_line item stamp entry)
  pub told : IsCause (joint_of server item before) entry cause

-- each gap line is there for an entry, and has its cause
pub record Caused (history : List Act) (log : List LogLine) : Type 0 where
  pub each : (place item : ℕ) (cause : GapCause) → slice_get log place ≡ Some (line.Gap item cause)
      → IsCaused history log place item cause
