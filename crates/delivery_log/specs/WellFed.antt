-- What a history owes the log, for its lines to be safe.
use Rattle.std.specs.Prelude.{◌≡◌, ℕ, ◌+◌, ◌<◌, List, [], ◌∷◌, ◌++◌, Bool, true, false, Some, IsSomeAnd}
use Rattle.set_model.specs.declared.line.Arrived.{Arrived}
use Rattle.set_model.specs.declared.line.LogLine.{LogLine}
use Rattle.set_model.specs.declared.line.LogLine.TheVariants as line
use Rattle.set_model.specs.declared.source.Change.{Change}
use Rattle.set_model.specs.declared.stamp.Stamp.{Stamp}
use Rattle.set_model.specs.Source.{of_item}
use Rattle.delivery_log.specs.declared.rule.Joint.TheVariants.{Joined}
use Rattle.delivery_log.specs.Judge.{has_overflow}
use Rattle.delivery_log.specs.Safe.{IsChangeAt}
use Rattle.delivery_log.specs.History.{Act, Enter, Set, TurnOne, TurnAll, Note, joint_of, previous}

-- the line tells of no entry
abbrev pub is_note : LogLine → Bool
is_note (line.Delivered item time pico value status) = false
is_note (line.Gap item cause) = false
is_note (line.Switch from to) = true
is_note (line.Ready server) = true
is_note (line.Lost server) = true
is_note (line.Unsupported server) = true
is_note (line.Heard listener changes gaps) = true
is_note (line.Done changes) = true

-- the entry is the change at a place among the changes of its item
pub record IsAt (source : List Change) (item : ℕ) (entry : Arrived) (place : ℕ) : Type 0 where
  pub stamp : Stamp
  pub timed : entry.time ≡ Some stamp
  pub shows : IsChangeAt (of_item item source) place stamp entry.value

-- the entry is a change of its item, where it has a source time
pub record IsFedEntry (source : List Change) (item : ℕ) (entry : Arrived) : Type 0 where
  pub fed : (stamp : Stamp) → entry.time ≡ Some stamp
      → (place : ℕ) × IsChangeAt (of_item item source) place stamp entry.value

-- one entry is a later change than another; and where it is without the overflow bit, the very next one
pub record Linked (source : List Change) (item : ℕ) (former entry : Arrived) : Type 0 where
  pub from : ℕ
  pub to : ℕ
  pub former_at : IsAt source item former from
  pub entry_at : IsAt source item entry to
  pub later : from < to
  pub next : has_overflow entry.status ≡ false → to ≡ from + 1

-- an act may follow an earlier history: an entry is a change of the source, and a noted line tells of no entry
abbrev pub IsFedAct : List Change → Act → Type 0
IsFedAct source (Enter server item entry) = IsFedEntry source item entry
IsFedAct source (Set server item joint) = Unit {0}
IsFedAct source (TurnOne server item turn) = Unit {0}
IsFedAct source (TurnAll server turn) = Unit {0}
IsFedAct source (Note line) = is_note line ≡ true

-- where an entry with a source time finds its joint Joined, one of its server and item came before, and the last of
-- these and this one are linked
abbrev pub IsLinkedAct : List Change → Act → List Act → Type 0
IsLinkedAct source (Enter server item entry) earlier =
    (stamp : Stamp) → entry.time ≡ Some stamp → joint_of server item earlier ≡ Joined
    → IsSomeAnd (previous server item earlier) (λ former. Linked source item former entry)
IsLinkedAct source (Set server item joint) earlier = Unit {0}
IsLinkedAct source (TurnOne server item turn) earlier = Unit {0}
IsLinkedAct source (TurnAll server turn) earlier = Unit {0}
IsLinkedAct source (Note line) earlier = Unit {0}

-- a noted line tells of no entry
abbrev pub IsNoteAct : Act → Type 0
IsNoteAct (Enter server item entry) = Unit {0}
IsNoteAct (Set server item joint) = Unit {0}
IsNoteAct (TurnOne server item turn) = Unit {0}
IsNoteAct (TurnAll server turn) = Unit {0}
IsNoteAct (Note line) = is_note line ≡ true

-- each noted line tells of no entry
abbrev pub AreNotes : List Act → Type 0
AreNotes [] = Unit {0}
AreNotes (act ∷ earlier) = IsNoteAct act × AreNotes earlier

-- each entry with a source time is a change of the source, and each noted line tells of no entry
abbrev pub IsFed : List Change → List Act → Type 0
IsFed source [] = Unit {0}
IsFed source (act ∷ earlier) = IsFedAct source act × IsFed source earlier

-- besides, each entry that finds its joint Joined is linked to the one before it of its server and item
abbrev pub WellFed : List Change → List Act → Type 0
WellFed source [] = Unit {0}
WellFed source (act ∷ earlier) = IsFedAct source act × IsLinkedAct source act earlier × WellFed source earlier

-- the same of what comes after an earlier history, as of a second client that takes over
abbrev pub WellFedAfter : List Change → List Act → List Act → Type 0
WellFedAfter source earlier [] = Unit {0}
WellFedAfter source earlier (act ∷ acts) =
    IsFedAct source act × IsLinkedAct source act (acts ++ earlier) × WellFedAfter source earlier acts
