-- A log that takes over from another one: what both say together is what one log would say after the acts of both.
use Rattle.std.proofs.Common.{◌≡◌, ℕ, List, [], ◌∷◌, ◌++◌, refl, sym, ◌∙◌, ap, subst}
use Rattle.std.proofs.lemmas.List.{append_assoc, append-nil}
use Rattle.set_model.specs.declared.line.LogLine.{LogLine}
use Rattle.set_model.specs.declared.source.Change.{Change}
use Rattle.set_model.specs.Source.{IsSource}
use Rattle.delivery_log.specs.State.{LogState}
use Rattle.delivery_log.specs.Log.{entry_lines, joint_at, last_kept, taken_over}
use Rattle.delivery_log.specs.History.{Act, Enter, Set, TurnOne, TurnAll, Note, AreWithin, StandsFor, acted, joined, log_after, log_of, log_of_both}
use Rattle.delivery_log.specs.Safe.{Safe}
use Rattle.delivery_log.specs.Caused.{Caused}
use Rattle.delivery_log.specs.WellFed.{AreNotes, WellFed, WellFedAfter}
use Rattle.delivery_log.proofs.Causes.{caused_lines}
use Rattle.delivery_log.proofs.Kept.{log_stands}
use Rattle.delivery_log.proofs.Law.{safe_from_well_fed}

abbrev with_these : LogState → List LogLine → LogState
with_these log lines = record { lasts = log.lasts; joints = log.joints; lines = lines }

-- an act does the same where the lines of another log stand before those of the log
act_joined : (former : LogState) (act : Act) (log : LogState) → acted act (joined former log) ≡ joined former (acted act log)
act_joined former (Enter server item entry) log =
    ap (with_these (acted (Enter server item entry) log)) (append_assoc former.lines log.lines (entry_lines item entry (last_kept item log) (joint_at server item log)))
act_joined former (Set server item joint) log = refl
act_joined former (TurnOne server item turn) log = refl
act_joined former (TurnAll server turn) log = refl
act_joined former (Note line) log = ap (with_these log) (append_assoc former.lines log.lines (line ∷ []))

-- a log after acts is that log, joined by one that took over from it before them
pub after_is_joined : (log : LogState) (acts : List Act) → log_after acts log ≡ joined log (log_after acts (taken_over log))
after_is_joined log [] = ap (with_these log) (sym (append-nil log.lines))
after_is_joined log (act ∷ acts) =
    ap (acted act) (after_is_joined log acts) ∙ act_joined log act (log_after acts (taken_over log))

-- the acts of two histories, one after the other
pub after_both : (first second : List Act) (log : LogState) → log_after (second ++ first) log ≡ log_after second (log_after first log)
after_both first [] log = refl
after_both first (act ∷ acts) log = ap (acted act) (after_both first acts log)

pub both_joined : (servers items : ℕ) (first second : List Act)
    → log_of servers items (second ++ first) ≡ log_of_both servers items first second
both_joined servers items first second = after_both first second _ ∙ after_is_joined (log_of servers items first) second

within_both : (servers items : ℕ) (first second : List Act) → AreWithin servers items first → AreWithin servers items second → AreWithin servers items (second ++ first)
within_both servers items first [] w v = w
within_both servers items first (act ∷ acts) w v = (v.0, within_both servers items first acts w v.1)

-- BOTH LOGS STAND FOR BOTH HISTORIES
pub joined_stands : (servers items : ℕ) (first second : List Act) → AreWithin servers items first → AreWithin servers items second
    → StandsFor servers items (second ++ first) (log_of_both servers items first second)
joined_stands servers items first second w v =
    let P : LogState → Type 0 = StandsFor servers items (second ++ first) in
    subst P (both_joined servers items first second) (log_stands servers items (second ++ first) (within_both servers items first second w v))

-- what is well fed after what is well fed is well fed as a whole
pub well_fed_on : (source : List Change) (first second : List Act) → WellFed source first → WellFedAfter source first second → WellFed source (second ++ first)
well_fed_on source first [] h k = h
well_fed_on source first (act ∷ acts) h k = (k.0, k.1, well_fed_on source first acts h k.2)

-- BOTH LOGS TOGETHER ARE SAFE
pub joined_safe : (servers items : ℕ) (source : List Change) (first second : List Act) → AreWithin servers items first → AreWithin servers items second → IsSource source
    → WellFed source first → WellFedAfter source first second
    → Safe source (log_of_both servers items first second).lines
joined_safe servers items source first second w v s h k =
    let stands : StandsFor servers items (second ++ first) (log_of_both servers items first second) =
    joined_stands servers items first second w v in
    let P : List LogLine → Type 0 = Safe source in
    subst P (sym stands.lines) (safe_from_well_fed source (second ++ first) s (well_fed_on source first second h k))

notes_of_both : (first second : List Act) → AreNotes first → AreNotes second → AreNotes (second ++ first)
notes_of_both first [] n m = n
notes_of_both first (act ∷ acts) n m = (m.0, notes_of_both first acts n m.1)

-- BOTH LOGS' GAPS HAVE TRUE CAUSES
pub joined_caused : (servers items : ℕ) (first second : List Act) → AreWithin servers items first → AreWithin servers items second
    → AreNotes first → AreNotes second → Caused (second ++ first) (log_of_both servers items first second).lines
joined_caused servers items first second w v n m =
    let stands : StandsFor servers items (second ++ first) (log_of_both servers items first second) = joined_stands servers items first second w v in
    let P : List LogLine → Type 0 = Caused (second ++ first) in
    subst P (sym stands.lines) (caused_lines (second ++ first) (notes_of_both first second n m))
