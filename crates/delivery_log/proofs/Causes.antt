-- Each gap line is there for the entry whose data line comes next, and has its cause.
use Rattle.std.proofs.Common.{◌≡◌, ℕ, zero, suc, ◌+◌, ◌-◌, ◌<◌, ◌≤◌, ◌⊎◌, inl, inr, List, [], ◌∷◌, ◌++◌, length, Bool, true, false, Option, Some, None, slice_get, refl, sym, ◌∙◌, ap, subst, arith}
use Rattle.std.specs.Prelude.{if◌then◌else◌}
use Rattle.std.proofs.lemmas.Bool.{cases_lt}
use Rattle.set_model.specs.declared.line.Arrived.{Arrived}
use Rattle.set_model.specs.declared.line.GapCause.{GapCause}
use Rattle.set_model.specs.declared.line.LogLine.{LogLine}
use Rattle.set_model.specs.declared.line.LogLine.TheVariants as line
use Rattle.set_model.specs.declared.source.Change.{Change}
use Rattle.set_model.specs.declared.stamp.Stamp.{Stamp}
use Rattle.set_model.specs.Stamp.{is_before}
use Rattle.delivery_log.specs.declared.rule.Joint.{Joint}
use Rattle.delivery_log.specs.declared.rule.Joint.TheVariants.{Joined, Open, Held}
use Rattle.delivery_log.specs.declared.rule.Verdict.{Verdict}
use Rattle.delivery_log.specs.declared.rule.Verdict.TheVariants.{Nothing, Deliver, GapDeliver}
use Rattle.delivery_log.specs.Judge.{has_overflow, verdict_after, verdict_of}
use Rattle.delivery_log.specs.Log.{data_line, lines_by, timed_lines}
use Rattle.delivery_log.specs.Caused.{IsCause, IsCaused, Caused}
use Rattle.delivery_log.specs.History.{Act, Enter, Set, TurnOne, TurnAll, Note, joint_of, last_stamp, lines_after, lines_of}
use Rattle.delivery_log.specs.WellFed.{is_note, IsNoteAct, AreNotes, IsFedAct, IsFed}

-- reads of two lists joined
get_front : {X : Type 0} (xs ys : List X) (k : ℕ) → k < length xs → slice_get (xs ++ ys) k ≡ slice_get xs k
get_front [] ys k h = absurd (omega arith)
get_front (x ∷ xs) ys zero h = refl
get_front (x ∷ xs) ys (suc k) h = get_front xs ys k (omega arith)

get_back : {X : Type 0} (xs ys : List X) (k : ℕ) → length xs ≤ k → slice_get (xs ++ ys) k ≡ slice_get ys (k - length xs)
get_back [] ys k h = ap (slice_get ys) (omega arith)
get_back (x ∷ xs) ys zero h = absurd (omega arith)
get_back (x ∷ xs) ys (suc k) h = get_back xs ys k (omega arith) ∙ ap (slice_get ys) (omega arith)

pub get_within_front : {X : Type 0} (xs ys : List X) (k : ℕ) (x : X) → slice_get xs k ≡ Some x → slice_get (xs ++ ys) k ≡ Some x
get_within_front [] ys k x h = absurd cc
get_within_front (y ∷ xs) ys zero x h = h
get_within_front (y ∷ xs) ys (suc k) x h = get_within_front xs ys k x h

-- where the verdict is a gap, its cause is that of the joint
told_after : (joint : Joint) (entry : Arrived) (cause : GapCause) (marked : Bool) → has_overflow entry.status ≡ marked → verdict_after joint marked ≡ GapDeliver cause → IsCause joint entry cause
told_after (Open c) entry cause marked e h = cc
told_after Held entry cause marked e h = cc
told_after Joined entry cause true e h = (cc, e)
told_after Joined entry cause false e h = absurd cc

told_test : (joint : Joint) (entry : Arrived) (cause : GapCause) (b : Bool) → (if b then verdict_after joint (has_overflow entry.status) else Nothing) ≡ GapDeliver cause → IsCause joint entry cause
told_test joint entry cause false h = absurd cc
told_test joint entry cause true h = told_after joint entry cause (has_overflow entry.status) refl h

told_of : (last : Option Stamp) (joint : Joint) (stamp : Stamp) (entry : Arrived) (cause : GapCause) → verdict_of last joint (Some stamp) (has_overflow entry.status) ≡ GapDeliver cause → IsCause joint entry cause
told_of None joint stamp entry cause h = absurd cc
told_of (Some last) joint stamp entry cause h = told_test joint entry cause (is_before last stamp) h

-- a gap line among the lines of a verdict
pub record IsFirst (i item place : ℕ) (verdict : Verdict) (cause : GapCause) : Type 0 where
  pub item_is : i ≡ item
  pub first : place ≡ 0
  pub gap : verdict ≡ GapDeliver cause

gap_first : (i item place : ℕ) (stamp : Stamp) (entry : Arrived) (verdict : Verdict) (cause : GapCause) → slice_get (timed_lines i stamp entry verdict) place ≡ Some (line.Gap item cause) → IsFirst i item place verdict cause
gap_first i item place stamp entry Nothing cause h = absurd cc
gap_first i item zero stamp entry Deliver cause h = absurd cc
gap_first i item (suc place) stamp entry Deliver cause h = absurd cc
gap_first i item zero stamp entry (GapDeliver c) cause h = record { item_is = cc; first = refl; gap = cc }
gap_first i item (suc zero) stamp entry (GapDeliver c) cause h = absurd cc
gap_first i item (suc (suc place)) stamp entry (GapDeliver c) cause h = absurd cc

-- a gap line among the lines of an act
pub record IsOwn (act : Act) (earlier : List Act) (place item : ℕ) (cause : GapCause) : Type 0 where
  pub server : ℕ
  pub entry : Arrived
  pub stamp : Stamp
  pub act_is : Enter server item entry ≡ act
  pub first : place ≡ 0
  pub timed : entry.time ≡ Some stamp
  pub next : slice_get (lines_after act earlier) 1 ≡ Some (data_line item stamp entry)
  pub told : IsCause (joint_of server item earlier) entry cause

own_first : (server item place : ℕ) (stamp : Stamp) (entry : Arrived) (earlier : List Act) (cause : GapCause) → entry.time ≡ Some stamp
    → slice_get (lines_by item (Some stamp) entry (verdict_of (last_stamp item earlier) (joint_of server item earlier) (Some stamp) (has_overflow entry.status))) place ≡ Some (line.Gap item cause)
    → IsOwn (Enter server item entry) earlier place item cause
own_first server item place stamp entry earlier cause timed h =
    let f : IsFirst item item place (verdict_of (last_stamp item earlier) (joint_of server item earlier) (Some stamp) (has_overflow entry.status)) cause = gap_first item item place stamp entry _ cause h in
    record {
      server = server;
      entry = entry;
      stamp = stamp;
      act_is = refl;
      first = f.first;
      timed = timed;
      next =
          ap (λ o. slice_get (lines_by item o entry (verdict_of (last_stamp item earlier) (joint_of server item earlier) o (has_overflow entry.status))) 1) timed
          ∙ ap (λ v. slice_get (timed_lines item stamp entry v) 1) f.gap;
      told = told_of (last_stamp item earlier) (joint_of server item earlier) stamp entry cause f.gap;
    }

own_same : (server i item place : ℕ) (stamp : Stamp) (entry : Arrived) (earlier : List Act) (cause : GapCause) → i ≡ item → entry.time ≡ Some stamp
    → slice_get (lines_by i (Some stamp) entry (verdict_of (last_stamp i earlier) (joint_of server i earlier) (Some stamp) (has_overflow entry.status))) place ≡ Some (line.Gap item cause)
    → IsOwn (Enter server i entry) earlier place item cause
own_same server i item place stamp entry earlier cause is timed h =
    let P : ℕ → Type 0 = λ n. slice_get (lines_by n (Some stamp) entry (verdict_of (last_stamp n earlier) (joint_of server n earlier) (Some stamp) (has_overflow entry.status))) place ≡ Some (line.Gap item cause)
    → IsOwn (Enter server n entry) earlier place item cause in
    subst P (sym is) (λ k. own_first server item place stamp entry earlier cause timed k) h

own_timed : (server i item place : ℕ) (entry : Arrived) (earlier : List Act) (cause : GapCause) (o : Option Stamp) → entry.time ≡ o
    → slice_get (lines_by i o entry (verdict_of (last_stamp i earlier) (joint_of server i earlier) o (has_overflow entry.status))) place ≡ Some (line.Gap item cause)
    → IsOwn (Enter server i entry) earlier place item cause
own_timed server i item place entry earlier cause None timed h = absurd cc
own_timed server i item place entry earlier cause (Some stamp) timed h =
    let f : IsFirst i item place (verdict_of (last_stamp i earlier) (joint_of server i earlier) (Some stamp) (has_overflow entry.status)) cause = gap_first i item place stamp entry _ cause h in
    own_same server i item place stamp entry earlier cause f.item_is timed h

note_gap : (place item : ℕ) (cause : GapCause) (noted : LogLine) → is_note noted ≡ true → slice_get (noted ∷ []) place ≡ Some (line.Gap item cause) → ⊥
note_gap zero item cause noted n h = let is : noted ≡ line.Gap item cause = cc in absurd (cc (ap is_note is))
note_gap (suc place) item cause noted n h = absurd cc

own_gap : (act : Act) (earlier : List Act) (place item : ℕ) (cause : GapCause) → IsNoteAct act → slice_get (lines_after act earlier) place ≡ Some (line.Gap item cause) → IsOwn act earlier place item cause
own_gap (Enter server i entry) earlier place item cause n h = own_timed server i item place entry earlier cause entry.time refl h
own_gap (Set server i joint) earlier place item cause n h = absurd cc
own_gap (TurnOne server i turn) earlier place item cause n h = absurd cc
own_gap (TurnAll server turn) earlier place item cause n h = absurd cc
own_gap (Note noted) earlier place item cause n h = absurd (note_gap place item cause noted n h)

-- a gap line of an earlier act
caused_earlier : (act : Act) (earlier : List Act) (place item : ℕ) (cause : GapCause) → IsCaused earlier (lines_of earlier) place item cause → IsCaused (act ∷ earlier) (lines_of (act ∷ earlier)) place item cause
caused_earlier act earlier place item cause w = record {
  after = act ∷ w.after;
  before = w.before;
  server = w.server;
  entry = w.entry;
  stamp = w.stamp;
  came = ap (λ h. act ∷ h) w.came;
  then_at = w.then_at;
  timed = w.timed;
  next = get_within_front (lines_of earlier) (lines_after act earlier) (place + 1) (data_line item w.stamp w.entry) w.next;
  told = w.told;
}

-- a gap line of the last act
caused_now : (act : Act) (earlier : List Act) (place item : ℕ) (cause : GapCause) → length (lines_of earlier) ≤ place → IsOwn act earlier (place - length (lines_of earlier)) item cause
    → IsCaused (act ∷ earlier) (lines_of (act ∷ earlier)) place item cause
caused_now act earlier place item cause most w =
    let first : place - length (lines_of earlier) ≡ 0 = w.first in
    let one : (place + 1) - length (lines_of earlier) ≡ 1 = omega arith in
    record {
      after = [];
      before = earlier;
      server = w.server;
      entry = w.entry;
      stamp = w.stamp;
      came = ap (λ a. a ∷ earlier) w.act_is;
      then_at = omega arith;
      timed = w.timed;
      next = get_back (lines_of earlier) (lines_after act earlier) (place + 1) (omega arith) ∙ ap (slice_get (lines_after act earlier)) one ∙ w.next;
      told = w.told;
    }

caused_cases : (act : Act) (earlier : List Act) (place item : ℕ) (cause : GapCause) → IsNoteAct act
    → ((p : ℕ) → slice_get (lines_of earlier) p ≡ Some (line.Gap item cause) → IsCaused earlier (lines_of earlier) p item cause)
    → slice_get (lines_of (act ∷ earlier)) place ≡ Some (line.Gap item cause) → (place < length (lines_of earlier)) ⊎ (length (lines_of earlier) ≤ place)
    → IsCaused (act ∷ earlier) (lines_of (act ∷ earlier)) place item cause
caused_cases act earlier place item cause n ih h (inl less) =
    caused_earlier act earlier place item cause (ih place (sym (get_front (lines_of earlier) (lines_after act earlier) place less) ∙ h))
caused_cases act earlier place item cause n ih h (inr most) =
    caused_now act earlier place item cause most
    (own_gap act earlier (place - length (lines_of earlier)) item cause n (sym (get_back (lines_of earlier) (lines_after act earlier) place most) ∙ h))

caused_at : (history : List Act) (place item : ℕ) (cause : GapCause) → AreNotes history → slice_get (lines_of history) place ≡ Some (line.Gap item cause) → IsCaused history (lines_of history) place item cause
caused_at [] place item cause n h = absurd cc
caused_at (act ∷ earlier) place item cause n h =
    caused_cases act earlier place item cause n.0 (λ p k. caused_at earlier p item cause n.1 k) h (cases_lt place (length (lines_of earlier)))

-- THE CAUSES
pub caused_lines : (history : List Act) → AreNotes history → Caused history (lines_of history)
caused_lines history n = record { each = λ place item cause h. caused_at history place item cause n h }

note_from_fed : (source : List Change) (act : Act) → IsFedAct source act → IsNoteAct act
note_from_fed source (Enter server item entry) h = tt
note_from_fed source (Set server item joint) h = tt
note_from_fed source (TurnOne server item turn) h = tt
note_from_fed source (TurnAll server turn) h = tt
note_from_fed source (Note line) h = h

-- what is fed has notes alone beside its entries
pub notes_from_fed : (source : List Change) (history : List Act) → IsFed source history → AreNotes history
notes_from_fed source [] h = tt
notes_from_fed source (act ∷ earlier) h = (note_from_fed source act h.0, notes_from_fed source earlier h.1)
