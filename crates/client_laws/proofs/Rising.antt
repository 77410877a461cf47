-- The stamps of an item's data lines rise, whatever was entered.
use Rattle.std.proofs.Common.{◌≡◌, ◌==◌, ℕ, List, [], ◌∷◌, ◌++◌, Bool, true, false, Option, Some, None, if◌then◌else◌, refl, sym, ◌∙◌, ap, subst, arith}
use Rattle.std.proofs.lemmas.Bool.Decides.{nat_tests}
use Rattle.set_model.specs.declared.line.Arrived.{Arrived}
use Rattle.set_model.specs.declared.line.LogLine.{LogLine}
use Rattle.set_model.specs.declared.line.LogLine.TheVariants as line
use Rattle.set_model.specs.declared.stamp.Stamp.{Stamp}
use Rattle.set_model.specs.Stamp.{is_before}
use Rattle.delivery_log.specs.declared.rule.Joint.{Joint}
use Rattle.delivery_log.specs.declared.rule.Joint.TheVariants.{Joined, Open, Held}
use Rattle.delivery_log.specs.declared.rule.Verdict.{Verdict}
use Rattle.delivery_log.specs.declared.rule.Verdict.TheVariants.{Nothing, Deliver, GapDeliver}
use Rattle.delivery_log.specs.Judge.{has_overflow, later, verdict_after, verdict_of}
use Rattle.delivery_log.specs.Log.{lines_by}
use Rattle.delivery_log.specs.History.{Act, Enter, Set, TurnOne, TurnAll, Note, joint_of, last_by, last_stamp, lines_after, lines_of}
use Rattle.delivery_log.specs.Reading.{AreNeighbours, HaveNoData, is_data}
use Rattle.delivery_log.specs.Safe.{Part, DataLine, GapLine, OtherLine, HeardLine, part_of, parts_of}
use Rattle.delivery_log.specs.WellFed.{AreNotes, IsNoteAct, is_note}
use Rattle.delivery_log.proofs.Steps.{other_parts, own_parts, parts_of_other, parts_of_own}
use Rattle.set_model.specs.declared.line.Seen.{Seen}
use Rattle.client_rules.specs.declared.config.ClientConfig.{ClientConfig}
use Rattle.client_rules.specs.Step.{Moment}
use Rattle.client_laws.specs.Life.{client_after, history_of}
use Rattle.client_laws.proofs.Logs.{acts_note, lines_are}

-- ---- parts that rise

abbrev pub IsAfter : Option Stamp → Stamp → Type 0
IsAfter None stamp = Unit {0}
IsAfter (Some last) stamp = is_before last stamp ≡ true

abbrev pub Rises : Option Stamp → List Part → Type 0
Rises last [] = Unit {0}
Rises last (DataLine stamp value ∷ parts) = IsAfter last stamp × Rises (Some stamp) parts
Rises last (GapLine ∷ parts) = Rises last parts
Rises last (OtherLine ∷ parts) = Rises last parts
Rises last (HeardLine ∷ parts) = Rises last parts

abbrev pub last_in : Option Stamp → List Part → Option Stamp
last_in last [] = last
last_in last (DataLine stamp value ∷ parts) = last_in (Some stamp) parts
last_in last (GapLine ∷ parts) = last_in last parts
last_in last (OtherLine ∷ parts) = last_in last parts
last_in last (HeardLine ∷ parts) = last_in last parts

rises_append : (last : Option Stamp) (parts more : List Part) → Rises last parts → Rises (last_in last parts) more
    → Rises last (parts ++ more)
rises_append last [] more r s = s
rises_append last (DataLine stamp value ∷ parts) more r s = (r.0, rises_append (Some stamp) parts more r.1 s)
rises_append last (GapLine ∷ parts) more r s = rises_append last parts more r s
rises_append last (OtherLine ∷ parts) more r s = rises_append last parts more r s
rises_append last (HeardLine ∷ parts) more r s = rises_append last parts more r s

last_append : (last : Option Stamp) (parts more : List Part) → last_in last (parts ++ more) ≡ last_in (last_in last parts) more
last_append last [] more = refl
last_append last (DataLine stamp value ∷ parts) more = last_append (Some stamp) parts more
last_append last (GapLine ∷ parts) more = last_append last parts more
last_append last (OtherLine ∷ parts) more = last_append last parts more
last_append last (HeardLine ∷ parts) more = last_append last parts more

-- what stands behind a front rises too
behind : (last : Option Stamp) (parts more : List Part) → Rises last (parts ++ more) → Rises (last_in last parts) more
behind last [] more r = r
behind last (DataLine stamp value ∷ parts) more r = behind (Some stamp) parts more r.1
behind last (GapLine ∷ parts) more r = behind last parts more r
behind last (OtherLine ∷ parts) more r = behind last parts more r
behind last (HeardLine ∷ parts) more r = behind last parts more r

parts_append : (item : ℕ) (lines more : List LogLine) → parts_of item (lines ++ more) ≡ parts_of item lines ++ parts_of item more
parts_append item [] more = refl
parts_append item (l ∷ lines) more = ap (λ ps. part_of item l ∷ ps) (parts_append item lines more)

-- ---- the lines of an act

-- parts rise from a stamp, and end with one
record RisesTo (before after : Option Stamp) (parts : List Part) : Type 0 where
  rises : Rises before parts
  ends : last_in before parts ≡ after

silent : (last : Option Stamp) → RisesTo last last []
silent last = record { rises = tt; ends = refl }

-- an entry of the item by the verdict on it
delivers : (last : Option Stamp) (stamp : Stamp) (value : Seen) (joint : Joint) (marked : Bool) → IsAfter last stamp
    → RisesTo last (Some stamp) (own_parts stamp value (verdict_after joint marked))
delivers last stamp value (Open cause) marked a = record { rises = (a, tt); ends = refl }
delivers last stamp value Held marked a = record { rises = (a, tt); ends = refl }
delivers last stamp value Joined true a = record { rises = (a, tt); ends = refl }
delivers last stamp value Joined false a = record { rises = (a, tt); ends = refl }

own_test : (last stamp : Stamp) (value : Seen) (joint : Joint) (marked b : Bool) → is_before last stamp ≡ b
    → RisesTo (Some last) (if b then Some stamp else Some last)
    (own_parts stamp value (if b then verdict_after joint marked else Nothing))
own_test last stamp value joint marked true e = delivers (Some last) stamp value joint marked e
own_test last stamp value joint marked false e = silent (Some last)

own_stamped : (last : Option Stamp) (stamp : Stamp) (value : Seen) (joint : Joint) (marked : Bool)
    → RisesTo last (later last (Some stamp)) (own_parts stamp value (verdict_of last joint (Some stamp) marked))
own_stamped None stamp value joint marked = record { rises = (tt, tt); ends = refl }
own_stamped (Some last) stamp value joint marked = own_test last stamp value joint marked (is_before last stamp) refl

own_timed : (item : ℕ) (entry : Arrived) (o last : Option Stamp) (joint : Joint)
    → RisesTo last (later last o) (parts_of item (lines_by item o entry (verdict_of last joint o (has_overflow entry.status))))
own_timed item entry None last joint = silent last
own_timed item entry (Some stamp) last joint =
    let same : (item == item) ≡ true = grind (arith, nat_tests) in
    let P : List Part → Type 0 = λ parts. RisesTo last (later last (Some stamp)) parts in
    subst P (sym (parts_of_own item stamp entry (verdict_of last joint (Some stamp) (has_overflow entry.status)) (item == item) refl same))
    (own_stamped last stamp entry.value joint (has_overflow entry.status))

others_silent : (verdict : Verdict) (last : Option Stamp) → RisesTo last last (other_parts verdict)
others_silent Nothing last = silent last
others_silent Deliver last = record { rises = tt; ends = refl }
others_silent (GapDeliver cause) last = record { rises = tt; ends = refl }

other_timed : (i item : ℕ) (entry : Arrived) (o own last : Option Stamp) (joint : Joint) → (i == item) ≡ false
    → RisesTo last last (parts_of item (lines_by i o entry (verdict_of own joint o (has_overflow entry.status))))
other_timed i item entry None own last joint e = silent last
other_timed i item entry (Some stamp) own last joint e =
    let P : List Part → Type 0 = λ parts. RisesTo last last parts in
    subst P (sym (parts_of_other i item stamp entry (verdict_of own joint (Some stamp) (has_overflow entry.status)) e))
    (others_silent _ last)

entry_step : (item server i : ℕ) (entry : Arrived) (earlier : List Act) (b : Bool) → (i == item) ≡ b
    → RisesTo (last_stamp item earlier) (if b then later (last_stamp item earlier) entry.time else last_stamp item earlier)
    (parts_of item (lines_after (Enter server i entry) earlier))
entry_step item server i entry earlier true e =
    let is : i ≡ item = grind (arith, nat_tests) in
    let P : ℕ → Type 0 = λ n. RisesTo (last_stamp item earlier) (later (last_stamp item earlier) entry.time)
    (parts_of item (lines_after (Enter server n entry) earlier)) in
    subst P (sym is) (own_timed item entry entry.time (last_stamp item earlier) (joint_of server item earlier))
entry_step item server i entry earlier false e =
    other_timed i item entry entry.time (last_stamp i earlier) (last_stamp item earlier) (joint_of server i earlier) e

note_step : (item : ℕ) (l : LogLine) (last : Option Stamp) → is_note l ≡ true → RisesTo last last (part_of item l ∷ [])
note_step item (line.Delivered i time pico value status) last h = absurd cc
note_step item (line.Gap i cause) last h = absurd cc
note_step item (line.Switch from to) last h = record { rises = tt; ends = refl }
note_step item (line.Ready server) last h = record { rises = tt; ends = refl }
note_step item (line.Lost server) last h = record { rises = tt; ends = refl }
note_step item (line.Unsupported server) last h = record { rises = tt; ends = refl }
note_step item (line.Heard listener changes gaps) last h = record { rises = tt; ends = refl }
note_step item (line.Done changes) last h = record { rises = tt; ends = refl }

act_step : (item : ℕ) (act : Act) (earlier : List Act) → IsNoteAct act
    → RisesTo (last_stamp item earlier) (last_by item act (last_stamp item earlier)) (parts_of item (lines_after act earlier))
act_step item (Enter server i entry) earlier h = entry_step item server i entry earlier (i == item) refl
act_step item (Set server i joint) earlier h = silent (last_stamp item earlier)
act_step item (TurnOne server i turn) earlier h = silent (last_stamp item earlier)
act_step item (TurnAll server turn) earlier h = silent (last_stamp item earlier)
act_step item (Note l) earlier h = note_step item l (last_stamp item earlier) h

-- ---- a history

then_on : (item : ℕ) (lines more : List LogLine) (before after : Option Stamp) → RisesTo None before (parts_of item lines)
    → RisesTo before after (parts_of item more) → RisesTo None after (parts_of item (lines ++ more))
then_on item lines more before after first second =
    let P : Option Stamp → Type 0 = λ o. Rises o (parts_of item more) in
    let Q : List Part → Type 0 = λ parts. RisesTo None after parts in
    subst Q (sym (parts_append item lines more)) (record {
      rises = rises_append None (parts_of item lines) (parts_of item more) first.rises (subst P (sym first.ends) second.rises);
      ends = last_append None (parts_of item lines) (parts_of item more)
          ∙ ap (λ o. last_in o (parts_of item more)) first.ends ∙ second.ends;
    })

history_rises : (item : ℕ) (history : List Act) → AreNotes history
    → RisesTo None (last_stamp item history) (parts_of item (lines_of history))
history_rises item [] notes = silent None
history_rises item (act ∷ earlier) notes =
    then_on item (lines_of earlier) (lines_after act earlier) (last_stamp item earlier) (last_stamp item (act ∷ earlier))
    (history_rises item earlier notes.1) (act_step item act earlier notes.0)

-- ---- two neighbours

no_data_part : (part : Part) (last : Option Stamp) (parts : List Part) → is_data part ≡ false
    → last_in last (part ∷ parts) ≡ last_in last parts
no_data_part (DataLine stamp value) last parts h = absurd cc
no_data_part GapLine last parts h = refl
no_data_part OtherLine last parts h = refl
no_data_part HeardLine last parts h = refl

last_stays : (item : ℕ) (lines : List LogLine) (last : Option Stamp) → HaveNoData item lines
    → last_in last (parts_of item lines) ≡ last
last_stays item [] last h = refl
last_stays item (l ∷ lines) last h =
    no_data_part (part_of item l) last (parts_of item lines) h.0 ∙ last_stays item lines last h.1

-- behind the first of two
first_passed : (item : ℕ) (former : LogLine) (stamp : Stamp) (value : Seen) (last : Option Stamp) (lines : List LogLine)
    → part_of item former ≡ DataLine stamp value → Rises last (parts_of item (former ∷ lines))
    → Rises (Some stamp) (parts_of item lines)
first_passed item former stamp value last lines is r =
    (subst (λ part. Rises last (part ∷ parts_of item lines)) is r).1

-- at the second one
second_after : (item : ℕ) (latter : LogLine) (stamp : Stamp) (value : Seen) (first : Stamp) (lines : List LogLine)
    → part_of item latter ≡ DataLine stamp value → Rises (Some first) (parts_of item (latter ∷ lines))
    → is_before first stamp ≡ true
second_after item latter stamp value first lines is r =
    (subst (λ part. Rises (Some first) (part ∷ parts_of item lines)) is r).0

behind_lines : (item : ℕ) (last : Option Stamp) (lines more : List LogLine) → Rises last (parts_of item (lines ++ more))
    → Rises (last_in last (parts_of item lines)) (parts_of item more)
behind_lines item last lines more r =
    behind last (parts_of item lines) (parts_of item more) (subst (Rises last) (parts_append item lines more) r)

pub neighbours_rise : (item : ℕ) (history : List Act) (first second : Stamp) (between : List LogLine) → AreNotes history
    → AreNeighbours item (lines_of history) first between second → is_before first second ≡ true
neighbours_rise item history first second between notes near =
    let all : Rises None (parts_of item (lines_of history)) = (history_rises item history notes).rises in
    let whole : Rises None (parts_of item (near.front ++ near.former ∷ (between ++ near.latter ∷ near.back))) =
    subst (λ lines. Rises None (parts_of item lines)) near.are all in
    let at_former = behind_lines item None near.front (near.former ∷ (between ++ near.latter ∷ near.back)) whole in
    let after_former = first_passed item near.former first near.former_value _ (between ++ near.latter ∷ near.back) near.former_is at_former in
    let at_latter = behind_lines item (Some first) between (near.latter ∷ near.back) after_former in
    second_after item near.latter second near.latter_value first near.back near.latter_is
    (subst (λ o. Rises o (parts_of item (near.latter ∷ near.back))) (last_stays item between (Some first) near.none) at_latter)

pub stamps_rise : (config : ClientConfig) (moments : List Moment) (item : ℕ) (first second : Stamp) (between : List LogLine)
    → AreNeighbours item (client_after config moments).log.lines first between second → is_before first second ≡ true
stamps_rise config moments item first second between near =
    neighbours_rise item (history_of config moments) first second between (acts_note config moments)
    (subst (λ lines. AreNeighbours item lines first between second) (lines_are config moments) near)
