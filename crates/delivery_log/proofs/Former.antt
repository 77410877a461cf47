-- Why an entry that is linked to the one before it skips nothing: the one before is not after the last data line.
use Rattle.std.proofs.Common.{◌≡◌, ◌==◌, ◌&&◌, ℕ, ◌+◌, ◌≤◌, List, [], ◌∷◌, Bool, true, false, cond, Option, Some, None, IsSomeAnd, refl, sym, ◌∙◌, ap, subst, arith}
use Rattle.std.specs.Prelude.{if◌then◌else◌}
use Rattle.std.proofs.lemmas.Option.{same_Some}
use Rattle.set_model.specs.declared.line.Arrived.{Arrived}
use Rattle.set_model.specs.declared.source.Change.{Change}
use Rattle.set_model.specs.declared.stamp.Stamp.{Stamp}
use Rattle.set_model.specs.Source.{of_item, stamp_of, Rises}
use Rattle.set_model.specs.Stamp.{is_before}
use Rattle.delivery_log.specs.Judge.{has_overflow, later}
use Rattle.delivery_log.specs.Safe.{IsChangeAt}
use Rattle.delivery_log.specs.History.{Act, Enter, Set, TurnOne, TurnAll, Note, last_stamp, previous}
use Rattle.delivery_log.specs.WellFed.{Linked}
use Rattle.delivery_log.proofs.Stamps.{apart, still_not_before}
use Rattle.delivery_log.proofs.Places.{place_from_stamp}
use Rattle.delivery_log.proofs.Steps.{IsLast, IsLastAt}

-- something was delivered, and the stamp is not after it
abbrev pub IsReached : Option Stamp → Stamp → Type 0
IsReached None stamp = ⊥
IsReached (Some last) stamp = is_before last stamp ≡ false

reached_test : (last stamp : Stamp) (b : Bool) → is_before last stamp ≡ b → IsReached (if b then Some stamp else Some last) stamp
reached_test last stamp false e = e
reached_test last stamp true e = apart stamp

-- an entry's stamp is reached once it is entered
later_reaches : (last : Option Stamp) (stamp : Stamp) → IsReached (later last (Some stamp)) stamp
later_reaches None stamp = apart stamp
later_reaches (Some last) stamp = reached_test last stamp (is_before last stamp) refl

keeps_test : (last more stamp : Stamp) (b : Bool) → is_before last more ≡ b → is_before last stamp ≡ false → IsReached (if b then Some more else Some last) stamp
keeps_test last more stamp false e h = h
keeps_test last more stamp true e h = still_not_before last more stamp e h

-- what is reached stays so
later_keeps : (last more : Option Stamp) (stamp : Stamp) → IsReached last stamp → IsReached (later last more) stamp
later_keeps last None stamp h = h
later_keeps None (Some more) stamp h = absurd h
later_keeps (Some last) (Some more) stamp h = keeps_test last more stamp (is_before last more) refl h

entered_reaches : (b c : Bool) (entry former : Arrived) (before : Option Arrived) (last : Option Stamp) (stamp : Stamp) → (before ≡ Some former → IsReached last stamp)
    → cond (b && c) (Some entry) before ≡ Some former → former.time ≡ Some stamp → IsReached (cond c (later last entry.time) last) stamp
entered_reaches true true entry former before last stamp ih h timed =
    let P : Option Stamp → Type 0 = λ o. IsReached (later last o) stamp in
    let is : entry.time ≡ Some stamp = ap (λ (e : Arrived). e.time) (same_Some entry former h) ∙ timed in
    subst P (sym is) (later_reaches last stamp)
entered_reaches true false entry former before last stamp ih h timed = ih h
entered_reaches false true entry former before last stamp ih h timed = later_keeps last entry.time stamp (ih h)
entered_reaches false false entry former before last stamp ih h timed = ih h

-- the entry that came last for a server and item is not after the item's last data line
pub previous_reached : (server item : ℕ) (history : List Act) (former : Arrived) (stamp : Stamp) → previous server item history ≡ Some former → former.time ≡ Some stamp
    → IsReached (last_stamp item history) stamp
previous_reached server item [] former stamp h timed = absurd cc
previous_reached server item (Enter s i entry ∷ earlier) former stamp h timed =
    entered_reaches (s == server) (i == item) entry former (previous server item earlier) (last_stamp item earlier) stamp
    (λ e. previous_reached server item earlier former stamp e timed) h timed
previous_reached server item (Set s i joint ∷ earlier) former stamp h timed = previous_reached server item earlier former stamp h timed
previous_reached server item (TurnOne s i turn ∷ earlier) former stamp h timed = previous_reached server item earlier former stamp h timed
previous_reached server item (TurnAll s turn ∷ earlier) former stamp h timed = previous_reached server item earlier former stamp h timed
previous_reached server item (Note line ∷ earlier) former stamp h timed = previous_reached server item earlier former stamp h timed

-- a change of the same stamp as another has no later place
same_stamp : (cs : List Change) (place to : ℕ) (stamp other : Stamp) (entry : Arrived) → Rises cs → entry.time ≡ Some stamp → entry.time ≡ Some other
    → IsChangeAt cs place stamp entry.value → IsChangeAt cs to other entry.value → place ≤ to
same_stamp cs place to stamp other entry rises e f h k =
    let is : stamp_of k.change ≡ stamp_of h.change = sym k.stamp_is ∙ same_Some other stamp (sym f ∙ e) ∙ h.stamp_is in
    let P : Stamp → Type 0 = λ t. is_before t (stamp_of h.change) ≡ false in
    place_from_stamp cs place to h.change k.change rises (subst P (sym is) (apart (stamp_of h.change))) h.here k.here

-- the places used reach the change of a stamp that is reached
place_reached : (cs : List Change) (used from : ℕ) (last stamp : Stamp) (entry : Arrived) → Rises cs → IsLastAt cs used last → is_before last stamp ≡ false
    → IsChangeAt cs from stamp entry.value → from + 1 ≤ used
place_reached cs used from last stamp entry rises l reached h =
    let P : Stamp → Type 0 = λ t. is_before t stamp ≡ false in
    let Q : Stamp → Type 0 = λ t. is_before (stamp_of l.change) t ≡ false in
    let least : from ≤ l.place = place_from_stamp cs from l.place h.change l.change rises (subst Q h.stamp_is (subst P l.stamp_is reached)) h.here l.here in
    let is : used ≡ l.place + 1 = l.used_is in
    omega arith

next_of_last : (source : List Change) (item : ℕ) (former entry : Arrived) (used place : ℕ) (stamp : Stamp) (last : Option Stamp) → Rises (of_item item source)
    → IsLast (of_item item source) used last → entry.time ≡ Some stamp → IsChangeAt (of_item item source) place stamp entry.value
    → (k : Linked source item former entry) → has_overflow entry.status ≡ false → IsReached last k.former_at.stamp → IsSomeAnd last (λ l. place ≤ used)
next_of_last source item former entry used place stamp None rises l timed h k unmarked reached = absurd reached
next_of_last source item former entry used place stamp (Some last) rises l timed h k unmarked reached =
    let below : k.from + 1 ≤ used = place_reached (of_item item source) used k.from last k.former_at.stamp former rises l reached k.former_at.shows in
    let at : place ≤ k.to = same_stamp (of_item item source) place k.to stamp k.entry_at.stamp entry rises timed k.entry_at.timed h k.entry_at.shows in
    let next : k.to ≡ k.from + 1 = k.next unmarked in
    omega arith

next_of_previous : (source : List Change) (server item : ℕ) (earlier : List Act) (entry : Arrived) (used place : ℕ) (stamp : Stamp) (p : Option Arrived)
    → previous server item earlier ≡ p → Rises (of_item item source) → IsLast (of_item item source) used (last_stamp item earlier) → entry.time ≡ Some stamp
    → IsChangeAt (of_item item source) place stamp entry.value → IsSomeAnd p (λ former. Linked source item former entry) → has_overflow entry.status ≡ false
    → IsSomeAnd (last_stamp item earlier) (λ l. place ≤ used)
next_of_previous source server item earlier entry used place stamp None e rises l timed h k unmarked = absurd k
next_of_previous source server item earlier entry used place stamp (Some former) e rises l timed h k unmarked =
    next_of_last source item former entry used place stamp (last_stamp item earlier) rises l timed h k unmarked
    (previous_reached server item earlier former k.former_at.stamp e k.former_at.timed)

-- an unmarked entry that is linked to the one before it of its server and item is at the first place not used, or before
pub linked_next : (source : List Change) (server item : ℕ) (earlier : List Act) (entry : Arrived) (used place : ℕ) (stamp : Stamp)
    → Rises (of_item item source) → IsLast (of_item item source) used (last_stamp item earlier) → entry.time ≡ Some stamp
    → IsChangeAt (of_item item source) place stamp entry.value → IsSomeAnd (previous server item earlier) (λ former. Linked source item former entry)
    → has_overflow entry.status ≡ false → IsSomeAnd (last_stamp item earlier) (λ l. place ≤ used)
linked_next source server item earlier entry used place stamp rises l timed h k unmarked =
    next_of_previous source server item earlier entry used place stamp (previous server item earlier) refl rises l timed h k unmarked
