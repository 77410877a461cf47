-- The law of the log: what is well fed is safe, and what is fed is in order.
use Rattle.std.proofs.Common.{◌≡◌, ◌==◌, ℕ, ◌≤◌, List, [], ◌∷◌, ◌++◌, Bool, true, false, cond, Option, Some, None, IsSomeAnd, refl, sym, subst, arith}
use Rattle.std.proofs.lemmas.Bool.Decides.{nat_tests}
use Rattle.std.proofs.lemmas.List.{map-append}
use Rattle.set_model.specs.declared.line.Arrived.{Arrived}
use Rattle.set_model.specs.declared.line.LogLine.{LogLine}
use Rattle.set_model.specs.declared.line.LogLine.TheVariants as line
use Rattle.set_model.specs.declared.source.Change.{Change}
use Rattle.set_model.specs.declared.stamp.Stamp.{Stamp}
use Rattle.set_model.specs.Source.{of_item, Rises, IsSource}
use Rattle.delivery_log.specs.declared.rule.Joint.{Joint}
use Rattle.delivery_log.specs.declared.rule.Joint.TheVariants.{Joined}
use Rattle.delivery_log.specs.Judge.{has_overflow, later, verdict_of}
use Rattle.delivery_log.specs.Log.{entry_lines, lines_by}
use Rattle.delivery_log.specs.Safe.{Part, part_of, parts_of, IsChangeAt, Safe, InOrder}
use Rattle.delivery_log.specs.History.{Act, Enter, Set, TurnOne, TurnAll, Note, joint_of, last_by, last_stamp, lines_after, lines_of}
use Rattle.delivery_log.specs.WellFed.{is_note, IsFedEntry, IsFedAct, IsLinkedAct, IsFed, WellFed}
use Rattle.delivery_log.proofs.Steps.{IsLast, WalksOn, own_step, stays, stays_other, parts_of_own, parts_of_other, walk_on, safe_from_walk, in_order_from_walk}
use Rattle.delivery_log.proofs.Former.{linked_next}

-- the links of a history
abbrev pub AreLinked : List Change → List Act → Type 0
AreLinked source [] = Unit {0}
AreLinked source (act ∷ earlier) = IsLinkedAct source act earlier × AreLinked source earlier

pub links_of : (source : List Change) (history : List Act) → WellFed source history → AreLinked source history
links_of source [] h = tt
links_of source (act ∷ earlier) h = (h.1, links_of source earlier h.2)

-- what is well fed is fed
pub fed_from_well_fed : (source : List Change) (history : List Act) → WellFed source history → IsFed source history
fed_from_well_fed source [] h = tt
fed_from_well_fed source (act ∷ earlier) h = (h.0, fed_from_well_fed source earlier h.2)

own_timed : (told : Bool) (cs : List Change) (item : ℕ) (entry : Arrived) (o : Option Stamp) (used : ℕ) (last : Option Stamp) (joint : Joint) → Rises cs → IsLast cs used last
    → ((stamp : Stamp) → o ≡ Some stamp → (place : ℕ) × IsChangeAt cs place stamp entry.value)
    → ((stamp : Stamp) (place : ℕ) → o ≡ Some stamp → IsChangeAt cs place stamp entry.value → told ≡ true → joint ≡ Joined → has_overflow entry.status ≡ false → IsSomeAnd last (λ l. place ≤ used))
    → WalksOn told cs used (parts_of item (lines_by item o entry (verdict_of last joint o (has_overflow entry.status)))) (later last o)
own_timed told cs item entry None used last joint rises l fed next = stays told cs used last l
own_timed told cs item entry (Some stamp) used last joint rises l fed next =
    let same : (item == item) ≡ true = grind (arith, nat_tests) in
    let f : (place : ℕ) × IsChangeAt cs place stamp entry.value = fed stamp refl in
    let P : List Part → Type 0 = λ parts. WalksOn told cs used parts (later last (Some stamp)) in
    subst P (sym (parts_of_own item stamp entry (verdict_of last joint (Some stamp) (has_overflow entry.status)) (item == item) refl same))
    (own_step told cs used last joint f.0 stamp entry.value (has_overflow entry.status) rises l f.1 (λ t j m. next stamp f.0 refl f.1 t j m))

-- an entry of the item keeps the walk
own_entry : (told : Bool) (source : List Change) (server item : ℕ) (entry : Arrived) (earlier : List Act) (used : ℕ) → Rises (of_item item source)
    → IsLast (of_item item source) used (last_stamp item earlier) → IsFedEntry source item entry → (told ≡ true → IsLinkedAct source (Enter server item entry) earlier)
    → WalksOn told (of_item item source) used (parts_of item (entry_lines item entry (last_stamp item earlier) (joint_of server item earlier))) (later (last_stamp item earlier) entry.time)
own_entry told source server item entry earlier used rises l fed links =
    own_timed told (of_item item source) item entry entry.time used (last_stamp item earlier) (joint_of server item earlier) rises l fed.fed
    (λ stamp place timed h t j m. linked_next source server item earlier entry used place stamp rises l timed h (links t stamp timed j) m)

other_timed : (told : Bool) (cs : List Change) (i item : ℕ) (entry : Arrived) (o : Option Stamp) (used : ℕ) (last own : Option Stamp) (joint : Joint) → IsLast cs used last → (i == item) ≡ false
    → WalksOn told cs used (parts_of item (lines_by i o entry (verdict_of own joint o (has_overflow entry.status)))) last
other_timed told cs i item entry None used last own joint l e = stays told cs used last l
other_timed told cs i item entry (Some stamp) used last own joint l e =
    let P : List Part → Type 0 = λ parts. WalksOn told cs used parts last in
    subst P (sym (parts_of_other i item stamp entry (verdict_of own joint (Some stamp) (has_overflow entry.status)) e)) (stays_other told cs used last _ l)

entry_step : (told : Bool) (source : List Change) (item server i : ℕ) (entry : Arrived) (earlier : List Act) (used : ℕ) → Rises (of_item item source)
    → IsLast (of_item item source) used (last_stamp item earlier) → IsFedEntry source i entry → (told ≡ true → IsLinkedAct source (Enter server i entry) earlier)
    → (b : Bool) → (i == item) ≡ b
    → WalksOn told (of_item item source) used (parts_of item (lines_after (Enter server i entry) earlier)) (cond b (later (last_stamp item earlier) entry.time) (last_stamp item earlier))
entry_step told source item server i entry earlier used rises l fed links true e =
    let is : i ≡ item = grind (arith, nat_tests) in
    let P : ℕ → Type 0 = λ n. IsFedEntry source n entry → (told ≡ true → IsLinkedAct source (Enter server n entry) earlier)
    → WalksOn told (of_item item source) used (parts_of item (lines_after (Enter server n entry) earlier)) (later (last_stamp item earlier) entry.time) in
    subst P (sym is) (λ f k. own_entry told source server item entry earlier used rises l f k) fed links
entry_step told source item server i entry earlier used rises l fed links false e =
    other_timed told (of_item item source) i item entry entry.time used (last_stamp item earlier) (last_stamp i earlier) (joint_of server i earlier) l e

note_step : (told : Bool) (cs : List Change) (item : ℕ) (line : LogLine) (used : ℕ) (last : Option Stamp) → IsLast cs used last → is_note line ≡ true
    → WalksOn told cs used (part_of item line ∷ []) last
note_step told cs item (line.Delivered i time pico value status) used last l h = absurd cc
note_step told cs item (line.Gap i cause) used last l h = absurd cc
note_step told cs item (line.Switch from to) used last l h = record { after = used; walk = (refl, refl); last_is = l }
note_step told cs item (line.Ready server) used last l h = record { after = used; walk = (refl, refl); last_is = l }
note_step told cs item (line.Lost server) used last l h = record { after = used; walk = (refl, refl); last_is = l }
note_step told cs item (line.Unsupported server) used last l h = record { after = used; walk = (refl, refl); last_is = l }
note_step told cs item (line.Heard listener changes gaps) used last l h = record { after = used; walk = (refl, refl); last_is = l }
note_step told cs item (line.Done changes) used last l h = record { after = used; walk = (refl, refl); last_is = l }

-- an act keeps the walk
act_step : (told : Bool) (source : List Change) (item : ℕ) (act : Act) (earlier : List Act) (used : ℕ) → Rises (of_item item source)
    → IsLast (of_item item source) used (last_stamp item earlier) → IsFedAct source act → (told ≡ true → IsLinkedAct source act earlier)
    → WalksOn told (of_item item source) used (parts_of item (lines_after act earlier)) (last_by item act (last_stamp item earlier))
act_step told source item (Enter server i entry) earlier used rises l fed links =
    entry_step told source item server i entry earlier used rises l fed links (i == item) refl
act_step told source item (Set server i joint) earlier used rises l fed links = stays told (of_item item source) used (last_stamp item earlier) l
act_step told source item (TurnOne server i turn) earlier used rises l fed links = stays told (of_item item source) used (last_stamp item earlier) l
act_step told source item (TurnAll server turn) earlier used rises l fed links = stays told (of_item item source) used (last_stamp item earlier) l
act_step told source item (Note line) earlier used rises l fed links = note_step told (of_item item source) item line used (last_stamp item earlier) l fed

-- one step after a walk
then_on : (told : Bool) (cs : List Change) (item : ℕ) (xs ys : List LogLine) (before after : Option Stamp) → (w : WalksOn told cs 0 (parts_of item xs) before)
    → WalksOn told cs w.after (parts_of item ys) after → WalksOn told cs 0 (parts_of item (xs ++ ys)) after
then_on told cs item xs ys before after w v =
    let P : List Part → Type 0 = λ parts. WalksOn told cs 0 parts after in
    subst P (sym (map-append (part_of item) xs ys)) (record {
      after = v.after;
      walk = walk_on told cs 0 false (parts_of item xs) (parts_of item ys) w.after v.after w.walk v.walk;
      last_is = v.last_is;
    })

-- the walk over all lines of a history
pub walk_of : (told : Bool) (source : List Change) (item : ℕ) (history : List Act) → Rises (of_item item source) → IsFed source history
    → (told ≡ true → AreLinked source history) → WalksOn told (of_item item source) 0 (parts_of item (lines_of history)) (last_stamp item history)
walk_of told source item [] rises fed links = stays told (of_item item source) 0 None refl
walk_of told source item (act ∷ earlier) rises fed links =
    let w : WalksOn told (of_item item source) 0 (parts_of item (lines_of earlier)) (last_stamp item earlier) = walk_of told source item earlier rises fed.1 (λ t. (links t).1) in
    then_on told (of_item item source) item (lines_of earlier) (lines_after act earlier) (last_stamp item earlier) (last_by item act (last_stamp item earlier)) w
    (act_step told source item act earlier w.after rises w.last_is fed.0 (λ t. (links t).0))

-- THE LAW OF THE LOG
pub safe_from_well_fed : (source : List Change) (history : List Act) → IsSource source → WellFed source history → Safe source (lines_of history)
safe_from_well_fed source history h fed = record {
  each = λ item.
      let w : WalksOn true (of_item item source) 0 (parts_of item (lines_of history)) (last_stamp item history) =
      walk_of true source item history (h.rises item) (fed_from_well_fed source history fed) (λ t. links_of source history fed) in
      safe_from_walk (of_item item source) 0 false (parts_of item (lines_of history)) w.after w.walk;
}

-- order alone, with no links
pub in_order_from_fed : (source : List Change) (history : List Act) → IsSource source → IsFed source history → InOrder source (lines_of history)
in_order_from_fed source history h fed = record {
  each = λ item.
      let w : WalksOn false (of_item item source) 0 (parts_of item (lines_of history)) (last_stamp item history) =
      walk_of false source item history (h.rises item) fed (λ t. absurd cc) in
      in_order_from_walk (of_item item source) 0 false (parts_of item (lines_of history)) w.after w.walk;
}
