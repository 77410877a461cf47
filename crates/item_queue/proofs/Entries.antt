-- Entries that are the changes at places, with their marks: what one place more makes of them, by the rule of the queue.
use Rattle.std.proofs.Common.{◌≡◌, ℕ, zero, suc, ◌+◌, ◌-◌, ◌≤◌, ◌<◌, List, [], ◌∷◌, ◌++◌, Bool, true, false, Some, length, take, drop, refl, sym, ◌∙◌, ap, arith, slice_get}
use Rattle.std.specs.Prelude.{All, nat_le}
use Rattle.std.proofs.lemmas.Bool.Decides.{nat_tests}
use Rattle.std.proofs.lemmas.List.Elements.{All-cons}
use Rattle.set_model.specs.declared.source.Change.{Change}
use Rattle.item_queue.specs.declared.queue.Entry.{Entry}
use Rattle.item_queue.specs.Queue.{marked_first, unmarked, replacing}
use Rattle.item_queue.specs.Stream.{AreAt, IsAt, is_marked, last_place}

-- a place that is there lies within the list
get_within : (changes : List Change) (k : ℕ) (change : Change) → slice_get changes k ≡ Some change → k < length changes
get_within [] k change is = absurd cc
get_within (c ∷ changes) zero change is = omega arith
get_within (c ∷ changes) (suc k) change is = let more = get_within changes k change is in omega arith

-- and has the same change when more are behind
get_more : (changes more : List Change) (k : ℕ) (change : Change) → slice_get changes k ≡ Some change → slice_get (changes ++ more) k ≡ Some change
get_more [] more k change is = absurd cc
get_more (c ∷ changes) more zero change is = is
get_more (c ∷ changes) more (suc k) change is = get_more changes more k change is

-- the change behind all others
get_last : (changes : List Change) (change : Change) → slice_get (changes ++ change ∷ []) (length changes) ≡ Some change
get_last [] change = refl
get_last (c ∷ changes) change = get_last changes change

last_change : (changes : List Change) (change : Change) (k : ℕ) → k ≡ length changes + 1 → slice_get (changes ++ change ∷ []) (k - 1) ≡ Some change
last_change changes change k is =
    let at : k - 1 ≡ length changes = omega arith in
    ap (slice_get (changes ++ change ∷ [])) at ∙ get_last changes change

is_at_within : (size : ℕ) (changes : List Change) (before place : ℕ) (entry : Entry) → IsAt size changes before place entry → place ≤ length changes
is_at_within size changes before place entry h =
    let less = get_within changes (place - 1) entry.change h.change in
    let later = h.later in
    omega arith

is_at_more : (size : ℕ) (changes more : List Change) (before place : ℕ) (entry : Entry) → IsAt size changes before place entry
    → IsAt size (changes ++ more) before place entry
is_at_more size changes more before place entry h = record { change = get_more changes more _ _ h.change; later = h.later; marked = h.marked }

-- the mark of the next place, of one behind places that are missing, and of any at size 1
unmarked_next : (size before place : ℕ) → place ≡ before + 1 → is_marked size before place ≡ false
unmarked_next size before place next = grind (arith, nat_tests)

marked_gap : (size before place : ℕ) → before + 1 < place → is_marked size before place ≡ nat_le 2 size
marked_gap size before place gap = grind (arith, nat_tests)

marked_two : (size before place : ℕ) → 2 ≤ size → before + 1 < place → is_marked size before place ≡ true
marked_two size before place two gap = grind (arith, nat_tests)

pub unmarked_single : (before place : ℕ) → is_marked 1 before place ≡ false
unmarked_single before place = grind (arith, nat_tests)

-- in a queue that marks, what is unmarked stands at the next place
pub next_place : (size before place : ℕ) → 2 ≤ size → is_marked size before place ≡ false → place ≡ before + 1
next_place size before place marks is = grind (arith, nat_tests)

-- the new change at the new last place, after one that was there
new_at : (size : ℕ) (changes : List Change) (change : Change) (before place : ℕ) (marked : Bool) → place ≡ length changes + 1 → before ≤ length changes
    → marked ≡ is_marked size before place → IsAt size (changes ++ change ∷ []) before place (record { change = change; marked = marked })
new_at size changes change before place marked is within mark =
    record { change = last_change changes change place is; later = omega arith; marked = mark }

-- as many entries as places
pub are_at-length : (size : ℕ) (changes : List Change) (before : ℕ) (places : List ℕ) (entries : List Entry) → AreAt size changes before places entries
    → length places ≡ length entries
are_at-length size changes before [] [] h = refl
are_at-length size changes before [] (entry ∷ entries) h = absurd h
are_at-length size changes before (place ∷ places) [] h = absurd h
are_at-length size changes before (place ∷ places) (entry ∷ entries) h = ap suc (are_at-length size changes place places entries h.1)

-- the last place isn't below the one before all
pub last-least : (size : ℕ) (changes : List Change) (before : ℕ) (places : List ℕ) (entries : List Entry) → AreAt size changes before places entries
    → before ≤ last_place before places
last-least size changes before [] [] h = omega arith
last-least size changes before [] (entry ∷ entries) h = absurd h
last-least size changes before (place ∷ places) [] h = absurd h
last-least size changes before (place ∷ places) (entry ∷ entries) h =
    let more = last-least size changes place places entries h.1 in
    let later = (h.0).later in
    omega arith

-- one place more, which is the next one
pub are_more : (size : ℕ) (changes : List Change) (change : Change) (before place : ℕ) (places : List ℕ) (entries : List Entry)
    → last_place before places ≡ length changes → place ≡ length changes + 1 → AreAt size changes before places entries
    → AreAt size (changes ++ change ∷ []) before (places ++ place ∷ []) (entries ++ unmarked change ∷ [])
are_more size changes change before place [] [] ends is h =
    (new_at size changes change before place false is (omega arith) (sym (unmarked_next size before place (omega arith))), tt)
are_more size changes change before place [] (entry ∷ entries) ends is h = absurd h
are_more size changes change before place (first ∷ places) [] ends is h = absurd h
are_more size changes change before place (first ∷ places) (entry ∷ entries) ends is h =
    (is_at_more size changes (change ∷ []) before first entry h.0, are_more size changes change first place places entries ends is h.1)

-- the first place goes, and what stood behind it is marked
pub are_moved : (size : ℕ) (changes : List Change) (change : Change) (before place : ℕ) (places : List ℕ) (entries : List Entry)
    → 1 ≤ length places → length places ≡ size → last_place before places ≡ length changes → place ≡ length changes + 1 → AreAt size changes before places entries
    → AreAt size (changes ++ change ∷ []) before (drop 1 places ++ place ∷ []) (marked_first (drop 1 entries) ++ unmarked change ∷ [])
are_moved size changes change before place [] entries some full ends is h = absurd (omega arith)
are_moved size changes change before place (first ∷ places) [] some full ends is h = absurd h
are_moved size changes change before place (first ∷ []) (entry ∷ []) some full ends is h =
    let later = (h.0).later in
    let one : size ≡ 1 = omega arith in
    let mark : false ≡ is_marked size before place = sym (ap (λ n. is_marked n before place) one ∙ unmarked_single before place) in
    (new_at size changes change before place false is (omega arith) mark, tt)
are_moved size changes change before place (first ∷ []) (entry ∷ second ∷ entries) some full ends is h = absurd h.1
are_moved size changes change before place (first ∷ next ∷ places) (entry ∷ []) some full ends is h = absurd h.1
are_moved size changes change before place (first ∷ next ∷ places) (entry ∷ second ∷ entries) some full ends is h =
    let later = (h.0).later in
    let after = ((h.1).0).later in
    let two : 2 ≤ size = omega arith in
    let moved : IsAt size (changes ++ change ∷ []) before next (record second { marked = true }) = record {
      change = get_more changes (change ∷ []) _ _ ((h.1).0).change;
      later = omega arith;
      marked = sym (marked_two size before next two (omega arith));
    } in
    (moved, are_more size changes change next place places entries ends is (h.1).1)

-- the new place comes in the place of the last one, and its entry is marked
pub are_replaced : (size : ℕ) (changes : List Change) (change : Change) (count before place : ℕ) (places : List ℕ) (entries : List Entry)
    → length places ≡ suc count → place ≡ length changes + 1 → AreAt size changes before places entries
    → AreAt size (changes ++ change ∷ []) before (take count places ++ place ∷ []) (take count entries ++ replacing size change ∷ [])
are_replaced size changes change count before place [] entries long is h = absurd (omega arith)
are_replaced size changes change count before place (first ∷ places) [] long is h = absurd h
are_replaced size changes change zero before place (first ∷ places) (entry ∷ entries) long is h =
    let later = (h.0).later in
    let within = is_at_within size changes before first entry h.0 in
    (new_at size changes change before place (nat_le 2 size) is (omega arith) (sym (marked_gap size before place (omega arith))), tt)
are_replaced size changes change (suc count) before place (first ∷ places) (entry ∷ entries) long is h =
    (is_at_more size changes (change ∷ []) before first entry h.0, are_replaced size changes change count first place places entries (omega arith) is h.1)

-- a place that is put behind others is their last
pub last-more : (before place : ℕ) (places : List ℕ) → last_place before (places ++ place ∷ []) ≡ place
last-more before place [] = refl
last-more before place (first ∷ places) = last-more first place places

-- a queue of size 1 marks nothing
pub are_at-single : (changes : List Change) (before : ℕ) (places : List ℕ) (entries : List Entry) → AreAt 1 changes before places entries
    → All (λ entry. entry.marked ≡ false) entries
are_at-single changes before [] [] h = λ k d less. absurd (omega arith)
are_at-single changes before [] (entry ∷ entries) h = absurd h
are_at-single changes before (place ∷ places) [] h = absurd h
are_at-single changes before (place ∷ places) (entry ∷ entries) h =
    All-cons (λ entry. entry.marked ≡ false) entry entries ((h.0).marked ∙ unmarked_single before place) (are_at-single changes place places entries h.1)
