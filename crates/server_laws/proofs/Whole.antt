-- An item that is never set to Disabled tells one stream.
use Rattle.std.proofs.Common.{◌≡◌, ℕ, ℤ, ◌+◌, ◌-◌, ◌<◌, ◌≤◌, ◌==◌, min, List, [], ◌∷◌, ◌++◌, Bool, true, false, not, cond, map, filter, take, length, Option, Some, None, refl, sym, ap, ◌∙◌, subst, arith}
use Rattle.std.proofs.lemmas.Bool.Decides.{nat_tests}
use Rattle.std.proofs.lemmas.List.{map-append}
use Rattle.std.proofs.lemmas.List.Elements.{filter-append}
use Rattle.ua_base.specs.declared.modes.Mode.{Mode}
use Rattle.ua_base.specs.declared.modes.Mode.TheVariants.{Disabled, Sampling, Reporting}
use Rattle.set_model.specs.declared.source.Change.{Change}
use Rattle.item_queue.specs.declared.queue.Entry.{Entry}
use Rattle.item_queue.specs.Queue.{pushed}
use Rattle.subscription.specs.declared.cycle.Cycle.{Cycle}
use Rattle.subscription.specs.declared.cycle.Cycle.TheVariants.{Quiet, Notify, KeepAlive, Late, Expired}
use Rattle.subscription.specs.declared.spec.ItemSpec.{ItemSpec}
use Rattle.subscription.specs.declared.spec.SubSpec.{SubSpec}
use Rattle.subscription.specs.State.{ItemState, SubState}
use Rattle.subscription.specs.Items.{Told, count_told, fed_item, has_id, is_disabled, is_reporting, item_of, left, left_of, moded_if, new_item, samples, telling, told, told_of, with_mode, without_item}
use Rattle.subscription.specs.Cycle.{after_row, cycled, row_of}
use Rattle.subscription.specs.Calls.{after_sending, entries_told, items_left, published, sent_with}
use Rattle.subscription.specs.History.{Call, Add, Remove, SetMode, Feed, Timer, Publish, Acknowledge, Modify, SetEnabled, Moved, after, state_of}
use Rattle.subscription.specs.Streams.{AreRising, ItemStream, begun_with, entries_of, fed_stream, moded_stream, no_stream, stream_after, stream_in, stream_of}
use Rattle.server_laws.specs.Whole.{told_in, with_told}

-- ---- the item of an id

found_by : (b : Bool) (id : ℕ) (one item : ItemState) (rest : Option ItemState) → has_id id one ≡ b → (rest ≡ Some item → item.id ≡ id)
    → cond b (Some one) rest ≡ Some item → item.id ≡ id
found_by true id one item rest test on is =
    let same : one ≡ item = cc in
    let own : one.id ≡ id = grind (arith, nat_tests) in
    sym (ap (λ (i : ItemState). i.id) same) ∙ own
found_by false id one item rest test on is = on is

found_id : (id : ℕ) (items : List ItemState) (item : ItemState) → item_of id items ≡ Some item → item.id ≡ id
found_id id [] item is = absurd cc
found_id id (one ∷ items) item is = found_by _ id one item (item_of id items) refl (found_id id items item) is

-- before an item more
more_by : (b new : Bool) (one added item : ItemState) (found rest : Option ItemState) → (found ≡ Some item → rest ≡ Some item)
    → cond b (Some one) found ≡ Some item → cond b (Some one) rest ≡ Some item
more_by true new one added item found rest on is = is
more_by false new one added item found rest on is = on is

found_before : (id : ℕ) (items : List ItemState) (added item : ItemState) → has_id id added ≡ false → item_of id (items ++ added ∷ []) ≡ Some item
    → item_of id items ≡ Some item
found_before id [] added item other is = sym (ap (λ b. cond b (Some added) None) other) ∙ is
found_before id (one ∷ items) added item other is =
    more_by (has_id id one) (has_id id added) one added item (item_of id (items ++ added ∷ [])) (item_of id items) (found_before id items added item other) is

-- before an item was removed
removed_by : (out here : Bool) (id other : ℕ) (one item : ItemState) (kept items : List ItemState) → has_id other one ≡ out → has_id id one ≡ here
    → (item_of id kept ≡ Some item → item_of id items ≡ Some item) → (other ≡ id → item_of id kept ≡ None)
    → item_of id (cond (not out) (one ∷ kept) kept) ≡ Some item → cond here (Some one) (item_of id items) ≡ Some item
removed_by true true id other one item kept items out here on gone is =
    let same : other ≡ id = grind (arith, nat_tests) in
    let none : ◌≡◌ {A = Option ItemState} None (Some item) = sym (gone same) ∙ is in
    absurd cc
removed_by true false id other one item kept items out here on gone is = on is
removed_by false here id other one item kept items out test on gone is = by_rest here (sym (ap (λ b. cond b (Some one) (item_of id kept)) test) ∙ is)
  where
    by_rest : (b : Bool) → cond b (Some one) (item_of id kept) ≡ Some item → cond b (Some one) (item_of id items) ≡ Some item
    by_rest true is = is
    by_rest false is = on is

gone_by : (b : Bool) (id : ℕ) (one : ItemState) (kept : List ItemState) → has_id id one ≡ b → item_of id kept ≡ None
    → item_of id (cond (not b) (one ∷ kept) kept) ≡ None
gone_by true id one kept test none = none
gone_by false id one kept test none = ap (λ b. cond b (Some one) (item_of id kept)) test ∙ none

none_left : (id other : ℕ) (items : List ItemState) → other ≡ id → item_of id (without_item other items) ≡ None
none_left id other [] same = refl
none_left id other (one ∷ items) same =
    subst (λ n. item_of id (without_item n (one ∷ items)) ≡ None) (sym same)
    (gone_by (has_id id one) id one (without_item id items) refl (subst (λ n. item_of id (without_item n items) ≡ None) same (none_left id other items same)))

removed_before : (id other : ℕ) (items : List ItemState) (item : ItemState) → item_of id (without_item other items) ≡ Some item → item_of id items ≡ Some item
removed_before id other [] item is = absurd cc
removed_before id other (one ∷ items) item is =
    removed_by (has_id other one) (has_id id one) id other one item (without_item other items) items refl refl (removed_before id other items item) (none_left id other items) is

-- before all of them changed
record IsMapped (f : ItemState → ItemState) (id : ℕ) (items : List ItemState) (item : ItemState) : Type 0 where
  before : ItemState
  found : item_of id items ≡ Some before
  is : item ≡ f before

mapped_by : (b : Bool) (f : ItemState → ItemState) (id : ℕ) (one item : ItemState) (items : List ItemState) → has_id id one ≡ b
    → (item_of id (map f items) ≡ Some item → IsMapped f id items item) → cond b (Some (f one)) (item_of id (map f items)) ≡ Some item → IsMapped f id (one ∷ items) item
mapped_by true f id one item items test on is =
    let same : f one ≡ item = cc in
    record { before = one; found = ap (λ b. cond b (Some one) (item_of id items)) test; is = sym same }
mapped_by false f id one item items test on is =
    let rest = on is in
    record { before = rest.before; found = ap (λ b. cond b (Some one) (item_of id items)) test ∙ rest.found; is = rest.is }

mapped : (f : ItemState → ItemState) → ((item : ItemState) → (f item).id ≡ item.id) → (id : ℕ) (items : List ItemState) (item : ItemState)
    → item_of id (map f items) ≡ Some item → IsMapped f id items item
mapped f same id [] item is = absurd cc
mapped f same id (one ∷ items) item is =
    mapped_by (has_id id one) f id one item items refl (mapped f same id items item)
    (sym (ap (λ n. cond (n == id) (Some (f one)) (item_of id (map f items))) (same one)) ∙ is)

-- before entries were told
record IsLeft (id : ℕ) (items : List ItemState) (item : ItemState) : Type 0 where
  before : ItemState
  found : item_of id items ≡ Some before
  mode : item.mode ≡ before.mode

left_by : (b : Bool) (room id : ℕ) (one item : ItemState) (later items : List ItemState) → has_id id one ≡ b → (item_of id later ≡ Some item → IsLeft id items item)
    → cond b (Some (left_of room one)) (item_of id later) ≡ Some item → IsLeft id (one ∷ items) item
left_by true room id one item later items test on is =
    let same : left_of room one ≡ item = cc in
    record { before = one; found = ap (λ b. cond b (Some one) (item_of id items)) test; mode = sym (ap (λ (i : ItemState). i.mode) same) }
left_by false room id one item later items test on is =
    let rest = on is in
    record { before = rest.before; found = ap (λ b. cond b (Some one) (item_of id items)) test ∙ rest.found; mode = rest.mode }

left_found : (room id : ℕ) (items : List ItemState) (item : ItemState) → item_of id (left room items) ≡ Some item → IsLeft id items item
left_found room id [] item is = absurd cc
left_found room id (one ∷ items) item is =
    left_by (has_id id one) room id one item (left (room - count_told room one) items) items refl (left_found (room - count_told room one) id items item) is

-- ---- what is told

entries_join : (id : ℕ) (first later : List Told) → entries_of id (first ++ later) ≡ entries_of id first ++ entries_of id later
entries_join id first later =
    ap (map (λ (one : Told). one.entry)) (filter-append (λ (one : Told). one.id == id) first later)
    ∙ map-append (λ (one : Told). one.entry) (filter (λ (one : Told). one.id == id) first) (filter (λ (one : Told). one.id == id) later)

telling_other : (id : ℕ) (item : ItemState) (entries : List Entry) → (item.id == id) ≡ false → entries_of id (map (telling item) entries) ≡ []
telling_other id item [] other = refl
telling_other id item (entry ∷ entries) other =
    ap (λ b. map (λ (one : Told). one.entry) (cond b (telling item entry ∷ filter (λ (one : Told). one.id == id) (map (telling item) entries)) (filter (λ (one : Told). one.id == id) (map (telling item) entries)))) other
    ∙ telling_other id item entries other

both_none : (id : ℕ) (first later : List Told) → entries_of id first ≡ [] → entries_of id later ≡ [] → entries_of id (first ++ later) ≡ []
both_none id first later one other = entries_join id first later ∙ ap (λ l. l ++ entries_of id later) one ∙ other

none_above : (id room low high : ℕ) (items : List ItemState) → AreRising low items high → id ≤ low → entries_of id (told room items) ≡ []
none_above id room low high [] rises under = refl
none_above id room low high (item ∷ items) rises under =
    let above = rises.0 in
    let other : (item.id == id) ≡ false = grind (arith, nat_tests) in
    both_none id (told_of room item) (told (room - count_told room item) items) (telling_other id item (take (count_told room item) item.queue.entries) other)
    (none_above id (room - count_told room item) item.id high items rises.1 (omega arith))

most_id : (low high : ℕ) (items : List ItemState) → AreRising low items high → low ≤ high
most_id low high [] rises = rises
most_id low high (item ∷ items) rises = let above = rises.0 in let rest = most_id item.id high items rises.1 in omega arith

none_below : (id room low high : ℕ) (items : List ItemState) → AreRising low items high → high < id → entries_of id (told room items) ≡ []
none_below id room low high [] rises over = refl
none_below id room low high (item ∷ items) rises over =
    let most = most_id item.id high items rises.1 in
    let other : (item.id == id) ≡ false = grind (arith, nat_tests) in
    both_none id (told_of room item) (told (room - count_told room item) items) (telling_other id item (take (count_told room item) item.queue.entries) other)
    (none_below id (room - count_told room item) item.id high items rises.1 over)

take_none : (entries : List Entry) → take 0 entries ≡ []
take_none [] = refl
take_none (entry ∷ entries) = refl

silent_mode : (mode : Mode) (count : ℕ) → is_disabled mode ≡ true → cond (is_reporting mode) count 0 ≡ 0
silent_mode Disabled count is = refl
silent_mode Sampling count is = refl
silent_mode Reporting count is = absurd cc

silent_item : (room : ℕ) (item : ItemState) → is_disabled item.mode ≡ true → told_of room item ≡ []
silent_item room item is =
    ap (λ n. map (telling item) (take n item.queue.entries)) (silent_mode item.mode (min room (length item.queue.entries)) is)
    ∙ ap (map (telling item)) (take_none item.queue.entries)

silent_by : (b : Bool) (id room low high : ℕ) (one item : ItemState) (items : List ItemState) → has_id id one ≡ b → AreRising low (one ∷ items) high
    → is_disabled item.mode ≡ true → cond b (Some one) (item_of id items) ≡ Some item
    → (item_of id items ≡ Some item → entries_of id (told (room - count_told room one) items) ≡ []) → entries_of id (told room (one ∷ items)) ≡ []
silent_by true id room low high one item items test rises off is rest =
    let same : one ≡ item = cc in
    let own : one.id ≡ id = grind (arith, nat_tests) in
    both_none id (told_of room one) (told (room - count_told room one) items)
    (ap (entries_of id) (silent_item room one (ap (λ (i : ItemState). is_disabled i.mode) same ∙ off)))
    (none_above id (room - count_told room one) one.id high items rises.1 (omega (arith, own)))
silent_by false id room low high one item items test rises off is rest =
    both_none id (told_of room one) (told (room - count_told room one) items) (telling_other id one (take (count_told room one) one.queue.entries) test) (rest is)

silent_told : (id room low high : ℕ) (items : List ItemState) (item : ItemState) → AreRising low items high → item_of id items ≡ Some item
    → is_disabled item.mode ≡ true → entries_of id (told room items) ≡ []
silent_told id room low high [] item rises is off = absurd cc
silent_told id room low high (one ∷ items) item rises is off =
    silent_by (has_id id one) id room low high one item items refl rises off is
    (λ found. silent_told id (room - count_told room one) one.id high items item rises.1 found off)

told_silent : (id : ℕ) (enabled : Bool) (most high : ℕ) (items : List ItemState) (item : ItemState) → AreRising 0 items high → item_of id items ≡ Some item
    → is_disabled item.mode ≡ true → entries_of id (cond enabled (told most items) []) ≡ []
told_silent id true most high items item rises is off = silent_told id most 0 high items item rises is off
told_silent id false most high items item rises is off = refl

told_below : (id : ℕ) (enabled : Bool) (most high : ℕ) (items : List ItemState) → AreRising 0 items high → high < id → entries_of id (cond enabled (told most items) []) ≡ []
told_below id true most high items rises over = none_below id most 0 high items rises over
told_below id false most high items rises over = refl

left_if : (id : ℕ) (enabled : Bool) (most : ℕ) (items : List ItemState) (item : ItemState) → item_of id (cond enabled (left most items) items) ≡ Some item → IsLeft id items item
left_if id true most items item is = left_found most id items item is
left_if id false most items item is = record { before = item; found = is; mode = refl }

-- ---- one call more

pub record IsWhole (id : ℕ) (s : SubState) (stream : ItemStream) (all : List Entry) : Type 0 where
  pub same : (item : ItemState) → item_of id s.items ≡ Some item → stream.given ≡ all
  pub off : (item : ItemState) → item_of id s.items ≡ Some item → is_disabled item.mode ≡ true → all ≡ []
  pub new : s.given < id → all ≡ []

-- a mode that is set is not Disabled
abbrev pub IsOn : Call → Type 0
IsOn (SetMode id mode current) = is_disabled mode ≡ false
IsOn (Add spec current) = Unit {0}
IsOn (Remove id) = Unit {0}
IsOn (Feed change) = Unit {0}
IsOn (Timer queued) = Unit {0}
IsOn (Publish now) = Unit {0}
IsOn (Acknowledge number) = Unit {0}
IsOn (Modify spec now) = Unit {0}
IsOn (SetEnabled enabled) = Unit {0}
IsOn Moved = Unit {0}

abbrev pub AreOn : List Call → Type 0
AreOn [] = Unit {0}
AreOn (call ∷ earlier) = IsOn call × AreOn earlier

begun_given : (current : Option Change) → (begun_with current).given ≡ []
begun_given None = refl
begun_given (Some change) = refl

first_given : (stops : Bool) (current : Option Change) → (cond stops no_stream (begun_with current)).given ≡ []
first_given true current = refl
first_given false current = begun_given current

added_whole : (id : ℕ) (spec : ItemSpec) (current : Option Change) (s : SubState) (stream : ItemStream) (all : List Entry) (b : Bool) → (s.given + 1 == id) ≡ b
    → IsWhole id s stream all
    → IsWhole id (after (Add spec current) s) (cond b (stream_in Disabled spec.mode current no_stream) stream) all
added_whole id spec current s stream all true test h =
    let next : s.given < id = grind (arith, nat_tests) in
    record {
      same = λ item is. first_given (is_disabled spec.mode) current ∙ sym (h.new next);
      off = λ item is off. h.new next;
      new = λ over. h.new next;
    }
added_whole id spec current s stream all false test h = record {
  same = λ item is. h.same item (found_before id s.items (new_item (s.given + 1) spec current) item test is);
  off = λ item is off. h.off item (found_before id s.items (new_item (s.given + 1) spec current) item test is) off;
  new = λ over. h.new (omega (arith, over));
}

moded_id : (id : ℕ) (mode : Mode) (current : Option Change) (item : ItemState) → (moded_if id mode current item).id ≡ item.id
moded_id id mode current item = by_test (has_id id item)
  where
    by_test : (b : Bool) → (cond b (with_mode mode current item) item).id ≡ item.id
    by_test true = refl
    by_test false = refl

fed_id : (change : Change) (item : ItemState) → (fed_item change item).id ≡ item.id
fed_id change item = by_test (samples change item)
  where
    by_test : (b : Bool) → (cond b (record item { queue = pushed change item.queue }) item).id ≡ item.id
    by_test true = refl
    by_test false = refl

fed_mode : (change : Change) (item : ItemState) → (fed_item change item).mode ≡ item.mode
fed_mode change item = by_test (samples change item)
  where
    by_test : (b : Bool) → (cond b (record item { queue = pushed change item.queue }) item).mode ≡ item.mode
    by_test true = refl
    by_test false = refl

fed_given : (found : Option ItemState) (change : Change) (stream : ItemStream) → (fed_stream found change stream).given ≡ stream.given
fed_given None change stream = refl
fed_given (Some item) change stream = by_test (samples change item)
  where
    by_test : (b : Bool) → (cond b (record stream { pushed = stream.pushed ++ change ∷ [] }) stream).given ≡ stream.given
    by_test true = refl
    by_test false = refl

moded_given : (stops disabled : Bool) (current : Option Change) (stream : ItemStream) (all : List Entry) → stops ≡ false → stream.given ≡ all
    → (disabled ≡ true → all ≡ []) → (cond stops no_stream (cond disabled (begun_with current) stream)).given ≡ all
moded_given true disabled current stream all goes same off = absurd cc
moded_given false true current stream all goes same off = begun_given current ∙ sym (off refl)
moded_given false false current stream all goes same off = same

set_here : (id other : ℕ) (mode : Mode) (current : Option Change) (before : ItemState) → before.id ≡ id → (other == id) ≡ true
    → moded_if other mode current before ≡ with_mode mode current before
set_here id other mode current before own test =
    let hit : has_id other before ≡ true = grind (arith, nat_tests) in ap (λ b. cond b (with_mode mode current before) before) hit

set_there : (id other : ℕ) (mode : Mode) (current : Option Change) (before : ItemState) → before.id ≡ id → (other == id) ≡ false
    → moded_if other mode current before ≡ before
set_there id other mode current before own test =
    let miss : has_id other before ≡ false = grind (arith, nat_tests) in ap (λ b. cond b (with_mode mode current before) before) miss

moded_whole : (id other : ℕ) (mode : Mode) (current : Option Change) (s : SubState) (stream : ItemStream) (all : List Entry) (b : Bool) → (other == id) ≡ b
    → is_disabled mode ≡ false → IsWhole id s stream all
    → IsWhole id (after (SetMode other mode current) s) (cond b (moded_stream (item_of id s.items) mode current stream) stream) all
moded_whole id other mode current s stream all true test goes h = record {
  same = λ item is.
      let was = mapped (moded_if other mode current) (moded_id other mode current) id s.items item is in
      ap (λ o. (moded_stream o mode current stream).given) was.found
      ∙ moded_given (is_disabled mode) (is_disabled was.before.mode) current stream all goes (h.same was.before was.found) (h.off was.before was.found);
  off = λ item is off.
      let was = mapped (moded_if other mode current) (moded_id other mode current) id s.items item is in
      let own = found_id id s.items was.before was.found in
      let set : item ≡ with_mode mode current was.before = was.is ∙ set_here id other mode current was.before own test in
      let both : true ≡ false = sym off ∙ ap (λ (i : ItemState). is_disabled i.mode) set ∙ goes in
      absurd cc;
  new = h.new;
}
moded_whole id other mode current s stream all false test goes h = record {
  same = λ item is.
      let was = mapped (moded_if other mode current) (moded_id other mode current) id s.items item is in
      h.same was.before was.found;
  off = λ item is off.
      let was = mapped (moded_if other mode current) (moded_id other mode current) id s.items item is in
      let own = found_id id s.items was.before was.found in
      let set : item ≡ was.before = was.is ∙ set_there id other mode current was.before own test in
      h.off was.before was.found (sym (ap (λ (i : ItemState). is_disabled i.mode) set) ∙ off);
  new = h.new;
}

-- the items, and how many there were, are the same
kept_whole : (id : ℕ) (s later : SubState) (stream : ItemStream) (all : List Entry) → later.items ≡ s.items → later.given ≡ s.given → IsWhole id s stream all
    → IsWhole id later stream all
kept_whole id s later stream all items given h = record {
  same = λ item is. h.same item (sym (ap (item_of id) items) ∙ is);
  off = λ item is off. h.off item (sym (ap (item_of id) items) ∙ is) off;
  new = λ over. h.new (omega (arith, over, given));
}

cycled_items : (queued : Bool) (s : SubState) → (cycled queued s).items ≡ s.items
cycled_items queued s = by_row (row_of queued s)
  where
    by_row : (row : Cycle) → (after_row row queued s).items ≡ s.items
    by_row Quiet = refl
    by_row Notify = refl
    by_row KeepAlive = refl
    by_row Late = refl
    by_row Expired = refl

cycled_given : (queued : Bool) (s : SubState) → (cycled queued s).given ≡ s.given
cycled_given queued s = by_row (row_of queued s)
  where
    by_row : (row : Cycle) → (after_row row queued s).given ≡ s.given
    by_row Quiet = refl
    by_row Notify = refl
    by_row KeepAlive = refl
    by_row Late = refl
    by_row Expired = refl

published_items : (now : ℤ) (s : SubState) → (published now s).items ≡ items_left s
published_items now s = by_entries (entries_told s)
  where
    by_entries : (entries : List Told) → (after_sending (sent_with entries now (record s { items = items_left s }))).items ≡ items_left s
    by_entries [] = refl
    by_entries (one ∷ more) = refl

published_given : (now : ℤ) (s : SubState) → (published now s).given ≡ s.given
published_given now s = by_entries (entries_told s)
  where
    by_entries : (entries : List Told) → (after_sending (sent_with entries now (record s { items = items_left s }))).given ≡ s.given
    by_entries [] = refl
    by_entries (one ∷ more) = refl

none_more : (all more : List Entry) → all ≡ [] → more ≡ [] → all ++ more ≡ []
none_more all more one other = ap (λ l. l ++ more) one ∙ other

published_whole : (id : ℕ) (now : ℤ) (s : SubState) (stream : ItemStream) (all : List Entry) → AreRising 0 s.items s.given → IsWhole id s stream all
    → IsWhole id (after (Publish now) s) (record stream { given = stream.given ++ entries_of id (entries_told s) }) (all ++ entries_of id (entries_told s))
published_whole id now s stream all rises h = record {
  same = λ item is.
      let was = left_if id s.spec.enabled s.spec.most s.items item (sym (ap (item_of id) (published_items now s)) ∙ is) in
      ap (λ l. l ++ entries_of id (entries_told s)) (h.same was.before was.found);
  off = λ item is off.
      let was = left_if id s.spec.enabled s.spec.most s.items item (sym (ap (item_of id) (published_items now s)) ∙ is) in
      let before : is_disabled was.before.mode ≡ true = sym (ap is_disabled was.mode) ∙ off in
      none_more all (entries_of id (entries_told s)) (h.off was.before was.found before)
      (told_silent id s.spec.enabled s.spec.most s.given s.items was.before rises was.found before);
  new = λ over.
      let given = published_given now s in
      let above : s.given < id = omega (arith, over, given) in
      none_more all (entries_of id (entries_told s)) (h.new above) (told_below id s.spec.enabled s.spec.most s.given s.items rises above);
}

whole_after : (id : ℕ) (call : Call) (s : SubState) (stream : ItemStream) (all : List Entry) → IsOn call → AreRising 0 s.items s.given → IsWhole id s stream all
    → IsWhole id (after call s) (stream_after id call s stream) (with_told id call s all)
whole_after id (Add spec current) s stream all goes rises h = added_whole id spec current s stream all (s.given + 1 == id) refl h
whole_after id (Remove other) s stream all goes rises h = record {
  same = λ item is. h.same item (removed_before id other s.items item is);
  off = λ item is off. h.off item (removed_before id other s.items item is) off;
  new = h.new;
}
whole_after id (SetMode other mode current) s stream all goes rises h = moded_whole id other mode current s stream all (other == id) refl goes h
whole_after id (Feed change) s stream all goes rises h = record {
  same = λ item is.
      let was = mapped (fed_item change) (fed_id change) id s.items item is in
      fed_given (item_of id s.items) change stream ∙ h.same was.before was.found;
  off = λ item is off.
      let was = mapped (fed_item change) (fed_id change) id s.items item is in
      let before : is_disabled was.before.mode ≡ true =
      sym (ap (λ (i : ItemState). is_disabled i.mode) was.is ∙ ap is_disabled (fed_mode change was.before)) ∙ off in
      h.off was.before was.found before;
  new = h.new;
}
whole_after id (Timer queued) s stream all goes rises h = kept_whole id s (cycled queued s) stream all (cycled_items queued s) (cycled_given queued s) h
whole_after id (Publish now) s stream all goes rises h = published_whole id now s stream all rises h
whole_after id (Acknowledge number) s stream all goes rises h = kept_whole id s (after (Acknowledge number) s) stream all refl refl h
whole_after id (Modify spec now) s stream all goes rises h = kept_whole id s (after (Modify spec now) s) stream all refl refl h
whole_after id (SetEnabled enabled) s stream all goes rises h = kept_whole id s (after (SetEnabled enabled) s) stream all refl refl h
whole_after id Moved s stream all goes rises h = kept_whole id s (after Moved s) stream all refl refl h

-- what the crate of the subscription says of ids
abbrev pub IdsRise : Type 0
IdsRise = (spec : SubSpec) (start : ℕ) (calls : List Call) → AreRising 0 (state_of spec start calls).items (state_of spec start calls).given

pub whole : IdsRise → (spec : SubSpec) (start id : ℕ) (calls : List Call) → AreOn calls
    → IsWhole id (state_of spec start calls) (stream_of spec start id calls) (told_in spec start id calls)
whole law spec start id [] goes = record { same = λ item is. refl; off = λ item is off. refl; new = λ over. refl }
whole law spec start id (call ∷ earlier) goes =
    whole_after id call (state_of spec start earlier) (stream_of spec start id earlier) (told_in spec start id earlier) goes.0
    (law spec start earlier) (whole law spec start id earlier goes.1)
