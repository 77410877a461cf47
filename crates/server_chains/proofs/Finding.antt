-- The item that is found after a call, and the one that was found before it.
use Rattle.std.proofs.Common.{◌≡◌, ℕ, ◌-◌, ◌<◌, ◌≤◌, ◌==◌, List, [], ◌∷◌, ◌++◌, Bool, true, false, not, cond, map, filter, take, Option, Some, None, refl, sym, ap, ◌∙◌, subst, arith, ◌⊎◌, inl, inr}
use Rattle.std.proofs.lemmas.Bool.Decides.{nat_tests}
use Rattle.std.proofs.lemmas.List.{map-append}
use Rattle.std.proofs.lemmas.List.Elements.{filter-append}
use Rattle.item_queue.specs.declared.queue.Entry.{Entry}
use Rattle.item_queue.specs.Queue.{without_oldest}
use Rattle.subscription.specs.State.{ItemState, SubState}
use Rattle.subscription.specs.Items.{Told, count_told, has_id, item_of, left, left_of, telling, told, told_of, without_item}
use Rattle.subscription.specs.Calls.{entries_told, items_left}
use Rattle.subscription.specs.Streams.{AreRising, entries_of}

some_same : {A : Type 0} (x y : A) → ◌≡◌ {A = Option A} (Some x) (Some y) → x ≡ y
some_same x y e = cc

-- what is found has the id
pub found_id : (id : ℕ) (items : List ItemState) (item : ItemState) → item_of id items ≡ Some item → item.id ≡ id
found_id id [] item is = absurd cc
found_id id (first ∷ items) item is = by_test (has_id id first) refl is (found_id id items item)
  where
    by_test : (b : Bool) → has_id id first ≡ b → cond b (Some first) (item_of id items) ≡ Some item
        → (item_of id items ≡ Some item → item.id ≡ id) → item.id ≡ id
    by_test true test found more = let same : first.id ≡ id = grind (arith, nat_tests) in sym (ap (λ (i : ItemState). i.id) (some_same first item found)) ∙ same
    by_test false test found more = more found

-- ---- each item was changed and kept its id

pub record WasFound (id : ℕ) (f : ItemState → ItemState) (items : List ItemState) (item : ItemState) : Type 0 where
  pub before : ItemState
  pub found : item_of id items ≡ Some before
  pub is : item ≡ f before

pub found_mapped : (id : ℕ) (f : ItemState → ItemState) → ((item : ItemState) → (f item).id ≡ item.id)
    → (items : List ItemState) (item : ItemState) → item_of id (map f items) ≡ Some item → WasFound id f items item
found_mapped id f same [] item is = absurd cc
found_mapped id f same (first ∷ items) item is = by_test (has_id id first) refl (subst (λ n. cond (n == id) (Some (f first)) (item_of id (map f items)) ≡ Some item) (same first) is) (found_mapped id f same items item)
  where
    by_test : (b : Bool) → has_id id first ≡ b → cond b (Some (f first)) (item_of id (map f items)) ≡ Some item
        → (item_of id (map f items) ≡ Some item → WasFound id f items item) → WasFound id f (first ∷ items) item
    by_test true test found more = record {
      before = first;
      found = ap (λ b. cond b (Some first) (item_of id items)) test;
      is = sym (some_same (f first) item found);
    }
    by_test false test found more =
        let was = more found in
        record { before = was.before; found = ap (λ b. cond b (Some first) (item_of id items)) test ∙ was.found; is = was.is }

-- ---- an item was removed

gone_by : (b : Bool) (id : ℕ) (first : ItemState) (kept : List ItemState) → has_id id first ≡ b → item_of id kept ≡ None
    → item_of id (cond (not b) (first ∷ kept) kept) ≡ None
gone_by true id first kept test none = none
gone_by false id first kept test none = ap (λ b. cond b (Some first) (item_of id kept)) test ∙ none

none_left : (id other : ℕ) (items : List ItemState) → other ≡ id → item_of id (without_item other items) ≡ None
none_left id other [] same = refl
none_left id other (first ∷ items) same =
    subst (λ n. item_of id (without_item n (first ∷ items)) ≡ None) (sym same)
    (gone_by (has_id id first) id first (without_item id items) refl (subst (λ n. item_of id (without_item n items) ≡ None) same (none_left id other items same)))

removed_by : (out here : Bool) (id other : ℕ) (first item : ItemState) (kept items : List ItemState) → has_id other first ≡ out → has_id id first ≡ here
    → (item_of id kept ≡ Some item → item_of id items ≡ Some item) → (other ≡ id → item_of id kept ≡ None)
    → item_of id (cond (not out) (first ∷ kept) kept) ≡ Some item → cond here (Some first) (item_of id items) ≡ Some item
removed_by true true id other first item kept items out here on gone is =
    let same : other ≡ id = grind (arith, nat_tests) in
    let none : ◌≡◌ {A = Option ItemState} None (Some item) = sym (gone same) ∙ is in
    absurd cc
removed_by true false id other first item kept items out here on gone is = on is
removed_by false here id other first item kept items out test on gone is = by_rest here (sym (ap (λ b. cond b (Some first) (item_of id kept)) test) ∙ is)
  where
    by_rest : (b : Bool) → cond b (Some first) (item_of id kept) ≡ Some item → cond b (Some first) (item_of id items) ≡ Some item
    by_rest true is = is
    by_rest false is = on is

pub found_removed : (id other : ℕ) (items : List ItemState) (item : ItemState) → item_of id (without_item other items) ≡ Some item → item_of id items ≡ Some item
found_removed id other [] item is = absurd cc
found_removed id other (first ∷ items) item is =
    removed_by (has_id other first) (has_id id first) id other first item (without_item other items) items refl refl (found_removed id other items item) (none_left id other items) is

-- ---- an item was added: the one that is found was among those before, or it is the new one

pub found_added : (id : ℕ) (items : List ItemState) (new item : ItemState) → item_of id (items ++ new ∷ []) ≡ Some item
    → (item_of id items ≡ Some item) ⊎ ((item_of id items ≡ None) × (new.id ≡ id) × (item ≡ new))
found_added id [] new item is = by_test (has_id id new) refl is
  where
    by_test : (b : Bool) → has_id id new ≡ b → cond b (Some new) None ≡ Some item → (◌≡◌ {A = Option ItemState} None (Some item)) ⊎ ((◌≡◌ {A = Option ItemState} None None) × (new.id ≡ id) × (item ≡ new))
    by_test true test found = inr (refl, grind (arith, nat_tests), sym (some_same new item found))
    by_test false test found = absurd cc
found_added id (first ∷ items) new item is = by_test (has_id id first) refl is (found_added id items new item)
  where
    by_test : (b : Bool) → has_id id first ≡ b → cond b (Some first) (item_of id (items ++ new ∷ [])) ≡ Some item
        → (item_of id (items ++ new ∷ []) ≡ Some item → (item_of id items ≡ Some item) ⊎ ((item_of id items ≡ None) × (new.id ≡ id) × (item ≡ new)))
        → (cond b (Some first) (item_of id items) ≡ Some item) ⊎ ((cond b (Some first) (item_of id items) ≡ None) × (new.id ≡ id) × (item ≡ new))
    by_test true test found more = inl found
    by_test false test found more = more found

rising_to : (low high : ℕ) (items : List ItemState) → AreRising low items high → low ≤ high
rising_to low high [] h = h
rising_to low high (first ∷ items) h = let least = h.0 in let more = rising_to first.id high items h.1 in omega arith

-- what is found has an id up to the last that was given
pub found_within : (id low high : ℕ) (items : List ItemState) (item : ItemState) → AreRising low items high → item_of id items ≡ Some item
    → (low < id) × (id ≤ high)
found_within id low high [] item rises is = absurd cc
found_within id low high (first ∷ items) item rises is =
    by_test (has_id id first) refl is (found_within id first.id high items item rises.1)
  where
    by_test : (b : Bool) → has_id id first ≡ b → cond b (Some first) (item_of id items) ≡ Some item
        → (item_of id items ≡ Some item → (first.id < id) × (id ≤ high)) → (low < id) × (id ≤ high)
    by_test true test found more =
        let same : first.id ≡ id = grind (arith, nat_tests) in
        let least = rises.0 in
        let most = rising_to first.id high items rises.1 in
        (omega arith, omega arith)
    by_test false test found more =
        let least = rises.0 in
        let both = more found in
        let above = both.0 in
        (omega arith, both.1)

none_by : (found : Option ItemState) (id high : ℕ) (items : List ItemState) → item_of id items ≡ found → AreRising 0 items high → high < id → found ≡ None
none_by None id high items is rises over = refl
none_by (Some item) id high items is rises over =
    let within = found_within id 0 high items item rises is in
    let most = within.1 in
    absurd (omega (arith, most, over))

-- so none is found with a later one
pub none_above : (id high : ℕ) (items : List ItemState) → AreRising 0 items high → high < id → item_of id items ≡ None
none_above id high items rises over = none_by (item_of id items) id high items refl rises over

-- ---- entries were told

pub record WasLeft (id : ℕ) (items : List ItemState) (item : ItemState) : Type 0 where
  pub before : ItemState
  pub count : ℕ
  pub found : item_of id items ≡ Some before
  pub is : item ≡ record before { queue = without_oldest count before.queue }

found_left : (id room : ℕ) (items : List ItemState) (item : ItemState) → item_of id (left room items) ≡ Some item → WasLeft id items item
found_left id room [] item is = absurd cc
found_left id room (first ∷ items) item is = by_test (has_id id first) refl is (found_left id (room - count_told room first) items item)
  where
    by_test : (b : Bool) → has_id id first ≡ b → cond b (Some (left_of room first)) (item_of id (left (room - count_told room first) items)) ≡ Some item
        → (item_of id (left (room - count_told room first) items) ≡ Some item → WasLeft id items item) → WasLeft id (first ∷ items) item
    by_test true test found more = record {
      before = first;
      count = count_told room first;
      found = ap (λ b. cond b (Some first) (item_of id items)) test;
      is = sym (some_same (left_of room first) item found);
    }
    by_test false test found more =
        let was = more found in
        record { before = was.before; count = was.count; found = ap (λ b. cond b (Some first) (item_of id items)) test ∙ was.found; is = was.is }

pub found_items_left : (id : ℕ) (s : SubState) (item : ItemState) → item_of id (items_left s) ≡ Some item → WasLeft id s.items item
found_items_left id s item is = by_enabled s.spec.enabled is
  where
    by_enabled : (b : Bool) → item_of id (cond b (left s.spec.most s.items) s.items) ≡ Some item → WasLeft id s.items item
    by_enabled true found = found_left id s.spec.most s.items item found
    by_enabled false found = record { before = item; count = 0; found = found; is = refl }

-- where none is found afterwards, none was before
none_before : (id room : ℕ) (items : List ItemState) → item_of id (left room items) ≡ None → item_of id items ≡ None
none_before id room [] none = refl
none_before id room (first ∷ items) none = by_test (has_id id first) none (none_before id (room - count_told room first) items)
  where
    by_test : (b : Bool) → cond b (Some (left_of room first)) (item_of id (left (room - count_told room first) items)) ≡ None
        → (item_of id (left (room - count_told room first) items) ≡ None → item_of id items ≡ None) → cond b (Some first) (item_of id items) ≡ None
    by_test true none more = absurd cc
    by_test false none more = more none

pub none_in : (id : ℕ) (s : SubState) → item_of id (items_left s) ≡ None → item_of id s.items ≡ None
none_in id s none = by_enabled s.spec.enabled none
  where
    by_enabled : (b : Bool) → item_of id (cond b (left s.spec.most s.items) s.items) ≡ None → item_of id s.items ≡ None
    by_enabled true none = none_before id s.spec.most s.items none
    by_enabled false none = none

-- ---- what is told of an id

pub entries_join : (id : ℕ) (first later : List Told) → entries_of id (first ++ later) ≡ entries_of id first ++ entries_of id later
entries_join id first later =
    ap (map (λ (one : Told). one.entry)) (filter-append (λ (one : Told). one.id == id) first later)
    ∙ map-append (λ (one : Told). one.entry) (filter (λ (one : Told). one.id == id) first) (filter (λ (one : Told). one.id == id) later)

telling_other : (id : ℕ) (item : ItemState) (entries : List Entry) → has_id id item ≡ false → entries_of id (map (telling item) entries) ≡ []
telling_other id item [] other = refl
telling_other id item (entry ∷ entries) other =
    ap (λ b. map (λ (one : Told). one.entry) (cond b (telling item entry ∷ filter (λ (one : Told). one.id == id) (map (telling item) entries)) (filter (λ (one : Told). one.id == id) (map (telling item) entries)))) other
    ∙ telling_other id item entries other

none_told : (id room : ℕ) (items : List ItemState) → item_of id items ≡ None → entries_of id (told room items) ≡ []
none_told id room [] none = refl
none_told id room (first ∷ items) none = by_test (has_id id first) refl none (none_told id (room - count_told room first) items)
  where
    by_test : (b : Bool) → has_id id first ≡ b → cond b (Some first) (item_of id items) ≡ None
        → (item_of id items ≡ None → entries_of id (told (room - count_told room first) items) ≡ []) → entries_of id (told room (first ∷ items)) ≡ []
    by_test true test none more = absurd cc
    by_test false test none more =
        entries_join id (told_of room first) (told (room - count_told room first) items)
        ∙ ap (λ l. l ++ entries_of id (told (room - count_told room first) items)) (telling_other id first (take (count_told room first) first.queue.entries) test)
        ∙ more none

-- nothing, where there is no such item
pub nothing_told : (id : ℕ) (s : SubState) → item_of id s.items ≡ None → entries_of id (entries_told s) ≡ []
nothing_told id s none = by_enabled s.spec.enabled
  where
    by_enabled : (b : Bool) → entries_of id (cond b (told s.spec.most s.items) []) ≡ []
    by_enabled true = none_told id s.spec.most s.items none
    by_enabled false = refl

-- ---- each item is found by its id

abbrev pub Each : (ItemState → Type 0) → List ItemState → Type 0
Each P [] = Unit {0}
Each P (item ∷ items) = P item × Each P items

each_behind : (first : ItemState) (all : List ItemState) (low high : ℕ) (items : List ItemState) → first.id ≤ low → AreRising low items high
    → Each (λ item. item_of item.id all ≡ Some item) items → Each (λ item. item_of item.id (first ∷ all) ≡ Some item) items
each_behind first all low high [] less rises each = tt
each_behind first all low high (item ∷ items) less rises each =
    let above = rises.0 in
    let other : has_id item.id first ≡ false = grind (arith, nat_tests) in (
      ap (λ b. cond b (Some first) (item_of item.id all)) other ∙ each.0,
      each_behind first all item.id high items (omega arith) rises.1 each.1,
    )

pub each_found : (low high : ℕ) (items : List ItemState) → AreRising low items high → Each (λ item. item_of item.id items ≡ Some item) items
each_found low high [] rises = tt
each_found low high (first ∷ items) rises =
    let own : has_id first.id first ≡ true = grind (arith, nat_tests) in
    let least : first.id ≤ first.id = omega arith in (
      ap (λ b. cond b (Some first) (item_of first.id items)) own,
      each_behind first items first.id high items least rises.1 (each_found first.id high items rises.1),
    )
