-- The item that is found after a call, and the one that was found before it.
use Rattle.std.proofs.Common.{◌≡◌, ◌≢◌, ℕ, ◌-◌, ◌<◌, ◌≤◌, ◌==◌, List, [], ◌∷◌, ◌++◌, Bool, true, false, not, cond, map, filter, take, Option, Some, None, refl, sym, ap, ap₂, ◌∙◌, subst, arith, ◌⊎◌, inl, inr}
use Rattle.std.proofs.lemmas.Bool.Decides.{nat_tests}
use Rattle.std.proofs.lemmas.List.{append-nil, map-append}
use Rattle.std.proofs.lemmas.List.Elements.{filter-append}
use Rattle.item_queue.specs.declared.queue.Entry.{Entry}
use Rattle.item_queue.specs.Queue.{without_oldest}
use Rattle.subscription.specs.State.{ItemState, SubState}
use Rattle.subscription.specs.Items.{Told, count_told, has_id, item_of, left, left_of, telling, told, told_of, without_item}
use Rattle.subscription.specs.Calls.{entries_told, items_left}
use Rattle.subscription.specs.Streams.{AreRising, entries_of}

some_same : {A : Type 0} (x y : A) → ◌≡◌ {A = Option A} (Some x) (Some y) → x ≡ y
some_same x y e = cc

-- what is found has the id
pub found_id : (id : ℕ) (items : List ItemState) (item : ItemState) → item_of id items ≡ Some item → item.id ≡ id
found_id id [] item is = absurd cc
found_id id (first ∷ items) item is = by_test (has_id id first) refl is (found_id id items item)
  where
    by_test : (b : Bool) → has_id id first ≡ b → cond b (Some first) (item_of id items) ≡ Some item
        → (item_of id items ≡ Some item → item.id ≡ id) → item.id ≡ id
    by_test true test found more = let same : first.id ≡ id = grind (arith, nat_tests) in sym (ap (λ (i : ItemState). i.id) (some_same first item found)) ∙ same
    by_test false test found more = more found

-- found after each item was changed and kept its id
pub record WasFound (id : ℕ) (f : ItemState → ItemState) (items : List ItemState) (item : ItemState) : Type 0 where
  pub before : ItemState
  pub found : item_of id items ≡ Some before
  pub is : item ≡ f before

pub found_mapped : (id : ℕ) (f : ItemState → ItemState) → ((item : ItemState) → (f item).id ≡ item.id)
    → (items : List ItemState) (item : ItemState) → item_of id (map f items) ≡ Some item → WasFound id f items item
found_mapped id f same [] item is = absurd cc
found_mapped id f same (first ∷ items) item is = by_test (has_id id first) refl (subst (λ n. cond (n == id) (Some (f first)) (item_of id (map f items)) ≡ Some item) (same first) is) (found_mapped id f same items item)
  where
    by_test : (b : Bool) → has_id id first ≡ b → cond b (Some (f first)) (item_of id (map f items)) ≡ Some item
        → (item_of id (map f items) ≡ Some item → WasFound id f items item) → WasFound id f (first ∷ items) item
    by_test true test found more = record {
      before = first;
      found = ap (λ b. cond b (Some first) (item_of id items)) test;
      is = sym (some_same (f first) item found);
    }
    by_test false test found more =
        let was = more found in
        record { before = was.before; found = ap (λ b. cond b (Some first) (item_of id items)) test ∙ was.found; is = was.is }

-- found after another one was removed
pub none_left : (id : ℕ) (items : List ItemState) → item_of id (without_item id items) ≡ None
none_left id [] = refl
none_left id (first ∷ items) = by_test (has_id id first) refl (none_left id items)
  where
    by_test : (b : Bool) → has_id id first ≡ b → item_of id (without_item id items) ≡ None → item_of id (cond (not b) (first ∷ without_item id items) (without_item id items)) ≡ None
    by_test true test more = more
    by_test false test more = ap (λ b. cond b (Some first) (item_of id (without_item id items))) test ∙ more

pub others_left : (id other : ℕ) (items : List ItemState) → other ≢ id → item_of id (without_item other items) ≡ item_of id items
others_left id other [] apart = refl
others_left id other (first ∷ items) apart = by_test (has_id other first) refl (others_left id other items apart)
  where
    by_test : (b : Bool) → has_id other first ≡ b → item_of id (without_item other items) ≡ item_of id items
        → item_of id (cond (not b) (first ∷ without_item other items) (without_item other items)) ≡ item_of id (first ∷ items)
    by_test true test more =
        let unlike : has_id id first ≡ false = grind (arith, nat_tests) in
        more ∙ sym (ap (λ b. cond b (Some first) (item_of id items)) unlike)
    by_test false test more = ap (λ rest. cond (has_id id first) (Some first) rest) more

-- found after one was added: among those before, or it is the new one
pub found_added : (id : ℕ) (items : List ItemState) (new item : ItemState) → item_of id (items ++ new ∷ []) ≡ Some item
    → (item_of id items ≡ Some item) ⊎ ((item_of id items ≡ None) × (new.id ≡ id) × (item ≡ new))
found_added id [] new item is = by_test (has_id id new) refl is
  where
    by_test : (b : Bool) → has_id id new ≡ b → cond b (Some new) None ≡ Some item → (◌≡◌ {A = Option ItemState} None (Some item)) ⊎ ((◌≡◌ {A = Option ItemState} None None) × (new.id ≡ id) × (item ≡ new))
    by_test true test found = inr (refl, grind (arith, nat_tests), sym (some_same new item found))
    by_test false test found = absurd cc
found_added id (first ∷ items) new item is = by_test (has_id id first) refl is (found_added id items new item)
  where
    by_test : (b : Bool) → has_id id first ≡ b → cond b (Some first) (item_of id (items ++ new ∷ [])) ≡ Some item
        → (item_of id (items ++ new ∷ []) ≡ Some item → (item_of id items ≡ Some item) ⊎ ((item_of id items ≡ None) × (new.id ≡ id) × (item ≡ new)))
        → (cond b (Some first) (item_of id items) ≡ Some item) ⊎ ((cond b (Some first) (item_of id items) ≡ None) × (new.id ≡ id) × (item ≡ new))
    by_test true test found more = inl found
    by_test false test found more = more found

rising_to : (low high : ℕ) (items : List ItemState) → AreRising low items high → low ≤ high
rising_to low high [] h = h
rising_to low high (first ∷ items) h = let least = h.0 in let more = rising_to first.id high items h.1 in omega arith

-- what is found has an id up to the last that was given
pub found_within : (id low high : ℕ) (items : List ItemState) (item : ItemState) → AreRising low items high → item_of id items ≡ Some item
    → (low < id) × (id ≤ high)
found_within id low high [] item rises is = absurd cc
found_within id low high (first ∷ items) item rises is =
    by_test (has_id id first) refl is (found_within id first.id high items item rises.1)
  where
    by_test : (b : Bool) → has_id id first ≡ b → cond b (Some first) (item_of id items) ≡ Some item
        → (item_of id items ≡ Some item → (first.id < id) × (id ≤ high)) → (low < id) × (id ≤ high)
    by_test true test found more =
        let same : first.id ≡ id = grind (arith, nat_tests) in
        let least = rises.0 in
        let most = rising_to first.id high items rises.1 in
        (omega arith, omega arith)
    by_test false test found more =
        let least = rises.0 in
        let both = more found in
        let above = both.0 in
        (omega arith, both.1)

entries_split : (id : ℕ) (told more : List Told) → entries_of id (told ++ more) ≡ entries_of id told ++ entries_of id more
entries_split id told more = ap (map (λ (one : Told). one.entry)) (filter-append (λ (one : Told). one.id == id) told more)
    ∙ map-append (λ (one : Told). one.entry) (filter (λ (one : Told). one.id == id) told) _

-- what an item tells is of its id
own_told : (id : ℕ) (item : ItemState) (entries : List Entry) → has_id id item ≡ true → entries_of id (map (telling item) entries) ≡ entries
own_told id item [] test = refl
own_told id item (entry ∷ entries) test =
    ap (λ b. map (λ (one : Told). one.entry) (cond b (telling item entry ∷ filter (λ (one : Told). one.id == id) (map (telling item) entries)) (filter (λ (one : Told). one.id == id) (map (telling item) entries)))) test
    ∙ ap (λ es. entry ∷ es) (own_told id item entries test)

others_told : (id : ℕ) (item : ItemState) (entries : List Entry) → has_id id item ≡ false → entries_of id (map (telling item) entries) ≡ []
others_told id item [] test = refl
others_told id item (entry ∷ entries) test =
    ap (λ b. map (λ (one : Told). one.entry) (cond b (telling item entry ∷ filter (λ (one : Told). one.id == id) (map (telling item) entries)) (filter (λ (one : Told). one.id == id) (map (telling item) entries)))) test
    ∙ others_told id item entries test

-- no entry is told of an id that is no item's
none_told : (id room low high : ℕ) (items : List ItemState) → AreRising low items high → id ≤ low → entries_of id (told room items) ≡ []
none_told id room low high [] rises less = refl
none_told id room low high (first ∷ items) rises less =
    let least = rises.0 in
    entries_split id (told_of room first) (told (room - count_told room first) items)
    ∙ ap₂ (λ xs ys. xs ++ ys) (others_told id first (take (count_told room first) first.queue.entries) (grind (arith, nat_tests)))
    (none_told id (room - count_told room first) first.id high items rises.1 (omega arith))

-- what a message told of the item that is found after it: its oldest entries, which it holds no more
pub record WasTold (id : ℕ) (items : List ItemState) (entries : List Entry) (item : ItemState) : Type 0 where
  pub before : ItemState
  pub count : ℕ
  pub found : item_of id items ≡ Some before
  pub is : item ≡ record before { queue = without_oldest count before.queue }
  pub told : entries ≡ take count before.queue.entries

pub found_left : (id room low high : ℕ) (items : List ItemState) (item : ItemState) → AreRising low items high
    → item_of id (left room items) ≡ Some item → WasTold id items (entries_of id (told room items)) item
found_left id room low high [] item rises is = absurd cc
found_left id room low high (first ∷ items) item rises is =
    by_test (has_id id first) refl is (found_left id (room - count_told room first) first.id high items item rises.1)
  where
    rest : List Told
    rest = told (room - count_told room first) items

    by_test : (b : Bool) → has_id id first ≡ b → cond b (Some (left_of room first)) (item_of id (left (room - count_told room first) items)) ≡ Some item
        → (item_of id (left (room - count_told room first) items) ≡ Some item → WasTold id items (entries_of id rest) item)
        → WasTold id (first ∷ items) (entries_of id (told room (first ∷ items))) item
    by_test true test found more =
        let same : first.id ≡ id = grind (arith, nat_tests) in
        record {
          before = first;
          count = count_told room first;
          found = ap (λ b. cond b (Some first) (item_of id items)) test;
          is = sym (some_same (left_of room first) item found);
          told = entries_split id (told_of room first) rest
              ∙ ap₂ (λ xs ys. xs ++ ys) (own_told id first (take (count_told room first) first.queue.entries) test)
              (none_told id (room - count_told room first) first.id high items rises.1 (omega arith))
              ∙ append-nil (take (count_told room first) first.queue.entries);
        }
    by_test false test found more =
        let was = more found in
        record {
          before = was.before;
          count = was.count;
          found = ap (λ b. cond b (Some first) (item_of id items)) test ∙ was.found;
          is = was.is;
          told = entries_split id (told_of room first) rest
              ∙ ap (λ xs. xs ++ entries_of id rest) (others_told id first (take (count_told room first) first.queue.entries) test)
              ∙ was.told;
        }

pub found_items_left : (id : ℕ) (s : SubState) (item : ItemState) → AreRising 0 s.items s.given
    → item_of id (items_left s) ≡ Some item → WasTold id s.items (entries_of id (entries_told s)) item
found_items_left id s item rises is = by_enabled s.spec.enabled is
  where
    by_enabled : (b : Bool) → item_of id (cond b (left s.spec.most s.items) s.items) ≡ Some item
        → WasTold id s.items (entries_of id (cond b (told s.spec.most s.items) [])) item
    by_enabled true found = found_left id s.spec.most 0 s.given s.items item rises found
    by_enabled false found = record { before = item; count = 0; found = found; is = refl; told = refl }
