-- The stream of an item is a run of its node's changes after each call, and a disabled item has none.
use Rattle.std.proofs.Common.{◌≡◌, ◌≢◌, ℕ, zero, suc, ◌+◌, ◌==◌, List, [], ◌∷◌, ◌++◌, Bool, true, false, not, cond, map, take, drop, Option, Some, None, refl, sym, ap, ◌∙◌, subst, arith, append_assoc, ◌⊎◌, inl, inr}
use Rattle.std.specs.Prelude.{◌&&◌}
use Rattle.std.proofs.lemmas.Bool.Decides.{nat_tests}
use Rattle.std.proofs.lemmas.List.{append-nil}
use Rattle.ua_base.specs.declared.modes.Mode.{Mode}
use Rattle.ua_base.specs.declared.modes.Mode.TheVariants.{Disabled}
use Rattle.set_model.specs.declared.source.Change.{Change}
use Rattle.set_model.specs.Source.{last_of, of_item}
use Rattle.set_model.proofs.SourceLemmas.{last_of-newest, newest, newest_from, of_item-more}
use Rattle.item_queue.specs.declared.queue.Entry.{Entry}
use Rattle.item_queue.specs.Queue.{empty_queue, pushed, without_oldest}
use Rattle.subscription.specs.declared.spec.SubSpec.{SubSpec}
use Rattle.subscription.specs.declared.spec.ItemSpec.{ItemSpec}
use Rattle.subscription.specs.State.{ItemState, SubState}
use Rattle.subscription.specs.Items.{fed_item, has_id, idle_item, is_disabled, item_of, moded_if, new_item, opened, with_mode, without_item}
use Rattle.subscription.specs.Calls.{entries_told, items_left}
use Rattle.subscription.specs.History.{Call, Add, Remove, SetMode, Feed, Timer, Publish, Acknowledge, Modify, SetEnabled, Moved, after, state_of}
use Rattle.subscription.specs.Streams.{AreRising, ItemStream, begun_with, entries_of, fed_stream, moded_stream, no_stream, stream_after, stream_in, stream_of}
use Rattle.subscription.specs.Sources.{GiveLast, GivesLast, IsFollowed, IsLastOf, IsRun, known_after, known_with}
use Rattle.subscription.proofs.Rising.{cycled_items, fed_id, ids_rise, moded_id, published_items}
use Rattle.subscription.proofs.Finding.{found_added, found_id, found_items_left, found_mapped, found_within, none_left, others_left}

-- ---- one item

-- a list is what stands before its last element, and that
record Front (x : Change) (xs : List Change) : Type 0 where
  before : List Change
  parts : x ∷ xs ≡ before ++ newest_from x xs ∷ []

front_of : (x : Change) (xs : List Change) → Front x xs
front_of x [] = record { before = []; parts = refl }
front_of x (y ∷ ys) = let more = front_of y ys in record { before = x ∷ more.before; parts = ap (λ l. x ∷ l) more.parts }

run_begins : (node : ℕ) (known changes : List Change) (current : Option Change) → of_item node known ≡ changes → current ≡ newest changes
    → IsRun node (begun_with current).pushed known
run_begins node known [] None is last = record { before = []; run = is; none = λ e. is }
run_begins node known [] (Some change) is last = absurd cc
run_begins node known (x ∷ xs) None is last = absurd cc
run_begins node known (x ∷ xs) (Some change) is last =
    let front = front_of x xs in
    let same : change ≡ newest_from x xs = cc in
    record {
      before = front.before;
      run = is ∙ front.parts ∙ ap (λ c. front.before ++ c ∷ []) (sym same);
      none = λ e. absurd cc;
    }

begins : (node : ℕ) (known : List Change) (current : Option Change) → current ≡ last_of node known → IsRun node (begun_with current).pushed known
begins node known current last = run_begins node known (of_item node known) current refl (last ∙ last_of-newest node known)

moded_followed : (mode : Mode) (current : Option Change) (item : ItemState) (stream : ItemStream) (known : List Change)
    → current ≡ last_of item.node known → IsFollowed (is_disabled item.mode) item stream known
    → IsFollowed (is_disabled mode) (with_mode mode current item) (stream_in item.mode mode current stream) known
moded_followed mode current item stream known last h = by_tests (is_disabled mode) (is_disabled item.mode) h
  where
    by_tests : (stops disabled : Bool) → IsFollowed disabled item stream known
        → IsFollowed stops (record item { mode = mode; queue = cond stops (empty_queue item.queue.oldest item.queue.size) (cond disabled (opened current item.queue) item.queue) })
        (cond stops no_stream (cond disabled (begun_with current) stream)) known
    by_tests true disabled h = (refl, refl)
    by_tests false true h = begins item.node known current last
    by_tests false false h = h

not_empty : (xs : List Change) (change : Change) → xs ++ change ∷ [] ≡ [] → ⊥
not_empty [] change e = absurd cc
not_empty (x ∷ xs) change e = absurd cc

fed_followed : (change : Change) (item : ItemState) (stream : ItemStream) (known : List Change) → IsFollowed (is_disabled item.mode) item stream known
    → IsFollowed (is_disabled (fed_item change item).mode) (fed_item change item) (fed_stream (Some item) change stream) (known ++ change ∷ [])
fed_followed change item stream known h = by_tests (item.node == change.item) (is_disabled item.mode) refl refl h
  where
    by_tests : (own disabled : Bool) → (item.node == change.item) ≡ own → is_disabled item.mode ≡ disabled → IsFollowed disabled item stream known
        → IsFollowed (is_disabled (cond (own && not disabled) (record item { queue = pushed change item.queue }) item).mode)
        (cond (own && not disabled) (record item { queue = pushed change item.queue }) item)
        (cond (own && not disabled) (record stream { pushed = stream.pushed ++ change ∷ [] }) stream) (known ++ change ∷ [])
    by_tests true true own disabled h = subst (λ b. IsFollowed b item stream (known ++ change ∷ [])) (sym disabled) h
    by_tests false true own disabled h = subst (λ b. IsFollowed b item stream (known ++ change ∷ [])) (sym disabled) h
    by_tests true false own disabled h =
        let hit : (change.item == item.node) ≡ true = grind (arith, nat_tests) in
        let more : of_item item.node (known ++ change ∷ []) ≡ of_item item.node known ++ change ∷ [] =
        of_item-more item.node known change ∙ ap (λ b. of_item item.node known ++ cond b (change ∷ []) []) hit in
        subst (λ b. IsFollowed b (record item { queue = pushed change item.queue }) (record stream { pushed = stream.pushed ++ change ∷ [] }) (known ++ change ∷ [])) (sym disabled)
        (record {
          before = h.before;
          run = more ∙ ap (λ l. l ++ change ∷ []) h.run ∙ append_assoc h.before stream.pushed (change ∷ []);
          none = λ e. absurd (not_empty stream.pushed change e);
        })
    by_tests false false own disabled h =
        let miss : (change.item == item.node) ≡ false = grind (arith, nat_tests) in
        let same : of_item item.node (known ++ change ∷ []) ≡ of_item item.node known =
        of_item-more item.node known change ∙ ap (λ b. of_item item.node known ++ cond b (change ∷ []) []) miss ∙ append-nil (of_item item.node known) in
        subst (λ b. IsFollowed b item stream (known ++ change ∷ [])) (sym disabled)
        (record { before = h.before; run = same ∙ h.run; none = λ e. same ∙ h.none e })

drop_none : (count : ℕ) → drop {A = Entry} count [] ≡ []
drop_none zero = refl
drop_none (suc count) = refl

take_none : (count : ℕ) → take {A = Entry} count [] ≡ []
take_none zero = refl
take_none (suc count) = refl

told_followed : (count : ℕ) (item : ItemState) (stream : ItemStream) (known : List Change) → IsFollowed (is_disabled item.mode) item stream known
    → IsFollowed (is_disabled item.mode) (record item { queue = without_oldest count item.queue }) (record stream { given = stream.given ++ take count item.queue.entries }) known
told_followed count item stream known h = by_test (is_disabled item.mode) h
  where
    by_test : (disabled : Bool) → IsFollowed disabled item stream known
        → IsFollowed disabled (record item { queue = without_oldest count item.queue }) (record stream { given = stream.given ++ take count item.queue.entries }) known
    by_test true h = (
      ap (drop count) h.0 ∙ drop_none count,
      ap (λ entries. record stream { given = stream.given ++ take count entries }) h.0
          ∙ ap (λ (s : ItemStream). record s { given = s.given ++ take count [] }) h.1
          ∙ ap (λ entries. record no_stream { given = entries }) (take_none count),
    )
    by_test false h = h

-- ---- the item of an id after each call

record Follows (id : ℕ) (items : List ItemState) (stream : ItemStream) (known : List Change) : Type 0 where
  follows : (item : ItemState) → item_of id items ≡ Some item → IsFollowed (is_disabled item.mode) item stream known

follows_removed : (id other : ℕ) (items : List ItemState) (stream : ItemStream) (known : List Change) → Follows id items stream known
    → (b : Bool) → (other == id) ≡ b → Follows id (without_item other items) stream known
follows_removed id other items stream known h true test = record {
  follows = λ item found.
      let same : other ≡ id = grind (arith, nat_tests) in
      let none : item_of id (without_item other items) ≡ None = ap (λ n. item_of id (without_item n items)) same ∙ none_left id items in
      let both : ◌≡◌ {A = Option ItemState} None (Some item) = sym none ∙ found in
      absurd cc;
}
follows_removed id other items stream known h false test = record {
  follows = λ item found.
      let apart : other ≢ id = λ same. absurd (grind (arith, nat_tests)) in
      h.follows item (sym (others_left id other items apart) ∙ found);
}

follows_fed : (id : ℕ) (change : Change) (items : List ItemState) (stream : ItemStream) (known : List Change) → Follows id items stream known
    → Follows id (map (fed_item change) items) (fed_stream (item_of id items) change stream) (known ++ change ∷ [])
follows_fed id change items stream known h = record {
  follows = λ item found.
      let was = found_mapped id (fed_item change) (fed_id change) items item found in
      subst (λ one. IsFollowed (is_disabled item.mode) item (fed_stream one change stream) (known ++ change ∷ [])) (sym was.found)
      (subst (λ (one : ItemState). IsFollowed (is_disabled one.mode) one (fed_stream (Some was.before) change stream) (known ++ change ∷ [])) (sym was.is)
      (fed_followed change was.before stream known (h.follows was.before was.found)));
}

follows_moded : (id other : ℕ) (mode : Mode) (current : Option Change) (items : List ItemState) (stream : ItemStream) (known : List Change)
    → IsLastOf (item_of other items) current known → Follows id items stream known → (b : Bool) → (other == id) ≡ b
    → Follows id (map (moded_if other mode current) items) (cond b (moded_stream (item_of id items) mode current stream) stream) known
follows_moded id other mode current items stream known last h true test = record {
  follows = λ item found.
      let was = found_mapped id (moded_if other mode current) (moded_id other mode current) items item found in
      let own = found_id id items was.before was.found in
      let hit : has_id other was.before ≡ true = grind (arith, nat_tests) in
      let is : item ≡ with_mode mode current was.before = was.is ∙ ap (λ b. cond b (with_mode mode current was.before) was.before) hit in
      let same : other ≡ id = grind (arith, nat_tests) in
      let known_last : current ≡ last_of was.before.node known =
      subst (λ one. IsLastOf one current known) (ap (λ n. item_of n items) same ∙ was.found) last in
      subst (λ one. IsFollowed (is_disabled item.mode) item (moded_stream one mode current stream) known) (sym was.found)
      (subst (λ (one : ItemState). IsFollowed (is_disabled one.mode) one (stream_in was.before.mode mode current stream) known) (sym is)
      (moded_followed mode current was.before stream known known_last (h.follows was.before was.found)));
}
follows_moded id other mode current items stream known last h false test = record {
  follows = λ item found.
      let was = found_mapped id (moded_if other mode current) (moded_id other mode current) items item found in
      let own = found_id id items was.before was.found in
      let miss : has_id other was.before ≡ false = grind (arith, nat_tests) in
      let is : item ≡ was.before = was.is ∙ ap (λ b. cond b (with_mode mode current was.before) was.before) miss in
      subst (λ (one : ItemState). IsFollowed (is_disabled one.mode) one stream known) (sym is) (h.follows was.before was.found);
}

follows_added : (id : ℕ) (spec : ItemSpec) (current : Option Change) (s : SubState) (stream : ItemStream) (known : List Change)
    → current ≡ last_of spec.node known → AreRising 0 s.items s.given → Follows id s.items stream known
    → Follows id (s.items ++ new_item (s.given + 1) spec current ∷ []) (stream_after id (Add spec current) s stream) known
follows_added id spec current s stream known last rises h = record {
  follows = λ item found.
      by_place item (found_added id s.items (new_item (s.given + 1) spec current) item found);
}
  where
    by_place : (item : ItemState) → (item_of id s.items ≡ Some item) ⊎ ((item_of id s.items ≡ None) × (s.given + 1 ≡ id) × (item ≡ new_item (s.given + 1) spec current))
        → IsFollowed (is_disabled item.mode) item (cond (s.given + 1 == id) (stream_in Disabled spec.mode current no_stream) stream) known
    by_place item (inl found) =
        let within = (found_within id 0 s.given s.items item rises found).1 in
        let other : (s.given + 1 == id) ≡ false = grind (arith, nat_tests) in
        subst (λ b. IsFollowed (is_disabled item.mode) item (cond b (stream_in Disabled spec.mode current no_stream) stream) known) (sym other) (h.follows item found)
    by_place item (inr new) =
        let same = new.1 in
        let own : (s.given + 1 == id) ≡ true = grind (arith, nat_tests) in
        subst (λ b. IsFollowed (is_disabled item.mode) item (cond b (stream_in Disabled spec.mode current no_stream) stream) known) (sym own)
        (subst (λ (one : ItemState). IsFollowed (is_disabled one.mode) one (stream_in Disabled spec.mode current no_stream) known) (sym new.2)
        (moded_followed spec.mode current (idle_item (s.given + 1) spec) no_stream known last (refl, refl)))

follows_published : (id : ℕ) (s : SubState) (stream : ItemStream) (known : List Change) → AreRising 0 s.items s.given → Follows id s.items stream known
    → Follows id (items_left s) (record stream { given = stream.given ++ entries_of id (entries_told s) }) known
follows_published id s stream known rises h = record {
  follows = λ item found.
      let was = found_items_left id s item rises found in
      subst (λ entries. IsFollowed (is_disabled item.mode) item (record stream { given = stream.given ++ entries }) known) (sym was.told)
      (subst (λ (one : ItemState). IsFollowed (is_disabled one.mode) one (record stream { given = stream.given ++ take was.count was.before.queue.entries }) known) (sym was.is)
      (told_followed was.count was.before stream known (h.follows was.before was.found)));
}

follows_after : (id : ℕ) (call : Call) (s : SubState) (stream : ItemStream) (known : List Change) → GivesLast call s known → AreRising 0 s.items s.given
    → Follows id s.items stream known → Follows id (after call s).items (stream_after id call s stream) (known_with call known)
follows_after id (Add spec current) s stream known last rises h = follows_added id spec current s stream known last rises h
follows_after id (Remove other) s stream known last rises h = follows_removed id other s.items stream known h (other == id) refl
follows_after id (SetMode other mode current) s stream known last rises h = follows_moded id other mode current s.items stream known last h (other == id) refl
follows_after id (Feed change) s stream known last rises h = follows_fed id change s.items stream known h
follows_after id (Timer queued) s stream known last rises h = subst (λ items. Follows id items stream known) (sym (cycled_items queued s)) h
follows_after id (Publish now) s stream known last rises h =
    subst (λ items. Follows id items (record stream { given = stream.given ++ entries_of id (entries_told s) }) known) (sym (published_items now s))
    (follows_published id s stream known rises h)
follows_after id (Acknowledge number) s stream known last rises h = h
follows_after id (Modify spec now) s stream known last rises h = h
follows_after id (SetEnabled enabled) s stream known last rises h = h
follows_after id Moved s stream known last rises h = h

follows_all : (spec : SubSpec) (start id : ℕ) (first : List Change) (calls : List Call) → GiveLast spec start first calls
    → Follows id (state_of spec start calls).items (stream_of spec start id calls) (known_after first calls)
follows_all spec start id first [] last = record { follows = λ item found. absurd cc }
follows_all spec start id first (call ∷ earlier) last =
    follows_after id call (state_of spec start earlier) (stream_of spec start id earlier) (known_after first earlier) last.0
    (ids_rise spec start earlier) (follows_all spec start id first earlier last.1)

pub runs : (spec : SubSpec) (start : ℕ) (first : List Change) (calls : List Call) (id : ℕ) (item : ItemState) → GiveLast spec start first calls
    → item_of id (state_of spec start calls).items ≡ Some item → is_disabled item.mode ≡ false
    → IsRun item.node (stream_of spec start id calls).pushed (known_after first calls)
runs spec start first calls id item last found samples =
    subst (λ b. IsFollowed b item (stream_of spec start id calls) (known_after first calls)) samples
    ((follows_all spec start id first calls last).follows item found)

pub stops : (spec : SubSpec) (start : ℕ) (first : List Change) (calls : List Call) (id : ℕ) (item : ItemState) → GiveLast spec start first calls
    → item_of id (state_of spec start calls).items ≡ Some item → is_disabled item.mode ≡ true
    → (item.queue.entries ≡ []) × (stream_of spec start id calls ≡ no_stream)
stops spec start first calls id item last found ended =
    subst (λ b. IsFollowed b item (stream_of spec start id calls) (known_after first calls)) ended
    ((follows_all spec start id first calls last).follows item found)
