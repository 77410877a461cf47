-- What is told in the era that it is now ends what the stream of an item gave.
use Rattle.std.proofs.Common.{◌≡◌, ℕ, ℤ, suc, ◌+◌, ◌<◌, ◌==◌, List, [], ◌∷◌, ◌++◌, Bool, true, false, cond, if◌then◌else◌, Option, Some, None, refl, sym, ap, ◌∙◌, subst, append_assoc, arith, ◌⊎◌, inl, inr}
use Rattle.std.proofs.lemmas.Bool.Decides.{nat_tests}
use Rattle.std.proofs.lemmas.List.{append-nil}
use Rattle.ua_base.specs.declared.modes.Mode.{Mode}
use Rattle.ua_base.specs.declared.modes.Mode.TheVariants.{Disabled}
use Rattle.set_model.specs.declared.source.Change.{Change}
use Rattle.item_queue.specs.declared.queue.Entry.{Entry}
use Rattle.item_queue.specs.Queue.{pushed}
use Rattle.subscription.specs.declared.spec.ItemSpec.{ItemSpec}
use Rattle.subscription.specs.declared.spec.SubSpec.{SubSpec}
use Rattle.subscription.specs.State.{ItemState, SubState}
use Rattle.subscription.specs.Items.{fed_item, has_id, is_disabled, item_of, moded_if, new_item, samples, with_mode}
use Rattle.subscription.specs.Cycle.{cycled}
use Rattle.subscription.specs.Calls.{entries_told}
use Rattle.subscription.specs.History.{Call, Add, Remove, SetMode, Feed, Timer, Publish, Acknowledge, Modify, SetEnabled, Moved, after, state_of}
use Rattle.subscription.specs.Sources.{GiveLast}
use Rattle.subscription.specs.Streams.{AreRising, ItemStream, begun_with, entries_of, fed_stream, moded_stream, no_stream, stream_after, stream_in, stream_of}
use Rattle.server_laws.proofs.Counting.{cycled_items, published_items}
use Rattle.server_chains.specs.Chains.{told_by}
use Rattle.server_chains.proofs.Finding.{found_added, found_id, found_items_left, found_mapped, found_removed, none_above, nothing_told}
use Rattle.server_chains.proofs.Keeping.{Streams, cycled_given, published_given}
use Rattle.server_eras.specs.Eras.{off_by, offs_in}
use Rattle.server_eras.proofs.Counting.{era_in, era_none, era_with}

-- ---- an item of an id

-- what was told in the era that it is now ends what its stream gave; of one that is Disabled nothing was told in it
abbrev pub EndsIt : Bool → ItemStream → List Entry → Type 0
EndsIt true stream told = told ≡ []
EndsIt false stream told = (before : List Entry) × (stream.given ≡ before ++ told)

pub record Stands (id : ℕ) (s : SubState) (stream : ItemStream) (now : ℕ) (told : ℕ → List Entry) : Type 0 where
  pub later : (x : ℕ) → now < x → told x ≡ []
  pub own : (item : ItemState) → item_of id s.items ≡ Some item → EndsIt (is_disabled item.mode) stream (told now)
  pub new : (x : ℕ) → s.given < id → told x ≡ []

-- where nothing is told it makes no difference which mode an item has
none_ends : (disabled : Bool) (stream : ItemStream) (told : List Entry) → told ≡ [] → EndsIt disabled stream told
none_ends true stream told none = none
none_ends false stream told none =
    (stream.given, sym (append-nil stream.given) ∙ ap (λ (l : List Entry). stream.given ++ l) (sym none))

given_ends : (disabled : Bool) (stream later : ItemStream) (told : List Entry) → later.given ≡ stream.given → EndsIt disabled stream told
    → EndsIt disabled later told
given_ends true stream later told same h = h
given_ends false stream later told same h = (h.0, same ∙ h.1)

-- the same told, and the same items
same_told : (id : ℕ) (s : SubState) (stream : ItemStream) (now : ℕ) (told other : ℕ → List Entry) → ((x : ℕ) → other x ≡ told x)
    → Stands id s stream now told → Stands id s stream now other
same_told id s stream now told other same h = record {
  later = λ x over. same x ∙ h.later x over;
  own = λ item is. subst (EndsIt (is_disabled item.mode) stream) (sym (same now)) (h.own item is);
  new = λ x over. same x ∙ h.new x over;
}

same_items : (id : ℕ) (s later : SubState) (stream : ItemStream) (now : ℕ) (told : ℕ → List Entry) → later.items ≡ s.items → later.given ≡ s.given
    → Stands id s stream now told → Stands id later stream now told
same_items id s later stream now told items given h = record {
  later = h.later;
  own = λ item is. h.own item (sym (ap (item_of id) items) ∙ is);
  new = λ x over. h.new x (omega (arith, over, given));
}

-- ---- an item is added

begun_given : (current : Option Change) → (begun_with current).given ≡ []
begun_given None = refl
begun_given (Some change) = refl

old_found : (id given : ℕ) (items : List ItemState) (added : ItemSpec) (current : Option Change) (item : ItemState) → (given + 1 == id) ≡ false
    → (item_of id items ≡ Some item) ⊎ ((item_of id items ≡ None) × ((new_item (given + 1) added current).id ≡ id) × (item ≡ new_item (given + 1) added current))
    → item_of id items ≡ Some item
old_found id given items added current item other (inl is) = is
old_found id given items added current item other (inr is) =
    let same : given + 1 ≡ id = is.1 in
    absurd (grind (arith, nat_tests))

added_stands : (id : ℕ) (added : ItemSpec) (current : Option Change) (s : SubState) (stream : ItemStream) (now : ℕ) (told : ℕ → List Entry)
    (b : Bool) → (s.given + 1 == id) ≡ b → Stands id s stream now told
    → Stands id (after (Add added current) s) (cond b (stream_in Disabled added.mode current no_stream) stream) now told
added_stands id added current s stream now told true test h =
    let next : s.given < id = grind (arith, nat_tests) in
    record {
      later = h.later;
      own = λ item is. none_ends (is_disabled item.mode) (stream_in Disabled added.mode current no_stream) (told now) (h.new now next);
      new = λ x over. h.new x next;
    }
added_stands id added current s stream now told false test h = record {
  later = h.later;
  own = λ item is. h.own item (old_found id s.given s.items added current item test (found_added id s.items (new_item (s.given + 1) added current) item is));
  new = λ x over. h.new x (omega (arith, over));
}

-- ---- a mode is set

moded_id : (id : ℕ) (mode : Mode) (current : Option Change) (item : ItemState) → (moded_if id mode current item).id ≡ item.id
moded_id id mode current item = by_test (has_id id item)
  where
    by_test : (b : Bool) → (cond b (with_mode mode current item) item).id ≡ item.id
    by_test true = refl
    by_test false = refl

-- an item is set to Disabled: a new era begins, in which nothing was told
off_stands : (id other : ℕ) (mode : Mode) (current : Option Change) (s : SubState) (stream later : ItemStream) (now : ℕ) (told : ℕ → List Entry)
    → Stands id s stream now told → Stands id (after (SetMode other mode current) s) later (suc now) told
off_stands id other mode current s stream later now told h = record {
  later = λ x over. h.later x (omega (arith, over));
  own = λ item is. none_ends (is_disabled item.mode) later (told (suc now)) (h.later (suc now) (omega arith));
  new = h.new;
}

-- an item leaves Disabled, or stays as it was
left_by : (before : Bool) (current : Option Change) (stream : ItemStream) (told : List Entry) → EndsIt before stream told
    → EndsIt false (if before then begun_with current else stream) told
left_by true current stream told h = ([], begun_given current ∙ sym h)
left_by false current stream told h = h

set_by : (same hit goes : Bool) (mode : Mode) (current : Option Change) (before : ItemState) (stream : ItemStream) (told : List Entry) → same ≡ hit
    → is_disabled mode ≡ false → EndsIt (is_disabled before.mode) stream told
    → EndsIt (is_disabled (cond hit (with_mode mode current before) before).mode) (cond same (stream_in before.mode mode current stream) stream) told
set_by true true goes mode current before stream told is on h =
    subst (λ (b : Bool). EndsIt b (if b then no_stream else (if is_disabled before.mode then begun_with current else stream)) told) (sym on)
    (left_by (is_disabled before.mode) current stream told h)
set_by true false goes mode current before stream told is on h = absurd cc
set_by false true goes mode current before stream told is on h = absurd cc
set_by false false goes mode current before stream told is on h = h

on_stands : (id other : ℕ) (mode : Mode) (current : Option Change) (s : SubState) (stream : ItemStream) (now : ℕ) (told : ℕ → List Entry)
    → is_disabled mode ≡ false → ((item : ItemState) → item_of id s.items ≡ Some item → item.id ≡ id) → Stands id s stream now told
    → Stands id (after (SetMode other mode current) s) (if other == id then moded_stream (item_of id s.items) mode current stream else stream) now told
on_stands id other mode current s stream now told on ids h = record {
  later = h.later;
  own = λ item is.
      let was = found_mapped id (moded_if other mode current) (moded_id other mode current) s.items item is in
      let own : was.before.id ≡ id = ids was.before was.found in
      let same : (other == id) ≡ has_id other was.before = tests_agree other id was.before own in
      subst (λ (i : ItemState). EndsIt (is_disabled i.mode) (if other == id then moded_stream (item_of id s.items) mode current stream else stream) (told now)) (sym was.is)
      (subst (λ (o : Option ItemState). EndsIt (is_disabled (moded_if other mode current was.before).mode) (if other == id then moded_stream o mode current stream else stream) (told now)) (sym was.found)
      (set_by (other == id) (has_id other was.before) true mode current was.before stream (told now) same on (h.own was.before was.found)));
  new = h.new;
}
  where
    tests_agree : (other id : ℕ) (before : ItemState) → before.id ≡ id → (other == id) ≡ has_id other before
    tests_agree other id before own = by_tests (other == id) (has_id other before) refl refl
      where
        by_tests : (a b : Bool) → (other == id) ≡ a → has_id other before ≡ b → a ≡ b
        by_tests true true one two = refl
        by_tests false false one two = refl
        by_tests true false one two = absurd (grind (arith, nat_tests))
        by_tests false true one two = absurd (grind (arith, nat_tests))

-- ---- a change is fed

fed_id : (change : Change) (item : ItemState) → (fed_item change item).id ≡ item.id
fed_id change item = by_test (samples change item)
  where
    by_test : (b : Bool) → (cond b (record item { queue = pushed change item.queue }) item).id ≡ item.id
    by_test true = refl
    by_test false = refl

fed_mode : (change : Change) (item : ItemState) → (fed_item change item).mode ≡ item.mode
fed_mode change item = by_test (samples change item)
  where
    by_test : (b : Bool) → (cond b (record item { queue = pushed change item.queue }) item).mode ≡ item.mode
    by_test true = refl
    by_test false = refl

fed_given : (found : Option ItemState) (change : Change) (stream : ItemStream) → (fed_stream found change stream).given ≡ stream.given
fed_given None change stream = refl
fed_given (Some item) change stream = by_test (samples change item)
  where
    by_test : (b : Bool) → (cond b (record stream { pushed = stream.pushed ++ change ∷ [] }) stream).given ≡ stream.given
    by_test true = refl
    by_test false = refl

fed_stands : (id : ℕ) (change : Change) (s : SubState) (stream : ItemStream) (now : ℕ) (told : ℕ → List Entry) → Stands id s stream now told
    → Stands id (after (Feed change) s) (fed_stream (item_of id s.items) change stream) now told
fed_stands id change s stream now told h = record {
  later = h.later;
  own = λ item is.
      let was = found_mapped id (fed_item change) (fed_id change) s.items item is in
      let mode : item.mode ≡ was.before.mode = ap (λ (i : ItemState). i.mode) was.is ∙ fed_mode change was.before in
      subst (λ (m : Mode). EndsIt (is_disabled m) (fed_stream (item_of id s.items) change stream) (told now)) (sym mode)
      (given_ends (is_disabled was.before.mode) stream (fed_stream (item_of id s.items) change stream) (told now)
      (fed_given (item_of id s.items) change stream) (h.own was.before was.found));
  new = h.new;
}

-- ---- a message is sent

-- what the stream of a Disabled item gave
abbrev pub IsSilent : ℕ → SubState → ItemStream → Type 0
IsSilent id s stream = (item : ItemState) → item_of id s.items ≡ Some item → is_disabled item.mode ≡ true → stream.given ≡ []

nothing_behind : (front back : List Entry) → front ++ back ≡ [] → back ≡ []
nothing_behind [] back none = none
nothing_behind (entry ∷ front) back none = absurd cc

front_nothing : (front back : List Entry) → front ++ back ≡ [] → front ≡ []
front_nothing [] back none = refl
front_nothing (entry ∷ front) back none = absurd cc

sent_by : (disabled : Bool) (stream : ItemStream) (told more : List Entry) → (disabled ≡ true → stream.given ++ more ≡ [])
    → EndsIt disabled stream told → EndsIt disabled (record stream { given = stream.given ++ more }) (told ++ more)
sent_by true stream told more silent h = ap (λ (l : List Entry). l ++ more) h ∙ nothing_behind stream.given more (silent refl)
sent_by false stream told more silent h =
    (h.0, ap (λ (l : List Entry). l ++ more) h.1 ∙ append_assoc h.0 told more)

here : (now : ℕ) (told more : List Entry) → era_with now now told more ≡ told ++ more
here now told more =
    let same : (now == now) ≡ true = grind (arith, nat_tests) in
    ap (λ (b : Bool). told ++ (if b then more else [])) same

elsewhere : (x now : ℕ) (told more : List Entry) → now < x → era_with x now told more ≡ told
elsewhere x now told more over =
    let other : (now == x) ≡ false = grind (arith, nat_tests) in
    ap (λ (b : Bool). told ++ (if b then more else [])) other ∙ append-nil told

new_nothing : (x now : ℕ) (told more : List Entry) → told ≡ [] → more ≡ [] → era_with x now told more ≡ []
new_nothing x now told more one two =
    ap (λ (l : List Entry). era_with x now told l) two ∙ era_none x now told ∙ one

published_stands : (id : ℕ) (now_at : ℤ) (s : SubState) (stream : ItemStream) (now : ℕ) (told : ℕ → List Entry)
    → AreRising 0 s.items s.given
    → IsSilent id (after (Publish now_at) s) (record stream { given = stream.given ++ entries_of id (entries_told s) })
    → Stands id s stream now told
    → Stands id (after (Publish now_at) s) (record stream { given = stream.given ++ entries_of id (entries_told s) }) now
    (λ x. era_with x now (told x) (entries_of id (entries_told s)))
published_stands id now_at s stream now told rises silent h =
    let more : List Entry = entries_of id (entries_told s) in
    record {
      later = λ x over. elsewhere x now (told x) more over ∙ h.later x over;
      own = λ item is.
          let was = found_items_left id s item (sym (ap (item_of id) (published_items now_at s)) ∙ is) in
          let mode : item.mode ≡ was.before.mode = ap (λ (i : ItemState). i.mode) was.is in
          subst (EndsIt (is_disabled item.mode) (record stream { given = stream.given ++ more })) (sym (here now (told now) more))
          (sent_by (is_disabled item.mode) stream (told now) more (silent item is)
          (subst (λ (m : Mode). EndsIt (is_disabled m) stream (told now)) (sym mode) (h.own was.before was.found)));
      new = λ x over.
          let given = published_given now_at s in
          let above : s.given < id = omega (arith, over, given) in
          new_nothing x now (told x) more (h.new x above) (nothing_told id s (none_above id s.given s.items rises above));
    }

-- ---- any calls

-- no item was set to Disabled
none_more : (id : ℕ) (s : SubState) (stream : ItemStream) (now : ℕ) (told : ℕ → List Entry) → Stands id s stream now told
    → Stands id s stream (0 + now) told
none_more id s stream now told h =
    let same : now ≡ 0 + now = omega arith in subst (λ (k : ℕ). Stands id s stream k told) same h

one_more : (id : ℕ) (s : SubState) (stream : ItemStream) (now : ℕ) (told : ℕ → List Entry) → Stands id s stream (suc now) told
    → Stands id s stream (1 + now) told
one_more id s stream now told h =
    let same : suc now ≡ 1 + now = omega arith in subst (λ (k : ℕ). Stands id s stream k told) same h

set_stands : (b : Bool) (id other : ℕ) (mode : Mode) (current : Option Change) (s : SubState) (stream : ItemStream) (now : ℕ) (told : ℕ → List Entry)
    → is_disabled mode ≡ b → ((item : ItemState) → item_of id s.items ≡ Some item → item.id ≡ id) → Stands id s stream now told
    → Stands id (after (SetMode other mode current) s) (if other == id then moded_stream (item_of id s.items) mode current stream else stream)
    ((if b then 1 else 0) + now) told
set_stands true id other mode current s stream now told is ids h =
    one_more id (after (SetMode other mode current) s)
    (if other == id then moded_stream (item_of id s.items) mode current stream else stream) now told
    (off_stands id other mode current s stream (if other == id then moded_stream (item_of id s.items) mode current stream else stream) now told h)
set_stands false id other mode current s stream now told is ids h =
    none_more id (after (SetMode other mode current) s)
    (if other == id then moded_stream (item_of id s.items) mode current stream else stream) now told
    (on_stands id other mode current s stream now told is ids h)

stands_after : (id : ℕ) (call : Call) (s : SubState) (stream : ItemStream) (now : ℕ) (told : ℕ → List Entry) → AreRising 0 s.items s.given
    → IsSilent id (after call s) (stream_after id call s stream) → ((item : ItemState) → item_of id s.items ≡ Some item → item.id ≡ id)
    → Stands id s stream now told
    → Stands id (after call s) (stream_after id call s stream) (off_by call + now) (λ x. era_with x now (told x) (entries_of id (told_by call s)))
stands_after id (Add added current) s stream now told rises silent ids h =
    none_more id (after (Add added current) s) (stream_after id (Add added current) s stream) now (λ x. era_with x now (told x) (entries_of id (told_by (Add added current) s)))
    (same_told id (after (Add added current) s) (stream_after id (Add added current) s stream) now told
    (λ x. era_with x now (told x) []) (λ x. era_none x now (told x))
    (added_stands id added current s stream now told (s.given + 1 == id) refl h))
stands_after id (Remove other) s stream now told rises silent ids h =
    none_more id (after (Remove other) s) stream now (λ x. era_with x now (told x) (entries_of id (told_by (Remove other) s)))
    (same_told id (after (Remove other) s) stream now told (λ x. era_with x now (told x) []) (λ x. era_none x now (told x)) (record {
      later = h.later;
      own = λ item is. h.own item (found_removed id other s.items item is);
      new = h.new;
    }))
stands_after id (SetMode other mode current) s stream now told rises silent ids h =
    same_told id (after (SetMode other mode current) s) (stream_after id (SetMode other mode current) s stream) (off_by (SetMode other mode current) + now) told
    (λ x. era_with x now (told x) []) (λ x. era_none x now (told x))
    (set_stands (is_disabled mode) id other mode current s stream now told refl ids h)
stands_after id (Feed change) s stream now told rises silent ids h =
    none_more id (after (Feed change) s) (stream_after id (Feed change) s stream) now (λ x. era_with x now (told x) (entries_of id (told_by (Feed change) s)))
    (same_told id (after (Feed change) s) (fed_stream (item_of id s.items) change stream) now told
    (λ x. era_with x now (told x) []) (λ x. era_none x now (told x)) (fed_stands id change s stream now told h))
stands_after id (Timer queued) s stream now told rises silent ids h =
    none_more id (after (Timer queued) s) stream now (λ x. era_with x now (told x) (entries_of id (told_by (Timer queued) s)))
    (same_told id (cycled queued s) stream now told (λ x. era_with x now (told x) []) (λ x. era_none x now (told x))
    (same_items id s (cycled queued s) stream now told (cycled_items queued s) (cycled_given queued s) h))
stands_after id (Publish at) s stream now told rises silent ids h =
    none_more id (after (Publish at) s) (stream_after id (Publish at) s stream) now (λ x. era_with x now (told x) (entries_of id (told_by (Publish at) s)))
    (published_stands id at s stream now told rises silent h)
stands_after id (Acknowledge number) s stream now told rises silent ids h =
    none_more id (after (Acknowledge number) s) stream now (λ x. era_with x now (told x) (entries_of id (told_by (Acknowledge number) s)))
    (same_told id (after (Acknowledge number) s) stream now told (λ x. era_with x now (told x) []) (λ x. era_none x now (told x))
    (same_items id s (after (Acknowledge number) s) stream now told refl refl h))
stands_after id (Modify spec at) s stream now told rises silent ids h =
    none_more id (after (Modify spec at) s) stream now (λ x. era_with x now (told x) (entries_of id (told_by (Modify spec at) s)))
    (same_told id (after (Modify spec at) s) stream now told (λ x. era_with x now (told x) []) (λ x. era_none x now (told x))
    (same_items id s (after (Modify spec at) s) stream now told refl refl h))
stands_after id (SetEnabled enabled) s stream now told rises silent ids h =
    none_more id (after (SetEnabled enabled) s) stream now (λ x. era_with x now (told x) (entries_of id (told_by (SetEnabled enabled) s)))
    (same_told id (after (SetEnabled enabled) s) stream now told (λ x. era_with x now (told x) []) (λ x. era_none x now (told x))
    (same_items id s (after (SetEnabled enabled) s) stream now told refl refl h))
stands_after id Moved s stream now told rises silent ids h =
    none_more id (after Moved s) stream now (λ x. era_with x now (told x) (entries_of id (told_by Moved s)))
    (same_told id (after Moved s) stream now told (λ x. era_with x now (told x) []) (λ x. era_none x now (told x))
    (same_items id s (after Moved s) stream now told refl refl h))

pub stands : Streams → (spec : SubSpec) (start : ℕ) (first : List Change) (id : ℕ) (calls : List Call) → GiveLast spec start first calls
    → Stands id (state_of spec start calls) (stream_of spec start id calls) (offs_in calls) (λ x. era_in spec start id x calls)
stands laws spec start first id [] gives = record { later = λ x over. refl; own = λ item is. absurd cc; new = λ x over. refl }
stands laws spec start first id (call ∷ earlier) gives =
    stands_after id call (state_of spec start earlier) (stream_of spec start id earlier) (offs_in earlier) (λ x. era_in spec start id x earlier)
    (laws.rises spec start earlier)
    (λ item is off. ap (λ (stream : ItemStream). stream.given) (laws.stops spec start first (call ∷ earlier) id item gives is off).1)
    (λ item is. found_id id (state_of spec start earlier).items item is)
    (stands laws spec start first id earlier gives.1)
