-- An item tells of its stream after each call.
use Rattle.std.proofs.Common.{◌≡◌, ◌≢◌, ℕ, zero, suc, ◌+◌, ◌-◌, ◌≤◌, ◌==◌, List, [], ◌∷◌, ◌++◌, Bool, true, false, cond, length, map, take, drop, Option, Some, None, refl, sym, ap, ◌∙◌, subst, arith, append_assoc, slice_get, ◌⊎◌, inl, inr}
use Rattle.std.proofs.lemmas.Bool.Decides.{nat_tests}
use Rattle.std.proofs.lemmas.List.{append-nil}
use Rattle.ua_base.specs.declared.modes.Mode.{Mode}
use Rattle.ua_base.specs.declared.modes.Mode.TheVariants.{Disabled}
use Rattle.set_model.specs.declared.source.Change.{Change}
use Rattle.item_queue.specs.declared.queue.Entry.{Entry}
use Rattle.item_queue.specs.State.{QueueState}
use Rattle.item_queue.specs.Queue.{Holds, empty_queue, pushed}
use Rattle.item_queue.specs.Stream.{AreAt, IsAt, held_with, last_place}
use Rattle.item_queue.proofs.Entries.{last-more}
use Rattle.item_queue.proofs.Holding.{holds_push, holds_start, holds_take}
use Rattle.subscription.specs.declared.spec.SubSpec.{SubSpec}
use Rattle.subscription.specs.declared.spec.ItemSpec.{ItemSpec}
use Rattle.subscription.specs.State.{ItemState, SubState}
use Rattle.subscription.specs.Items.{fed_item, has_id, is_disabled, item_of, moded_if, new_item, opened, queue_in, samples, with_mode, without_item}
use Rattle.subscription.specs.Calls.{entries_told, items_left}
use Rattle.subscription.specs.History.{AreAllowed, Call, IsAllowed, Add, Remove, SetMode, Feed, Timer, Publish, Acknowledge, Modify, SetEnabled, Moved, after, state_of}
use Rattle.subscription.specs.Streams.{AreRising, IsTold, ItemStream, begun_with, entries_of, fed_stream, moded_stream, no_stream, stream_after, stream_in, stream_of}
use Rattle.subscription.proofs.Rising.{cycled_items, fed_id, ids_rise, moded_id, published_items}
use Rattle.subscription.proofs.Finding.{found_added, found_id, found_items_left, found_mapped, found_within, none_left, others_left}

-- ---- one item and its stream

-- a change is the same when more changes are behind
get_more : (changes more : List Change) (k : ℕ) (change : Change) → slice_get changes k ≡ Some change → slice_get (changes ++ more) k ≡ Some change
get_more [] more k change is = absurd cc
get_more (c ∷ changes) more zero change is = is
get_more (c ∷ changes) more (suc k) change is = get_more changes more k change is

at_more : (size : ℕ) (changes more : List Change) (before : ℕ) (places : List ℕ) (entries : List Entry)
    → AreAt size changes before places entries → AreAt size (changes ++ more) before places entries
at_more size changes more before [] [] h = h
at_more size changes more before (place ∷ places) (entry ∷ entries) h = (
  record { change = get_more changes more (place - 1) entry.change h.0.change; later = h.0.later; marked = h.0.marked },
  at_more size changes more place places entries h.1,
)
at_more size changes more before [] (entry ∷ entries) h = absurd h
at_more size changes more before (place ∷ places) [] h = absurd h

at_last : (size : ℕ) (changes : List Change) (before : ℕ) (places : List ℕ) (entries : List Entry) (place : ℕ) (entry : Entry)
    → AreAt size changes before places entries → IsAt size changes (last_place before places) place entry
    → AreAt size changes before (places ++ place ∷ []) (entries ++ entry ∷ [])
at_last size changes before [] [] place entry h one = (one, tt)
at_last size changes before (first ∷ places) (e ∷ entries) place entry h one = (h.0, at_last size changes first places entries place entry h.1 one)
at_last size changes before [] (e ∷ entries) place entry h one = absurd h
at_last size changes before (first ∷ places) [] place entry h one = absurd h

-- a stream that begins
pub told_empty : (oldest : Bool) (size : ℕ) → 1 ≤ size → IsTold (empty_queue oldest size) no_stream
told_empty oldest size least = record { told = []; held = []; given = tt; holds = holds_start oldest size least }

-- one change more
pub told_pushed : (queue : QueueState) (stream : ItemStream) (change : Change) → IsTold queue stream
    → IsTold (pushed change queue) (record stream { pushed = stream.pushed ++ change ∷ [] })
told_pushed queue stream change h = record {
  told = h.told;
  held = held_with queue.oldest queue.size (last_place 0 h.told) (length stream.pushed + 1) h.held;
  given = at_more queue.size stream.pushed (change ∷ []) 0 h.told stream.given h.given;
  holds = holds_push queue.oldest queue.size queue _ change h.holds;
}

-- one entry more is told
told_by : (oldest : Bool) (size : ℕ) (entry : Entry) (entries : List Entry) (changes : List Change) (given : List Entry) (told held : List ℕ)
    → AreAt size changes 0 told given
    → Holds oldest size (record { oldest = oldest; size = size; entries = entry ∷ entries }) (record { pushed = changes; held = held; taken = last_place 0 told })
    → IsTold (record { oldest = oldest; size = size; entries = entries }) (record { pushed = changes; given = given ++ entry ∷ [] })
told_by oldest size entry entries changes given told [] at holds = absurd holds.entries
told_by oldest size entry entries changes given told (place ∷ places) at holds = record {
  told = told ++ place ∷ [];
  held = places;
  given = at_last size changes 0 told given place entry at (holds.entries).0;
  holds = subst (λ last. Holds oldest size (record { oldest = oldest; size = size; entries = entries }) (record { pushed = changes; held = places; taken = last }))
      (sym (last-more 0 place told))
      (holds_take oldest size (record { oldest = oldest; size = size; entries = entry ∷ entries }) (record { pushed = changes; held = place ∷ places; taken = last_place 0 told }) holds);
}

-- so many entries more are told
pub told_over : (count : ℕ) (oldest : Bool) (size : ℕ) (entries : List Entry) (stream : ItemStream)
    → IsTold (record { oldest = oldest; size = size; entries = entries }) stream
    → IsTold (record { oldest = oldest; size = size; entries = drop count entries }) (record stream { given = stream.given ++ take count entries })
told_over zero oldest size entries stream h =
    subst (λ given. IsTold (record { oldest = oldest; size = size; entries = entries }) (record stream { given = given })) (sym (append-nil stream.given)) h
told_over (suc count) oldest size [] stream h =
    subst (λ given. IsTold (record { oldest = oldest; size = size; entries = [] }) (record stream { given = given })) (sym (append-nil stream.given)) h
told_over (suc count) oldest size (entry ∷ entries) stream h =
    subst (λ given. IsTold (record { oldest = oldest; size = size; entries = drop count entries }) (record stream { given = given }))
    (append_assoc stream.given (entry ∷ []) (take count entries))
    (told_over count oldest size entries (record stream { given = stream.given ++ entry ∷ [] })
    (told_by oldest size entry entries stream.pushed stream.given h.told h.held h.given h.holds))

-- the item is fed
fed_told : (change : Change) (item : ItemState) (stream : ItemStream) → IsTold item.queue stream
    → IsTold (fed_item change item).queue (fed_stream (Some item) change stream)
fed_told change item stream h = by_test (samples change item)
  where
    by_test : (b : Bool) → IsTold (cond b (record item { queue = pushed change item.queue }) item).queue (cond b (record stream { pushed = stream.pushed ++ change ∷ [] }) stream)
    by_test true = told_pushed item.queue stream change h
    by_test false = h

-- a stream begins
opened_told : (current : Option Change) (queue : QueueState) → 1 ≤ queue.size → IsTold (opened current queue) (begun_with current)
opened_told None queue least = told_empty queue.oldest queue.size least
opened_told (Some change) queue least =
    told_pushed (empty_queue queue.oldest queue.size) no_stream change (told_empty queue.oldest queue.size least)

-- the item changes its mode
moded_told : (before mode : Mode) (current : Option Change) (queue : QueueState) (stream : ItemStream) → IsTold queue stream
    → IsTold (queue_in before mode current queue) (stream_in before mode current stream)
moded_told before mode current queue stream h = by_tests (is_disabled mode) (is_disabled before)
  where
    by_tests : (ends begins : Bool) → IsTold (cond ends (empty_queue queue.oldest queue.size) (cond begins (opened current queue) queue))
        (cond ends no_stream (cond begins (begun_with current) stream))
    by_tests true begins = told_empty queue.oldest queue.size h.holds.least
    by_tests false true = opened_told current queue h.holds.least
    by_tests false false = h

-- ---- the item of an id after each call

pub record Tells (id : ℕ) (items : List ItemState) (stream : ItemStream) : Type 0 where
  pub tells : (item : ItemState) → item_of id items ≡ Some item → IsTold item.queue stream

tells_removed : (id other : ℕ) (items : List ItemState) (stream : ItemStream) → Tells id items stream → (b : Bool) → (other == id) ≡ b
    → Tells id (without_item other items) stream
tells_removed id other items stream h true test = record {
  tells = λ item found.
      let same : other ≡ id = grind (arith, nat_tests) in
      let none : item_of id (without_item other items) ≡ None = ap (λ n. item_of id (without_item n items)) same ∙ none_left id items in
      let both : ◌≡◌ {A = Option ItemState} None (Some item) = sym none ∙ found in
      absurd cc;
}
tells_removed id other items stream h false test = record {
  tells = λ item found.
      let apart : other ≢ id = λ same. absurd (grind (arith, nat_tests)) in
      h.tells item (sym (others_left id other items apart) ∙ found);
}

tells_fed : (id : ℕ) (change : Change) (items : List ItemState) (stream : ItemStream) → Tells id items stream
    → Tells id (map (fed_item change) items) (fed_stream (item_of id items) change stream)
tells_fed id change items stream h = record {
  tells = λ item found.
      let was = found_mapped id (fed_item change) (fed_id change) items item found in
      subst (λ known. IsTold item.queue (fed_stream known change stream)) (sym was.found)
      (subst (λ (one : ItemState). IsTold one.queue (fed_stream (Some was.before) change stream)) (sym was.is)
      (fed_told change was.before stream (h.tells was.before was.found)));
}

tells_moded : (id other : ℕ) (mode : Mode) (current : Option Change) (items : List ItemState) (stream : ItemStream) → Tells id items stream
    → (b : Bool) → (other == id) ≡ b
    → Tells id (map (moded_if other mode current) items) (cond b (moded_stream (item_of id items) mode current stream) stream)
tells_moded id other mode current items stream h true test = record {
  tells = λ item found.
      let was = found_mapped id (moded_if other mode current) (moded_id other mode current) items item found in
      let own = found_id id items was.before was.found in
      let hit : has_id other was.before ≡ true = grind (arith, nat_tests) in
      let is : item ≡ with_mode mode current was.before = was.is ∙ ap (λ b. cond b (with_mode mode current was.before) was.before) hit in
      subst (λ known. IsTold item.queue (moded_stream known mode current stream)) (sym was.found)
      (subst (λ (one : ItemState). IsTold one.queue (stream_in was.before.mode mode current stream)) (sym is)
      (moded_told was.before.mode mode current was.before.queue stream (h.tells was.before was.found)));
}
tells_moded id other mode current items stream h false test = record {
  tells = λ item found.
      let was = found_mapped id (moded_if other mode current) (moded_id other mode current) items item found in
      let own = found_id id items was.before was.found in
      let miss : has_id other was.before ≡ false = grind (arith, nat_tests) in
      let is : item ≡ was.before = was.is ∙ ap (λ b. cond b (with_mode mode current was.before) was.before) miss in
      subst (λ (one : ItemState). IsTold one.queue stream) (sym is) (h.tells was.before was.found);
}

tells_added : (id : ℕ) (spec : ItemSpec) (current : Option Change) (s : SubState) (stream : ItemStream) → 1 ≤ spec.queue
    → AreRising 0 s.items s.given → Tells id s.items stream
    → Tells id (s.items ++ new_item (s.given + 1) spec current ∷ []) (stream_after id (Add spec current) s stream)
tells_added id spec current s stream least rises h = record {
  tells = λ item found.
      by_place item (found_added id s.items (new_item (s.given + 1) spec current) item found);
}
  where
    by_place : (item : ItemState) → (item_of id s.items ≡ Some item) ⊎ ((item_of id s.items ≡ None) × (s.given + 1 ≡ id) × (item ≡ new_item (s.given + 1) spec current))
        → IsTold item.queue (cond (s.given + 1 == id) (stream_in Disabled spec.mode current no_stream) stream)
    by_place item (inl found) =
        let within = (found_within id 0 s.given s.items item rises found).1 in
        let other : (s.given + 1 == id) ≡ false = grind (arith, nat_tests) in
        subst (λ b. IsTold item.queue (cond b (stream_in Disabled spec.mode current no_stream) stream)) (sym other) (h.tells item found)
    by_place item (inr new) =
        let same = new.1 in
        let own : (s.given + 1 == id) ≡ true = grind (arith, nat_tests) in
        subst (λ b. IsTold item.queue (cond b (stream_in Disabled spec.mode current no_stream) stream)) (sym own)
        (subst (λ (one : ItemState). IsTold one.queue (stream_in Disabled spec.mode current no_stream)) (sym new.2)
        (moded_told Disabled spec.mode current (empty_queue spec.oldest spec.queue) no_stream (told_empty spec.oldest spec.queue least)))

tells_published : (id : ℕ) (s : SubState) (stream : ItemStream) → AreRising 0 s.items s.given → Tells id s.items stream
    → Tells id (items_left s) (record stream { given = stream.given ++ entries_of id (entries_told s) })
tells_published id s stream rises h = record {
  tells = λ item found.
      let was = found_items_left id s item rises found in
      subst (λ entries. IsTold item.queue (record stream { given = stream.given ++ entries })) (sym was.told)
      (subst (λ (one : ItemState). IsTold one.queue (record stream { given = stream.given ++ take was.count was.before.queue.entries })) (sym was.is)
      (told_over was.count was.before.queue.oldest was.before.queue.size was.before.queue.entries stream (h.tells was.before was.found)));
}

tells_after : (id : ℕ) (call : Call) (s : SubState) (stream : ItemStream) → IsAllowed call → AreRising 0 s.items s.given
    → Tells id s.items stream → Tells id (after call s).items (stream_after id call s stream)
tells_after id (Add spec current) s stream allowed rises h = tells_added id spec current s stream allowed rises h
tells_after id (Remove other) s stream allowed rises h = tells_removed id other s.items stream h (other == id) refl
tells_after id (SetMode other mode current) s stream allowed rises h = tells_moded id other mode current s.items stream h (other == id) refl
tells_after id (Feed change) s stream allowed rises h = tells_fed id change s.items stream h
tells_after id (Timer queued) s stream allowed rises h = subst (λ items. Tells id items stream) (sym (cycled_items queued s)) h
tells_after id (Publish now) s stream allowed rises h =
    subst (λ items. Tells id items (record stream { given = stream.given ++ entries_of id (entries_told s) })) (sym (published_items now s))
    (tells_published id s stream rises h)
tells_after id (Acknowledge number) s stream allowed rises h = h
tells_after id (Modify spec now) s stream allowed rises h = h
tells_after id (SetEnabled enabled) s stream allowed rises h = h
tells_after id Moved s stream allowed rises h = h

tells_all : (spec : SubSpec) (start id : ℕ) (calls : List Call) → AreAllowed calls
    → Tells id (state_of spec start calls).items (stream_of spec start id calls)
tells_all spec start id [] allowed = record { tells = λ item found. absurd cc }
tells_all spec start id (call ∷ earlier) allowed =
    tells_after id call (state_of spec start earlier) (stream_of spec start id earlier) allowed.0 (ids_rise spec start earlier)
    (tells_all spec start id earlier allowed.1)

pub in_order : (spec : SubSpec) (start : ℕ) (calls : List Call) (id : ℕ) (item : ItemState) → AreAllowed calls
    → item_of id (state_of spec start calls).items ≡ Some item → IsTold item.queue (stream_of spec start id calls)
in_order spec start calls id item allowed found = (tells_all spec start id calls allowed).tells item found
