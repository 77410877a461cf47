-- Ids rise, and the item of an id is the one that was found before a call.
use Rattle.std.proofs.Common.{◌≡◌, ℕ, ℤ, ◌+◌, ◌-◌, ◌<◌, ◌≤◌, List, [], ◌∷◌, ◌++◌, Bool, true, false, not, cond, map, Option, refl, sym, subst, arith}
use Rattle.ua_base.specs.declared.modes.Mode.{Mode}
use Rattle.set_model.specs.declared.source.Change.{Change}
use Rattle.item_queue.specs.Queue.{pushed}
use Rattle.subscription.specs.declared.spec.SubSpec.{SubSpec}
use Rattle.subscription.specs.declared.cycle.Cycle.{Cycle}
use Rattle.subscription.specs.declared.cycle.Cycle.TheVariants.{Quiet, Notify, KeepAlive, Late, Expired}
use Rattle.subscription.specs.State.{ItemState, SubState}
use Rattle.subscription.specs.Items.{Told, count_told, fed_item, has_id, left, moded_if, new_item, samples, with_mode, without_item}
use Rattle.subscription.specs.Cycle.{after_row, cycled, row_of}
use Rattle.subscription.specs.Calls.{after_sending, entries_told, items_left, published, sent_with}
use Rattle.subscription.specs.History.{Call, Add, Remove, SetMode, Feed, Timer, Publish, Acknowledge, Modify, SetEnabled, Moved, after, state_of}
use Rattle.subscription.specs.Streams.{AreRising}

-- ---- the items after calls that don't touch them

pub cycled_items : (queued : Bool) (s : SubState) → (cycled queued s).items ≡ s.items
cycled_items queued s = by_row (row_of queued s)
  where
    by_row : (row : Cycle) → (after_row row queued s).items ≡ s.items
    by_row Quiet = refl
    by_row Notify = refl
    by_row KeepAlive = refl
    by_row Late = refl
    by_row Expired = refl

pub cycled_given : (queued : Bool) (s : SubState) → (cycled queued s).given ≡ s.given
cycled_given queued s = by_row (row_of queued s)
  where
    by_row : (row : Cycle) → (after_row row queued s).given ≡ s.given
    by_row Quiet = refl
    by_row Notify = refl
    by_row KeepAlive = refl
    by_row Late = refl
    by_row Expired = refl

pub published_items : (now : ℤ) (s : SubState) → (published now s).items ≡ items_left s
published_items now s = by_entries (entries_told s)
  where
    by_entries : (entries : List Told) → (after_sending (sent_with entries now (record s { items = items_left s }))).items ≡ items_left s
    by_entries [] = refl
    by_entries (one ∷ more) = refl

pub published_given : (now : ℤ) (s : SubState) → (published now s).given ≡ s.given
published_given now s = by_entries (entries_told s)
  where
    by_entries : (entries : List Told) → (after_sending (sent_with entries now (record s { items = items_left s }))).given ≡ s.given
    by_entries [] = refl
    by_entries (one ∷ more) = refl

-- ---- rising

pub moded_id : (id : ℕ) (mode : Mode) (current : Option Change) (item : ItemState) → (moded_if id mode current item).id ≡ item.id
moded_id id mode current item = by_test (has_id id item)
  where
    by_test : (b : Bool) → (cond b (with_mode mode current item) item).id ≡ item.id
    by_test true = refl
    by_test false = refl

pub fed_id : (change : Change) (item : ItemState) → (fed_item change item).id ≡ item.id
fed_id change item = by_test (samples change item)
  where
    by_test : (b : Bool) → (cond b (record item { queue = pushed change item.queue }) item).id ≡ item.id
    by_test true = refl
    by_test false = refl

rising_map : (f : ItemState → ItemState) → ((item : ItemState) → (f item).id ≡ item.id)
    → (low high : ℕ) (items : List ItemState) → AreRising low items high → AreRising low (map f items) high
rising_map f same low high [] h = h
rising_map f same low high (item ∷ items) h = (
  subst (λ id. low < id) (sym (same item)) h.0,
  subst (λ id. AreRising id (map f items) high) (sym (same item)) (rising_map f same item.id high items h.1),
)

rising_lower : (low lower high : ℕ) (items : List ItemState) → lower ≤ low → AreRising low items high → AreRising lower items high
rising_lower low lower high [] less h = omega arith
rising_lower low lower high (item ∷ items) less h = let first = h.0 in (omega arith, h.1)

rising_higher : (low high higher : ℕ) (items : List ItemState) → high ≤ higher → AreRising low items high → AreRising low items higher
rising_higher low high higher [] less h = omega arith
rising_higher low high higher (item ∷ items) less h = (h.0, rising_higher item.id high higher items less h.1)

rising_without : (id low high : ℕ) (items : List ItemState) → AreRising low items high → AreRising low (without_item id items) high
rising_without id low high [] h = h
rising_without id low high (item ∷ items) h = by_test (has_id id item) (rising_without id item.id high items h.1)
  where
    by_test : (b : Bool) → AreRising item.id (without_item id items) high
        → AreRising low (cond (not b) (item ∷ without_item id items) (without_item id items)) high
    by_test true more = let first = h.0 in rising_lower item.id low high (without_item id items) (omega arith) more
    by_test false more = (h.0, more)

rising_added : (low high : ℕ) (items : List ItemState) (item : ItemState) → item.id ≡ high + 1 → AreRising low items high
    → AreRising low (items ++ item ∷ []) (high + 1)
rising_added low high [] item is h = (omega arith, omega arith)
rising_added low high (first ∷ items) item is h = (h.0, rising_added first.id high items item is h.1)

rising_left : (room low high : ℕ) (items : List ItemState) → AreRising low items high → AreRising low (left room items) high
rising_left room low high [] h = h
rising_left room low high (item ∷ items) h = (h.0, rising_left (room - count_told room item) item.id high items h.1)

pub rising_items_left : (s : SubState) → AreRising 0 s.items s.given → AreRising 0 (items_left s) s.given
rising_items_left s h = by_enabled s.spec.enabled
  where
    by_enabled : (b : Bool) → AreRising 0 (cond b (left s.spec.most s.items) s.items) s.given
    by_enabled true = rising_left s.spec.most 0 s.given s.items h
    by_enabled false = h

pub rising_after : (call : Call) (s : SubState) → AreRising 0 s.items s.given → AreRising 0 (after call s).items (after call s).given
rising_after (Add spec current) s h = rising_added 0 s.given s.items (new_item (s.given + 1) spec current) refl h
rising_after (Remove id) s h = rising_without id 0 s.given s.items h
rising_after (SetMode id mode current) s h = rising_map (moded_if id mode current) (moded_id id mode current) 0 s.given s.items h
rising_after (Feed change) s h = rising_map (fed_item change) (fed_id change) 0 s.given s.items h
rising_after (Timer queued) s h = rw (cycled_items queued s, cycled_given queued s) h
rising_after (Publish now) s h = rw (published_items now s, published_given now s) (rising_items_left s h)
rising_after (Acknowledge number) s h = h
rising_after (Modify spec now) s h = h
rising_after (SetEnabled enabled) s h = h
rising_after Moved s h = h

pub ids_rise : (spec : SubSpec) (start : ℕ) (calls : List Call) → AreRising 0 (state_of spec start calls).items (state_of spec start calls).given
ids_rise spec start [] = omega arith
ids_rise spec start (call ∷ earlier) = rising_after call (state_of spec start earlier) (ids_rise spec start earlier)
