-- Monitored items and what is taken from their queues (OPC 10000-4, 5.12.1).
use Rattle.std.specs.Prelude.{◌≡◌, ℕ, ◌-◌, ◌==◌, ◌&&◌, List, [], ◌∷◌, ◌++◌, Bool, true, false, not, Option, Some, None, length, take, drop, map, filter, min, if◌then◌else◌}
use Rattle.std.specs.List.{find, list_any}
use Rattle.ua_base.specs.declared.modes.Mode.{Mode}
use Rattle.ua_base.specs.declared.modes.Mode.TheVariants.{Disabled, Sampling, Reporting}
use Rattle.ua_base.specs.declared.modes.Timestamps.{Timestamps}
use Rattle.set_model.specs.declared.source.Change.{Change}
use Rattle.item_queue.specs.declared.queue.Entry.{Entry}
use Rattle.item_queue.specs.State.{QueueState}
use Rattle.item_queue.specs.Queue.{empty_queue, pushed, without_oldest}
use Rattle.subscription.specs.declared.spec.ItemSpec.{ItemSpec}
use Rattle.subscription.specs.State.{ItemState}

abbrev pub is_disabled : Mode → Bool
is_disabled Disabled = true
is_disabled Sampling = false
is_disabled Reporting = false

abbrev pub is_reporting : Mode → Bool
is_reporting Disabled = false
is_reporting Sampling = false
is_reporting Reporting = true

-- a stream begins: with the current value where there is one
abbrev pub opened : Option Change → QueueState → QueueState
opened None queue = empty_queue queue.oldest queue.size
opened (Some change) queue = pushed change (empty_queue queue.oldest queue.size)

-- the queue of an item that changes its mode: going to Disabled ends the stream, and leaving it begins one
abbrev pub queue_in : Mode → Mode → Option Change → QueueState → QueueState
queue_in before mode current queue =
    if is_disabled mode then empty_queue queue.oldest queue.size
    else if is_disabled before then opened current queue
    else queue

abbrev pub with_mode : Mode → Option Change → ItemState → ItemState
with_mode mode current item = record item { mode = mode; queue = queue_in item.mode mode current item.queue }

-- an item before it has its mode
abbrev pub idle_item : ℕ → ItemSpec → ItemState
idle_item id spec = record {
  id = id;
  node = spec.node;
  handle = spec.handle;
  mode = Disabled;
  stamps = spec.stamps;
  queue = empty_queue spec.oldest spec.queue;
}

-- a new item
abbrev pub new_item : ℕ → ItemSpec → Option Change → ItemState
new_item id spec current = with_mode spec.mode current (idle_item id spec)

-- a change is of an item's node, and the item samples it
abbrev pub samples : Change → ItemState → Bool
samples change item = item.node == change.item && not (is_disabled item.mode)

abbrev pub fed_item : Change → ItemState → ItemState
fed_item change item = if samples change item then record item { queue = pushed change item.queue } else item

-- the item of an id
abbrev pub has_id : ℕ → ItemState → Bool
has_id id item = item.id == id

abbrev pub item_of : ℕ → List ItemState → Option ItemState
item_of id items = find (has_id id) items

abbrev pub is_there : ℕ → List ItemState → Bool
is_there id items = list_any (has_id id) items

abbrev pub moded_if : ℕ → Mode → Option Change → ItemState → ItemState
moded_if id mode current item = if has_id id item then with_mode mode current item else item

abbrev pub with_item_mode : ℕ → Mode → Option Change → List ItemState → List ItemState
with_item_mode id mode current items = map (moded_if id mode current) items

abbrev pub without_item : ℕ → List ItemState → List ItemState
without_item id items = filter (λ item. not (has_id id item)) items

-- an item has something to tell
abbrev pub has_entries : ItemState → Bool
has_entries item = is_reporting item.mode && not (length item.queue.entries == 0)

-- an entry that a message tells: of which item, under which handle and with which times
pub record Told : Type 0 where
  pub id : ℕ
  pub handle : ℕ
  pub stamps : Timestamps
  pub entry : Entry

abbrev pub telling : ItemState → Entry → Told
telling item entry = record { id = item.id; handle = item.handle; stamps = item.stamps; entry = entry }

-- how many entries an item tells where there is room for so many
abbrev pub count_told : ℕ → ItemState → ℕ
count_told room item = if is_reporting item.mode then min room (length item.queue.entries) else 0

-- these are its oldest
abbrev pub told_of : ℕ → ItemState → List Told
told_of room item = map (telling item) (take (count_told room item) item.queue.entries)

abbrev pub left_of : ℕ → ItemState → ItemState
left_of room item = record item { queue = without_oldest (count_told room item) item.queue }

-- what is told of items where there is room for so many entries: the items in order, the oldest entries of each first
abbrev pub told : ℕ → List ItemState → List Told
told room [] = []
told room (item ∷ items) = told_of room item ++ told (room - count_told room item) items

-- and the items after that
abbrev pub left : ℕ → List ItemState → List ItemState
left room [] = []
left room (item ∷ items) = left_of room item ∷ left (room - count_told room item) items

-- of some first items the entries are told, and the others are as they were
abbrev pub IsPart : List ItemState → List ItemState → List ItemState → Type 0
IsPart items all_left before = (count : ℕ) × (items ≡ take count all_left ++ drop count before)
