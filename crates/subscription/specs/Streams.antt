-- What the stream of an item is, and which of it was told, said of all calls so far (OPC 10000-4, 5.12.1). Nothing here
-- knows what a queue holds.
use Rattle.std.specs.Prelude.{◌≤◌, ◌<◌, ℕ, ◌+◌, ◌==◌, List, [], ◌∷◌, ◌++◌, Option, Some, None, map, filter, if◌then◌else◌}
use Rattle.ua_base.specs.declared.modes.Mode.{Mode}
use Rattle.ua_base.specs.declared.modes.Mode.TheVariants.{Disabled}
use Rattle.set_model.specs.declared.source.Change.{Change}
use Rattle.item_queue.specs.declared.queue.Entry.{Entry}
use Rattle.item_queue.specs.State.{QueueState}
use Rattle.item_queue.specs.Queue.{Holds}
use Rattle.item_queue.specs.Stream.{AreAt, last_place}
use Rattle.subscription.specs.declared.spec.SubSpec.{SubSpec}
use Rattle.subscription.specs.State.{ItemState, SubState}
use Rattle.subscription.specs.Items.{Told, is_disabled, item_of, samples}
use Rattle.subscription.specs.Calls.{entries_told}
use Rattle.subscription.specs.History.{Call, Add, Remove, SetMode, Feed, Timer, Publish, Acknowledge, Modify, SetEnabled, Moved, state_of}

-- all changes of a stream since it began, whose places count from 1, and all entries that messages told of it
pub record ItemStream : Type 0 where
  pub pushed : List Change
  pub given : List Entry

abbrev pub no_stream : ItemStream
no_stream = record { pushed = []; given = [] }

-- a stream begins with the current value, where there is one
abbrev pub begun_with : Option Change → ItemStream
begun_with None = no_stream
begun_with (Some change) = record { pushed = change ∷ []; given = [] }

-- it ends where the item goes to Disabled, and a new one begins where it leaves Disabled
abbrev pub stream_in : Mode → Mode → Option Change → ItemStream → ItemStream
stream_in before mode current stream =
    if is_disabled mode then no_stream
    else if is_disabled before then begun_with current
    else stream

abbrev pub moded_stream : Option ItemState → Mode → Option Change → ItemStream → ItemStream
moded_stream None mode current stream = stream
moded_stream (Some item) mode current stream = stream_in item.mode mode current stream

abbrev pub fed_stream : Option ItemState → Change → ItemStream → ItemStream
fed_stream None change stream = stream
fed_stream (Some item) change stream =
    if samples change item then record stream { pushed = stream.pushed ++ change ∷ [] } else stream

-- what a message tells of an item
abbrev pub entries_of : ℕ → List Told → List Entry
entries_of id told = map (λ one. one.entry) (filter (λ one. one.id == id) told)

-- the stream of the item of an id after one call more on a subscription
abbrev pub stream_after : ℕ → Call → SubState → ItemStream → ItemStream
stream_after id (Add spec current) s stream =
    if s.given + 1 == id then stream_in Disabled spec.mode current no_stream else stream
stream_after id (Remove other) s stream = stream
stream_after id (SetMode other mode current) s stream =
    if other == id then moded_stream (item_of id s.items) mode current stream else stream
stream_after id (Feed change) s stream = fed_stream (item_of id s.items) change stream
stream_after id (Timer queued) s stream = stream
stream_after id (Publish now) s stream = record stream { given = stream.given ++ entries_of id (entries_told s) }
stream_after id (Acknowledge number) s stream = stream
stream_after id (Modify spec now) s stream = stream
stream_after id (SetEnabled enabled) s stream = stream
stream_after id Moved s stream = stream

-- the stream of the item of an id after these calls, newest first
abbrev pub stream_of : SubSpec → ℕ → ℕ → List Call → ItemStream
stream_of spec start id [] = no_stream
stream_of spec start id (call ∷ earlier) =
    stream_after id call (state_of spec start earlier) (stream_of spec start id earlier)

-- what an item with this queue tells of its stream: the entries that messages told, one after another, are the changes
-- at rising places of it, and the queue holds what its rule says of what came since; each entry is marked where its
-- place isn't the next one after the place before it, which was told or is held
pub record IsTold (queue : QueueState) (stream : ItemStream) : Type 0 where
  pub told : List ℕ
  pub held : List ℕ
  pub given : AreAt queue.size stream.pushed 0 told stream.given
  pub holds : Holds queue.oldest queue.size queue
      (record { pushed = stream.pushed; held = held; taken = last_place 0 told })

-- ids rise, from above one up to another
abbrev pub AreRising : ℕ → List ItemState → ℕ → Type 0
AreRising low [] high = low ≤ high
AreRising low (item ∷ items) high = (low < item.id) × AreRising item.id items high
