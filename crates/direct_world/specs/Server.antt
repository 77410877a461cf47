-- The life of a direct server: what it is given, and what the client takes from its queues.
use Rattle.std.specs.Prelude.{ℕ, ◌+◌, ◌-◌, List, [], ◌∷◌, Bool, true, false, ◌&&◌, Option, Some, None, length, take, drop, map, replicate, min, nat_le, if◌then◌else◌, slice_index_or, slice_set}
use Rattle.ua_base.specs.Status.{overflow_bits}
use Rattle.set_model.specs.declared.source.Change.{Change}
use Rattle.set_model.specs.declared.line.Arrived.{Arrived}
use Rattle.set_model.specs.declared.line.Seen.TheVariants.{Whole}
use Rattle.set_model.specs.Source.{stamp_of}
use Rattle.item_queue.specs.declared.queue.Entry.{Entry}
use Rattle.item_queue.specs.State.{QueueState}
use Rattle.item_queue.specs.Queue.{empty_queue, pushed, without_oldest}
use Rattle.direct_world.specs.State.{ServerState}
use Rattle.direct_world.specs.Lives.{values_from}

-- the place in a list of what is numbered from 1, if there are so many
abbrev pub place_in : ℕ → ℕ → Option ℕ
place_in number count = if nat_le 1 number && nat_le number count then Some (number - 1) else None

-- the queue of a place; there is one wherever it is asked for
abbrev pub queue_at : ℕ → List QueueState → QueueState
queue_at place queues = slice_index_or queues place (empty_queue true 2)

-- a change goes into the queue of its item
abbrev pub pushed_at : Option ℕ → Change → List QueueState → List QueueState
pushed_at None change queues = queues
pushed_at (Some place) change queues = slice_set queues place (pushed change (queue_at place queues))

-- a server of so many items and queues of this rule and size, when the set begins
abbrev pub new_server : ℕ → Bool → ℕ → ServerState
new_server items oldest size = record {
  boot = 1;
  running = true;
  position = 0;
  queues = replicate items (empty_queue oldest size);
}

-- changes go into their items' queues, one after another
abbrev pub pushed_all : List Change → List QueueState → List QueueState
pushed_all [] queues = queues
pushed_all (change ∷ changes) queues =
    pushed_all changes (pushed_at (place_in change.item (length queues)) change queues)

-- the next changes of the source from a server's position on, up to so many
abbrev pub next_of : ℕ → List Change → ServerState → List Change
next_of count source s = take count (drop s.position source)

-- a server that is fed these changes
abbrev pub fed : List Change → ServerState → ServerState
fed changes s = record s { position = s.position + length changes; queues = pushed_all changes s.queues }

abbrev pub stopped : ServerState → ServerState
stopped s = record s { running = false }

-- the stream of an item's new life begins with its current value, if there is one
abbrev pub opened : Option Change → QueueState → QueueState
opened None queue = empty_queue queue.oldest queue.size
opened (Some change) queue = pushed change (empty_queue queue.oldest queue.size)

-- the queues at the beginning of a life with these current values, item by item
abbrev pub opened_all : List (Option Change) → List QueueState → List QueueState
opened_all [] queues = queues
opened_all (value ∷ values) [] = []
opened_all (value ∷ values) (queue ∷ queues) = opened value queue ∷ opened_all values queues

-- the boot number of the life after one
abbrev pub next_boot : ℕ → ℕ
next_boot boot = min (boot + 1) 65535

-- the current values that a new life of a server begins with
abbrev pub values_of : List Change → ServerState → List (Option Change)
values_of source s = values_from 1 (length s.queues) source

-- a new life: the next boot number, the end of the source as its position, and its current values in the queues
abbrev pub started : List Change → ServerState → ServerState
started source s = record {
  boot = next_boot s.boot;
  running = true;
  position = length source;
  queues = opened_all (values_of source s) s.queues;
}

-- an entry as it reaches the client: a mark is the overflow bit of its status
abbrev pub arrived : Entry → Arrived
arrived entry = record {
  time = Some (stamp_of entry.change);
  value = Whole entry.change.value;
  status = if entry.marked then overflow_bits else 0;
}

-- the queues without up to so many oldest entries of each
abbrev pub left_after : ℕ → List QueueState → List QueueState
left_after count queues = map (without_oldest count) queues

-- the queues without up to so many oldest entries of the one of a place
abbrev pub taken_place : ℕ → ℕ → List QueueState → List QueueState
taken_place place count queues = slice_set queues place (without_oldest count (queue_at place queues))
