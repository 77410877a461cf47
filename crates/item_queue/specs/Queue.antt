-- What pushes and takes make of a queue.
use Rattle.std.specs.Prelude.{◌≡◌, ℕ, ◌≤◌, ◌-◌, List, [], ◌∷◌, ◌++◌, Bool, true, false, length, take, drop, nat_lt, nat_le, if◌then◌else◌}
use Rattle.set_model.specs.declared.source.Change.{Change}
use Rattle.item_queue.specs.declared.queue.Entry.{Entry}
use Rattle.item_queue.specs.State.{QueueState}
use Rattle.item_queue.specs.Stream.{Call, Push, Take, Clear, Stream, AreAt, last_place, window}

-- a queue of this rule (discardOldest) and size before its first change
abbrev pub empty_queue : Bool → ℕ → QueueState
empty_queue oldest size = record { oldest = oldest; size = size; entries = [] }

-- an entry before which nothing was dropped
abbrev pub unmarked : Change → Entry
unmarked change = record { change = change; marked = false }

-- an entry in the place of one that was dropped for it; a queue of size 1 marks nothing
abbrev pub replacing : ℕ → Change → Entry
replacing size change = record { change = change; marked = nat_le 2 size }

-- the oldest entry says that entries before it were dropped
abbrev pub marked_first : List Entry → List Entry
marked_first [] = []
marked_first (entry ∷ entries) = record entry { marked = true } ∷ entries

-- in a full queue the oldest entry is dropped for the change, and the one after that is marked; or the newest entry is
-- dropped, and the change that comes in its place is marked
abbrev pub without_room : Bool → ℕ → Change → List Entry → List Entry
without_room true size change entries = marked_first (drop 1 entries) ++ unmarked change ∷ []
without_room false size change entries = take (length entries - 1) entries ++ replacing size change ∷ []

-- with room the change is appended
abbrev pub with_change : Bool → ℕ → Change → List Entry → List Entry
with_change oldest size change entries =
    if nat_lt (length entries) size then entries ++ unmarked change ∷ [] else without_room oldest size change entries

-- the queue after one change more
abbrev pub pushed : Change → QueueState → QueueState
pushed change queue = record queue { entries = with_change queue.oldest queue.size change queue.entries }

-- the queue after so many of its oldest entries were taken out
abbrev pub without_oldest : ℕ → QueueState → QueueState
without_oldest count queue = record queue { entries = drop count queue.entries }

-- the queue after one call
abbrev pub queue_after_call : Call → QueueState → QueueState
queue_after_call (Push change) queue = pushed change queue
queue_after_call Take queue = without_oldest 1 queue
queue_after_call Clear queue = empty_queue queue.oldest queue.size

-- the queue after these calls
abbrev pub queue_after : List Call → QueueState → QueueState
queue_after [] queue = queue
queue_after (call ∷ calls) queue = queue_after calls (queue_after_call call queue)

-- a queue of this rule and size holds the changes at the places that the stream's definition says, with their marks;
-- the last of these places, or the one taken last where none is held, is the stream's last
pub record Holds (oldest : Bool) (size : ℕ) (queue : QueueState) (stream : Stream) : Type 0 where
  pub least : 1 ≤ size
  pub rule_is : queue.oldest ≡ oldest
  pub size_is : queue.size ≡ size
  pub entries : AreAt size stream.pushed stream.taken stream.held queue.entries
  pub most : length stream.held ≤ size
  pub ends : last_place stream.taken stream.held ≡ length stream.pushed
  pub is_window : oldest ≡ true → stream.held ≡ window size stream.taken (length stream.pushed)
