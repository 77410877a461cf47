-- What a queue of a rule and a size holds, said of the stream of its changes and of places in it (OPC 10000-4,
-- 5.12.1.5). Nothing here knows how a queue pushes, drops or marks.
use Rattle.std.specs.Prelude.{◌≡◌, ◌<◌, ◌≤◌, true, false, slice_get, ℕ, zero, suc, ◌+◌, ◌-◌, ◌==◌, List, [], ◌∷◌, ◌++◌, Bool, ◌&&◌, not, nat_le, nat_lt, length, take, drop, Some, if◌then◌else◌}
use Rattle.set_model.specs.declared.source.Change.{Change}
use Rattle.item_queue.specs.declared.queue.Entry.{Entry}

-- one call on a queue; a take is of one entry
pub data Call : Type 0 where
  Push : Change → Call
  Take : Call
  Clear : Call

-- all changes since it began, whose places count from 1; the places that the queue holds; and the place of the change
-- that was taken last, 0 at first
pub record Stream : Type 0 where
  pub pushed : List Change
  pub held : List ℕ
  pub taken : ℕ

-- before any change came
abbrev pub new_stream : Stream
new_stream = record { pushed = []; held = []; taken = 0 }

-- so many places, from one on
abbrev pub places_from : ℕ → ℕ → List ℕ
places_from first zero = []
places_from first (suc count) = first ∷ places_from (first + 1) count

-- a list of places cut to its last ones
abbrev pub last_ones : ℕ → List ℕ → List ℕ
last_ones count places = drop (length places - count) places

-- the window of a stream of so many places: what is left of them without those up to the place taken last, cut to the
-- last ones that the size allows
abbrev pub window : ℕ → ℕ → ℕ → List ℕ
window size taken count = last_ones size (drop taken (places_from 1 count))

-- a new place is put behind those held where they are fewer than the size allows, and else in the last one's place
abbrev pub newest : ℕ → ℕ → List ℕ → List ℕ
newest size place held =
    if nat_lt (length held) size then held ++ place ∷ [] else take (length held - 1) held ++ place ∷ []

-- the places held when a new one came: of a queue that discards the oldest the window that ends there
abbrev pub held_with : Bool → ℕ → ℕ → ℕ → List ℕ → List ℕ
held_with true size taken place held = window size taken place
held_with false size taken place held = newest size place held

abbrev pub stream_after_push : Bool → ℕ → Change → Stream → Stream
stream_after_push oldest size change stream = record {
  pushed = stream.pushed ++ change ∷ [];
  held = held_with oldest size stream.taken (length stream.pushed + 1) stream.held;
  taken = stream.taken;
}

-- a take moves the first place out of those held, and does nothing where none is held
abbrev pub stream_after_take : List ℕ → Stream → Stream
stream_after_take [] stream = stream
stream_after_take (place ∷ places) stream = record stream { held = places; taken = place }

-- the stream after one call on a queue of this rule and size
abbrev pub stream_after : Bool → ℕ → Call → Stream → Stream
stream_after oldest size (Push change) stream = stream_after_push oldest size change stream
stream_after oldest size Take stream = stream_after_take stream.held stream
stream_after oldest size Clear stream = new_stream

-- the stream after more calls
abbrev pub stream_from : Bool → ℕ → List Call → Stream → Stream
stream_from oldest size [] stream = stream
stream_from oldest size (call ∷ calls) stream = stream_from oldest size calls (stream_after oldest size call stream)

-- the stream after all calls
abbrev pub stream_run : Bool → ℕ → List Call → Stream
stream_run oldest size calls = stream_from oldest size calls new_stream

-- a queue of two or more marks what does not stand directly after the place before it
abbrev pub is_marked : ℕ → ℕ → ℕ → Bool
is_marked size before place = nat_le 2 size && not (place == before + 1)

-- an entry is the change at a place, which lies after another one, and is marked where it isn't the next one
pub record IsAt (size : ℕ) (changes : List Change) (before place : ℕ) (entry : Entry) : Type 0 where
  pub change : slice_get changes (place - 1) ≡ Some entry.change
  pub later : before < place
  pub marked : entry.marked ≡ is_marked size before place

-- entries are the changes at these places, each marked by the place before it, as they are taken in turn
abbrev pub AreAt : ℕ → List Change → ℕ → List ℕ → List Entry → Type 0
AreAt size changes before [] [] = Unit {0}
AreAt size changes before (place ∷ places) (entry ∷ entries) =
    IsAt size changes before place entry × AreAt size changes place places entries
AreAt size changes before [] (entry ∷ entries) = ⊥
AreAt size changes before (place ∷ places) [] = ⊥

-- the last of these places, or the one before them where there is none
abbrev pub last_place : ℕ → List ℕ → ℕ
last_place before [] = before
last_place before (place ∷ places) = last_place place places

-- a take of this entry: it is the change at the first place held, which lies after the place taken last; that is the
-- next one where the entry is unmarked in a queue that marks
pub record TakesAtPlace (oldest : Bool) (size : ℕ) (stream : Stream) (entry : Entry) : Type 0 where
  pub place : ℕ
  pub first : slice_get stream.held 0 ≡ Some place
  pub is : IsAt size stream.pushed stream.taken place entry
  pub next : 2 ≤ size → entry.marked ≡ false → place ≡ stream.taken + 1
  pub moves : stream_after oldest size Take stream ≡ record stream { held = drop 1 stream.held; taken = place }
