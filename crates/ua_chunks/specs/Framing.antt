-- What a framer makes of the pieces of a stream.
use Rattle.std.specs.Prelude.{◌≡◌, ◌≤◌, ◌<◌, ℕ, ◌+◌, ◌-◌, ◌%◌, ◌^◌, List, [], ◌∷◌, ◌++◌, length, take, Bool, true, false, Option, Some, None, Result, Ok, Err}
use Rattle.ua_chunks.specs.declared.frame.Frame.{Frame}
use Rattle.ua_chunks.specs.declared.frame.FrameFault.{FrameFault}
use Rattle.ua_chunks.specs.declared.frame.FrameFault.TheVariants as faults
use Rattle.ua_chunks.specs.declared.frame.Stage.{Stage}
use Rattle.ua_chunks.specs.declared.frame.Stage.TheVariants as stage
use Rattle.ua_chunks.specs.Frames.{Split, fault_of, framed, moved, stage_of}

-- the place in the stream of the first byte that is in no whole frame, the bytes from there, and whether memory was
-- refused. Behind a header that breaks a rule bytes are counted, and not held.
pub record Framing : Type 0 where
  pub place : ℕ
  pub held : List ℕ
  pub missed : ℕ
  pub failed : Bool

abbrev pub new_framing : Framing
new_framing = record { place = 0; held = []; missed = 0; failed = false }

-- how many bytes are in no whole frame
abbrev pub rest_of : Framing → ℕ
rest_of s = (length s.held + s.missed) % 2 ^ 64

-- of a rest without a fault all bytes are held, and of another one its header
abbrev pub held_of : Option ℕ → List ℕ → List ℕ
held_of None rest = rest
held_of (Some code) rest = take 8 rest

abbrev pub holding : List ℕ → List ℕ → ℕ → Framing → Framing
holding held rest place s =
    record { place = place; held = held; missed = (s.missed + (length rest - length held)) % 2 ^ 64; failed = s.failed }

abbrev pub with_split : Split → Framing → Framing
with_split f s = holding (held_of (fault_of f.rest) f.rest) f.rest f.place s

-- the held bytes and the new ones, framed
abbrev pub split_of : List ℕ → Framing → Split
split_of bytes s = framed s.place (s.held ++ bytes)

unfoldable pub after_feed : List ℕ → Framing → Framing
after_feed bytes s = with_split (split_of bytes s) s

-- the frames that become whole
unfoldable pub frames_of : List ℕ → Framing → List Frame
frames_of bytes s = (split_of bytes s).frames

-- a list that gained a front of these frames behind what it had, all of them but `lost`
pub record Gains (frames before after lost : List Frame) : Type 0 where
  pub front : List Frame
  pub after_is : after ≡ before ++ front
  pub whole : frames ≡ front ++ lost

abbrev pub GainsFront : List Frame → List Frame → List Frame → Type 0
GainsFront frames before after = (lost : List Frame) × Gains frames before after lost

-- what a call answers of a framer that was `old`, with the list of frames before and after it
abbrev pub Feeds : {A : Type 0} → Result A FrameFault → Framing → List ℕ → Framing → List Frame → List Frame → Type 0
Feeds (Ok u) old bytes new before after =
    (old.failed ≡ false) × (new ≡ after_feed bytes old) × (fault_of new.held ≡ None)
    × (after ≡ before ++ frames_of bytes old)
Feeds (Err (faults.Bad place code)) old bytes new before after =
    (old.failed ≡ false) × (new ≡ after_feed bytes old) × (fault_of new.held ≡ Some code) × (new.place ≡ place)
    × (after ≡ before ++ frames_of bytes old)
Feeds (Err faults.OutOfMemory) old bytes new before after =
    (new.failed ≡ true) × GainsFront (frames_of bytes old) before after × (old.failed ≡ true → after ≡ before)

-- ---- what holds between calls

-- the held bytes are a front of a frame, or a header that breaks a rule
abbrev pub IsSettledAt : Stage → Framing → Type 0
IsSettledAt (stage.Waits n) s = s.missed ≡ 0
IsSettledAt (stage.Breaks code) s = length s.held ≡ 8
IsSettledAt (stage.Whole h) s = ⊥

abbrev pub IsSettled : Framing → Type 0
IsSettled s = (s.missed < 2 ^ 64) × IsSettledAt (stage_of s.held) s

-- ---- any pieces

-- the framer stands where the frames of all bytes end, has the fault that their rest has, and counts the rest
pub record StandsAt (f : Split) (s : Framing) : Type 0 where
  pub place : s.place ≡ f.place
  pub fault : fault_of s.held ≡ fault_of f.rest
  pub rest : rest_of s ≡ length f.rest % 2 ^ 64

-- nothing is held: the next byte begins a frame
abbrev pub IsBetween : Framing → Type 0
IsBetween s = (s.place < 2 ^ 64) × (s.held ≡ []) × (s.missed ≡ 0)

-- bytes of these frames make these frames, and leave nothing
pub record Brings (frames : List Frame) (bytes : List ℕ) (s : Framing) : Type 0 where
  pub frames_are : frames_of bytes s ≡ frames
  pub state : after_feed bytes s ≡ record s { place = moved s.place (length bytes) }

-- a framer with a fault goes nowhere
pub record Stays (bytes : List ℕ) (code : ℕ) (s : Framing) : Type 0 where
  pub fault : fault_of (after_feed bytes s).held ≡ Some code
  pub place : (after_feed bytes s).place ≡ s.place
  pub frames : frames_of bytes s ≡ []

abbrev pub fed : List (List ℕ) → Framing → Framing
fed [] s = s
fed (bytes ∷ pieces) s = fed pieces (after_feed bytes s)

abbrev pub given : List (List ℕ) → Framing → List Frame
given [] s = []
given (bytes ∷ pieces) s = frames_of bytes s ++ given pieces (after_feed bytes s)

-- ---- how many bytes are taken in at once

-- they go no further than the end of the header or of the frame
abbrev pub Awaits : ℕ → Stage → Type 0
Awaits count (stage.Waits n) = count ≤ n
Awaits count (stage.Breaks code) = ⊥
Awaits count (stage.Whole h) = ⊥

-- or there is a fault
abbrev pub Fits : ℕ → Stage → Type 0
Fits count (stage.Waits n) = count ≤ n
Fits count (stage.Breaks code) = Unit {0}
Fits count (stage.Whole h) = Unit {0}

-- the fault that the held bytes have
abbrev pub TellsFault : {A : Type 0} → Result A FrameFault → Framing → Type 0
TellsFault (Ok u) s = fault_of s.held ≡ None
TellsFault (Err (faults.Bad place code)) s = (fault_of s.held ≡ Some code) × (s.place ≡ place)
TellsFault (Err faults.OutOfMemory) s = ⊥
