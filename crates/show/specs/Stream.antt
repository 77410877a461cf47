-- What `show stream` prints of one direction of a stream (OPC 10000-6, 7.1.2.2 and 6.7.2.2): its frames and how much is
-- left, or where its first fault stands.
use Rattle.std.specs.Prelude.{◌≡◌, ℕ, ◌+◌, ◌%◌, ◌^◌, List, ◌++◌, codes, length, Option, Some, None, Result, Ok, Err}
use Rattle.std.specs.List.{flat_map}
use Rattle.std.specs.Fmt.{decimal}
use Rattle.ua_chunks.specs.declared.frame.Frame.{Frame}
use Rattle.ua_chunks.specs.declared.frame.FrameFault.{FrameFault}
use Rattle.ua_chunks.specs.declared.frame.FrameFault.TheVariants as frames
use Rattle.ua_chunks.specs.Frames.{Split, letters, letter, fault_of, framed}
use Rattle.ua_chunks.specs.Streams.{IsFramed}
use Rattle.show.specs.declared.fault.ShowFault.{ShowFault}
use Rattle.show.specs.declared.fault.ShowFault.TheVariants as faults
use Rattle.show.specs.Answer.{Refusal, refusal, Shows}

-- the place of a frame's first byte, its kind, which part of a message it is, and its size with the eight bytes of its
-- header
abbrev pub frame_line : Frame → List ℕ
frame_line f =
    codes "frame " ++ decimal f.place ++ codes " " ++ letters f.kind ++ codes " " ++ letter f.chunk
    ++ codes " " ++ decimal (8 + length f.body) ++ codes "\n"

-- how many bytes are left after the last whole frame
abbrev pub rest_line : ℕ → List ℕ
rest_line count = codes "rest " ++ decimal count ++ codes "\n"

-- they are counted modulo 2 ^ 64
abbrev pub stream_text : Split → List ℕ
stream_text split = flat_map frame_line split.frames ++ rest_line (length split.rest % 2 ^ 64)

-- frames and the bytes after them, and the code of the rule that these bytes break
abbrev pub shown_split : Option ℕ → Split → Result (List ℕ) Refusal
shown_split None split = Ok (stream_text split)
shown_split (Some code) split = Err (refusal split.place code)

-- the frames of all bytes, of which the first stands at place 0
abbrev pub shown_stream : List ℕ → Result (List ℕ) Refusal
shown_stream bytes = shown_split (fault_of (framed 0 bytes).rest) (framed 0 bytes)

-- what a fault of framing is to the reader of the text
abbrev pub IsFrameFault : FrameFault → ShowFault → Type 0
IsFrameFault (frames.Bad place code) fault = fault ≡ faults.Bad place code
IsFrameFault frames.OutOfMemory fault = fault ≡ faults.OutOfMemory

-- the input is frames that stand one after the other and a rest that begins with no further one, and this is shown of
-- them
abbrev pub IsShownStream : {X : Type 0} → (X → List ℕ) → List ℕ → Result X ShowFault → Type 0
IsShownStream view bytes result =
    (split : Split) × IsFramed 0 bytes split × Shows view result (shown_split (fault_of split.rest) split)
