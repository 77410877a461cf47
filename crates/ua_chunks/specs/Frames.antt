-- What the bytes of a stream are as frames (OPC 10000-6, 7.1.2.2 and 6.7.2.2), said of whole lists of bytes.
use Rattle.std.specs.Prelude.{◌≡◌, ◌≤◌, ℕ, zero, suc, ◌+◌, ◌-◌, ◌%◌, ◌^◌, nat_lt, List, [], ◌∷◌, length, take, drop, codes, Option, Some, None, Result, Ok, Err, if◌then◌else◌}
use Rattle.std.specs.Str.{bytes_eq}
use Rattle.byteorder.specs.Endian.{little_number}
use Rattle.ua_base.specs.Status.{bad_decoding_error, bad_tcp_message_too_large, bad_tcp_message_type_invalid}
use Rattle.ua_chunks.specs.declared.frame.Kind.{Kind}
use Rattle.ua_chunks.specs.declared.frame.Kind.TheVariants as kind
use Rattle.ua_chunks.specs.declared.frame.Chunk.{Chunk}
use Rattle.ua_chunks.specs.declared.frame.Chunk.TheVariants as chunk
use Rattle.ua_chunks.specs.declared.frame.Letters.{Letters}
use Rattle.ua_chunks.specs.declared.frame.Header.{Header}
use Rattle.ua_chunks.specs.declared.frame.Frame.{Frame}
use Rattle.ua_chunks.specs.declared.frame.Stage.{Stage}
use Rattle.ua_chunks.specs.declared.frame.Stage.TheVariants as stage

-- ---- the header

abbrev pub letters : Kind → List ℕ
letters kind.Hel = codes "HEL"
letters kind.Ack = codes "ACK"
letters kind.Err = codes "ERR"
letters kind.Opn = codes "OPN"
letters kind.Msg = codes "MSG"
letters kind.Clo = codes "CLO"

abbrev pub letter : Chunk → List ℕ
letter chunk.Final = codes "F"
letter chunk.Middle = codes "C"
letter chunk.Abort = codes "A"

abbrev pub of : Kind → Chunk → Option Letters
of k c = Some (record { kind = k; chunk = c })

-- the kind that three letters say
abbrev pub kind_of : List ℕ → Option Kind
kind_of three =
    if bytes_eq three (letters kind.Hel) then Some kind.Hel
    else if bytes_eq three (letters kind.Ack) then Some kind.Ack
    else if bytes_eq three (letters kind.Err) then Some kind.Err
    else if bytes_eq three (letters kind.Opn) then Some kind.Opn
    else if bytes_eq three (letters kind.Msg) then Some kind.Msg
    else if bytes_eq three (letters kind.Clo) then Some kind.Clo
    else None

-- the part of a message that one letter says
abbrev pub chunk_of : List ℕ → Option Chunk
chunk_of one =
    if bytes_eq one (letter chunk.Final) then Some chunk.Final
    else if bytes_eq one (letter chunk.Middle) then Some chunk.Middle
    else if bytes_eq one (letter chunk.Abort) then Some chunk.Abort
    else None

-- only a MSG may be in several chunks
abbrev pub typed : Kind → Chunk → Option Letters
typed kind.Msg c = of kind.Msg c
typed k chunk.Final = of k chunk.Final
typed k c = None

abbrev pub typed_by : Option Kind → Option Chunk → Option Letters
typed_by None c = None
typed_by (Some k) None = None
typed_by (Some k) (Some c) = typed k c

abbrev pub type_of : List ℕ → Option Letters
type_of four = typed_by (kind_of (take 3 four)) (chunk_of (drop 3 four))

-- the rules in their order: letters, a size of eight at least, and one of 65,536 at most
abbrev pub judged_header : Option Letters → ℕ → Result Header ℕ
judged_header None size = Err bad_tcp_message_type_invalid
judged_header (Some l) size =
    if nat_lt size 8 then Err bad_decoding_error
    else if nat_lt 65536 size then Err bad_tcp_message_too_large
    else Ok (record { letters = l; size = size })

-- four letters and a size, the lowest byte first
unfoldable pub header_of : List ℕ → Result Header ℕ
header_of head = judged_header (type_of (take 4 head)) (little_number 4 (drop 4 head))

-- ---- the first frame of bytes

-- what so many bytes are that begin with this header
abbrev pub sized : ℕ → Header → Stage
sized count h = if nat_lt count h.size then stage.Waits (h.size - count) else stage.Whole h

abbrev pub judged_stage : ℕ → Result Header ℕ → Stage
judged_stage count (Err code) = stage.Breaks code
judged_stage count (Ok h) = sized count h

abbrev pub stage_of : List ℕ → Stage
stage_of bytes =
    if nat_lt (length bytes) 8 then stage.Waits (8 - length bytes)
    else judged_stage (length bytes) (header_of (take 8 bytes))

-- the code of the rule that bytes break where a frame begins
abbrev pub fault_in : Stage → Option ℕ
fault_in (stage.Waits n) = None
fault_in (stage.Breaks code) = Some code
fault_in (stage.Whole h) = None

abbrev pub fault_of : List ℕ → Option ℕ
fault_of bytes = fault_in (stage_of bytes)

-- eight bytes or more of which the first eight break a rule of this code
pub record BreaksRule (bytes : List ℕ) (code : ℕ) : Type 0 where
  pub long : 8 ≤ length bytes
  pub header : header_of (take 8 bytes) ≡ Err code

-- ---- all frames of bytes

-- a place in a stream, so many bytes on
abbrev pub moved : ℕ → ℕ → ℕ
moved place count = (place + count) % 2 ^ 64

-- the frame of this header that bytes at a place are
abbrev pub frame_at : ℕ → Header → List ℕ → Frame
frame_at place h bytes = record { place = place; kind = h.letters.kind; chunk = h.letters.chunk; body = drop 8 bytes }

-- the one in front of bytes
abbrev pub frame_of : ℕ → Header → List ℕ → Frame
frame_of place h bytes = frame_at place h (take h.size bytes)

-- the frames, the place in the stream where the rest begins, and the rest
pub record Split : Type 0 where
  pub frames : List Frame
  pub place : ℕ
  pub rest : List ℕ

abbrev pub unframed : ℕ → List ℕ → Split
unframed place bytes = record { frames = []; place = place; rest = bytes }

abbrev pub with_first : Frame → Split → Split
with_first f s = record s { frames = f ∷ s.frames }

-- a whole frame and what the others give, or none
abbrev pub framed_by : Stage → (ℕ → List ℕ → Split) → ℕ → List ℕ → Split
framed_by (stage.Waits n) others place bytes = unframed place bytes
framed_by (stage.Breaks code) others place bytes = unframed place bytes
framed_by (stage.Whole h) others place bytes =
    with_first (frame_of place h bytes) (others (moved place h.size) (drop h.size bytes))

-- up to so many frames
abbrev pub framed_up_to : ℕ → ℕ → List ℕ → Split
framed_up_to zero place bytes = unframed place bytes
framed_up_to (suc n) place bytes = framed_by (stage_of bytes) (framed_up_to n) place bytes

-- bytes from a place of a stream, where a frame begins: there are never more frames than bytes
unfoldable pub framed : ℕ → List ℕ → Split
framed place bytes = framed_up_to (length bytes) place bytes
