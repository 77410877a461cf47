-- What an assembler makes of the chunks of a secure channel (OPC 10000-6, 6.7.2 and 6.7.3).
use Rattle.std.specs.Prelude.{◌≡◌, ◌≤◌, ◌<◌, ◌^◌, ℕ, ◌+◌, ◌-◌, ◌==◌, ◌&&◌, ◌||◌, not, nat_lt, nat_le, List, [], ◌∷◌, ◌++◌, length, drop, Bool, true, false, Option, Some, None, Result, Ok, Err, ◌⊎◌, if◌then◌else◌}
use Rattle.byteorder.specs.Endian.{little_number}
use Rattle.ua_base.specs.Status.{bad_decoding_error, bad_secure_channel_token_unknown, bad_sequence_number_invalid, bad_tcp_message_too_large, bad_tcp_secure_channel_unknown}
use Rattle.ua_chunks.specs.declared.frame.Chunk.{Chunk}
use Rattle.ua_chunks.specs.declared.frame.Chunk.TheVariants as chunk
use Rattle.ua_chunks.specs.declared.frame.Frame.{Frame}
use Rattle.ua_chunks.specs.declared.frame.FrameFault.{FrameFault}
use Rattle.ua_chunks.specs.declared.frame.FrameFault.TheVariants as faults
use Rattle.ua_chunks.specs.declared.message.ChunkHead.{ChunkHead}
use Rattle.ua_chunks.specs.declared.message.Message.{Message}
use Rattle.ua_chunks.specs.declared.message.MessageFault.{MessageFault}

-- the channel and its token, and the token before it, which is taken until a chunk with the newer one came; the number
-- of the last chunk; how many chunks of a message came, its request and its bytes so far; the fault that ended it all
pub record Assembly : Type 0 where
  pub channel : ℕ
  pub token : ℕ
  pub former : Option ℕ
  pub last : Option ℕ
  pub chunks : ℕ
  pub request : ℕ
  pub body : List ℕ
  pub fault : Option MessageFault

abbrev pub new_assembly : ℕ → ℕ → Assembly
new_assembly channel token = record {
  channel = channel;
  token = token;
  former = None;
  last = None;
  chunks = 0;
  request = 0;
  body = [];
  fault = None;
}

-- later chunks must have these; the token of a channel that stays is taken on
abbrev pub renewed : ℕ → ℕ → Assembly → Assembly
renewed channel token s =
    record s { channel = channel; token = token; former = if channel == s.channel then Some s.token else None }

-- what is so of each assembler
pub record IsAssembly (s : Assembly) : Type 0 where
  pub channel : s.channel < 2 ^ 32
  pub token : s.token < 2 ^ 32
  pub chunks : s.chunks ≤ 64
  pub body : length s.body ≤ 1048576

-- ---- the rules, in their order

-- four numbers stand in front
abbrev pub head_of : List ℕ → ChunkHead
head_of body = record {
  channel = little_number 4 body;
  token = little_number 4 (drop 4 body);
  number = little_number 4 (drop 8 body);
  request = little_number 4 (drop 12 body);
}

abbrev pub is_former : ℕ → Option ℕ → Bool
is_former token None = false
is_former token (Some former) = token == former

abbrev pub takes_token : ℕ → Assembly → Bool
takes_token token s = token == s.token || is_former token s.former

-- the next number, or one of the first 1023 after one of the last; any at first
abbrev pub takes_number : ℕ → Option ℕ → Bool
takes_number number None = true
takes_number number (Some last) = number == last + 1 || (nat_lt 4294966271 last && nat_lt number 1024)

-- where a message was begun, its chunks are of one request
abbrev pub takes_request : ℕ → Assembly → Bool
takes_request request s = s.chunks == 0 || request == s.request

-- a message has 64 chunks at most, and so many bytes
abbrev pub has_room : ℕ → Assembly → Bool
has_room count s = nat_lt s.chunks 64 && nat_le (length s.body + count) 1048576

-- the code of the first rule that a chunk with so many bytes breaks
abbrev pub refusal_of : ChunkHead → ℕ → Assembly → Option ℕ
refusal_of h count s =
    if not (h.channel == s.channel) then Some bad_tcp_secure_channel_unknown
    else if not (takes_token h.token s) then Some bad_secure_channel_token_unknown
    else if not (takes_number h.number s.last) then Some bad_sequence_number_invalid
    else if not (takes_request h.request s) then Some bad_decoding_error
    else if not (has_room count s) then Some bad_tcp_message_too_large
    else None

abbrev pub refusal : List ℕ → Assembly → Option ℕ
refusal body s =
    if nat_lt (length body) 16 then Some bad_decoding_error
    else refusal_of (head_of body) (length body - 16) s

abbrev pub at_place : ℕ → Option ℕ → Option MessageFault
at_place place None = None
at_place place (Some code) = Some (record { place = place; code = code })

-- the first fault is the fault of all later frames
abbrev pub first_fault : Option MessageFault → Frame → Assembly → Option MessageFault
first_fault (Some fault) f s = Some fault
first_fault None f s = at_place f.place (refusal f.body s)

abbrev pub fault_after : Frame → Assembly → Option MessageFault
fault_after f s = first_fault s.fault f s

-- ---- a chunk that breaks none

-- its number is the last one, and a chunk with the newer token ends the former one
abbrev pub numbered : ChunkHead → Assembly → Assembly
numbered h s = record s { last = Some h.number; former = if h.token == s.token then None else s.former }

abbrev pub without_message : Assembly → Assembly
without_message s = record s { chunks = 0; request = 0; body = [] }

-- a middle chunk's bytes are kept, a final one ends the message, and an abort one drops it
abbrev pub with_chunk : Chunk → ChunkHead → List ℕ → Assembly → Assembly
with_chunk chunk.Middle h bytes s = record s { chunks = s.chunks + 1; request = h.request; body = s.body ++ bytes }
with_chunk chunk.Final h bytes s = without_message s
with_chunk chunk.Abort h bytes s = without_message s

abbrev pub message_by : Chunk → ChunkHead → List ℕ → Assembly → Option Message
message_by chunk.Middle h bytes s = None
message_by chunk.Final h bytes s = Some (record { request = h.request; body = s.body ++ bytes })
message_by chunk.Abort h bytes s = None

-- ---- a frame

abbrev pub with_fault : Option MessageFault → Frame → Assembly → Assembly
with_fault (Some fault) f s = record s { fault = Some fault }
with_fault None f s = with_chunk f.chunk (head_of f.body) (drop 16 f.body) (numbered (head_of f.body) s)

unfoldable pub after_frame : Frame → Assembly → Assembly
after_frame f s = with_fault (fault_after f s) f s

abbrev pub unless_faulty : Option MessageFault → Frame → Assembly → Option Message
unless_faulty (Some fault) f s = None
unless_faulty None f s = message_by f.chunk (head_of f.body) (drop 16 f.body) s

unfoldable pub message_of : Frame → Assembly → Option Message
message_of f s = unless_faulty (fault_after f s) f s

-- what a call answers of an assembler that was `old`
abbrev pub Adds : Result (Option Message) FrameFault → Frame → Assembly → Assembly → Type 0
Adds (Ok message) f old new = (fault_after f old ≡ None) × (new ≡ after_frame f old) × (message ≡ message_of f old)
Adds (Err (faults.Bad place code)) f old new =
    (fault_after f old ≡ Some (record { place = place; code = code })) × (new ≡ after_frame f old)
Adds (Err faults.OutOfMemory) f old new = new ≡ old

-- an OPN's number
abbrev pub with_number : ℕ → Assembly → Assembly
with_number number s = record s { last = Some number }

abbrev pub TakesNumber : {A : Type 0} → Result A FrameFault → ℕ → ℕ → Assembly → Assembly → Type 0
TakesNumber (Ok u) place number old new = (takes_number number old.last ≡ true) × (new ≡ with_number number old)
TakesNumber (Err (faults.Bad at code)) place number old new =
    (takes_number number old.last ≡ false) × (at ≡ place) × (code ≡ bad_sequence_number_invalid) × (new ≡ old)
TakesNumber (Err faults.OutOfMemory) place number old new = ⊥

-- which chunks are taken: those of this channel and token, and those of the former token
pub record Tokens : Type 0 where
  pub channel : ℕ
  pub token : ℕ
  pub former : Option ℕ

abbrev pub tokens_of : Assembly → Tokens
tokens_of s = record { channel = s.channel; token = s.token; former = s.former }

-- what a chunk with this token leaves of them
abbrev pub used : ℕ → Tokens → Tokens
used token t = record t { former = if token == t.token then None else t.former }

-- ---- any frames

abbrev pub and_then : Option Message → List Message → List Message
and_then None messages = messages
and_then (Some message) messages = message ∷ messages

abbrev pub messages_of : List Frame → Assembly → List Message
messages_of [] s = []
messages_of (f ∷ frames) s = and_then (message_of f s) (messages_of frames (after_frame f s))

abbrev pub assembled : List Frame → Assembly → Assembly
assembled [] s = s
assembled (f ∷ frames) s = assembled frames (after_frame f s)

-- frames of which none breaks a rule, each before the last makes nothing, and the last makes this message
abbrev pub Leads : List Frame → Message → Assembly → Type 0
Leads [] m s = ⊥
Leads (f ∷ frames) m s =
    (fault_after f s ≡ None)
    × (((frames ≡ []) × (message_of f s ≡ Some m)) ⊎ ((message_of f s ≡ None) × Leads frames m (after_frame f s)))

-- after a fault there is no message, and the fault stays
pub record Ended (frames : List Frame) (fault : MessageFault) (s : Assembly) : Type 0 where
  pub messages : messages_of frames s ≡ []
  pub fault_is : (assembled frames s).fault ≡ Some fault

-- the first of the frames breaks a rule, so that none makes a message
pub record RefusesFirst (frames : List Frame) (fault : MessageFault) (s : Assembly) : Type 0 where
  pub first : Frame
  pub others : List Frame
  pub are : frames ≡ first ∷ others
  pub breaks : fault_after first s ≡ Some fault
  pub ended : Ended frames fault s

-- frames make these messages, and no more after them: then comes the fault
pub record Breaks (frames : List Frame) (messages : List Message) (fault : MessageFault) (s : Assembly) : Type 0 where
  pub messages_are : messages_of frames s ≡ messages
  pub fault_is : (assembled frames s).fault ≡ Some fault

-- the first of the frames that breaks a rule stands behind frames that break none
pub record HasFirstFault (frames : List Frame) (fault : MessageFault) (s : Assembly) : Type 0 where
  pub before : List Frame
  pub broken : Frame
  pub later : List Frame
  pub are : frames ≡ before ++ broken ∷ later
  pub none : (assembled before s).fault ≡ None
  pub fault_is : fault_after broken (assembled before s) ≡ Some fault
  pub messages : messages_of frames s ≡ messages_of before s

-- the bytes of a chunk that are the message's
abbrev pub own_bytes : Frame → List ℕ
own_bytes f = drop 16 f.body

abbrev pub IsMiddle : Frame → Type 0
IsMiddle f = f.chunk ≡ chunk.Middle

-- no message was begun
pub record IsIdle (s : Assembly) : Type 0 where
  pub chunks : s.chunks ≡ 0
  pub body : s.body ≡ []

-- chunks of which none broke a rule made nothing, and left nothing
pub record Drops (frames : List Frame) (s : Assembly) : Type 0 where
  pub messages : messages_of frames s ≡ []
  pub idle : IsIdle (assembled frames s)
