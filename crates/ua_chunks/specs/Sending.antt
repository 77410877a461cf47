-- What a sender makes of messages: chunks of a secure channel (OPC 10000-6, 6.7.2).
use Rattle.std.specs.Prelude.{◌≡◌, ◌≤◌, ◌<◌, ◌^◌, ℕ, zero, suc, ◌-◌, ◌*◌, ◌==◌, nat_lt, min, List, [], ◌∷◌, ◌++◌, length, take, drop, codes, Some, None, Result, Ok, Err, if◌then◌else◌}
use Rattle.std.specs.List.{flat_map}
use Rattle.byteorder.specs.Endian.{little_bytes}
use Rattle.ua_base.specs.Number.{after_chunk}
use Rattle.ua_chunks.specs.declared.frame.Kind.{Kind}
use Rattle.ua_chunks.specs.declared.frame.Kind.TheVariants as kind
use Rattle.ua_chunks.specs.declared.frame.Chunk.{Chunk}
use Rattle.ua_chunks.specs.declared.frame.Chunk.TheVariants as chunk
use Rattle.ua_chunks.specs.declared.opening.OpnHead.{OpnHead}
use Rattle.ua_chunks.specs.declared.sender.PutFault.{PutFault}
use Rattle.ua_chunks.specs.declared.sender.PutFault.TheVariants as faults
use Rattle.ua_chunks.specs.Streams.{chunk_bytes}
use Rattle.ua_chunks.specs.Bodies.{written_opn_head}

-- the channel and its token; the size of a frame, and what the other end takes of a message, 0 for any; the number of
-- the next chunk
pub record Sending : Type 0 where
  pub channel : ℕ
  pub token : ℕ
  pub size : ℕ
  pub max_message : ℕ
  pub max_chunks : ℕ
  pub next : ℕ

abbrev pub new_sending : ℕ → ℕ → ℕ → ℕ → ℕ → Sending
new_sending channel token size max_message max_chunks = record {
  channel = channel;
  token = token;
  size = min size 65536;
  max_message = max_message;
  max_chunks = max_chunks;
  next = 1;
}

-- the limits of the other end, where they come later: the numbers go on
abbrev pub with_limits : ℕ → ℕ → ℕ → Sending → Sending
with_limits size max_message max_chunks s =
    record s { size = min size 65536; max_message = max_message; max_chunks = max_chunks }

-- what is so of each sender
pub record IsSending (s : Sending) : Type 0 where
  pub channel : s.channel < 2 ^ 32
  pub token : s.token < 2 ^ 32
  pub least : 8192 ≤ s.size
  pub most : s.size ≤ 65536
  pub next : s.next ≤ 4294966272

-- ---- how much a message may have

-- a limit of 0 is none
abbrev pub limited : ℕ → ℕ → ℕ
limited n limit = if limit == 0 then n else min n limit

-- how many bytes of a message stand in a chunk: the frame's header has 8 and the chunk's 16
abbrev pub in_chunk : Sending → ℕ
in_chunk s = s.size - 24

abbrev pub limit_of : Sending → ℕ
limit_of s = min (limited 1048576 s.max_message) (in_chunk s * limited 64 s.max_chunks)

-- ---- the chunks of a message

-- a frame that has no place yet
pub record Part : Type 0 where
  pub kind : Kind
  pub chunk : Chunk
  pub body : List ℕ

-- all of a frame in one part
abbrev pub whole_part : Kind → List ℕ → Part
whole_part k body = record { kind = k; chunk = chunk.Final; body = body }

abbrev pub stepped : Sending → Sending
stepped s = record s { next = after_chunk s.next }

-- the four numbers in front of a chunk
abbrev pub written_head : ℕ → Sending → List ℕ
written_head request s =
    little_bytes 4 s.channel ++ little_bytes 4 s.token ++ little_bytes 4 s.next ++ little_bytes 4 request

abbrev pub part : Kind → Chunk → ℕ → List ℕ → Sending → Part
part k c request bytes s = record { kind = k; chunk = c; body = written_head request s ++ bytes }

-- up to so many middle chunks, each full, and a final one with the rest
abbrev pub parts_up_to : ℕ → Kind → ℕ → List ℕ → Sending → List Part
parts_up_to zero k request bytes s = part k chunk.Final request bytes s ∷ []
parts_up_to (suc n) k request bytes s =
    if nat_lt (in_chunk s) (length bytes) then
    part k chunk.Middle request (take (in_chunk s) bytes) s
    ∷ parts_up_to n k request (drop (in_chunk s) bytes) (stepped s)
    else part k chunk.Final request bytes s ∷ []

-- each chunk has a byte at least, if there are several
unfoldable pub message_parts : Kind → ℕ → List ℕ → Sending → List Part
message_parts k request bytes s = parts_up_to (length bytes) k request bytes s

-- an OPN is never cut, and has no certificates
abbrev pub none_policy : List ℕ
none_policy = codes "http://opcfoundation.org/UA/SecurityPolicy#None"

abbrev pub opn_head_of : ℕ → Sending → OpnHead
opn_head_of request s = record {
  channel = s.channel;
  policy = Some none_policy;
  certificate = None;
  thumbprint = None;
  number = s.next;
  request = request;
}

abbrev pub opn_part : ℕ → List ℕ → Sending → Part
opn_part request bytes s = whole_part kind.Opn (written_opn_head (opn_head_of request s) ++ bytes)

abbrev pub parts_of : Kind → ℕ → List ℕ → Sending → List Part
parts_of kind.Opn request bytes s = opn_part request bytes s ∷ []
parts_of kind.Hel request bytes s = []
parts_of kind.Ack request bytes s = []
parts_of kind.Err request bytes s = []
parts_of kind.Msg request bytes s = message_parts kind.Msg request bytes s
parts_of kind.Clo request bytes s = message_parts kind.Clo request bytes s

-- ---- a message put

abbrev pub part_bytes : Part → List ℕ
part_bytes p = chunk_bytes p.kind p.chunk p.body

abbrev pub parts_bytes : List Part → List ℕ
parts_bytes parts = flat_map part_bytes parts

-- each chunk takes a number
abbrev pub after_parts : List Part → Sending → Sending
after_parts [] s = s
after_parts (p ∷ parts) s = after_parts parts (stepped s)

abbrev pub put_bytes : Kind → ℕ → List ℕ → Sending → List ℕ
put_bytes k request bytes s = parts_bytes (parts_of k request bytes s)

abbrev pub after_put : Kind → ℕ → List ℕ → Sending → Sending
after_put k request bytes s = after_parts (parts_of k request bytes s) s

-- what a call answers of a sender that was `old`, with the list of bytes before and after it
abbrev pub Puts : {A : Type 0} → Result A PutFault → Kind → ℕ → List ℕ → Sending → Sending → List ℕ → List ℕ → Type 0
Puts (Ok u) k request bytes old new before after =
    (length bytes ≤ limit_of old) × (new ≡ after_put k request bytes old)
    × (after ≡ before ++ put_bytes k request bytes old)
Puts (Err (faults.TooLarge size limit)) k request bytes old new before after =
    (size ≡ length bytes) × (limit ≡ limit_of old) × (limit < size) × (new ≡ old) × (after ≡ before)
Puts (Err faults.OutOfMemory) k request bytes old new before after = (new ≡ old) × (after ≡ before)

-- which kinds are put, and how much of each
abbrev pub MayPut : Kind → ℕ → Type 0
MayPut kind.Msg count = Unit {0}
MayPut kind.Opn count = count ≤ 4096
MayPut kind.Clo count = count ≤ 4096
MayPut kind.Hel count = ⊥
MayPut kind.Ack count = ⊥
MayPut kind.Err count = ⊥
