-- What stands in the frames HEL, ACK, ERR and OPN (OPC 10000-6, 7.1.2.3 to 7.1.2.5, and 6.7.2.3), each field a part of
-- a spelling.
use Rattle.std.specs.Prelude.{◌≡◌, ◌≤◌, ◌<◌, ℕ, ◌^◌, List, [], ◌∷◌, ◌++◌, length, drop, take, Option, None, Result, Ok, Err, ◌⊎◌}
use Rattle.byteorder.specs.Endian.{little_bytes}
use Rattle.ua_base.specs.Status.{bad_decoding_error}
use Rattle.ua_values.specs.declared.fault.ValueFault.{ValueFault}
use Rattle.ua_values.specs.declared.fault.ValueFault.TheVariants as faults
use Rattle.ua_values.specs.Reading.{Input, Reader, Fault, Bad, Fails, ◌>>=◌, give, number_at}
use Rattle.ua_values.specs.Readers.{text_at}
use Rattle.ua_values.specs.Parts.{number, exactly, text, ◌followed_by◌, Begun}
use Rattle.ua_values.specs.Answer.{EndsEarly, IsFault}
use Rattle.ua_values.specs.Written.{written_text}
use Rattle.ua_values.specs.Laws.{KeepsText}
use Rattle.ua_chunks.specs.declared.greeting.Greeting.{Greeting}
use Rattle.ua_chunks.specs.declared.opening.OpnHead.{OpnHead}
use Rattle.ua_chunks.specs.declared.opening.OpnChunk.{OpnChunk}

-- ---- the fields

-- an ACK, and the front of a HEL
abbrev pub greeting : Greeting → List ℕ → Type 0
greeting g =
    number 4 g.version followed_by number 4 g.receive followed_by number 4 g.send
    followed_by number 4 g.max_message followed_by number 4 g.max_chunks

abbrev pub hello : Greeting × Option (List ℕ) → List ℕ → Type 0
hello h = greeting h.0 followed_by text h.1

-- an ERR's code; its reason is dropped
abbrev pub error : ℕ → List ℕ → Type 0
error code bytes = (reason : Option (List ℕ)) × (number 4 code followed_by text reason) bytes

-- an OPN as far as its policy
abbrev pub policy : Option (List ℕ) → List ℕ → Type 0
policy p bytes = (channel : ℕ) × (number 4 channel followed_by text p) bytes

-- what stands in front of an OPN's own body
abbrev pub opn_head : OpnHead → List ℕ → Type 0
opn_head h =
    number 4 h.channel followed_by text h.policy followed_by text h.certificate followed_by text h.thumbprint
    followed_by number 4 h.number followed_by number 4 h.request

abbrev pub with_certificates : Option (List ℕ) → Option (List ℕ) → OpnChunk → OpnHead
with_certificates certificate thumbprint c = record {
  channel = c.channel;
  policy = c.policy;
  certificate = certificate;
  thumbprint = thumbprint;
  number = c.number;
  request = c.request;
}

-- the certificates are dropped
abbrev pub opn : OpnChunk → List ℕ → Type 0
opn c bytes =
    (certificate thumbprint : Option (List ℕ))
    × (opn_head (with_certificates certificate thumbprint c) followed_by exactly c.body) bytes

-- ---- read field by field

abbrev pub greeting_at : Reader Greeting
greeting_at = do
  version ← number_at 4
  receive ← number_at 4
  send ← number_at 4
  max_message ← number_at 4
  max_chunks ← number_at 4
  give (record {
    version = version;
    receive = receive;
    send = send;
    max_message = max_message;
    max_chunks = max_chunks;
  })

abbrev pub hello_at : Reader (Greeting × Option (List ℕ))
hello_at = do
  g ← greeting_at
  url ← text_at
  give (g, url)

abbrev pub error_at : Reader ℕ
error_at = do
  code ← number_at 4
  reason ← text_at
  give code

abbrev pub policy_at : Reader (Option (List ℕ))
policy_at = do
  channel ← number_at 4
  p ← text_at
  give p

abbrev pub opn_head_at : Reader OpnHead
opn_head_at = do
  channel ← number_at 4
  p ← text_at
  certificate ← text_at
  thumbprint ← text_at
  number ← number_at 4
  request ← number_at 4
  give (record {
    channel = channel;
    policy = p;
    certificate = certificate;
    thumbprint = thumbprint;
    number = number;
    request = request;
  })

-- nothing may be left
abbrev pub ended : List ℕ → Reader (Unit {0})
ended [] from = Ok (tt, from)
ended (byte ∷ more) from = Err (Bad from.place bad_decoding_error)

abbrev pub end_at : Reader (Unit {0})
end_at from = ended from.rest from

-- what a look for more bytes answered
abbrev pub Ends : {X : Type 0} → Result X ValueFault → Input → Type 0
Ends (Ok u) from = end_at from ≡ Ok (tt, from)
Ends (Err e) from = Fails e (end_at from)

abbrev pub whole_at : {A : Type 0} → Reader A → Reader A
whole_at at = do
  a ← at
  _ ← end_at
  give a

-- the value alone
abbrev pub value_of : {A : Type 0} → Result (A × Input) Fault → Result A Fault
value_of (Ok x) = Ok x.0
value_of (Err f) = Err f

-- what is left of bytes that a reader began
pub record IsLeftOf (bytes : List ℕ) (from : Input) : Type 0 where
  pub within : from.place ≤ length bytes
  pub rest : from.rest ≡ drop from.place bytes

-- what is left is the body
abbrev pub opn_of : Result (OpnHead × Input) Fault → Result OpnChunk Fault
opn_of (Ok x) = Ok (record {
  channel = x.0.channel;
  policy = x.0.policy;
  number = x.0.number;
  request = x.0.request;
  body = x.1.rest;
})
opn_of (Err f) = Err f

-- ---- what a read answers, in the words of the fields alone

-- a value is spelled by the first bytes, and more follow
pub record IsLeftOver {A : Type 0} (spells : A → List ℕ → Type 0) (bytes : List ℕ) (place code : ℕ) : Type 0 where
  pub value : A
  pub spelled : spells value (take place bytes)
  pub within : place < length bytes
  pub code_is : code ≡ bad_decoding_error

-- the bytes are the value's spelling; or why they are none
abbrev pub IsWhole : {A : Type 0} → (A → List ℕ → Type 0) → List ℕ → Result A ValueFault → Type 0
IsWhole spells bytes (Ok a) = spells a bytes
IsWhole spells bytes (Err faults.Short) = EndsEarly spells (Begun spells) bytes
IsWhole spells bytes (Err (faults.Bad place code)) =
    IsFault spells (Begun spells) bytes place code ⊎ IsLeftOver spells bytes place code
IsWhole spells bytes (Err faults.OutOfMemory) = Unit {0}

pub record IsFront {A : Type 0} (spells : A → List ℕ → Type 0) (bytes : List ℕ) (a : A) : Type 0 where
  pub size : ℕ
  pub within : size ≤ length bytes
  pub spelled : spells a (take size bytes)

-- the first bytes are the value's spelling; or why none are
abbrev pub IsInFront : {A : Type 0} → (A → List ℕ → Type 0) → List ℕ → Result A ValueFault → Type 0
IsInFront spells bytes (Ok a) = IsFront spells bytes a
IsInFront spells bytes (Err faults.Short) = EndsEarly spells (Begun spells) bytes
IsInFront spells bytes (Err (faults.Bad place code)) = IsFault spells (Begun spells) bytes place code
IsInFront spells bytes (Err faults.OutOfMemory) = Unit {0}

-- the bytes are the chunk's spelling; or why no head begins them
abbrev pub IsOpn : List ℕ → Result OpnChunk ValueFault → Type 0
IsOpn bytes (Ok c) = opn c bytes
IsOpn bytes (Err faults.Short) = EndsEarly opn_head (Begun opn_head) bytes
IsOpn bytes (Err (faults.Bad place code)) = IsFault opn_head (Begun opn_head) bytes place code
IsOpn bytes (Err faults.OutOfMemory) = Unit {0}

-- ---- written

abbrev pub written_greeting : Greeting → List ℕ
written_greeting g =
    little_bytes 4 g.version ++ little_bytes 4 g.receive ++ little_bytes 4 g.send
    ++ little_bytes 4 g.max_message ++ little_bytes 4 g.max_chunks

abbrev pub written_hello : Greeting × Option (List ℕ) → List ℕ
written_hello h = written_greeting h.0 ++ written_text h.1

-- a reason is written null
abbrev pub written_error : ℕ → List ℕ
written_error code = little_bytes 4 code ++ written_text None

abbrev pub written_opn_head : OpnHead → List ℕ
written_opn_head h =
    little_bytes 4 h.channel ++ written_text h.policy ++ written_text h.certificate ++ written_text h.thumbprint
    ++ little_bytes 4 h.number ++ little_bytes 4 h.request

-- ---- which values keep the rules

abbrev pub KeepsGreeting : Greeting → Type 0
KeepsGreeting g =
    (g.version < 2 ^ 32) × (g.receive < 2 ^ 32) × (g.send < 2 ^ 32) × (g.max_message < 2 ^ 32) × (g.max_chunks < 2 ^ 32)

abbrev pub KeepsHello : Greeting × Option (List ℕ) → Type 0
KeepsHello h = KeepsGreeting h.0 × KeepsText h.1

abbrev pub KeepsOpnHead : OpnHead → Type 0
KeepsOpnHead h =
    (h.channel < 2 ^ 32) × KeepsText h.policy × KeepsText h.certificate × KeepsText h.thumbprint
    × (h.number < 2 ^ 32) × (h.request < 2 ^ 32)
