-- Messages that one end puts and the other end assembles.
use Rattle.std.specs.Prelude.{◌≡◌, ◌≤◌, ◌<◌, ℕ, ◌+◌, ◌^◌, List, [], ◌∷◌, ◌++◌, length, true, None, Some, ◌⊎◌}
use Rattle.ua_chunks.specs.declared.frame.Kind.{Kind}
use Rattle.ua_chunks.specs.declared.frame.Kind.TheVariants as kind
use Rattle.ua_chunks.specs.declared.frame.Frame.{Frame}
use Rattle.ua_chunks.specs.declared.message.Message.{Message}
use Rattle.ua_chunks.specs.declared.opening.OpnChunk.{OpnChunk}
use Rattle.ua_chunks.specs.Frames.{fault_of, moved}
use Rattle.ua_chunks.specs.Framing.{Framing, after_feed, frames_of}
use Rattle.ua_chunks.specs.Assembly.{Assembly, assembled, messages_of, takes_number, takes_token}
use Rattle.ua_chunks.specs.Sending.{MayPut, Part, Sending, after_put, limit_of, none_policy, parts_of, put_bytes}

-- parts as frames, from a place of the stream on
abbrev pub placed : ℕ → List Part → List Frame
placed place [] = []
placed place (p ∷ parts) =
    record { place = place; kind = p.kind; chunk = p.chunk; body = p.body }
    ∷ placed (moved place (8 + length p.body)) parts

-- ---- a list of messages put

-- a MSG or a CLO of a request
pub record Put : Type 0 where
  pub kind : Kind
  pub request : ℕ
  pub body : List ℕ

abbrev pub message_put : Put → Message
message_put m = record { request = m.request; body = m.body }

abbrev pub all_put : List Put → Sending → List ℕ
all_put [] s = []
all_put (m ∷ messages) s = put_bytes m.kind m.request m.body s ++ all_put messages (after_put m.kind m.request m.body s)

abbrev pub after_all : List Put → Sending → Sending
after_all [] s = s
after_all (m ∷ messages) s = after_all messages (after_put m.kind m.request m.body s)

-- the frames that they stand in, from a place of the stream on
abbrev pub frames_put : ℕ → List Put → Sending → List Frame
frames_put place [] s = []
frames_put place (m ∷ messages) s =
    placed place (parts_of m.kind m.request m.body s)
    ++ frames_put (moved place (length (put_bytes m.kind m.request m.body s))) messages
    (after_put m.kind m.request m.body s)

-- a message that is taken, and not refused as too large
pub record IsPut (m : Put) (s : Sending) : Type 0 where
  pub kind : (m.kind ≡ kind.Msg) ⊎ (m.kind ≡ kind.Clo)
  pub short : MayPut m.kind (length m.body)
  pub request : m.request < 2 ^ 32
  pub fits : length m.body ≤ limit_of s

abbrev pub ArePut : List Put → Sending → Type 0
ArePut [] s = Unit {0}
ArePut (m ∷ messages) s = IsPut m s × ArePut messages (after_put m.kind m.request m.body s)

-- ---- the two ends

-- the assembler takes the sender's channel, token and next number, no message was begun, and there was no fault
pub record InStep (s : Sending) (a : Assembly) : Type 0 where
  pub channel : a.channel ≡ s.channel
  pub token : takes_token s.token a ≡ true
  pub number : takes_number s.next a.last ≡ true
  pub chunks : a.chunks ≡ 0
  pub body : a.body ≡ []
  pub fault : a.fault ≡ None

-- a front of the bytes put has no fault, and gives a front of the frames and of the messages
pub record BeginsWith (front : List ℕ) (frames : List Frame) (messages : List Message) (f : Framing) (a : Assembly) :
    Type 0 where
  pub framing : fault_of (after_feed front f).held ≡ None
  pub later_frames : List Frame
  pub frames_are : frames ≡ frames_of front f ++ later_frames
  pub assembly : (assembled (frames_of front f) a).fault ≡ None
  pub later_messages : List Message
  pub messages_are : messages ≡ messages_of (frames_of front f) a ++ later_messages

-- what is read of an OPN put
abbrev pub opn_put : ℕ → List ℕ → Sending → OpnChunk
opn_put request body s = record {
  channel = s.channel;
  policy = Some none_policy;
  number = s.next;
  request = request;
  body = body;
}
