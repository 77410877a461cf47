-- One end of a connection: what its parts hold, and the messages that pass its door (OPC 10000-6, 6.7 and 7.1).
use Rattle.std.specs.Prelude.{◌≡◌, ◌≤◌, ℕ, ◌+◌, Bool, true, false, List, [], length, Option, Some, None, if◌then◌else◌}
use Rattle.ua_chunks.specs.declared.frame.Kind.{Kind}
use Rattle.ua_chunks.specs.declared.frame.Kind.TheVariants as kind
use Rattle.ua_chunks.specs.Frames.{fault_of}
use Rattle.ua_chunks.specs.Framing.{Framing, new_framing, rest_of}
use Rattle.ua_chunks.specs.Assembly.{Assembly, new_assembly}
use Rattle.ua_chunks.specs.Sending.{Sending, new_sending}
use Rattle.ua_channel.specs.declared.ear.Ear.{Ear}
use Rattle.ua_channel.specs.declared.ear.Ear.TheVariants as ear
use Rattle.ua_channel.specs.declared.side.Side.{Side}
use Rattle.ua_channel.specs.declared.side.Side.TheVariants as sides

-- a whole message: all that its chunks say but their numbers. A HEL, an ACK and an ERR have no channel, token and
-- request; the body of an OPN, a MSG and a CLO is the spelling of a structure
pub record WireState : Type 0 where
  pub kind : Kind
  pub channel : ℕ
  pub token : ℕ
  pub request : ℕ
  pub body : List ℕ

-- how long a body may be: a frame has 65,536 bytes with its header of 8, and the body of an OPN or a CLO, which are
-- never cut, has 4096
abbrev pub MayCarry : Kind → ℕ → Type 0
MayCarry kind.Hel count = count ≤ 65528
MayCarry kind.Ack count = count ≤ 65528
MayCarry kind.Err count = count ≤ 65528
MayCarry kind.Opn count = count ≤ 4096
MayCarry kind.Msg count = Unit {0}
MayCarry kind.Clo count = count ≤ 4096

-- the sizes that the other end names: of a frame, and, 0 for any, of a message and of its number of chunks
pub record LimitState : Type 0 where
  pub size : ℕ
  pub max_message : ℕ
  pub max_chunks : ℕ

-- which side of the connection it is, the bytes that are in no whole frame, the message that isn't whole, what the next
-- message is put with, and the bytes put that weren't taken
pub record ChannelState : Type 0 where
  pub side : Side
  pub framing : Framing
  pub assembly : Assembly
  pub sending : Sending
  pub out : List ℕ

-- numbers begin at 1, channel and token are 0 until the first renewal, and the other end takes frames of 8192 bytes,
-- as each end must (OPC 10000-6, 7.1.2.3)
abbrev pub first_sending : Sending
first_sending = new_sending 0 0 8192 0 0

abbrev pub new_channel : Side → ChannelState
new_channel d = record {
  side = d;
  framing = new_framing;
  assembly = new_assembly 0 0;
  sending = first_sending;
  out = [];
}

-- what stands in the place of an end that was taken out
abbrev pub blank_end : ChannelState
blank_end = new_channel sides.Server

-- ---- deaf ends

abbrev pub is_deaf : Ear → Bool
is_deaf ear.Hello = false
is_deaf ear.Acknowledge = false
is_deaf ear.Opening = false
is_deaf ear.Open = false
is_deaf ear.Deaf = true

-- an end that is deaf keeps nothing of what came
abbrev pub shut : ChannelState → ChannelState
shut c = record c { framing = new_framing; assembly = new_assembly 0 0 }

-- the bytes of no whole frame and those of no whole message
abbrev pub held_in : Ear → ChannelState → ℕ
held_in e c = if is_deaf e then 0 else rest_of c.framing + length c.assembly.body

-- ---- bytes framed

-- behind a fault nothing is kept: what comes then begins a stream
abbrev pub kept_by : Option ℕ → Framing → Framing
kept_by None f = f
kept_by (Some code) f = new_framing

abbrev pub kept : Framing → Framing
kept f = kept_by (fault_of f.held) f

-- no fault is held between calls
abbrev pub IsSound : Framing → Type 0
IsSound f = fault_of f.held ≡ None
