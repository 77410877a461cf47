-- What an end hears of a frame (OPC 10000-6, 6.7 and 7.1).
use Rattle.std.specs.Prelude.{◌≡◌, ℕ, Bool, true, false, List, ◌++◌, Option, Some, None, Result, Ok, Err, if◌then◌else◌}
use Rattle.std.specs.Str.{bytes_eq}
use Rattle.ua_base.specs.Status.{bad_decoding_error, bad_security_policy_rejected, bad_tcp_message_type_invalid}
use Rattle.ua_values.specs.Reading.{Fault, input}
use Rattle.ua_chunks.specs.declared.frame.Kind.{Kind}
use Rattle.ua_chunks.specs.declared.frame.Kind.TheVariants as kind
use Rattle.ua_chunks.specs.declared.frame.Frame.{Frame}
use Rattle.ua_chunks.specs.declared.frame.FrameFault.{FrameFault}
use Rattle.ua_chunks.specs.declared.frame.FrameFault.TheVariants as faults
use Rattle.ua_chunks.specs.declared.message.Message.{Message}
use Rattle.ua_chunks.specs.declared.message.MessageFault.{MessageFault}
use Rattle.ua_chunks.specs.declared.opening.OpnChunk.{OpnChunk}
use Rattle.ua_chunks.specs.Frames.{fault_of}
use Rattle.ua_chunks.specs.Framing.{GainsFront, after_feed, frames_of, new_framing}
use Rattle.ua_chunks.specs.Assembly.{Assembly, after_frame, fault_after, message_of, takes_number, with_number}
use Rattle.ua_chunks.specs.Bodies.{opn_head_at, opn_of, policy_at, value_of}
use Rattle.ua_chunks.specs.Sending.{none_policy}
use Rattle.ua_channel.specs.declared.ear.Ear.{Ear}
use Rattle.ua_channel.specs.declared.ear.Ear.TheVariants as ear
use Rattle.ua_channel.specs.declared.heard.Heard.{Heard}
use Rattle.ua_channel.specs.declared.heard.Heard.TheVariants as said
use Rattle.ua_channel.specs.declared.side.Side.{Side}
use Rattle.ua_channel.specs.declared.side.Side.TheVariants as sides
use Rattle.ua_channel.specs.State.{ChannelState, kept}

-- ---- which frames are taken

abbrev pub is_of : Kind → Kind → Bool
is_of kind.Hel kind.Hel = true
is_of kind.Ack kind.Ack = true
is_of kind.Opn kind.Opn = true
is_of j k = false

abbrev pub takes : Ear → Kind → Bool
takes ear.Hello k = is_of kind.Hel k
takes ear.Acknowledge k = is_of kind.Ack k
takes ear.Opening k = is_of kind.Opn k
takes ear.Open kind.Opn = true
takes ear.Open kind.Msg = true
takes ear.Open kind.Clo = true
takes ear.Open k = false
takes ear.Deaf k = false

-- ---- what is heard of one

-- what is said, if anything, and what is left of the assembler
pub record Hearing : Type 0 where
  pub heard : Option Heard
  pub assembly : Assembly

abbrev pub says : Heard → Assembly → Hearing
says h a = record { heard = Some h; assembly = a }

-- the message that a chunk ended, and of a CLO that it came
abbrev pub message_said : Kind → Option Message → Option Heard
message_said k None = None
message_said kind.Clo (Some m) = Some said.Close
message_said k (Some m) = Some (said.Message m.request m.body)

abbrev pub chunk_said : Option MessageFault → Kind → Frame → Assembly → Option Heard
chunk_said (Some fault) k f a = Some (said.Fault fault.code)
chunk_said None k f a = message_said k (message_of f a)

-- a MSG or a CLO, as the assembler judges it
abbrev pub chunk_heard : Kind → Frame → Assembly → Hearing
chunk_heard k f a = record { heard = chunk_said (fault_after f a) k f a; assembly = after_frame f a }

-- an OPN's number is taken where it follows, and whether it does is told: the one who hears has more to judge before
abbrev pub number_taken : Bool → ℕ → Assembly → Assembly
number_taken true number a = with_number number a
number_taken false number a = a

abbrev pub opened : Result OpnChunk Fault → Assembly → Hearing
opened (Err fault) a = says (said.Fault bad_decoding_error) a
opened (Ok c) a =
    says (said.Opening c.channel (takes_number c.number a.last) c.request c.body)
    (number_taken (takes_number c.number a.last) c.number a)

abbrev pub opening_read : List ℕ → Assembly → Hearing
opening_read body a = opened (opn_of (opn_head_at (input 0 body))) a

abbrev pub is_none_policy : Option (List ℕ) → Bool
is_none_policy None = false
is_none_policy (Some policy) = bytes_eq policy none_policy

-- the policy is judged before anything behind it is read
abbrev pub with_policy : Result (Option (List ℕ)) Fault → List ℕ → Assembly → Hearing
with_policy (Err fault) body a = says (said.Fault bad_decoding_error) a
with_policy (Ok policy) body a =
    if is_none_policy policy then opening_read body a
    else says (said.Fault bad_security_policy_rejected) a

-- a server judges the policy; a client doesn't, to which the ids in the body count alone
abbrev pub opening_heard : Side → List ℕ → Assembly → Hearing
opening_heard sides.Client body a = opening_read body a
opening_heard sides.Server body a = with_policy (value_of (policy_at (input 0 body))) body a

abbrev pub heard_of : Side → Kind → Frame → Assembly → Hearing
heard_of d kind.Hel f a = says (said.Greeting f.body) a
heard_of d kind.Ack f a = says (said.Greeting f.body) a
heard_of d kind.Err f a = says (said.Fault bad_tcp_message_type_invalid) a
heard_of d kind.Opn f a = opening_heard d f.body a
heard_of d kind.Msg f a = chunk_heard kind.Msg f a
heard_of d kind.Clo f a = chunk_heard kind.Clo f a

-- a frame of a kind that isn't taken is a fault
unfoldable pub hearing : Side → Ear → Frame → Assembly → Hearing
hearing d e f a =
    if takes e f.kind then heard_of d f.kind f a
    else says (said.Fault bad_tcp_message_type_invalid) a

-- ---- what a call answers

abbrev pub with_assembly : Assembly → ChannelState → ChannelState
with_assembly a c = record c { assembly = a }

abbrev pub fed_on : List ℕ → ChannelState → ChannelState
fed_on bytes c = record c { framing = kept (after_feed bytes c.framing) }

-- what `feed` answers of an end that was `old`, with the list of frames before and after it
abbrev pub FeedsOn : {A : Type 0} → Result A FrameFault → ChannelState → List ℕ → ChannelState
    → List Frame → List Frame → Type 0
FeedsOn (Ok u) old bytes new before after =
    (fault_of (after_feed bytes old.framing).held ≡ None) × (new ≡ fed_on bytes old)
    × (after ≡ before ++ frames_of bytes old.framing)
FeedsOn (Err (faults.Bad place code)) old bytes new before after =
    (fault_of (after_feed bytes old.framing).held ≡ Some code) × (place ≡ (after_feed bytes old.framing).place)
    × (new ≡ fed_on bytes old) × (after ≡ before ++ frames_of bytes old.framing)
FeedsOn (Err faults.OutOfMemory) old bytes new before after =
    (new ≡ record old { framing = new_framing }) × GainsFront (frames_of bytes old.framing) before after
