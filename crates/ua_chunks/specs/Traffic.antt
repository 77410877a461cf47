-- Everything that an end of a connection puts on its stream, with the renewals of its channel, and what the other end
-- hears of it (OPC 10000-6, 6.7 and 7.1).
use Rattle.std.specs.Prelude.{◌≡◌, ◌≤◌, ◌<◌, ℕ, ◌^◌, ◌==◌, List, [], ◌∷◌, ◌++◌, length, map, Option, Some, None, Result, Ok, Err, IfSome, if◌then◌else◌}
use Rattle.ua_base.specs.Status.{bad_decoding_error, bad_sequence_number_invalid}
use Rattle.ua_values.specs.Reading.{Fault, input}
use Rattle.ua_chunks.specs.declared.frame.Kind.{Kind}
use Rattle.ua_chunks.specs.declared.frame.Kind.TheVariants as kind
use Rattle.ua_chunks.specs.declared.frame.Frame.{Frame}
use Rattle.ua_chunks.specs.declared.greeting.Greeting.{Greeting}
use Rattle.ua_chunks.specs.declared.message.Message.{Message}
use Rattle.ua_chunks.specs.declared.message.MessageFault.{MessageFault}
use Rattle.ua_chunks.specs.declared.opening.OpnChunk.{OpnChunk}
use Rattle.ua_chunks.specs.Frames.{fault_of, moved}
use Rattle.ua_chunks.specs.Framing.{Framing, after_feed, frames_of}
use Rattle.ua_chunks.specs.Assembly.{Assembly, Tokens, after_frame, message_of, refusal, renewed, takes_number, used, with_number}
use Rattle.ua_chunks.specs.Bodies.{KeepsGreeting, KeepsHello, error_at, greeting_at, hello_at, opn_head_at, opn_of, value_of, whole_at, written_error, written_greeting, written_hello}
use Rattle.ua_chunks.specs.Sending.{Part, Sending, after_put, parts_bytes, parts_of, whole_part, with_limits}
use Rattle.ua_chunks.specs.Arrival.{IsPut, Put, message_put, opn_put, placed}

-- ---- what an end does

-- it sends a HEL, an ACK, an ERR, an OPN, a MSG or a CLO, or an OPN with a new channel and token, which both ends have
-- from then on; it learns the other end's limits; or a channel is renewed: by both ends at once, by the hearing end,
-- which awaits a token and takes the former one still, or by the sending end, which then has what is awaited
pub data Action : Type 0 where
  SendHello : Greeting → Option (List ℕ) → Action
  SendAck : Greeting → Action
  SendErr : ℕ → Action
  SendOpn : ℕ → List ℕ → Action
  SendMessage : Put → Action
  SendRenewing : ℕ → ℕ → ℕ → List ℕ → Action
  NewLimits : ℕ → ℕ → ℕ → Action
  RenewBoth : ℕ → ℕ → Action
  AwaitToken : ℕ → Action
  CatchUp : ℕ → ℕ → Action

-- the frames that are put, none where nothing is sent
abbrev pub action_parts : Action → Sending → List Part
action_parts (SendHello g url) s = whole_part kind.Hel (written_hello (g, url)) ∷ []
action_parts (SendAck g) s = whole_part kind.Ack (written_greeting g) ∷ []
action_parts (SendErr code) s = whole_part kind.Err (written_error code) ∷ []
action_parts (SendOpn request body) s = parts_of kind.Opn request body s
action_parts (SendMessage m) s = parts_of m.kind m.request m.body s
action_parts (SendRenewing channel token request body) s =
    parts_of kind.Opn request body (record s { channel = channel; token = token })
action_parts (NewLimits size max_message max_chunks) s = []
action_parts (RenewBoth channel token) s = []
action_parts (AwaitToken token) s = []
action_parts (CatchUp channel token) s = []

abbrev pub after_action : Action → Sending → Sending
after_action (SendHello g url) s = s
after_action (SendAck g) s = s
after_action (SendErr code) s = s
after_action (SendOpn request body) s = after_put kind.Opn request body s
after_action (SendMessage m) s = after_put m.kind m.request m.body s
after_action (SendRenewing channel token request body) s =
    after_put kind.Opn request body (record s { channel = channel; token = token })
after_action (NewLimits size max_message max_chunks) s = with_limits size max_message max_chunks s
after_action (RenewBoth channel token) s = record s { channel = channel; token = token }
after_action (AwaitToken token) s = s
after_action (CatchUp channel token) s = record s { channel = channel; token = token }

abbrev pub actions_bytes : List Action → Sending → List ℕ
actions_bytes [] s = []
actions_bytes (x ∷ actions) s = parts_bytes (action_parts x s) ++ actions_bytes actions (after_action x s)

abbrev pub after_actions : List Action → Sending → Sending
after_actions [] s = s
after_actions (x ∷ actions) s = after_actions actions (after_action x s)

-- ---- which tokens are taken meanwhile, and what may be done

abbrev pub renewed_tokens : ℕ → ℕ → Tokens → Tokens
renewed_tokens channel token t =
    record { channel = channel; token = token; former = if channel == t.channel then Some t.token else None }

abbrev pub tokens_after : Action → Sending → Tokens → Tokens
tokens_after (SendHello g url) s t = t
tokens_after (SendAck g) s t = t
tokens_after (SendErr code) s t = t
tokens_after (SendOpn request body) s t = t
tokens_after (SendMessage m) s t = used s.token t
tokens_after (SendRenewing channel token request body) s t = renewed_tokens channel token t
tokens_after (NewLimits size max_message max_chunks) s t = t
tokens_after (RenewBoth channel token) s t = renewed_tokens channel token t
tokens_after (AwaitToken token) s t = renewed_tokens s.channel token t
tokens_after (CatchUp channel token) s t = t

abbrev pub IsAllowed : Action → Sending → Tokens → Type 0
IsAllowed (SendHello g url) s t = KeepsHello (g, url) × IfSome url (λ run. length run ≤ 4091)
IsAllowed (SendAck g) s t = KeepsGreeting g
IsAllowed (SendErr code) s t = code < 2 ^ 32
IsAllowed (SendOpn request body) s t = (request < 2 ^ 32) × (length body ≤ 4096)
IsAllowed (SendMessage m) s t = IsPut m s
IsAllowed (SendRenewing channel token request body) s t =
    (channel < 2 ^ 32) × (token < 2 ^ 32) × (request < 2 ^ 32) × (length body ≤ 4096)
IsAllowed (NewLimits size max_message max_chunks) s t = 8192 ≤ size
IsAllowed (RenewBoth channel token) s t = (channel < 2 ^ 32) × (token < 2 ^ 32)
IsAllowed (AwaitToken token) s t = s.token ≡ t.token
IsAllowed (CatchUp channel token) s t =
    (channel < 2 ^ 32) × (token < 2 ^ 32) × (channel ≡ t.channel) × (token ≡ t.token)

abbrev pub AreAllowed : List Action → Sending → Tokens → Type 0
AreAllowed [] s t = Unit {0}
AreAllowed (x ∷ actions) s t = IsAllowed x s t × AreAllowed actions (after_action x s) (tokens_after x s t)

-- ---- what the other end meets

-- a frame, or a renewal of what it awaits
pub data Event : Type 0 where
  Comes : Frame → Event
  Renewal : ℕ → ℕ → Event

abbrev pub renewals_of : Action → Sending → List Event
renewals_of (SendHello g url) s = []
renewals_of (SendAck g) s = []
renewals_of (SendErr code) s = []
renewals_of (SendOpn request body) s = []
renewals_of (SendMessage m) s = []
renewals_of (SendRenewing channel token request body) s = Renewal channel token ∷ []
renewals_of (NewLimits size max_message max_chunks) s = []
renewals_of (RenewBoth channel token) s = Renewal channel token ∷ []
renewals_of (AwaitToken token) s = Renewal s.channel token ∷ []
renewals_of (CatchUp channel token) s = []

abbrev pub action_events : ℕ → Action → Sending → List Event
action_events place x s = map Comes (placed place (action_parts x s)) ++ renewals_of x s

-- from a place of the stream on
abbrev pub events_of : ℕ → List Action → Sending → List Event
events_of place [] s = []
events_of place (x ∷ actions) s =
    action_events place x s
    ++ events_of (moved place (length (parts_bytes (action_parts x s)))) actions (after_action x s)

abbrev pub frames_put_by : ℕ → List Action → Sending → List Frame
frames_put_by place [] s = []
frames_put_by place (x ∷ actions) s =
    placed place (action_parts x s)
    ++ frames_put_by (moved place (length (parts_bytes (action_parts x s)))) actions (after_action x s)

-- the frames among the events
abbrev pub frames_in : List Event → List Frame
frames_in [] = []
frames_in (Comes f ∷ events) = f ∷ frames_in events
frames_in (Renewal channel token ∷ events) = frames_in events

-- ---- what it hears

pub data Heard : Type 0 where
  HeardHello : Greeting × Option (List ℕ) → Heard
  HeardAck : Greeting → Heard
  HeardErr : ℕ → Heard
  HeardOpn : OpnChunk → Heard
  HeardMessage : Kind → Message → Heard
  HeardFault : MessageFault → Heard

-- what a frame says, and what it leaves of the assembler; or the code of the rule that it breaks
abbrev pub Said : Type 0
Said = Result (List Heard × Assembly) ℕ

abbrev pub said : {A : Type 0} → (A → Heard) → Result A Fault → Assembly → Said
said hear (Ok x) a = Ok (hear x ∷ [], a)
said hear (Err fault) a = Err bad_decoding_error

-- an OPN's number must follow
abbrev pub said_opn : Result OpnChunk Fault → Assembly → Said
said_opn (Ok c) a =
    if takes_number c.number a.last then Ok (HeardOpn c ∷ [], with_number c.number a)
    else Err bad_sequence_number_invalid
said_opn (Err fault) a = Err bad_decoding_error

abbrev pub message_heard : Kind → Option Message → List Heard
message_heard k None = []
message_heard k (Some m) = HeardMessage k m ∷ []

abbrev pub said_chunk : Option ℕ → Frame → Assembly → Said
said_chunk None f a = Ok (message_heard f.kind (message_of f a), after_frame f a)
said_chunk (Some code) f a = Err code

abbrev pub said_by : Kind → Frame → Assembly → Said
said_by kind.Hel f a = said HeardHello (value_of (whole_at hello_at (input 0 f.body))) a
said_by kind.Ack f a = said HeardAck (value_of (whole_at greeting_at (input 0 f.body))) a
said_by kind.Err f a = said HeardErr (value_of (whole_at error_at (input 0 f.body))) a
said_by kind.Opn f a = said_opn (opn_of (opn_head_at (input 0 f.body))) a
said_by kind.Msg f a = said_chunk (refusal f.body a) f a
said_by kind.Clo f a = said_chunk (refusal f.body a) f a

abbrev pub fault_at : ℕ → ℕ → MessageFault
fault_at place code = record { place = place; code = code }

-- the first fault is heard, and after it nothing
abbrev pub heard_by : Option MessageFault → Said → ℕ → Assembly → List Heard × Assembly
heard_by (Some fault) says place a = ([], a)
heard_by None (Ok x) place a = x
heard_by None (Err code) place a =
    (HeardFault (fault_at place code) ∷ [], record a { fault = Some (fault_at place code) })

unfoldable pub hears : Event → Assembly → List Heard × Assembly
hears (Comes f) a = heard_by a.fault (said_by f.kind f a) f.place a
hears (Renewal channel token) a = ([], renewed channel token a)

abbrev pub heard : List Event → Assembly → List Heard
heard [] a = []
heard (e ∷ events) a = (hears e a).0 ++ heard events (hears e a).1

abbrev pub hearing : List Event → Assembly → Assembly
hearing [] a = a
hearing (e ∷ events) a = hearing events (hears e a).1

-- ---- what is to be heard

abbrev pub heard_of : Action → Sending → List Heard
heard_of (SendHello g url) s = HeardHello (g, url) ∷ []
heard_of (SendAck g) s = HeardAck g ∷ []
heard_of (SendErr code) s = HeardErr code ∷ []
heard_of (SendOpn request body) s = HeardOpn (opn_put request body s) ∷ []
heard_of (SendMessage m) s = HeardMessage m.kind (message_put m) ∷ []
heard_of (SendRenewing channel token request body) s =
    HeardOpn (opn_put request body (record s { channel = channel; token = token })) ∷ []
heard_of (NewLimits size max_message max_chunks) s = []
heard_of (RenewBoth channel token) s = []
heard_of (AwaitToken token) s = []
heard_of (CatchUp channel token) s = []

abbrev pub all_heard : List Action → Sending → List Heard
all_heard [] s = []
all_heard (x ∷ actions) s = heard_of x s ++ all_heard actions (after_action x s)

abbrev pub all_tokens : List Action → Sending → Tokens → Tokens
all_tokens [] s t = t
all_tokens (x ∷ actions) s t = all_tokens actions (after_action x s) (tokens_after x s t)

-- a front of the bytes put has no fault, and gives a front of the frames
pub record FramesBegin (front : List ℕ) (frames : List Frame) (f : Framing) : Type 0 where
  pub framing : fault_of (after_feed front f).held ≡ None
  pub later : List Frame
  pub frames_are : frames ≡ frames_of front f ++ later

-- after a fault nothing is heard, and the fault stays
pub record IsDeaf (events : List Event) (fault : MessageFault) (a : Assembly) : Type 0 where
  pub heard_is : heard events a ≡ []
  pub fault_is : (hearing events a).fault ≡ Some fault
