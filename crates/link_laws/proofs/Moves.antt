-- What the rules of a link come to: moves, one after another.
use Rattle.link_rules.specs.declared.phase.Setting.{Setting}
use Rattle.std.proofs.Common.{◌≡◌, ℕ, List, [], ◌∷◌, Bool, true, false, Option, Some, None, Result, Ok, Err, ◌⊎◌}
use Rattle.std.specs.Prelude.{pos}
use Rattle.ua_base.specs.declared.modes.Mode.{Mode}
use Rattle.ua_structures.specs.declared.body.BodyFault.{BodyFault}
use Rattle.ua_structures.specs.Body.{body_at}
use Rattle.ua_channel.specs.declared.heard.Heard.{Heard}
use Rattle.ua_channel.specs.declared.heard.Heard.TheVariants as heard_of
use Rattle.ua_session_msgs.specs.declared.reply.SessionReply.TheVariants as session_reply
use Rattle.ua_sub_msgs.specs.declared.notification.NotificationMessage.{NotificationMessage}
use Rattle.ua_sub_msgs.specs.declared.notification.MonitoredItemNotification.{MonitoredItemNotification}
use Rattle.ua_sub_msgs.specs.declared.reply.SubReply.TheVariants as sub_reply
use Rattle.ua_services.specs.declared.reply.Reply.{Reply}
use Rattle.ua_services.specs.declared.reply.Reply.TheVariants as reply
use Rattle.ua_services.specs.declared.request.Request.{Request}
use Rattle.ua_services.specs.Families.{replies}
use Rattle.link_rules.specs.declared.content.Content.TheVariants as content
use Rattle.link_rules.specs.declared.conversation.Asked.{Asked}
use Rattle.link_rules.specs.declared.notice.Notice.{Notice}
use Rattle.link_rules.specs.declared.notice.Notice.TheVariants as notice
use Rattle.link_rules.specs.declared.phase.Phase.{Phase}
use Rattle.link_rules.specs.declared.phase.Phase.TheVariants as phase
use Rattle.link_rules.specs.declared.phase.Publishes.{Publishes}
use Rattle.link_rules.specs.declared.phase.ReadyState.{ReadyState}
use Rattle.link_rules.specs.declared.remembered.Monitored.{Monitored}
use Rattle.link_rules.specs.declared.remembered.Remembered.{Remembered}
use Rattle.link_rules.specs.State.{LinkState, forgotten, is_ready, with_phase, with_ready}
use Rattle.link_rules.specs.Said.{LinkDid, Said, Told, Asks, Greeted, Limited, Opens, Renewed, and_then, nothing, says, tells}
use Rattle.link_rules.specs.Asking.{next_request, numbered}
use Rattle.link_rules.specs.Requests.{activation_request, channel_request, hello, items_request, level_request, mode_request, probe_request, publish_request, republish_request, session_request_of, subscription_request, transfer_request}
use Rattle.link_rules.specs.Messages.{content_of, data_taken, kept_alive}
use Rattle.link_rules.specs.Publishing.{has_room, new_ready, with_publish, with_setting, mode_due}
use Rattle.link_rules.specs.Ready.{answered, no_reading}
use Rattle.link_rules.specs.Subscribing.{made, streams}
use Rattle.link_rules.specs.Starting.{has_read}
use Rattle.link_rules.specs.Opening.{connected, may_dial}
use Rattle.link_rules.specs.Time.{aged, with_reading, with_renewal}
use Rattle.link_laws.specs.Course.{IsSomething}
use Rattle.link_rules.specs.Step.{Happening, Dials, Hears, Ticks, Wants}

-- ---- what is looked at

-- of a phase: in Ready the mode that is wanted, the Publishes that aren't answered, the mode that was asked for and isn't
-- answered, and the one that is confirmed
pub data Face : Type 0 where
  Rests : Face
  Calls : Face
  Begins : Face
  Probes : Face
  Adds : Face
  Sends : Option Mode → Publishes → Option Mode → Option Mode → Face

abbrev pub mode_of : Option Setting → Option Mode
mode_of None = None
mode_of (Some setting) = Some setting.mode

abbrev pub face_of : Phase → Face
face_of phase.Idle = Rests
face_of (phase.Dialing taken) = Calls
face_of phase.Hello = Begins
face_of phase.Opening = Begins
face_of phase.Creating = Begins
face_of phase.Activating = Begins
face_of phase.Probing = Probes
face_of phase.Transferring = Begins
face_of (phase.Republishing wanted) = Begins
face_of phase.Subscribing = Begins
face_of phase.Adding = Adds
face_of (phase.Ready ready) = Sends ready.wanted ready.publishes (mode_of ready.setting) ready.confirmed

abbrev pub sends : Face → Bool
sends (Sends wanted publishes setting confirmed) = true
sends other = false

-- the connection is there, and the link isn't ready
abbrev pub begins : Face → Bool
begins Begins = true
begins Probes = true
begins Adds = true
begins other = false

-- the connection is there
abbrev pub stands : Face → Bool
stands Rests = false
stands Calls = false
stands other = true

abbrev pub is_begun_phase : Phase → Bool
is_begun_phase p = begins (face_of p)

abbrev pub is_begun : LinkState → Bool
is_begun l = is_begun_phase l.phase

-- ---- what an event allows: what it brings, each of which is used once

pub record Leave : Type 0 where
  -- the id of a new subscription
  pub made : Option ℕ
  pub born : Option ℕ
  -- a message of a subscription
  pub brought : Option NotificationMessage
  -- a level
  pub level : Bool
  -- an answer to a Publish
  pub answer : Bool
  -- milliseconds
  pub time : Option ℕ
  pub dial : Bool
  pub wish : Option Mode

abbrev pub none : Leave
none = record { made = None; born = None; brought = None; level = false; answer = false; time = None; dial = false; wish = None }

abbrev pub leave_in : Option Reply → Leave
leave_in (Some (reply.Session (session_reply.ServiceFault h))) = record none { answer = true }
leave_in (Some (reply.Session (session_reply.Read r))) = record none { level = true }
leave_in (Some (reply.Subscription (sub_reply.CreateSubscription r))) = record none { made = Some r.subscription_id; born = Some r.subscription_id }
leave_in (Some (reply.Subscription (sub_reply.Publish r))) = record none { brought = Some r.notification_message; answer = true }
leave_in (Some (reply.Subscription (sub_reply.Republish r))) = record none { brought = Some r.notification_message }
leave_in other = none

abbrev pub leave_read : Result Reply BodyFault → Leave
leave_read (Ok r) = leave_in (Some r)
leave_read (Err fault) = none

abbrev pub leave_heard : Heard → Leave
leave_heard (heard_of.Message number body) = leave_read (body_at replies body)
leave_heard other = none

abbrev pub leave_of : Happening → Leave
leave_of (Hears h) = leave_heard h
leave_of (Ticks ms) = record none { time = Some ms }
leave_of (Wants mode) = record none { wish = Some mode }
leave_of Dials = record none { dial = true }
leave_of other = none

-- ---- requests

pub data Asking : Type 0 where
  Channel : Asking
  Session : Asking
  Activation : Asking
  Probe : Asking
  Transfer : ℕ → Asking
  Again : ℕ → ℕ → List ℕ → Asking
  Subscription : Asking
  Items : ℕ → Asking
  Publish : ReadyState → Remembered → Asking
  Modes : Mode → ReadyState → ℕ → Asking
  Level : Asking
  Renewal : Asking

abbrev pub begun : Asking → LinkState → LinkState
begun Channel l = with_phase phase.Opening l
begun Session l = with_phase phase.Creating l
begun Activation l = with_phase phase.Activating l
begun Probe l = with_phase phase.Probing (has_read l)
begun (Transfer id) l = with_phase phase.Transferring l
begun (Again id number wanted) l = with_phase (phase.Republishing wanted) l
begun Subscription l = with_phase phase.Subscribing (forgotten l)
begun (Items id) l = with_phase phase.Adding l
begun (Publish ready remembered) l = with_publish ready l
begun (Modes mode ready id) l = with_setting mode ready l
begun Level l = with_reading l
begun Renewal l = with_renewal l

abbrev pub request_of : Asking → LinkState → Request
request_of Channel l = channel_request (pos 0) l
request_of Session l = session_request_of l
request_of Activation l = activation_request l
request_of Probe l = probe_request l
request_of (Transfer id) l = transfer_request id l
request_of (Again id number wanted) l = republish_request id number l
request_of Subscription l = subscription_request l
request_of (Items id) l = items_request id l
request_of (Publish ready remembered) l = publish_request remembered.id l
request_of (Modes mode ready id) l = mode_request id mode l
request_of Level l = level_request l
request_of Renewal l = channel_request (pos 1) l

abbrev pub told_by : Asking → ℕ → Request → Told
told_by Channel number r = Opens number r
told_by Renewal number r = Opens number r
told_by other number r = Asks number r

abbrev pub told_of : Asking → LinkState → Told
told_of a l = told_by a (next_request (begun a l)) (request_of a l)

-- ---- moves

pub data Move : Type 0 where
  -- nothing that is looked at changes
  Turns : LinkDid → Move
  -- the link falls
  Falls : LinkDid → Move
  Ages : ℕ → Move
  Wishes : Move
  Greets : Option (List ℕ) → Move
  Puts : Asking → Move
  Enters : Option Mode → Move
  -- its items were made
  Completes : Option Mode → List Monitored → Move
  -- the subscription is gone, and another one will be asked for
  Loses : Move
  Makes : ℕ → Move
  Keeps : ℕ → Remembered → Move
  Brings : ℕ → List MonitoredItemNotification → Remembered → Move
  Levels : ℕ → Move
  -- the level that is read first; the link doesn't probe any more
  Probed : ℕ → Move
  Answers : ReadyState → Publishes → ℕ → Move
  Seeks : Mode → ReadyState → Move
  -- a mode is asked for, and one is confirmed
  Sets : Mode → ReadyState → ℕ → Move
  Confirms : Setting → ReadyState → Move

abbrev pub done : Move → LinkState → LinkDid
done (Turns did) l = did
done (Falls did) l = did
done (Ages ms) l = nothing (aged ms l)
done Wishes l = nothing (with_phase (phase.Dialing false) l)
done (Greets url) l = says (Greeted hello url) (connected url l)
done (Puts a) l = numbered (told_of a l) (begun a l)
done (Enters confirmed) l = tells (notice.Ready ∷ []) (with_phase (phase.Ready (new_ready confirmed)) l)
done (Completes confirmed items) l =
    tells (notice.Ready ∷ []) (with_phase (phase.Ready (new_ready confirmed)) (record l { monitored = items }))
done Loses l = tells (notice.Lost ∷ []) (with_phase phase.Subscribing (forgotten l))
done (Makes id) l = tells (streams l.config.items) (made id l)
done (Keeps number remembered) l = kept_alive number remembered l
done (Brings number values remembered) l = data_taken number values remembered l
done (Levels level) l = tells (notice.Level level ∷ []) (no_reading l)
done (Probed level) l = tells (notice.Level level ∷ []) (record l { phase = phase.Activating })
done (Answers ready left since) l =
    nothing (record (with_ready (record ready { publishes = left }) l) { since = since })
done (Seeks mode ready) l = nothing (with_ready (record ready { wanted = Some mode }) l)
done (Sets mode ready id) l =
    record (numbered (told_of (Modes mode ready id) l) (begun (Modes mode ready id) l)) { notices = notice.Sent mode ∷ [] }
done (Confirms setting ready) l = tells (notice.Confirmed setting.mode ∷ [])
    (with_ready (record ready { setting = None; confirmed = Some setting.mode }) l)

abbrev pub done_all : List Move → LinkState → LinkDid
done_all [] l = nothing l
done_all (move ∷ moves) l = and_then (done_all moves) (done move l)

-- ---- what each move may be

-- what is looked at is the same
pub record IsSame (l next : LinkState) : Type 0 where
  pub face : face_of next.phase ≡ face_of l.phase
  pub config : next.config ≡ l.config
  pub wait : next.wait ≡ l.wait
  pub remembered : next.remembered ≡ l.remembered
  pub acks : next.acks ≡ l.acks
  pub monitored : next.monitored ≡ l.monitored
  pub last : next.conversation.last ≡ l.conversation.last
  pub reading : next.conversation.reading ≡ l.conversation.reading

-- no message is put
abbrev pub IsSilent : Told → Type 0
IsSilent (Greeted greeting url) = ⊥
IsSilent (Opens number r) = ⊥
IsSilent (Asks number r) = ⊥
IsSilent (Limited limits) = Unit {0}
IsSilent (Renewed channel token) = Unit {0}

abbrev pub AreSilent : List Said → Type 0
AreSilent [] = Unit {0}
AreSilent (said ∷ more) = IsSilent said.told × AreSilent more

abbrev pub IsPlain : Notice → Type 0
IsPlain notice.Ready = ⊥
IsPlain notice.Lost = ⊥
IsPlain notice.Unsupported = Unit {0}
IsPlain (notice.Level level) = ⊥
IsPlain (notice.Stream item) = ⊥
IsPlain notice.Jump = ⊥
IsPlain (notice.Taken item value) = ⊥
IsPlain (notice.Sent mode) = ⊥
IsPlain (notice.Confirmed mode) = ⊥

abbrev pub ArePlain : List Notice → Type 0
ArePlain [] = Unit {0}
ArePlain (n ∷ more) = IsPlain n × ArePlain more

pub record IsTurned (l : LinkState) (did : LinkDid) : Type 0 where
  pub same : IsSame l did.link
  pub silent : AreSilent did.said
  pub plain : ArePlain did.notices

-- the subscription is remembered, with what is to be acknowledged or without, or forgotten
abbrev pub IsLeft : LinkState → LinkState → Type 0
IsLeft l next =
    ((next.remembered ≡ l.remembered) × (next.acks ≡ l.acks) × (next.monitored ≡ l.monitored))
    ⊎ (((next.remembered ≡ l.remembered) × (next.acks ≡ []) × (next.monitored ≡ l.monitored))
    ⊎ ((next.remembered ≡ None) × (next.acks ≡ []) × (next.monitored ≡ [])))

abbrev pub lost_if : Bool → List Notice
lost_if true = notice.Lost ∷ []
lost_if false = []

pub record IsFallen (l : LinkState) (did : LinkDid) : Type 0 where
  pub said : did.said ≡ []
  pub told : did.notices ≡ lost_if (is_ready l)
  pub rests : did.link.phase ≡ phase.Idle
  pub waits : did.link.wait ≡ 1000
  pub config : did.link.config ≡ l.config
  pub left : IsLeft l did.link

abbrev pub MayAsk : Leave → Asking → LinkState → Type 0
MayAsk leave (Items id) l = (is_begun l ≡ true) × (leave.made ≡ Some id) × (l.monitored ≡ [])
MayAsk leave (Publish ready remembered) l =
    (l.phase ≡ phase.Ready ready) × (l.remembered ≡ Some remembered) × (has_room ready.publishes ≡ true)
MayAsk leave (Modes mode ready id) l =
    (l.phase ≡ phase.Ready ready) × (ready.wanted ≡ Some mode) × (mode_due ready ≡ Some mode)
MayAsk leave Level l = is_ready l ≡ true
MayAsk leave Renewal l = is_ready l ≡ true
MayAsk leave Channel l = is_begun l ≡ true
MayAsk leave Session l = is_begun l ≡ true
MayAsk leave Activation l = is_begun l ≡ true
MayAsk leave Probe l = is_begun l ≡ true
MayAsk leave (Transfer id) l = is_begun l ≡ true
MayAsk leave (Again id number wanted) l = is_begun l ≡ true
MayAsk leave Subscription l = is_begun l ≡ true

-- a mode is asked for by a move of its own
abbrev pub IsOther : Asking → Type 0
IsOther (Modes mode ready id) = ⊥
IsOther other = Unit {0}

-- the message is the one that was brought
pub record IsBrought (leave : Leave) (number : ℕ) (remembered : Remembered) (l : LinkState) (message : NotificationMessage) : Type 0 where
  pub remembers : l.remembered ≡ Some remembered
  pub brings : leave.brought ≡ Some message
  pub numbers : message.sequence_number ≡ number

abbrev pub IsFair : Leave → Move → LinkState → Type 0
IsFair leave (Turns did) l = IsTurned l did
IsFair leave (Falls did) l = IsFallen l did
IsFair leave (Ages ms) l = leave.time ≡ Some ms
IsFair leave Wishes l = (may_dial l ≡ true) × (leave.dial ≡ true)
IsFair leave (Greets url) l = face_of l.phase ≡ Calls
IsFair leave (Puts a) l = MayAsk leave a l × IsOther a
IsFair leave (Enters confirmed) l = is_begun l ≡ true
IsFair leave (Completes confirmed items) l = (face_of l.phase ≡ Adds) × IsSomething items
IsFair leave Loses l = is_ready l ≡ true
IsFair leave (Makes id) l = (leave.born ≡ Some id) × (is_begun l ≡ true) × (leave.brought ≡ None)
IsFair leave (Keeps number remembered) l =
    (message : NotificationMessage) × IsBrought leave number remembered l message × (content_of message.notification_data ≡ content.Alive)
IsFair leave (Brings number values remembered) l =
    (message : NotificationMessage) × IsBrought leave number remembered l message
    × (content_of message.notification_data ≡ content.Values values)
IsFair leave (Levels level) l =
    (leave.level ≡ true) × (is_ready l ≡ true) × ((a : Asked) × (l.conversation.reading ≡ Some a))
IsFair leave (Probed level) l = (leave.level ≡ true) × (face_of l.phase ≡ Probes)
IsFair leave (Answers ready left since) l =
    (l.phase ≡ phase.Ready ready) × (leave.answer ≡ true) × ((handle : ℕ) × (answered handle ready.publishes ≡ Some left))
IsFair leave (Seeks mode ready) l = (l.phase ≡ phase.Ready ready) × (leave.wish ≡ Some mode)
IsFair leave (Sets mode ready id) l = MayAsk leave (Modes mode ready id) l
IsFair leave (Confirms setting ready) l = (l.phase ≡ phase.Ready ready) × (ready.setting ≡ Some setting)

-- what is left of it
abbrev pub left_asked : Asking → Leave → Leave
left_asked (Items id) leave = record leave { made = None }
left_asked other leave = leave

abbrev pub left : Move → Leave → Leave
left (Turns did) leave = leave
left (Falls did) leave = leave
left (Ages ms) leave = record leave { time = None }
left Wishes leave = record leave { dial = false }
left (Greets url) leave = leave
left (Puts a) leave = left_asked a leave
left (Enters confirmed) leave = leave
left (Completes confirmed items) leave = leave
left Loses leave = leave
left (Makes id) leave = record leave { born = None }
left (Keeps number remembered) leave = record leave { brought = None }
left (Brings number values remembered) leave = record leave { brought = None }
left (Levels level) leave = record leave { level = false }
left (Probed level) leave = record leave { level = false }
left (Answers ready publishes since) leave = record leave { answer = false }
left (Seeks mode ready) leave = record leave { wish = None }
left (Sets mode ready id) leave = leave
left (Confirms setting ready) leave = leave

abbrev pub AreFair : Leave → List Move → LinkState → Type 0
AreFair leave [] l = Unit {0}
AreFair leave (move ∷ moves) l = IsFair leave move l × AreFair (left move leave) moves (done move l).link

-- a rule comes to moves that it may do
pub record Comes (leave : Leave) (l : LinkState) (did : LinkDid) : Type 0 where
  pub moves : List Move
  pub fair : AreFair leave moves l
  pub is : did ≡ done_all moves l
