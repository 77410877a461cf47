-- What keeps the limits: what happens to a server, what it holds, and what it says. Numbers are those that their types
-- hold, and texts and lists are no longer than a reader takes.
use Rattle.std.specs.Prelude.{◌≡◌, ◌<◌, ◌≤◌, ◌^◌, ℕ, List, [], ◌∷◌, false, length, Result, Ok, Err, IfOk, FitsSigned}
use Rattle.std.specs.List.{AllByRecursion}
use Rattle.std.specs.Int.{w64}
use Rattle.set_model.specs.declared.source.Change.{Change}
use Rattle.item_queue.specs.declared.queue.Entry.{Entry}
use Rattle.retransmit.specs.declared.retransmission.Sent.{Sent}
use Rattle.ua_values.specs.declared.extension.ExtensionObject.{ExtensionObject}
use Rattle.ua_values.specs.Laws.{KeepsArray, KeepsText}
use Rattle.ua_chunks.specs.Bodies.{KeepsGreeting}
use Rattle.ua_channel.specs.declared.heard.Heard.{Heard}
use Rattle.ua_channel.specs.declared.heard.Heard.TheVariants as heard
use Rattle.ua_structures.specs.Body.{body_at, object_by}
use Rattle.ua_session_msgs.specs.Families as session
use Rattle.ua_sub_msgs.specs.declared.notification.Notification.{Notification}
use Rattle.ua_sub_msgs.specs.declared.notification.NotificationMessage.{NotificationMessage}
use Rattle.ua_sub_msgs.specs.declared.reply.SubReply.{SubReply}
use Rattle.ua_sub_msgs.specs.declared.reply.SubReply.TheVariants as sub_reply
use Rattle.ua_sub_msgs.specs.Families.{notification_put, notifications}
use Rattle.ua_sub_msgs.specs.Structures.{a_notification_message}
use Rattle.ua_services.specs.declared.reply.Reply.{Reply}
use Rattle.ua_services.specs.declared.reply.Reply.TheVariants as reply
use Rattle.ua_services.specs.declared.request.Request.{Request}
use Rattle.ua_services.specs.declared.request.RequestFault.{RequestFault}
use Rattle.ua_services.specs.declared.request.RequestFault.TheVariants as faults
use Rattle.ua_services.specs.Families.{reply_put, request_put}
use Rattle.ua_services.specs.Requests.{request_at}
use Rattle.sessions.specs.declared.session.Parked.{Parked}
use Rattle.sessions.specs.declared.session.Session.{Session}
use Rattle.redundancy_nodes.specs.declared.member.Member.{Member}
use Rattle.subscription.specs.State.{ItemState, SubState}
use Rattle.server_rules.specs.declared.config.ServerConfig.{ServerConfig}
use Rattle.server_rules.specs.declared.conn.Conn.{Conn}
use Rattle.server_rules.specs.State.{NoticeState, ServerState, is_sub}
use Rattle.server_rules.specs.Said.{Did, Said, Told, Acknowledged, Opened, Replied, Refused, Limited, Renewed}
use Rattle.server_rules.specs.Opening.{opening_reply}
use Rattle.server_rules.specs.Step.{Happening, Opens, Hears, Closes, Feeds, Ticks, Levels}
use Rattle.server_rules.specs.Acts.{ServerAct, Began, Ended, Took, Put, Fed, Ticked, Leveled}

-- a number of 32 bits, and an array of such
abbrev pub IsUInt32 : ℕ → Type 0
IsUInt32 n = n < 2 ^ 32

abbrev pub AreUInt32 : List ℕ → Type 0
AreUInt32 numbers = KeepsArray IsUInt32 numbers

-- ---- what a life begins with

pub record FitsChange (change : Change) : Type 0 where
  pub value : FitsSigned w64 change.value
  pub time : FitsSigned w64 change.time
  pub pico : change.pico < 2 ^ 16

pub record KeepsMember (member : Member) : Type 0 where
  pub uri : KeepsText member.uri
  pub url : KeepsText member.url

pub record FitsConfig (config : ServerConfig) : Type 0 where
  pub boot : config.boot < 2 ^ 16
  pub support : config.support < 2 ^ 8
  pub members : KeepsArray KeepsMember config.members
  pub start : FitsSigned w64 config.start

-- ---- what happens

-- a request keeps the limits; of a body that is none the handle of its header does
abbrev pub FitsRequest : Result Request RequestFault → Type 0
FitsRequest (Ok request) = (request_put request).keeps
FitsRequest (Err faults.Header) = Unit {0}
FitsRequest (Err (faults.Service handle)) = IsUInt32 handle
FitsRequest (Err (faults.Body handle)) = IsUInt32 handle
FitsRequest (Err faults.OutOfMemory) = Unit {0}

abbrev pub FitsHeard : Heard → Type 0
FitsHeard (heard.Greeting body) = Unit {0}
FitsHeard (heard.Opening channel follows request body) =
    IsUInt32 request × IfOk (body_at session.session_requests body) (λ asked. (session.request_put asked).keeps)
FitsHeard (heard.Message request body) = IsUInt32 request × FitsRequest (request_at body)
FitsHeard heard.Close = Unit {0}
FitsHeard (heard.Fault code) = IsUInt32 code

abbrev pub FitsHappening : Happening → Type 0
FitsHappening (Opens number) = Unit {0}
FitsHappening (Hears number h) = FitsHeard h
FitsHappening (Closes number) = Unit {0}
FitsHappening (Feeds change) = FitsChange change
FitsHappening (Ticks ms) = Unit {0}
FitsHappening (Levels level) = level < 2 ^ 8

-- ---- messages of subscriptions

-- an object that holds a notification which keeps the limits
abbrev pub HoldsNotification : ExtensionObject → Type 0
HoldsNotification object =
    (one : Notification) × (object ≡ object_by notifications notification_put one) × (notification_put one).keeps

pub record FitsMessage (message : NotificationMessage) : Type 0 where
  pub keeps : a_notification_message.keeps message
  pub holds : AllByRecursion HoldsNotification message.notification_data

-- ---- what a server holds

pub record FitsParked (publish : Parked) : Type 0 where
  pub request : IsUInt32 publish.request
  pub handle : IsUInt32 publish.handle
  pub results : AreUInt32 publish.results

abbrev pub FitsSession : Session → Type 0
FitsSession one = AllByRecursion FitsParked one.queued

pub record FitsNotice (notice : NoticeState) : Type 0 where
  pub subscription : IsUInt32 notice.subscription
  pub code : IsUInt32 notice.code
  pub next : IsUInt32 notice.next
  pub available : AreUInt32 notice.available

abbrev pub FitsEntry : Entry → Type 0
FitsEntry entry = FitsChange entry.change

pub record FitsItem (item : ItemState) : Type 0 where
  pub id : IsUInt32 item.id
  pub handle : IsUInt32 item.handle
  pub entries : AllByRecursion FitsEntry item.queue.entries

-- a message that is kept
pub record FitsSent (sent : Sent NotificationMessage) : Type 0 where
  pub number : IsUInt32 sent.number
  pub message : FitsMessage sent.message

pub record FitsSub (sub : SubState) : Type 0 where
  pub id : IsUInt32 sub.spec.id
  pub most : sub.spec.most ≤ 1000
  pub next : IsUInt32 sub.next
  pub given : IsUInt32 sub.given
  pub count : length sub.items ≤ 1024
  pub items : AllByRecursion FitsItem sub.items
  pub few : length sub.kept ≤ 64
  pub kept : AllByRecursion FitsSent sub.kept

-- no two have one id
abbrev pub AreApart : List SubState → Type 0
AreApart [] = Unit {0}
AreApart (sub ∷ subs) = AllByRecursion (λ other. is_sub sub.spec.id other ≡ false) subs × AreApart subs

pub record FitsConn (conn : Conn) : Type 0 where
  pub channel : IsUInt32 conn.channel
  pub token : IsUInt32 conn.token

pub record FitsServer (s : ServerState) : Type 0 where
  pub config : FitsConfig s.config
  pub level : s.level < 2 ^ 8
  pub current : AllByRecursion FitsChange s.current
  pub sessions : AllByRecursion FitsSession s.sessions.sessions
  pub notices : AllByRecursion FitsNotice s.notices
  pub subs : AllByRecursion FitsSub s.subs
  pub apart : AreApart s.subs
  pub channels : IsUInt32 s.channels_given
  pub conns : AllByRecursion FitsConn s.conns

-- ---- what is said

-- the message of a subscription that a reply brings
abbrev pub BringsMessage : SubReply → Type 0
BringsMessage (sub_reply.Publish r) = FitsMessage r.notification_message
BringsMessage (sub_reply.Republish r) = FitsMessage r.notification_message
BringsMessage other = Unit {0}

abbrev pub Brings : Reply → Type 0
Brings (reply.Session one) = Unit {0}
Brings (reply.Subscription one) = BringsMessage one

pub record KeepsReply (answer : Reply) : Type 0 where
  pub keeps : (reply_put answer).keeps
  pub brings : Brings answer

abbrev pub KeepsTold : Told → Type 0
KeepsTold (Acknowledged greeting) = KeepsGreeting greeting
KeepsTold (Opened request response) = IsUInt32 request × KeepsReply (opening_reply response)
KeepsTold (Replied request answer) = IsUInt32 request × KeepsReply answer
KeepsTold (Refused code) = IsUInt32 code
KeepsTold (Limited limits) = Unit {0}
KeepsTold (Renewed channel token) = IsUInt32 channel × IsUInt32 token

pub record KeepsSaid (said : Said) : Type 0 where
  pub channel : IsUInt32 said.channel
  pub token : IsUInt32 said.token
  pub told : KeepsTold said.told

-- a server after a step, and what it said
pub record KeepsDid (did : Did) : Type 0 where
  pub state : FitsServer did.state
  pub said : AllByRecursion KeepsSaid did.said

-- what is put keeps the limits, whatever was taken
abbrev pub KeepsAct : ServerAct → Type 0
KeepsAct (Began number) = Unit {0}
KeepsAct (Ended number) = Unit {0}
KeepsAct (Took number h) = Unit {0}
KeepsAct (Put said) = KeepsSaid said
KeepsAct (Fed change) = Unit {0}
KeepsAct Ticked = Unit {0}
KeepsAct Leveled = Unit {0}
