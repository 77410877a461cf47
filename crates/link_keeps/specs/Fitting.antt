-- What keeps the limits: what happens to a link, what it knows, and what it says. Numbers are those that their types hold,
-- and texts and lists are no longer than a reader takes.
use Rattle.std.specs.Prelude.{◌<◌, ◌≤◌, ◌^◌, ℕ, List, length, Option, IfOk, IfSome, FitsSigned}
use Rattle.std.specs.List.{AllByRecursion}
use Rattle.std.specs.Int.{w64}
use Rattle.ua_values.specs.Laws.{KeepsNode, KeepsText}
use Rattle.ua_chunks.specs.Bodies.{KeepsHello}
use Rattle.ua_channel.specs.declared.heard.Heard.{Heard}
use Rattle.ua_channel.specs.declared.heard.Heard.TheVariants as heard
use Rattle.ua_structures.specs.Body.{body_at}
use Rattle.ua_sub_msgs.specs.declared.request.SubRequest.{SubRequest}
use Rattle.ua_sub_msgs.specs.declared.request.SubRequest.TheVariants as sub_request
use Rattle.ua_services.specs.declared.request.Request.{Request}
use Rattle.ua_services.specs.declared.request.Request.TheVariants as request
use Rattle.ua_services.specs.Families.{replies, reply_put, request_put}
use Rattle.link_rules.specs.declared.config.LinkConfig.{LinkConfig}
use Rattle.link_rules.specs.declared.conversation.Conversation.{Conversation}
use Rattle.link_rules.specs.declared.phase.Phase.{Phase}
use Rattle.link_rules.specs.declared.phase.Phase.TheVariants as phase
use Rattle.link_rules.specs.declared.remembered.Monitored.{Monitored}
use Rattle.link_rules.specs.declared.remembered.Remembered.{Remembered}
use Rattle.link_rules.specs.State.{LinkState}
use Rattle.link_rules.specs.Said.{LinkDid, Said, Told, Greeted, Opens, Asks, Limited, Renewed}
use Rattle.link_rules.specs.Step.{Happening, Opens as Connects, Refuses, Closes, Hears, Ticks, Wants, Dials, Takes}

-- a number of 32 bits
abbrev pub IsUInt32 : ℕ → Type 0
IsUInt32 n = n < 2 ^ 32

-- ---- what a link begins with, and what happens to it

pub record FitsConfig (config : LinkConfig) : Type 0 where
  pub items : config.items < 2 ^ 8
  pub queue : IsUInt32 config.queue
  pub start : FitsSigned w64 config.start

-- where a body reads as a reply, that keeps the limits
abbrev pub FitsReply : List ℕ → Type 0
FitsReply body = IfOk (body_at replies body) (λ reply. (reply_put reply).keeps)

abbrev pub FitsHeard : Heard → Type 0
FitsHeard (heard.Greeting body) = Unit {0}
FitsHeard (heard.Opening channel follows number body) = FitsReply body
FitsHeard (heard.Message number body) = FitsReply body
FitsHeard heard.Close = Unit {0}
FitsHeard (heard.Fault code) = Unit {0}

abbrev pub FitsHappening : Happening → Type 0
FitsHappening (Connects url) = KeepsText url
FitsHappening Refuses = Unit {0}
FitsHappening Closes = Unit {0}
FitsHappening (Hears h) = FitsHeard h
FitsHappening (Ticks ms) = Unit {0}
FitsHappening (Wants mode) = Unit {0}
FitsHappening Dials = Unit {0}
FitsHappening Takes = Unit {0}

-- ---- what a link knows

pub record FitsRemembered (remembered : Remembered) : Type 0 where
  pub id : IsUInt32 remembered.id
  pub next : IsUInt32 remembered.next

abbrev pub FitsMonitored : Monitored → Type 0
FitsMonitored monitored = IsUInt32 monitored.id

pub record FitsConversation (c : Conversation) : Type 0 where
  pub channel : IsUInt32 c.channel
  pub token : IsUInt32 c.token
  pub last : IsUInt32 c.last

abbrev pub FitsPhase : Phase → Type 0
FitsPhase (phase.Republishing wanted) = AllByRecursion IsUInt32 wanted
FitsPhase other = Unit {0}

pub record FitsLink (l : LinkState) : Type 0 where
  pub config : FitsConfig l.config
  pub phase : FitsPhase l.phase
  pub url : KeepsText l.url
  pub session : KeepsNode l.session
  pub conversation : FitsConversation l.conversation
  pub remembered : IfSome l.remembered FitsRemembered
  pub monitored : AllByRecursion FitsMonitored l.monitored
  pub monitored_count : length l.monitored ≤ l.config.items
  pub acks : AllByRecursion IsUInt32 l.acks

-- ---- what it says

-- a Publish has no more acknowledgements than an array may have
abbrev pub IsShort : Request → Type 0
IsShort (request.Subscription (sub_request.Publish r)) = length r.subscription_acknowledgements ≤ 65536
IsShort other = Unit {0}

abbrev pub KeepsTold : Told → Type 0
KeepsTold (Greeted greeting url) = KeepsHello (greeting, url)
KeepsTold (Opens number r) = IsUInt32 number × (request_put r).keeps
KeepsTold (Asks number r) = IsUInt32 number × (IsShort r → (request_put r).keeps)
KeepsTold (Limited limits) = Unit {0}
KeepsTold (Renewed channel token) = IsUInt32 channel × IsUInt32 token

pub record KeepsSaid (said : Said) : Type 0 where
  pub channel : IsUInt32 said.channel
  pub token : IsUInt32 said.token
  pub told : KeepsTold said.told

-- what a rule did
pub record Fits (did : LinkDid) : Type 0 where
  pub link : FitsLink did.link
  pub said : AllByRecursion KeepsSaid did.said
