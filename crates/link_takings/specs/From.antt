-- Of which subscription the data are that a link takes.
use Rattle.std.specs.Prelude.{◌≡◌, ◌⊎◌, ℕ, List, [], ◌∷◌, ◌++◌, true, false, Option, Some}
use Rattle.ua_channel.specs.State.{is_deaf}
use Rattle.ua_sub_msgs.specs.declared.notification.MonitoredItemNotification.{MonitoredItemNotification}
use Rattle.ua_sub_msgs.specs.declared.notification.NotificationMessage.{NotificationMessage}
use Rattle.ua_sub_msgs.specs.declared.publish.PublishResponse.{PublishResponse}
use Rattle.ua_sub_msgs.specs.declared.publish.RepublishResponse.{RepublishResponse}
use Rattle.ua_sub_msgs.specs.declared.reply.SubReply.TheVariants as sub_reply
use Rattle.ua_services.specs.declared.reply.Reply.TheVariants as reply
use Rattle.link_rules.specs.declared.content.Content.TheVariants as content
use Rattle.link_rules.specs.declared.phase.Phase.TheVariants as phase
use Rattle.link_rules.specs.declared.remembered.Remembered.{Remembered}
use Rattle.link_rules.specs.State.{LinkState}
use Rattle.link_rules.specs.Said.{LinkDid}
use Rattle.link_rules.specs.Asking.{is_good}
use Rattle.link_rules.specs.Messages.{content_of}
use Rattle.link_rules.specs.Step.{Happening, after, ear_of}
use Rattle.link_laws.specs.Taken.{id_in, reply_of}
use Rattle.link_laws.specs.Course.{AreDoable, AreKnown, Deed, Leaps, Passes, Streams, Takes, monitored_after, of_values, remembered_after, remembered_by, told_after}

-- ---- what data come of

-- a message has this number and brings these values
pub record HasData (number : ℕ) (values : List MonitoredItemNotification) (message : NotificationMessage) : Type 0 where
  pub numbered : message.sequence_number ≡ number
  pub brings : content_of message.notification_data ≡ content.Values values

-- a good Publish response of the subscription of this id has them
pub record IsPublished (id number : ℕ) (values : List MonitoredItemNotification) (h : Happening) : Type 0 where
  pub response : PublishResponse
  pub comes : reply_of h ≡ Some (reply.Subscription (sub_reply.Publish response))
  pub subscription : response.subscription_id ≡ id
  pub good : is_good response.response_header.service_result ≡ true
  pub message : HasData number values response.notification_message

-- a good Republish response has them, where one is awaited
pub record IsRepublished (number : ℕ) (values : List MonitoredItemNotification) (h : Happening) (l : LinkState) : Type 0 where
  pub response : RepublishResponse
  pub comes : reply_of h ≡ Some (reply.Subscription (sub_reply.Republish response))
  pub good : is_good response.response_header.service_result ≡ true
  pub message : HasData number values response.notification_message
  pub wanted : List ℕ
  pub awaits : l.phase ≡ phase.Republishing wanted

-- the data with this number and these values come in this event of the subscription of this id
abbrev pub IsFrom : ℕ → ℕ → List MonitoredItemNotification → Happening → LinkState → Type 0
IsFrom id number values h l = IsPublished id number values h ⊎ IsRepublished number values h l

-- ---- deeds

-- they come of the subscription that the link remembers, which is still remembered just before the deed; and the link isn't
-- deaf
pub record ComesOf (number : ℕ) (values : List MonitoredItemNotification) (o : Option Remembered) (h : Happening)
    (l : LinkState) : Type 0 where
  pub hears : is_deaf (ear_of l) ≡ false
  pub before : Remembered
  pub remembers : l.remembered ≡ Some before
  pub from : IsFrom before.id number values h l
  pub still : Remembered
  pub is : o ≡ Some still
  pub same : still.id ≡ before.id

abbrev pub IsDeedFrom : Deed → Option Remembered → Happening → LinkState → Type 0
IsDeedFrom (Takes number values) o h l = ComesOf number values o h l
IsDeedFrom (Leaps number values) o h l = ComesOf number values o h l
IsDeedFrom (Passes number values) o h l = ComesOf number values o h l
IsDeedFrom other o h l = Unit {0}

abbrev pub AllFrom : List Deed → Option Remembered → Happening → LinkState → Type 0
AllFrom [] o h l = Unit {0}
AllFrom (deed ∷ deeds) o h l = IsDeedFrom deed o h l × AllFrom deeds (remembered_by deed o) h l

-- a new subscription has this id, where there is one
abbrev pub IsNamedBy : Deed → Option ℕ → Type 0
IsNamedBy (Streams id) made = made ≡ Some id
IsNamedBy other made = Unit {0}

abbrev pub AreNamedBy : List Deed → Option ℕ → Type 0
AreNamedBy [] made = Unit {0}
AreNamedBy (deed ∷ deeds) made = IsNamedBy deed made × AreNamedBy deeds made

-- ---- one event

-- this is what happens in it to the subscription that a link remembers, and to its items, and what is told of it; its data
-- come of that subscription, and a new one has the id that comes
pub record IsStep (h : Happening) (l : LinkState) : Type 0 where
  pub deeds : List Deed
  pub doable : AreDoable deeds l.remembered
  pub known : AreKnown deeds l.monitored
  pub leads : (after h l).link.remembered ≡ remembered_after deeds l.remembered
  pub items : (after h l).link.monitored ≡ monitored_after deeds l.monitored
  pub told : of_values (after h l).notices ≡ told_after l.config.items deeds l.monitored
  pub from : AllFrom deeds l.remembered h l
  pub named : AreNamedBy deeds (id_in (reply_of h))

-- ---- one event after another

abbrev pub AreSteps : List Happening → LinkState → Type 0
AreSteps [] l = Unit {0}
AreSteps (h ∷ more) l = IsStep h l × AreSteps more (after h l).link

-- the deeds of all events
abbrev pub deeds_in : (happenings : List Happening) (l : LinkState) → AreSteps happenings l → List Deed
deeds_in [] l steps = []
deeds_in (h ∷ more) l steps = steps.0.deeds ++ deeds_in more (after h l).link steps.1

-- these deeds are all that happens to the subscription and its items, and is told of it
pub record IsDone (deeds : List Deed) (l : LinkState) (did : LinkDid) : Type 0 where
  pub doable : AreDoable deeds l.remembered
  pub known : AreKnown deeds l.monitored
  pub leads : did.link.remembered ≡ remembered_after deeds l.remembered
  pub items : did.link.monitored ≡ monitored_after deeds l.monitored
  pub told : of_values did.notices ≡ told_after l.config.items deeds l.monitored
