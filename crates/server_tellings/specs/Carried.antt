-- What the message in a Publish response carries (OPC 10000-4, 5.13.5 and 7.21).
use Rattle.std.specs.Prelude.{◌≡◌, ◌≢◌, ◌⊎◌, ℕ, ℤ, List, [], ◌∷◌}
use Rattle.std.specs.List.{AllByRecursion}
use Rattle.ua_structures.specs.Body.{object_by}
use Rattle.ua_sub_msgs.specs.declared.notification.Notification.TheVariants as notification
use Rattle.ua_sub_msgs.specs.declared.notification.NotificationMessage.{NotificationMessage}
use Rattle.ua_sub_msgs.specs.declared.notification.StatusChangeNotification.{StatusChangeNotification}
use Rattle.ua_sub_msgs.specs.declared.reply.SubReply.{SubReply}
use Rattle.ua_sub_msgs.specs.declared.reply.SubReply.TheVariants as sub_reply
use Rattle.ua_sub_msgs.specs.Families.{notification_put, notifications}
use Rattle.ua_services.specs.declared.reply.Reply.{Reply}
use Rattle.ua_services.specs.declared.reply.Reply.TheVariants as reply
use Rattle.subscription.specs.Items.{Told as Entry}
use Rattle.subscription.specs.Message.{message_of}
use Rattle.link_rules.specs.declared.content.Content.TheVariants as content
use Rattle.link_rules.specs.Messages.{content_of}
use Rattle.server_rules.specs.Said.{Said, Told, Replied}

-- a keep-alive has no notification
abbrev pub IsKeepAlive : NotificationMessage → Type 0
IsKeepAlive message = message.notification_data ≡ []

-- a data message is that of a number, a time and some entries of items
pub record IsDataMessage (message : NotificationMessage) : Type 0 where
  pub number : ℕ
  pub now : ℤ
  pub entries : List Entry
  pub some : entries ≢ []
  pub is : message ≡ message_of number now entries

-- the last message has one StatusChangeNotification, and is read as the end of the subscription
pub record IsLastMessage (message : NotificationMessage) : Type 0 where
  pub change : StatusChangeNotification
  pub is : message.notification_data ≡ object_by notifications notification_put (notification.StatusChange change) ∷ []
  pub ends : content_of message.notification_data ≡ content.Ended

-- a message is one of these
abbrev pub IsMessage : NotificationMessage → Type 0
IsMessage message = IsKeepAlive message ⊎ (IsDataMessage message ⊎ IsLastMessage message)

-- a Publish response carries such a message
abbrev pub CarriesSub : SubReply → Type 0
CarriesSub (sub_reply.Publish r) = IsMessage r.notification_message
CarriesSub other = Unit {0}

abbrev pub CarriesReply : Reply → Type 0
CarriesReply (reply.Session one) = Unit {0}
CarriesReply (reply.Subscription one) = CarriesSub one

abbrev pub CarriesTold : Told → Type 0
CarriesTold (Replied request answer) = CarriesReply answer
CarriesTold other = Unit {0}

abbrev pub CarriesSaid : Said → Type 0
CarriesSaid said = CarriesTold said.told

-- each that is said does
abbrev pub AreCarried : List Said → Type 0
AreCarried all = AllByRecursion CarriesSaid all
