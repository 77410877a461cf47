-- What is put is read again as what it is.
use Rattle.std.specs.Prelude.{◌≡◌, Ok}
use Rattle.std.specs.List.{AllByRecursion}
use Rattle.ua_values.specs.declared.extension.ExtensionObject.{ExtensionObject}
use Rattle.ua_values.specs.Reading.{input}
use Rattle.ua_chunks.specs.Bodies.{error_at, greeting_at, value_of, whole_at, written_error, written_greeting}
use Rattle.ua_structures.specs.Body.{body_at, object_at, object_by}
use Rattle.ua_sub_msgs.specs.declared.notification.Notification.{Notification}
use Rattle.ua_sub_msgs.specs.declared.reply.SubReply.{SubReply}
use Rattle.ua_sub_msgs.specs.declared.reply.SubReply.TheVariants as sub_reply
use Rattle.ua_sub_msgs.specs.Families.{notification_put, notifications}
use Rattle.ua_services.specs.declared.reply.Reply.{Reply}
use Rattle.ua_services.specs.declared.reply.Reply.TheVariants as reply
use Rattle.ua_services.specs.Families.{replies, written_reply}
use Rattle.server_rules.specs.Said.{Told, Acknowledged, Opened, Replied, Refused, Limited, Renewed}
use Rattle.server_rules.specs.Opening.{opening_reply}
use Rattle.server_rules.specs.Acts.{ServerAct, Began, Ended, Took, Put, Fed, Ticked, Leveled}

-- an object that was made of a notification shows it
abbrev pub ShowsNotification : ExtensionObject → Type 0
ShowsNotification object =
    (one : Notification) × (object ≡ object_by notifications notification_put one) × (object_at notifications object ≡ Ok one)

-- the message of a subscription shows each of its notifications
abbrev pub ShowsMessage : SubReply → Type 0
ShowsMessage (sub_reply.Publish r) = AllByRecursion ShowsNotification r.notification_message.notification_data
ShowsMessage (sub_reply.Republish r) = AllByRecursion ShowsNotification r.notification_message.notification_data
ShowsMessage other = Unit {0}

abbrev pub Shows : Reply → Type 0
Shows (reply.Session one) = Unit {0}
Shows (reply.Subscription one) = ShowsMessage one

pub record IsReplyAgain (answer : Reply) : Type 0 where
  pub again : body_at replies (written_reply answer) ≡ Ok answer
  pub shows : Shows answer

abbrev pub IsToldAgain : Told → Type 0
IsToldAgain (Acknowledged greeting) = value_of (whole_at greeting_at (input 0 (written_greeting greeting))) ≡ Ok greeting
IsToldAgain (Opened request response) = IsReplyAgain (opening_reply response)
IsToldAgain (Replied request answer) = IsReplyAgain answer
IsToldAgain (Refused code) = value_of (whole_at error_at (input 0 (written_error code))) ≡ Ok code
IsToldAgain (Limited limits) = Unit {0}
IsToldAgain (Renewed channel token) = Unit {0}

abbrev pub IsReadAgain : ServerAct → Type 0
IsReadAgain (Began number) = Unit {0}
IsReadAgain (Ended number) = Unit {0}
IsReadAgain (Took number h) = Unit {0}
IsReadAgain (Put said) = IsToldAgain said.told
IsReadAgain (Fed change) = Unit {0}
IsReadAgain Ticked = Unit {0}
IsReadAgain Leveled = Unit {0}
