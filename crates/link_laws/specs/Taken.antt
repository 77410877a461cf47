-- What an event brings to a link: a reply, and what the laws look at in it.
use Rattle.std.specs.Prelude.{ℕ, Option, Some, None, Result, Ok, Err}
use Rattle.ua_structures.specs.declared.body.BodyFault.{BodyFault}
use Rattle.ua_structures.specs.Body.{body_at}
use Rattle.ua_channel.specs.declared.heard.Heard.{Heard}
use Rattle.ua_channel.specs.declared.heard.Heard.TheVariants as heard_of
use Rattle.ua_sub_msgs.specs.declared.notification.NotificationMessage.{NotificationMessage}
use Rattle.ua_sub_msgs.specs.declared.reply.SubReply.TheVariants as sub_reply
use Rattle.ua_services.specs.declared.reply.Reply.{Reply}
use Rattle.ua_services.specs.declared.reply.Reply.TheVariants as reply
use Rattle.ua_services.specs.Families.{replies}
use Rattle.link_rules.specs.Step.{Happening, Hears}

-- ---- the reply

abbrev pub reply_by : Result Reply BodyFault → Option Reply
reply_by (Ok r) = Some r
reply_by (Err fault) = None

-- the reply in a MSG
abbrev pub heard_reply : Heard → Option Reply
heard_reply (heard_of.Message number body) = reply_by (body_at replies body)
heard_reply other = None

abbrev pub reply_of : Happening → Option Reply
reply_of (Hears h) = heard_reply h
reply_of other = None

-- ---- what is in it

-- the id of a new subscription
abbrev pub id_in : Option Reply → Option ℕ
id_in (Some (reply.Subscription (sub_reply.CreateSubscription r))) = Some r.subscription_id
id_in other = None

-- a message of a subscription, said or said again
abbrev pub message_in : Option Reply → Option NotificationMessage
message_in (Some (reply.Subscription (sub_reply.Publish r))) = Some r.notification_message
message_in (Some (reply.Subscription (sub_reply.Republish r))) = Some r.notification_message
message_in other = None
