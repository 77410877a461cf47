-- What is said of a message in a reply keeps the limits.
use Rattle.std.proofs.Common.{◌≡◌, ℕ, ℤ, List, [], ◌∷◌, sym, subst, arith}
use Rattle.ua_structures.specs.declared.header.ResponseHeader.{ResponseHeader}
use Rattle.ua_structures.specs.Structures.{a_response_header, an_unused_of_response, unused_diagnostics}
use Rattle.ua_sub_msgs.specs.declared.notification.NotificationMessage.{NotificationMessage}
use Rattle.ua_sub_msgs.specs.declared.notification.NotificationType.TheVariants as notification_type
use Rattle.ua_sub_msgs.specs.declared.publish.PublishResponse.{PublishResponse}
use Rattle.ua_sub_msgs.specs.declared.publish.RepublishResponse.{RepublishResponse}
use Rattle.ua_sub_msgs.specs.declared.reply.SubReply.TheVariants as sub_reply
use Rattle.ua_sub_msgs.specs.Numbers.{notification_small}
use Rattle.ua_sub_msgs.specs.Structures.{a_notification_message, a_publish_response, a_republish_response}
use Rattle.ua_services.specs.declared.reply.Reply.TheVariants as reply
use Rattle.ua_services.specs.Families.{reply_put}
use Rattle.subscription.specs.Items.{Told}
use Rattle.subscription.specs.Message.{message_of}
use Rattle.arriving_entries.specs.Brought.{FitsHeader, FitsMessageOf, FitsPublish}
use Rattle.arriving_entries.proofs.Lengths.{values_long}

formed_keeps : (number : ℕ) (now : ℤ) (told : List Told) → FitsMessageOf number now told → a_notification_message.keeps (message_of number now told)
unfolding a_notification_message
formed_keeps number now [] h = (h.number_fits, (h.time, (omega arith, tt)))
formed_keeps number now (one ∷ more) h = (
  h.number_fits,
  (
    h.time,
    (omega arith, (((omega arith, notification_small notification_type.DataChange), values_long now (one ∷ more) h.most), tt)),
  ),
)

message_keeps : (number : ℕ) (now : ℤ) (told : List Told) (message : NotificationMessage) → message ≡ message_of number now told
    → FitsMessageOf number now told → a_notification_message.keeps message
message_keeps number now told message is h = subst a_notification_message.keeps (sym is) (formed_keeps number now told h)

header_keeps : (header : ResponseHeader) → FitsHeader header → a_response_header.keeps header
unfolding a_response_header an_unused_of_response
header_keeps header h = (h.time, (h.handle, (h.code, tt)))

pub publish_fits : (number : ℕ) (now : ℤ) (told : List Told) (r : PublishResponse) → r.notification_message ≡ message_of number now told
    → FitsPublish r → FitsMessageOf number now told → (reply_put (reply.Subscription (sub_reply.Publish r))).keeps
unfolding a_publish_response unused_diagnostics
publish_fits number now told r is h m =
    let message = message_keeps number now told r.notification_message is m in
    (header_keeps r.response_header h.header, (h.subscription, (h.available, (tt, (message, (h.results, tt))))))

pub republish_fits : (number : ℕ) (now : ℤ) (told : List Told) (r : RepublishResponse) → r.notification_message ≡ message_of number now told
    → FitsHeader r.response_header → FitsMessageOf number now told → (reply_put (reply.Subscription (sub_reply.Republish r))).keeps
unfolding a_republish_response
republish_fits number now told r is h m =
    (header_keeps r.response_header h, message_keeps number now told r.notification_message is m)
