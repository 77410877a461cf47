-- What keeps the limits is read again.
use Rattle.std.proofs.Common.{◌≡◌, ℕ, ◌^◌, ◌<◌, List, ap, ◌∙◌}
use Rattle.std.specs.Prelude.{Ok}
use Rattle.std.specs.List.{AllByRecursion}
use Rattle.ua_values.specs.declared.extension.ExtensionObject.{ExtensionObject}
use Rattle.ua_values.specs.Reading.{input}
use Rattle.ua_chunks.specs.declared.greeting.Greeting.{Greeting}
use Rattle.ua_chunks.specs.Bodies.{KeepsGreeting, error_at, greeting_at, value_of, whole_at, written_error, written_greeting}
use Rattle.ua_structures.specs.Body.{AreHeld, body_at, object_at}
use Rattle.ua_sub_msgs.specs.declared.notification.NotificationMessage.{NotificationMessage}
use Rattle.ua_sub_msgs.specs.declared.reply.SubReply.{SubReply}
use Rattle.ua_sub_msgs.specs.declared.reply.SubReply.TheVariants as sub_reply
use Rattle.ua_sub_msgs.specs.Families.{notification_put, notifications}
use Rattle.ua_services.specs.declared.reply.Reply.{Reply}
use Rattle.ua_services.specs.declared.reply.Reply.TheVariants as reply
use Rattle.ua_services.specs.Families.{replies, reply_put, written_reply}
use Rattle.server_rules.specs.Said.{Told, Acknowledged, Opened, Replied, Refused, Limited, Renewed}
use Rattle.server_rules.specs.Opening.{opening_reply}
use Rattle.server_rules.specs.Acts.{ServerAct, Began, Ended, Took, Put, Fed, Ticked, Leveled}
use Rattle.server_keeps.specs.Again.{IsReadAgain, IsReplyAgain, IsToldAgain, Shows, ShowsMessage, ShowsNotification}
use Rattle.server_keeps.specs.Fitting.{Brings, BringsMessage, FitsMessage, HoldsNotification, KeepsAct, KeepsReply, KeepsTold}
use Rattle.server_keeps.proofs.Lists.{all_to}

-- what other crates say of what is written
pub record Reads : Type 0 where
  pub replies : (answer : Reply) → (reply_put answer).keeps → body_at replies (written_reply answer) ≡ Ok answer
  pub held : AreHeld notifications notification_put
  pub greetings : (greeting : Greeting) → KeepsGreeting greeting
      → value_of (whole_at greeting_at (input 0 (written_greeting greeting))) ≡ Ok greeting
  pub errors : (code : ℕ) → code < 2 ^ 32 → value_of (whole_at error_at (input 0 (written_error code))) ≡ Ok code

held_shows : Reads → (object : ExtensionObject) → HoldsNotification object → ShowsNotification object
held_shows law object h = (h.0, h.1, ap (object_at notifications) h.1 ∙ law.held.again h.0 h.2)

message_shows : Reads → (message : NotificationMessage) → FitsMessage message → AllByRecursion ShowsNotification message.notification_data
message_shows law message h = all_to HoldsNotification ShowsNotification (held_shows law) message.notification_data h.holds

sub_shows : Reads → (answer : SubReply) → BringsMessage answer → ShowsMessage answer
sub_shows law (sub_reply.Publish r) h = message_shows law r.notification_message h
sub_shows law (sub_reply.Republish r) h = message_shows law r.notification_message h
sub_shows law (sub_reply.CreateMonitoredItems r) h = tt
sub_shows law (sub_reply.SetMonitoringMode r) h = tt
sub_shows law (sub_reply.DeleteMonitoredItems r) h = tt
sub_shows law (sub_reply.CreateSubscription r) h = tt
sub_shows law (sub_reply.ModifySubscription r) h = tt
sub_shows law (sub_reply.SetPublishingMode r) h = tt
sub_shows law (sub_reply.TransferSubscriptions r) h = tt
sub_shows law (sub_reply.DeleteSubscriptions r) h = tt

shows : Reads → (answer : Reply) → Brings answer → Shows answer
shows law (reply.Session one) h = tt
shows law (reply.Subscription one) h = sub_shows law one h

reply_again : Reads → (answer : Reply) → KeepsReply answer → IsReplyAgain answer
reply_again law answer h = record { again = law.replies answer h.keeps; shows = shows law answer h.brings }

told_again : Reads → (told : Told) → KeepsTold told → IsToldAgain told
told_again law (Acknowledged greeting) h = law.greetings greeting h
told_again law (Opened request response) h = reply_again law (opening_reply response) h.1
told_again law (Replied request answer) h = reply_again law answer h.1
told_again law (Refused code) h = law.errors code h
told_again law (Limited limits) h = tt
told_again law (Renewed channel token) h = tt

act_again : Reads → (act : ServerAct) → KeepsAct act → IsReadAgain act
act_again law (Began number) h = tt
act_again law (Ended number) h = tt
act_again law (Took number one) h = tt
act_again law (Put said) h = told_again law said.told h.told
act_again law (Fed change) h = tt
act_again law Ticked h = tt
act_again law Leveled h = tt

pub all_again : Reads → (acts : List ServerAct) → AllByRecursion KeepsAct acts → AllByRecursion IsReadAgain acts
all_again law acts h = all_to KeepsAct IsReadAgain (act_again law) acts h
