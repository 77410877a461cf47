-- The numbers of the structures' types (OPC 10000-6, annex A.3).
use Rattle.std.specs.Prelude.{◌≡◌, ◌==◌, ◌<◌, ◌^◌, ℕ, List, [], ◌∷◌, Some, refl}
use Rattle.std.specs.List.{find}
use Rattle.std.proofs.Common.{arith}
use Rattle.ua_sub_msgs.specs.declared.request.SubRequestType.{SubRequestType}
use Rattle.ua_sub_msgs.specs.declared.request.SubRequestType.TheVariants as request_type
use Rattle.ua_sub_msgs.specs.declared.reply.SubReplyType.{SubReplyType}
use Rattle.ua_sub_msgs.specs.declared.reply.SubReplyType.TheVariants as reply_type
use Rattle.ua_sub_msgs.specs.declared.notification.NotificationType.{NotificationType}
use Rattle.ua_sub_msgs.specs.declared.notification.NotificationType.TheVariants as notification_type
use Rattle.ua_sub_msgs.specs.declared.filter.FilterType.{FilterType}
use Rattle.ua_sub_msgs.specs.declared.filter.FilterType.TheVariants as filter_type

-- The number of its NodeId in the namespace 0, which says that it is encoded in binary (OPC 10000-6, annex A.3)
abbrev pub request_id : SubRequestType → ℕ
request_id request_type.CreateMonitoredItems = 751
request_id request_type.SetMonitoringMode = 769
request_id request_type.DeleteMonitoredItems = 781
request_id request_type.CreateSubscription = 787
request_id request_type.ModifySubscription = 793
request_id request_type.SetPublishingMode = 799
request_id request_type.Publish = 826
request_id request_type.Republish = 832
request_id request_type.TransferSubscriptions = 841
request_id request_type.DeleteSubscriptions = 847

abbrev pub every_request : List SubRequestType
every_request = request_type.CreateMonitoredItems ∷ request_type.SetMonitoringMode ∷ request_type.DeleteMonitoredItems ∷ request_type.CreateSubscription ∷ request_type.ModifySubscription ∷ request_type.SetPublishingMode ∷ request_type.Publish ∷ request_type.Republish ∷ request_type.TransferSubscriptions ∷ request_type.DeleteSubscriptions ∷ []

-- no two have one number
pub request_known : (k : SubRequestType) → find (λ other. request_id other == request_id k) every_request ≡ Some k
request_known request_type.CreateMonitoredItems = refl
request_known request_type.SetMonitoringMode = refl
request_known request_type.DeleteMonitoredItems = refl
request_known request_type.CreateSubscription = refl
request_known request_type.ModifySubscription = refl
request_known request_type.SetPublishingMode = refl
request_known request_type.Publish = refl
request_known request_type.Republish = refl
request_known request_type.TransferSubscriptions = refl
request_known request_type.DeleteSubscriptions = refl

pub request_small : (k : SubRequestType) → request_id k < 2 ^ 32
request_small request_type.CreateMonitoredItems = omega arith
request_small request_type.SetMonitoringMode = omega arith
request_small request_type.DeleteMonitoredItems = omega arith
request_small request_type.CreateSubscription = omega arith
request_small request_type.ModifySubscription = omega arith
request_small request_type.SetPublishingMode = omega arith
request_small request_type.Publish = omega arith
request_small request_type.Republish = omega arith
request_small request_type.TransferSubscriptions = omega arith
request_small request_type.DeleteSubscriptions = omega arith

-- The number of its NodeId in the namespace 0, which says that it is encoded in binary (OPC 10000-6, annex A.3)
abbrev pub reply_id : SubReplyType → ℕ
reply_id reply_type.CreateMonitoredItems = 754
reply_id reply_type.SetMonitoringMode = 772
reply_id reply_type.DeleteMonitoredItems = 784
reply_id reply_type.CreateSubscription = 790
reply_id reply_type.ModifySubscription = 796
reply_id reply_type.SetPublishingMode = 802
reply_id reply_type.Publish = 829
reply_id reply_type.Republish = 835
reply_id reply_type.TransferSubscriptions = 844
reply_id reply_type.DeleteSubscriptions = 850

abbrev pub every_reply : List SubReplyType
every_reply = reply_type.CreateMonitoredItems ∷ reply_type.SetMonitoringMode ∷ reply_type.DeleteMonitoredItems ∷ reply_type.CreateSubscription ∷ reply_type.ModifySubscription ∷ reply_type.SetPublishingMode ∷ reply_type.Publish ∷ reply_type.Republish ∷ reply_type.TransferSubscriptions ∷ reply_type.DeleteSubscriptions ∷ []

-- no two have one number
pub reply_known : (k : SubReplyType) → find (λ other. reply_id other == reply_id k) every_reply ≡ Some k
reply_known reply_type.CreateMonitoredItems = refl
reply_known reply_type.SetMonitoringMode = refl
reply_known reply_type.DeleteMonitoredItems = refl
reply_known reply_type.CreateSubscription = refl
reply_known reply_type.ModifySubscription = refl
reply_known reply_type.SetPublishingMode = refl
reply_known reply_type.Publish = refl
reply_known reply_type.Republish = refl
reply_known reply_type.TransferSubscriptions = refl
reply_known reply_type.DeleteSubscriptions = refl

pub reply_small : (k : SubReplyType) → reply_id k < 2 ^ 32
reply_small reply_type.CreateMonitoredItems = omega arith
reply_small reply_type.SetMonitoringMode = omega arith
reply_small reply_type.DeleteMonitoredItems = omega arith
reply_small reply_type.CreateSubscription = omega arith
reply_small reply_type.ModifySubscription = omega arith
reply_small reply_type.SetPublishingMode = omega arith
reply_small reply_type.Publish = omega arith
reply_small reply_type.Republish = omega arith
reply_small reply_type.TransferSubscriptions = omega arith
reply_small reply_type.DeleteSubscriptions = omega arith

-- The number of its NodeId in the namespace 0, which says that it is encoded in binary (OPC 10000-6, annex A.3)
abbrev pub notification_id : NotificationType → ℕ
notification_id notification_type.DataChange = 811
notification_id notification_type.StatusChange = 820

abbrev pub every_notification : List NotificationType
every_notification = notification_type.DataChange ∷ notification_type.StatusChange ∷ []

-- no two have one number
pub notification_known : (k : NotificationType) → find (λ other. notification_id other == notification_id k) every_notification ≡ Some k
notification_known notification_type.DataChange = refl
notification_known notification_type.StatusChange = refl

pub notification_small : (k : NotificationType) → notification_id k < 2 ^ 32
notification_small notification_type.DataChange = omega arith
notification_small notification_type.StatusChange = omega arith

-- The number of its NodeId in the namespace 0, which says that it is encoded in binary (OPC 10000-6, annex A.3)
abbrev pub filter_id : FilterType → ℕ
filter_id filter_type.DataChange = 724

abbrev pub every_filter : List FilterType
every_filter = filter_type.DataChange ∷ []

-- no two have one number
pub filter_known : (k : FilterType) → find (λ other. filter_id other == filter_id k) every_filter ≡ Some k
filter_known filter_type.DataChange = refl

pub filter_small : (k : FilterType) → filter_id k < 2 ^ 32
filter_small filter_type.DataChange = omega arith
