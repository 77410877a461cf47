-- Which structure may be a body: the families of this crate, and how a value of each is written.
use Rattle.ua_sub_msgs.specs.declared.request.SubRequest.{SubRequest}
use Rattle.ua_sub_msgs.specs.declared.request.SubRequest.TheVariants as request
use Rattle.ua_sub_msgs.specs.declared.request.SubRequestType.{SubRequestType}
use Rattle.ua_sub_msgs.specs.declared.request.SubRequestType.TheVariants as request_type
use Rattle.ua_sub_msgs.specs.declared.reply.SubReply.{SubReply}
use Rattle.ua_sub_msgs.specs.declared.reply.SubReply.TheVariants as reply
use Rattle.ua_sub_msgs.specs.declared.reply.SubReplyType.{SubReplyType}
use Rattle.ua_sub_msgs.specs.declared.reply.SubReplyType.TheVariants as reply_type
use Rattle.ua_sub_msgs.specs.declared.notification.Notification.{Notification}
use Rattle.ua_sub_msgs.specs.declared.notification.Notification.TheVariants as notification
use Rattle.ua_sub_msgs.specs.declared.notification.NotificationType.{NotificationType}
use Rattle.ua_sub_msgs.specs.declared.notification.NotificationType.TheVariants as notification_type
use Rattle.ua_sub_msgs.specs.declared.filter.Filter.{Filter}
use Rattle.ua_sub_msgs.specs.declared.filter.Filter.TheVariants as filter
use Rattle.ua_sub_msgs.specs.declared.filter.FilterType.{FilterType}
use Rattle.ua_sub_msgs.specs.declared.filter.FilterType.TheVariants as filter_type
use Rattle.ua_structures.specs.Body.{Case, case, Family, Put, put}
use Rattle.ua_sub_msgs.specs.Structures.{a_create_monitored_items_request, a_create_monitored_items_response, a_create_subscription_request, a_create_subscription_response, a_data_change_filter, a_data_change_notification, a_delete_monitored_items_request, a_delete_subscriptions_request, a_modify_subscription_request, a_modify_subscription_response, a_publish_request, a_publish_response, a_republish_request, a_republish_response, a_results_response, a_set_monitoring_mode_request, a_set_publishing_mode_request, a_status_change_notification, a_transfer_subscriptions_request, a_transfer_subscriptions_response}
use Rattle.ua_sub_msgs.specs.Numbers.{request_id, every_request, request_known, request_small, reply_id, every_reply, reply_known, reply_small, notification_id, every_notification, notification_known, notification_small, filter_id, every_filter, filter_known, filter_small}

abbrev pub request_case : SubRequestType → Case SubRequest
request_case request_type.CreateMonitoredItems = case a_create_monitored_items_request request.CreateMonitoredItems
request_case request_type.SetMonitoringMode = case a_set_monitoring_mode_request request.SetMonitoringMode
request_case request_type.DeleteMonitoredItems = case a_delete_monitored_items_request request.DeleteMonitoredItems
request_case request_type.CreateSubscription = case a_create_subscription_request request.CreateSubscription
request_case request_type.ModifySubscription = case a_modify_subscription_request request.ModifySubscription
request_case request_type.SetPublishingMode = case a_set_publishing_mode_request request.SetPublishingMode
request_case request_type.Publish = case a_publish_request request.Publish
request_case request_type.Republish = case a_republish_request request.Republish
request_case request_type.TransferSubscriptions = case a_transfer_subscriptions_request request.TransferSubscriptions
request_case request_type.DeleteSubscriptions = case a_delete_subscriptions_request request.DeleteSubscriptions

abbrev pub sub_requests : Family SubRequestType SubRequest
sub_requests = record { all = every_request; id = request_id; cases = request_case; known = request_known; small = request_small }

abbrev pub request_put : SubRequest → Put SubRequestType
request_put (request.CreateMonitoredItems p) = put request_type.CreateMonitoredItems a_create_monitored_items_request p
request_put (request.SetMonitoringMode p) = put request_type.SetMonitoringMode a_set_monitoring_mode_request p
request_put (request.DeleteMonitoredItems p) = put request_type.DeleteMonitoredItems a_delete_monitored_items_request p
request_put (request.CreateSubscription p) = put request_type.CreateSubscription a_create_subscription_request p
request_put (request.ModifySubscription p) = put request_type.ModifySubscription a_modify_subscription_request p
request_put (request.SetPublishingMode p) = put request_type.SetPublishingMode a_set_publishing_mode_request p
request_put (request.Publish p) = put request_type.Publish a_publish_request p
request_put (request.Republish p) = put request_type.Republish a_republish_request p
request_put (request.TransferSubscriptions p) = put request_type.TransferSubscriptions a_transfer_subscriptions_request p
request_put (request.DeleteSubscriptions p) = put request_type.DeleteSubscriptions a_delete_subscriptions_request p

abbrev pub reply_case : SubReplyType → Case SubReply
reply_case reply_type.CreateMonitoredItems = case a_create_monitored_items_response reply.CreateMonitoredItems
reply_case reply_type.SetMonitoringMode = case a_results_response reply.SetMonitoringMode
reply_case reply_type.DeleteMonitoredItems = case a_results_response reply.DeleteMonitoredItems
reply_case reply_type.CreateSubscription = case a_create_subscription_response reply.CreateSubscription
reply_case reply_type.ModifySubscription = case a_modify_subscription_response reply.ModifySubscription
reply_case reply_type.SetPublishingMode = case a_results_response reply.SetPublishingMode
reply_case reply_type.Publish = case a_publish_response reply.Publish
reply_case reply_type.Republish = case a_republish_response reply.Republish
reply_case reply_type.TransferSubscriptions = case a_transfer_subscriptions_response reply.TransferSubscriptions
reply_case reply_type.DeleteSubscriptions = case a_results_response reply.DeleteSubscriptions

abbrev pub sub_replies : Family SubReplyType SubReply
sub_replies = record { all = every_reply; id = reply_id; cases = reply_case; known = reply_known; small = reply_small }

abbrev pub reply_put : SubReply → Put SubReplyType
reply_put (reply.CreateMonitoredItems p) = put reply_type.CreateMonitoredItems a_create_monitored_items_response p
reply_put (reply.SetMonitoringMode p) = put reply_type.SetMonitoringMode a_results_response p
reply_put (reply.DeleteMonitoredItems p) = put reply_type.DeleteMonitoredItems a_results_response p
reply_put (reply.CreateSubscription p) = put reply_type.CreateSubscription a_create_subscription_response p
reply_put (reply.ModifySubscription p) = put reply_type.ModifySubscription a_modify_subscription_response p
reply_put (reply.SetPublishingMode p) = put reply_type.SetPublishingMode a_results_response p
reply_put (reply.Publish p) = put reply_type.Publish a_publish_response p
reply_put (reply.Republish p) = put reply_type.Republish a_republish_response p
reply_put (reply.TransferSubscriptions p) = put reply_type.TransferSubscriptions a_transfer_subscriptions_response p
reply_put (reply.DeleteSubscriptions p) = put reply_type.DeleteSubscriptions a_results_response p

abbrev pub notification_case : NotificationType → Case Notification
notification_case notification_type.DataChange = case a_data_change_notification notification.DataChange
notification_case notification_type.StatusChange = case a_status_change_notification notification.StatusChange

abbrev pub notifications : Family NotificationType Notification
notifications = record { all = every_notification; id = notification_id; cases = notification_case; known = notification_known; small = notification_small }

abbrev pub notification_put : Notification → Put NotificationType
notification_put (notification.DataChange p) = put notification_type.DataChange a_data_change_notification p
notification_put (notification.StatusChange p) = put notification_type.StatusChange a_status_change_notification p

abbrev pub filter_case : FilterType → Case Filter
filter_case filter_type.DataChange = case a_data_change_filter filter.DataChange

abbrev pub filters : Family FilterType Filter
filters = record { all = every_filter; id = filter_id; cases = filter_case; known = filter_known; small = filter_small }

abbrev pub filter_put : Filter → Put FilterType
filter_put (filter.DataChange p) = put filter_type.DataChange a_data_change_filter p
