-- What is written of each value that keeps the rules is a spelling of it.
use Rattle.std.specs.Prelude.{refl}
use Rattle.ua_sub_msgs.specs.declared.request.SubRequest.TheVariants as request
use Rattle.ua_sub_msgs.specs.declared.reply.SubReply.TheVariants as reply
use Rattle.ua_sub_msgs.specs.declared.notification.Notification.TheVariants as notification
use Rattle.ua_sub_msgs.specs.declared.filter.Filter.TheVariants as filter
use Rattle.ua_structures.proofs.BodyLaws.{Spells}
use Rattle.ua_sub_msgs.specs.Structures.{a_create_monitored_items_request, a_create_monitored_items_response, a_create_subscription_request, a_create_subscription_response, a_data_change_filter, a_data_change_notification, a_delete_monitored_items_request, a_delete_subscriptions_request, a_modify_subscription_request, a_modify_subscription_response, a_publish_request, a_publish_response, a_republish_request, a_republish_response, a_results_response, a_set_monitoring_mode_request, a_set_publishing_mode_request, a_status_change_notification, a_transfer_subscriptions_request, a_transfer_subscriptions_response}
use Rattle.ua_sub_msgs.specs.Families.{sub_requests, request_put, sub_replies, reply_put, notifications, notification_put, filters, filter_put}

pub request_spelled : Spells sub_requests request_put
request_spelled (request.CreateMonitoredItems p) kept = (p, refl, a_create_monitored_items_request.spelled p kept)
request_spelled (request.SetMonitoringMode p) kept = (p, refl, a_set_monitoring_mode_request.spelled p kept)
request_spelled (request.DeleteMonitoredItems p) kept = (p, refl, a_delete_monitored_items_request.spelled p kept)
request_spelled (request.CreateSubscription p) kept = (p, refl, a_create_subscription_request.spelled p kept)
request_spelled (request.ModifySubscription p) kept = (p, refl, a_modify_subscription_request.spelled p kept)
request_spelled (request.SetPublishingMode p) kept = (p, refl, a_set_publishing_mode_request.spelled p kept)
request_spelled (request.Publish p) kept = (p, refl, a_publish_request.spelled p kept)
request_spelled (request.Republish p) kept = (p, refl, a_republish_request.spelled p kept)
request_spelled (request.TransferSubscriptions p) kept = (p, refl, a_transfer_subscriptions_request.spelled p kept)
request_spelled (request.DeleteSubscriptions p) kept = (p, refl, a_delete_subscriptions_request.spelled p kept)

pub reply_spelled : Spells sub_replies reply_put
reply_spelled (reply.CreateMonitoredItems p) kept = (p, refl, a_create_monitored_items_response.spelled p kept)
reply_spelled (reply.SetMonitoringMode p) kept = (p, refl, a_results_response.spelled p kept)
reply_spelled (reply.DeleteMonitoredItems p) kept = (p, refl, a_results_response.spelled p kept)
reply_spelled (reply.CreateSubscription p) kept = (p, refl, a_create_subscription_response.spelled p kept)
reply_spelled (reply.ModifySubscription p) kept = (p, refl, a_modify_subscription_response.spelled p kept)
reply_spelled (reply.SetPublishingMode p) kept = (p, refl, a_results_response.spelled p kept)
reply_spelled (reply.Publish p) kept = (p, refl, a_publish_response.spelled p kept)
reply_spelled (reply.Republish p) kept = (p, refl, a_republish_response.spelled p kept)
reply_spelled (reply.TransferSubscriptions p) kept = (p, refl, a_transfer_subscriptions_response.spelled p kept)
reply_spelled (reply.DeleteSubscriptions p) kept = (p, refl, a_results_response.spelled p kept)

pub notification_spelled : Spells notifications notification_put
notification_spelled (notification.DataChange p) kept = (p, refl, a_data_change_notification.spelled p kept)
notification_spelled (notification.StatusChange p) kept = (p, refl, a_status_change_notification.spelled p kept)

pub filter_spelled : Spells filters filter_put
filter_spelled (filter.DataChange p) kept = (p, refl, a_data_change_filter.spelled p kept)
