-- The structures of this crate: their fields in their order.
use Rattle.std.specs.Prelude.{refl}
use Rattle.ua_sub_msgs.specs.declared.filter.DataChangeFilter.{DataChangeFilter}
use Rattle.ua_sub_msgs.specs.declared.item.MonitoringParameters.{MonitoringParameters}
use Rattle.ua_sub_msgs.specs.declared.item.MonitoredItemCreateRequest.{MonitoredItemCreateRequest}
use Rattle.ua_sub_msgs.specs.declared.item.MonitoredItemCreateResult.{MonitoredItemCreateResult}
use Rattle.ua_sub_msgs.specs.declared.item.CreateMonitoredItemsRequest.{CreateMonitoredItemsRequest}
use Rattle.ua_sub_msgs.specs.declared.item.CreateMonitoredItemsResponse.{CreateMonitoredItemsResponse}
use Rattle.ua_sub_msgs.specs.declared.item.SetMonitoringModeRequest.{SetMonitoringModeRequest}
use Rattle.ua_sub_msgs.specs.declared.item.DeleteMonitoredItemsRequest.{DeleteMonitoredItemsRequest}
use Rattle.ua_sub_msgs.specs.declared.notification.MonitoredItemNotification.{MonitoredItemNotification}
use Rattle.ua_sub_msgs.specs.declared.notification.DataChangeNotification.{DataChangeNotification}
use Rattle.ua_sub_msgs.specs.declared.notification.StatusChangeNotification.{StatusChangeNotification}
use Rattle.ua_sub_msgs.specs.declared.notification.NotificationMessage.{NotificationMessage}
use Rattle.ua_sub_msgs.specs.declared.subscription.CreateSubscriptionRequest.{CreateSubscriptionRequest}
use Rattle.ua_sub_msgs.specs.declared.subscription.CreateSubscriptionResponse.{CreateSubscriptionResponse}
use Rattle.ua_sub_msgs.specs.declared.subscription.ModifySubscriptionRequest.{ModifySubscriptionRequest}
use Rattle.ua_sub_msgs.specs.declared.subscription.ModifySubscriptionResponse.{ModifySubscriptionResponse}
use Rattle.ua_sub_msgs.specs.declared.subscription.SetPublishingModeRequest.{SetPublishingModeRequest}
use Rattle.ua_sub_msgs.specs.declared.subscription.TransferSubscriptionsRequest.{TransferSubscriptionsRequest}
use Rattle.ua_sub_msgs.specs.declared.subscription.TransferResult.{TransferResult}
use Rattle.ua_sub_msgs.specs.declared.subscription.TransferSubscriptionsResponse.{TransferSubscriptionsResponse}
use Rattle.ua_sub_msgs.specs.declared.subscription.DeleteSubscriptionsRequest.{DeleteSubscriptionsRequest}
use Rattle.ua_sub_msgs.specs.declared.results.ResultsResponse.{ResultsResponse}
use Rattle.ua_sub_msgs.specs.declared.publish.SubscriptionAcknowledgement.{SubscriptionAcknowledgement}
use Rattle.ua_sub_msgs.specs.declared.publish.PublishRequest.{PublishRequest}
use Rattle.ua_sub_msgs.specs.declared.publish.PublishResponse.{PublishResponse}
use Rattle.ua_sub_msgs.specs.declared.publish.RepublishRequest.{RepublishRequest}
use Rattle.ua_sub_msgs.specs.declared.publish.RepublishResponse.{RepublishResponse}
use Rattle.ua_structures.specs.Form.{Form, a_boolean, a_byte, a_data_value, a_date_time, a_diagnostic_info, a_double, a_uint32, an_array, an_extension_object, an_int32, structure, ◌then◌}
use Rattle.ua_structures.specs.Structures.{a_read_value_id, a_request_header, a_response_header, unused_diagnostics}

-- the reply to SetMonitoringMode, DeleteMonitoredItems, SetPublishingMode and DeleteSubscriptions
-- (OPC 10000-4, 5.12.4, 5.12.6, 5.13.4 and 5.13.8)
unfoldable pub a_results_response : Form ResultsResponse
a_results_response = structure (a_response_header then an_array a_uint32 then unused_diagnostics)
    (λ r. (r.response_header, (r.results, r.diagnostic_infos)))
    (λ f. record { response_header = f.0; results = f.1.0; diagnostic_infos = f.1.1 }) (λ r. refl) (λ f. refl)

-- OPC 10000-4, 7.17.2
unfoldable pub a_data_change_filter : Form DataChangeFilter
a_data_change_filter = structure (an_int32 then a_uint32 then a_double)
    (λ r. (r.trigger, (r.deadband_type, r.deadband_value)))
    (λ f. record { trigger = f.0; deadband_type = f.1.0; deadband_value = f.1.1 }) (λ r. refl) (λ f. refl)

-- OPC 10000-4, 7.16
unfoldable pub a_monitoring_parameters : Form MonitoringParameters
a_monitoring_parameters = structure (a_uint32 then a_double then an_extension_object then a_uint32 then a_boolean)
    (λ r. (r.client_handle, (r.sampling_interval, (r.filter, (r.queue_size, r.discard_oldest)))))
    (λ f. record { client_handle = f.0; sampling_interval = f.1.0; filter = f.1.1.0; queue_size = f.1.1.1.0; discard_oldest = f.1.1.1.1 }) (λ r. refl) (λ f. refl)

-- OPC 10000-4, 5.12.2
unfoldable pub a_monitored_item_create_request : Form MonitoredItemCreateRequest
a_monitored_item_create_request = structure (a_read_value_id then an_int32 then a_monitoring_parameters)
    (λ r. (r.item_to_monitor, (r.monitoring_mode, r.requested_parameters)))
    (λ f. record { item_to_monitor = f.0; monitoring_mode = f.1.0; requested_parameters = f.1.1 }) (λ r. refl) (λ f. refl)

-- OPC 10000-4, 5.12.2
unfoldable pub a_monitored_item_create_result : Form MonitoredItemCreateResult
a_monitored_item_create_result = structure (a_uint32 then a_uint32 then a_double then a_uint32 then an_extension_object)
    (λ r. (r.status_code, (r.monitored_item_id, (r.revised_sampling_interval, (r.revised_queue_size, r.filter_result)))))
    (λ f. record { status_code = f.0; monitored_item_id = f.1.0; revised_sampling_interval = f.1.1.0; revised_queue_size = f.1.1.1.0; filter_result = f.1.1.1.1 }) (λ r. refl) (λ f. refl)

-- OPC 10000-4, 5.12.2
unfoldable pub a_create_monitored_items_request : Form CreateMonitoredItemsRequest
a_create_monitored_items_request = structure (a_request_header then a_uint32 then an_int32 then an_array a_monitored_item_create_request)
    (λ r. (r.request_header, (r.subscription_id, (r.timestamps_to_return, r.items_to_create))))
    (λ f. record { request_header = f.0; subscription_id = f.1.0; timestamps_to_return = f.1.1.0; items_to_create = f.1.1.1 }) (λ r. refl) (λ f. refl)

-- OPC 10000-4, 5.12.2
unfoldable pub a_create_monitored_items_response : Form CreateMonitoredItemsResponse
a_create_monitored_items_response = structure (a_response_header then an_array a_monitored_item_create_result then unused_diagnostics)
    (λ r. (r.response_header, (r.results, r.diagnostic_infos)))
    (λ f. record { response_header = f.0; results = f.1.0; diagnostic_infos = f.1.1 }) (λ r. refl) (λ f. refl)

-- OPC 10000-4, 5.12.4
unfoldable pub a_set_monitoring_mode_request : Form SetMonitoringModeRequest
a_set_monitoring_mode_request = structure (a_request_header then a_uint32 then an_int32 then an_array a_uint32)
    (λ r. (r.request_header, (r.subscription_id, (r.monitoring_mode, r.monitored_item_ids))))
    (λ f. record { request_header = f.0; subscription_id = f.1.0; monitoring_mode = f.1.1.0; monitored_item_ids = f.1.1.1 }) (λ r. refl) (λ f. refl)

-- OPC 10000-4, 5.12.6
unfoldable pub a_delete_monitored_items_request : Form DeleteMonitoredItemsRequest
a_delete_monitored_items_request = structure (a_request_header then a_uint32 then an_array a_uint32)
    (λ r. (r.request_header, (r.subscription_id, r.monitored_item_ids)))
    (λ f. record { request_header = f.0; subscription_id = f.1.0; monitored_item_ids = f.1.1 }) (λ r. refl) (λ f. refl)

-- OPC 10000-4, 7.20.2
unfoldable pub a_monitored_item_notification : Form MonitoredItemNotification
a_monitored_item_notification = structure (a_uint32 then a_data_value)
    (λ r. (r.client_handle, r.value))
    (λ f. record { client_handle = f.0; value = f.1 }) (λ r. refl) (λ f. refl)

-- OPC 10000-4, 7.20.2
unfoldable pub a_data_change_notification : Form DataChangeNotification
a_data_change_notification = structure (an_array a_monitored_item_notification then unused_diagnostics)
    (λ r. (r.monitored_items, r.diagnostic_infos))
    (λ f. record { monitored_items = f.0; diagnostic_infos = f.1 }) (λ r. refl) (λ f. refl)

-- OPC 10000-4, 7.20.4
unfoldable pub a_status_change_notification : Form StatusChangeNotification
a_status_change_notification = structure (a_uint32 then a_diagnostic_info)
    (λ r. (r.status, r.diagnostic_info))
    (λ f. record { status = f.0; diagnostic_info = f.1 }) (λ r. refl) (λ f. refl)

-- OPC 10000-4, 7.21
unfoldable pub a_notification_message : Form NotificationMessage
a_notification_message = structure (a_uint32 then a_date_time then an_array an_extension_object)
    (λ r. (r.sequence_number, (r.publish_time, r.notification_data)))
    (λ f. record { sequence_number = f.0; publish_time = f.1.0; notification_data = f.1.1 }) (λ r. refl) (λ f. refl)

-- OPC 10000-4, 5.13.2
unfoldable pub a_create_subscription_request : Form CreateSubscriptionRequest
a_create_subscription_request = structure (a_request_header then a_double then a_uint32 then a_uint32 then a_uint32 then a_boolean then a_byte)
    (λ r. (r.request_header, (r.requested_publishing_interval, (r.requested_lifetime_count, (r.requested_max_keep_alive_count, (r.max_notifications_per_publish, (r.publishing_enabled, r.priority)))))))
    (λ f. record { request_header = f.0; requested_publishing_interval = f.1.0; requested_lifetime_count = f.1.1.0; requested_max_keep_alive_count = f.1.1.1.0; max_notifications_per_publish = f.1.1.1.1.0; publishing_enabled = f.1.1.1.1.1.0; priority = f.1.1.1.1.1.1 }) (λ r. refl) (λ f. refl)

-- OPC 10000-4, 5.13.2
unfoldable pub a_create_subscription_response : Form CreateSubscriptionResponse
a_create_subscription_response = structure (a_response_header then a_uint32 then a_double then a_uint32 then a_uint32)
    (λ r. (r.response_header, (r.subscription_id, (r.revised_publishing_interval, (r.revised_lifetime_count, r.revised_max_keep_alive_count)))))
    (λ f. record { response_header = f.0; subscription_id = f.1.0; revised_publishing_interval = f.1.1.0; revised_lifetime_count = f.1.1.1.0; revised_max_keep_alive_count = f.1.1.1.1 }) (λ r. refl) (λ f. refl)

-- OPC 10000-4, 5.13.3
unfoldable pub a_modify_subscription_request : Form ModifySubscriptionRequest
a_modify_subscription_request = structure (a_request_header then a_uint32 then a_double then a_uint32 then a_uint32 then a_uint32 then a_byte)
    (λ r. (r.request_header, (r.subscription_id, (r.requested_publishing_interval, (r.requested_lifetime_count, (r.requested_max_keep_alive_count, (r.max_notifications_per_publish, r.priority)))))))
    (λ f. record { request_header = f.0; subscription_id = f.1.0; requested_publishing_interval = f.1.1.0; requested_lifetime_count = f.1.1.1.0; requested_max_keep_alive_count = f.1.1.1.1.0; max_notifications_per_publish = f.1.1.1.1.1.0; priority = f.1.1.1.1.1.1 }) (λ r. refl) (λ f. refl)

-- OPC 10000-4, 5.13.3
unfoldable pub a_modify_subscription_response : Form ModifySubscriptionResponse
a_modify_subscription_response = structure (a_response_header then a_double then a_uint32 then a_uint32)
    (λ r. (r.response_header, (r.revised_publishing_interval, (r.revised_lifetime_count, r.revised_max_keep_alive_count))))
    (λ f. record { response_header = f.0; revised_publishing_interval = f.1.0; revised_lifetime_count = f.1.1.0; revised_max_keep_alive_count = f.1.1.1 }) (λ r. refl) (λ f. refl)

-- OPC 10000-4, 5.13.4
unfoldable pub a_set_publishing_mode_request : Form SetPublishingModeRequest
a_set_publishing_mode_request = structure (a_request_header then a_boolean then an_array a_uint32)
    (λ r. (r.request_header, (r.publishing_enabled, r.subscription_ids)))
    (λ f. record { request_header = f.0; publishing_enabled = f.1.0; subscription_ids = f.1.1 }) (λ r. refl) (λ f. refl)

-- OPC 10000-4, 5.13.7
unfoldable pub a_transfer_subscriptions_request : Form TransferSubscriptionsRequest
a_transfer_subscriptions_request = structure (a_request_header then an_array a_uint32 then a_boolean)
    (λ r. (r.request_header, (r.subscription_ids, r.send_initial_values)))
    (λ f. record { request_header = f.0; subscription_ids = f.1.0; send_initial_values = f.1.1 }) (λ r. refl) (λ f. refl)

-- OPC 10000-4, 5.13.7
unfoldable pub a_transfer_result : Form TransferResult
a_transfer_result = structure (a_uint32 then an_array a_uint32)
    (λ r. (r.status_code, r.available_sequence_numbers))
    (λ f. record { status_code = f.0; available_sequence_numbers = f.1 }) (λ r. refl) (λ f. refl)

-- OPC 10000-4, 5.13.7
unfoldable pub a_transfer_subscriptions_response : Form TransferSubscriptionsResponse
a_transfer_subscriptions_response = structure (a_response_header then an_array a_transfer_result then unused_diagnostics)
    (λ r. (r.response_header, (r.results, r.diagnostic_infos)))
    (λ f. record { response_header = f.0; results = f.1.0; diagnostic_infos = f.1.1 }) (λ r. refl) (λ f. refl)

-- OPC 10000-4, 5.13.8
unfoldable pub a_delete_subscriptions_request : Form DeleteSubscriptionsRequest
a_delete_subscriptions_request = structure (a_request_header then an_array a_uint32)
    (λ r. (r.request_header, r.subscription_ids))
    (λ f. record { request_header = f.0; subscription_ids = f.1 }) (λ r. refl) (λ f. refl)

-- OPC 10000-4, 5.13.5
unfoldable pub a_subscription_acknowledgement : Form SubscriptionAcknowledgement
a_subscription_acknowledgement = structure (a_uint32 then a_uint32)
    (λ r. (r.subscription_id, r.sequence_number))
    (λ f. record { subscription_id = f.0; sequence_number = f.1 }) (λ r. refl) (λ f. refl)

-- OPC 10000-4, 5.13.5
unfoldable pub a_publish_request : Form PublishRequest
a_publish_request = structure (a_request_header then an_array a_subscription_acknowledgement)
    (λ r. (r.request_header, r.subscription_acknowledgements))
    (λ f. record { request_header = f.0; subscription_acknowledgements = f.1 }) (λ r. refl) (λ f. refl)

-- OPC 10000-4, 5.13.5
unfoldable pub a_publish_response : Form PublishResponse
a_publish_response = structure (a_response_header then a_uint32 then an_array a_uint32 then a_boolean then a_notification_message then an_array a_uint32 then unused_diagnostics)
    (λ r. (r.response_header, (r.subscription_id, (r.available_sequence_numbers, (r.more_notifications, (r.notification_message, (r.results, r.diagnostic_infos)))))))
    (λ f. record { response_header = f.0; subscription_id = f.1.0; available_sequence_numbers = f.1.1.0; more_notifications = f.1.1.1.0; notification_message = f.1.1.1.1.0; results = f.1.1.1.1.1.0; diagnostic_infos = f.1.1.1.1.1.1 }) (λ r. refl) (λ f. refl)

-- OPC 10000-4, 5.13.6
unfoldable pub a_republish_request : Form RepublishRequest
a_republish_request = structure (a_request_header then a_uint32 then a_uint32)
    (λ r. (r.request_header, (r.subscription_id, r.retransmit_sequence_number)))
    (λ f. record { request_header = f.0; subscription_id = f.1.0; retransmit_sequence_number = f.1.1 }) (λ r. refl) (λ f. refl)

-- OPC 10000-4, 5.13.6
unfoldable pub a_republish_response : Form RepublishResponse
a_republish_response = structure (a_response_header then a_notification_message)
    (λ r. (r.response_header, r.notification_message))
    (λ f. record { response_header = f.0; notification_message = f.1 }) (λ r. refl) (λ f. refl)
