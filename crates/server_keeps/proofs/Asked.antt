-- What a request that keeps the limits says.
use Rattle.std.proofs.Common.{◌≤◌, length}
use Rattle.std.specs.List.{AllByRecursion}
use Rattle.ua_values.specs.Limits.{most_items}
use Rattle.ua_structures.specs.declared.header.RequestHeader.{RequestHeader}
use Rattle.ua_structures.specs.Structures.{a_request_header}
use Rattle.ua_session_msgs.specs.declared.attribute.ReadRequest.{ReadRequest}
use Rattle.ua_session_msgs.specs.declared.method.CallRequest.{CallRequest}
use Rattle.ua_session_msgs.specs.declared.request.SessionRequest.{SessionRequest}
use Rattle.ua_session_msgs.specs.declared.request.SessionRequest.TheVariants as session_request
use Rattle.ua_session_msgs.specs.Families as session
use Rattle.ua_session_msgs.specs.Structures.{a_call_request, a_close_session_request, a_create_session_request, a_find_servers_request, a_get_endpoints_request, a_read_request, an_activate_session_request, an_open_secure_channel_request}
use Rattle.ua_sub_msgs.specs.declared.item.CreateMonitoredItemsRequest.{CreateMonitoredItemsRequest}
use Rattle.ua_sub_msgs.specs.declared.item.DeleteMonitoredItemsRequest.{DeleteMonitoredItemsRequest}
use Rattle.ua_sub_msgs.specs.declared.item.MonitoredItemCreateRequest.{MonitoredItemCreateRequest}
use Rattle.ua_sub_msgs.specs.declared.item.SetMonitoringModeRequest.{SetMonitoringModeRequest}
use Rattle.ua_sub_msgs.specs.declared.publish.PublishRequest.{PublishRequest}
use Rattle.ua_sub_msgs.specs.declared.request.SubRequest.{SubRequest}
use Rattle.ua_sub_msgs.specs.declared.request.SubRequest.TheVariants as sub_request
use Rattle.ua_sub_msgs.specs.declared.subscription.DeleteSubscriptionsRequest.{DeleteSubscriptionsRequest}
use Rattle.ua_sub_msgs.specs.declared.subscription.SetPublishingModeRequest.{SetPublishingModeRequest}
use Rattle.ua_sub_msgs.specs.declared.subscription.TransferSubscriptionsRequest.{TransferSubscriptionsRequest}
use Rattle.ua_sub_msgs.specs.Families as sub
use Rattle.ua_sub_msgs.specs.Structures.{a_create_monitored_items_request, a_create_subscription_request, a_delete_monitored_items_request, a_delete_subscriptions_request, a_modify_subscription_request, a_monitored_item_create_request, a_monitoring_parameters, a_publish_request, a_republish_request, a_set_monitoring_mode_request, a_set_publishing_mode_request, a_transfer_subscriptions_request}
use Rattle.ua_services.specs.declared.request.Request.{Request}
use Rattle.ua_services.specs.declared.request.Request.TheVariants as request
use Rattle.ua_services.specs.Families.{request_put}
use Rattle.ua_services.specs.Requests.{header_of, session_header, sub_header}
use Rattle.server_keeps.specs.Fitting.{IsUInt32}

-- ---- handles

handle_fits : (header : RequestHeader) → a_request_header.keeps header → IsUInt32 header.request_handle
unfolding a_request_header
handle_fits header h = h.1.1.0

pub opening_handle : (r : SessionRequest) → (session.request_put r).keeps → IsUInt32 (session_header r).request_handle
unfolding an_open_secure_channel_request a_find_servers_request a_get_endpoints_request a_create_session_request an_activate_session_request a_close_session_request a_read_request a_call_request
opening_handle (session_request.OpenSecureChannel r) h = handle_fits r.request_header h.0
opening_handle (session_request.CloseSecureChannel r) h = handle_fits r h
opening_handle (session_request.FindServers r) h = handle_fits r.request_header h.0
opening_handle (session_request.GetEndpoints r) h = handle_fits r.request_header h.0
opening_handle (session_request.CreateSession r) h = handle_fits r.request_header h.0
opening_handle (session_request.ActivateSession r) h = handle_fits r.request_header h.0
opening_handle (session_request.CloseSession r) h = handle_fits r.request_header h.0
opening_handle (session_request.Read r) h = handle_fits r.request_header h.0
opening_handle (session_request.Call r) h = handle_fits r.request_header h.0

sub_handle : (r : SubRequest) → (sub.request_put r).keeps → IsUInt32 (sub_header r).request_handle
unfolding a_create_monitored_items_request a_set_monitoring_mode_request a_delete_monitored_items_request a_create_subscription_request a_modify_subscription_request a_set_publishing_mode_request a_publish_request a_republish_request a_transfer_subscriptions_request a_delete_subscriptions_request
sub_handle (sub_request.CreateMonitoredItems r) h = handle_fits r.request_header h.0
sub_handle (sub_request.SetMonitoringMode r) h = handle_fits r.request_header h.0
sub_handle (sub_request.DeleteMonitoredItems r) h = handle_fits r.request_header h.0
sub_handle (sub_request.CreateSubscription r) h = handle_fits r.request_header h.0
sub_handle (sub_request.ModifySubscription r) h = handle_fits r.request_header h.0
sub_handle (sub_request.SetPublishingMode r) h = handle_fits r.request_header h.0
sub_handle (sub_request.Publish r) h = handle_fits r.request_header h.0
sub_handle (sub_request.Republish r) h = handle_fits r.request_header h.0
sub_handle (sub_request.TransferSubscriptions r) h = handle_fits r.request_header h.0
sub_handle (sub_request.DeleteSubscriptions r) h = handle_fits r.request_header h.0

pub handle_of : (r : Request) → (request_put r).keeps → IsUInt32 (header_of r).request_handle
handle_of (request.Session r) h = opening_handle r h
handle_of (request.Subscription r) h = sub_handle r h

-- ---- how many operations

pub items_asked : (r : CreateMonitoredItemsRequest) → a_create_monitored_items_request.keeps r
    → (length r.items_to_create ≤ most_items) × AllByRecursion a_monitored_item_create_request.keeps r.items_to_create
unfolding a_create_monitored_items_request
items_asked r h = h.1.1.1

pub item_handle : (r : MonitoredItemCreateRequest) → a_monitored_item_create_request.keeps r → IsUInt32 r.requested_parameters.client_handle
unfolding a_monitored_item_create_request a_monitoring_parameters
item_handle r h = h.1.1.0

pub modes_asked : (r : SetMonitoringModeRequest) → a_set_monitoring_mode_request.keeps r → length r.monitored_item_ids ≤ most_items
unfolding a_set_monitoring_mode_request
modes_asked r h = h.1.1.1.0

pub deletes_asked : (r : DeleteMonitoredItemsRequest) → a_delete_monitored_items_request.keeps r → length r.monitored_item_ids ≤ most_items
unfolding a_delete_monitored_items_request
deletes_asked r h = h.1.1.0

pub publishing_asked : (r : SetPublishingModeRequest) → a_set_publishing_mode_request.keeps r → length r.subscription_ids ≤ most_items
unfolding a_set_publishing_mode_request
publishing_asked r h = h.1.1.0

pub transfers_asked : (r : TransferSubscriptionsRequest) → a_transfer_subscriptions_request.keeps r → length r.subscription_ids ≤ most_items
unfolding a_transfer_subscriptions_request
transfers_asked r h = h.1.0.0

pub subs_asked : (r : DeleteSubscriptionsRequest) → a_delete_subscriptions_request.keeps r → length r.subscription_ids ≤ most_items
unfolding a_delete_subscriptions_request
subs_asked r h = h.1.0

pub acks_asked : (r : PublishRequest) → a_publish_request.keeps r → length r.subscription_acknowledgements ≤ most_items
unfolding a_publish_request
acks_asked r h = h.1.0

pub nodes_asked : (r : ReadRequest) → a_read_request.keeps r → length r.nodes_to_read ≤ most_items
unfolding a_read_request
nodes_asked r h = h.1.1.1.0

pub calls_asked : (r : CallRequest) → a_call_request.keeps r → length r.methods_to_call ≤ most_items
unfolding a_call_request
calls_asked r h = h.1.0
