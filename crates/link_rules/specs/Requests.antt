-- The requests of a link, with what it asks for. Fields that say nothing are 0, false, null or empty.
use Rattle.std.specs.Prelude.{ℕ, ℤ, zero, suc, pos, List, [], ◌∷◌, ◌++◌, map, codes, true, false, Some, None}
use Rattle.ua_base.specs.declared.modes.Mode.{Mode}
use Rattle.ua_base.specs.Modes.{mode_number}
use Rattle.ua_values.specs.declared.node.NodeId.TheVariants as node
use Rattle.ua_values.specs.declared.extension.ExtensionObject.{ExtensionObject}
use Rattle.ua_structures.specs.declared.shared.ReadValueId.{ReadValueId}
use Rattle.ua_structures.specs.Structures.{no_object}
use Rattle.ua_structures.specs.Body.{object_by}
use Rattle.ua_chunks.specs.declared.greeting.Greeting.{Greeting}
use Rattle.ua_session_msgs.specs.declared.discovery.ApplicationDescription.{ApplicationDescription}
use Rattle.ua_session_msgs.specs.declared.session.SignatureData.{SignatureData}
use Rattle.ua_session_msgs.specs.declared.identity.IdentityToken.TheVariants as identity
use Rattle.ua_session_msgs.specs.declared.request.SessionRequest.TheVariants as session_request
use Rattle.ua_session_msgs.specs.Families.{identity_tokens, token_put}
use Rattle.ua_sub_msgs.specs.declared.item.MonitoredItemCreateRequest.{MonitoredItemCreateRequest}
use Rattle.ua_sub_msgs.specs.declared.publish.SubscriptionAcknowledgement.{SubscriptionAcknowledgement}
use Rattle.ua_sub_msgs.specs.declared.request.SubRequest.TheVariants as sub_request
use Rattle.ua_services.specs.declared.request.Request.{Request}
use Rattle.ua_services.specs.declared.request.Request.TheVariants as request
use Rattle.link_rules.specs.declared.config.LinkConfig.{LinkConfig}
use Rattle.link_rules.specs.State.{LinkState}
use Rattle.link_rules.specs.Asking.{header, null_header}

-- ---- the connection and its channel

-- OPC 10000-6, 7.1.2.3
abbrev pub hello : Greeting
hello = record { version = 0; receive = 65536; send = 65536; max_message = 1048576; max_chunks = 64 }

-- OPC 10000-4, 5.5.2: without security, for an hour; the type is 0 to issue a token and 1 to renew it
unfoldable pub channel_request : ℤ → LinkState → Request
channel_request which l = request.Session (session_request.OpenSecureChannel (record {
  request_header = null_header l;
  client_protocol_version = 0;
  request_type = which;
  security_mode = pos 1;
  client_nonce = None;
  requested_lifetime = 3600000;
}))

-- ---- the session

-- a client by its application type
abbrev pub client_description : ApplicationDescription
client_description = record {
  application_uri = Some (codes "urn:uaset:client");
  product_uri = None;
  application_name = record { locale = None; text = None };
  application_type = pos 1;
  gateway_server_uri = None;
  discovery_profile_uri = None;
  discovery_urls = [];
}

-- OPC 10000-4, 5.6.2: the timeout is the Double 60000.0, in milliseconds
unfoldable pub session_request_of : LinkState → Request
session_request_of l = request.Session (session_request.CreateSession (record {
  request_header = null_header l;
  client_description = client_description;
  server_uri = None;
  endpoint_url = l.url;
  session_name = None;
  client_nonce = None;
  client_certificate = None;
  requested_session_timeout = 0x40ED_4C00_0000_0000;
  max_response_message_size = 0;
}))

abbrev pub no_signature : SignatureData
no_signature = record { algorithm = None; signature = None }

abbrev pub anonymous : ExtensionObject
anonymous = object_by identity_tokens token_put (identity.Anonymous (record { policy_id = Some (codes "anonymous") }))

-- OPC 10000-4, 5.6.3
unfoldable pub activation_request : LinkState → Request
activation_request l = request.Session (session_request.ActivateSession (record {
  request_header = header l;
  client_signature = no_signature;
  client_software_certificates = [];
  locale_ids = [];
  user_identity_token = anonymous;
  user_token_signature = no_signature;
}))

-- ---- the redundancy of the server

-- the value of a node (OPC 10000-4, 7.29)
abbrev pub value_id : ℕ → ℕ → ReadValueId
value_id namespace id = record {
  node_id = node.Numeric namespace id;
  attribute_id = 13;
  index_range = None;
  data_encoding = record { namespace = 0; name = None };
}

abbrev pub read_request : List ReadValueId → LinkState → Request
read_request nodes l = request.Session (session_request.Read (record {
  request_header = header l;
  max_age = 0;
  timestamps_to_return = pos 0;
  nodes_to_read = nodes;
}))

-- ServiceLevel and RedundancySupport (OPC 10000-5, 6.3.1 and 6.3.7)
unfoldable pub probe_request : LinkState → Request
probe_request l = read_request (value_id 0 2267 ∷ value_id 0 3709 ∷ []) l

-- ServiceLevel
unfoldable pub level_request : LinkState → Request
level_request l = read_request (value_id 0 2267 ∷ []) l

-- ---- the subscription

-- OPC 10000-4, 5.13.2: the interval is the Double 100.0, in milliseconds
unfoldable pub subscription_request : LinkState → Request
subscription_request l = request.Subscription (sub_request.CreateSubscription (record {
  request_header = header l;
  requested_publishing_interval = 0x4059_0000_0000_0000;
  requested_lifetime_count = 600;
  requested_max_keep_alive_count = 10;
  max_notifications_per_publish = 1000;
  publishing_enabled = true;
  priority = 0;
}))

-- OPC 10000-4, 5.13.7: without the current values
unfoldable pub transfer_request : ℕ → LinkState → Request
transfer_request id l = request.Subscription (sub_request.TransferSubscriptions (record {
  request_header = header l;
  subscription_ids = id ∷ [];
  send_initial_values = false;
}))

-- OPC 10000-4, 5.13.6
unfoldable pub republish_request : ℕ → ℕ → LinkState → Request
republish_request id number l = request.Subscription (sub_request.Republish (record {
  request_header = header l;
  subscription_id = id;
  retransmit_sequence_number = number;
}))

abbrev pub acknowledgement : ℕ → ℕ → SubscriptionAcknowledgement
acknowledgement id number = record { subscription_id = id; sequence_number = number }

-- OPC 10000-4, 5.13.5: with all acknowledgements that are due
unfoldable pub publish_request : ℕ → LinkState → Request
publish_request id l = request.Subscription (sub_request.Publish (record {
  request_header = header l;
  subscription_acknowledgements = map (acknowledgement id) l.acks;
}))

-- ---- its items

-- an item is a node of namespace 2, under its number as handle (OPC 10000-4, 7.21)
unfoldable pub item_request : LinkConfig → ℕ → MonitoredItemCreateRequest
item_request config item = record {
  item_to_monitor = value_id 2 item;
  monitoring_mode = pos (mode_number config.rest);
  requested_parameters = record {
    client_handle = item;
    sampling_interval = 0;
    filter = no_object;
    queue_size = config.queue;
    discard_oldest = config.oldest;
  };
}

-- so many of them, from 1 on
abbrev pub item_requests : LinkConfig → ℕ → List MonitoredItemCreateRequest
item_requests config zero = []
item_requests config (suc count) = item_requests config count ++ item_request config (suc count) ∷ []

-- OPC 10000-4, 5.12.2: values come with the source's time
unfoldable pub items_request : ℕ → LinkState → Request
items_request id l = request.Subscription (sub_request.CreateMonitoredItems (record {
  request_header = header l;
  subscription_id = id;
  timestamps_to_return = pos 0;
  items_to_create = item_requests l.config l.config.items;
}))

-- OPC 10000-4, 5.12.4: all items at once
unfoldable pub mode_request : ℕ → Mode → LinkState → Request
mode_request id mode l = request.Subscription (sub_request.SetMonitoringMode (record {
  request_header = header l;
  subscription_id = id;
  monitoring_mode = pos (mode_number mode);
  monitored_item_ids = map (λ monitored. monitored.id) l.monitored;
}))
