-- Status codes by their names in the standard (OPC 10000-4, 7.34; the numbers: OPC 10000-6, annex A.2). The highest bit says Bad.
use Rattle.std.specs.Prelude.{ℕ}

abbrev pub good : ℕ
good = 0x0000_0000

abbrev pub good_subscription_transferred : ℕ
good_subscription_transferred = 0x002D_0000

abbrev pub bad_decoding_error : ℕ
bad_decoding_error = 0x8007_0000

abbrev pub bad_encoding_limits_exceeded : ℕ
bad_encoding_limits_exceeded = 0x8008_0000

abbrev pub bad_timeout : ℕ
bad_timeout = 0x800A_0000

abbrev pub bad_service_unsupported : ℕ
bad_service_unsupported = 0x800B_0000

abbrev pub bad_nothing_to_do : ℕ
bad_nothing_to_do = 0x800F_0000

abbrev pub bad_too_many_operations : ℕ
bad_too_many_operations = 0x8010_0000

abbrev pub bad_identity_token_rejected : ℕ
bad_identity_token_rejected = 0x8021_0000

abbrev pub bad_secure_channel_id_invalid : ℕ
bad_secure_channel_id_invalid = 0x8022_0000

abbrev pub bad_session_id_invalid : ℕ
bad_session_id_invalid = 0x8025_0000

abbrev pub bad_session_closed : ℕ
bad_session_closed = 0x8026_0000

abbrev pub bad_session_not_activated : ℕ
bad_session_not_activated = 0x8027_0000

abbrev pub bad_subscription_id_invalid : ℕ
bad_subscription_id_invalid = 0x8028_0000

abbrev pub bad_timestamps_to_return_invalid : ℕ
bad_timestamps_to_return_invalid = 0x802B_0000

abbrev pub bad_node_id_unknown : ℕ
bad_node_id_unknown = 0x8034_0000

abbrev pub bad_attribute_id_invalid : ℕ
bad_attribute_id_invalid = 0x8035_0000

abbrev pub bad_index_range_invalid : ℕ
bad_index_range_invalid = 0x8036_0000

abbrev pub bad_data_encoding_invalid : ℕ
bad_data_encoding_invalid = 0x8038_0000

abbrev pub bad_monitoring_mode_invalid : ℕ
bad_monitoring_mode_invalid = 0x8041_0000

abbrev pub bad_monitored_item_id_invalid : ℕ
bad_monitored_item_id_invalid = 0x8042_0000

abbrev pub bad_monitored_item_filter_unsupported : ℕ
bad_monitored_item_filter_unsupported = 0x8044_0000

abbrev pub bad_security_policy_rejected : ℕ
bad_security_policy_rejected = 0x8055_0000

abbrev pub bad_too_many_sessions : ℕ
bad_too_many_sessions = 0x8056_0000

abbrev pub bad_method_invalid : ℕ
bad_method_invalid = 0x8075_0000

abbrev pub bad_arguments_missing : ℕ
bad_arguments_missing = 0x8076_0000

abbrev pub bad_too_many_subscriptions : ℕ
bad_too_many_subscriptions = 0x8077_0000

abbrev pub bad_too_many_publish_requests : ℕ
bad_too_many_publish_requests = 0x8078_0000

abbrev pub bad_no_subscription : ℕ
bad_no_subscription = 0x8079_0000

abbrev pub bad_sequence_number_unknown : ℕ
bad_sequence_number_unknown = 0x807A_0000

abbrev pub bad_message_not_available : ℕ
bad_message_not_available = 0x807B_0000

abbrev pub bad_tcp_message_type_invalid : ℕ
bad_tcp_message_type_invalid = 0x807E_0000

abbrev pub bad_tcp_secure_channel_unknown : ℕ
bad_tcp_secure_channel_unknown = 0x807F_0000

abbrev pub bad_tcp_message_too_large : ℕ
bad_tcp_message_too_large = 0x8080_0000

abbrev pub bad_secure_channel_token_unknown : ℕ
bad_secure_channel_token_unknown = 0x8087_0000

abbrev pub bad_sequence_number_invalid : ℕ
bad_sequence_number_invalid = 0x8088_0000

abbrev pub bad_invalid_argument : ℕ
bad_invalid_argument = 0x80AB_0000

abbrev pub bad_response_too_large : ℕ
bad_response_too_large = 0x80B9_0000

abbrev pub bad_too_many_monitored_items : ℕ
bad_too_many_monitored_items = 0x80DB_0000

-- the bits that say that an item's queue dropped values: the information is of a data value, and the overflow bit (OPC 10000-4, 7.34.1)
abbrev pub overflow_bits : ℕ
overflow_bits = 0x0480

-- the bits among which these are looked for: both bits of the kind of information, and the overflow bit
abbrev pub overflow_mask : ℕ
overflow_mask = 0x0C80
