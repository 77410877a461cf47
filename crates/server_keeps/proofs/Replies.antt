-- Which replies keep the limits, field by field.
use Rattle.std.proofs.Common.{ℕ, ℤ, ◌^◌, ◌<◌, ◌≤◌, List, [], None, length, FitsSigned, arith}
use Rattle.std.specs.List.{AllByRecursion}
use Rattle.std.specs.Int.{w64}
use Rattle.ua_values.specs.Limits.{most_items}
use Rattle.ua_values.specs.Laws.{KeepsArray, KeepsText}
use Rattle.ua_variants.specs.declared.variant.Array.TheVariants as array
use Rattle.ua_variants.specs.declared.variant.Stamped.{Stamped}
use Rattle.ua_variants.specs.declared.variant.Variant.{Variant}
use Rattle.ua_variants.specs.declared.variant.Variant.TheVariants as variant
use Rattle.ua_variants.specs.Keeps.{KeepsDataValue, KeepsVariant}
use Rattle.ua_structures.specs.declared.header.ResponseHeader.{ResponseHeader}
use Rattle.ua_structures.specs.Structures.{a_response_header, an_unused_of_response, no_object, response_header, unused_diagnostics}
use Rattle.ua_session_msgs.specs.declared.channel.OpenSecureChannelResponse.{OpenSecureChannelResponse}
use Rattle.ua_session_msgs.specs.declared.method.CallMethodResult.{CallMethodResult}
use Rattle.ua_session_msgs.specs.Structures.{a_call_method_result, a_call_response, a_channel_security_token, a_read_response, an_open_secure_channel_response}
use Rattle.ua_sub_msgs.specs.declared.item.MonitoredItemCreateResult.{MonitoredItemCreateResult}
use Rattle.ua_sub_msgs.specs.declared.publish.PublishResponse.{PublishResponse}
use Rattle.ua_sub_msgs.specs.declared.publish.RepublishResponse.{RepublishResponse}
use Rattle.ua_sub_msgs.specs.declared.results.ResultsResponse.{ResultsResponse}
use Rattle.ua_sub_msgs.specs.declared.subscription.TransferResult.{TransferResult}
use Rattle.ua_sub_msgs.specs.Structures.{a_create_monitored_items_response, a_create_subscription_response, a_modify_subscription_response, a_monitored_item_create_result, a_notification_message, a_publish_response, a_republish_response, a_results_response, a_transfer_result, a_transfer_subscriptions_response}
use Rattle.server_keeps.specs.Fitting.{AreUInt32, IsUInt32}
use Rattle.server_keeps.proofs.Values.{KeepsData, array_keeps, data_keeps}
use Rattle.server_keeps.proofs.Lists.{all_to}

abbrev pub KeepsHeader : ResponseHeader → Type 0
KeepsHeader header = a_response_header.keeps header

pub header_keeps : (time : ℤ) (handle code : ℕ) → FitsSigned w64 time → IsUInt32 handle → IsUInt32 code → KeepsHeader (response_header time handle code)
unfolding a_response_header an_unused_of_response
header_keeps time handle code at h c = (at, (h, (c, tt)))

-- ---- subscriptions and items

pub results_keep : (r : ResultsResponse) → KeepsHeader r.response_header → AreUInt32 r.results → a_results_response.keeps r
unfolding a_results_response unused_diagnostics
results_keep r header results = (header, (results, tt))

pub publish_keeps : (r : PublishResponse) → KeepsHeader r.response_header → IsUInt32 r.subscription_id → AreUInt32 r.available_sequence_numbers
    → a_notification_message.keeps r.notification_message → AreUInt32 r.results → a_publish_response.keeps r
unfolding a_publish_response unused_diagnostics
publish_keeps r header id available message results = (header, (id, (available, (tt, (message, (results, tt))))))

pub republish_keeps : (r : RepublishResponse) → KeepsHeader r.response_header → a_notification_message.keeps r.notification_message
    → a_republish_response.keeps r
unfolding a_republish_response
republish_keeps r header message = (header, message)

pub result_keeps : (code id size : ℕ) → IsUInt32 code → IsUInt32 id → IsUInt32 size
    → a_monitored_item_create_result.keeps (record {
      status_code = code;
      monitored_item_id = id;
      revised_sampling_interval = 0;
      revised_queue_size = size;
      filter_result = no_object;
    })
unfolding a_monitored_item_create_result
result_keeps code id size c i s = (c, (i, (omega arith, (s, ((omega arith, omega arith), tt)))))

pub transfer_keeps : (r : TransferResult) → IsUInt32 r.status_code → AreUInt32 r.available_sequence_numbers → a_transfer_result.keeps r
unfolding a_transfer_result
transfer_keeps r code available = (code, available)

-- ---- replies with a list of results

pub created_items_keep : (header : ResponseHeader) (results : List MonitoredItemCreateResult) → KeepsHeader header
    → KeepsArray a_monitored_item_create_result.keeps results
    → a_create_monitored_items_response.keeps (record { response_header = header; results = results; diagnostic_infos = record {} })
unfolding a_create_monitored_items_response unused_diagnostics
created_items_keep header results h fits = (h, (fits, tt))

pub transfers_keep : (header : ResponseHeader) (results : List TransferResult) → KeepsHeader header → KeepsArray a_transfer_result.keeps results
    → a_transfer_subscriptions_response.keeps (record { response_header = header; results = results; diagnostic_infos = record {} })
unfolding a_transfer_subscriptions_response unused_diagnostics
transfers_keep header results h fits = (h, (fits, tt))

pub values_keep : (header : ResponseHeader) (values : List (Stamped Variant)) → KeepsHeader header → length values ≤ most_items
    → AllByRecursion KeepsData values → a_read_response.keeps (record { response_header = header; results = values; diagnostic_infos = record {} })
unfolding a_read_response unused_diagnostics
values_keep header values h few fits = (h, ((few, all_to KeepsData (KeepsDataValue 101) data_keeps values fits), tt))

pub calls_keep : (header : ResponseHeader) (results : List CallMethodResult) → KeepsHeader header → KeepsArray a_call_method_result.keeps results
    → a_call_response.keeps (record { response_header = header; results = results; diagnostic_infos = record {} })
unfolding a_call_response unused_diagnostics
calls_keep header results h fits = (h, (fits, tt))

pub method_keeps : (code : ℕ) (outputs : List Variant) → IsUInt32 code → KeepsArray (KeepsVariant 101) outputs
    → a_call_method_result.keeps (record {
      status_code = code;
      input_argument_results = [];
      input_argument_diagnostic_infos = record {};
      output_arguments = outputs;
    })
unfolding a_call_method_result unused_diagnostics
method_keeps code outputs c fits = (c, ((omega arith, tt), (tt, fits)))

-- an array of numbers, as a value
pub numbers_keep : (numbers : List ℕ) → AreUInt32 numbers → KeepsVariant 101 (variant.Array (array.UInt32 numbers) None)
numbers_keep numbers h = array_keeps 100 (array.UInt32 numbers) h

-- ---- subscriptions

pub created_sub_keeps : (header : ResponseHeader) (id interval lifetime keep_alive : ℕ) → KeepsHeader header → IsUInt32 id → interval < 2 ^ 64
    → IsUInt32 lifetime → IsUInt32 keep_alive
    → a_create_subscription_response.keeps (record {
      response_header = header;
      subscription_id = id;
      revised_publishing_interval = interval;
      revised_lifetime_count = lifetime;
      revised_max_keep_alive_count = keep_alive;
    })
unfolding a_create_subscription_response
created_sub_keeps header id interval lifetime keep_alive h i d l k = (h, (i, (d, (l, k))))

pub modified_sub_keeps : (header : ResponseHeader) (interval lifetime keep_alive : ℕ) → KeepsHeader header → interval < 2 ^ 64
    → IsUInt32 lifetime → IsUInt32 keep_alive
    → a_modify_subscription_response.keeps (record {
      response_header = header;
      revised_publishing_interval = interval;
      revised_lifetime_count = lifetime;
      revised_max_keep_alive_count = keep_alive;
    })
unfolding a_modify_subscription_response
modified_sub_keeps header interval lifetime keep_alive h d l k = (h, (d, (l, k)))

-- ---- secure channels

pub opened_keeps : (r : OpenSecureChannelResponse) → KeepsHeader r.response_header → IsUInt32 r.server_protocol_version
    → IsUInt32 r.security_token.channel_id → IsUInt32 r.security_token.token_id → FitsSigned w64 r.security_token.created_at
    → IsUInt32 r.security_token.revised_lifetime → KeepsText r.server_nonce → an_open_secure_channel_response.keeps r
unfolding an_open_secure_channel_response a_channel_security_token
opened_keeps r header version channel token at lifetime nonce = (header, (version, ((channel, (token, (at, lifetime))), nonce)))
