-- Read and Call (OPC 10000-4, 5.10.2 and 5.11.2).
use Rattle.std.specs.Prelude.{ℕ, ℤ, ◌-◌, ◌==◌, ◌&&◌, List, [], ◌∷◌, Bool, true, false, not, length, map, is_some, is_none, Option, Some, None, Result, Ok, Err, slice_get, if◌then◌else◌}
use Rattle.ua_base.specs.Status.{good, bad_arguments_missing, bad_data_encoding_invalid, bad_index_range_invalid, bad_invalid_argument, bad_method_invalid, bad_node_id_unknown, bad_subscription_id_invalid, bad_timestamps_to_return_invalid}
use Rattle.ua_base.specs.declared.modes.Timestamps.{Timestamps}
use Rattle.ua_values.specs.declared.node.NodeId.{NodeId}
use Rattle.ua_values.specs.declared.node.NodeId.TheVariants as id
use Rattle.ua_variants.specs.declared.variant.Array.TheVariants as array
use Rattle.ua_variants.specs.declared.variant.Scalar.{Scalar}
use Rattle.ua_variants.specs.declared.variant.Scalar.TheVariants as scalar
use Rattle.ua_variants.specs.declared.variant.Stamped.{Stamped}
use Rattle.ua_variants.specs.declared.variant.Variant.{Variant, out-Variant}
use Rattle.ua_variants.specs.declared.variant.Variant.TheOpen.{Variant-F}
use Rattle.ua_variants.specs.declared.variant.Variant.TheVariants as variant
use Rattle.ua_structures.specs.declared.header.ResponseHeader.{ResponseHeader}
use Rattle.ua_structures.specs.declared.shared.ReadValueId.{ReadValueId}
use Rattle.ua_session_msgs.specs.declared.attribute.ReadRequest.{ReadRequest}
use Rattle.ua_session_msgs.specs.declared.method.CallMethodRequest.{CallMethodRequest}
use Rattle.ua_session_msgs.specs.declared.method.CallMethodResult.{CallMethodResult}
use Rattle.ua_session_msgs.specs.declared.method.CallRequest.{CallRequest}
use Rattle.ua_session_msgs.specs.declared.reply.SessionReply.TheVariants as session_reply
use Rattle.ua_services.specs.declared.reply.Reply.{Reply}
use Rattle.ua_services.specs.declared.reply.Reply.TheVariants as reply
use Rattle.redundancy_nodes.specs.declared.member.Member.{Member}
use Rattle.redundancy_nodes.specs.declared.nodes.Nodes.{Nodes}
use Rattle.redundancy_nodes.specs.Read.{read_of}
use Rattle.redundancy_nodes.specs.Values.{sampled}
use Rattle.subscription.specs.State.{ItemState, SubState}
use Rattle.subscription.specs.Message.{has_source, has_server}
use Rattle.server_rules.specs.declared.config.ServerConfig.{ServerConfig}
use Rattle.server_rules.specs.declared.conn.Asker.{Asker}
use Rattle.server_rules.specs.State.{ServerState, server_time}
use Rattle.server_rules.specs.Said.{Did}
use Rattle.server_rules.specs.Operations.{◌>>=◌, answered, done, operations_fault, own_sub, passes, timestamps_named, wanted}

-- ---- the nodes of a server

abbrev pub uri_of : Option Member → Option (List ℕ)
uri_of None = None
uri_of (Some member) = member.uri

-- its own ApplicationUri, as the member of this number
abbrev pub own_uri : ServerConfig → Option (List ℕ)
own_uri config = uri_of (slice_get config.members (config.number - 1))

-- what the values of its nodes are made of at this moment
unfoldable pub nodes_of : ServerState → Nodes
nodes_of s = record {
  uri = own_uri s.config;
  members = s.config.members;
  support = s.config.support;
  level = s.level;
  start = s.config.start;
  now = server_time s;
  items = s.config.items;
  current = s.current;
}

-- ---- what is read of one node

-- a text that is null or has no bytes
abbrev pub is_blank : Option (List ℕ) → Bool
is_blank None = true
is_blank (Some bytes) = length bytes == 0

-- no part of a value is given, and a value in no other encoding than its own (OPC 10000-4, 7.27 and 7.29)
abbrev pub form_fault : ReadValueId → Option ℕ
form_fault asked =
    if not (is_blank asked.index_range) then Some bad_index_range_invalid
    else if not (is_blank asked.data_encoding.name) then Some bad_data_encoding_invalid
    else None

-- a status code in place of a value
abbrev pub coded : ℕ → Stamped Variant
coded code = record (sampled None None None) { status = Some code }

-- a value with the times that were asked for; where there is none, it has no time (OPC 10000-4, 7.39)
abbrev pub with_times : Timestamps → ℤ → Stamped Variant → Stamped Variant
with_times stamps now value = record {
  value = value.value;
  status = value.status;
  source_timestamp = if has_source stamps then value.source_timestamp else None;
  source_picoseconds = if has_source stamps then value.source_picoseconds else None;
  server_timestamp = if has_server stamps && is_some value.value then Some now else None;
  server_picoseconds = None;
}

abbrev pub given_in : Timestamps → ℤ → Option ℕ → Stamped Variant → Stamped Variant
given_in stamps now None value = with_times stamps now value
given_in stamps now (Some code) value = coded code

-- the node and its attribute are judged before the form in which the value is asked for
abbrev pub given_value : Timestamps → ℤ → Option ℕ → Result (Stamped Variant) ℕ → Stamped Variant
given_value stamps now fault (Ok value) = given_in stamps now fault value
given_value stamps now fault (Err code) = coded code

unfoldable pub value_read : Nodes → Timestamps → ReadValueId → Stamped Variant
value_read nodes stamps asked =
    given_value stamps nodes.now (form_fault asked) (read_of nodes asked.node_id asked.attribute_id)

-- ---- Read (OPC 10000-4, 5.10.2)

abbrev pub read_reply : List (Stamped Variant) → ResponseHeader → Reply
read_reply values header = reply.Session (session_reply.Read
    (record { response_header = header; results = values; diagnostic_infos = record {} }))

-- the list is judged before the choice of times
abbrev pub read_checked : ReadRequest → Result Timestamps ℕ
read_checked request = do
  _ ← passes (operations_fault (length request.nodes_to_read))
  wanted bad_timestamps_to_return_invalid (timestamps_named request.timestamps_to_return)

abbrev pub read_all : Asker → List ReadValueId → Timestamps → ServerState → Did
read_all asker asked stamps s = answered asker (read_reply (map (value_read (nodes_of s) stamps) asked)) s

unfoldable pub read : Asker → ReadRequest → ServerState → Did
read asker request s = done asker (read_all asker request.nodes_to_read) (read_checked request) s

-- ---- Call (OPC 10000-4, 5.11.2): the method GetMonitoredItems of the object Server (OPC 10000-5, 9.1)

-- a numeric id of namespace 0
abbrev pub is_server_id : ℕ → NodeId → Bool
is_server_id number (id.Numeric namespace other) = namespace == 0 && other == number
is_server_id number (id.Text namespace name) = false
is_server_id number (id.Guid namespace name) = false
is_server_id number (id.Opaque namespace name) = false

abbrev pub uint32_of : Scalar → Option ℕ
uint32_of (scalar.UInt32 number) = Some number
uint32_of other = None

abbrev pub uint32_in : Variant-F Variant → Option ℕ
uint32_in (Variant-F.Scalar one) = uint32_of one
uint32_in other = None

-- the UInt32 that is the one argument, or the code that answers
abbrev pub argument_of : List Variant → Result ℕ ℕ
argument_of [] = Err bad_arguments_missing
argument_of (one ∷ []) = wanted bad_invalid_argument (uint32_in (out-Variant one))
argument_of (one ∷ other ∷ more) = Err bad_invalid_argument

-- the object is judged before the method, and the method before its arguments
abbrev pub subscription_asked : CallMethodRequest → Result ℕ ℕ
subscription_asked call =
    if not (is_server_id 2253 call.object_id) then Err bad_node_id_unknown
    else if not (is_server_id 11492 call.method_id) then Err bad_method_invalid
    else argument_of call.input_arguments

abbrev pub method_result : ℕ → List Variant → CallMethodResult
method_result code outputs = record {
  status_code = code;
  input_argument_results = [];
  input_argument_diagnostic_infos = record {};
  output_arguments = outputs;
}

abbrev pub uint32s : List ℕ → Variant
uint32s numbers = variant.Array (array.UInt32 numbers) None

-- the ids of its items, and the handles that the client gave them
abbrev pub items_told : List ItemState → List Variant
items_told items = uint32s (map (λ item. item.id) items) ∷ uint32s (map (λ item. item.handle) items) ∷ []

abbrev pub told_of_sub : Option SubState → CallMethodResult
told_of_sub None = method_result bad_subscription_id_invalid []
told_of_sub (Some sub) = method_result good (items_told sub.items)

abbrev pub result_of_argument : ℕ → Result ℕ ℕ → ServerState → CallMethodResult
result_of_argument session (Ok number) s = told_of_sub (own_sub session number s)
result_of_argument session (Err code) s = method_result code []

unfoldable pub called : ℕ → ServerState → CallMethodRequest → CallMethodResult
called session s one = result_of_argument session (subscription_asked one) s

abbrev pub call_reply : List CallMethodResult → ResponseHeader → Reply
call_reply results header = reply.Session (session_reply.Call
    (record { response_header = header; results = results; diagnostic_infos = record {} }))

abbrev pub call_all : Asker → ℕ → List CallMethodRequest → Unit {0} → ServerState → Did
call_all asker session calls _ s = answered asker (call_reply (map (called session s) calls)) s

unfoldable pub call : Asker → ℕ → CallRequest → ServerState → Did
call asker session request s =
    done asker (call_all asker session request.methods_to_call)
    (passes (operations_fault (length request.methods_to_call))) s
