-- CreateMonitoredItems, SetMonitoringMode and DeleteMonitoredItems (OPC 10000-4, 5.12.2, 5.12.4 and 5.12.6).
use Rattle.std.specs.Prelude.{ℕ, ℤ, ◌+◌, ◌==◌, ◌||◌, ◌&&◌, List, [], Bool, true, false, length, nat_le, is_some, Option, Some, None, Result, Ok, Err, if◌then◌else◌}
use Rattle.ua_base.specs.Status.{good, bad_attribute_id_invalid, bad_monitored_item_filter_unsupported, bad_monitored_item_id_invalid, bad_monitoring_mode_invalid, bad_node_id_unknown, bad_subscription_id_invalid, bad_timestamps_to_return_invalid, bad_too_many_monitored_items}
use Rattle.ua_base.specs.declared.modes.Mode.{Mode}
use Rattle.ua_base.specs.declared.modes.Timestamps.{Timestamps}
use Rattle.set_model.specs.declared.source.Change.{Change}
use Rattle.set_model.specs.Source.{last_of}
use Rattle.ua_values.specs.declared.extension.ExtensionBody.{ExtensionBody}
use Rattle.ua_values.specs.declared.extension.ExtensionBody.TheVariants as extension
use Rattle.ua_values.specs.declared.extension.ExtensionObject.{ExtensionObject}
use Rattle.ua_values.specs.declared.node.NodeId.{NodeId}
use Rattle.ua_values.specs.declared.node.NodeId.TheVariants as id
use Rattle.ua_structures.specs.declared.body.BodyFault.{BodyFault}
use Rattle.ua_structures.specs.declared.header.ResponseHeader.{ResponseHeader}
use Rattle.ua_structures.specs.declared.shared.ReadValueId.{ReadValueId}
use Rattle.ua_structures.specs.Body.{object_at}
use Rattle.ua_structures.specs.Structures.{no_object}
use Rattle.ua_sub_msgs.specs.declared.filter.DataChangeFilter.{DataChangeFilter}
use Rattle.ua_sub_msgs.specs.declared.filter.Filter.{Filter}
use Rattle.ua_sub_msgs.specs.declared.filter.Filter.TheVariants as filter
use Rattle.ua_sub_msgs.specs.declared.item.CreateMonitoredItemsRequest.{CreateMonitoredItemsRequest}
use Rattle.ua_sub_msgs.specs.declared.item.DeleteMonitoredItemsRequest.{DeleteMonitoredItemsRequest}
use Rattle.ua_sub_msgs.specs.declared.item.MonitoredItemCreateRequest.{MonitoredItemCreateRequest}
use Rattle.ua_sub_msgs.specs.declared.item.MonitoredItemCreateResult.{MonitoredItemCreateResult}
use Rattle.ua_sub_msgs.specs.declared.item.MonitoringParameters.{MonitoringParameters}
use Rattle.ua_sub_msgs.specs.declared.item.SetMonitoringModeRequest.{SetMonitoringModeRequest}
use Rattle.ua_sub_msgs.specs.declared.reply.SubReply.TheVariants as sub_reply
use Rattle.ua_sub_msgs.specs.Families.{filters}
use Rattle.ua_services.specs.declared.reply.Reply.{Reply}
use Rattle.ua_services.specs.declared.reply.Reply.TheVariants as reply
use Rattle.subscription.specs.declared.spec.ItemSpec.{ItemSpec}
use Rattle.subscription.specs.State.{ItemState, SubState}
use Rattle.subscription.specs.Items.{is_there, item_of}
use Rattle.subscription.specs.Calls.{added, node_of, removed, with_mode_of}
use Rattle.server_rules.specs.declared.conn.Asker.{Asker}
use Rattle.server_rules.specs.declared.trigger.DataChangeTrigger.{DataChangeTrigger}
use Rattle.server_rules.specs.declared.trigger.DataChangeTrigger.TheVariants.{Status, StatusValue, StatusValueTimestamp}
use Rattle.server_rules.specs.State.{ServerState, sub_at, with_sub}
use Rattle.server_rules.specs.Said.{Did}
use Rattle.server_rules.specs.Durations.{revised_queue}
use Rattle.server_rules.specs.Trigger.{trigger_of}
use Rattle.server_rules.specs.Operations.{◌>>=◌, after_each, answered, answers, coded_results, done, mode_named, operations_fault, own_checked, passes, timestamps_named, wanted}
use Rattle.server_rules.specs.Reading.{form_fault}

-- ---- which item may be made

-- the number of an item's node: only items are monitored
abbrev pub item_number : ℕ → NodeId → Option ℕ
item_number items (id.Numeric namespace number) =
    if namespace == 2 && nat_le 1 number && nat_le number items then Some number else None
item_number items (id.Text namespace name) = None
item_number items (id.Guid namespace name) = None
item_number items (id.Opaque namespace name) = None

-- only the attribute 13, Value, is monitored, and as a whole
abbrev pub value_fault : ReadValueId → Option ℕ
value_fault asked = if asked.attribute_id == 13 then form_fault asked else Some bad_attribute_id_invalid

-- the status of an item never changes, so a filter by it alone would tell nothing
abbrev pub is_told : Option DataChangeTrigger → Bool
is_told None = false
is_told (Some Status) = false
is_told (Some StatusValue) = true
is_told (Some StatusValueTimestamp) = true

-- without a deadband (OPC 10000-4, 7.22.2)
abbrev pub is_plain_filter : Result Filter BodyFault → Bool
is_plain_filter (Ok (filter.DataChange one)) = is_told (trigger_of one.trigger) && one.deadband_type == 0
is_plain_filter (Err fault) = false

abbrev pub is_absent : ExtensionBody → Bool
is_absent extension.Absent = true
is_absent (extension.Binary bytes) = false
is_absent (extension.Xml text) = false

-- no filter tells each change of the value
abbrev pub filter_fault : ExtensionObject → Option ℕ
filter_fault object =
    if is_absent object.body then None
    else if is_plain_filter (object_at filters object) then None
    else Some bad_monitored_item_filter_unsupported

-- ---- an item is made (OPC 10000-4, 5.12.2)

abbrev pub item_spec : Timestamps → MonitoringParameters → ℕ → Mode → ItemSpec
item_spec stamps asked number mode = record {
  node = number;
  handle = asked.client_handle;
  mode = mode;
  queue = revised_queue asked.queue_size;
  oldest = asked.discard_oldest;
  stamps = stamps;
}

abbrev pub judged_by : Option ℕ → ℕ → Timestamps → MonitoredItemCreateRequest → Result ItemSpec ℕ
judged_by filter items stamps asked = do
  number ← wanted bad_node_id_unknown (item_number items asked.item_to_monitor.node_id)
  _ ← passes (value_fault asked.item_to_monitor)
  mode ← wanted bad_monitoring_mode_invalid (mode_named asked.monitoring_mode)
  _ ← passes filter
  Ok (item_spec stamps asked.requested_parameters number mode)

-- the first that refuses answers: the node, its attribute, the form of its value, the mode, the filter
unfoldable pub judged : ℕ → Timestamps → MonitoredItemCreateRequest → Result ItemSpec ℕ
judged items stamps asked = judged_by (filter_fault asked.requested_parameters.filter) items stamps asked

-- a subscription has at most 1024 items, and gives at most 2^32 - 1 ids to them
abbrev pub is_full : SubState → Bool
is_full sub = nat_le 1024 (length sub.items) || sub.given == 4294967295

-- last of all there must be room; then it is known what is made, and under which id
abbrev pub with_room : Option SubState → ItemSpec → Result (ℕ × ItemSpec) ℕ
with_room None spec = Err bad_subscription_id_invalid
with_room (Some sub) spec = if is_full sub then Err bad_too_many_monitored_items else Ok (sub.given + 1, spec)

abbrev pub item_judged : ℕ → Timestamps → MonitoredItemCreateRequest → ServerState → Result (ℕ × ItemSpec) ℕ
item_judged sub stamps asked s = judged s.config.items stamps asked >>= with_room (sub_at sub s.subs)

abbrev pub made_result : Result (ℕ × ItemSpec) ℕ → MonitoredItemCreateResult
made_result (Ok made) = record {
  status_code = good;
  monitored_item_id = made.0;
  revised_sampling_interval = 0;
  revised_queue_size = made.1.queue;
  filter_result = no_object;
}
made_result (Err code) = record {
  status_code = code;
  monitored_item_id = 0;
  revised_sampling_interval = 0;
  revised_queue_size = 0;
  filter_result = no_object;
}

-- its stream begins with the current value of its node
abbrev pub with_made : ℕ → Result (ℕ × ItemSpec) ℕ → ServerState → ServerState
with_made sub (Ok made) s = with_sub sub (added made.1 (last_of made.1.node s.current)) s
with_made sub (Err code) s = s

unfoldable pub item_result : ℕ → Timestamps → MonitoredItemCreateRequest → ServerState → MonitoredItemCreateResult
item_result sub stamps asked s = made_result (item_judged sub stamps asked s)

unfoldable pub with_item : ℕ → Timestamps → MonitoredItemCreateRequest → ServerState → ServerState
with_item sub stamps asked s = with_made sub (item_judged sub stamps asked s) s

abbrev pub create_reply : List MonitoredItemCreateResult → ResponseHeader → Reply
create_reply results header = reply.Subscription (sub_reply.CreateMonitoredItems
    (record { response_header = header; results = results; diagnostic_infos = record {} }))

-- the list is judged before the subscription, and this before the choice of times
abbrev pub create_checked : ℕ → CreateMonitoredItemsRequest → ServerState → Result Timestamps ℕ
create_checked session request s = do
  _ ← passes (operations_fault (length request.items_to_create))
  _ ← own_checked session request.subscription_id s
  wanted bad_timestamps_to_return_invalid (timestamps_named request.timestamps_to_return)

abbrev pub create_all : Asker → ℕ → List MonitoredItemCreateRequest → Timestamps → ServerState → Did
create_all asker sub asked stamps s =
    answered asker (create_reply (answers (item_result sub stamps) (with_item sub stamps) asked s))
    (after_each (with_item sub stamps) asked s)

unfoldable pub create_items : Asker → ℕ → CreateMonitoredItemsRequest → ServerState → Did
create_items asker session request s =
    done asker (create_all asker request.subscription_id request.items_to_create) (create_checked session request s) s

-- ---- items of a subscription by their ids

abbrev pub id_result : ℕ → Option SubState → ℕ
id_result id None = bad_monitored_item_id_invalid
id_result id (Some sub) = if is_there id sub.items then good else bad_monitored_item_id_invalid

unfoldable pub item_known : ℕ → ℕ → ServerState → ℕ
item_known sub id s = id_result id (sub_at sub s.subs)

-- ---- modes (OPC 10000-4, 5.12.4)

abbrev pub current_of : Option ℕ → List Change → Option Change
current_of None changes = None
current_of (Some node) changes = last_of node changes

abbrev pub item_node : ℕ → Option SubState → Option ℕ
item_node id None = None
item_node id (Some sub) = node_of (item_of id sub.items)

-- leaving Disabled begins a stream with the current value of the item's node
unfoldable pub with_mode_set : ℕ → Mode → ℕ → ServerState → ServerState
with_mode_set sub mode id s =
    with_sub sub (with_mode_of id mode (current_of (item_node id (sub_at sub s.subs)) s.current)) s

-- the list, the subscription, the mode
abbrev pub modes_checked : ℕ → SetMonitoringModeRequest → ServerState → Result Mode ℕ
modes_checked session request s = do
  _ ← passes (operations_fault (length request.monitored_item_ids))
  _ ← own_checked session request.subscription_id s
  wanted bad_monitoring_mode_invalid (mode_named request.monitoring_mode)

abbrev pub modes_reply : List ℕ → ResponseHeader → Reply
modes_reply codes header = reply.Subscription (sub_reply.SetMonitoringMode (coded_results codes header))

abbrev pub set_all : Asker → ℕ → List ℕ → Mode → ServerState → Did
set_all asker sub ids mode s =
    answered asker (modes_reply (answers (item_known sub) (with_mode_set sub mode) ids s))
    (after_each (with_mode_set sub mode) ids s)

unfoldable pub set_modes : Asker → ℕ → SetMonitoringModeRequest → ServerState → Did
set_modes asker session request s =
    done asker (set_all asker request.subscription_id request.monitored_item_ids) (modes_checked session request s) s

-- ---- items end (OPC 10000-4, 5.12.6)

unfoldable pub without_item_of : ℕ → ℕ → ServerState → ServerState
without_item_of sub id s = with_sub sub (removed id) s

abbrev pub delete_checked : ℕ → DeleteMonitoredItemsRequest → ServerState → Result (Unit {0}) ℕ
delete_checked session request s = do
  _ ← passes (operations_fault (length request.monitored_item_ids))
  own_checked session request.subscription_id s

abbrev pub delete_reply : List ℕ → ResponseHeader → Reply
delete_reply codes header = reply.Subscription (sub_reply.DeleteMonitoredItems (coded_results codes header))

abbrev pub delete_all : Asker → ℕ → List ℕ → Unit {0} → ServerState → Did
delete_all asker sub ids _ s =
    answered asker (delete_reply (answers (item_known sub) (without_item_of sub) ids s))
    (after_each (without_item_of sub) ids s)

unfoldable pub delete_items : Asker → ℕ → DeleteMonitoredItemsRequest → ServerState → Did
delete_items asker session request s =
    done asker (delete_all asker request.subscription_id request.monitored_item_ids) (delete_checked session request s) s
