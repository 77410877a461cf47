-- What a message says: it depends on its number, its time and its entries alone (OPC 10000-4, 7.21).
use Rattle.std.specs.Prelude.{ℕ, ℤ, ◌==◌, List, [], ◌∷◌, Bool, true, false, Option, Some, None, map, if◌then◌else◌}
use Rattle.ua_base.specs.declared.modes.Timestamps.{Timestamps}
use Rattle.ua_base.specs.declared.modes.Timestamps.TheVariants.{Source, Server, Both, Neither}
use Rattle.item_queue.specs.declared.queue.Entry.{Entry}
use Rattle.ua_values.specs.declared.extension.ExtensionObject.{ExtensionObject}
use Rattle.ua_variants.specs.declared.variant.Scalar.TheVariants as scalar
use Rattle.ua_variants.specs.declared.variant.Variant.{Variant}
use Rattle.ua_variants.specs.declared.variant.Variant.TheVariants as variant
use Rattle.ua_variants.specs.declared.variant.Stamped.{Stamped}
use Rattle.ua_structures.specs.Body.{object_by}
use Rattle.ua_sub_msgs.specs.declared.notification.MonitoredItemNotification.{MonitoredItemNotification}
use Rattle.ua_sub_msgs.specs.declared.notification.Notification.{Notification}
use Rattle.ua_sub_msgs.specs.declared.notification.Notification.TheVariants as notification
use Rattle.ua_sub_msgs.specs.declared.notification.NotificationMessage.{NotificationMessage}
use Rattle.ua_sub_msgs.specs.Families.{notifications, notification_put}
use Rattle.subscription.specs.Items.{Told}

-- which times a choice has (OPC 10000-4, 7.35)
abbrev pub has_source : Timestamps → Bool
has_source Source = true
has_source Server = false
has_source Both = true
has_source Neither = false

abbrev pub has_server : Timestamps → Bool
has_server Source = false
has_server Server = true
has_server Both = true
has_server Neither = false

-- picoseconds are sent where they aren't 0
abbrev pub sent_pico : ℕ → Option ℕ
sent_pico pico = if pico == 0 then None else Some pico

-- the info type DataValue and the bit Overflow where entries before it were dropped (OPC 10000-4, 7.34.1)
abbrev pub sent_status : Bool → Option ℕ
sent_status true = Some 0x480
sent_status false = None

-- an entry as it is sent at a server's time (OPC 10000-4, 7.7)
abbrev pub value_of : ℤ → Timestamps → Entry → Stamped Variant
value_of now stamps entry = record {
  value = Some (variant.Scalar (scalar.Int64 entry.change.value));
  status = sent_status entry.marked;
  source_timestamp = if has_source stamps then Some entry.change.time else None;
  source_picoseconds = if has_source stamps then sent_pico entry.change.pico else None;
  server_timestamp = if has_server stamps then Some now else None;
  server_picoseconds = None;
}

abbrev pub notification_of : ℕ → ℤ → Timestamps → Entry → MonitoredItemNotification
notification_of handle now stamps entry = record { client_handle = handle; value = value_of now stamps entry }

abbrev pub notified : ℤ → Told → MonitoredItemNotification
notified now one = notification_of one.handle now one.stamps one.entry

abbrev pub data_change : List MonitoredItemNotification → Notification
data_change values = notification.DataChange (record { monitored_items = values; diagnostic_infos = record {} })

-- data stand in one DataChangeNotification; a keep-alive has none
abbrev pub objects_of : List MonitoredItemNotification → List ExtensionObject
objects_of [] = []
objects_of (value ∷ values) = object_by notifications notification_put (data_change (value ∷ values)) ∷ []

-- the message of values
abbrev pub formed : ℕ → ℤ → List MonitoredItemNotification → NotificationMessage
formed number now values =
    record { sequence_number = number; publish_time = now; notification_data = objects_of values }

-- the message of a number, a time and entries
abbrev pub message_of : ℕ → ℤ → List Told → NotificationMessage
message_of number now entries = formed number now (map (notified now) entries)
