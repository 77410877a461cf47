-- What can be read of a message's entries from the message alone.
use Rattle.std.specs.Prelude.{◌<◌, ◌≤◌, ℕ, ℤ, ◌^◌, ◌==◌, List, [], ◌∷◌, ◌++◌, Bool, false, Option, Some, None, Result, Ok, Err, FitsSigned, if◌then◌else◌}
use Rattle.std.specs.Int.{w64}
use Rattle.set_model.specs.declared.stamp.Stamp.{Stamp}
use Rattle.set_model.specs.Source.{stamp_of}
use Rattle.item_queue.specs.declared.queue.Entry.{Entry}
use Rattle.ua_values.specs.declared.extension.ExtensionObject.{ExtensionObject}
use Rattle.ua_variants.specs.declared.variant.Scalar.{Scalar}
use Rattle.ua_variants.specs.declared.variant.Scalar.TheVariants as scalar
use Rattle.ua_variants.specs.declared.variant.Variant.{Variant, out-Variant}
use Rattle.ua_variants.specs.declared.variant.Variant.TheOpen.{Variant-F}
use Rattle.ua_structures.specs.declared.body.BodyFault.{BodyFault}
use Rattle.ua_structures.specs.Body.{object_at}
use Rattle.ua_sub_msgs.specs.declared.notification.MonitoredItemNotification.{MonitoredItemNotification}
use Rattle.ua_sub_msgs.specs.declared.notification.Notification.{Notification}
use Rattle.ua_sub_msgs.specs.declared.notification.Notification.TheVariants as notification
use Rattle.ua_sub_msgs.specs.declared.notification.NotificationMessage.{NotificationMessage}
use Rattle.ua_sub_msgs.specs.Families.{notifications}
use Rattle.subscription.specs.Items.{Told}
use Rattle.subscription.specs.Message.{has_source}

-- an entry as it is seen: under which handle, when its value changed where that is told, the value, and its mark
pub record Seen : Type 0 where
  pub handle : ℕ
  pub stamp : Option Stamp
  pub value : ℤ
  pub marked : Bool

abbrev pub number_in : Scalar → Option ℤ
number_in (scalar.Int64 number) = Some number
number_in (scalar.Boolean x) = None
number_in (scalar.SByte x) = None
number_in (scalar.Byte x) = None
number_in (scalar.Int16 x) = None
number_in (scalar.UInt16 x) = None
number_in (scalar.Int32 x) = None
number_in (scalar.UInt32 x) = None
number_in (scalar.UInt64 x) = None
number_in (scalar.Float x) = None
number_in (scalar.Double x) = None
number_in (scalar.String x) = None
number_in (scalar.DateTime x) = None
number_in (scalar.Guid x) = None
number_in (scalar.ByteString x) = None
number_in (scalar.XmlElement x) = None
number_in (scalar.NodeId x) = None
number_in (scalar.ExpandedNodeId x) = None
number_in (scalar.StatusCode x) = None
number_in (scalar.QualifiedName x) = None
number_in (scalar.LocalizedText x) = None
number_in (scalar.ExtensionObject x) = None

abbrev pub scalar_in : Variant-F Variant → Option ℤ
scalar_in (Variant-F.Scalar x) = number_in x
scalar_in Variant-F.Null = None
scalar_in (Variant-F.DataValue x) = None
scalar_in (Variant-F.Variant x) = None
scalar_in Variant-F.DiagnosticInfo = None
scalar_in (Variant-F.Array items sizes) = None
scalar_in (Variant-F.DataValues items sizes) = None
scalar_in (Variant-F.Variants items sizes) = None
scalar_in (Variant-F.DiagnosticInfos count sizes) = None

-- an Int64
abbrev pub value_in : Option Variant → Option ℤ
value_in None = None
value_in (Some value) = scalar_in (out-Variant value)

abbrev pub pico_in : Option ℕ → ℕ
pico_in None = 0
pico_in (Some pico) = pico

abbrev pub stamp_in : Option ℤ → Option ℕ → Option Stamp
stamp_in None pico = None
stamp_in (Some time) pico = Some (record { time = time; pico = pico_in pico })

abbrev pub mark_in : Option ℕ → Bool
mark_in None = false
mark_in (Some status) = status == 0x480

abbrev pub seen_with : MonitoredItemNotification → Option ℤ → List Seen → List Seen
seen_with told None more = more
seen_with told (Some value) more = record {
  handle = told.client_handle;
  stamp = stamp_in told.value.source_timestamp told.value.source_picoseconds;
  value = value;
  marked = mark_in told.value.status;
} ∷ more

-- a notification without a value that is an Int64 shows nothing
abbrev pub seen_in : List MonitoredItemNotification → List Seen
seen_in [] = []
seen_in (told ∷ more) = seen_with told (value_in told.value.value) (seen_in more)

abbrev pub seen_read : Result Notification BodyFault → List Seen
seen_read (Ok (notification.DataChange change)) = seen_in change.monitored_items
seen_read (Ok (notification.StatusChange change)) = []
seen_read (Err fault) = []

abbrev pub seen_objects : List ExtensionObject → List Seen
seen_objects [] = []
seen_objects (object ∷ more) = seen_read (object_at notifications object) ++ seen_objects more

-- the entries that a message shows
abbrev pub entries_seen : NotificationMessage → List Seen
entries_seen message = seen_objects message.notification_data

-- what is shown of an entry that a message tells
abbrev pub seen : Told → Seen
seen one = record {
  handle = one.handle;
  stamp = if has_source one.stamps then Some (stamp_of one.entry.change) else None;
  value = one.entry.change.value;
  marked = one.entry.marked;
}

-- the entry itself, where its time is shown and its handle is the number of its node
abbrev pub entry_at : Seen → Option Stamp → Option Entry
entry_at one None = None
entry_at one (Some stamp) = Some (record {
  change = record { item = one.handle; time = stamp.time; pico = stamp.pico; value = one.value };
  marked = one.marked;
})

abbrev pub entry_in : Seen → Option Entry
entry_in one = entry_at one one.stamp

-- an entry's numbers are within their types
pub record IsTellable (one : Told) : Type 0 where
  pub handle : one.handle < 2 ^ 32
  pub time : FitsSigned w64 one.entry.change.time
  pub pico : one.entry.change.pico ≤ 9999
  pub value : FitsSigned w64 one.entry.change.value

abbrev pub AreTellable : List Told → Type 0
AreTellable [] = Unit {0}
AreTellable (one ∷ more) = IsTellable one × AreTellable more
