-- What a message of the subscription brings (OPC 10000-4, 5.13.1.1, 7.20 and 7.21).
use Rattle.std.specs.Prelude.{ℕ, ◌==◌, ◌&&◌, List, [], ◌∷◌, ◌++◌, Bool, true, false, Option, Some, None, Result, Ok, Err, if◌then◌else◌}
use Rattle.std.specs.List.{find, list_any}
use Rattle.ua_values.specs.declared.extension.ExtensionObject.{ExtensionObject}
use Rattle.ua_values.specs.declared.extension.ExtensionBody.{ExtensionBody}
use Rattle.ua_values.specs.declared.extension.ExtensionBody.TheVariants as extension
use Rattle.ua_variants.specs.declared.variant.Stamped.{Stamped}
use Rattle.ua_variants.specs.declared.variant.Variant.{Variant}
use Rattle.ua_structures.specs.declared.body.BodyFault.{BodyFault}
use Rattle.ua_structures.specs.Body.{object_at, type_number}
use Rattle.ua_sub_msgs.specs.declared.notification.MonitoredItemNotification.{MonitoredItemNotification}
use Rattle.ua_sub_msgs.specs.declared.notification.Notification.{Notification}
use Rattle.ua_sub_msgs.specs.declared.notification.Notification.TheVariants as notification
use Rattle.ua_sub_msgs.specs.Families.{notifications}
use Rattle.ua_base.specs.Number.{after_message}
use Rattle.link_rules.specs.declared.content.Content.{Content}
use Rattle.link_rules.specs.declared.content.Content.TheVariants as content
use Rattle.link_rules.specs.declared.notice.Notice.{Notice}
use Rattle.link_rules.specs.declared.notice.Notice.TheVariants as notice
use Rattle.link_rules.specs.declared.remembered.Monitored.{Monitored}
use Rattle.link_rules.specs.declared.remembered.Remembered.{Remembered}
use Rattle.link_rules.specs.State.{LinkState, with_remembered}
use Rattle.link_rules.specs.Said.{LinkDid, nothing, tells}
use Rattle.link_rules.specs.Numbers.{is_jump, is_next}

-- ---- its notifications

-- a StatusChangeNotification by its type, whatever it holds
abbrev pub is_status : ExtensionObject → Bool
is_status object = type_number object.type_id == 820

abbrev pub has_status : List ExtensionObject → Bool
has_status objects = list_any is_status objects

abbrev pub is_binary : ExtensionBody → Bool
is_binary (extension.Binary bytes) = true
is_binary (extension.Xml text) = false
is_binary extension.Absent = false

-- a DataChangeNotification as bytes; one without or as XML is of a kind that isn't used
abbrev pub is_data : ExtensionObject → Bool
is_data object = (type_number object.type_id == 811) && is_binary object.body

abbrev pub read_values : Result Notification BodyFault → Option (List MonitoredItemNotification)
read_values (Ok (notification.DataChange change)) = Some change.monitored_items
read_values (Ok (notification.StatusChange status)) = Some []
read_values (Err fault) = None

-- the values that one brings, none where it is of another kind; nothing where it doesn't read
abbrev pub values_in : ExtensionObject → Option (List MonitoredItemNotification)
values_in object = if is_data object then read_values (object_at notifications object) else Some []

abbrev pub if_read : {A B : Type 0} → Option A → (A → Option B) → Option B
if_read (Some a) f = f a
if_read None f = None

-- the values that all of them bring, after those of others
abbrev pub values_after : List MonitoredItemNotification → List ExtensionObject → Option (List MonitoredItemNotification)
values_after values [] = Some values
values_after values (object ∷ objects) = if_read (values_in object) (λ more. values_after (values ++ more) objects)

abbrev pub content_by : Option (List MonitoredItemNotification) → Content
content_by (Some values) = content.Values values
content_by None = content.Unread

unfoldable pub content_of : List ExtensionObject → Content
content_of [] = content.Alive
content_of (object ∷ objects) =
    if has_status (object ∷ objects) then content.Ended else content_by (values_after [] (object ∷ objects))

-- ---- what is taken of it

abbrev pub has_handle : ℕ → Monitored → Bool
has_handle handle monitored = monitored.item == handle

abbrev pub taken_as : Option Monitored → Stamped Variant → List Notice
taken_as (Some monitored) value = notice.Taken monitored.item value ∷ []
taken_as None value = []

-- a value under the handle of no item is skipped
abbrev pub taken_of : List Monitored → MonitoredItemNotification → List Notice
taken_of items one = taken_as (find (has_handle one.client_handle) items) one.value

abbrev pub all_taken : List Monitored → List MonitoredItemNotification → List Notice
all_taken items [] = []
all_taken items (one ∷ values) = taken_of items one ++ all_taken items values

-- ---- by its number

abbrev pub acknowledged : ℕ → LinkState → LinkState
acknowledged number l = record l { acks = l.acks ++ number ∷ [] }

abbrev pub awaits : ℕ → Remembered → LinkState → LinkState
awaits next remembered l = with_remembered (record remembered { next = next }) l

-- a keep-alive has the number of the message that comes next: one that is ahead tells that messages are missing
unfoldable pub kept_alive : ℕ → Remembered → LinkState → LinkDid
kept_alive number remembered l =
    if is_jump remembered.next number then tells (notice.Jump ∷ []) (awaits number remembered l) else nothing l

-- the message is the newest now
abbrev pub newest : ℕ → Remembered → LinkState → LinkState
newest number remembered l = awaits (after_message number) remembered (acknowledged number l)

-- the next message is taken, and one that is ahead too, behind a jump; an old one is acknowledged once more, and no
-- value of it is taken
unfoldable pub data_taken : ℕ → List MonitoredItemNotification → Remembered → LinkState → LinkDid
data_taken number values remembered l =
    if is_next remembered.next number then
    tells (all_taken l.monitored values) (newest number remembered l)
    else if is_jump remembered.next number then
    tells (notice.Jump ∷ all_taken l.monitored values) (newest number remembered l)
    else nothing (acknowledged number l)
