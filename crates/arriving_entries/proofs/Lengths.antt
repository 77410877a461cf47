-- How long an object with a message's values is.
use Rattle.std.proofs.Common.{ℤ, ◌+◌, ◌*◌, ◌≤◌, List, map, length, refl, arith}
use Rattle.byteorder.specs.Endian.{little_bytes}
use Rattle.ua_values.specs.Limits.{most_bytes}
use Rattle.ua_values.specs.Written.{written_array}
use Rattle.ua_structures.specs.Structures.{unused_diagnostics}
use Rattle.ua_sub_msgs.specs.Families.{notification_put}
use Rattle.ua_sub_msgs.specs.Structures.{a_data_change_notification, a_monitored_item_notification}
use Rattle.subscription.specs.Items.{Told}
use Rattle.subscription.specs.Message.{data_change, notified, value_of}
use Rattle.server_keeps.proofs.Lengths.{array_long, data_long, joined_long, little_most}

-- a value with its handle
notified_long : (now : ℤ) (one : Told) → length (a_monitored_item_notification.written (notified now one)) ≤ 38
unfolding a_monitored_item_notification
notified_long now one =
    let long = data_long one.entry.change.value (value_of now one.stamps one.entry) refl in
    omega (arith, long)

-- an object's bytes are no more than a reader takes
pub values_long : (now : ℤ) (told : List Told) → length told ≤ 1000 → length (notification_put (data_change (map (notified now) told))).text ≤ most_bytes
unfolding a_data_change_notification unused_diagnostics
values_long now told few =
    let long = array_long a_monitored_item_notification.written (notified now) 38 1000 told (notified_long now) few in
    let all : length (notification_put (data_change (map (notified now) told))).text ≤ 4 + 38 * 1000 + 4 =
    joined_long (written_array a_monitored_item_notification.written (map (notified now) told)) (little_bytes 4 0) (4 + 38 * 1000) 4 long (little_most 4 0) in
    omega (arith, all)
