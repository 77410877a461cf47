-- Messages of subscriptions keep the limits, and what they hold does.
use Rattle.std.proofs.Common.{ℕ, ℤ, ◌+◌, ◌*◌, ◌≤◌, ◌==◌, List, [], ◌∷◌, Bool, true, false, Some, None, IfSome, map, length, FitsSigned, refl, arith}
use Rattle.std.specs.List.{AllByRecursion}
use Rattle.std.specs.Int.{w64}
use Rattle.std.proofs.lemmas.List.{length-map}
use Rattle.byteorder.specs.Endian.{little_bytes}
use Rattle.ua_values.specs.Written.{written_array}
use Rattle.ua_values.specs.Limits.{most_bytes}
use Rattle.item_queue.specs.declared.queue.Entry.{Entry}
use Rattle.ua_variants.specs.declared.variant.Scalar.TheVariants as scalar
use Rattle.ua_base.specs.declared.modes.Timestamps.{Timestamps}
use Rattle.ua_structures.specs.Structures.{unused_diagnostics}
use Rattle.ua_sub_msgs.specs.declared.notification.NotificationType.TheVariants as notification_type
use Rattle.ua_sub_msgs.specs.Families.{notification_put}
use Rattle.ua_sub_msgs.specs.Numbers.{notification_small}
use Rattle.ua_sub_msgs.specs.Structures.{a_data_change_notification, a_monitored_item_notification, a_notification_message}
use Rattle.subscription.specs.Items.{Told}
use Rattle.subscription.specs.Message.{data_change, has_server, has_source, message_of, notified, sent_pico, sent_status, value_of}
use Rattle.server_keeps.specs.Fitting.{FitsEntry, FitsMessage, IsUInt32}
use Rattle.server_keeps.proofs.Lengths.{array_long, data_long, joined_long, little_most}
use Rattle.server_keeps.proofs.Lists.{all_map, choice}
use Rattle.server_keeps.proofs.Values.{IsPico, KeepsData, data_keeps, scalar_keeps}

-- an entry that is told
pub record FitsTold (one : Told) : Type 0 where
  pub handle : IsUInt32 one.handle
  pub entry : FitsEntry one.entry

-- ---- what a message holds

status_fits : (marked : Bool) → IfSome (sent_status marked) IsUInt32
status_fits true = omega arith
status_fits false = tt

entry_keeps : (now : ℤ) (stamps : Timestamps) (entry : Entry) → FitsSigned w64 now → FitsEntry entry → KeepsData (value_of now stamps entry)
entry_keeps now stamps entry at h = (
  scalar_keeps 99 (scalar.Int64 entry.change.value) h.value,
  (
    status_fits entry.marked,
    choice (λ o. IfSome o (FitsSigned w64)) (has_source stamps) (Some entry.change.time) None h.time tt,
    choice (λ o. IfSome o IsPico) (has_source stamps) (sent_pico entry.change.pico) None
        (choice (λ o. IfSome o IsPico) (entry.change.pico == 0) None (Some entry.change.pico) tt h.pico) tt,
    choice (λ o. IfSome o (FitsSigned w64)) (has_server stamps) (Some now) None at tt,
    tt,
  ),
)

notified_keeps : (now : ℤ) → FitsSigned w64 now → (one : Told) → FitsTold one → a_monitored_item_notification.keeps (notified now one)
unfolding a_monitored_item_notification
notified_keeps now at one h = (h.handle, data_keeps (value_of now one.stamps one.entry) (entry_keeps now one.stamps one.entry at h.entry))

-- a number with its times, and its handle
notified_long : (now : ℤ) (one : Told) → length (a_monitored_item_notification.written (notified now one)) ≤ 38
unfolding a_monitored_item_notification
notified_long now one =
    let long = data_long one.entry.change.value (value_of now one.stamps one.entry) refl in
    omega (arith, long)

data_written_long : (now : ℤ) (told : List Told) → length told ≤ 1000
    → length (notification_put (data_change (map (notified now) told))).text ≤ most_bytes
unfolding a_data_change_notification unused_diagnostics
data_written_long now told few =
    let long = array_long a_monitored_item_notification.written (notified now) 38 1000 told (notified_long now) few in
    let all : length (notification_put (data_change (map (notified now) told))).text ≤ 4 + 38 * 1000 + 4 =
    joined_long (written_array a_monitored_item_notification.written (map (notified now) told)) (little_bytes 4 0) (4 + 38 * 1000) 4 long (little_most 4 0) in
    omega (arith, all)

data_notification_keeps : (now : ℤ) (told : List Told) → FitsSigned w64 now → AllByRecursion FitsTold told → length told ≤ 1000
    → (notification_put (data_change (map (notified now) told))).keeps
unfolding a_data_change_notification unused_diagnostics
data_notification_keeps now told at h few =
    let same = length-map told (notified now) in
    ((omega (arith, same, few), all_map FitsTold a_monitored_item_notification.keeps (notified now) (notified_keeps now at) told h), tt)

-- ---- messages

-- an object's bytes
pub formed_fits : (number : ℕ) (now : ℤ) (told : List Told) → IsUInt32 number → FitsSigned w64 now → AllByRecursion FitsTold told
    → length told ≤ 1000 → FitsMessage (message_of number now told)
unfolding a_notification_message
formed_fits number now [] n at h few = record { keeps = (n, (at, (omega arith, tt))); holds = tt }
formed_fits number now (one ∷ more) n at h few = record {
  keeps = (
    n,
    (
      at,
      (omega arith, (((omega arith, notification_small notification_type.DataChange), data_written_long now (one ∷ more) few), tt)),
    ),
  );
  holds = (
    (data_change (map (notified now) (one ∷ more)), refl, data_notification_keeps now (one ∷ more) at h few),
    tt,
  );
}
