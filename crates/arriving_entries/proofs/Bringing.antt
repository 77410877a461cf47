-- What is put into a message is read of it again.
use Rattle.std.proofs.Common.{◌≡◌, ◌≢◌, ◌==◌, ℕ, ℤ, ◌^◌, ◌<◌, List, [], ◌∷◌, ◌++◌, Bool, true, false, Some, None, IfSome, map, FitsSigned, refl, ap, arith}
use Rattle.std.specs.Int.{w64}
use Rattle.std.proofs.lemmas.List.{length-map}
use Rattle.ua_values.specs.Laws.{KeepsArray}
use Rattle.ua_variants.specs.declared.variant.Scalar.TheVariants as scalar
use Rattle.ua_variants.specs.declared.variant.Stamped.{Stamped}
use Rattle.ua_variants.specs.declared.variant.Variant.{Variant}
use Rattle.ua_variants.specs.Keeps.{KeepsDataValue, KeepsStamped, KeepsVariant}
use Rattle.ua_structures.specs.Body.{AreHeld, object_by}
use Rattle.ua_structures.specs.Structures.{unused_diagnostics}
use Rattle.ua_sub_msgs.specs.declared.notification.MonitoredItemNotification.{MonitoredItemNotification}
use Rattle.ua_sub_msgs.specs.Families.{notification_put, notifications}
use Rattle.ua_sub_msgs.specs.Structures.{a_data_change_notification, a_monitored_item_notification}
use Rattle.subscription.specs.Items.{Told}
use Rattle.subscription.specs.Message.{data_change, has_server, has_source, message_of, notified, sent_pico, sent_status, value_of}
use Rattle.link_rules.specs.declared.content.Content.TheVariants as content
use Rattle.link_rules.specs.Messages.{content_by, content_of, if_read, read_values, values_after}
use Rattle.arriving_entries.specs.Brought.{FitsTold, HoldsValues}
use Rattle.server_keeps.proofs.Lists.{all_map, choice}
use Rattle.server_keeps.proofs.Values.{scalar_keeps}

-- ---- its numbers are those that their types hold

abbrev IsPico : ℕ → Type 0
IsPico pico = pico < 2 ^ 16

data_keeps : (value : Stamped Variant) → KeepsStamped (KeepsVariant 100) value → KeepsDataValue 101 value
unfolding KeepsVariant KeepsDataValue
data_keeps value h = h

status_fits : (marked : Bool) → IfSome (sent_status marked) (λ n. n < 2 ^ 32)
status_fits true = omega arith
status_fits false = tt

entry_keeps : (now : ℤ) (one : Told) → FitsSigned w64 now → FitsTold one → KeepsStamped (KeepsVariant 100) (value_of now one.stamps one.entry)
entry_keeps now one at h =
    let change = one.entry.change in
    let pico : IsPico change.pico = let few = h.pico in omega (arith, few) in (
      scalar_keeps 99 (scalar.Int64 change.value) h.value,
      (
        status_fits one.entry.marked,
        choice (λ o. IfSome o (FitsSigned w64)) (has_source one.stamps) (Some change.time) None h.time tt,
        choice (λ o. IfSome o IsPico) (has_source one.stamps) (sent_pico change.pico) None
            (choice (λ o. IfSome o IsPico) (change.pico == 0) None (Some change.pico) tt pico) tt,
        choice (λ o. IfSome o (FitsSigned w64)) (has_server one.stamps) (Some now) None at tt,
        tt,
      ),
    )

notified_keeps : (now : ℤ) → FitsSigned w64 now → (one : Told) → FitsTold one → a_monitored_item_notification.keeps (notified now one)
unfolding a_monitored_item_notification
notified_keeps now at one h = (h.handle, data_keeps (value_of now one.stamps one.entry) (entry_keeps now one at h))

values_keep : (now : ℤ) (told : List Told) → FitsSigned w64 now → KeepsArray FitsTold told
    → (notification_put (data_change (map (notified now) told))).keeps
unfolding a_data_change_notification unused_diagnostics
values_keep now told at h =
    let same = length-map told (notified now) in
    let few = h.0 in
    ((omega (arith, same, few), all_map FitsTold a_monitored_item_notification.keeps (notified now) (notified_keeps now at) told h.1), tt)

-- ---- what is read

-- the one object holds the values
object_holds : AreHeld notifications notification_put → (values : List MonitoredItemNotification) → (notification_put (data_change values)).keeps
    → HoldsValues values (object_by notifications notification_put (data_change values) ∷ [])
object_holds held values kept = record {
  object = object_by notifications notification_put (data_change values);
  alone = refl;
  numbered = refl;
  read = held.again (data_change values) kept;
  no_status = refl;
}

-- and they are what the message brings
object_brings : AreHeld notifications notification_put → (values : List MonitoredItemNotification) → (notification_put (data_change values)).keeps
    → content_of (object_by notifications notification_put (data_change values) ∷ []) ≡ content.Values values
unfolding content_of
object_brings held values kept =
    ap (λ r. content_by (if_read (read_values r) (λ more. values_after ([] ++ more) []))) (held.again (data_change values) kept)

pub brings : AreHeld notifications notification_put → (number : ℕ) (now : ℤ) (told : List Told) → told ≢ [] → FitsSigned w64 now
    → KeepsArray FitsTold told → content_of (message_of number now told).notification_data ≡ content.Values (map (notified now) told)
brings held number now [] some at h = absurd (some refl)
brings held number now (one ∷ told) some at h = object_brings held (map (notified now) (one ∷ told)) (values_keep now (one ∷ told) at h)

pub holds_so : AreHeld notifications notification_put → (number : ℕ) (now : ℤ) (told : List Told) → told ≢ [] → FitsSigned w64 now
    → KeepsArray FitsTold told → HoldsValues (map (notified now) told) (message_of number now told).notification_data
holds_so held number now [] some at h = absurd (some refl)
holds_so held number now (one ∷ told) some at h = object_holds held (map (notified now) (one ∷ told)) (values_keep now (one ∷ told) at h)

pub is_alive : (number : ℕ) (now : ℤ) → content_of (message_of number now []).notification_data ≡ content.Alive
unfolding content_of
is_alive number now = refl
