-- The entries of a message are read from it again.
use Rattle.std.proofs.Common.{◌≡◌, ℕ, ℤ, ◌<◌, ◌≤◌, ◌==◌, List, [], ◌∷◌, ◌++◌, Bool, true, false, cond, map, length, Some, None, refl, sym, ap, ap₂, ◌∙◌, subst, arith}
use Rattle.std.specs.Prelude.{FitsSigned, IfSome, ◌^◌}
use Rattle.std.specs.Int.{w64}
use Rattle.std.specs.List.{AllByRecursion}
use Rattle.std.proofs.lemmas.Bool.Decides.{nat_tests}
use Rattle.std.proofs.lemmas.List.{append-nil, length-map}
use Rattle.set_model.specs.Source.{stamp_of}
use Rattle.item_queue.specs.declared.queue.Entry.{Entry}
use Rattle.ua_base.specs.declared.modes.Timestamps.{Timestamps}
use Rattle.ua_variants.specs.Keeps.{KeepsDataValue, KeepsLayer, KeepsVariant}
use Rattle.ua_variants.specs.declared.variant.Scalar.{Scalar}
use Rattle.ua_variants.specs.declared.variant.Scalar.TheVariants as scalar
use Rattle.ua_variants.specs.declared.variant.Variant.{out-Variant, out-roll-Variant}
use Rattle.ua_variants.specs.declared.variant.Variant.TheOpen.{Variant-F}
use Rattle.ua_variants.specs.declared.variant.Variant.TheVariants as variant
use Rattle.ua_variants.specs.declared.variant.Variant.TheVariants.{rolls-Scalar}
use Rattle.ua_structures.specs.Structures.{unused_diagnostics}
use Rattle.ua_structures.specs.Body.{AreHeld}
use Rattle.ua_structures.proofs.BodyLaws.{contents_lawful}
use Rattle.ua_sub_msgs.specs.declared.notification.MonitoredItemNotification.{MonitoredItemNotification}
use Rattle.ua_sub_msgs.specs.Structures.{a_data_change_notification, a_monitored_item_notification}
use Rattle.ua_sub_msgs.specs.Families.{notifications, notification_put}
use Rattle.ua_sub_msgs.proofs.Spelled.{notification_spelled}
use Rattle.subscription.specs.Items.{Told}
use Rattle.subscription.specs.Message.{data_change, has_server, has_source, message_of, notified, sent_pico, sent_status, value_of}
use Rattle.subscription.specs.Seen.{AreTellable, IsTellable, entries_seen, entry_at, entry_in, mark_in, pico_in, scalar_in, seen, seen_in, seen_read, seen_with, stamp_in}

held : AreHeld notifications notification_put
held = contents_lawful notifications notification_put notification_spelled

-- ---- what is written keeps the rules

out_scalar : (value : Scalar) → out-Variant (variant.Scalar value) ≡ Variant-F.Scalar value
out_scalar value = ap out-Variant (sym (rolls-Scalar value)) ∙ out-roll-Variant (Variant-F.Scalar value)

number_keeps : (number : ℤ) → FitsSigned w64 number → KeepsVariant 100 (variant.Scalar (scalar.Int64 number))
unfolding KeepsVariant
number_keeps number fits = subst (KeepsLayer (KeepsVariant 99) (KeepsDataValue 99)) (sym (out_scalar (scalar.Int64 number))) fits

status_keeps : (marked : Bool) → IfSome (sent_status marked) (λ n. n < 2 ^ 32)
status_keeps true = omega arith
status_keeps false = tt

some_keeps : (b : Bool) (time : ℤ) → FitsSigned w64 time → IfSome (cond b (Some time) None) (FitsSigned w64)
some_keeps true time fits = fits
some_keeps false time fits = tt

pico_keeps : (b none : Bool) (pico : ℕ) → pico ≤ 9999 → IfSome (cond b (cond none None (Some pico)) None) (λ n. n < 2 ^ 16)
pico_keeps true true pico most = tt
pico_keeps true false pico most = omega arith
pico_keeps false none pico most = tt

value_keeps : (now : ℤ) (stamps : Timestamps) (entry : Entry) → FitsSigned w64 now → FitsSigned w64 entry.change.time
    → entry.change.pico ≤ 9999 → FitsSigned w64 entry.change.value → KeepsDataValue 101 (value_of now stamps entry)
unfolding KeepsDataValue
value_keeps now stamps entry fits time pico value = (
  number_keeps entry.change.value value,
  (
    status_keeps entry.marked,
    some_keeps (has_source stamps) entry.change.time time,
    pico_keeps (has_source stamps) (entry.change.pico == 0) entry.change.pico pico,
    some_keeps (has_server stamps) now fits,
    tt,
  ),
)

notified_keeps : (now : ℤ) (one : Told) → FitsSigned w64 now → IsTellable one → a_monitored_item_notification.keeps (notified now one)
unfolding a_monitored_item_notification
notified_keeps now one fits h = (h.handle, value_keeps now one.stamps one.entry fits h.time h.pico h.value)

all_keep : (now : ℤ) (entries : List Told) → FitsSigned w64 now → AreTellable entries
    → AllByRecursion a_monitored_item_notification.keeps (map (notified now) entries)
all_keep now [] fits h = tt
all_keep now (one ∷ more) fits h = (notified_keeps now one fits h.0, all_keep now more fits h.1)

unused_keeps : (unused_diagnostics).keeps (record {})
unfolding unused_diagnostics
unused_keeps = tt

data_keeps : (now : ℤ) (entries : List Told) → FitsSigned w64 now → AreTellable entries → length entries ≤ 65536
    → (notification_put (data_change (map (notified now) entries))).keeps
unfolding a_data_change_notification
data_keeps now entries fits h most = ((subst (λ n. n ≤ 65536) (sym (length-map entries (notified now))) most, all_keep now entries fits h), unused_keeps)

-- ---- what is read

seen_pico : (pico : ℕ) (b : Bool) → (pico == 0) ≡ b → pico_in (cond b None (Some pico)) ≡ pico
seen_pico pico true test = let none : pico ≡ 0 = grind (arith, nat_tests) in sym none
seen_pico pico false test = refl

seen_stamp : (time : ℤ) (pico : ℕ) (source : Bool)
    → stamp_in (cond source (Some time) None) (cond source (sent_pico pico) None) ≡ cond source (Some (record { time = time; pico = pico })) None
seen_stamp time pico true = ap (λ p. Some (record { time = time; pico = p })) (seen_pico pico (pico == 0) refl)
seen_stamp time pico false = refl

seen_mark : (marked : Bool) → mark_in (sent_status marked) ≡ marked
seen_mark true = refl
seen_mark false = refl

seen_one : (now : ℤ) (one : Told) (more : List MonitoredItemNotification) → seen_in (notified now one ∷ more) ≡ seen one ∷ seen_in more
seen_one now one more =
    ap (λ value. seen_with (notified now one) (scalar_in value) (seen_in more)) (out_scalar (scalar.Int64 one.entry.change.value))
    ∙ ap₂ (λ stamp marked. record { handle = one.handle; stamp = stamp; value = one.entry.change.value; marked = marked } ∷ seen_in more)
    (seen_stamp one.entry.change.time one.entry.change.pico (has_source one.stamps)) (seen_mark one.entry.marked)

pub all_seen : (now : ℤ) (entries : List Told) → seen_in (map (notified now) entries) ≡ map seen entries
all_seen now [] = refl
all_seen now (one ∷ more) = seen_one now one (map (notified now) more) ∙ ap (λ rest. seen one ∷ rest) (all_seen now more)

pub entries_are_told : (number : ℕ) (now : ℤ) (entries : List Told) → FitsSigned w64 now → AreTellable entries → length entries ≤ 65536
    → entries_seen (message_of number now entries) ≡ map seen entries
entries_are_told number now [] fits h most = refl
entries_are_told number now (one ∷ more) fits h most =
    ap (λ read. seen_read read ++ []) (held.again (data_change (map (notified now) (one ∷ more))) (data_keeps now (one ∷ more) fits h most))
    ∙ append-nil (seen_in (map (notified now) (one ∷ more)))
    ∙ all_seen now (one ∷ more)

entry_with : (one : Told) (source : Bool) → has_source one.stamps ≡ source → source ≡ true → one.handle ≡ one.entry.change.item → entry_in (seen one) ≡ Some one.entry
entry_with one source is told same =
    ap (λ b. entry_at (seen one) (cond b (Some (stamp_of one.entry.change)) None)) (is ∙ told)
    ∙ ap (λ item. Some (record { change = record one.entry.change { item = item }; marked = one.entry.marked })) same

pub entry_is_told : (one : Told) → has_source one.stamps ≡ true → one.handle ≡ one.entry.change.item → entry_in (seen one) ≡ Some one.entry
entry_is_told one told same = entry_with one _ told refl same
