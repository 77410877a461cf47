-- A message that keeps the rules on lengths tells few entries: each is sent in sixteen bytes at least.
use Rattle.std.proofs.Common.{◌≡◌, ◌≤◌, ℕ, ℤ, ◌+◌, ◌*◌, ◌%◌, ◌^◌, List, [], ◌∷◌, ◌++◌, length, map, true, FitsSigned, ap, ◌∙◌, arith}
use Rattle.std.specs.Int.{w64, cast_unsigned}
use Rattle.std.specs.List.{flat_map}
use Rattle.std.proofs.lemmas.List.{length-append}
use Rattle.byteorder.specs.Endian.{little_bytes}
use Rattle.byteorder.specs.Numbers.{length-bytes_low_first}
use Rattle.ua_base.specs.declared.modes.Timestamps.{Timestamps}
use Rattle.ua_base.specs.declared.modes.Timestamps.TheVariants.{Source, Server, Both, Neither}
use Rattle.item_queue.specs.declared.queue.Entry.{Entry}
use Rattle.ua_values.specs.Written.{written_signed}
use Rattle.ua_variants.specs.declared.variant.Scalar.TheVariants as scalar
use Rattle.ua_variants.specs.declared.variant.Variant.TheVariants as variant
use Rattle.ua_variants.specs.Spelling.{mask_of, written_some, written_variant}
use Rattle.ua_variants.proofs.Layers.{written_one}
use Rattle.ua_structures.specs.Structures.{unused_diagnostics}
use Rattle.ua_sub_msgs.specs.Structures.{a_data_change_notification, a_monitored_item_notification, a_notification_message}
use Rattle.subscription.specs.Items.{Told}
use Rattle.subscription.specs.Message.{has_source, message_of, notification_of, notified, sent_pico, sent_status, value_of}
use Rattle.server_chains.specs.Chains.{EachTold}
use Rattle.life_books.specs.Books.{IsTimed}

little_long : (n x : ℕ) → length (little_bytes n x) ≡ n
little_long n x = length-bytes_low_first 0 n x

-- ---- one entry

-- a handle, a mask, a value, a status, a time, and what else is told
parts_long : (handle mask value status time pico server more : List ℕ) → length handle ≡ 4 → length value ≡ 9 → length time ≡ 8
    → 16 ≤ length (handle ++ (mask ++ value ++ (status ++ time ++ pico ++ server ++ more)))
parts_long handle mask value status time pico server more h v t =
    let all = length-append handle (mask ++ value ++ (status ++ time ++ pico ++ server ++ more)) in
    let whole = length-append (mask ++ value) (status ++ time ++ pico ++ server ++ more) in
    let first = length-append mask value in
    let e = length-append (status ++ time ++ pico ++ server) more in
    let d = length-append (status ++ time ++ pico) server in
    let c = length-append (status ++ time) pico in
    let b = length-append status time in
    omega (arith, all, whole, first, e, d, c, b, h, v, t)

-- the kind of a value, which is one byte, and a number
number_long : (one : ℕ) (value : ℤ) → length (little_bytes 1 one ++ written_signed 8 w64 value) ≡ 9
number_long one value =
    let first : length (little_bytes 1 one) ≡ 1 = little_long 1 one in
    let second : length (written_signed 8 w64 value) ≡ 8 = little_long 8 (cast_unsigned w64 value) in
    let both : length (little_bytes 1 one ++ written_signed 8 w64 value) ≡ length (little_bytes 1 one) + length (written_signed 8 w64 value) =
    length-append (little_bytes 1 one) (written_signed 8 w64 value) in
    omega (arith, first, second, both)

value_long : (value : ℤ) → length (written_variant (variant.Scalar (scalar.Int64 value))) ≡ 9
value_long value = ap length (written_one (scalar.Int64 value)) ∙ number_long 8 value

entry_long : (handle : ℕ) (now : ℤ) (stamps : Timestamps) (entry : Entry) → has_source stamps ≡ true
    → 16 ≤ length (a_monitored_item_notification.written (notification_of handle now stamps entry))
unfolding a_monitored_item_notification
entry_long handle now Source entry h =
    parts_long (little_bytes 4 handle) (little_bytes 1 (mask_of (value_of now Source entry))) (written_variant (variant.Scalar (scalar.Int64 entry.change.value)))
    (written_some (little_bytes 4) (sent_status entry.marked)) (written_signed 8 w64 entry.change.time)
    (written_some (little_bytes 2) (sent_pico entry.change.pico)) [] [] (little_long 4 handle) (value_long entry.change.value)
    (little_long 8 (cast_unsigned w64 entry.change.time))
entry_long handle now Server entry h = absurd cc
entry_long handle now Both entry h =
    parts_long (little_bytes 4 handle) (little_bytes 1 (mask_of (value_of now Both entry))) (written_variant (variant.Scalar (scalar.Int64 entry.change.value)))
    (written_some (little_bytes 4) (sent_status entry.marked)) (written_signed 8 w64 entry.change.time)
    (written_some (little_bytes 2) (sent_pico entry.change.pico)) (written_signed 8 w64 now) [] (little_long 4 handle) (value_long entry.change.value)
    (little_long 8 (cast_unsigned w64 entry.change.time))
entry_long handle now Neither entry h = absurd cc

-- ---- all entries

entries_long : (now : ℤ) (told : List Told) → EachTold IsTimed told
    → 16 * length told ≤ length (flat_map a_monitored_item_notification.written (map (notified now) told))
entries_long now [] timed = omega arith
entries_long now (one ∷ more) timed =
    let first : 16 ≤ length (a_monitored_item_notification.written (notified now one)) =
    entry_long one.handle now one.stamps one.entry timed.0.timed in
    let rest : 16 * length more ≤ length (flat_map a_monitored_item_notification.written (map (notified now) more)) =
    entries_long now more timed.1 in
    let both = length-append (a_monitored_item_notification.written (notified now one))
    (flat_map a_monitored_item_notification.written (map (notified now) more)) in
    let count : length (one ∷ more) ≡ 1 + length more = omega arith in
    omega (arith, first, rest, both, count)

-- ---- the message

-- the count of the values, the values, and what isn't used
text_few : (count values unused : List ℕ) (n : ℕ) → 16 * n ≤ length values → length ((count ++ values) ++ unused) ≤ 1048576 → n ≤ 65536
text_few count values unused n long few =
    let all = length-append (count ++ values) unused in
    let front = length-append count values in
    omega (arith, all, front, long, few)

pub few_kept : (number : ℕ) (now : ℤ) (told : List Told) → EachTold IsTimed told → a_notification_message.keeps (message_of number now told)
    → (length told ≤ 65536) × FitsSigned w64 now
unfolding a_notification_message a_data_change_notification
few_kept number now [] timed kept = (omega arith, kept.1.0)
few_kept number now (one ∷ more) timed kept = (
  text_few (little_bytes 4 (length (map (notified now) (one ∷ more)) % 2 ^ 32))
      (flat_map a_monitored_item_notification.written (map (notified now) (one ∷ more)))
      (unused_diagnostics.written (record {})) (length (one ∷ more)) (entries_long now (one ∷ more) timed) kept.1.1.1.0.1,
  kept.1.0,
)
