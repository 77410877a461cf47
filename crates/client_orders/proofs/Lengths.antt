-- How long what is written is.
use Rattle.std.proofs.Common.{◌≡◌, ℕ, zero, suc, ◌+◌, ◌*◌, ◌%◌, ◌^◌, List, [], ◌∷◌, ◌++◌, length, refl, ap, ◌∙◌, arith}
use Rattle.std.specs.Int.{bytes_low_first}
use Rattle.std.specs.List.{flat_map}
use Rattle.std.proofs.lemmas.List.{length-append}
use Rattle.byteorder.specs.Endian.{little_bytes}
use Rattle.ua_values.specs.Parts.{elements}
use Rattle.ua_values.specs.Written.{written_array}
use Rattle.ua_sub_msgs.specs.declared.publish.SubscriptionAcknowledgement.{SubscriptionAcknowledgement}
use Rattle.ua_sub_msgs.specs.Structures.{a_subscription_acknowledgement}

little_low : (from n x : ℕ) → length (bytes_low_first from n x) ≡ n
little_low from zero x = refl
little_low from (suc n) x = let rest = little_low (suc from) n x in omega (arith, rest)

pub little_long : (n x : ℕ) → length (little_bytes n x) ≡ n
little_long n x = little_low 0 n x

-- ---- acknowledgements, each of which has eight bytes

written_long : (a : SubscriptionAcknowledgement) → length (a_subscription_acknowledgement.written a) ≡ 8
unfolding a_subscription_acknowledgement
written_long a =
    let first : length (little_bytes 4 a.subscription_id) ≡ 4 = little_long 4 a.subscription_id in
    let second : length (little_bytes 4 a.sequence_number) ≡ 4 = little_long 4 a.sequence_number in
    let both = length-append (little_bytes 4 a.subscription_id) (little_bytes 4 a.sequence_number) in
    omega (arith, first, second, both)

all_written : (acks : List SubscriptionAcknowledgement) → length (flat_map a_subscription_acknowledgement.written acks) ≡ 8 * length acks
all_written [] = refl
all_written (a ∷ acks) =
    let first : length (a_subscription_acknowledgement.written a) ≡ 8 = written_long a in
    let rest : length (flat_map a_subscription_acknowledgement.written acks) ≡ 8 * length acks = all_written acks in
    let both = length-append (a_subscription_acknowledgement.written a) (flat_map a_subscription_acknowledgement.written acks) in
    let count : length (a ∷ acks) ≡ 1 + length acks = omega arith in
    omega (arith, first, rest, both, count)

pub array_written : (acks : List SubscriptionAcknowledgement)
    → length (written_array a_subscription_acknowledgement.written acks) ≡ 4 + 8 * length acks
array_written acks =
    let front : length (little_bytes 4 (length acks % 2 ^ 32)) ≡ 4 = little_long 4 (length acks % 2 ^ 32) in
    let rest : length (flat_map a_subscription_acknowledgement.written acks) ≡ 8 * length acks = all_written acks in
    let both = length-append (little_bytes 4 (length acks % 2 ^ 32)) (flat_map a_subscription_acknowledgement.written acks) in
    omega (arith, front, rest, both)

spelled_long : (a : SubscriptionAcknowledgement) (bytes : List ℕ) → a_subscription_acknowledgement.spells a bytes → length bytes ≡ 8
unfolding a_subscription_acknowledgement
spelled_long a bytes is =
    let first : length is.front ≡ 4 = is.first.0 in
    let second : length is.back ≡ 4 = is.second.0 in
    let both : length (is.front ++ is.back) ≡ length is.front + length is.back = length-append is.front is.back in
    ap length is.whole ∙ both ∙ omega arith

pub elements_long : (acks : List SubscriptionAcknowledgement) (bytes : List ℕ) → elements a_subscription_acknowledgement.spells acks bytes
    → length bytes ≡ 8 * length acks
elements_long [] bytes is = ap length is
elements_long (a ∷ acks) bytes is =
    let first : length is.front ≡ 8 = spelled_long a is.front is.first in
    let rest : length is.back ≡ 8 * length acks = elements_long acks is.back is.second in
    let both : length (is.front ++ is.back) ≡ length is.front + length is.back = length-append is.front is.back in
    ap length is.whole ∙ both ∙ omega arith
