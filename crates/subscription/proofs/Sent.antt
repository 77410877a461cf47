-- The numbers of the messages that were sent, and which of them are kept.
use Rattle.std.proofs.Common.{◌≡◌, ℕ, ℤ, suc, ◌+◌, ◌-◌, ◌%◌, ◌^◌, ◌<◌, ◌≤◌, ◌==◌, List, [], ◌∷◌, Bool, true, false, cond, length, take, Option, Some, None, refl, sym, ap, ◌∙◌, arith}
use Rattle.std.specs.Prelude.{if◌then◌else◌, ◌&&◌, not, nat_lt}
use Rattle.std.proofs.lemmas.Bool.Decides.{nat_tests}
use Rattle.std.proofs.lemmas.List.{length-take, length-reverse}
use Rattle.std.proofs.Math.Nat.{suc-mod, mod_self, mod-eq_of_lt, mod-lt}
use Rattle.ua_base.specs.Number.{after_message}
use Rattle.retransmit.specs.Kept.{message_of, with_sent, without}
use Rattle.retransmit.specs.History.{Call as KeptCall, acknowledged, available, kept_after, most_waiting, unacknowledged}
use Rattle.retransmit.proofs.Available.{given_available}
use Rattle.retransmit.proofs.Newest.{are_newest}
use Rattle.ua_sub_msgs.specs.declared.notification.NotificationMessage.{NotificationMessage}
use Rattle.subscription.specs.declared.spec.SubSpec.{SubSpec}
use Rattle.subscription.specs.declared.cycle.Cycle.{Cycle}
use Rattle.subscription.specs.declared.cycle.Cycle.TheVariants.{Quiet, Notify, KeepAlive, Late, Expired}
use Rattle.subscription.specs.State.{SubState}
use Rattle.subscription.specs.Items.{Told}
use Rattle.subscription.specs.Message as form
use Rattle.subscription.specs.Cycle.{after_row, cycled, row_of}
use Rattle.subscription.specs.Calls.{after_sending, entries_told, items_left, next_message, published, sent_with}
use Rattle.subscription.specs.History.{Call, Add, Remove, SetMode, Feed, Timer, Publish, Acknowledge, Modify, SetEnabled, Moved, state_of}
use Rattle.subscription.specs.Sendings.{counted, data_count, data_of, data_sent, kept_next, kept_with, number_of, sendings}

-- ---- numbers

number_at : (k : ℕ) → number_of (k + 1) ≡ 1 + k % (2 ^ 32 - 1)
number_at k = let same : k + 1 - 1 ≡ k = omega arith in ap (λ n. 1 + n % (2 ^ 32 - 1)) same

number_by : (k : ℕ) (b : Bool) → (1 + k % (2 ^ 32 - 1) == 2 ^ 32 - 1) ≡ b
    → after_message (1 + k % (2 ^ 32 - 1)) ≡ 1 + (k + 1) % (2 ^ 32 - 1)
number_by k true test =
    let last : suc (k % (2 ^ 32 - 1)) ≡ 2 ^ 32 - 1 = grind (arith, nat_tests) in
    let none : suc k % (2 ^ 32 - 1) ≡ 0 = suc-mod k (2 ^ 32 - 1) ∙ ap (λ n. n % (2 ^ 32 - 1)) last ∙ mod_self (2 ^ 32 - 1) in
    let next : k + 1 ≡ suc k = omega arith in
    ap (λ b. cond b 1 (1 + k % (2 ^ 32 - 1) + 1)) test ∙ ap (λ n. 1 + n) (sym (ap (λ n. n % (2 ^ 32 - 1)) next ∙ none))
number_by k false test =
    let below : k % (2 ^ 32 - 1) < 2 ^ 32 - 1 = mod-lt k (omega arith) in
    let less : suc (k % (2 ^ 32 - 1)) < 2 ^ 32 - 1 = grind (arith, nat_tests) in
    let more : suc k % (2 ^ 32 - 1) ≡ suc (k % (2 ^ 32 - 1)) = suc-mod k (2 ^ 32 - 1) ∙ mod-eq_of_lt less in
    let next : k + 1 ≡ suc k = omega arith in
    let sum : 1 + k % (2 ^ 32 - 1) + 1 ≡ 1 + suc (k % (2 ^ 32 - 1)) = omega arith in
    ap (λ b. cond b 1 (1 + k % (2 ^ 32 - 1) + 1)) test ∙ sum ∙ ap (λ n. 1 + n) (sym (ap (λ n. n % (2 ^ 32 - 1)) next ∙ more))

number_on : (k : ℕ) → after_message (number_of (k + 1)) ≡ number_of (k + 1 + 1)
number_on k = ap after_message (number_at k) ∙ number_by k _ refl ∙ sym (number_at (k + 1))

cycled_next : (queued : Bool) (s : SubState) → (cycled queued s).next ≡ s.next
cycled_next queued s = by_row (row_of queued s)
  where
    by_row : (row : Cycle) → (after_row row queued s).next ≡ s.next
    by_row Quiet = refl
    by_row Notify = refl
    by_row KeepAlive = refl
    by_row Late = refl
    by_row Expired = refl

published_next : (now : ℤ) (s : SubState) (count : ℕ) → s.next ≡ number_of (count + 1)
    → (published now s).next ≡ number_of (counted (data_sent (Publish now) s) count + 1)
published_next now s count is = by_entries (entries_told s)
  where
    by_entries : (entries : List Told) → (after_sending (sent_with entries now (record s { items = items_left s }))).next
        ≡ number_of (counted (data_of s.next now entries) count + 1)
    by_entries [] = is
    by_entries (one ∷ more) = ap after_message is ∙ number_on count

pub next_is : (spec : SubSpec) (start : ℕ) (calls : List Call) → (state_of spec start calls).next ≡ number_of (data_count spec start calls + 1)
next_is spec start [] = refl
next_is spec start (Add item current ∷ earlier) = next_is spec start earlier
next_is spec start (Remove id ∷ earlier) = next_is spec start earlier
next_is spec start (SetMode id mode current ∷ earlier) = next_is spec start earlier
next_is spec start (Feed change ∷ earlier) = next_is spec start earlier
next_is spec start (Timer queued ∷ earlier) = cycled_next queued (state_of spec start earlier) ∙ next_is spec start earlier
next_is spec start (Publish now ∷ earlier) = published_next now (state_of spec start earlier) (data_count spec start earlier) (next_is spec start earlier)
next_is spec start (Acknowledge number ∷ earlier) = next_is spec start earlier
next_is spec start (Modify changed now ∷ earlier) = next_is spec start earlier
next_is spec start (SetEnabled enabled ∷ earlier) = next_is spec start earlier
next_is spec start (Moved ∷ earlier) = next_is spec start earlier

message_is : (number : ℕ) (now : ℤ) (entries : List Told) (message : NotificationMessage) → data_of number now entries ≡ Some message
    → message.sequence_number ≡ number
message_is number now [] message is = absurd cc
message_is number now (one ∷ more) message is =
    let same : form.message_of number now (one ∷ more) ≡ message = cc in
    sym (ap (λ (m : NotificationMessage). m.sequence_number) same)

number_sent : (call : Call) (s : SubState) (message : NotificationMessage) → data_sent call s ≡ Some message → message.sequence_number ≡ s.next
number_sent (Add item current) s message is = absurd cc
number_sent (Remove id) s message is = absurd cc
number_sent (SetMode id mode current) s message is = absurd cc
number_sent (Feed change) s message is = absurd cc
number_sent (Timer queued) s message is = absurd cc
number_sent (Publish now) s message is = message_is s.next now (entries_told s) message is
number_sent (Acknowledge number) s message is = absurd cc
number_sent (Modify changed now) s message is = absurd cc
number_sent (SetEnabled enabled) s message is = absurd cc
number_sent Moved s message is = absurd cc

pub data_number : (spec : SubSpec) (start : ℕ) (calls : List Call) (call : Call) (message : NotificationMessage)
    → data_sent call (state_of spec start calls) ≡ Some message → message.sequence_number ≡ number_of (data_count spec start calls + 1)
data_number spec start calls call message is = number_sent call (state_of spec start calls) message is ∙ next_is spec start calls

pub keep_alive_number : (now : ℤ) (s : SubState) → entries_told s ≡ [] → ((next_message now s).sequence_number ≡ s.next) × ((published now s).next ≡ s.next)
keep_alive_number now s none = (refl, ap (λ entries. (after_sending (sent_with entries now (record s { items = items_left s }))).next) none)

-- ---- what is kept

cycled_kept : (queued : Bool) (s : SubState) → (cycled queued s).kept ≡ s.kept
cycled_kept queued s = by_row (row_of queued s)
  where
    by_row : (row : Cycle) → (after_row row queued s).kept ≡ s.kept
    by_row Quiet = refl
    by_row Notify = refl
    by_row KeepAlive = refl
    by_row Late = refl
    by_row Expired = refl

published_kept : (now : ℤ) (s : SubState) (calls : List (KeptCall NotificationMessage)) → s.kept ≡ kept_after calls → (published now s).kept ≡ kept_after (kept_next (Publish now) s calls)
published_kept now s calls is = by_entries (entries_told s)
  where
    by_entries : (entries : List Told) → (after_sending (sent_with entries now (record s { items = items_left s }))).kept
        ≡ kept_after (kept_with (data_of s.next now entries) calls)
    by_entries [] = is
    by_entries (one ∷ more) = ap (with_sent s.next (form.message_of s.next now (one ∷ more))) is

pub kept_is : (spec : SubSpec) (start : ℕ) (calls : List Call) → (state_of spec start calls).kept ≡ kept_after (sendings spec start calls)
kept_is spec start [] = refl
kept_is spec start (Add item current ∷ earlier) = kept_is spec start earlier
kept_is spec start (Remove id ∷ earlier) = kept_is spec start earlier
kept_is spec start (SetMode id mode current ∷ earlier) = kept_is spec start earlier
kept_is spec start (Feed change ∷ earlier) = kept_is spec start earlier
kept_is spec start (Timer queued ∷ earlier) = cycled_kept queued (state_of spec start earlier) ∙ kept_is spec start earlier
kept_is spec start (Publish now ∷ earlier) = published_kept now (state_of spec start earlier) (sendings spec start earlier) (kept_is spec start earlier)
kept_is spec start (Acknowledge number ∷ earlier) = ap (without number) (kept_is spec start earlier)
kept_is spec start (Modify changed now ∷ earlier) = kept_is spec start earlier
kept_is spec start (SetEnabled enabled ∷ earlier) = kept_is spec start earlier
kept_is spec start (Moved ∷ earlier) = kept_is spec start earlier

pub given_is : (spec : SubSpec) (start : ℕ) (calls : List Call) (number : ℕ)
    → message_of number (state_of spec start calls).kept ≡ available number (sendings spec start calls)
given_is spec start calls number = ap (message_of number) (kept_is spec start calls) ∙ given_available number (sendings spec start calls)

never : {A : Type 0} (b acknowledged : Bool) (value : Option A) → acknowledged ≡ true → (if b && not acknowledged then value else None) ≡ None
never true true value is = refl
never false true value is = refl
never b false value is = absurd cc

pub acknowledged_gone : (spec : SubSpec) (start : ℕ) (calls : List Call) (number : ℕ) → acknowledged number (sendings spec start calls) ≡ true
    → message_of number (state_of spec start calls).kept ≡ None
acknowledged_gone spec start calls number is =
    given_is spec start calls number ∙ never (nat_lt (most_waiting number (sendings spec start calls)) 64) (acknowledged number (sendings spec start calls)) _ is

pub most_kept : (spec : SubSpec) (start : ℕ) (calls : List Call) → length (state_of spec start calls).kept ≤ 64
most_kept spec start calls =
    let newest = are_newest (sendings spec start calls) in
    let long : length (state_of spec start calls).kept ≡ length (take newest.0 (unacknowledged (sendings spec start calls))) =
    ap length (kept_is spec start calls ∙ newest.2) ∙ length-reverse (take newest.0 (unacknowledged (sendings spec start calls))) in
    let short = length-take newest.0 (unacknowledged (sendings spec start calls)) in
    let most = newest.1 in
    omega arith
