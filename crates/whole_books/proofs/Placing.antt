-- The values of a message of a subscription stand at its place in the book.
use Rattle.std.proofs.Common.{◌≡◌, ◌≢◌, ◌≤◌, ℕ, ℤ, zero, suc, List, [], ◌∷◌, ◌++◌, length, map, Some, None, refl, sym, ap, subst, ◌∙◌, slice_get}
use Rattle.std.specs.Prelude.{FitsSigned}
use Rattle.std.specs.Int.{w64}
use Rattle.std.specs.List.{AllByRecursion}
use Rattle.std.proofs.lemmas.Option.{same_Some}
use Rattle.ua_base.specs.declared.modes.Timestamps.{Timestamps}
use Rattle.ua_values.specs.Laws.{KeepsArray}
use Rattle.ua_sub_msgs.specs.declared.notification.MonitoredItemNotification.{MonitoredItemNotification}
use Rattle.ua_sub_msgs.specs.declared.notification.NotificationMessage.{NotificationMessage}
use Rattle.ua_sub_msgs.specs.Structures.{a_notification_message}
use Rattle.subscription.specs.Items.{Told}
use Rattle.subscription.specs.Message.{message_of, notification_of, notified}
use Rattle.server_keeps.specs.Fitting.{FitsMessage}
use Rattle.server_chains.specs.Chains.{AreTold, EachTold, joined}
use Rattle.link_rules.specs.declared.content.Content.{Content}
use Rattle.link_rules.specs.declared.content.Content.TheVariants as content
use Rattle.link_rules.specs.Messages.{content_of}
use Rattle.arriving_entries.specs.Brought.{FitsTold}
use Rattle.life_books.specs.Books.{AreValuesOf, IsTimed}
use Rattle.whole_books.proofs.Entries.{IsSourced}

-- what the crate of the entries says of a message
abbrev pub Brings : Type 0
Brings = (number : ℕ) (now : ℤ) (told : List Told) → told ≢ [] → FitsSigned w64 now → KeepsArray FitsTold told
    → content_of (message_of number now told).notification_data ≡ content.Values (map (notified now) told)

-- how many entries a message has that keeps the limits
abbrev pub FewKept : Type 0
FewKept = (number : ℕ) (now : ℤ) (told : List Told) → EachTold IsTimed told → a_notification_message.keeps (message_of number now told)
    → (length told ≤ 65536) × FitsSigned w64 now

-- ---- the book

pub as_long : (book : List (List MonitoredItemNotification)) (told : List (List Told)) → AreValuesOf book told → length book ≡ length told
as_long [] [] are = refl
as_long [] (told ∷ more) are = absurd are
as_long (values ∷ book) [] are = absurd are
as_long (values ∷ book) (told ∷ more) are = ap suc (as_long book more are.1)

-- where source times alone are sent, the server's time doesn't matter
one_time : (now then : ℤ) (one : Told) → IsSourced one → notified now one ≡ notified then one
one_time now then one sourced =
    ap (λ (stamps : Timestamps). notification_of one.handle now stamps one.entry) sourced.stamps
    ∙ sym (ap (λ (stamps : Timestamps). notification_of one.handle then stamps one.entry) sourced.stamps)

any_time : (now then : ℤ) (told : List Told) → EachTold IsSourced told → map (notified now) told ≡ map (notified then) told
any_time now then [] each = refl
any_time now then (one ∷ told) each =
    ap (λ (value : MonitoredItemNotification). value ∷ map (notified now) told) (one_time now then one each.0)
    ∙ ap (λ (l : List MonitoredItemNotification). notified then one ∷ l) (any_time now then told each.1)

-- ---- each entry of a message

front_each : (P : Told → Type 0) (first more : List Told) → EachTold P (first ++ more) → EachTold P first
front_each P [] more each = tt
front_each P (one ∷ first) more each = (each.0, front_each P first more each.1)

rest_each : (P : Told → Type 0) (first more : List Told) → EachTold P (first ++ more) → EachTold P more
rest_each P [] more each = each
rest_each P (one ∷ first) more each = rest_each P first more each.1

each_fits : (told : List Told) → EachTold FitsTold told → AllByRecursion FitsTold told
each_fits [] each = tt
each_fits (one ∷ told) each = (each.0, each_fits told each.1)

-- ---- a message

values_is : (one other : List MonitoredItemNotification) → ◌≡◌ {A = Content} (content.Values one) (content.Values other) → one ≡ other
values_is one other same = cc

message_is : Brings → FewKept → (message : NotificationMessage) (number : ℕ) (now : ℤ) (one : Told) (told : List Told) (values : List MonitoredItemNotification)
    → message ≡ message_of number now (one ∷ told) → EachTold IsTimed (one ∷ told) → EachTold FitsTold (one ∷ told) → FitsMessage message
    → content_of message.notification_data ≡ content.Values values → map (notified now) (one ∷ told) ≡ values
message_is brings few message number now one told values is timed fits keeps has =
    let short = few number now (one ∷ told) timed (subst (λ (m : NotificationMessage). a_notification_message.keeps m) is keeps.keeps) in
    values_is (map (notified now) (one ∷ told)) values
    (sym (brings number now (one ∷ told) (λ none. cc) short.1 (short.0, each_fits (one ∷ told) fits))
    ∙ ap (λ (m : NotificationMessage). content_of m.notification_data) (sym is) ∙ has)

pub value_at : Brings → FewKept → (book : List (List MonitoredItemNotification)) (messages : List NotificationMessage) (told : List (List Told)) → AreValuesOf book told → AreTold messages told
    → EachTold IsSourced (joined told) → EachTold IsTimed (joined told) → EachTold FitsTold (joined told) → (place : ℕ) (message : NotificationMessage) (values : List MonitoredItemNotification)
    → slice_get messages place ≡ Some message → FitsMessage message → content_of message.notification_data ≡ content.Values values
    → slice_get book place ≡ Some values
value_at brings few book [] told are h sourced timed fits place message values here keeps has = let bad : None ≡ Some message = here in absurd cc
value_at brings few book (first ∷ messages) [] are h sourced timed fits place message values here keeps has = absurd h
value_at brings few book (first ∷ messages) ([] ∷ more) are h sourced timed fits place message values here keeps has = absurd h
value_at brings few [] (first ∷ messages) ((one ∷ told) ∷ more) are h sourced timed fits place message values here keeps has = absurd are
value_at brings few (own ∷ book) (first ∷ messages) ((one ∷ told) ∷ more) are h sourced timed fits zero message values here keeps has =
    let now : ℤ = h.0.1 in
    ap (λ (l : List MonitoredItemNotification). Some l)
    (are.0.1 ∙ any_time are.0.0 now (one ∷ told) (front_each IsSourced (one ∷ told) (joined more) sourced)
    ∙ message_is brings few message h.0.0 now one told values (sym (same_Some first message here) ∙ h.0.2)
    (front_each IsTimed (one ∷ told) (joined more) timed) (front_each FitsTold (one ∷ told) (joined more) fits) keeps has)
value_at brings few (own ∷ book) (first ∷ messages) ((one ∷ told) ∷ more) are h sourced timed fits (suc place) message values here keeps has =
    value_at brings few book messages more are.1 h.1 (rest_each IsSourced (one ∷ told) (joined more) sourced) (rest_each IsTimed (one ∷ told) (joined more) timed)
    (rest_each FitsTold (one ∷ told) (joined more) fits) place message values here keeps has
