-- The values of messages, by their places.
use Rattle.std.proofs.Common.{◌≡◌, ◌≢◌, ◌+◌, ℕ, ℤ, zero, suc, List, [], ◌∷◌, map, Some, None, refl, sym, ap, subst, ◌∙◌, arith, slice_get}
use Rattle.std.specs.Prelude.{FitsSigned}
use Rattle.std.specs.Int.{w64}
use Rattle.std.proofs.lemmas.Option.{same_Some}
use Rattle.ua_values.specs.Laws.{KeepsArray}
use Rattle.ua_sub_msgs.specs.declared.notification.MonitoredItemNotification.{MonitoredItemNotification}
use Rattle.ua_sub_msgs.specs.declared.notification.NotificationMessage.{NotificationMessage}
use Rattle.subscription.specs.Items.{Told}
use Rattle.subscription.specs.Message.{message_of, notified}
use Rattle.server_laws.specs.Lives.{AreNumbered}
use Rattle.server_chains.specs.Chains.{AreTold}
use Rattle.link_rules.specs.declared.content.Content.TheVariants as content
use Rattle.link_rules.specs.Messages.{content_of}
use Rattle.arriving_entries.specs.Brought.{FitsTold}
use Rattle.link_following.specs.Book.{number_of}
use Rattle.life_books.specs.Books.{AreValuesOf}
use Rattle.life_books.specs.Lives.{AreFitting, IsBrought}

-- what the crate of the entries says of a message
abbrev pub Brings : Type 0
Brings = (number : ℕ) (now : ℤ) (told : List Told) → told ≢ [] → FitsSigned w64 now → KeepsArray FitsTold told
    → content_of (message_of number now told).notification_data ≡ content.Values (map (notified now) told)

-- the values of each message, at its time
abbrev pub values_from : (messages : List NotificationMessage) (told : List (List Told)) → AreTold messages told → List (List MonitoredItemNotification)
values_from [] [] h = []
values_from [] (told ∷ more) h = []
values_from (message ∷ messages) [] h = []
values_from (message ∷ messages) ([] ∷ more) h = []
values_from (message ∷ messages) ((one ∷ told) ∷ more) h = map (notified h.0.1) (one ∷ told) ∷ values_from messages more h.1

pub values_are : (messages : List NotificationMessage) (told : List (List Told)) (h : AreTold messages told) → AreValuesOf (values_from messages told h) told
values_are [] [] h = tt
values_are [] (told ∷ more) h = absurd h
values_are (message ∷ messages) [] h = absurd h
values_are (message ∷ messages) ([] ∷ more) h = absurd h
values_are (message ∷ messages) ((one ∷ told) ∷ more) h = ((h.0.1, refl), values_are messages more h.1)

message_brings : Brings → (message : NotificationMessage) (number : ℕ) (now : ℤ) (one : Told) (told : List Told) → message ≡ message_of number now (one ∷ told)
    → FitsSigned w64 message.publish_time → KeepsArray FitsTold (one ∷ told)
    → content_of message.notification_data ≡ content.Values (map (notified now) (one ∷ told))
message_brings brings message number now one told is time fits =
    let same : message.publish_time ≡ now = ap (λ (m : NotificationMessage). m.publish_time) is in
    ap (λ (m : NotificationMessage). content_of m.notification_data) is
    ∙ brings number now (one ∷ told) (λ none. cc) (subst (FitsSigned w64) same time) fits

pub brought_at : Brings → (messages : List NotificationMessage) (told : List (List Told)) (h : AreTold messages told) → AreFitting messages told
    → (place : ℕ) (message : NotificationMessage) → slice_get messages place ≡ Some message → IsBrought (values_from messages told h) place message
brought_at brings [] told h fits place message here = let bad : None ≡ Some message = here in absurd cc
brought_at brings (first ∷ messages) [] h fits place message here = absurd h
brought_at brings (first ∷ messages) ([] ∷ more) h fits place message here = absurd h
brought_at brings (first ∷ messages) ((one ∷ told) ∷ more) h fits zero message here = record {
  values = map (notified h.0.1) (one ∷ told);
  here = refl;
  brings = ap (λ (m : NotificationMessage). content_of m.notification_data) (sym (same_Some first message here))
      ∙ message_brings brings first h.0.0 h.0.1 one told h.0.2 fits.0 fits.1;
}
brought_at brings (first ∷ messages) ((one ∷ told) ∷ more) h fits (suc place) message here =
    let rest : IsBrought (values_from messages more h.1) place message = brought_at brings messages more h.1 fits.2 place message here in
    record { values = rest.values; here = rest.here; brings = rest.brings }

numbered_from : (k : ℕ) (messages : List NotificationMessage) → AreNumbered k messages → (place : ℕ) (message : NotificationMessage)
    → slice_get messages place ≡ Some message → message.sequence_number ≡ number_of (k + place)
numbered_from k [] are place message here = let bad : None ≡ Some message = here in absurd cc
numbered_from k (first ∷ messages) are zero message here =
    let same : k ≡ k + 0 = omega arith in
    ap (λ (m : NotificationMessage). m.sequence_number) (sym (same_Some first message here)) ∙ are.0 ∙ ap number_of same
numbered_from k (first ∷ messages) are (suc place) message here =
    let same : (k + 1) + place ≡ k + suc place = omega arith in
    numbered_from (k + 1) messages are.1 place message here ∙ ap number_of same

pub numbered_at : (messages : List NotificationMessage) → AreNumbered 1 messages → (place : ℕ) (message : NotificationMessage)
    → slice_get messages place ≡ Some message → message.sequence_number ≡ number_of (place + 1)
numbered_at messages are place message here =
    let same : 1 + place ≡ place + 1 = omega arith in
    numbered_from 1 messages are place message here ∙ ap number_of same
