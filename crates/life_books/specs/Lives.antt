-- What the messages of a life's subscription bring, and what that owes to a source.
use Rattle.std.specs.Prelude.{◌≡◌, ◌+◌, ℕ, List, [], ◌∷◌, Some, FitsSigned, slice_get}
use Rattle.std.specs.Int.{w64}
use Rattle.set_model.specs.declared.source.Change.{Change}
use Rattle.set_model.specs.Source.{of_item}
use Rattle.item_queue.specs.declared.queue.Entry.{Entry}
use Rattle.ua_values.specs.Laws.{KeepsArray}
use Rattle.ua_sub_msgs.specs.declared.notification.MonitoredItemNotification.{MonitoredItemNotification}
use Rattle.ua_sub_msgs.specs.declared.notification.NotificationMessage.{NotificationMessage}
use Rattle.subscription.specs.Items.{Told}
use Rattle.subscription.specs.Linked.{AreLinked}
use Rattle.link_rules.specs.declared.content.Content.TheVariants as content
use Rattle.link_rules.specs.Messages.{content_of}
use Rattle.arriving_entries.specs.Brought.{FitsTold}
use Rattle.link_following.specs.Book.{AreLinkedValues, joined, number_of, values_of}
use Rattle.life_books.specs.Books.{AreValuesOf}

-- the changes of an item that a life knows are changes of the source, and what is linked among them is linked there
pub record AreOfSource (known source : List Change) (item : ℕ) : Type 0 where
  pub there : (place : ℕ) (change : Change) → slice_get (of_item item known) place ≡ Some change
      → (found : ℕ) × (slice_get (of_item item source) found ≡ Some change)
  pub linked : (size : ℕ) (entries : List Entry) → AreLinked size (of_item item known) entries
      → AreLinked size (of_item item source) entries

-- the numbers of each message and of the entries that it tells are those that their types hold
abbrev pub AreFitting : List NotificationMessage → List (List Told) → Type 0
AreFitting [] told = Unit {0}
AreFitting (message ∷ messages) [] = Unit {0}
AreFitting (message ∷ messages) (told ∷ more) =
    FitsSigned w64 message.publish_time × KeepsArray FitsTold told × AreFitting messages more

-- a message brings the values of its place
pub record IsBrought (book : List (List MonitoredItemNotification)) (place : ℕ) (message : NotificationMessage) : Type 0 where
  pub values : List MonitoredItemNotification
  pub here : slice_get book place ≡ Some values
  pub brings : content_of message.notification_data ≡ content.Values values

-- these are the values of messages that tell these entries: those of each item are linked changes of the source; each
-- message has the number of its place, and brings the values there where its numbers are those that their types hold
pub record IsBookOf (source : List Change) (messages : List NotificationMessage) (told : List (List Told))
    (book : List (List MonitoredItemNotification)) : Type 0 where
  pub are : AreValuesOf book told
  pub linked : (item : ℕ) → AreLinkedValues source item (values_of item (joined book))
  pub numbered : (place : ℕ) (message : NotificationMessage) → slice_get messages place ≡ Some message
      → message.sequence_number ≡ number_of (place + 1)
  pub brought : AreFitting messages told → (place : ℕ) (message : NotificationMessage)
      → slice_get messages place ≡ Some message → IsBrought book place message
