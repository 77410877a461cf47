-- The messages of subscriptions, all in all, and what the values in them owe to each other.
use Rattle.std.specs.Prelude.{◌≡◌, ◌≤◌, ◌<◌, ℕ, ◌+◌, ◌-◌, ◌%◌, ◌^◌, ◌==◌, List, [], ◌∷◌, ◌++◌, length, false, Option, Some, None, if◌then◌else◌}
use Rattle.std.specs.List.{slice_get}
use Rattle.set_model.specs.declared.source.Change.{Change}
use Rattle.delivery_log.specs.WellFed.{IsFedEntry}
use Rattle.ua_variants.specs.declared.variant.Stamped.{Stamped}
use Rattle.ua_variants.specs.declared.variant.Variant.{Variant}
use Rattle.ua_channel.specs.State.{is_deaf}
use Rattle.ua_sub_msgs.specs.declared.notification.MonitoredItemNotification.{MonitoredItemNotification}
use Rattle.link_rules.specs.declared.remembered.Remembered.{Remembered}
use Rattle.link_rules.specs.State.{LinkState}
use Rattle.link_rules.specs.Step.{Happening, after, ear_of}
use Rattle.link_takings.specs.From.{IsFrom}
use Rattle.client_rules.specs.Arrival.{arrived_of}
use Rattle.client_links.specs.Feeding.{FollowsFormer}

-- ---- messages

-- the values of all messages of each subscription, by its id: message by message, in their order
abbrev pub Book : Type 0
Book = ℕ → List (List MonitoredItemNotification)

-- the number of the k-th message of a subscription, from 1 on around the ring (OPC 10000-4, 5.13.1.1)
abbrev pub number_of : ℕ → ℕ
number_of k = 1 + (k - 1) % (2 ^ 32 - 1)

-- a message of the subscription of this id has this number and these values
abbrev pub InBook : Book → ℕ → ℕ → List MonitoredItemNotification → Type 0
InBook book id number values =
    (place : ℕ) × (slice_get (book id) place ≡ Some values) × (number ≡ number_of (place + 1))

-- whatever data come in an event of the subscription that the link remembers are a message of that one
abbrev pub BringsOf : Book → Happening → LinkState → Type 0
BringsOf book h l =
    (r : Remembered) (number : ℕ) (values : List MonitoredItemNotification) → is_deaf (ear_of l) ≡ false
    → l.remembered ≡ Some r → IsFrom r.id number values h l → InBook book r.id number values

-- in each of these events
abbrev pub ComeOf : Book → List Happening → LinkState → Type 0
ComeOf book [] l = Unit {0}
ComeOf book (h ∷ more) l = BringsOf book h l × ComeOf book more (after h l).link

-- ---- values

-- one message behind another
abbrev pub joined : List (List MonitoredItemNotification) → List MonitoredItemNotification
joined [] = []
joined (values ∷ more) = values ++ joined more

-- those under the handle of an item, which is its number
abbrev pub values_of : ℕ → List MonitoredItemNotification → List (Stamped Variant)
values_of item [] = []
values_of item (one ∷ more) = if one.client_handle == item then one.value ∷ values_of item more else values_of item more

-- each is a change of the item and is linked to the one before it, and the first to the former one, if there is one
abbrev pub AreLinkedAfter : List Change → ℕ → Option (Stamped Variant) → List (Stamped Variant) → Type 0
AreLinkedAfter source item former [] = Unit {0}
AreLinkedAfter source item former (value ∷ more) =
    IsFedEntry source item (arrived_of value) × FollowsFormer source item value former
    × AreLinkedAfter source item (Some value) more

abbrev pub AreLinkedValues : List Change → ℕ → List (Stamped Variant) → Type 0
AreLinkedValues source item values = AreLinkedAfter source item None values

-- all values of each of so many items, in all messages of a subscription, are changes of the source, each linked to the one
-- before it; and no subscription has so many messages that a number comes again
pub record IsSound (source : List Change) (items : ℕ) (book : Book) : Type 0 where
  pub linked : (id item : ℕ) → 1 ≤ item → item ≤ items → AreLinkedValues source item (values_of item (joined (book id)))
  pub few : (id : ℕ) → length (book id) < 2 ^ 32 - 1
