-- Eras of a subscription: its messages between two requests that its items be off. What they tell goes on from message to
-- message within one era, and begins anew with the next (OPC 10000-4, 5.12.1.3 and 5.12.4).
use Rattle.std.specs.Prelude.{◌≡◌, ◌≤◌, ◌<◌, ℕ, ◌+◌, ◌-◌, ◌^◌, ◌==◌, List, [], ◌∷◌, length, Bool, true, false, Some, if◌then◌else◌}
use Rattle.std.specs.List.{slice_get}
use Rattle.set_model.specs.declared.source.Change.{Change}
use Rattle.ua_channel.specs.State.{is_deaf}
use Rattle.ua_sub_msgs.specs.declared.notification.MonitoredItemNotification.{MonitoredItemNotification}
use Rattle.link_rules.specs.declared.notice.Notice.{Notice}
use Rattle.link_rules.specs.declared.notice.Notice.TheVariants as notice
use Rattle.link_rules.specs.declared.remembered.Remembered.{Remembered}
use Rattle.link_rules.specs.State.{LinkState}
use Rattle.link_rules.specs.Step.{Happening, after, ear_of}
use Rattle.link_takings.specs.From.{IsFrom}
use Rattle.link_following.specs.Book.{AreLinkedValues, Book, joined, number_of, values_of}
use Rattle.warm_logs.specs.Reporting.{confirmed_by, sent_by}

-- ---- messages

-- the era of the message at a place of the subscription of an id
abbrev pub Eras : Type 0
Eras = ℕ → ℕ → ℕ

-- the messages of one era, of those from a place on
abbrev pub of_era : (ℕ → ℕ) → ℕ → ℕ → List (List MonitoredItemNotification) → List (List MonitoredItemNotification)
of_era eras era place [] = []
of_era eras era place (values ∷ more) =
    if eras place == era then values ∷ of_era eras era (place + 1) more else of_era eras era (place + 1) more

-- all values of each of so many items, in all messages of one era of a subscription, are changes of the source, each linked to
-- the one before it; and no subscription has so many messages that a number comes again
pub record IsSoundByEra (source : List Change) (items : ℕ) (book : Book) (eras : Eras) : Type 0 where
  pub linked : (id item era : ℕ) → 1 ≤ item → item ≤ items
      → AreLinkedValues source item (values_of item (joined (of_era (eras id) era 0 (book id))))
  pub few : (id : ℕ) → length (book id) < 2 ^ 32 - 1

-- ---- a link

-- whether a link's items report, by a notice more
abbrev pub reports_by : Notice → Bool → Bool
reports_by (notice.Stream item) reports = false
reports_by (notice.Sent mode) reports = sent_by mode reports
reports_by (notice.Confirmed mode) reports = confirmed_by mode reports
reports_by other reports = reports

-- by these notices, in their order
abbrev pub reports_after : List Notice → Bool → Bool
reports_after [] reports = reports
reports_after (n ∷ more) reports = reports_after more (reports_by n reports)

-- whatever data come in an event, of the subscription that the link remembers, are a message of this era of that one
abbrev pub ComesInEra : Book → Eras → ℕ → Happening → LinkState → Type 0
ComesInEra book eras era h l =
    (r : Remembered) (number : ℕ) (values : List MonitoredItemNotification) → is_deaf (ear_of l) ≡ false
    → l.remembered ≡ Some r → IsFrom r.id number values h l
    → (place : ℕ) × (slice_get (book r.id) place ≡ Some values) × (number ≡ number_of (place + 1)) × (eras r.id place ≡ era)

-- as long as the items report without a break, all data that come are of one era; where they begin to report, that is any one
abbrev pub KeepEras : Book → Eras → ℕ → List Happening → LinkState → Bool → Type 0
KeepEras book eras era [] l reports = Unit {0}
KeepEras book eras era (h ∷ more) l reports =
    (reports ≡ true → ComesInEra book eras era h l)
    × ((next : ℕ) × (reports ≡ true → next ≡ era)
    × KeepEras book eras next more (after h l).link (reports_after (after h l).notices reports))
