-- All messages of a subscription of a life, as a book of their values: those that it sent, and those that it kept.
use Rattle.std.specs.Prelude.{◌≡◌, ◌≤◌, ◌<◌, ℕ, ◌+◌, ◌*◌, ◌++◌, List, Some, length, slice_get}
use Rattle.set_model.specs.declared.source.Change.{Change}
use Rattle.ua_sub_msgs.specs.declared.notification.MonitoredItemNotification.{MonitoredItemNotification}
use Rattle.ua_sub_msgs.specs.declared.notification.NotificationMessage.{NotificationMessage}
use Rattle.server_rules.specs.State.{ServerState}
use Rattle.server_rules.specs.Step.{Happening}
use Rattle.server_rules.specs.Acts.{state_after}
use Rattle.server_laws.specs.Beginning.{KeptUnder}
use Rattle.server_laws.specs.Course.{life_of}
use Rattle.server_tellings.specs.Heard.{WasSent}
use Rattle.link_takings.specs.From.{HasData}
use Rattle.link_following.specs.Book.{AreLinkedValues, joined, number_of, values_of}

-- values stand in a book at the place of a number
abbrev pub IsPlaced : List (List MonitoredItemNotification) → ℕ → List MonitoredItemNotification → Type 0
IsPlaced book number values = (place : ℕ) × (slice_get book place ≡ Some values) × (number ≡ number_of (place + 1))

-- the values of each item are linked changes of the source, one message behind another; the messages are no more than the
-- changes of the source, for each of so many items; and whatever data the life sent under the id, and whatever it kept
-- under it at any time, stand at the place of their number
pub record IsWhole (id count : ℕ) (source : List Change) (happenings : List Happening) (s : ServerState)
    (book : List (List MonitoredItemNotification)) : Type 0 where
  pub linked : (item : ℕ) → AreLinkedValues source item (values_of item (joined book))
  pub few : length book ≤ count * length source
  pub sent : (number : ℕ) (values : List MonitoredItemNotification)
      → WasSent id number values (life_of happenings s) → IsPlaced book number values
  pub kept : (later earlier : List Happening) (asked number : ℕ) (message : NotificationMessage)
      (values : List MonitoredItemNotification) → happenings ≡ later ++ earlier
      → KeptUnder id asked message (state_after earlier s) → HasData number values message → IsPlaced book number values

-- an id is one of a life with this boot number
pub record IsOfBoot (boot id : ℕ) : Type 0 where
  pub above : boot * 65536 < id
  pub most : id ≤ boot * 65536 + 65535

-- data are sent and kept under ids of this boot number alone
pub record AreOfBoot (boot : ℕ) (happenings : List Happening) (s : ServerState) : Type 0 where
  pub sent : (id number : ℕ) (values : List MonitoredItemNotification)
      → WasSent id number values (life_of happenings s) → IsOfBoot boot id
  pub kept : (later earlier : List Happening) (id asked : ℕ) (message : NotificationMessage)
      → happenings ≡ later ++ earlier → KeptUnder id asked message (state_after earlier s) → IsOfBoot boot id
