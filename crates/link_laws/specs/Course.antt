-- What a link does with its subscription, and what it tells of it.
use Rattle.std.specs.Prelude.{◌≡◌, ◌≤◌, ◌<◌, ◌^◌, ℕ, List, [], ◌∷◌, ◌++◌, filter, Bool, true, false, Option, Some, None}
use Rattle.ua_base.specs.Number.{after_message}
use Rattle.ua_sub_msgs.specs.declared.notification.MonitoredItemNotification.{MonitoredItemNotification}
use Rattle.ua_sub_msgs.specs.declared.notification.NotificationMessage.{NotificationMessage}
use Rattle.link_rules.specs.declared.content.Content.{Content}
use Rattle.link_rules.specs.declared.content.Content.TheVariants as content
use Rattle.link_rules.specs.declared.notice.Notice.{Notice}
use Rattle.link_rules.specs.declared.notice.Notice.TheVariants as notice
use Rattle.link_rules.specs.declared.remembered.Monitored.{Monitored}
use Rattle.link_rules.specs.declared.remembered.Remembered.{Remembered}
use Rattle.link_rules.specs.declared.phase.Phase.TheVariants as phase
use Rattle.link_rules.specs.State.{LinkState}
use Rattle.link_rules.specs.Said.{LinkDid}
use Rattle.link_rules.specs.Numbers.{is_jump, is_new}
use Rattle.link_rules.specs.Messages.{all_taken, content_of}
use Rattle.link_rules.specs.Subscribing.{first_of, streams}
use Rattle.link_rules.specs.Step.{Happening}
use Rattle.link_laws.specs.Taken.{id_in, message_in, reply_of}
use Rattle.link_laws.specs.Acks.{IsWithin}

-- ---- deeds

-- a subscription of an id is made, and its values begin anew; its items are known; the next message, or one that is ahead,
-- is taken: its number and its values; an old one isn't taken; a keep-alive is ahead; it is forgotten
pub data Deed : Type 0 where
  Streams : ℕ → Deed
  Monitors : List Monitored → Deed
  Takes : ℕ → List MonitoredItemNotification → Deed
  Leaps : ℕ → List MonitoredItemNotification → Deed
  Passes : ℕ → List MonitoredItemNotification → Deed
  Skips : ℕ → Deed
  Forgets : Deed

-- what may be done with the subscription that is remembered
abbrev pub IsDoable : Deed → Option Remembered → Type 0
IsDoable (Streams id) o = Unit {0}
IsDoable (Monitors items) o = Unit {0}
IsDoable (Takes number values) o = (r : Remembered) × (o ≡ Some r) × (number ≡ r.next)
IsDoable (Leaps number values) o = (r : Remembered) × (o ≡ Some r) × (is_jump r.next number ≡ true)
IsDoable (Passes number values) o = (r : Remembered) × (o ≡ Some r) × (is_new r.next number ≡ false)
IsDoable (Skips number) o = (r : Remembered) × (o ≡ Some r) × (is_jump r.next number ≡ true)
IsDoable Forgets o = Unit {0}

abbrev pub with_next : ℕ → Option Remembered → Option Remembered
with_next next None = None
with_next next (Some r) = Some (record r { next = next })

-- what is remembered then
abbrev pub remembered_by : Deed → Option Remembered → Option Remembered
remembered_by (Streams id) o = Some (first_of id)
remembered_by (Monitors items) o = o
remembered_by (Takes number values) o = with_next (after_message number) o
remembered_by (Leaps number values) o = with_next (after_message number) o
remembered_by (Passes number values) o = o
remembered_by (Skips number) o = with_next number o
remembered_by Forgets o = None

abbrev pub remembered_after : List Deed → Option Remembered → Option Remembered
remembered_after [] o = o
remembered_after (deed ∷ deeds) o = remembered_after deeds (remembered_by deed o)

abbrev pub AreDoable : List Deed → Option Remembered → Type 0
AreDoable [] o = Unit {0}
AreDoable (deed ∷ deeds) o = IsDoable deed o × AreDoable deeds (remembered_by deed o)

-- ---- items

abbrev pub IsSomething : {A : Type 0} → List A → Type 0
IsSomething [] = ⊥
IsSomething (x ∷ xs) = Unit {0}

-- the items that were made
abbrev pub monitored_by : Deed → List Monitored → List Monitored
monitored_by (Streams id) monitored = []
monitored_by (Monitors items) monitored = items
monitored_by Forgets monitored = []
monitored_by other monitored = monitored

abbrev pub monitored_after : List Deed → List Monitored → List Monitored
monitored_after [] monitored = monitored
monitored_after (deed ∷ deeds) monitored = monitored_after deeds (monitored_by deed monitored)

-- they become known where none is, and then there are some
abbrev pub IsKnown : Deed → List Monitored → Type 0
IsKnown (Monitors items) monitored = (monitored ≡ []) × IsSomething items
IsKnown other monitored = Unit {0}

abbrev pub AreKnown : List Deed → List Monitored → Type 0
AreKnown [] monitored = Unit {0}
AreKnown (deed ∷ deeds) monitored = IsKnown deed monitored × AreKnown deeds (monitored_by deed monitored)

-- ---- what is told

-- of a link with so many items, of which these were made
abbrev pub told_by : ℕ → Deed → List Monitored → List Notice
told_by count (Streams id) monitored = streams count
told_by count (Monitors items) monitored = []
told_by count (Takes number values) monitored = all_taken monitored values
told_by count (Leaps number values) monitored = notice.Jump ∷ all_taken monitored values
told_by count (Passes number values) monitored = []
told_by count (Skips number) monitored = notice.Jump ∷ []
told_by count Forgets monitored = []

abbrev pub told_after : ℕ → List Deed → List Monitored → List Notice
told_after count [] monitored = []
told_after count (deed ∷ deeds) monitored =
    told_by count deed monitored ++ told_after count deeds (monitored_by deed monitored)

-- a notice of the subscription's values
abbrev pub is_of_values : Notice → Bool
is_of_values (notice.Stream item) = true
is_of_values notice.Jump = true
is_of_values (notice.Taken item value) = true
is_of_values other = false

abbrev pub of_values : List Notice → List Notice
of_values notices = filter is_of_values notices

-- ---- messages

-- a message with data: its number and its values
pub record Data : Type 0 where
  pub number : ℕ
  pub values : List MonitoredItemNotification

abbrev pub data_of : Deed → List Data
data_of (Takes number values) = record { number = number; values = values } ∷ []
data_of (Leaps number values) = record { number = number; values = values } ∷ []
data_of (Passes number values) = record { number = number; values = values } ∷ []
data_of other = []

abbrev pub data_of_all : List Deed → List Data
data_of_all [] = []
data_of_all (deed ∷ deeds) = data_of deed ++ data_of_all deeds

abbrev pub data_in : ℕ → Content → List Data
data_in number (content.Values values) = record { number = number; values = values } ∷ []
data_in number other = []

abbrev pub data_heard : Option NotificationMessage → List Data
data_heard (Some message) = data_in message.sequence_number (content_of message.notification_data)
data_heard None = []

-- those that come in these events
abbrev pub data_heard_in : List Happening → List Data
data_heard_in [] = []
data_heard_in (h ∷ more) = data_heard (message_in (reply_of h)) ++ data_heard_in more

-- ---- ids of new subscriptions

abbrev pub id_of : Deed → List ℕ
id_of (Streams id) = id ∷ []
id_of other = []

abbrev pub ids_of : List Deed → List ℕ
ids_of [] = []
ids_of (deed ∷ deeds) = id_of deed ++ ids_of deeds

abbrev pub id_heard : Option ℕ → List ℕ
id_heard (Some id) = id ∷ []
id_heard None = []

abbrev pub ids_heard_in : List Happening → List ℕ
ids_heard_in [] = []
ids_heard_in (h ∷ more) = id_heard (id_in (reply_of h)) ++ ids_heard_in more

-- ---- a life

-- a link whose items are being made knows none of them
abbrev pub IsSteady : LinkState → Type 0
IsSteady l = l.phase ≡ phase.Adding → l.monitored ≡ []

-- this is what happens to the subscription that a link remembers, and to its items, and what is told of it; its messages,
-- and the ids of subscriptions that are made, are those of two lists, in order
pub record IsCourse (l : LinkState) (messages : List Data) (ids : List ℕ) (did : LinkDid) : Type 0 where
  pub deeds : List Deed
  pub doable : AreDoable deeds l.remembered
  pub known : AreKnown deeds l.monitored
  pub leads : did.link.remembered ≡ remembered_after deeds l.remembered
  pub items : did.link.monitored ≡ monitored_after deeds l.monitored
  pub told : of_values did.notices ≡ told_after l.config.items deeds l.monitored
  pub heard : IsWithin (data_of_all deeds) messages
  pub named : IsWithin (ids_of deeds) ids

-- ---- runs

-- the numbers of the messages that were taken since the values began anew or a jump was told
abbrev pub run_by : Deed → List ℕ → List ℕ
run_by (Streams id) run = []
run_by (Monitors items) run = run
run_by (Takes number values) run = run ++ number ∷ []
run_by (Leaps number values) run = number ∷ []
run_by (Passes number values) run = run
run_by (Skips number) run = []
run_by Forgets run = []

abbrev pub run_after : List Deed → List ℕ → List ℕ
run_after [] run = run
run_after (deed ∷ deeds) run = run_after deeds (run_by deed run)

-- each is the one after the one before it, and the next one is the one after the last
abbrev pub IsRun : List ℕ → ℕ → Type 0
IsRun [] next = Unit {0}
IsRun (number ∷ []) next = next ≡ after_message number
IsRun (number ∷ another ∷ more) next = (another ≡ after_message number) × IsRun (another ∷ more) next

abbrev pub IsRunOf : List ℕ → Option Remembered → Type 0
IsRunOf run None = run ≡ []
IsRunOf run (Some r) = IsRun run r.next

-- ---- small numbers

abbrev pub IsSmall : ℕ → Type 0
IsSmall number = (1 ≤ number) × (number < 2 ^ 31)

-- the subscription stays, and all numbers are small
abbrev pub Stays : Deed → Type 0
Stays (Streams id) = ⊥
Stays (Monitors items) = Unit {0}
Stays (Takes number values) = IsSmall number
Stays (Leaps number values) = IsSmall number
Stays (Passes number values) = IsSmall number
Stays (Skips number) = IsSmall number
Stays Forgets = ⊥

abbrev pub AllStay : List Deed → Type 0
AllStay [] = Unit {0}
AllStay (deed ∷ deeds) = Stays deed × AllStay deeds

-- all messages with data have numbers below this one
abbrev pub AreBelow : ℕ → List Data → Type 0
AreBelow next [] = Unit {0}
AreBelow next (one ∷ more) = (one.number < next) × AreBelow next more

-- what is taken has the next number before it, or a later one
abbrev pub IsAbove : ℕ → Deed → Type 0
IsAbove next (Takes number values) = next ≤ number
IsAbove next (Leaps number values) = next ≤ number
IsAbove next other = Unit {0}

abbrev pub AreAbove : ℕ → List Deed → Type 0
AreAbove next [] = Unit {0}
AreAbove next (deed ∷ deeds) = IsAbove next deed × AreAbove next deeds

-- the next number never falls, and stands above all messages with data
pub record IsOnward (r : Remembered) (deeds : List Deed) : Type 0 where
  pub later : Remembered
  pub is : remembered_after deeds (Some r) ≡ Some later
  pub id : later.id ≡ r.id
  pub rises : r.next ≤ later.next
  pub small : later.next ≤ 2 ^ 31
  pub above : AreAbove r.next deeds
  pub below : AreBelow later.next (data_of_all deeds)
