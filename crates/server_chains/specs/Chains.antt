-- What the messages of a subscription tell of its items, message by message, also where it is no more (OPC 10000-4, 5.12.1).
use Rattle.std.specs.Prelude.{◌≡◌, ℕ, ℤ, ◌+◌, ◌==◌, List, [], ◌∷◌, ◌++◌, Option, Some, None, slice_get, if◌then◌else◌}
use Rattle.set_model.specs.declared.source.Change.{Change}
use Rattle.set_model.specs.Source.{of_item}
use Rattle.ua_sub_msgs.specs.declared.notification.NotificationMessage.{NotificationMessage}
use Rattle.subscription.specs.declared.spec.ItemSpec.{ItemSpec}
use Rattle.subscription.specs.declared.spec.SubSpec.{SubSpec}
use Rattle.subscription.specs.State.{SubState}
use Rattle.subscription.specs.Items.{Told}
use Rattle.subscription.specs.Message.{message_of}
use Rattle.subscription.specs.Calls.{entries_told}
use Rattle.subscription.specs.History.{Call, Add, Remove, SetMode, Feed, Timer, Publish, Acknowledge, Modify, SetEnabled, Moved, state_of}
use Rattle.subscription.specs.Linked.{AreLinked}
use Rattle.subscription.specs.Streams.{entries_of}
use Rattle.server_rules.specs.Said.{Did}
use Rattle.server_laws.specs.Lives.{Life, Lives, Over, Unborn, messages_sent}
use Rattle.server_laws.specs.Messages.{AreMessages}

-- ---- what each message tells

-- the entries that a call tells
abbrev pub told_by : Call → SubState → List Told
told_by (Publish now) s = entries_told s
told_by (Add spec current) s = []
told_by (Remove id) s = []
told_by (SetMode id mode current) s = []
told_by (Feed change) s = []
told_by (Timer queued) s = []
told_by (Acknowledge number) s = []
told_by (Modify spec now) s = []
told_by (SetEnabled enabled) s = []
told_by Moved s = []

-- a call that tells nothing sends no data message
abbrev pub with_message_told : List (List Told) → List Told → List (List Told)
with_message_told messages [] = messages
with_message_told messages (one ∷ more) = messages ++ (one ∷ more) ∷ []

-- the entries of each data message that these calls, newest first, sent: one list for each message, in order
abbrev pub messages_told : SubSpec → ℕ → List Call → List (List Told)
messages_told spec start [] = []
messages_told spec start (call ∷ earlier) =
    with_message_told (messages_told spec start earlier) (told_by call (state_of spec start earlier))

-- all of them, one list behind another
abbrev pub joined : List (List Told) → List Told
joined [] = []
joined (told ∷ more) = told ++ joined more

-- a message tells these entries, under some number and at some time
abbrev pub IsMessageOf : NotificationMessage → List Told → Type 0
IsMessageOf message told = (number : ℕ) × (now : ℤ) × (message ≡ message_of number now told)

-- each message tells the entries of its list, and has one at least
abbrev pub AreTold : List NotificationMessage → List (List Told) → Type 0
AreTold [] [] = Unit {0}
AreTold [] (told ∷ more) = ⊥
AreTold (message ∷ messages) [] = ⊥
AreTold (message ∷ messages) ([] ∷ more) = ⊥
AreTold (message ∷ messages) ((one ∷ told) ∷ more) = IsMessageOf message (one ∷ told) × AreTold messages more

-- ---- the items

abbrev pub spec_with : ℕ → Call → SubState → Option ItemSpec → Option ItemSpec
spec_with id (Add added current) s found = if s.given + 1 == id then Some added else found
spec_with id (Remove other) s found = found
spec_with id (SetMode other mode current) s found = found
spec_with id (Feed change) s found = found
spec_with id (Timer queued) s found = found
spec_with id (Publish now) s found = found
spec_with id (Acknowledge number) s found = found
spec_with id (Modify spec now) s found = found
spec_with id (SetEnabled enabled) s found = found
spec_with id Moved s found = found

-- what the item of an id was made with by these calls, newest first, where one was: also where it was removed since
abbrev pub spec_of : ℕ → SubSpec → ℕ → List Call → Option ItemSpec
spec_of id spec start [] = None
spec_of id spec start (call ∷ earlier) = spec_with id call (state_of spec start earlier) (spec_of id spec start earlier)

-- an entry is told of an item that was made, under its handle and with its times, and is a change of its node
pub record IsOfItem (spec : SubSpec) (start : ℕ) (calls : List Call) (one : Told) : Type 0 where
  pub added : ItemSpec
  pub was : spec_of one.id spec start calls ≡ Some added
  pub handle : one.handle ≡ added.handle
  pub stamps : one.stamps ≡ added.stamps
  pub node : one.entry.change.item ≡ added.node

-- an entry is one of the changes of its node that there were
pub record IsChangeOf (known : List Change) (one : Told) : Type 0 where
  pub place : ℕ
  pub at : slice_get (of_item one.entry.change.item known) place ≡ Some one.entry.change

-- each of these entries is so
abbrev pub EachTold : (Told → Type 0) → List Told → Type 0
EachTold P [] = Unit {0}
EachTold P (one ∷ more) = P one × EachTold P more

-- ---- of a life

-- these are all calls on the subscription of an id, which lives or is no more, and its messages are those that they sent.
-- Each tells the entries of its list; of all that is told of an item, in one message or in two, each entry is linked to the
-- one before it among the changes that there were; and each is of an item that was made, and one of its node's changes.
-- Where no subscription had the id, there are no calls
pub record TellsChains (id : ℕ) (known : List Change) (did : Did) : Type 0 where
  pub spec : SubSpec
  pub start : ℕ
  pub calls : List Call
  pub messages : AreMessages id (messages_sent spec start calls) did
  pub told : AreTold (messages_sent spec start calls) (messages_told spec start calls)
  pub linked : (item : ℕ) (added : ItemSpec) → spec_of item spec start calls ≡ Some added
      → AreLinked added.queue (of_item added.node known) (entries_of item (joined (messages_told spec start calls)))
  pub items : EachTold (IsOfItem spec start calls) (joined (messages_told spec start calls))
  pub changes : EachTold (IsChangeOf known) (joined (messages_told spec start calls))

-- a subscription that was made so at a moment, with these calls, is the one of this life; none has calls where there was none
abbrev pub IsOfLife : Life → SubSpec → ℕ → List Call → Type 0
IsOfLife Unborn spec start calls = calls ≡ []
IsOfLife (Lives own began made) spec start calls = (spec ≡ own) × (start ≡ began) × (calls ≡ made)
IsOfLife (Over own began made) spec start calls = (spec ≡ own) × (start ≡ began) × (calls ≡ made)
