-- What each call makes of a subscription.
use Rattle.std.specs.Prelude.{◌≡◌, ℕ, ℤ, ◌+◌, List, [], ◌∷◌, ◌++◌, Bool, true, false, Option, Some, None, map, if◌then◌else◌}
use Rattle.ua_base.specs.Number.{after_message}
use Rattle.ua_base.specs.declared.modes.Mode.{Mode}
use Rattle.set_model.specs.declared.source.Change.{Change}
use Rattle.retransmit.specs.Kept.{with_sent, without}
use Rattle.ua_sub_msgs.specs.declared.notification.NotificationMessage.{NotificationMessage}
use Rattle.subscription.specs.declared.spec.SubSpec.{SubSpec}
use Rattle.subscription.specs.declared.spec.ItemSpec.{ItemSpec}
use Rattle.subscription.specs.State.{ItemState, SubState}
use Rattle.subscription.specs.Items.{IsPart, Told, fed_item, left, new_item, told, with_item_mode, without_item}
use Rattle.subscription.specs.Message.{message_of}
use Rattle.subscription.specs.Cycle.{has_something, moment_after}

-- a new one: its first cycle is an interval from now
abbrev pub new_sub : SubSpec → ℕ → SubState
new_sub spec now = record {
  spec = spec;
  due = moment_after spec.interval now;
  quiet = 0;
  life = 0;
  begun = false;
  late = false;
  next = 1;
  given = 0;
  items = [];
  kept = [];
}

abbrev pub added : ItemSpec → Option Change → SubState → SubState
added spec current s =
    record s { given = s.given + 1; items = s.items ++ new_item (s.given + 1) spec current ∷ [] }

abbrev pub removed : ℕ → SubState → SubState
removed id s = record s { items = without_item id s.items }

abbrev pub with_mode_of : ℕ → Mode → Option Change → SubState → SubState
with_mode_of id mode current s = record s { items = with_item_mode id mode current s.items }

abbrev pub fed : Change → SubState → SubState
fed change s = record s { items = map (fed_item change) s.items }

-- the revised interval, counts and most notifications (OPC 10000-4, 5.13.3): both counts begin again, and the next
-- cycle is an interval from now
abbrev pub modified : SubSpec → ℕ → SubState → SubState
modified spec now s = record s {
  spec = record spec { id = s.spec.id; enabled = s.spec.enabled };
  due = moment_after spec.interval now;
  quiet = 0;
  life = 0;
}

abbrev pub with_enabled : Bool → SubState → SubState
with_enabled enabled s = record s { spec = record s.spec { enabled = enabled } }

-- another session owns it now
abbrev pub moved : SubState → SubState
moved s = record s { life = 0 }

abbrev pub acknowledged : ℕ → SubState → SubState
acknowledged number s = record s { kept = without number s.kept }

abbrev pub node_of : Option ItemState → Option ℕ
node_of None = None
node_of (Some item) = Some item.node

-- ---- the next message

-- the entries that it tells, where publishing is enabled
abbrev pub entries_told : SubState → List Told
entries_told s = if s.spec.enabled then told s.spec.most s.items else []

abbrev pub items_left : SubState → List ItemState
items_left s = if s.spec.enabled then left s.spec.most s.items else s.items

-- the next message: with entries a data message, else a keep-alive, which has the number of the next data message
abbrev pub next_message : ℤ → SubState → NotificationMessage
next_message now s = message_of s.next now (entries_told s)

abbrev pub kept_as : NotificationMessage → SubState → SubState
kept_as message s = record s { next = after_message s.next; kept = with_sent s.next message s.kept }

-- a data message uses its number up and is kept; a keep-alive does neither
abbrev pub sent_with : List Told → ℤ → SubState → SubState
sent_with [] now s = s
sent_with (one ∷ more) now s = kept_as (message_of s.next now (one ∷ more)) s

-- a message was sent: it is late exactly where there is still something
abbrev pub after_sending : SubState → SubState
after_sending s = record s { quiet = 0; begun = true; late = has_something s }

abbrev pub published : ℤ → SubState → SubState
published now s = after_sending (sent_with (entries_told s) now (record s { items = items_left s }))

-- memory was refused while a message was formed: of some first items the entries that it would have told are gone, and
-- all else is as it was
abbrev pub IsInterrupted : SubState → SubState → Type 0
IsInterrupted before after =
    (after ≡ record before { items = after.items }) × IsPart after.items (items_left before) before.items
