-- What the events of a server come to, for its subscriptions and the ids that it gives: moves, one after another.
use Rattle.std.specs.Prelude.{◌≡◌, ◌<◌, ◌≤◌, ℕ, ℤ, ◌+◌, ◌*◌, List, [], ◌∷◌, ◌++◌, map, Bool, Option, Some, None}
use Rattle.ua_base.specs.Number.{after_message}
use Rattle.ua_base.specs.declared.modes.Mode.{Mode}
use Rattle.set_model.specs.declared.source.Change.{Change}
use Rattle.set_model.specs.Source.{last_of}
use Rattle.redundancy_nodes.specs.Current.{with_newest}
use Rattle.sessions.specs.State.{SessionsState}
use Rattle.sessions.specs.Calls.{Call as SessionCall, Disown, after_call, given_by}
use Rattle.sessions.specs.Token.{token_of}
use Rattle.retransmit.specs.Kept.{message_of}
use Rattle.ua_sub_msgs.specs.declared.notification.NotificationMessage.{NotificationMessage}
use Rattle.subscription.specs.declared.spec.SubSpec.{SubSpec}
use Rattle.subscription.specs.declared.spec.ItemSpec.{ItemSpec}
use Rattle.subscription.specs.State.{SubState}
use Rattle.subscription.specs.Calls.{new_sub}
use Rattle.subscription.specs.History.{Call, Add, Remove, SetMode, Feed, Timer, Publish, Acknowledge, Modify, SetEnabled, Moved, after}
use Rattle.subscription.specs.Sendings.{data_sent}
use Rattle.server_rules.specs.State.{changed_if, sub_at, without_sub}
use Rattle.server_rules.specs.Items.{current_of, item_node}

-- the part of a server of which the moves tell
pub record Core : Type 0 where
  pub boot : ℕ
  -- each item's newest change
  pub current : List Change
  -- in order of their ids
  pub subs : List SubState
  -- how many ids of subscriptions were given
  pub made : ℕ
  -- the id of the secure channel that was issued last
  pub channels : ℕ
  pub sessions : SessionsState

-- what is done to one subscription: an item is added, removed, or set to a monitoring mode; a cycle goes by; a message is
-- sent, or acknowledged; its counts are revised; publishing is enabled or not; and another session takes it
pub data Doing : Type 0 where
  Adds : ItemSpec → Doing
  Removes : ℕ → Doing
  Modes : ℕ → Mode → Doing
  Cycles : Bool → Doing
  Sends : ℤ → Doing
  Acknowledges : ℕ → Doing
  Modifies : SubSpec → ℕ → Doing
  Enables : Bool → Doing
  Goes : Doing

-- what is answered beside that: modes were set, nodes were read, and a secure channel of an id was opened or renewed
pub data Answer : Type 0 where
  ModesSet : Answer
  ValuesRead : Answer
  ChannelOpened : ℕ → Answer

pub data Move : Type 0 where
  -- a subscription is made at a moment
  Makes : SubSpec → ℕ → Move
  -- this is done to the subscription of an id
  Does : ℕ → Doing → Move
  -- every subscription is fed
  Enters : Change → Move
  -- the subscription of an id is no more
  Ends : ℕ → Move
  -- a call on the sessions
  Asks : SessionCall → Move
  -- a secure channel is issued
  Issues : Move
  -- the message that a subscription keeps under a number is said again
  Repeats : ℕ → ℕ → Move
  -- an answer
  Answers : Answer → Move

-- the id of the k-th subscription of a life, k from 1
abbrev pub id_of : ℕ → ℕ → ℕ
id_of boot k = boot * 65536 + k

-- as a call on the subscription that is found: a new item, and one that leaves Disabled, get their newest change
abbrev pub call_of : Doing → List Change → Option SubState → Call
call_of (Adds spec) current found = Add spec (last_of spec.node current)
call_of (Removes id) current found = Remove id
call_of (Modes id mode) current found = SetMode id mode (current_of (item_node id found) current)
call_of (Cycles queued) current found = Timer queued
call_of (Sends now) current found = Publish now
call_of (Acknowledges number) current found = Acknowledge number
call_of (Modifies spec now) current found = Modify spec now
call_of (Enables enabled) current found = SetEnabled enabled
call_of Goes current found = Moved

abbrev pub called : ℕ → Call → List SubState → List SubState
called id call subs = map (changed_if id (after call)) subs

abbrev pub done_to : ℕ → Doing → List Change → List SubState → List SubState
done_to id doing current subs = called id (call_of doing current (sub_at id subs)) subs

abbrev pub moved : Move → Core → Core
moved (Makes spec start) c = record c { made = c.made + 1; subs = c.subs ++ new_sub spec start ∷ [] }
moved (Does id doing) c = record c { subs = done_to id doing c.current c.subs }
moved (Enters change) c =
    record c { current = with_newest change c.current; subs = map (after (Feed change)) c.subs }
moved (Ends id) c = record c { subs = without_sub id c.subs }
moved (Asks call) c = record c { sessions = after_call call c.sessions }
moved Issues c = record c { channels = after_message c.channels }
moved (Repeats id number) c = c
moved (Answers answer) c = c

abbrev pub moved_all : List Move → Core → Core
moved_all [] c = c
moved_all (move ∷ moves) c = moved_all moves (moved move c)

-- the changes that are fed
abbrev pub feed_in : Move → List Change
feed_in (Enters change) = change ∷ []
feed_in other = []

abbrev pub feeds_in : List Move → List Change
feeds_in [] = []
feeds_in (move ∷ moves) = feed_in move ++ feeds_in moves

-- ---- what each move may be

-- a new item has a queue of at least one place
abbrev pub IsFairly : Doing → Type 0
IsFairly (Adds spec) = 1 ≤ spec.queue
IsFairly (Removes id) = Unit {0}
IsFairly (Modes id mode) = Unit {0}
IsFairly (Cycles queued) = Unit {0}
IsFairly (Sends now) = Unit {0}
IsFairly (Acknowledges number) = Unit {0}
IsFairly (Modifies spec now) = Unit {0}
IsFairly (Enables enabled) = Unit {0}
IsFairly Goes = Unit {0}

-- nothing is kept of the owner of a subscription that is no more
abbrev pub IsFairAsk : SessionCall → Core → Type 0
IsFairAsk (Disown id) c = sub_at id c.subs ≡ None
IsFairAsk other c = Unit {0}

-- a new subscription has the next id
abbrev pub IsFair : Move → Core → Type 0
IsFair (Makes spec start) c = (spec.id ≡ id_of c.boot (c.made + 1)) × (c.made < 65535)
IsFair (Does id doing) c = IsFairly doing
IsFair (Enters change) c = Unit {0}
IsFair (Ends id) c = Unit {0}
IsFair (Asks call) c = IsFairAsk call c
IsFair Issues c = Unit {0}
IsFair (Repeats id number) c = Unit {0}
IsFair (Answers answer) c = Unit {0}

abbrev pub AreFair : List Move → Core → Type 0
AreFair [] c = Unit {0}
AreFair (move ∷ moves) c = IsFair move c × AreFair moves (moved move c)

-- ---- what the other end may see of them

-- a subscription sent a message with data; the id of a subscription, and the token of a session, were given; a message was
-- said again; and an answer
pub data Fact : Type 0 where
  Sent : ℕ → NotificationMessage → Fact
  Subscribed : ℕ → Fact
  Token : List ℕ → Fact
  Repeated : NotificationMessage → Fact
  Answered : Answer → Fact

abbrev pub sent_as : ℕ → Option NotificationMessage → List Fact
sent_as id None = []
sent_as id (Some message) = Sent id message ∷ []

abbrev pub sent_of : ℕ → Doing → List Change → Option SubState → List Fact
sent_of id doing current None = []
sent_of id doing current (Some sub) = sent_as id (data_sent (call_of doing current (Some sub)) sub)

abbrev pub repeated : Option NotificationMessage → List Fact
repeated None = []
repeated (Some message) = Repeated message ∷ []

abbrev pub repeated_of : ℕ → Option SubState → List Fact
repeated_of number None = []
repeated_of number (Some sub) = repeated (message_of number sub.kept)

abbrev pub facts_of : Move → Core → List Fact
facts_of (Makes spec start) c = Subscribed spec.id ∷ []
facts_of (Does id doing) c = sent_of id doing c.current (sub_at id c.subs)
facts_of (Enters change) c = []
facts_of (Ends id) c = []
facts_of (Asks call) c = map (λ counter. Token (token_of c.boot counter)) (given_by call c.sessions)
facts_of Issues c = []
facts_of (Repeats id number) c = repeated_of number (sub_at id c.subs)
facts_of (Answers answer) c = Answered answer ∷ []

abbrev pub facts_of_all : List Move → Core → List Fact
facts_of_all [] c = []
facts_of_all (move ∷ moves) c = facts_of move c ++ facts_of_all moves (moved move c)
