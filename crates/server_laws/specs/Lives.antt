-- The life of a subscription, told as the calls on it (OPC 10000-4, 5.13.1).
use Rattle.std.specs.Prelude.{◌≡◌, ◌≤◌, ℕ, ◌+◌, ◌==◌, List, [], ◌∷◌, ◌++◌, Option, Some, None, slice_get, if◌then◌else◌}
use Rattle.set_model.specs.declared.source.Change.{Change}
use Rattle.ua_sub_msgs.specs.declared.notification.NotificationMessage.{NotificationMessage}
use Rattle.subscription.specs.declared.spec.SubSpec.{SubSpec}
use Rattle.subscription.specs.History.{Call, Feed, state_of}
use Rattle.subscription.specs.Sendings.{data_sent, number_of}
use Rattle.server_rules.specs.State.{sub_at}
use Rattle.server_laws.specs.Facts.{picked}
use Rattle.server_laws.specs.Moves.{Core, Fact, Doing, Move, Makes, Does, Enters, Ends, Asks, Issues, Repeats, Answers, Sent, Subscribed, Token, Repeated, Answered, call_of, id_of, moved}

-- no subscription had this id yet; or it lives since it was made so at a moment, with these calls on it, newest first; or
-- it is no more
pub data Life : Type 0 where
  Unborn : Life
  Lives : SubSpec → ℕ → List Call → Life
  Over : SubSpec → ℕ → List Call → Life

-- a call more
abbrev pub with_call : Call → Life → Life
with_call call Unborn = Unborn
with_call call (Lives spec start calls) = Lives spec start (call ∷ calls)
with_call call (Over spec start calls) = Over spec start calls

abbrev pub born : SubSpec → ℕ → Life → Life
born spec start Unborn = Lives spec start []
born spec start (Lives old began calls) = Lives old began calls
born spec start (Over old began calls) = Over old began calls

abbrev pub ended : Life → Life
ended Unborn = Unborn
ended (Lives spec start calls) = Over spec start calls
ended (Over spec start calls) = Over spec start calls

-- this is done to it
abbrev pub with_doing : Doing → List Change → Life → Life
with_doing doing current Unborn = Unborn
with_doing doing current (Lives spec start calls) =
    Lives spec start (call_of doing current (Some (state_of spec start calls)) ∷ calls)
with_doing doing current (Over spec start calls) = Over spec start calls

-- the life of an id after one move more
abbrev pub life_with : ℕ → Move → Core → Life → Life
life_with id (Makes spec start) c life = if spec.id == id then born spec start life else life
life_with id (Does other doing) c life = if other == id then with_doing doing c.current life else life
life_with id (Enters change) c life = with_call (Feed change) life
life_with id (Ends other) c life = if other == id then ended life else life
life_with id (Asks call) c life = life
life_with id Issues c life = life
life_with id (Repeats other number) c life = life
life_with id (Answers answer) c life = life

-- the same after these moves, one after another
abbrev pub life_after : ℕ → List Move → Core → Life → Life
life_after id [] c life = life
life_after id (move ∷ moves) c life = life_after id moves (moved move c) (life_with id move c life)

-- a subscription is what the calls of its life made of it
abbrev pub Stands : ℕ → Life → Core → Type 0
Stands id Unborn c = sub_at id c.subs ≡ None
Stands id (Lives spec start calls) c =
    (sub_at id c.subs ≡ Some (state_of spec start calls)) × (spec.id ≡ id) × (id ≤ id_of c.boot c.made)
Stands id (Over spec start calls) c = (sub_at id c.subs ≡ None) × (id ≤ id_of c.boot c.made)

-- ---- its messages

abbrev pub with_message : List NotificationMessage → Option NotificationMessage → List NotificationMessage
with_message messages None = messages
with_message messages (Some message) = messages ++ message ∷ []

-- the data messages that these calls, newest first, sent, in order
abbrev pub messages_sent : SubSpec → ℕ → List Call → List NotificationMessage
messages_sent spec start [] = []
messages_sent spec start (call ∷ earlier) =
    with_message (messages_sent spec start earlier) (data_sent call (state_of spec start earlier))

abbrev pub messages_in : Life → List NotificationMessage
messages_in Unborn = []
messages_in (Lives spec start calls) = messages_sent spec start calls
messages_in (Over spec start calls) = messages_sent spec start calls

abbrev pub message_for : ℕ → Fact → List NotificationMessage
message_for id (Sent other message) = if other == id then message ∷ [] else []
message_for id (Subscribed other) = []
message_for id (Token token) = []
message_for id (Repeated message) = []
message_for id (Answered answer) = []

-- the data messages of a subscription among these facts, in order
abbrev pub messages_for : ℕ → List Fact → List NotificationMessage
messages_for id facts = picked (message_for id) facts

-- their numbers follow one another, from the one of the k-th message on
abbrev pub AreNumbered : ℕ → List NotificationMessage → Type 0
AreNumbered k [] = Unit {0}
AreNumbered k (message ∷ messages) = (message.sequence_number ≡ number_of k) × AreNumbered (k + 1) messages

-- a message of this number is one of these
pub record IsSent (number : ℕ) (message : NotificationMessage) (messages : List NotificationMessage) : Type 0 where
  pub place : ℕ
  pub is : slice_get messages place ≡ Some message
  pub has_number : message.sequence_number ≡ number
