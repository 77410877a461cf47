-- All that messages told of an item, where its stream was never broken off (OPC 10000-4, 5.12.1.3).
use Rattle.std.specs.Prelude.{◌≡◌, ℕ, List, [], ◌∷◌, ◌++◌, false}
use Rattle.ua_base.specs.declared.modes.Mode.{Mode}
use Rattle.set_model.specs.declared.source.Change.{Change}
use Rattle.set_model.specs.Source.{of_item}
use Rattle.item_queue.specs.declared.queue.Entry.{Entry}
use Rattle.subscription.specs.declared.spec.SubSpec.{SubSpec}
use Rattle.subscription.specs.State.{ItemState, SubState}
use Rattle.subscription.specs.Calls.{entries_told}
use Rattle.subscription.specs.Items.{is_disabled}
use Rattle.subscription.specs.History.{Call, Add, Remove, SetMode, Feed, Timer, Publish, Acknowledge, Modify, SetEnabled, Moved, state_of}
use Rattle.subscription.specs.Linked.{AreLinked}
use Rattle.subscription.specs.Streams.{entries_of}
use Rattle.server_rules.specs.Said.{Did}
use Rattle.server_rules.specs.Step.{Happening}
use Rattle.server_laws.specs.Course.{IsAsked}
use Rattle.server_laws.specs.Lives.{messages_sent}
use Rattle.server_laws.specs.Messages.{AreMessages}

abbrev pub with_told : ℕ → Call → SubState → List Entry → List Entry
with_told id (Publish now) s told = told ++ entries_of id (entries_told s)
with_told id (Add spec current) s told = told
with_told id (Remove item) s told = told
with_told id (SetMode item mode current) s told = told
with_told id (Feed change) s told = told
with_told id (Timer queued) s told = told
with_told id (Acknowledge number) s told = told
with_told id (Modify spec now) s told = told
with_told id (SetEnabled enabled) s told = told
with_told id Moved s told = told

-- all entries of an item that these calls' messages told, in order
abbrev pub told_in : SubSpec → ℕ → ℕ → List Call → List Entry
told_in spec start id [] = []
told_in spec start id (call ∷ earlier) = with_told id call (state_of spec start earlier) (told_in spec start id earlier)

-- no mode that was asked for in a subscription is Disabled
abbrev pub NeverOff : List Happening → ℕ → Type 0
NeverOff happenings id = (mode : Mode) → IsAsked happenings id mode → is_disabled mode ≡ false

-- a subscription is what these calls made of it, its messages are those that they sent, and each entry of the item that
-- any of them told, and each that is held, is linked to the one before it
pub record IsLinkedChain (id : ℕ) (sub : SubState) (item_id : ℕ) (item : ItemState) (known : List Change) (did : Did) : Type 0 where
  pub spec : SubSpec
  pub start : ℕ
  pub calls : List Call
  pub is : sub ≡ state_of spec start calls
  pub messages : AreMessages id (messages_sent spec start calls) did
  pub linked : AreLinked item.queue.size (of_item item.node known) (told_in spec start item_id calls ++ item.queue.entries)
