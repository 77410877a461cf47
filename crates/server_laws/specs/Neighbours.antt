-- What a life says of the entries that an item's messages tell (OPC 10000-4, 5.12.1).
use Rattle.std.specs.Prelude.{◌≡◌, ℕ, List, ◌++◌}
use Rattle.set_model.specs.declared.source.Change.{Change}
use Rattle.set_model.specs.Source.{last_of, of_item}
use Rattle.subscription.specs.declared.spec.SubSpec.{SubSpec}
use Rattle.subscription.specs.State.{ItemState, SubState}
use Rattle.subscription.specs.History.{Call, state_of}
use Rattle.subscription.specs.Linked.{AreLinked, last_change}
use Rattle.subscription.specs.Streams.{stream_of}
use Rattle.server_rules.specs.Said.{Did}
use Rattle.server_laws.specs.Lives.{messages_sent}
use Rattle.server_laws.specs.Messages.{AreMessages}

-- a subscription is what these calls made of it, its messages are those that they sent, and of the item's stream each
-- entry that was told, and each that is held, is linked to the one before it among the changes that there were; the last
-- one is the node's last change
pub record IsLinkedStream (id : ℕ) (sub : SubState) (item_id : ℕ) (item : ItemState) (known : List Change) (did : Did) : Type 0 where
  pub spec : SubSpec
  pub start : ℕ
  pub calls : List Call
  pub is : sub ≡ state_of spec start calls
  pub messages : AreMessages id (messages_sent spec start calls) did
  pub linked : AreLinked item.queue.size (of_item item.node known) ((stream_of spec start item_id calls).given ++ item.queue.entries)
  pub ends : last_change ((stream_of spec start item_id calls).given ++ item.queue.entries) ≡ last_of item.node known
