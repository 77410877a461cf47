-- What contracts see of a subscription: plain data.
use Rattle.std.specs.Prelude.{ℕ, List, Bool, Option}
use Rattle.ua_base.specs.declared.modes.Mode.{Mode}
use Rattle.ua_base.specs.declared.modes.Timestamps.{Timestamps}
use Rattle.item_queue.specs.State.{QueueState}
use Rattle.retransmit.specs.declared.retransmission.Sent.{Sent}
use Rattle.ua_sub_msgs.specs.declared.notification.NotificationMessage.{NotificationMessage}
use Rattle.subscription.specs.declared.spec.SubSpec.{SubSpec}

-- a monitored item (OPC 10000-4, 5.12.1): its id, the number of its node, the client's handle, its monitoring mode,
-- which times are sent with its values, and its queue
pub record ItemState : Type 0 where
  pub id : ℕ
  pub node : ℕ
  pub handle : ℕ
  pub mode : Mode
  pub stamps : Timestamps
  pub queue : QueueState

-- a subscription (OPC 10000-4, 5.13.1)
pub record SubState : Type 0 where
  pub spec : SubSpec
  -- the moment of the next cycle, in milliseconds of the server's age
  pub due : Option ℕ
  -- how many cycles went by since the last message, and since the last one with a Publish request queued
  pub quiet : ℕ
  pub life : ℕ
  -- whether a message was sent yet, and whether it is late: it has something to send, and waits for a Publish request
  pub begun : Bool
  pub late : Bool
  -- the number of the next data message
  pub next : ℕ
  -- how many ids were given to items: each is one more than the one before, from 1 on
  pub given : ℕ
  -- in order of their ids
  pub items : List ItemState
  -- the messages kept for Republish
  pub kept : List (Sent NotificationMessage)
