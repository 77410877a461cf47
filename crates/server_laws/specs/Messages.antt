-- What a life says of the messages of one subscription.
use Rattle.std.specs.Prelude.{◌≡◌, ℕ, ◌+◌, List, Some, length}
use Rattle.retransmit.specs.Kept.{message_of}
use Rattle.ua_sub_msgs.specs.declared.notification.NotificationMessage.{NotificationMessage}
use Rattle.subscription.specs.State.{SubState}
use Rattle.subscription.specs.Sendings.{number_of}
use Rattle.server_rules.specs.State.{sub_at}
use Rattle.server_rules.specs.Said.{Did}
use Rattle.server_laws.specs.Facts.{IsWithin, facts_said}
use Rattle.server_laws.specs.Lives.{AreNumbered, IsSent, messages_for}

-- these are all the data messages that the subscription of this id ever sent: numbered from 1 on; what was said of them
-- under its id is within them, in order; the next one has the next number; and each kept one is one of them
pub record AreMessages (id : ℕ) (messages : List NotificationMessage) (did : Did) : Type 0 where
  pub numbered : AreNumbered 1 messages
  pub told : IsWithin (messages_for id (facts_said did.said)) messages
  pub next : (sub : SubState) → sub_at id did.state.subs ≡ Some sub → sub.next ≡ number_of (length messages + 1)
  pub kept : (sub : SubState) (number : ℕ) (message : NotificationMessage) → sub_at id did.state.subs ≡ Some sub
      → message_of number sub.kept ≡ Some message → IsSent number message messages
