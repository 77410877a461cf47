-- What the other end of a connection hears of what a server's life said.
use Rattle.std.specs.Prelude.{◌≡◌, ℕ, ◌+◌, List, [], ◌∷◌, Some, slice_get}
use Rattle.ua_channel.specs.declared.wire.Order.TheVariants as order
use Rattle.ua_channel.specs.Sharing.{own}
use Rattle.ua_channel.specs.State.{WireState}
use Rattle.ua_sub_msgs.specs.declared.notification.MonitoredItemNotification.{MonitoredItemNotification}
use Rattle.ua_sub_msgs.specs.declared.notification.NotificationMessage.{NotificationMessage}
use Rattle.ua_services.specs.declared.reply.Reply.{Reply}
use Rattle.subscription.specs.Sendings.{number_of}
use Rattle.server_rules.specs.Said.{Did, Replied, Said, order_of, orders_of}
use Rattle.server_laws.specs.Facts.{IsWithin, facts_said}
use Rattle.server_laws.specs.Messages.{AreMessages}
use Rattle.server_laws.specs.Moves.{Repeated, Sent}
use Rattle.link_takings.specs.From.{HasData}

-- ---- replies

-- this message was put on this connection, where all of this was said
abbrev pub IsPutOn : ℕ → WireState → List Said → Type 0
IsPutOn conn wire all = IsWithin (order.Put wire ∷ []) (own conn (orders_of all))

-- this reply is among what was said: on this connection, as this message
pub record IsReplySaid (conn : ℕ) (wire : WireState) (answer : Reply) (all : List Said) : Type 0 where
  pub said : Said
  pub among : IsWithin (said ∷ []) all
  pub on : said.conn ≡ conn
  pub puts : (order_of said).1 ≡ order.Put wire
  pub request : ℕ
  pub told : said.told ≡ Replied request answer

-- ---- data

-- a message is one of these, and its number is that of its place
pub record IsAtPlace (number : ℕ) (message : NotificationMessage) (messages : List NotificationMessage) : Type 0 where
  pub place : ℕ
  pub is : slice_get messages place ≡ Some message
  pub numbered : number ≡ number_of (place + 1)

-- a message with this number and these values was sent under this id, and is one of the subscription's data messages
pub record WasSent (id number : ℕ) (values : List MonitoredItemNotification) (did : Did) : Type 0 where
  pub message : NotificationMessage
  pub sent : IsWithin (Sent id message ∷ []) (facts_said did.said)
  pub has : HasData number values message
  pub placed : (messages : List NotificationMessage) → AreMessages id messages did → IsAtPlace number message messages

-- a message with this number and these values was sent again, as it had been kept
pub record WasRepeated (number : ℕ) (values : List MonitoredItemNotification) (did : Did) : Type 0 where
  pub message : NotificationMessage
  pub repeated : IsWithin (Repeated message ∷ []) (facts_said did.said)
  pub has : HasData number values message
