-- What a server says, in structures, and the orders that say it.
use Rattle.std.specs.Prelude.{ℕ, List, [], ◌∷◌, ◌++◌, map}
use Rattle.ua_chunks.specs.declared.frame.Kind.TheVariants as kind
use Rattle.ua_chunks.specs.declared.greeting.Greeting.{Greeting}
use Rattle.ua_chunks.specs.Bodies.{written_greeting, written_error}
use Rattle.ua_channel.specs.State.{LimitState, WireState}
use Rattle.ua_channel.specs.declared.wire.Order.{Order}
use Rattle.ua_channel.specs.declared.wire.Order.TheVariants as order
use Rattle.ua_session_msgs.specs.declared.channel.OpenSecureChannelResponse.{OpenSecureChannelResponse}
use Rattle.ua_session_msgs.specs.declared.reply.SessionReply.TheVariants as session_reply
use Rattle.ua_services.specs.declared.reply.Reply.{Reply}
use Rattle.ua_services.specs.declared.reply.Reply.TheVariants as reply
use Rattle.ua_services.specs.Families.{written_reply}
use Rattle.server_rules.specs.State.{ServerState}

-- an ACK; an OPN's reply and a MSG's, each with its request; an ERR with its code; the sizes that the other end named;
-- and a channel with the token that is taken from now on (OPC 10000-6, 6.7 and 7.1.2)
pub data Told : Type 0 where
  Acknowledged : Greeting → Told
  Opened : ℕ → OpenSecureChannelResponse → Told
  Replied : ℕ → Reply → Told
  Refused : ℕ → Told
  Limited : LimitState → Told
  Renewed : ℕ → ℕ → Told

-- on which connection, and under which channel and token
pub record Said : Type 0 where
  pub conn : ℕ
  pub channel : ℕ
  pub token : ℕ
  pub told : Told

-- ---- as orders

abbrev pub wire : ℕ → ℕ → ℕ → List ℕ → WireState
wire channel token request body =
    record { kind = kind.Msg; channel = channel; token = token; request = request; body = body }

abbrev pub told_order : ℕ → ℕ → Told → Order
told_order channel token (Acknowledged greeting) =
    order.Put (record (wire channel token 0 (written_greeting greeting)) { kind = kind.Ack })
told_order channel token (Opened request response) =
    order.Put (record (wire channel token request
    (written_reply (reply.Session (session_reply.OpenSecureChannel response)))) { kind = kind.Opn })
told_order channel token (Replied request answer) = order.Put (wire channel token request (written_reply answer))
told_order channel token (Refused code) =
    order.Put (record (wire channel token 0 (written_error code)) { kind = kind.Err })
told_order channel token (Limited limits) = order.Limit limits
told_order channel token (Renewed new_channel new_token) = order.Renew new_channel new_token

abbrev pub order_of : Said → ℕ × Order
order_of said = (said.conn, told_order said.channel said.token said.told)

abbrev pub orders_of : List Said → List (ℕ × Order)
orders_of said = map order_of said

-- ---- what a rule does

-- what stands after it, and what it says, in order
pub record Did : Type 0 where
  pub state : ServerState
  pub said : List Said

abbrev pub nothing : ServerState → Did
nothing s = record { state = s; said = [] }

-- a rule that is followed by another one
abbrev pub and_then : (ServerState → Did) → Did → Did
and_then rule did = record { state = (rule did.state).state; said = did.said ++ (rule did.state).said }

-- one rule for each of these, in turn
abbrev pub each : {A : Type 0} → (A → ServerState → Did) → List A → ServerState → Did
each rule [] s = nothing s
each rule (one ∷ more) s = and_then (each rule more) (rule one s)
