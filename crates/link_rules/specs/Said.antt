-- What a link says, in structures, the orders that say it, and what a rule does.
use Rattle.std.specs.Prelude.{ℕ, List, [], ◌∷◌, ◌++◌, map, Option}
use Rattle.ua_chunks.specs.declared.frame.Kind.TheVariants as kind
use Rattle.ua_chunks.specs.declared.greeting.Greeting.{Greeting}
use Rattle.ua_chunks.specs.Bodies.{written_hello}
use Rattle.ua_channel.specs.State.{LimitState, WireState}
use Rattle.ua_channel.specs.declared.wire.Order.{Order}
use Rattle.ua_channel.specs.declared.wire.Order.TheVariants as order
use Rattle.ua_services.specs.declared.request.Request.{Request}
use Rattle.ua_services.specs.Families.{written_request}
use Rattle.link_rules.specs.declared.notice.Notice.{Notice}
use Rattle.link_rules.specs.State.{LinkState}

-- a HEL with its endpoint; the request of an OPN and that of a MSG, each with its id on the channel; the sizes that the
-- server named; and a channel with the token that is taken from now on (OPC 10000-6, 6.7 and 7.1.2)
pub data Told : Type 0 where
  Greeted : Greeting → Option (List ℕ) → Told
  Opens : ℕ → Request → Told
  Asks : ℕ → Request → Told
  Limited : LimitState → Told
  Renewed : ℕ → ℕ → Told

-- under which channel and token
pub record Said : Type 0 where
  pub channel : ℕ
  pub token : ℕ
  pub told : Told

-- ---- as orders

abbrev pub wire : ℕ → ℕ → ℕ → List ℕ → WireState
wire channel token request body =
    record { kind = kind.Msg; channel = channel; token = token; request = request; body = body }

abbrev pub told_order : ℕ → ℕ → Told → Order
told_order channel token (Greeted greeting url) =
    order.Put (record (wire channel token 0 (written_hello (greeting, url))) { kind = kind.Hel })
told_order channel token (Opens number request) =
    order.Put (record (wire channel token number (written_request request)) { kind = kind.Opn })
told_order channel token (Asks number request) = order.Put (wire channel token number (written_request request))
told_order channel token (Limited limits) = order.Limit limits
told_order channel token (Renewed new_channel new_token) = order.Renew new_channel new_token

abbrev pub order_of : Said → Order
order_of said = told_order said.channel said.token said.told

abbrev pub orders_of : List Said → List Order
orders_of said = map order_of said

-- under the channel and token of this moment
abbrev pub said_on : LinkState → Told → Said
said_on l told = record { channel = l.conversation.channel; token = l.conversation.token; told = told }

-- ---- what a rule does

-- what stands after it, what it says and what it tells the client, both in order
pub record LinkDid : Type 0 where
  pub link : LinkState
  pub said : List Said
  pub notices : List Notice

abbrev pub nothing : LinkState → LinkDid
nothing l = record { link = l; said = []; notices = [] }

abbrev pub says : Told → LinkState → LinkDid
says told l = record { link = l; said = said_on l told ∷ []; notices = [] }

abbrev pub tells : List Notice → LinkState → LinkDid
tells told l = record { link = l; said = []; notices = told }

-- a rule that is followed by another one
abbrev pub and_then : (LinkState → LinkDid) → LinkDid → LinkDid
and_then rule did = record {
  link = (rule did.link).link;
  said = did.said ++ (rule did.link).said;
  notices = did.notices ++ (rule did.link).notices;
}
