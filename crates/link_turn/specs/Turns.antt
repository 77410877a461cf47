-- One turn of a link: what its rules do, one after the other, in one place.
use Rattle.std.specs.Prelude.{ℕ, List, [], ◌∷◌, ◌++◌}
use Rattle.ua_chunks.specs.declared.frame.Kind.{Kind}
use Rattle.ua_chunks.specs.declared.frame.Kind.TheVariants as kind
use Rattle.ua_channel.specs.declared.wire.Order.{Order}
use Rattle.ua_channel.specs.declared.wire.Order.TheVariants as order
use Rattle.link_rules.specs.declared.notice.Notice.{Notice}
use Rattle.link_rules.specs.State.{LinkState}
use Rattle.link_rules.specs.Said.{LinkDid, orders_of}
use Rattle.link_rules.specs.Asking.{counted, next_request}

-- a link, the orders that it gave in this turn and the notices that it told in it, both in order
pub record TurnState : Type 0 where
  pub link : LinkState
  pub orders : List Order
  pub notices : List Notice

abbrev pub new_turn : LinkState → TurnState
new_turn l = record { link = l; orders = []; notices = [] }

-- the turn goes on with what a rule did
abbrev pub done : LinkDid → TurnState → TurnState
done did t = record {
  link = did.link;
  orders = t.orders ++ orders_of did.said;
  notices = t.notices ++ did.notices;
}

-- the link alone changes
abbrev pub with_link : LinkState → TurnState → TurnState
with_link l t = record t { link = l }

-- an order is given
abbrev pub ordered : Order → TurnState → TurnState
ordered given t = record t { orders = t.orders ++ given ∷ [] }

-- a HEL is said, which shows no channel and no token
abbrev pub hello_in : List ℕ → TurnState → TurnState
hello_in body t = ordered (order.Put (record {
  kind = kind.Hel;
  channel = t.link.conversation.channel;
  token = t.link.conversation.token;
  request = 0;
  body = body;
})) t

-- the next request is said in a chunk of this kind, under the channel and token of this moment, and its number is used up
abbrev pub put_in : Kind → List ℕ → TurnState → TurnState
put_in k body t = record t {
  link = counted t.link;
  orders = t.orders ++ order.Put (record {
    kind = k;
    channel = t.link.conversation.channel;
    token = t.link.conversation.token;
    request = next_request t.link;
    body = body;
  }) ∷ [];
}
