-- What a server puts on a connection fits its end, whose limits the server knows.
use Rattle.std.specs.Prelude.{◌≡◌, ◌≢◌, ℕ, List, IfSome}
use Rattle.ua_chunks.specs.Sending.{Sending, limit_of}
use Rattle.ua_channel.specs.declared.wire.Order.{Order}
use Rattle.ua_channel.specs.Arriving.{AreLawful, after_orders}
use Rattle.ua_channel.specs.Sharing.{own}
use Rattle.server_rules.specs.State.{ServerState, conn_at}
use Rattle.server_rules.specs.Said.{Did, orders_of}
use Rattle.server_rules.specs.Step.{Happening, Opens, Hears, Closes, Feeds, Ticks, Levels}

-- where the connection is there, its end takes bodies of so many bytes
abbrev pub HasLimit : ℕ → ℕ → ServerState → Type 0
HasLimit number limit s = IfSome (conn_at number s.conns) (λ conn. conn.limit ≡ limit)

-- it isn't this connection that is opened
abbrev pub OpensOther : ℕ → Happening → Type 0
OpensOther number (Opens other) = other ≢ number
OpensOther number (Hears other h) = Unit {0}
OpensOther number (Closes other) = Unit {0}
OpensOther number (Feeds change) = Unit {0}
OpensOther number (Ticks ms) = Unit {0}
OpensOther number (Levels level) = Unit {0}

-- the orders for a connection
abbrev pub orders_for : ℕ → Did → List Order
orders_for number did = own number (orders_of did.said)

-- what is said there are orders that its end may be given, and the server knows the limits that it has then
pub record IsLawfulOn (number : ℕ) (sending : Sending) (did : Did) : Type 0 where
  pub lawful : AreLawful (orders_for number did) sending
  pub limit : HasLimit number (limit_of (after_orders (orders_for number did) sending)) did.state
