-- What a client orders for a server's connection fits its end, whose limits the client's link knows.
use Rattle.std.specs.Prelude.{◌≡◌, ◌≤◌, ℕ, true}
use Rattle.ua_chunks.specs.Sending.{Sending, limit_of}
use Rattle.ua_channel.specs.Arriving.{AreLawful, after_orders}
use Rattle.ua_channel.specs.Sharing.{own}
use Rattle.link_rules.specs.Closing.{stands_in}
use Rattle.link_rules.specs.State.{LinkState}
use Rattle.link_rules.specs.Said.{LinkDid, orders_of}
use Rattle.client_rules.specs.State.{ClientState, is_server, link_of}
use Rattle.client_rules.specs.Doing.{ClientDid}

-- the link says nothing longer than what this end puts
abbrev pub KnowsLimit : LinkState → Sending → Type 0
KnowsLimit l s = l.conversation.limit ≤ limit_of s

-- what a link says are orders that its end may be given, and the link knows the limits that the end has then
pub record IsLawfulFrom (s : Sending) (did : LinkDid) : Type 0 where
  pub lawful : AreLawful (orders_of did.said) s
  pub limit : KnowsLimit did.link (after_orders (orders_of did.said) s)

-- the same of a client's link to this server, where it has such a server
abbrev pub KnowsLimitOf : ℕ → ClientState → Sending → Type 0
KnowsLimitOf number c s = is_server number c ≡ true → KnowsLimit (link_of number c) s

-- the orders for this server's connection are those that its end may be given
pub record IsLawfulTo (number : ℕ) (s : Sending) (did : ClientDid) : Type 0 where
  pub lawful : AreLawful (own number did.orders) s
  pub limit : KnowsLimitOf number did.client (after_orders (own number did.orders) s)

-- ---- where a connection is used

-- a link that uses none has no limit to know: it begins anew on the next one
abbrev pub KnowsLimitInUse : LinkState → Sending → Type 0
KnowsLimitInUse l s = stands_in l.phase ≡ true → KnowsLimit l s

pub record IsLawfulInUse (s : Sending) (did : LinkDid) : Type 0 where
  pub lawful : AreLawful (orders_of did.said) s
  pub limit : KnowsLimitInUse did.link (after_orders (orders_of did.said) s)

abbrev pub KnowsLimitInUseOf : ℕ → ClientState → Sending → Type 0
KnowsLimitInUseOf number c s = is_server number c ≡ true → KnowsLimitInUse (link_of number c) s

pub record IsLawfulInUseTo (number : ℕ) (s : Sending) (did : ClientDid) : Type 0 where
  pub lawful : AreLawful (own number did.orders) s
  pub limit : KnowsLimitInUseOf number did.client (after_orders (own number did.orders) s)
