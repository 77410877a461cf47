-- The ends of a node's connections over whole messages: no bytes, no pieces and no numbers of chunks.
use Rattle.std.specs.Prelude.{ℕ, ◌==◌, List, [], ◌∷◌, ◌++◌, Option, Some, None, if◌then◌else◌}
use Rattle.ua_chunks.specs.Assembly.{Tokens}
use Rattle.ua_chunks.specs.Traffic.{renewed_tokens}
use Rattle.ua_channel.specs.declared.wire.Order.{Order}
use Rattle.ua_channel.specs.declared.wire.Order.TheVariants as order
use Rattle.ua_channel.specs.State.{WireState}
use Rattle.ua_channel.specs.Messages.{no_tokens}
use Rattle.ua_channel.specs.Sharing.{own}

-- which tokens are taken, and the messages put that weren't taken
pub record MessageEnd : Type 0 where
  pub tokens : Tokens
  pub out : List WireState

abbrev pub new_end : MessageEnd
new_end = record { tokens = no_tokens; out = [] }

-- those of all connections, by their numbers
abbrev pub MessageEnds : Type 0
MessageEnds = ℕ → Option MessageEnd

abbrev pub no_ends : MessageEnds
no_ends number = None

-- an end comes to stand there, or none does any more
abbrev pub set_end : ℕ → Option MessageEnd → MessageEnds → MessageEnds
set_end conn end ends number = if number == conn then end else ends number

-- ---- orders

-- limits change no message
abbrev pub obeyed : Order → MessageEnd → MessageEnd
obeyed (order.Put w) e = record e { out = e.out ++ w ∷ [] }
obeyed (order.Limit l) e = e
obeyed (order.Renew channel token) e = record e { tokens = renewed_tokens channel token e.tokens }

abbrev pub obeyed_all : List Order → MessageEnd → MessageEnd
obeyed_all [] e = e
obeyed_all (o ∷ orders) e = obeyed_all orders (obeyed o e)

abbrev pub obeyed_by : List Order → Option MessageEnd → Option MessageEnd
obeyed_by orders None = None
obeyed_by orders (Some e) = Some (obeyed_all orders e)

-- orders with their connections' numbers: each end obeys its own, in their order, and one for a connection that isn't there
-- is for nobody
abbrev pub obeyed_each : List (ℕ × Order) → MessageEnds → MessageEnds
obeyed_each orders ends number = obeyed_by (own number orders) (ends number)

-- ---- what was put

abbrev pub out_by : Option MessageEnd → List WireState
out_by None = []
out_by (Some e) = e.out

-- it is taken
abbrev pub emptied_by : Option MessageEnd → Option MessageEnd
emptied_by None = None
emptied_by (Some e) = Some (record e { out = [] })

abbrev pub emptied : ℕ → MessageEnds → MessageEnds
emptied conn ends = set_end conn (emptied_by (ends conn)) ends
