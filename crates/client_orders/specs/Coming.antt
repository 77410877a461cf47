-- What a client puts fits where a server hears it.
use Rattle.std.specs.Prelude.{ℕ, List, [], ◌∷◌}
use Rattle.ua_chunks.specs.Assembly.{Tokens}
use Rattle.ua_channel.specs.declared.ear.Ear.{Ear}
use Rattle.ua_channel.specs.declared.wire.Order.{Order}
use Rattle.ua_channel.specs.declared.wire.Order.TheVariants as order
use Rattle.ua_channel.specs.Messages.{hearing_of}
use Rattle.ua_channel.specs.State.{WireState}
use Rattle.server_keeps.specs.Fitting.{FitsHeard}

-- whatever a server awaits, and whichever tokens it takes, what it hears of this message fits
abbrev pub ComesFit : WireState → Type 0
ComesFit w = (e : Ear) (t : Tokens) → FitsHeard (hearing_of e w t).heard

abbrev pub PutFits : Order → Type 0
PutFits (order.Put w) = ComesFit w
PutFits (order.Limit l) = Unit {0}
PutFits (order.Renew channel token) = Unit {0}

-- of orders for servers
abbrev pub PutsFit : List (ℕ × Order) → Type 0
PutsFit [] = Unit {0}
PutsFit (o ∷ orders) = PutFits o.1 × PutsFit orders
