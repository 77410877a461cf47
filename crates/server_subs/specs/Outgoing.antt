-- What a subscription gives for an answer, and which row a cycle of it takes.
use Rattle.std.specs.Prelude.{ℕ, ℤ, Bool, Option, Some, None}
use Rattle.retransmit.specs.Kept.{numbers_of}
use Rattle.subscription.specs.declared.cycle.Cycle.{Cycle}
use Rattle.subscription.specs.Calls.{next_message, published}
use Rattle.subscription.specs.Cycle.{has_something, row_of}
use Rattle.subscription.specs.State.{SubState}
use Rattle.server_subs.specs.declared.outgoing.Outgoing.{Outgoing}

abbrev pub outgoing_of : ℤ → SubState → Outgoing
outgoing_of now sub = record {
  id = sub.spec.id;
  message = next_message now sub;
  numbers = numbers_of (published now sub).kept;
  more = has_something (published now sub);
}

-- the next message of a subscription, if there is one
abbrev pub outgoing : ℤ → Option SubState → Option Outgoing
outgoing now None = None
outgoing now (Some sub) = Some (outgoing_of now sub)

abbrev pub row_at : Bool → Option SubState → Option Cycle
row_at queued None = None
row_at queued (Some sub) = Some (row_of queued sub)

abbrev pub id_of : Option SubState → Option ℕ
id_of None = None
id_of (Some sub) = Some sub.spec.id
