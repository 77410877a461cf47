-- A node with many connections: the end of one is taken out, and all the rest is the core behind it.
use Rattle.std.specs.Prelude.{ℕ, ◌==◌, List, [], ◌∷◌, ◌++◌, Option, Some, None, if◌then◌else◌}
use Rattle.std.specs.Ordering.{nat_cmp}
use Rattle.std.specs.BTreeMap.{is_at}
use Rattle.std.specs.Map.{lookup, set_value}
use Rattle.ua_channel.specs.declared.ear.Ear.{Ear}
use Rattle.ua_channel.specs.declared.heard.Heard.{Heard}
use Rattle.ua_channel.specs.declared.wire.Order.{Order}
use Rattle.ua_channel.specs.State.{ChannelState, blank_end, shut}
use Rattle.ua_channel.specs.Orders.{obeyed}
use Rattle.ua_channel.specs.Node.{NodeState, node_after, node_of}

-- the ends by their connections' numbers
abbrev pub Ends : Type 0
Ends = List (ℕ × ChannelState)

abbrev pub end_at : ℕ → Ends → Option ChannelState
end_at number ends = lookup (is_at (nat_cmp number)) ends

abbrev pub with_end : ℕ → ChannelState → Ends → Ends
with_end number c ends = set_value (is_at (nat_cmp number)) ends c

-- an order for a connection that isn't there is for nobody
abbrev pub obeyed_by : Option ChannelState → ℕ → Order → Ends → Ends
obeyed_by None number o ends = ends
obeyed_by (Some c) number o ends = with_end number (obeyed o c) ends

abbrev pub obeyed_at : ℕ → Order → Ends → Ends
obeyed_at number o ends = obeyed_by (end_at number ends) number o ends

-- orders with their connections' numbers, in turn
abbrev pub obeyed_each : List (ℕ × Order) → Ends → Ends
obeyed_each [] ends = ends
obeyed_each (o ∷ orders) ends = obeyed_each orders (obeyed_at o.0 o.1 ends)

-- the bytes that weren't taken; of a connection that isn't there none
abbrev pub out_by : Option ChannelState → List ℕ
out_by None = []
out_by (Some c) = c.out

-- they are taken
abbrev pub emptied_by : Option ChannelState → ℕ → Ends → Ends
emptied_by None number ends = ends
emptied_by (Some c) number ends = with_end number (record c { out = [] }) ends

-- nothing is kept of what came
abbrev pub shut_by : Option ChannelState → ℕ → Ends → Ends
shut_by None number ends = ends
shut_by (Some c) number ends = with_end number (shut c) ends

-- of orders with their connections' numbers: those for the connection that is heard, and what the others do
abbrev pub own_first : ℕ → ℕ × Order → List Order
own_first conn o = if o.0 == conn then o.1 ∷ [] else []

abbrev pub others_first : ℕ → ℕ × Order → Ends → Ends
others_first conn o ends = if o.0 == conn then ends else obeyed_at o.0 o.1 ends

abbrev pub own : ℕ → List (ℕ × Order) → List Order
own conn [] = []
own conn (o ∷ orders) = own_first conn o ++ own conn orders

abbrev pub others : ℕ → List (ℕ × Order) → Ends → Ends
others conn [] ends = ends
others conn (o ∷ orders) ends = others conn orders (others_first conn o ends)

-- bytes that come for a connection: its end is taken out, and put back with what they made of it; for a connection that
-- isn't there they are for nobody
module _ {C : Type 0} (ears : C → Ear) (answer : Heard → C → C × List Order) (ends : C → Ends) (with_ends : Ends → C → C) where
  abbrev pub put_back : ℕ → NodeState C → C
  put_back conn n = with_ends (with_end conn n.channel (ends n.core)) n.core

  abbrev pub taken_by : Option ChannelState → ℕ → List ℕ → C → C
  taken_by None conn bytes r = r
  taken_by (Some c) conn bytes r =
      put_back conn (node_after ears answer bytes (node_of (with_ends (with_end conn blank_end (ends r)) r) c))

  abbrev pub taken_at : ℕ → List ℕ → C → C
  taken_at conn bytes r = taken_by (end_at conn (ends r)) conn bytes r
