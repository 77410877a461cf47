use Rattle.std.proofs.Common.{◌≡◌, ◌++◌, drop}
use Rattle.server_rules.specs.Said.{each, orders_of}
use Rattle.server_rules.specs.Timer.{cycle}
use Rattle.server_subs.proofs.data.ServerData.cycles.Given as goal

abbrev pub invariant-loop-id : goal.invariant-loop-id
invariant-loop-id l =
    ((each cycle (drop l.id-index l.ids) l.self).state ≡ (each cycle l.ids l.fn.self).state)
    × (l.to.items ++ orders_of (each cycle (drop l.id-index l.ids) l.self).said ≡ l.fn.to.items ++ orders_of (each cycle l.ids l.fn.self).said)
