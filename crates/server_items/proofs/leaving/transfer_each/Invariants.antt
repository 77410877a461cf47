use Rattle.std.proofs.Common.{◌≡◌, ◌++◌, drop}
use Rattle.server_rules.specs.Said.{each, orders_of}
use Rattle.server_rules.specs.Operations.{answers, leaves}
use Rattle.server_rules.specs.Subscriptions.{transfer_one, transfer_result}
use Rattle.server_items.proofs.leaving.transfer_each.Given as goal

abbrev pub invariant-loop-id : goal.invariant-loop-id
invariant-loop-id l =
    ((each (transfer_one l.session) (drop l.id-index l.ids) l.server).state
    ≡ (each (transfer_one l.session) l.ids l.fn.server).state) ×
    (l.to.items ++ orders_of (each (transfer_one l.session) (drop l.id-index l.ids) l.server).said
    ≡ l.fn.to.items ++ orders_of (each (transfer_one l.session) l.ids l.fn.server).said) ×
    (l.told.items ++ answers (transfer_result l.session) (leaves (transfer_one l.session)) (drop l.id-index l.ids) l.server
    ≡ answers (transfer_result l.session) (leaves (transfer_one l.session)) l.ids l.fn.server)
