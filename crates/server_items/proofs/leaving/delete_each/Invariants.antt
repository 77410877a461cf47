use Rattle.std.proofs.Common.{◌≡◌, ◌++◌, drop}
use Rattle.server_rules.specs.Said.{each, orders_of}
use Rattle.server_rules.specs.Operations.{answers, leaves}
use Rattle.server_rules.specs.Subscriptions.{delete_one, sub_known}
use Rattle.server_items.proofs.leaving.delete_each.Given as goal

abbrev pub invariant-loop-id : goal.invariant-loop-id
invariant-loop-id l =
    ((each (delete_one l.session) (drop l.id-index l.ids) l.server).state ≡ (each (delete_one l.session) l.ids l.fn.server).state) ×
    (l.to.items ++ orders_of (each (delete_one l.session) (drop l.id-index l.ids) l.server).said
    ≡ l.fn.to.items ++ orders_of (each (delete_one l.session) l.ids l.fn.server).said) ×
    (l.codes.items ++ answers (sub_known l.session) (leaves (delete_one l.session)) (drop l.id-index l.ids) l.server
    ≡ answers (sub_known l.session) (leaves (delete_one l.session)) l.ids l.fn.server)
