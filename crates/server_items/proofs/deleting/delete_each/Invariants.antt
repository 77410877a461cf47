use Rattle.std.proofs.Common.{◌≡◌, ◌++◌, drop}
use Rattle.server_rules.specs.Operations.{after_each, answers}
use Rattle.server_rules.specs.Items.{item_known, without_item_of}
use Rattle.server_items.proofs.deleting.delete_each.Given as goal

abbrev pub invariant-loop-id : goal.invariant-loop-id
invariant-loop-id l =
    (after_each (without_item_of l.sub) (drop l.id-index l.ids) l.server ≡ after_each (without_item_of l.sub) l.ids l.fn.server) ×
    (l.codes.items ++ answers (item_known l.sub) (without_item_of l.sub) (drop l.id-index l.ids) l.server
    ≡ answers (item_known l.sub) (without_item_of l.sub) l.ids l.fn.server)
