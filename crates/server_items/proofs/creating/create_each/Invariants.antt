use Rattle.std.proofs.Common.{◌≡◌, ◌++◌, drop}
use Rattle.server_rules.specs.Operations.{after_each, answers}
use Rattle.server_rules.specs.Items.{item_result, with_item}
use Rattle.server_items.proofs.creating.create_each.Given as goal

abbrev pub invariant-loop-one : goal.invariant-loop-one
invariant-loop-one l =
    (after_each (with_item l.sub l.stamps) (drop l.one-index l.asked) l.server ≡ after_each (with_item l.sub l.stamps) l.asked l.fn.server) ×
    (l.told.items ++ answers (item_result l.sub l.stamps) (with_item l.sub l.stamps) (drop l.one-index l.asked) l.server
    ≡ answers (item_result l.sub l.stamps) (with_item l.sub l.stamps) l.asked l.fn.server)
