use Rattle.std.proofs.Common.{◌≡◌, ◌++◌, drop}
use Rattle.server_rules.specs.Operations.{after_each, answers}
use Rattle.server_rules.specs.Items.{item_known, with_mode_set}
use Rattle.server_items.proofs.modes.set_each.Given as goal

abbrev pub invariant-loop-id : goal.invariant-loop-id
invariant-loop-id l =
    (after_each (with_mode_set l.sub l.mode) (drop l.id-index l.ids) l.server ≡ after_each (with_mode_set l.sub l.mode) l.ids l.fn.server) ×
    (l.codes.items ++ answers (item_known l.sub) (with_mode_set l.sub l.mode) (drop l.id-index l.ids) l.server
    ≡ answers (item_known l.sub) (with_mode_set l.sub l.mode) l.ids l.fn.server)
