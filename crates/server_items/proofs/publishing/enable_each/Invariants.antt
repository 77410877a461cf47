use Rattle.std.proofs.Common.{◌≡◌, ◌++◌, drop}
use Rattle.server_rules.specs.Operations.{after_each, answers}
use Rattle.server_rules.specs.Subscriptions.{sub_known, with_publishing}
use Rattle.server_items.proofs.publishing.enable_each.Given as goal

abbrev pub invariant-loop-id : goal.invariant-loop-id
invariant-loop-id l =
    (after_each (with_publishing l.session l.enabled) (drop l.id-index l.ids) l.server ≡ after_each (with_publishing l.session l.enabled) l.ids l.fn.server) ×
    (l.codes.items ++ answers (sub_known l.session) (with_publishing l.session l.enabled) (drop l.id-index l.ids) l.server
    ≡ answers (sub_known l.session) (with_publishing l.session l.enabled) l.ids l.fn.server)
