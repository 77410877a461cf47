use Rattle.std.proofs.Common.{◌≡◌, map, take}
use Rattle.std.specs.List.{filter}
use Rattle.subscription.specs.State.{SubState}
use Rattle.server_rules.specs.Timer.{has_come}
use Rattle.server_subs.proofs.timer.ids_due.Given as goal

abbrev pub invariant-loop-sub : goal.invariant-loop-sub
invariant-loop-sub l =
    l.ids.items ≡ map (λ (sub : SubState). sub.spec.id) (filter (λ (sub : SubState). has_come l.age sub.due) (take l.sub-index l.subs))
