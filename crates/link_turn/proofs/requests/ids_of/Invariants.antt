use Rattle.std.proofs.Common.{◌≡◌, ◌++◌, map, drop}
use Rattle.link_rules.specs.declared.remembered.Monitored.{Monitored}
use Rattle.link_turn.proofs.requests.ids_of.Given as goal

abbrev pub invariant-loop-monitored : goal.invariant-loop-monitored
invariant-loop-monitored l =
    l.ids.items ++ map (λ (one : Monitored). one.id) (drop l.monitored-index l.items) ≡ map (λ (one : Monitored). one.id) l.items
