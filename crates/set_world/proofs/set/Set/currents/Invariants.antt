use Rattle.std.proofs.Common.{◌≡◌}
use Rattle.set_rules.specs.Slots.{currents}
use Rattle.set_world.proofs.set.Set.currents.Given as goal

abbrev pub invariant-loop-before : goal.invariant-loop-before
invariant-loop-before l = l.list.items ≡ currents l.before l.self.source
