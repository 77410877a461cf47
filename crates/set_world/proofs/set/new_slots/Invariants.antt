use Rattle.std.proofs.Common.{◌≡◌}
use Rattle.set_world.specs.State.{first_slots}
use Rattle.set_world.proofs.set.new_slots.Given as goal

abbrev pub invariant-loop-before : goal.invariant-loop-before
invariant-loop-before l = l.slots.items ≡ first_slots l.kind.mode l.kind.servers l.kind.items l.before
