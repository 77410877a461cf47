use Rattle.std.proofs.Common.{◌≡◌}
use Rattle.set_world.specs.Texts.{members}
use Rattle.set_world.proofs.making.members.Given as goal

abbrev pub invariant-loop-before : goal.invariant-loop-before
invariant-loop-before l = l.list.items ≡ members l.before
