use Rattle.std.proofs.Common.{◌≡◌}
use Rattle.set_world.specs.Texts.{urls}
use Rattle.set_world.proofs.making.urls.Given as goal

abbrev pub invariant-loop-before : goal.invariant-loop-before
invariant-loop-before l = l.list.items ≡ urls l.before
