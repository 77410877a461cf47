use Rattle.std.proofs.Common.{◌≡◌, length}
use Rattle.client_cuts.specs.Resting.{IsAtRest}
use Rattle.set_rules.specs.Rounds.{rounds}
use Rattle.set_world.specs.Bytes.{nodes}
use Rattle.set_world.proofs.set.Set.pass.Given as goal

abbrev pub invariant-loop-before : goal.invariant-loop-before
invariant-loop-before l = (l.self ≡ rounds nodes l._before l.fn.self) × (length l.self.slots ≡ length l.fn.self.slots) × IsAtRest l.self.client
