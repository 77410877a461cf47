use Rattle.std.proofs.Common.{◌≡◌, length}
use Rattle.client_cuts.specs.Resting.{IsAtRest}
use Rattle.set_rules.specs.Moves.{gathered_among}
use Rattle.set_world.specs.Bytes.{nodes}
use Rattle.set_world.proofs.set.Set.gather.Given as goal

abbrev pub invariant-loop-place : goal.invariant-loop-place
invariant-loop-place l = (l.self ≡ gathered_among nodes l.place l.fn.self) × (length l.self.slots ≡ length l.fn.self.slots) × IsAtRest l.self.client
