use Rattle.std.proofs.Common.{◌≡◌, length}
use Rattle.client_cuts.specs.Resting.{IsAtRest}
use Rattle.set_rules.specs.Rounds.{turns_among}
use Rattle.set_world.specs.Bytes.{nodes}
use Rattle.set_world.proofs.set.Set.round.Given as goal

abbrev pub invariant-loop-place : goal.invariant-loop-place
invariant-loop-place l = (l.self ≡ turns_among nodes l.place l.fn.self) × (length l.self.slots ≡ length l.fn.self.slots) × IsAtRest l.self.client
