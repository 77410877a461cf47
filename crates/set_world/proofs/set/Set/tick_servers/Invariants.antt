use Rattle.std.proofs.Common.{◌≡◌, length}
use Rattle.client_cuts.specs.Resting.{IsAtRest}
use Rattle.set_rules.specs.Rounds.{ticked_among}
use Rattle.set_world.specs.Bytes.{nodes}
use Rattle.set_world.proofs.set.Set.tick_servers.Given as goal

abbrev pub invariant-loop-place : goal.invariant-loop-place
invariant-loop-place l = (l.self ≡ ticked_among nodes l.ms l.place l.fn.self) × (length l.self.slots ≡ length l.fn.self.slots) × IsAtRest l.self.client
