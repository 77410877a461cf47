use Rattle.std.proofs.Common.{◌≡◌, length}
use Rattle.client_cuts.specs.Resting.{IsAtRest}
use Rattle.ua_client.specs.declared.event.ClientEvent.TheVariants as learned
use Rattle.ua_client.specs.Step as learning
use Rattle.set_world.proofs.pieces.learn.Given as goal

abbrev pub invariant-loop-rest : goal.invariant-loop-rest
invariant-loop-rest l =
    (learning.stepped (learned.Bytes l.server l.rest) l.client.bytes ≡ learning.stepped (learned.Bytes l.fn.server l.fn.bytes) l.fn.client.bytes)
    × IsAtRest l.client.bytes

abbrev pub decreases-loop-rest : goal.decreases-loop-rest
decreases-loop-rest l = length l.rest
