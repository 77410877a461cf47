use Rattle.std.proofs.Common.{◌≡◌, length}
use Rattle.ua_server.specs.declared.event.ServerEvent.TheVariants as served
use Rattle.ua_server.specs.Step as serving
use Rattle.set_world.proofs.pieces.serve_each.Given as goal

abbrev pub invariant-loop-rest : goal.invariant-loop-rest
invariant-loop-rest l =
    serving.stepped (served.Bytes l.conn l.rest) l.life.bytes ≡ serving.stepped (served.Bytes l.fn.conn l.fn.bytes) l.fn.life.bytes

abbrev pub decreases-loop-rest : goal.decreases-loop-rest
decreases-loop-rest l = length l.rest
