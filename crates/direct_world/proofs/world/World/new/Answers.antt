use Rattle.std.proofs.Common.{◌^◌, ◌<◌, arith}
use Rattle.direct_world.proofs.Shapes.{shaped_made}
use Rattle.direct_world.proofs.world.World.new.Goals as goal

pub invariant_of-result : goal.invariant_of-result
invariant_of-result c =
    let servers : c.args.servers < 2 ^ 8 = omega arith in
    let items : c.args.items < 2 ^ 8 = omega arith in
    shaped_made _ _ _ _ _ _ servers items c.in_ok-new_servers.ensures c.in_ok-new.ensures
