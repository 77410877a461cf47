use Rattle.std.proofs.Common.{◌<◌, length, rules, arith}
use Rattle.direct_world.proofs.Shapes.{shaped_set, shaped_log, shaped_at}
use Rattle.direct_world.proofs.world.World.start.Goals as goal

pub start-requires : goal.start-requires
start-requires c =
    let within : c.args.place < length c.self.inside.servers.items = search rules in
    omega (arith, shaped_at _ _ _ _ within c.index_mut.ensures.value c.self.invariant)

pub invariant_of-self : goal.invariant_of-self
invariant_of-self c =
    let within : c.args.place < length c.self.inside.servers.items = search rules in
    shaped_log _ _ _ c.reopen.ensures.items c.reopen.ensures.servers (shaped_set _ _ _ _ _ within c.index_mut.ensures.value c.start.ensures.width c.self.invariant)
