use Rattle.std.proofs.Common.{◌<◌, length, rules, arith}
use Rattle.direct_world.proofs.Shapes.{shaped_set, shaped_log, shaped_at}
use Rattle.direct_world.proofs.world.World.take.Goals as goal

pub take-requires-clause-items : goal.take-requires-clause-items
take-requires-clause-items c =
    let within : c.args.place < length c.self.inside.servers.items = search rules in
    omega (arith, shaped_at _ _ _ _ within c.index_mut.ensures.value c.self.invariant)

pub invariant_of-self : goal.invariant_of-self
invariant_of-self c =
    let within : c.args.place < length c.self.inside.servers.items = search rules in
    shaped_log _ _ _ c.take.ensures.items c.take.ensures.servers (shaped_set _ _ _ _ _ within c.index_mut.ensures.value c.take.ensures.width c.self.invariant)

pub invariant_of-self-in_err-take : goal.invariant_of-self-in_err-take
invariant_of-self-in_err-take c =
    let within : c.args.place < length c.self.inside.servers.items = search rules in
    shaped_log _ _ _ c.take.ensures.items c.take.ensures.servers (shaped_set _ _ _ _ _ within c.index_mut.ensures.value c.take.ensures.width c.self.invariant)
