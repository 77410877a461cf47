use Rattle.std.proofs.Common.{◌<◌, length, rules}
use Rattle.direct_world.proofs.Shapes.{shaped_set}
use Rattle.direct_world.proofs.world.World.feed.Goals as goal

pub invariant_of-self : goal.invariant_of-self
invariant_of-self c =
    let within : c.args.place < length c.self.inside.servers.items = search rules in
    shaped_set _ _ _ _ _ within c.index_mut.ensures.value c.feed.ensures.width c.self.invariant
