use Rattle.std.proofs.Common.{◌<◌, length, rules, ◌∙◌}
use Rattle.direct_world.proofs.Acting.{log_taken_on, queues_taken_on}
use Rattle.direct_world.proofs.server.take_all.Goals as goal

pub loop-place-preserved : goal.loop-place-preserved
loop-place-preserved c =
    let place = c.loop-place.place in
    let queues = c.loop-place.queues in
    let within : place < length queues = search rules in
    let took = c.in_ok-take_place.ensures in
    record {
      queues = queues_taken_on place c.args.count queues _ within took.queues ∙ c.loop-place.invariant.queues;
      log = log_taken_on c.args.server place c.args.count queues _ _ _ within took.queues took.log ∙ c.loop-place.invariant.log;
      items = c.take_place.ensures.items ∙ c.loop-place.invariant.items;
      servers = c.take_place.ensures.servers ∙ c.loop-place.invariant.servers;
    }
