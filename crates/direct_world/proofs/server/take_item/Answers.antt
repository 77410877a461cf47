use Rattle.std.proofs.Common.{◌∙◌}
use Rattle.direct_world.proofs.Acting.{taken_more, entered_more}
use Rattle.direct_world.proofs.server.take_item.Goals as goal

pub loop-entry-preserved : goal.loop-entry-preserved
loop-entry-preserved c = record {
  queue = taken_more c.loop-entry._entry c.args.queue.now _ _ c.loop-entry.invariant.queue c.in_ok-take_entry.ensures.queue;
  log = entered_more c.args.server c.args.item c.loop-entry._entry c.args.queue.now _ c.args.log.now _ _ c.loop-entry.invariant.queue c.loop-entry.invariant.log c.in_ok-take_entry.ensures.log;
  items = c.take_entry.ensures.items ∙ c.loop-entry.invariant.items;
  servers = c.take_entry.ensures.servers ∙ c.loop-entry.invariant.servers;
}
