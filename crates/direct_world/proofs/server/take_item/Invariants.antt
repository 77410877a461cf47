use Rattle.std.proofs.Common.{◌≡◌, take, length}
use Rattle.item_queue.specs.Queue.{without_oldest}
use Rattle.direct_world.specs.Acts.{after_acts, entering}
use Rattle.direct_world.proofs.server.take_item.Given as goal

-- so many entries are out of the queue and in the log
abbrev pub invariant-loop-entry : goal.invariant-loop-entry
invariant-loop-entry l = record {
  queue : l.queue ≡ without_oldest l._entry l.fn.queue;
  log : l.log ≡ after_acts (entering l.server l.item (take l._entry l.fn.queue.entries)) l.fn.log;
  items : length l.log.lasts ≡ length l.fn.log.lasts;
  servers : length l.log.joints ≡ length l.fn.log.joints;
}
