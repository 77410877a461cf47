use Rattle.std.proofs.Common.{◌≡◌}
use Rattle.std.specs.Prelude.{replicate}
use Rattle.item_queue.specs.Queue.{empty_queue}
use Rattle.direct_world.proofs.server.Server.new.Given as goal

abbrev pub invariant-loop-item : goal.invariant-loop-item
invariant-loop-item l = l.queues.items ≡ replicate l._item (empty_queue l.oldest l.size)
