use Rattle.std.proofs.Common.{◌≡◌, ◌≤◌, ◌+◌, ◌-◌, ◌++◌, map, take, vec_len, vec_capacity}
use Rattle.item_queue.specs.Queue.{without_oldest}
use Rattle.subscription.specs.Items.{telling}
use Rattle.subscription.specs.Message.{notified}
use Rattle.subscription.proofs.item.Item.tell.Given as goal

-- so many entries are out of the queue and in the list
abbrev pub invariant-loop-entry : goal.invariant-loop-entry
invariant-loop-entry l = record {
  item : l.self ≡ record l.fn.self { queue = without_oldest l._entry l.fn.self.queue };
  list : l.to.items ≡ l.fn.to.items ++ map (notified l.fn.now) (map (telling l.fn.self) (take l._entry l.fn.self.queue.entries));
  room : vec_len l.to + (l.count - l._entry) ≤ vec_capacity l.to;
}
