use Rattle.std.proofs.Common.{◌≡◌, ◌++◌, length}
use Rattle.client_rules.specs.Links.{ordered}
use Rattle.ua_client.proofs.linking.put_all.Given as goal

abbrev pub invariant-loop-order : goal.invariant-loop-order
invariant-loop-order l =
    l.to.items ++ ordered l.server l.order-iterator.rest.items ≡ l.fn.to.items ++ ordered l.server l.fn.orders.items

abbrev pub decreases-loop-order : goal.decreases-loop-order
decreases-loop-order l = length l.order-iterator.rest.items
