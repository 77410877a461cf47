use Rattle.std.proofs.Common.{◌≡◌, ◌++◌, length}
use Rattle.ua_channel.specs.Sharing.{others, own}
use Rattle.ua_channel.proofs.hub.share.Given as goal

abbrev pub invariant-loop-entry : goal.invariant-loop-entry
invariant-loop-entry l =
    (others l.conn l.entry-iterator.rest.items l.channels ≡ others l.conn l.fn.orders.items l.fn.channels)
    × (l.to.items ++ own l.conn l.entry-iterator.rest.items ≡ l.fn.to.items ++ own l.conn l.fn.orders.items)

abbrev pub decreases-loop-entry : goal.decreases-loop-entry
decreases-loop-entry l = length l.entry-iterator.rest.items
