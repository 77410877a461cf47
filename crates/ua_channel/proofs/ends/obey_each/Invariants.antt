use Rattle.std.proofs.Common.{◌≡◌, length}
use Rattle.ua_channel.specs.Sharing.{obeyed_each}
use Rattle.ua_channel.proofs.ends.obey_each.Given as goal

abbrev pub invariant-loop-entry : goal.invariant-loop-entry
invariant-loop-entry l = obeyed_each l.entry-iterator.rest.items l.channels ≡ obeyed_each l.fn.orders.items l.fn.channels

abbrev pub decreases-loop-entry : goal.decreases-loop-entry
decreases-loop-entry l = length l.entry-iterator.rest.items
