use Rattle.std.proofs.Common.{◌≡◌, ◌++◌, length}
use Rattle.ua_link.proofs.link_core.join.Given as goal

abbrev pub invariant-loop-one : goal.invariant-loop-one
invariant-loop-one g l = l.to.items ++ l.one-iterator.rest.items ≡ l.fn.to.items ++ l.fn.more.items

abbrev pub decreases-loop-one : goal.decreases-loop-one
decreases-loop-one g l = length l.one-iterator.rest.items
