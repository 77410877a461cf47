use Rattle.std.proofs.Common.{◌≡◌, ◌++◌, map, take, drop}
use Rattle.subscription.specs.Items.{fed_item}
use Rattle.subscription.proofs.item.feed.Given as goal

abbrev pub invariant-loop-item : goal.invariant-loop-item
invariant-loop-item l =
    take l.item-index l.items ++ map (fed_item l.change) (drop l.item-index l.items) ≡ map (fed_item l.change) l.fn.items
