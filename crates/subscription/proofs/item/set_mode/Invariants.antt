use Rattle.std.proofs.Common.{◌≡◌, ◌++◌, map, take, drop}
use Rattle.subscription.specs.Items.{moded_if, with_item_mode}
use Rattle.subscription.proofs.item.set_mode.Given as goal

abbrev pub invariant-loop-item : goal.invariant-loop-item
invariant-loop-item l =
    take l.item-index l.items ++ map (moded_if l.id l.mode l.current) (drop l.item-index l.items) ≡ with_item_mode l.id l.mode l.current l.fn.items
