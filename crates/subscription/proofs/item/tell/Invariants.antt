use Rattle.std.proofs.Common.{◌≡◌, ◌++◌, map, take, drop, length}
use Rattle.subscription.specs.Items.{told, left}
use Rattle.subscription.specs.Message.{notified}
use Rattle.subscription.proofs.item.tell.Given as goal

-- what is left to be done gives, after what is done, the items and the list of all
abbrev pub invariant-loop-place : goal.invariant-loop-place
invariant-loop-place l = record {
  items : take l.place l.items ++ left l.room (drop l.place l.items) ≡ left l.most l.fn.items;
  list : l.to.items ++ map (notified l.fn.now) (told l.room (drop l.place l.items)) ≡ l.fn.to.items ++ map (notified l.fn.now) (told l.most l.fn.items);
  rest : drop l.place l.items ≡ drop l.place l.fn.items;
  width : length l.items ≡ length l.fn.items;
}
