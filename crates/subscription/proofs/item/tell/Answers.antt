use Rattle.std.proofs.Common.{w64, slice_set}
use Rattle.subscription.specs.Items.{IsPart, left}
use Rattle.std.proofs.Math.Facts.{to_z-of_z}
use Rattle.subscription.specs.Message.{notified}
use Rattle.subscription.proofs.Telling.{all_told, on_err, part_of, put_back}
use Rattle.subscription.proofs.item.tell.Goals as goal

pub returns-in_err-room-clause-part : goal.returns-in_err-room-clause-part
returns-in_err-room-clause-part c =
    on_err c.from_residual.result (IsPart (slice_set c.loop-place.items c.loop-place.place c.tell.new.self) (left c.args.most c.args.items.now) c.args.items.now)
    (rw (put_back c.loop-place.place c.loop-place.items c.tell.new.self _ c.in_err-room.ensures.unchanged)
    (part_of c.loop-place.place c.loop-place.items (left c.args.most c.args.items.now) c.args.items.now _ (rw c.loop-place.auto.items c.loop-place.auto.place-end) c.loop-place.invariant.items c.loop-place.invariant.rest))

pub returns-clause-list : goal.returns-clause-list
returns-clause-list c = all_told (notified c.args.now) c.loop-place.room c.loop-place.place c.loop-place.items _ _ (rw c.loop-place.auto.items c.loop-place-test.false) (rw (to_z-of_z {w = w64} {z = c.args.now} c.ranges.now) at c.loop-place.invariant.list)
