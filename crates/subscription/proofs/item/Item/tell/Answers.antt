use Rattle.std.proofs.Common.{w64, arith}
use Rattle.std.proofs.Math.Facts.{to_z-of_z}
use Rattle.subscription.specs.Message.{notified}
use Rattle.subscription.proofs.Telling.{item_on, list_on}
use Rattle.subscription.proofs.item.Item.tell.Goals as goal

pub loop-entry-preserved : goal.loop-entry-preserved
loop-entry-preserved c =
    let same = to_z-of_z {w = w64} {z = c.args.now} c.ranges.now in
    let len = c.tell_one.ensures.len in
    let room = c.tell_one.ensures.room in
    let before = c.loop-entry.invariant.room in
    let more = c.loop-entry-test.true in
    record {
      item = item_on c.loop-entry._entry c.args.self.now c.loop-entry.self c.tell_one.new.self c.loop-entry.invariant.item c.tell_one.ensures.item;
      list = rw same (list_on (notified c.args.now) c.loop-entry._entry c.args.self.now c.loop-entry.self c.args.to.now.items c.loop-entry.to.items c.tell_one.new.to.items c.loop-entry.invariant.item (rw same at c.loop-entry.invariant.list) (rw same at c.tell_one.ensures.list));
      room = omega arith;
    }
