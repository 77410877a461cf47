use Rattle.std.proofs.Common.{rules}
use Rattle.fanout.proofs.Passing.{leaves_on, stays_on}
use Rattle.fanout.proofs.attached.Fanout.tell_at.Goals as goal

pub returns-in-Ok-clause-on : goal.returns-in-Ok-clause-on
returns-in-Ok-clause-on g c = λ olds before way.
    stays_on _ c.args.line.now olds before c.args.to.now.items c.args.self.now.entries.items c.args.place c.index_mut.result.now c.tell_one.new.entry
    (search rules) c.index_mut.ensures.value c.in-Ok.ensures.remains way

pub returns-in-Err-clause-on : goal.returns-in-Err-clause-on
returns-in-Err-clause-on g c = λ olds before way.
    let on = leaves_on _ c.args.line.now olds before c.args.to.now.items c.args.self.now.entries.items c.args.place c.index_mut.result.now c.tell_one.new.entry c.in-Err.stopped
    (search rules) c.index_mut.ensures.value c.in-Err.ensures.leaves way in
    rw (c.remove.ensures.items, c.push_reserved.ensures.items) on
