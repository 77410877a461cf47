use Rattle.std.proofs.Common.{◌≡◌, ◌+◌, [], ap, arith, drop}
use Rattle.std.proofs.lemmas.List.{drop_all}
use Rattle.server_subs.specs.Due.{subs_due}
use Rattle.server_subs.proofs.Leaps.{due_more, last_due}
use Rattle.server_subs.proofs.timer.subs_due.Goals as goal

pub loop-sub-init : goal.loop-sub-init
loop-sub-init c = let most = last_due c.args.subs.now in (omega arith, omega arith)

pub loop-sub-preserved : goal.loop-sub-preserved
loop-sub-preserved c =
    let more = due_more c.args.subs.now c.loop-sub.sub-index c.sub-item.result c.loop-sub-test.true c.sub-item.is in
    let most = last_due (drop (c.loop-sub.sub-index + 1) c.args.subs.now) in
    let so_far = c.loop-sub.invariant.1 in
    let due = c.min-due.ensures in
    let at = c.due_or_last.ensures in
    (omega arith, omega arith)

pub returns : goal.returns
returns c =
    let so_far = c.loop-sub.invariant.1 in
    let most = c.loop-sub.invariant.0 in
    let none : subs_due (drop c.loop-sub.sub-index c.args.subs.now) ≡ subs_due [] =
    ap subs_due (drop_all c.loop-sub.sub-index c.args.subs.now c.loop-sub-test.false) in
    omega arith
