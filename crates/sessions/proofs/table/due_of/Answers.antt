use Rattle.std.proofs.Common.{◌≡◌, ◌+◌, [], ap, arith, drop}
use Rattle.std.proofs.lemmas.List.{drop_all}
use Rattle.sessions.specs.Table.{due_of}
use Rattle.sessions.proofs.Moments.{due_most, due_more}
use Rattle.sessions.proofs.table.due_of.Goals as goal

pub loop-session-init : goal.loop-session-init
loop-session-init c = let most = due_most c.args.sessions.now in (omega arith, omega arith)

pub loop-session-preserved : goal.loop-session-preserved
loop-session-preserved c =
    let more = due_more c.args.sessions.now c.loop-session.session-index c.session-item.result c.loop-session-test.true c.session-item.is in
    let most = due_most (drop (c.loop-session.session-index + 1) c.args.sessions.now) in
    let so_far = c.loop-session.invariant.1 in
    let due = c.min-due.ensures in
    let capped = c.saturating_add.ensures in
    let timeout = c.from.ensures in
    (omega arith, omega arith)

pub returns : goal.returns
returns c =
    let so_far = c.loop-session.invariant.1 in
    let most = c.loop-session.invariant.0 in
    let none : due_of (drop c.loop-session.session-index c.args.sessions.now) ≡ due_of [] =
    ap due_of (drop_all c.loop-session.session-index c.args.sessions.now c.loop-session-test.false) in
    omega arith
