use Rattle.server_subs.proofs.Loops.{answered_done, answered_less, answered_loop}
use Rattle.server_subs.proofs.data.ServerData.answer_queued.Goals as goal

pub loop-waiting-smaller : goal.loop-waiting-smaller
loop-waiting-smaller c = answered_less c.args.code c.args.session _ _ _ _ _ c.take_waiting.ensures.oldest c.in-Some.is c.take_waiting.ensures.taken c.in_ok-fault.ensures.state

pub loop-waiting-preserved : goal.loop-waiting-preserved
loop-waiting-preserved c =
    answered_loop c.args.code c.args.session _ _ _ _ _ _ _ _ _ c.take_waiting.ensures.oldest c.in-Some.is c.take_waiting.ensures.taken c.in_ok-fault.ensures.state
    c.in_ok-fault.ensures.orders c.loop-waiting.invariant

pub returns-clause-state : goal.returns-clause-state
returns-clause-state c = (answered_done c.args.code c.args.session _ _ _ _ _ _ c.take_waiting.ensures.oldest c.in_default.is c.take_waiting.ensures.none c.loop-waiting.invariant).0

pub returns-clause-orders : goal.returns-clause-orders
returns-clause-orders c = (answered_done c.args.code c.args.session _ _ _ _ _ _ c.take_waiting.ensures.oldest c.in_default.is c.take_waiting.ensures.none c.loop-waiting.invariant).1
