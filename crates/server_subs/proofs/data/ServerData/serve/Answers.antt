use Rattle.server_subs.proofs.Loops.{served_done, served_less, served_loop}
use Rattle.server_subs.proofs.data.ServerData.serve.Goals as goal

pub loop-waiting-smaller : goal.loop-waiting-smaller
loop-waiting-smaller c = served_less c.args.session _ _ _ _ _ c.next_served.ensures.oldest c.in-Some.is c.next_served.ensures.taken c.in_ok-tell.ensures.state

pub loop-waiting-preserved : goal.loop-waiting-preserved
loop-waiting-preserved c =
    served_loop c.args.session _ _ _ _ _ _ _ _ _ c.next_served.ensures.oldest c.in-Some.is c.next_served.ensures.taken c.in_ok-tell.ensures.state
    c.in_ok-tell.ensures.orders c.loop-waiting.invariant

pub returns-clause-state : goal.returns-clause-state
returns-clause-state c = (served_done c.args.session _ _ _ _ _ _ c.next_served.ensures.oldest c.in_default.is c.next_served.ensures.none c.loop-waiting.invariant).0

pub returns-clause-orders : goal.returns-clause-orders
returns-clause-orders c = (served_done c.args.session _ _ _ _ _ _ c.next_served.ensures.oldest c.in_default.is c.next_served.ensures.none c.loop-waiting.invariant).1
