use Rattle.server_subs.proofs.Loops.{sent_done, sent_less, sent_loop}
use Rattle.server_subs.proofs.data.ServerData.send_on.Goals as goal

pub loop-waiting-smaller : goal.loop-waiting-smaller
loop-waiting-smaller c = sent_less c.args.id c.args.session _ _ _ _ _ c.next_sending.ensures.oldest c.in-Some.is c.next_sending.ensures.taken c.in_ok-send.ensures.state

pub loop-waiting-preserved : goal.loop-waiting-preserved
loop-waiting-preserved c =
    sent_loop c.args.id c.args.session _ _ _ _ _ _ _ _ _ c.next_sending.ensures.oldest c.in-Some.is c.next_sending.ensures.taken c.in_ok-send.ensures.state
    c.in_ok-send.ensures.orders c.loop-waiting.invariant

pub returns-clause-state : goal.returns-clause-state
returns-clause-state c = (sent_done c.args.id c.args.session _ _ _ _ _ _ c.next_sending.ensures.oldest c.in_default.is c.next_sending.ensures.none c.loop-waiting.invariant).0

pub returns-clause-orders : goal.returns-clause-orders
returns-clause-orders c = (sent_done c.args.id c.args.session _ _ _ _ _ _ c.next_sending.ensures.oldest c.in_default.is c.next_sending.ensures.none c.loop-waiting.invariant).1
