use Rattle.std.proofs.Common.{◌≤◌, ◌<◌, List, length, subst, sym, ◌∙◌, arith}
use Rattle.failover_core.specs.declared.choice.Candidate.{Candidate}
use Rattle.ua_client.proofs.Looping.{none_left, one_round}
use Rattle.ua_client.proofs.settling.+settle_within.Goals as goal

pub returns-then-most-eq0-clause-orders : goal.returns-then-most-eq0-clause-orders
returns-then-most-eq0-clause-orders t c =
    none_left c.args.most c.args.ready.now c.args.client.now c.args.to.now.items c.if-most-eq0.true

pub returns-clause-orders : goal.returns-clause-orders
returns-clause-orders t c =
    let differs = c.if-most-eq0.false in
    let more = c.if-len-ready.false in
    let own = c.len.ensures in
    let slice = c.deref.ensures.value in
    let some : 1 ≤ c.args.most = omega arith in
    let fewer : length c.in_ok-after.after.items < length c.args.ready.now = omega arith in
    one_round c.args.most c.args.ready.now c.deref.result.now c.args.client.now _ c.args.to.now.items _ _ some
    c.in_ok-turn.ensures.state c.in_ok-turn.ensures.orders (slice ∙ c.in_ok-after.ensures) (subst (λ (l : List Candidate). length l < length c.args.ready.now) (sym slice) fewer) c.in_ok-settle_within.ensures.orders
