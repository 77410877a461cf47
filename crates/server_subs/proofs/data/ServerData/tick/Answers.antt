use Rattle.std.proofs.Common.{rules, ◌≡◌, ◌<◌, ◌^◌, ◌-◌, ◌++◌, ap, sym, arith}
use Rattle.server_rules.specs.State.{ServerState}
use Rattle.server_rules.specs.Said.{Did, orders_of}
use Rattle.server_rules.specs.Timer.{ticked}
use Rattle.server_subs.proofs.Joining.{ended, through}
use Rattle.server_subs.proofs.LastAge.{no_time, up_to_end}
use Rattle.server_subs.proofs.data.ServerData.tick.Goals as goal

pub loop-self-init : goal.loop-self-init
loop-self-init c =
    let small : c.self.inside.age < 2 ^ 64 = search rules in
    let same : c.self.inside.age ≡ c.args.self.now.age = ap (λ (s : ServerState). s.age) c.self.view_is in
    let end = c.saturating_add-end.ensures in
    let added = c.from.ensures in
    let is : ticked c.args.ms c.args.self.now ≡ ticked (c.saturating_add-end.result - c.args.self.now.age) c.args.self.now =
    up_to_end c.args.ms c.saturating_add-end.result c.args.self.now (omega arith) (omega arith) in (
      omega arith,
      record {
        state = sym (ap (λ (d : Did). d.state) is);
        said = sym (ap (λ (d : Did). c.args.to.now.items ++ orders_of d.said) is);
      },
    )

pub loop-self-preserved : goal.loop-self-preserved
loop-self-preserved c =
    (c.in_ok-leap.ensures.early, through _ _ _ _ _ _ c.in_ok-leap.ensures.left c.loop-self.invariant.1)

pub returns-clause-state : goal.returns-clause-state
returns-clause-state c =
    let within = c.loop-self.invariant.0 in
    let over = c.loop-self-test.false in
    let same : c.self-in-loop-self.inside.age ≡ c.loop-self.self.age = ap (λ (s : ServerState). s.age) c.self-in-loop-self.view_is in
    (ended _ _ _ _ _ (no_time _ _ (omega arith)) c.loop-self.invariant.1).0

pub returns-clause-orders : goal.returns-clause-orders
returns-clause-orders c =
    let within = c.loop-self.invariant.0 in
    let over = c.loop-self-test.false in
    let same : c.self-in-loop-self.inside.age ≡ c.loop-self.self.age = ap (λ (s : ServerState). s.age) c.self-in-loop-self.view_is in
    (ended _ _ _ _ _ (no_time _ _ (omega arith)) c.loop-self.invariant.1).1
