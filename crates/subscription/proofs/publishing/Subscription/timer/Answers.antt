use Rattle.std.proofs.Common.{rules, ◌≡◌, ◌+◌, ◌^◌, ◌<◌, false, ap, sym, ◌∙◌, arith}
use Rattle.subscription.proofs.Rows.{below, quiet_is_short}
use Rattle.subscription.specs.State.{SubState}
use Rattle.subscription.specs.Cycle.{is_silent}
use Rattle.subscription.proofs.publishing.Subscription.timer.Goals as goal

pub overflow_add-self : goal.overflow_add-self
overflow_add-self c =
    let short : is_silent c.args.self.now ≡ false = quiet_is_short c.args.parked c.args.self.now (sym c.in-Quiet.ensures) in
    let fewer : c.args.self.now.quiet + 1 < c.args.self.now.spec.keep_alive = below c.args.self.now.quiet c.args.self.now.spec.keep_alive short in
    let same : c.self.inside.quiet ≡ c.args.self.now.quiet = ap (λ (s : SubState). s.quiet) (c.self.view_is ∙ c.tick.ensures) in
    let most : c.self.inside.spec.keep_alive ≡ c.args.self.now.spec.keep_alive = ap (λ (s : SubState). s.spec.keep_alive) (c.self.view_is ∙ c.tick.ensures) in
    let small : c.self.inside.spec.keep_alive < 2 ^ 32 = search rules in
    omega arith
