use Rattle.std.proofs.Common.{rules, ◌≡◌, ◌≢◌, ◌+◌, ◌^◌, ◌<◌, false, ap, arith, subst}
use Rattle.subscription.proofs.Rows.{below, lasting_is_short}
use Rattle.subscription.specs.State.{SubState}
use Rattle.subscription.specs.Cycle.{is_forgotten, row_of}
use Rattle.subscription.specs.declared.cycle.Cycle.TheVariants.{Expired}
use Rattle.subscription.proofs.publishing.Subscription.tick.Goals as goal

pub overflow_add-self : goal.overflow_add-self
overflow_add-self c =
    let lasts : row_of false c.args.self.now ≢ Expired = subst (λ queued. row_of queued c.args.self.now ≢ Expired) c.if-parked.false c.requires in
    let short : is_forgotten c.args.self.now ≡ false = lasting_is_short c.args.self.now lasts in
    let fewer : c.args.self.now.life + 1 < c.args.self.now.spec.lifetime = below c.args.self.now.life c.args.self.now.spec.lifetime short in
    let same : c.self.inside.life ≡ c.args.self.now.life = ap (λ (s : SubState). s.life) c.self.view_is in
    let most : c.self.inside.spec.lifetime ≡ c.args.self.now.spec.lifetime = ap (λ (s : SubState). s.spec.lifetime) c.self.view_is in
    let small : c.self.inside.spec.lifetime < 2 ^ 32 = search rules in
    omega arith
