use Rattle.std.proofs.Common.{◌<◌, ◌≤◌, ◌^◌, ◌-◌, refl, subst, sym, arith}
use Rattle.server_rules.specs.State.{ServerState}
use Rattle.server_rules.specs.Timer.{ticked}
use Rattle.server_subs.specs.Due.{advanced}
use Rattle.server_subs.proofs.Joining.{continues}
use Rattle.server_subs.proofs.Leaps.{ages, leaps}
use Rattle.server_subs.proofs.data.ServerData.leap.Goals as goal

pub returns-clause-left : goal.returns-clause-left
returns-clause-left c =
    let fits = c.ranges.end.fits in
    let last : c.args.end < 2 ^ 64 = omega arith in
    continues (λ (after : ServerState). ticked (c.args.end - after.age) after) (advanced c.args.end c.args.self.now) _ _ _ _ _ _
    (leaps c.args.end c.args.self.now c.requires last c.in_ok-advance.ensures.sound)
    c.in_ok-advance.ensures.state c.in_ok-advance.ensures.orders (record { state = refl; said = refl })

pub returns-clause-later : goal.returns-clause-later
returns-clause-later c =
    subst (λ (s : ServerState). c.args.self.now.age < s.age) (sym c.in_ok-advance.ensures.state) (ages c.args.end c.args.self.now c.requires).0

pub returns-clause-early : goal.returns-clause-early
returns-clause-early c =
    subst (λ (s : ServerState). s.age ≤ c.args.end) (sym c.in_ok-advance.ensures.state) (ages c.args.end c.args.self.now c.requires).1
