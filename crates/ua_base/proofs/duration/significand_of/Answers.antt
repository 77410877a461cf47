use Rattle.std.proofs.Common.{◌≡◌, ◌*◌, ◌-◌, ◌^◌, ◌%◌, arith}
use Rattle.ua_base.proofs.DurationLemmas.{shifted, is_top}
use Rattle.ua_base.proofs.duration.significand_of.Goals as goal

pub returns-then-power-le52-clause-low : goal.returns-then-power-le52-clause-low
returns-then-power-le52-clause-low c =
    let s = shifted c.args.ms c.args.power (omega arith) c.requires.least c.requires.next in
    omega (arith, s.0, s.1)

pub returns-then-power-le52-clause-high : goal.returns-then-power-le52-clause-high
returns-then-power-le52-clause-high c =
    let s = shifted c.args.ms c.args.power (omega arith) c.requires.least c.requires.next in
    omega (arith, s.0, s.1)

pub returns-then-power-le52-clause-exactly : goal.returns-then-power-le52-clause-exactly
returns-then-power-le52-clause-exactly c =
    let s = shifted c.args.ms c.args.power (omega arith) c.requires.least c.requires.next in
    let whole : c.args.ms * 2 ^ (52 - c.args.power) % 2 ^ 64 ≡ c.args.ms * 2 ^ (52 - c.args.power) = omega (arith, s.1) in
    let none : c.args.power - 52 ≡ 0 = omega arith in
    rw (whole, none) (omega arith)

pub returns-else-power-le52-clause-low : goal.returns-else-power-le52-clause-low
returns-else-power-le52-clause-low c =
    let t = is_top c.args.ms c.args.power (omega arith) c.requires.least c.requires.most in
    omega (arith, t.1)

pub returns-else-power-le52-clause-high : goal.returns-else-power-le52-clause-high
returns-else-power-le52-clause-high c =
    let t = is_top c.args.ms c.args.power (omega arith) c.requires.least c.requires.most in
    omega (arith, t.1)

pub returns-else-power-le52-clause-power : goal.returns-else-power-le52-clause-power
returns-else-power-le52-clause-power c =
    let t = is_top c.args.ms c.args.power (omega arith) c.requires.least c.requires.most in
    omega (arith, t.0)

pub returns-else-power-le52-clause-exactly : goal.returns-else-power-le52-clause-exactly
returns-else-power-le52-clause-exactly c =
    let t = is_top c.args.ms c.args.power (omega arith) c.requires.least c.requires.most in
    rw (t.0, t.1) (omega arith)
