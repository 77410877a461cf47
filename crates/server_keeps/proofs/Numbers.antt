-- Numbers that their types hold.
use Rattle.std.proofs.Common.{◌≡◌, ℕ, ℤ, pos, ◌+ℤ◌, ◌+◌, ◌-◌, ◌^◌, ◌<◌, ◌==◌, Bool, true, false, cond, FitsSigned, refl, arith}
use Rattle.std.proofs.lemmas.Bool.Decides.{nat_tests}
use Rattle.std.proofs.lemmas.Int.{ints}
use Rattle.std.specs.Int.{w64, int_min}
use Rattle.ua_base.specs.Number.{after_message}

pub time_fits : (start : ℤ) (steps : ℕ) → FitsSigned w64 start → FitsSigned w64 (int_min (start +ℤ pos steps) (pos (2 ^ 63 - 1)))
time_fits start steps h = grind (arith, ints)

pub next_fits : (n : ℕ) → n < 2 ^ 32 → after_message n < 2 ^ 32
next_fits n h = by_end (n == 2 ^ 32 - 1) refl
  where
    by_end : (b : Bool) → (n == 2 ^ 32 - 1) ≡ b → cond b 1 (n + 1) < 2 ^ 32
    by_end true test = omega arith
    by_end false test = grind (arith, nat_tests)
