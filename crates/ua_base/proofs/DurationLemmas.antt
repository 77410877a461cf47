-- Powers of two in the parts of a Double.
use Rattle.std.proofs.Common.{◌≡◌, ◌≢◌, ℕ, zero, suc, pos, ◌+◌, ◌-◌, ◌*◌, ◌/◌, ◌^◌, ◌<◌, ◌≤◌, true, false, ltb, eqb, refl, sym, ap, ◌∙◌, arith, inl, inr}
use Rattle.std.specs.Prelude.{min}
use Rattle.std.proofs.lemmas.Bool.{cases_lt, lt-ltb, le-ltb}
use Rattle.std.proofs.lemmas.Bool.Decides.{nat_tests}
use Rattle.std.proofs.lemmas.Nat.{pow-add, pow_pos}
use Rattle.std.proofs.Math.Nat.{mul-le-mul_left, mul-le-mul_right, mul-div_cancel, mul-lt-mul_of_pos_right, mul_assoc, div-eq_of_lt, div-le_self}
use Rattle.std.proofs.Math.Pow.{pow_mono}
use Rattle.ua_base.specs.Duration.{exponent_of, fraction_of, scaled, size_of, ms_of, IsExactly, IsNormal, IsBitsOf}

-- where a one stands before the fraction
normal_size : (e f w : ℕ) → zero < e → e < 2047 → scaled (2 ^ 52 + f) e ≡ w → size_of e f ≡ min w (2 ^ 53)
normal_size e f w low high h =
    let a : eqb e 2047 ≡ false = grind (arith, nat_tests) in
    let b : eqb e 0 ≡ false = grind (arith, nat_tests) in
    rw (a, b) (ap (λ (x : ℕ). min x (2 ^ 53)) h)

-- at least two to the power 53
pub far_beyond : (e f : ℕ) → 1075 < e → e < 2 ^ 11 → e ≢ 2047 → size_of e f ≡ 9007199254740992
far_beyond e f low high other =
    let test : ltb e 1075 ≡ false = grind (arith, nat_tests) in
    let two : 2 ^ 1 ≤ 2 ^ (e - 1075) = pow_mono {i = 1} {j = e - 1075} (omega arith) in
    let big = mul-le-mul_left (2 ^ 52 + f) two in
    let is : scaled (2 ^ 52 + f) e ≡ (2 ^ 52 + f) * 2 ^ (e - 1075) = rw test refl in
    normal_size e f _ (omega arith) (omega arith) is ∙ omega (arith, big)

-- fewer bits than are shifted away
gone : (s k : ℕ) → s < 2 ^ 53 → 53 ≤ k → s / 2 ^ k ≡ 0
gone s k small far =
    let more : 2 ^ 53 ≤ 2 ^ k = pow_mono {i = 53} {j = k} far in
    let less : s < 2 ^ k = omega arith in
    div-eq_of_lt {n = s} {m = 2 ^ k} less

-- below one
pub far_below : (e f : ℕ) → e < 1023 → f < 2 ^ 52 → size_of e f ≡ 0
far_below zero f low fits =
    let none : f / 2 ^ 1075 ≡ 0 = gone f 1075 (omega arith) (omega arith) in
    ap (λ (x : ℕ). min x (2 ^ 53)) none
far_below (suc e) f low fits =
    let test : ltb (suc e) 1075 ≡ true = grind (arith, nat_tests) in
    let none : (2 ^ 52 + f) / 2 ^ (1075 - suc e) ≡ 0 = gone (2 ^ 52 + f) (1075 - suc e) (omega arith) (omega arith) in
    normal_size (suc e) f 0 (omega arith) (omega arith) (rw test none)

-- 2 to the power 0
at_ones : (s e : ℕ) → e ≡ 1075 → s * 2 ^ (e - 1075) ≡ s / 2 ^ (1075 - e)
at_ones s e is = rw is (omega arith)

scaled_down : (s e : ℕ) → e ≤ 1075 → scaled s e ≡ s / 2 ^ (1075 - e)
scaled_down s e le = elim (cases_lt e 1075) [
  | inl lt ↦ rw (lt-ltb e 1075 lt) refl
  | inr ge ↦ rw (le-ltb e 1075 ge) (at_ones s e (omega arith))
]

pub shifted_whole : (e f : ℕ) → 1023 ≤ e → e ≤ 1075 → f < 2 ^ 52 → size_of e f ≡ (2 ^ 52 + f) / 2 ^ (1075 - e)
shifted_whole e f low high fits =
    let at : scaled (2 ^ 52 + f) e ≡ (2 ^ 52 + f) / 2 ^ (1075 - e) = scaled_down (2 ^ 52 + f) e high in
    let most : (2 ^ 52 + f) / 2 ^ (1075 - e) ≤ 2 ^ 52 + f = div-le_self (2 ^ 52 + f) (2 ^ (1075 - e)) in
    normal_size e f _ (omega arith) (omega arith) at ∙ omega arith

scaled_exactly : (n s e : ℕ) → IsExactly n s e → e < 2047 → n ≤ 2 ^ 53 → scaled s e ≡ n
scaled_exactly n s e is finite most = elim (cases_lt e 1075) [
  | inl lt ↦
      let z : e - 1075 ≡ 0 = omega arith in
      let one : s * 2 ^ (e - 1075) ≡ s = rw z (omega arith) in
      let is_times : s ≡ n * 2 ^ (1075 - e) = sym one ∙ is in
      rw (lt-ltb e 1075 lt, is_times) (mul-div_cancel n {n = 2 ^ (1075 - e)} (pow_pos (1075 - e)))
  | inr ge ↦
      let z : 1075 - e ≡ 0 = omega arith in
      let one : n * 2 ^ (1075 - e) ≡ n = rw z (omega arith) in
      rw (le-ltb e 1075 ge) (is ∙ one)
]

normal_again : (n bits : ℕ) → n ≤ 2 ^ 53 → IsNormal n bits → ms_of bits ≡ pos n
normal_again n bits most is =
    let at : scaled (2 ^ 52 + fraction_of bits) (exponent_of bits) ≡ n = scaled_exactly n (2 ^ 52 + fraction_of bits) (exponent_of bits) is.exactly is.finite most in
    let size : size_of (exponent_of bits) (fraction_of bits) ≡ min n (2 ^ 53) = normal_size (exponent_of bits) (fraction_of bits) n is.normal is.finite at in
    let sign = is.sign in
    rw (sign, size) (ap pos (omega arith))

pub again : (ms bits : ℕ) → ms ≤ 2 ^ 53 → IsBitsOf ms bits → ms_of bits ≡ pos ms
again zero bits most is = rw is refl
again (suc n) bits most is = normal_again (suc n) bits most is

-- the parts of the bits that are put together
pub parts : (n power s : ℕ) → zero < n → n ≤ 2 ^ 53 → power ≤ 53 → 2 ^ 52 ≤ s → s < 2 ^ 53 → s * 2 ^ (power - 52) ≡ n * 2 ^ (52 - power)
    → IsBitsOf n ((1023 + power) * 2 ^ 52 + (s - 2 ^ 52))
parts zero power s some most p low high is = absurd (omega arith)
parts (suc n) power s some most p low high is =
    let exponent : exponent_of ((1023 + power) * 2 ^ 52 + (s - 2 ^ 52)) ≡ 1023 + power = omega arith in
    let fraction : 2 ^ 52 + fraction_of ((1023 + power) * 2 ^ 52 + (s - 2 ^ 52)) ≡ s = omega arith in
    let up : 1023 + power - 1075 ≡ power - 52 = omega arith in
    let down : 1075 - (1023 + power) ≡ 52 - power = omega arith in
    record {
      sign = omega arith;
      normal = omega arith;
      finite = omega arith;
      exactly = rw (fraction, exponent, up, down) is;
    }

-- the highest bit stands at place 52
pub shifted : (n power : ℕ) → power ≤ 52 → 2 ^ power ≤ n → n < 2 * 2 ^ power → (2 ^ 52 ≤ n * 2 ^ (52 - power)) × (n * 2 ^ (52 - power) < 2 ^ 53)
shifted n power le least next =
    let whole : power + (52 - power) ≡ 52 = omega arith in
    let sum : 2 ^ power * 2 ^ (52 - power) ≡ 2 ^ 52 = sym (pow-add 2 power (52 - power)) ∙ ap (λ (k : ℕ). 2 ^ k) whole in
    let low = mul-le-mul_right {m = 2 ^ power} {n = n} (2 ^ (52 - power)) least in
    let high = mul-lt-mul_of_pos_right {m = n} {n = 2 * 2 ^ power} {k = 2 ^ (52 - power)} next (pow_pos (52 - power)) in
    let twice : 2 * 2 ^ power * 2 ^ (52 - power) ≡ 2 * (2 ^ power * 2 ^ (52 - power)) = mul_assoc 2 (2 ^ power) (2 ^ (52 - power)) in
    (omega arith, omega arith)

-- only the bound itself has more bits
pub is_top : (n power : ℕ) → 52 < power → 2 ^ power ≤ n → n ≤ 2 ^ 53 → (power ≡ 53) × (n ≡ 2 ^ 53)
is_top n power more least most =
    let here : 2 ^ 53 ≤ 2 ^ power = pow_mono {i = 53} {j = power} (omega arith) in
    elim (cases_lt 53 power) [
      | inl past ↦
          let far : 2 ^ 54 ≤ 2 ^ power = pow_mono {i = 54} {j = power} past in
          absurd (omega arith)
      | inr le ↦ (omega arith, omega arith)
    ]
