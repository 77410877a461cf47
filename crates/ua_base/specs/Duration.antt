-- What the 64 bits of a Double say: a sign, an exponent and a fraction.
use Rattle.std.specs.Prelude.{◌≡◌, ◌<◌, ℕ, zero, suc, ℤ, pos, negsuc, ◌+◌, ◌-◌, ◌*◌, ◌/◌, ◌%◌, ◌^◌, ◌==◌, nat_lt, min, if◌then◌else◌}

abbrev pub sign_of : ℕ → ℕ
sign_of bits = bits / 2 ^ 63

abbrev pub exponent_of : ℕ → ℕ
exponent_of bits = bits / 2 ^ 52 % 2 ^ 11

abbrev pub fraction_of : ℕ → ℕ
fraction_of bits = bits % 2 ^ 52

-- an exponent of 0 says that no one stands before the fraction
abbrev pub significand : ℕ → ℕ → ℕ
significand exponent fraction = if exponent == 0 then fraction else 2 ^ 52 + fraction

-- the significand times 2 to the power exponent - 1075, truncated
abbrev pub scaled : ℕ → ℕ → ℕ
scaled significand exponent =
    if nat_lt exponent 1075 then significand / 2 ^ (1075 - exponent) else significand * 2 ^ (exponent - 1075)

-- without the sign; the exponent 2047 says infinity, or no number where there is a fraction
abbrev pub size_of : ℕ → ℕ → ℕ
size_of exponent fraction =
    if exponent == 2047 then (if fraction == 0 then 2 ^ 53 else 0)
    else min (scaled (significand exponent fraction) exponent) (2 ^ 53)

abbrev pub negative : ℕ → ℤ
negative zero = pos 0
negative (suc n) = negsuc n

abbrev pub with_sign : ℕ → ℕ → ℤ
with_sign sign size = if sign == 0 then pos size else negative size

-- the whole milliseconds of the Double, truncated towards zero
abbrev pub ms_of : ℕ → ℤ
ms_of bits = with_sign (sign_of bits) (size_of (exponent_of bits) (fraction_of bits))

-- the significand times 2 to the power exponent - 1075 is n, exactly
abbrev pub IsExactly : ℕ → ℕ → ℕ → Type 0
IsExactly n significand exponent =
    significand * 2 ^ (exponent - 1075) ≡ n * 2 ^ (1075 - exponent)

-- a positive Double that is n, with a one before its fraction
pub record IsNormal (n bits : ℕ) : Type 0 where
  pub sign : sign_of bits ≡ 0
  pub normal : zero < exponent_of bits
  pub finite : exponent_of bits < 2047
  pub exactly : IsExactly n (2 ^ 52 + fraction_of bits) (exponent_of bits)

-- the Double is the whole number n
abbrev pub IsBitsOf : ℕ → ℕ → Type 0
IsBitsOf zero bits = bits ≡ 0
IsBitsOf (suc n) bits = IsNormal (suc n) bits
