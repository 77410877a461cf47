-- A whole number is a Double.
use Rattle.std.proofs.Common.{◌≡◌, ℕ, zero, suc, pos, Bool, true, false, not, cond, ltb, T}
use Rattle.std.specs.Float.Ieee.{Format, Float, binary64, is_nan, odd, of_int, round, units, inf, prec, low}

odd_is_number : (d : ℕ) (s : Bool) (q k l : ℕ) → T (not (is_nan (odd d s q k l)))
unfolding odd is_nan
odd_is_number d s zero k l = tt
odd_is_number d s (suc q) k l = tt

chosen_is_number : (b s : Bool) (x : Float) → T (not (is_nan x)) → T (not (is_nan (cond b x (inf s))))
unfolding is_nan
chosen_is_number true s x is = is
chosen_is_number false s x is = tt

units_is_number : (f : Format) (s : Bool) (q k : ℕ) → T (not (is_nan (units f s q k)))
unfolding units
units_is_number f s q k = chosen_is_number _ s _ (odd_is_number (suc (prec f)) s q k (low f))

pub whole_is_number : (n : ℕ) → T (not (is_nan (of_int binary64 (pos n))))
unfolding of_int round
whole_is_number n = units_is_number binary64 false _ _
