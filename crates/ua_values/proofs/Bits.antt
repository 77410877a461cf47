-- A bit of a byte, by `&` and by division.
use Rattle.std.proofs.Common.{◌≡◌, ℕ, zero, suc, ◌<◌, ◌*◌, ◌/◌, ◌%◌, ◌^◌, Bool, true, false, not, ◌||◌, eqb, bit_and, refl, sym, ap, subst, ◌∙◌, arith}
use Rattle.std.proofs.lemmas.Bool.{eqb-true}
use Rattle.std.proofs.lemmas.Bool.Decides.{nat_tests}
use Rattle.std.proofs.lemmas.Nat.Bits.{and_pow}
use Rattle.ua_values.specs.Readers.{is_worth, has_bit}

abbrev IsBit : ℕ → ℕ → Type 0
IsBit byte worth = not (eqb (bit_and byte worth) 0) ≡ has_bit worth byte

by_bit : (b worth : ℕ) → 0 < worth → b < 2 → not (eqb (b * worth) 0) ≡ eqb b 1
by_bit zero worth some small = let test : eqb (0 * worth) 0 ≡ true = grind (arith, nat_tests) in rw test refl
by_bit (suc zero) worth some small = let test : eqb (1 * worth) 0 ≡ false = grind (arith, nat_tests) in rw test refl
by_bit (suc (suc b)) worth some small = absurd (omega arith)

one_bit : (byte k : ℕ) → 0 < 2 ^ k → IsBit byte (2 ^ k)
one_bit byte k some = ap (λ (n : ℕ). not (eqb n 0)) (and_pow byte k) ∙ by_bit (byte / 2 ^ k % 2) (2 ^ k) some (omega arith)

met : (byte worth k : ℕ) → 0 < 2 ^ k → eqb worth (2 ^ k) ≡ true → IsBit byte worth
met byte worth k some test = subst (IsBit byte) (sym (eqb-true worth (2 ^ k) test)) (one_bit byte k some)

-- one of the worths, or one before it
met_or : (byte worth k : ℕ) → 0 < 2 ^ k → (others is : Bool) → eqb worth (2 ^ k) ≡ is → (others || is) ≡ true → (others ≡ true → IsBit byte worth) → IsBit byte worth
met_or byte worth k some others true test either rest = met byte worth k some test
met_or byte worth k some true false test either rest = rest refl
met_or byte worth k some false false test either rest = absurd cc

pub and_is_bit : (byte worth : ℕ) → is_worth worth ≡ true → IsBit byte worth
and_is_bit byte worth is =
    met_or byte worth 7 (omega arith) _ (eqb worth 128) refl is
    (λ a. met_or byte worth 6 (omega arith) _ (eqb worth 64) refl a
    (λ b. met_or byte worth 5 (omega arith) _ (eqb worth 32) refl b
    (λ c. met_or byte worth 4 (omega arith) _ (eqb worth 16) refl c
    (λ d. met_or byte worth 3 (omega arith) _ (eqb worth 8) refl d
    (λ e. met_or byte worth 2 (omega arith) _ (eqb worth 4) refl e
    (λ f. met_or byte worth 1 (omega arith) _ (eqb worth 2) refl f
    (λ g. met byte worth 0 (omega arith) g)))))))
