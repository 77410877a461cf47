-- A numeral and its number, both ways, of any size.
use Rattle.std.proofs.Common.{◌≡◌, ◌≢◌, ◌==◌, ℕ, ◌+◌, ◌-◌, ◌*◌, ◌/◌, ◌%◌, ◌<◌, ◌≤◌, ◌^◌, zero, suc, ℤ, pos, negsuc, List, [], ◌∷◌, ◌++◌, Bool, true, false, cond, Option, Some, None, refl, sym, ◌∙◌, ap, subst, arith, get_or}
use Rattle.std.specs.Prelude.{codes, map}
use Rattle.std.specs.Char.{is_ascii_digit}
use Rattle.std.specs.Int.Digits.{digits_of, number_from_digits, number_from_digits_after, AllBelowBase}
use Rattle.std.specs.Fmt.{decimal, signed_decimal, digits}
use Rattle.std.proofs.lemmas.Fmt.{decimal-digits_of}
use Rattle.std.proofs.lemmas.Int.Digits.{digits_of_step, all_below_base_digits_of, first_digits_of, number_digits_of}
use Rattle.std.proofs.lemmas.Bool.Decides.{nat_tests}
use Rattle.std.proofs.lemmas.List.{append_assoc, append-nil, map-append}
use Rattle.scenario.specs.Faults.{fits_value}
use Rattle.scenario.specs.Words.{◌>>=◌, numeral, signed_numeral, digits_from, zero_alone, number_of, number_by, read_by, integer_by, below_zero}

abbrev pub plain : ℕ → ℕ
plain n = n

glyph_digit : (d : ℕ) → d < 10 → is_ascii_digit (48 + d) ≡ true
glyph_digit d h = grind (arith, nat_tests)

is_digit : (c : ℕ) → is_ascii_digit c ≡ true → (48 ≤ c) × (c ≤ 57)
is_digit c h = (grind (arith, nat_tests), grind (arith, nat_tests))

-- digits are read as their number
digits_step : (m d : ℕ) (b : Bool) (rest : List ℕ) (o : Option ℕ) → b ≡ true → digits_from (m * 10 + d) rest ≡ o
    → cond b (digits_from (m * 10 + (48 + d - 48)) rest) None ≡ o
digits_step m d true rest o e h = let k : 48 + d - 48 ≡ d = omega arith in ap (λ x. digits_from (m * 10 + x) rest) k ∙ h
digits_step m d false rest o e h = absurd cc

digits_read : (m : ℕ) (ds : List ℕ) → AllBelowBase 10 ds → digits_from m (map (λ digit. 48 + digit) ds) ≡ Some (number_from_digits_after 10 m ds)
digits_read m [] h = refl
digits_read m (d ∷ ds) h = digits_step m d (is_ascii_digit (48 + d)) (map (λ digit. 48 + digit) ds) _ (glyph_digit d h.0) (digits_read (m * 10 + d) ds h.1)

first_not_zero : (d : ℕ) → 0 < d → ((48 + d) == 48) ≡ false
first_not_zero d h = grind (arith, nat_tests)

number_of_digits : (ds : List ℕ) → AllBelowBase 10 ds → 0 < get_or ds 0 0 → number_of (map (λ digit. 48 + digit) ds) ≡ Some (number_from_digits 10 ds)
number_of_digits [] h first = absurd (omega arith)
number_of_digits (d ∷ ds) h first =
    ap (λ b. cond b (zero_alone (map (λ digit. 48 + digit) ds)) (digits_from 0 (map (λ digit. 48 + digit) (d ∷ ds)))) (first_not_zero d first)
    ∙ digits_read 0 (d ∷ ds) h

numeral_case : (n : ℕ) (b : Bool) → (n == 0) ≡ b → number_of (cond b (codes "0") (map (λ digit. 48 + digit) (digits_of 10 n))) ≡ Some n
numeral_case n true e = let z : n ≡ 0 = grind (arith, nat_tests) in ap Some (sym z)
numeral_case n false e =
    let above : 0 < n = grind (arith, nat_tests) in
    number_of_digits (digits_of 10 n) (all_below_base_digits_of 10 n (omega arith)) (first_digits_of 10 n (omega arith) above)
    ∙ ap Some (number_digits_of 10 n (omega arith))

-- a numeral is read as its number
pub number_of-numeral : (n : ℕ) → number_of (numeral n) ≡ Some n
number_of-numeral n = numeral_case n (n == 0) refl

-- what goes on with digits: the number is not 0, and its digits are those before and these
record MoreDigits (m n : ℕ) (cs : List ℕ) : Type 0 where
  above : 0 < n
  digits : map (λ digit. 48 + digit) (digits_of 10 n) ≡ map (λ digit. 48 + digit) (digits_of 10 m) ++ cs

one_more : (m d : ℕ) → 0 < m → d < 10 → digits_of 10 (m * 10 + d) ≡ digits_of 10 m ++ d ∷ []
one_more m d above small =
    let q : (m * 10 + d) / 10 ≡ m = omega arith in
    let r : (m * 10 + d) % 10 ≡ d = omega arith in
    digits_of_step 10 (m * 10 + d) (omega arith) (omega arith)
    ∙ ap (λ k. digits_of 10 k ++ ((m * 10 + d) % 10 ∷ [])) q ∙ ap (λ k. digits_of 10 m ++ k ∷ []) r

goes_case : (m n c : ℕ) (cs : List ℕ) (b : Bool) → 0 < m → is_ascii_digit c ≡ b → cond b (digits_from (m * 10 + (c - 48)) cs) None ≡ Some n
    → (0 < m * 10 + (c - 48) → digits_from (m * 10 + (c - 48)) cs ≡ Some n → MoreDigits (m * 10 + (c - 48)) n cs) → MoreDigits m n (c ∷ cs)
goes_case m n c cs true above e h more =
    let r = is_digit c e in
    let next = more (omega arith) h in
    let same : 48 + (c - 48) ≡ c = omega arith in
    let d = ap (map (λ digit. 48 + digit)) (one_more m (c - 48) above (omega arith)) ∙ map-append (λ digit. 48 + digit) (digits_of 10 m) ((c - 48) ∷ []) in
    record {
      above = next.above;
      digits = next.digits ∙ ap (λ front. front ++ cs) d ∙ ap (λ k. map (λ digit. 48 + digit) (digits_of 10 m) ++ k ∷ [] ++ cs) same
          ∙ append_assoc (map (λ digit. 48 + digit) (digits_of 10 m)) (c ∷ []) cs;
    }
goes_case m n c cs false above e h more = absurd cc

goes_on : (m n : ℕ) (cs : List ℕ) → 0 < m → digits_from m cs ≡ Some n → MoreDigits m n cs
goes_on m n [] above h =
    let e : m ≡ n = cc in
    let P : ℕ → Type 0 = λ k. MoreDigits m k [] in
    subst P e (record { above = above; digits = sym (append-nil (map (λ digit. 48 + digit) (digits_of 10 m))) })
goes_on m n (c ∷ cs) above h = goes_case m n c cs (is_ascii_digit c) above refl h (λ a k. goes_on (m * 10 + (c - 48)) n cs a k)

one_digit : (d : ℕ) → 0 < d → d < 10 → digits_of 10 d ≡ d ∷ []
one_digit d above small =
    let q : d / 10 ≡ 0 = omega arith in
    let r : d % 10 ≡ d = omega arith in
    digits_of_step 10 d (omega arith) above ∙ ap (λ k. digits_of 10 k ++ (d % 10 ∷ [])) q ∙ ap (λ k. k ∷ []) r

positive_numeral : (n : ℕ) → 0 < n → numeral n ≡ map (λ digit. 48 + digit) (digits_of 10 n)
positive_numeral n above =
    let e : (n == 0) ≡ false = grind (arith, nat_tests) in
    ap (λ b. cond b (codes "0") (map (λ digit. 48 + digit) (digits_of 10 n))) e

first_digit : (n c : ℕ) (cs : List ℕ) (b : Bool) → is_ascii_digit c ≡ b → c ≢ 48 → cond b (digits_from (0 * 10 + (c - 48)) cs) None ≡ Some n → numeral n ≡ c ∷ cs
first_digit n c cs true e not_zero h =
    let r = is_digit c e in
    let z : 0 * 10 + (c - 48) ≡ c - 48 = omega arith in
    let above : 0 < c - 48 = omega arith in
    let on = goes_on (c - 48) n cs above (ap (λ k. digits_from k cs) (sym z) ∙ h) in
    let same : 48 + (c - 48) ≡ c = omega arith in
    positive_numeral n on.above ∙ on.digits
    ∙ ap (λ front. map (λ digit. 48 + digit) front ++ cs) (one_digit (c - 48) above (omega arith))
    ∙ ap (λ k. k ∷ cs) same
first_digit n c cs false e not_zero h = absurd cc

numeral_of_zero : (n c : ℕ) (cs : List ℕ) → c ≡ 48 → zero_alone cs ≡ Some n → numeral n ≡ c ∷ cs
numeral_of_zero n c [] e h =
    let z : 0 ≡ n = cc in ap numeral (sym z) ∙ ap (λ k. k ∷ []) (sym e)
numeral_of_zero n c (d ∷ ds) e h = absurd cc

numeral_first : (n c : ℕ) (cs : List ℕ) (b : Bool) → (c == 48) ≡ b → cond b (zero_alone cs) (digits_from 0 (c ∷ cs)) ≡ Some n → numeral n ≡ c ∷ cs
numeral_first n c cs true e h = numeral_of_zero n c cs (grind (arith, nat_tests)) h
numeral_first n c cs false e h = first_digit n c cs (is_ascii_digit c) refl (grind (arith, nat_tests)) h

-- what is read as a number is its numeral
pub numeral-number_of : (word : List ℕ) (n : ℕ) → number_of word ≡ Some n → numeral n ≡ word
numeral-number_of [] n h = absurd cc
numeral-number_of (c ∷ cs) n h = numeral_first n c cs (c == 48) refl h

-- a numeral has digits alone
abbrev pub AreDigits : List ℕ → Type 0
AreDigits [] = Unit {0}
AreDigits (c ∷ cs) = (48 ≤ c) × (c ≤ 57) × AreDigits cs

glyphs : (ds : List ℕ) → AllBelowBase 10 ds → AreDigits (map (λ digit. 48 + digit) ds)
glyphs [] h = tt
glyphs (d ∷ ds) h = (omega arith, let l : d < 10 = h.0 in omega arith, glyphs ds h.1)

numeral_digits_case : (n : ℕ) (b : Bool) → AreDigits (cond b (codes "0") (map (λ digit. 48 + digit) (digits_of 10 n)))
numeral_digits_case n true = (omega arith, omega arith, tt)
numeral_digits_case n false = glyphs (digits_of 10 n) (all_below_base_digits_of 10 n (omega arith))

pub numeral_digits : (n : ℕ) → AreDigits (numeral n)
numeral_digits n = numeral_digits_case n (n == 0)

zero_decimal : codes "0" ≡ decimal 0
unfolding digits
zero_decimal = refl

-- below 2^64 a numeral is what is printed
decimal_case : (n : ℕ) (b : Bool) → n < 2 ^ 64 → (n == 0) ≡ b → cond b (codes "0") (map (λ digit. 48 + digit) (digits_of 10 n)) ≡ decimal n
decimal_case n true small e = let z : 0 ≡ n = grind (arith, nat_tests) in zero_decimal ∙ ap decimal z
decimal_case n false small e = let above : 0 < n = grind (arith, nat_tests) in sym (decimal-digits_of n above small)

pub numeral-decimal : (n : ℕ) → n < 2 ^ 64 → numeral n ≡ decimal n
numeral-decimal n small = decimal_case n (n == 0) small refl

-- the same with a sign
number_by-plain : (word : List ℕ) (n : ℕ) → number_by plain word ≡ Some n → number_of word ≡ Some n
number_by-plain word n h = read_plain (number_of word) n h
  where
    read_plain : (o : Option ℕ) (n : ℕ) → read_by plain o ≡ Some n → o ≡ Some n
    read_plain None n h = absurd cc
    read_plain (Some m) n h = h

pub number_by-numeral : (n : ℕ) → number_by plain (numeral n) ≡ Some n
number_by-numeral n = ap (read_by plain) (number_of-numeral n)

pub numeral-number_by : (word : List ℕ) (n : ℕ) → number_by plain word ≡ Some n → numeral n ≡ word
numeral-number_by word n h = numeral-number_of word n (number_by-plain word n h)

first_no_minus : (word : List ℕ) (n : ℕ) → AreDigits word → number_by plain word ≡ Some n → integer_by plain word ≡ Some (pos n)
first_no_minus [] n d h = absurd (none h)
  where
    none : ◌≡◌ {A = Option ℕ} None (Some n) → ⊥
    none q = cc
first_no_minus (c ∷ cs) n d h =
    let low : 48 ≤ c = d.0 in
    let e : (c == 45) ≡ false = grind (arith, nat_tests) in
    ap (λ b. cond b (number_by plain cs >>= below_zero) (number_by plain (c ∷ cs) >>= λ number. Some (pos number))) e
    ∙ ap (λ o. o >>= λ number. Some (pos number)) h

pub integer_by-numeral : (z : ℤ) → integer_by plain (signed_numeral z) ≡ Some z
integer_by-numeral (pos n) = first_no_minus (numeral n) n (numeral_digits n) (number_by-numeral n)
integer_by-numeral (negsuc n) = ap (λ o. o >>= below_zero) (number_by-numeral (suc n))

below_some : (o : Option ℕ) (z : ℤ) → (o >>= below_zero) ≡ Some z → (n : ℕ) × (o ≡ Some (suc n)) × (negsuc n ≡ z)
below_some None z h = absurd cc
below_some (Some zero) z h = absurd cc
below_some (Some (suc n)) z h = (n, refl, cc)

above_some : (o : Option ℕ) (z : ℤ) → (o >>= λ number. Some (pos number)) ≡ Some z → (n : ℕ) × (o ≡ Some n) × (pos n ≡ z)
above_some None z h = absurd cc
above_some (Some n) z h = (n, refl, cc)

signed_case : (c : ℕ) (cs : List ℕ) (z : ℤ) (b : Bool) → (c == 45) ≡ b
    → cond b (number_by plain cs >>= below_zero) (number_by plain (c ∷ cs) >>= λ number. Some (pos number)) ≡ Some z → signed_numeral z ≡ c ∷ cs
signed_case c cs z true e h =
    let s = below_some (number_by plain cs) z h in
    let minus : 45 ≡ c = grind (arith, nat_tests) in
    ap signed_numeral (sym s.2) ∙ ap (λ w. 45 ∷ w) (numeral-number_by cs (suc s.0) s.1) ∙ ap (λ k. k ∷ cs) minus
signed_case c cs z false e h =
    let s = above_some (number_by plain (c ∷ cs)) z h in
    ap signed_numeral (sym s.2) ∙ numeral-number_by (c ∷ cs) s.0 s.1

pub numeral-integer_by : (word : List ℕ) (z : ℤ) → integer_by plain word ≡ Some z → signed_numeral z ≡ word
numeral-integer_by [] z h = absurd cc
numeral-integer_by (c ∷ cs) z h = signed_case c cs z (c == 45) refl h

pub signed_numeral-decimal : (z : ℤ) → fits_value z ≡ true → signed_numeral z ≡ signed_decimal z
signed_numeral-decimal (pos n) h = numeral-decimal n (grind (arith, nat_tests))
signed_numeral-decimal (negsuc n) h = ap (λ w. 45 ∷ w) (numeral-decimal (suc n) (grind (arith, nat_tests)))
