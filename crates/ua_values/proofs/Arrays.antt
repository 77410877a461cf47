-- An array's reader reads its grammar, whatever its elements are.
use Rattle.std.proofs.Common.{◌≡◌, ℕ, zero, suc, ◌^◌, ◌≤◌, ◌<◌, Bool, true, false, cond, ltb, leb, List, [], ◌∷◌, ◌++◌, length, Result, Ok, Err, refl, sym, ap, subst, ◌∙◌, arith, inl, inr, ◌⊎◌}
use Rattle.std.proofs.lemmas.Bool.Decides.{nat_tests}
use Rattle.std.proofs.lemmas.List.{append-nil}
use Rattle.byteorder.specs.Endian.{little_number}
use Rattle.ua_base.specs.Status.{bad_encoding_limits_exceeded}
use Rattle.ua_values.specs.Limits.{most_items}
use Rattle.ua_values.specs.Reading.{Reader, give, field_at}
use Rattle.ua_values.specs.Parts.{number, Chained, elements, array_within, array, IsRefused}
use Rattle.ua_values.specs.Codec.{IsCodec}
use Rattle.ua_values.specs.Readers.{count_of, elements_at, array_within_at, array_at}
use Rattle.ua_values.proofs.Chain.{same, chain}
use Rattle.ua_values.proofs.Leaves.{given, give_codec, field, Completed, IsField, field_codec}
use Rattle.ua_values.proofs.Fields.{MadeOf, made_of}

-- so many elements
abbrev pub Elements : {A : Type 0} → (A → List ℕ → Type 0) → ℕ → List A → List ℕ → Type 0
Elements S n items bytes = (length items ≡ n) × elements S items bytes

pub some_to : {A : Type 0} (S : A → List ℕ → Type 0) (n : ℕ) (items : List A) (bytes : List ℕ) → MadeOf S (Elements S n) ◌∷◌ items bytes → Elements S (suc n) items bytes
some_to {A = A} S n items bytes m = subst (λ (l : List A). Elements S (suc n) l bytes) (sym m.2) (ap suc m.3.second.0, record { front = m.3.front; back = m.3.back; first = m.3.first; second = m.3.second.1; whole = m.3.whole })

pub some_from : {A : Type 0} (S : A → List ℕ → Type 0) (n : ℕ) (items : List A) (bytes : List ℕ) → Elements S (suc n) items bytes → MadeOf S (Elements S n) ◌∷◌ items bytes
some_from S n [] bytes e = absurd (omega (arith, e.0))
some_from S n (a ∷ more) bytes e = (a, more, refl, record { front = e.1.front; back = e.1.back; first = e.1.first; second = (omega (arith, e.0), e.1.second); whole = e.1.whole })

pub none_from : {A : Type 0} (S : A → List ℕ → Type 0) (items : List A) (bytes : List ℕ) → Elements S 0 items bytes → given [] items bytes
none_from S [] bytes e = (refl, e.1)
none_from S (a ∷ more) bytes e = absurd (omega (arith, e.0))

pub elements_codec : {A : Type 0} (S : A → List ℕ → Type 0) (at : Reader A) (n : ℕ) → IsCodec S at → IsCodec (Elements S n) (elements_at n at)
elements_codec {A = A} S at zero codec = same (given []) (Elements S 0) (give []) (λ items bytes g. subst (λ (l : List A). Elements S 0 l bytes) (sym g.0) (refl, g.1)) (none_from S) (give_codec [])
elements_codec S at (suc n) codec =
    same (MadeOf S (Elements S n) ◌∷◌) (Elements S (suc n)) (elements_at (suc n) at) (some_to S n) (some_from S n)
    (made_of S at (Elements S n) (elements_at n at) ◌∷◌ codec (elements_codec S at n codec))

-- ---- the length

abbrev pub judged_count : Bool → Bool → ℕ → Result ℕ ℕ
judged_count b c n = cond b (Ok 0) (cond c (Err bad_encoding_limits_exceeded) (Ok n))

-- a negative number, or the count
abbrev pub CountSays : ℕ → ℕ → ℕ → Type 0
CountSays most n k = ((k ≡ 0) × (2 ^ 31 ≤ n)) ⊎ ((n ≡ k) × (k ≤ most))

pub count_says : (b c : Bool) (most n k : ℕ) → leb (2 ^ 31) n ≡ b → ltb most n ≡ c → judged_count b c n ≡ Ok k → CountSays most n k
count_says true c most n k p q e = let none : k ≡ 0 = cc in let le : 2 ^ 31 ≤ n = grind (arith, nat_tests) in inl (none, le)
count_says false true most n k p q e = absurd cc
count_says false false most n k p q e =
    let is : n ≡ k = cc in
    let within : n ≤ most = grind (arith, nat_tests) in
    inr (is, omega arith)

count_refuses : (b c : Bool) (n code : ℕ) → judged_count b c n ≡ Err code → IsRefused code 4
count_refuses true c n code e = absurd cc
count_refuses false true n code e = let is : code ≡ bad_encoding_limits_exceeded = cc in inr (inl (is, refl))
count_refuses false false n code e = absurd cc

count_none : (most n : ℕ) → 2 ^ 31 ≤ n → count_of most n ≡ Ok 0
count_none most n le = let test : leb (2 ^ 31) n ≡ true = grind (arith, nat_tests) in rw test refl

count_some : (most n : ℕ) → most < 2 ^ 31 → n ≤ most → count_of most n ≡ Ok n
count_some most n small le =
    let negative : leb (2 ^ 31) n ≡ false = grind (arith, nat_tests) in
    let large : ltb most n ≡ false = grind (arith, nat_tests) in
    rw (negative, large) refl

cut_count : (most : ℕ) (front : List ℕ) → length front < 4 → Completed 4 (count_of most) front
cut_count most [] lt = record { more = 255 ∷ 255 ∷ 255 ∷ 255 ∷ []; long = refl; value = 0; means = refl }
cut_count most (a ∷ []) lt = record { more = 255 ∷ 255 ∷ 255 ∷ []; long = refl; value = 0; means = count_none most (little_number 4 (a ∷ 255 ∷ 255 ∷ 255 ∷ [])) (omega arith) }
cut_count most (a ∷ b ∷ []) lt = record { more = 255 ∷ 255 ∷ []; long = refl; value = 0; means = count_none most (little_number 4 (a ∷ b ∷ 255 ∷ 255 ∷ [])) (omega arith) }
cut_count most (a ∷ b ∷ c ∷ []) lt = record { more = 255 ∷ []; long = refl; value = 0; means = count_none most (little_number 4 (a ∷ b ∷ c ∷ 255 ∷ [])) (omega arith) }
cut_count most (a ∷ b ∷ c ∷ d ∷ more) lt = absurd (omega arith)

pub count_field : (most : ℕ) → IsField 4 (count_of most)
count_field most = record { some = omega arith; completes = cut_count most; refuses = λ n code e. count_refuses (leb (2 ^ 31) n) (ltb most n) n code e }

-- ---- the array

array_to : {A : Type 0} (most : ℕ) (S : A → List ℕ → Type 0) (items : List A) (k n : ℕ) (bytes front back : List ℕ) → CountSays most n k → number 4 n front → Elements S k items back → bytes ≡ front ++ back → array_within most S items bytes
array_to {A = A} most S [] k n bytes front back (inl none) is rest whole = inl (refl, n, none.1, subst (number 4 n) (sym (whole ∙ ap (λ (l : List ℕ). front ++ l) rest.1 ∙ append-nil front)) is)
array_to most S (a ∷ more) k n bytes front back (inl none) is rest whole = absurd (omega (arith, rest.0, none.0))
array_to most S items k n bytes front back (inr some) is rest whole =
    inr (omega (arith, some.1, rest.0), record { front = front; back = back; first = subst (λ (m : ℕ). number 4 m front) (some.0 ∙ sym rest.0) is; second = rest.1; whole = whole })

pub array_from : {A : Type 0} (most : ℕ) → most < 2 ^ 31 → (S : A → List ℕ → Type 0) (items : List A) (bytes : List ℕ) → array_within most S items bytes → Chained (field 4 (count_of most)) (Elements S) items bytes
array_from {A = A} most small S items bytes (inl a) = record {
  value = 0;
  parts = record { front = bytes; back = []; first = (a.1, count_none most a.1 a.2, a.3); second = subst (λ (l : List A). Elements S 0 l []) (sym a.0) (refl, refl); whole = sym (append-nil bytes) };
}
array_from most small S items bytes (inr a) = record {
  value = length items;
  parts = record { front = a.1.front; back = a.1.back; first = (length items, count_some most (length items) small a.0, a.1.first); second = (refl, a.1.second); whole = a.1.whole };
}

pub array_of_chained : {A : Type 0} (most : ℕ) (S : A → List ℕ → Type 0) (items : List A) (bytes : List ℕ) → Chained (field 4 (count_of most)) (Elements S) items bytes → array_within most S items bytes
array_of_chained most S items bytes c =
    array_to most S items c.value c.parts.first.0 bytes c.parts.front c.parts.back (count_says _ _ most c.parts.first.0 c.value refl refl c.parts.first.1) c.parts.first.2 c.parts.second c.parts.whole

pub array_within_codec : {A : Type 0} (most : ℕ) → most < 2 ^ 31 → (S : A → List ℕ → Type 0) (at : Reader A) → IsCodec S at → IsCodec (array_within most S) (array_within_at most at)
array_within_codec most small S at codec = same (Chained (field 4 (count_of most)) (Elements S)) (array_within most S) (array_within_at most at)
    (array_of_chained most S)
    (array_from most small S)
    (chain (field 4 (count_of most)) (field_at 4 (count_of most)) (Elements S) (λ n. elements_at n at) (field_codec 4 (count_of most) (count_field most)) (λ n. elements_codec S at n codec))

pub array_codec : {A : Type 0} (S : A → List ℕ → Type 0) (at : Reader A) → IsCodec S at → IsCodec (array S) (array_at at)
array_codec S at codec = array_within_codec most_items (omega arith) S at codec
