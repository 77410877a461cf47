-- How long what is written is.
use Rattle.std.proofs.Common.{◌≡◌, ℕ, ℤ, zero, suc, ◌+◌, ◌*◌, ◌^◌, ◌≤◌, ◌%◌, List, [], ◌∷◌, ◌++◌, Option, Some, None, map, length, refl, sym, subst, arith}
use Rattle.std.specs.List.{flat_map}
use Rattle.std.specs.Int.{bytes_low_first, cast_unsigned, w64}
use Rattle.std.proofs.lemmas.List.{length-append}
use Rattle.byteorder.specs.Endian.{little_bytes}
use Rattle.ua_values.specs.Written.{written_array, written_signed}
use Rattle.ua_variants.specs.declared.variant.Scalar.TheVariants as scalar
use Rattle.ua_variants.specs.declared.variant.Stamped.{Stamped}
use Rattle.ua_variants.specs.declared.variant.Variant.{Variant}
use Rattle.ua_variants.specs.declared.variant.Variant.TheVariants as variant
use Rattle.ua_variants.specs.Spelling.{mask_of, written_data_value, written_some, written_stamps, written_variant}
use Rattle.ua_variants.proofs.Layers.{written_one}

little_low : (from n x : ℕ) → length (bytes_low_first from n x) ≡ n
little_low from zero x = refl
little_low from (suc n) x = let rest = little_low (suc from) n x in omega (arith, rest)

pub little_long : (n x : ℕ) → length (little_bytes n x) ≡ n
little_long n x = little_low 0 n x

pub joined_long : (one other : List ℕ) (m n : ℕ) → length one ≤ m → length other ≤ n → length (one ++ other) ≤ m + n
joined_long one other m n h k = let all = length-append one other in omega (arith, all, h, k)

pub little_most : (n x : ℕ) → length (little_bytes n x) ≤ n
little_most n x = let long = little_long n x in omega (arith, long)

some_long : {A : Type 0} (written : A → List ℕ) (n : ℕ) (o : Option A) → ((a : A) → length (written a) ≤ n) → length (written_some written o) ≤ n
some_long written n None h = omega arith
some_long written n (Some a) h = h a

signed_long : (z : ℤ) → length (written_signed 8 w64 z) ≤ 8
signed_long z = little_most 8 (cast_unsigned w64 z)

stamps_long : (d : Stamped Variant) → length (written_stamps d) ≤ 24
stamps_long d =
    joined_long _ _ 22 2
    (joined_long _ _ 14 8
    (joined_long _ _ 12 2
    (joined_long _ _ 4 8 (some_long (little_bytes 4) 4 d.status (little_most 4)) (some_long (written_signed 8 w64) 8 d.source_timestamp signed_long))
    (some_long (little_bytes 2) 2 d.source_picoseconds (little_most 2)))
    (some_long (written_signed 8 w64) 8 d.server_timestamp signed_long))
    (some_long (little_bytes 2) 2 d.server_picoseconds (little_most 2))

scalar_long : (z : ℤ) → length (written_variant (variant.Scalar (scalar.Int64 z))) ≤ 9
scalar_long z = subst (λ l. length l ≤ 9) (sym (written_one (scalar.Int64 z))) (let long = signed_long z in omega (arith, long))

-- a number with its times
pub data_long : (z : ℤ) (d : Stamped Variant) → d.value ≡ Some (variant.Scalar (scalar.Int64 z)) → length (written_data_value d) ≤ 34
data_long z d is =
    joined_long (little_bytes 1 (mask_of d) ++ written_some written_variant d.value) (written_stamps d) 10 24
    (joined_long (little_bytes 1 (mask_of d)) (written_some written_variant d.value) 1 9 (little_most 1 (mask_of d))
    (subst (λ o. length (written_some written_variant o) ≤ 9) (sym is) (scalar_long z)))
    (stamps_long d)

-- so many elements, each of so many bytes at most
all_long : {A B : Type 0} (written : A → List ℕ) (make : B → A) (most : ℕ) (xs : List B) → ((b : B) → length (written (make b)) ≤ most)
    → length (flat_map written (map make xs)) ≤ most * length xs
all_long written make most [] each = omega arith
all_long written make most (x ∷ xs) each =
    let rest = all_long written make most xs each in
    let first = each x in
    let both = length-append (written (make x)) (flat_map written (map make xs)) in
    let many : most * length (x ∷ xs) ≡ most + most * length xs = omega arith in
    omega (arith, rest, first, both, many)

scaled : (m a b : ℕ) → a ≤ b → m * a ≤ m * b
scaled m a b h = grind arith

pub array_long : {A B : Type 0} (written : A → List ℕ) (make : B → A) (most count : ℕ) (xs : List B) → ((b : B) → length (written (make b)) ≤ most)
    → length xs ≤ count → length (written_array written (map make xs)) ≤ 4 + most * count
array_long written make most count xs each few =
    let all = all_long written make most xs each in
    let within : most * length xs ≤ most * count = scaled most (length xs) count few in
    joined_long (little_bytes 4 (length (map make xs) % 2 ^ 32)) (flat_map written (map make xs)) 4 (most * count) (little_most 4 (length (map make xs) % 2 ^ 32))
    (omega (arith, all, within))
