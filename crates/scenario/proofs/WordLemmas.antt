-- Where a line or a word ends, and numbers that are capped while they are read.
use Rattle.std.proofs.Common.{◌≡◌, ◌==◌, ℕ, ◌+◌, ◌-◌, ◌*◌, ◌^◌, ◌<◌, ◌≤◌, min, suc, List, [], ◌∷◌, Bool, true, false, cond, not, Option, Some, None, length, refl, ◌∙◌, ap, subst, arith}
use Rattle.std.specs.Prelude.{nat_lt, take, drop, position, if◌then◌else◌}
use Rattle.std.specs.List.{position_or_len}
use Rattle.std.specs.Char.{is_ascii_digit}
use Rattle.std.proofs.lemmas.Bool.Decides.{nat_tests}
use Rattle.std.proofs.lemmas.List.{take_rest}
use Rattle.scenario.specs.Words.{with_first, lines_of, words_of, dotted, digits_from, capped, read_by}
use Rattle.scenario.specs.Grammar.{none_left, newest_at, rule_at, numbers_at, some_numbers, numbers_after, two_numbers}

abbrev pub is_at : ℕ → ℕ → Bool
is_at sep byte = byte == sep

-- F cuts a text at each separator
abbrev pub Cuts : ℕ → (List ℕ → List (List ℕ)) → Type 0
Cuts sep F = (x : ℕ) (xs : List ℕ) → F (x ∷ xs) ≡ cond (x == sep) ([] ∷ F xs) (with_first x (F xs))

cut_case : (sep : ℕ) (F : List ℕ → List (List ℕ)) (x : ℕ) (xs : List ℕ) (k : ℕ) (b : Bool)
    → F (x ∷ xs) ≡ cond b ([] ∷ F xs) (with_first x (F xs)) → (k < length xs → F xs ≡ take k xs ∷ F (drop (k + 1) xs))
    → cond (not b) (1 + k) 0 < suc (length xs)
    → F (x ∷ xs) ≡ take (cond (not b) (1 + k) 0) (x ∷ xs) ∷ F (drop (cond (not b) (1 + k) 0 + 1) (x ∷ xs))
cut_case sep F x xs k true step more h = step
cut_case sep F x xs k false step more h =
    let e : 1 + k ≡ suc k = omega arith in
    let f : 1 + k + 1 ≡ suc (k + 1) = omega arith in
    rw (f, e) (step ∙ ap (with_first x) (more (omega arith)))

-- up to the first separator, and after it
pub cut_at : (sep : ℕ) (F : List ℕ → List (List ℕ)) → Cuts sep F → (xs : List ℕ) → position_or_len (is_at sep) xs < length xs
    → F xs ≡ take (position_or_len (is_at sep) xs) xs ∷ F (drop (position_or_len (is_at sep) xs + 1) xs)
cut_at sep F step [] h = absurd (omega arith)
cut_at sep F step (x ∷ xs) h = cut_case sep F x xs (position_or_len (is_at sep) xs) (x == sep) (step x xs) (cut_at sep F step xs) h

uncut_case : (F : List ℕ → List (List ℕ)) (x : ℕ) (xs : List ℕ) (k : ℕ) (b : Bool)
    → F (x ∷ xs) ≡ cond b ([] ∷ F xs) (with_first x (F xs)) → (length xs ≤ k → with_first x (F xs) ≡ (x ∷ xs) ∷ [])
    → suc (length xs) ≤ cond (not b) (1 + k) 0 → F (x ∷ xs) ≡ (x ∷ xs) ∷ []
uncut_case F x xs k true step more h = absurd (omega arith)
uncut_case F x xs k false step more h = step ∙ more (omega arith)

uncut : (sep : ℕ) (F : List ℕ → List (List ℕ)) → Cuts sep F → ((x : ℕ) → with_first x (F []) ≡ (x ∷ []) ∷ []) → (x : ℕ) (xs : List ℕ)
    → length (x ∷ xs) ≤ position_or_len (is_at sep) (x ∷ xs) → F (x ∷ xs) ≡ (x ∷ xs) ∷ []
uncut sep F step one x [] h = uncut_case F x [] 0 (x == sep) (step x []) (λ _. one x) h
uncut sep F step one x (y ∷ ys) h =
    uncut_case F x (y ∷ ys) (position_or_len (is_at sep) (y ∷ ys)) (x == sep) (step x (y ∷ ys)) (λ g. ap (with_first x) (uncut sep F step one y ys g)) h

-- what `position` finds: the place, or none up to the end
place_some : (k n place : ℕ) (b : Bool) → nat_lt k n ≡ b → cond b (Some k) None ≡ Some place → (k < n) × (k ≡ place)
place_some k n place true e h = (grind (arith, nat_tests), cc)
place_some k n place false e h = absurd cc

place_none : (k n : ℕ) (b : Bool) → nat_lt k n ≡ b → ◌≡◌ {A = Option ℕ} (cond b (Some k) None) None → n ≤ k
place_none k n true e h = absurd cc
place_none k n false e h = grind (arith, nat_tests)

cut_place : (F : List ℕ → List (List ℕ)) (xs : List ℕ) (k place : ℕ) → k ≡ place → F xs ≡ take k xs ∷ F (drop (k + 1) xs)
    → F xs ≡ take place xs ∷ F (take (length xs - (place + 1)) (drop (place + 1) xs))
cut_place F xs k place e h =
    let P : ℕ → Type 0 = λ n. F xs ≡ take n xs ∷ F (drop (n + 1) xs) in
    rw (take_rest xs (place + 1)) (subst P e h)

found : (sep : ℕ) (F : List ℕ → List (List ℕ)) → Cuts sep F → (xs : List ℕ) (place : ℕ) → position (is_at sep) xs ≡ Some place
    → F xs ≡ take place xs ∷ F (take (length xs - (place + 1)) (drop (place + 1) xs))
found sep F step xs place h =
    let at = place_some (position_or_len (is_at sep) xs) (length xs) place _ refl h in
    cut_place F xs _ place at.1 (cut_at sep F step xs at.0)

pub line_found : (xs : List ℕ) (place : ℕ) → position (is_at 10) xs ≡ Some place
    → lines_of xs ≡ take place xs ∷ lines_of (take (length xs - (place + 1)) (drop (place + 1) xs))
line_found = found 10 lines_of (λ x xs. refl)

pub word_found : (xs : List ℕ) (place : ℕ) → position (is_at 32) xs ≡ Some place
    → words_of xs ≡ take place xs ∷ words_of (take (length xs - (place + 1)) (drop (place + 1) xs))
word_found = found 32 words_of (λ x xs. refl)

pub line_last : (xs : List ℕ) → 0 < length xs → position (is_at 10) xs ≡ None → lines_of xs ≡ xs ∷ lines_of []
line_last [] long h = absurd (omega arith)
line_last (x ∷ xs) long h = uncut 10 lines_of (λ y ys. refl) (λ y. refl) x xs (place_none _ _ _ refl h)

pub word_last : (xs : List ℕ) → position (is_at 32) xs ≡ None → words_of xs ≡ xs ∷ []
word_last [] h = refl
word_last (x ∷ xs) h = uncut 32 words_of (λ y ys. refl) (λ y. refl) x xs (place_none _ _ _ refl h)

-- one byte more before a word that is cut at its first dot
abbrev pub dot_step : Bool → ℕ → List ℕ → List ℕ × Option (List ℕ)
dot_step b x xs = cond b ([], Some xs) (x ∷ (dotted xs).0, (dotted xs).1)

-- up to the first dot, and behind it
dot_case : (x : ℕ) (xs : List ℕ) (k : ℕ) (b : Bool) → (k < length xs → dotted xs ≡ (take k xs, Some (drop (k + 1) xs)))
    → cond (not b) (1 + k) 0 < suc (length xs)
    → dot_step b x xs ≡ (take (cond (not b) (1 + k) 0) (x ∷ xs), Some (drop (cond (not b) (1 + k) 0 + 1) (x ∷ xs)))
dot_case x xs k true more h = refl
dot_case x xs k false more h =
    let e : 1 + k ≡ suc k = omega arith in
    let f : 1 + k + 1 ≡ suc (k + 1) = omega arith in
    rw (f, e) (ap (λ d. (x ∷ d.0, d.1)) (more (omega arith)))

dot_at : (xs : List ℕ) → position_or_len (is_at 46) xs < length xs
    → dotted xs ≡ (take (position_or_len (is_at 46) xs) xs, Some (drop (position_or_len (is_at 46) xs + 1) xs))
dot_at [] h = absurd (omega arith)
dot_at (x ∷ xs) h = dot_case x xs (position_or_len (is_at 46) xs) (x == 46) (dot_at xs) h

undot_case : (x : ℕ) (xs : List ℕ) (k : ℕ) (b : Bool) → (length xs ≤ k → dotted xs ≡ (xs, None)) → suc (length xs) ≤ cond (not b) (1 + k) 0
    → dot_step b x xs ≡ (x ∷ xs, None)
undot_case x xs k true more h = absurd (omega arith)
undot_case x xs k false more h = ap (λ d. (x ∷ d.0, d.1)) (more (omega arith))

undot : (xs : List ℕ) → length xs ≤ position_or_len (is_at 46) xs → dotted xs ≡ (xs, None)
undot [] h = refl
undot (x ∷ xs) h = undot_case x xs (position_or_len (is_at 46) xs) (x == 46) (undot xs) h

dot_place : (xs : List ℕ) (k place : ℕ) → k ≡ place → dotted xs ≡ (take k xs, Some (drop (k + 1) xs))
    → dotted xs ≡ (take place xs, Some (take (length xs - (place + 1)) (drop (place + 1) xs)))
dot_place xs k place e h =
    let P : ℕ → Type 0 = λ n. dotted xs ≡ (take n xs, Some (drop (n + 1) xs)) in
    rw (take_rest xs (place + 1)) (subst P e h)

pub dot_found : (xs : List ℕ) (place : ℕ) → position (is_at 46) xs ≡ Some place
    → dotted xs ≡ (take place xs, Some (take (length xs - (place + 1)) (drop (place + 1) xs)))
dot_found xs place h =
    let at = place_some (position_or_len (is_at 46) xs) (length xs) place _ refl h in
    dot_place xs _ place at.1 (dot_at xs at.0)

pub dot_none : (xs : List ℕ) → position (is_at 46) xs ≡ None → dotted xs ≡ (xs, None)
dot_none xs h = undot xs (place_none _ _ _ refl h)

some_first : (byte : ℕ) (words : List (List ℕ)) → none_left (with_first byte words) ≡ None
some_first byte [] = refl
some_first byte (word ∷ words) = refl

some_word : (byte : ℕ) (rest : List ℕ) (b : Bool) → none_left (cond b ([] ∷ words_of rest) (with_first byte (words_of rest))) ≡ None
some_word byte rest true = refl
some_word byte rest false = some_first byte (words_of rest)

-- each text has a word
pub words_some : (text : List ℕ) → none_left (words_of text) ≡ None
words_some [] = refl
words_some (byte ∷ rest) = some_word byte rest (byte == 32)

rule_first : (words : List (List ℕ)) → none_left words ≡ None → rule_at words ≡ newest_at words
rule_first [] h = absurd cc
rule_first (word ∷ words) h = refl

-- where words are left, they must say that the newest is discarded
pub rule_some : (text : List ℕ) → rule_at (words_of text) ≡ newest_at (words_of text)
rule_some text = rule_first (words_of text) (words_some text)

numbers_first : (words : List (List ℕ)) → none_left words ≡ None → numbers_at capped words ≡ some_numbers capped words
numbers_first [] h = absurd cc
numbers_first (word ∷ words) h = refl

-- where words are left, they must say one number or two
pub numbers_some : (text : List ℕ) → numbers_at capped (words_of text) ≡ some_numbers capped (words_of text)
numbers_some text = numbers_first (words_of text) (words_some text)

two_first : (first : ℕ) (words : List (List ℕ)) → none_left words ≡ None → numbers_after capped first words ≡ two_numbers capped first words
two_first first [] h = absurd cc
two_first first (word ∷ words) h = refl

-- where words are left after a number, they must say exactly one more
pub two_some : (first : ℕ) (text : List ℕ) → numbers_after capped first (words_of text) ≡ two_numbers capped first (words_of text)
two_some first text = two_first first (words_of text) (words_some text)

-- digits read with each step capped
abbrev pub capped_digits : ℕ → List ℕ → Option ℕ
capped_digits number [] = Some number
capped_digits number (byte ∷ rest) =
    if is_ascii_digit byte then capped_digits (min (min (number * 10) (2 ^ 64 - 1) + (byte - 48)) (2 ^ 64 - 1)) rest else None

capped_step : (n d : ℕ) → min (min (capped n * 10) (2 ^ 64 - 1) + d) (2 ^ 64 - 1) ≡ capped (n * 10 + d)
capped_step n d = omega arith

capped_case : (n : ℕ) (byte : ℕ) (rest : List ℕ) (b : Bool) → capped_digits (capped (n * 10 + (byte - 48))) rest ≡ read_by capped (digits_from (n * 10 + (byte - 48)) rest)
    → cond b (capped_digits (min (min (capped n * 10) (2 ^ 64 - 1) + (byte - 48)) (2 ^ 64 - 1)) rest) None
    ≡ read_by capped (cond b (digits_from (n * 10 + (byte - 48)) rest) None)
capped_case n byte rest true more = ap (λ m. capped_digits m rest) (capped_step n (byte - 48)) ∙ more
capped_case n byte rest false more = refl

-- to cap each step is to cap the number
pub capped_digits_is : (n : ℕ) (digits : List ℕ) → capped_digits (capped n) digits ≡ read_by capped (digits_from n digits)
capped_digits_is n [] = refl
capped_digits_is n (byte ∷ rest) = capped_case n byte rest (is_ascii_digit byte) (capped_digits_is (n * 10 + (byte - 48)) rest)
