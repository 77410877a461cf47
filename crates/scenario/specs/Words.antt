-- A text as lines, a line as words, a word as a number.
use Rattle.std.specs.Prelude.{◌≡◌, ◌==◌, ℕ, ◌+◌, ◌-◌, ◌*◌, ◌^◌, min, ℤ, pos, negsuc, zero, suc, List, [], ◌∷◌, ◌++◌}
use Rattle.std.specs.Prelude.{Option, Some, None, codes, map, if◌then◌else◌}
use Rattle.std.specs.Char.{is_ascii_digit}
use Rattle.std.specs.Int.Digits.{digits_of}

infixl 10 ◌>>=◌
-- what is read next, where something was read
abbrev pub ◌>>=◌ : {A B : Type 0} → Option A → (A → Option B) → Option B
(Some x) >>= f = f x
None >>= f = None

-- an answer of the code, as `shown`, is what a definition gives
abbrev pub Finds : {A B : Type 0} → (A → B) → Option A → Option B → Type 0
Finds shown (Some answer) read = read ≡ Some (shown answer)
Finds shown None read = read ≡ None

-- one byte more before the first of some pieces
abbrev pub with_first : ℕ → List (List ℕ) → List (List ℕ)
with_first byte [] = (byte ∷ []) ∷ []
with_first byte (piece ∷ pieces) = (byte ∷ piece) ∷ pieces

-- a line feed ends each line; after the last one it may be missing
abbrev pub lines_of : List ℕ → List (List ℕ)
lines_of [] = []
lines_of (byte ∷ rest) = if byte == 10 then [] ∷ lines_of rest else with_first byte (lines_of rest)

-- one space stands between two words
abbrev pub words_of : List ℕ → List (List ℕ)
words_of [] = [] ∷ []
words_of (byte ∷ rest) = if byte == 32 then [] ∷ words_of rest else with_first byte (words_of rest)

-- the words of what is left of a line, if anything is
abbrev pub words_left : Option (List ℕ) → List (List ℕ)
words_left None = []
words_left (Some text) = words_of text

abbrev pub spaced_after : List (List ℕ) → List ℕ
spaced_after [] = []
spaced_after (word ∷ words) = 32 ∷ word ++ spaced_after words

-- words with one space between two
abbrev pub spaced : List (List ℕ) → List ℕ
spaced [] = []
spaced (word ∷ words) = word ++ spaced_after words

-- what stands before the first dot of a word, and what behind it, if it has one
abbrev pub dotted : List ℕ → List ℕ × Option (List ℕ)
dotted [] = ([], None)
dotted (byte ∷ rest) = if byte == 46 then ([], Some rest) else (byte ∷ (dotted rest).0, (dotted rest).1)

-- a number's decimal digits, with no zero before them
abbrev pub numeral : ℕ → List ℕ
numeral number = if number == 0 then codes "0" else map (λ digit. 48 + digit) (digits_of 10 number)

abbrev pub signed_numeral : ℤ → List ℕ
signed_numeral (pos number) = numeral number
signed_numeral (negsuc below) = 45 ∷ numeral (suc below)

-- a time's numeral, and behind a dot that of its picoseconds, if they are said
abbrev pub stamp_numeral : ℕ → Option ℕ → List ℕ
stamp_numeral time None = numeral time
stamp_numeral time (Some pico) = numeral time ++ 46 ∷ numeral pico

-- the number that goes on with these digits
abbrev pub digits_from : ℕ → List ℕ → Option ℕ
digits_from number [] = Some number
digits_from number (byte ∷ rest) = if is_ascii_digit byte then digits_from (number * 10 + (byte - 48)) rest else None

abbrev pub zero_alone : List ℕ → Option ℕ
zero_alone [] = Some 0
zero_alone (byte ∷ rest) = None

-- the number that a word is the numeral of
abbrev pub number_of : List ℕ → Option ℕ
number_of [] = None
number_of (first ∷ rest) = if first == 48 then zero_alone rest else digits_from 0 (first ∷ rest)

-- a number read as if the largest were 2^64 - 1
abbrev pub capped : ℕ → ℕ
capped number = min number (2 ^ 64 - 1)

-- a number, if one was read, through `cap`
abbrev pub read_by : (ℕ → ℕ) → Option ℕ → Option ℕ
read_by cap number = number >>= λ n. Some (cap n)

abbrev pub number_by : (ℕ → ℕ) → List ℕ → Option ℕ
number_by cap word = read_by cap (number_of word)

-- the picoseconds that are said behind a dot, if there is one
abbrev pub pico_by : (ℕ → ℕ) → Option (List ℕ) → Option (Option ℕ)
pico_by cap None = Some None
pico_by cap (Some digits) = number_by cap digits >>= λ pico. Some (Some pico)

-- the time that a word says, and its picoseconds, if it says them
abbrev pub stamp_by : (ℕ → ℕ) → List ℕ → Option (ℕ × Option ℕ)
stamp_by cap word = number_by cap (dotted word).0 >>= λ time. pico_by cap (dotted word).1 >>= λ pico. Some (time, pico)

-- a minus stands before no zero
abbrev pub below_zero : ℕ → Option ℤ
below_zero zero = None
below_zero (suc below) = Some (negsuc below)

-- the whole number that a word is the signed numeral of
abbrev pub integer_by : (ℕ → ℕ) → List ℕ → Option ℤ
integer_by cap [] = None
integer_by cap (first ∷ rest) =
    if first == 45 then (number_by cap rest >>= below_zero)
    else (number_by cap (first ∷ rest) >>= λ number. Some (pos number))
