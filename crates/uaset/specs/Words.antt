-- The words of a command: a table of rows, how they are read, and what they spell.
use Rattle.std.specs.Prelude.{◌≡◌, ◌+◌, ◌&&◌, ℕ, max, List, [], ◌∷◌, Option, Some, None, Result, Ok, Err, codes}
use Rattle.std.specs.Prelude.{nat_le, if◌then◌else◌}
use Rattle.std.specs.Str.{bytes_eq}
use Rattle.scenario.specs.Words.{number_of}
use Rattle.uaset.specs.declared.words.Command.{Command}
use Rattle.uaset.specs.declared.words.Command.TheVariants as command

-- A row: its words in turn, and what they say. A number stands as its numeral, and is within bounds.
pub data Row (A : Type 0) : Type 0 where
  Ends : A → Row A
  Word : List ℕ → Row A → Row A
  Number : ℕ → ℕ → (ℕ → Row A) → Row A

-- ---- the table

abbrev pub replay_row : Row Command
replay_row = Word (codes "replay") (Ends command.Replay)

abbrev pub value_row : Row Command
value_row = Word (codes "show") (Word (codes "value") (Ends command.ShowValue))

abbrev pub stream_row : Row Command
stream_row = Word (codes "show") (Word (codes "stream") (Ends command.ShowStream))

abbrev pub rows : List (Row Command)
rows = replay_row ∷ value_row ∷ stream_row ∷ []

-- ---- how it is read

infixl 10 ◌>>=◌
-- what is read next, where the words fit so far
abbrev pub ◌>>=◌ : {A B : Type 0} → Result A ℕ → (A → Result B ℕ) → Result B ℕ
(Ok x) >>= f = f x
(Err place) >>= f = Err place

-- what the code answers, as `shown`, is what a definition gives
abbrev pub Yields : {A B : Type 0} → (A → B) → Result A ℕ → Result B ℕ → Type 0
Yields shown (Ok answer) read = read ≡ Ok (shown answer)
Yields shown (Err place) read = read ≡ Err place

-- the words behind this one
abbrev pub behind : List ℕ → ℕ → List (List ℕ) → Result (List (List ℕ)) ℕ
behind fixed place [] = Err place
behind fixed place (word ∷ words) = if bytes_eq word fixed then Ok words else Err place

-- a number within bounds
abbrev pub in_bounds : ℕ → ℕ → ℕ → Option ℕ → Result ℕ ℕ
in_bounds low high place None = Err place
in_bounds low high place (Some number) = if nat_le low number && nat_le number high then Ok number else Err place

-- a number, and the words behind it
abbrev pub before : List (List ℕ) → ℕ → Result (ℕ × List (List ℕ)) ℕ
before words number = Ok (number, words)

-- the number within bounds whose numeral the next word is, and the words behind it
abbrev pub number_before : ℕ → ℕ → ℕ → List (List ℕ) → Result (ℕ × List (List ℕ)) ℕ
number_before low high place [] = Err place
number_before low high place (word ∷ words) = in_bounds low high place (number_of word) >>= before words

-- what is said, where no word is left
abbrev pub no_more : {A : Type 0} → A → ℕ → List (List ℕ) → Result A ℕ
no_more said place [] = Ok said
no_more said place (word ∷ words) = Err place

-- what the words that begin at a place say by a row; or the place of the first that doesn't fit, which is their count
-- where they end early
abbrev pub read_row : {A : Type 0} → Row A → ℕ → List (List ℕ) → Result A ℕ
read_row (Ends said) place words = no_more said place words
read_row (Word fixed row) place words = behind fixed place words >>= λ rest. read_row row (place + 1) rest
read_row (Number low high row) place words =
    number_before low high place words >>= λ found. read_row (row found.0) (place + 1) found.1

-- what the first reading says, or else the other; or the place to which the words fit one of them
abbrev pub farther : {A : Type 0} → Result A ℕ → Result A ℕ → Result A ℕ
farther (Ok said) other = Ok said
farther (Err place) (Ok said) = Ok said
farther (Err place) (Err other) = Err (max place other)

abbrev pub read_rows : {A : Type 0} → List (Row A) → List (List ℕ) → Result A ℕ
read_rows [] words = Err 0
read_rows (row ∷ []) words = read_row row 0 words
read_rows (row ∷ (next ∷ rows)) words = farther (read_row row 0 words) (read_rows (next ∷ rows) words)

-- the command, or the place of the first word that fits no row, which is their count where they end early
abbrev pub command_of : List (List ℕ) → Result Command ℕ
command_of words = read_rows rows words
