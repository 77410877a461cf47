-- What the words of a table's rows are, apart from how they are read.
use Rattle.std.specs.Prelude.{◌≡◌, ◌≤◌, ◌<◌, ◌-◌, ◌^◌, ◌⊎◌, ℕ, suc, take, length, List, [], ◌∷◌, codes}
use Rattle.scenario.specs.Words.{numeral}
use Rattle.uaset.specs.declared.words.Command.{Command}
use Rattle.uaset.specs.declared.words.Command.TheVariants as command
use Rattle.uaset.specs.Words.{Row, Ends, Word, Number}

-- these words say this by a row: its fixed words and, for each number, the numeral of one within the bounds
abbrev pub Spells : {A : Type 0} → Row A → List (List ℕ) → A → Type 0
Spells (Ends said) words told = (words ≡ []) × (told ≡ said)
Spells (Word fixed row) words told = (rest : List (List ℕ)) × (words ≡ fixed ∷ rest) × Spells row rest told
Spells (Number low high row) words told =
    (number : ℕ) × (rest : List (List ℕ)) × (low ≤ number) × (number ≤ high) × (words ≡ numeral number ∷ rest)
    × Spells (row number) rest told

-- each of these words fits its place in a row
abbrev pub Fits : {A : Type 0} → List (List ℕ) → Row A → Type 0
Fits [] row = Unit {0}
Fits (word ∷ words) (Ends said) = ⊥
Fits (word ∷ words) (Word fixed row) = (word ≡ fixed) × Fits words row
Fits (word ∷ words) (Number low high row) =
    (number : ℕ) × (low ≤ number) × (number ≤ high) × (word ≡ numeral number) × Fits words (row number)

-- these words say this by one of the rows
abbrev pub SpellsAny : {A : Type 0} → List (Row A) → List (List ℕ) → A → Type 0
SpellsAny [] words told = ⊥
SpellsAny (row ∷ rows) words told = Spells row words told ⊎ SpellsAny rows words told

-- these words fit one of the rows
abbrev pub FitsAny : {A : Type 0} → List (List ℕ) → List (Row A) → Type 0
FitsAny words [] = ⊥
FitsAny words (row ∷ rows) = Fits words row ⊎ FitsAny words rows

-- the place of the first word with which the words no longer fit, or their count
pub record IsPlace (fits : List (List ℕ) → Type 0) (words : List (List ℕ)) (place : ℕ) : Type 0 where
  pub within : place ≤ length words
  pub before : fits (take place words)
  pub here : place < length words → ¬ fits (take (suc place) words)

-- the words of a command
abbrev pub words_of : Command → List (List ℕ)
words_of command.Replay = codes "replay" ∷ []
words_of command.ShowValue = codes "show" ∷ codes "value" ∷ []
words_of command.ShowStream = codes "show" ∷ codes "stream" ∷ []

-- a row of a word and two numbers, as a command that takes numbers has one
abbrev pub pair_row : Row (ℕ × ℕ)
pair_row = Word (codes "pair") (Number 0 (2 ^ 64 - 1) (λ first. Number 3 200000 (λ second. Ends (first, second))))
