-- The parts that spellings are made of. A spelling relates a value to bytes: a value may have several, bytes have one value at most.
use Rattle.std.specs.Prelude.{◌≡◌, ◌≤◌, ◌<◌, ℕ, zero, suc, ◌^◌, List, [], ◌∷◌, ◌++◌, ◌+◌, ◌*◌, length, Bool, true, false, Option, Some, None, ◌⊎◌}
use Rattle.byteorder.specs.Endian.{little_number}
use Rattle.ua_base.specs.Status.{bad_decoding_error, bad_encoding_limits_exceeded}
use Rattle.ua_values.specs.Limits.{most_bytes, most_items}

-- a number as so many bytes, the lowest first
abbrev pub number : ℕ → ℕ → List ℕ → Type 0
number w n bytes = (length bytes ≡ w) × (little_number w bytes ≡ n)

abbrev pub exactly : List ℕ → List ℕ → Type 0
exactly run bytes = bytes ≡ run

abbrev pub nothing : List ℕ → Type 0
nothing bytes = bytes ≡ []

-- bytes of the one and then bytes of the other
pub record InTurn (First Second : List ℕ → Type 0) (bytes : List ℕ) : Type 0 where
  pub front : List ℕ
  pub back : List ℕ
  pub first : First front
  pub second : Second back
  pub whole : bytes ≡ front ++ back

infixr 20 ◌followed_by◌
abbrev pub ◌followed_by◌ : (List ℕ → Type 0) → (List ℕ → Type 0) → List ℕ → Type 0
(First followed_by Second) bytes = InTurn First Second bytes

-- a choice is spelled, and then the value as this choice has it
pub record Chained {A B : Type 0} (chooses : A → List ℕ → Type 0) (spells : A → B → List ℕ → Type 0) (b : B) (bytes : List ℕ) : Type 0 where
  pub value : A
  pub parts : InTurn (chooses value) (spells value b) bytes

-- a field that a mask or a flag says is there; where it is not, the value is the blank one
abbrev pub optional : {A : Type 0} → Bool → A → (A → List ℕ → Type 0) → A → List ℕ → Type 0
optional true blank spells a bytes = spells a bytes
optional false blank spells a bytes = (a ≡ blank) × nothing bytes

-- null is any negative length (a negative number of 32 bits is 2 ^ 31 or above, read without its sign);
-- else a length up to the limit, and so many bytes
abbrev pub text : Option (List ℕ) → List ℕ → Type 0
text None bytes = (n : ℕ) × (2 ^ 31 ≤ n) × number 4 n bytes
text (Some run) bytes = (length run ≤ most_bytes) × (number 4 (length run) followed_by exactly run) bytes

-- elements one after the other
abbrev pub elements : {A : Type 0} → (A → List ℕ → Type 0) → List A → List ℕ → Type 0
elements spells [] bytes = nothing bytes
elements spells (a ∷ more) bytes = (spells a followed_by elements spells more) bytes

-- an empty array is any negative length too; else a length up to the limit, and so many elements
abbrev pub array_within : {A : Type 0} → ℕ → (A → List ℕ → Type 0) → List A → List ℕ → Type 0
array_within most spells items bytes =
    ((items ≡ []) × (n : ℕ) × (2 ^ 31 ≤ n) × number 4 n bytes)
    ⊎ ((length items ≤ most) × (number 4 (length items) followed_by elements spells items) bytes)

abbrev pub array : {A : Type 0} → (A → List ℕ → Type 0) → List A → List ℕ → Type 0
array spells = array_within most_items spells

-- which code a field of so many bytes may be refused with: a byte that chooses, or a length; in values that hold others
-- also a list of dimensions, or a value that stands too deep, before its first byte
abbrev pub IsRefused : ℕ → ℕ → Type 0
IsRefused code width =
    ((code ≡ bad_decoding_error) × (width ≡ 1))
    ⊎ ((code ≡ bad_encoding_limits_exceeded) × (width ≡ 4))
    ⊎ ((code ≡ bad_decoding_error) × (n : ℕ) × (width ≡ 4 + n * 4))
    ⊎ ((code ≡ bad_encoding_limits_exceeded) × (width ≡ 0))

-- a choice is spelled, and the bytes end inside what follows it
pub record CutAfter {A : Type 0} (chooses : A → List ℕ → Type 0) (cut : A → List ℕ → Type 0) (bytes : List ℕ) : Type 0 where
  pub value : A
  pub front : List ℕ
  pub back : List ℕ
  pub first : chooses value front
  pub second : cut value back
  pub whole : bytes ≡ front ++ back

-- the bytes end inside a choice, or inside what follows it
abbrev pub ChainCut : {A : Type 0} → (A → List ℕ → Type 0) → (List ℕ → Type 0) → (A → List ℕ → Type 0) → List ℕ → Type 0
ChainCut chooses first second bytes = first bytes ⊎ CutAfter chooses second bytes

-- the bytes end inside a field that may be left out
abbrev pub optional_cut : Bool → (List ℕ → Type 0) → List ℕ → Type 0
optional_cut true cut bytes = cut bytes
optional_cut false cut bytes = ⊥

-- the bytes end inside one of so many elements
abbrev pub elements_cut : {A : Type 0} → (A → List ℕ → Type 0) → (List ℕ → Type 0) → ℕ → List ℕ → Type 0
elements_cut spells cut zero bytes = ⊥
elements_cut spells cut (suc n) bytes = ChainCut spells cut (λ a. elements_cut spells cut n) bytes

-- the bytes end inside an array's length, or inside one of its elements
abbrev pub array_cut : {A : Type 0} → ℕ → (A → List ℕ → Type 0) → (List ℕ → Type 0) → List ℕ → Type 0
array_cut most spells cut bytes = ChainCut (λ n front. (n ≤ most) × number 4 n front) (λ front. length front < 4) (λ n. elements_cut spells cut n) bytes

-- the bytes are the front of a spelling
pub record Begun {A : Type 0} (spells : A → List ℕ → Type 0) (bytes : List ℕ) : Type 0 where
  pub value : A
  pub more : List ℕ
  pub whole : spells value (bytes ++ more)
