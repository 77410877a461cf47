-- What a read answers, in the words of the grammar alone.
use Rattle.std.specs.Prelude.{◌≤◌, ◌<◌, ℕ, ◌+◌, List, ◌++◌, length, take, Result, Ok, Err}
use Rattle.ua_values.specs.declared.fault.ValueFault.{ValueFault}
use Rattle.ua_values.specs.declared.fault.ValueFault.TheVariants as faults
use Rattle.ua_values.specs.Parts.{IsRefused, Begun}

-- no front of the bytes is a spelling
abbrev pub HasNone : {A : Type 0} → (A → List ℕ → Type 0) → List ℕ → Type 0
HasNone {A = A} spells bytes = (a : A) (n : ℕ) → spells a (take n bytes) → ⊥

-- the bytes end inside a value, as `cut` says, and no front of them is one
pub record EndsEarly {A : Type 0} (spells : A → List ℕ → Type 0) (cut : List ℕ → Type 0) (bytes : List ℕ) : Type 0 where
  pub begun : cut bytes
  pub none : HasNone spells bytes

-- the field of `width` bytes at a place is the first that breaks a rule: what ends before its end ends inside a value,
-- and no spelling begins with what ends there
pub record IsFault {A : Type 0} (spells : A → List ℕ → Type 0) (cut : List ℕ → Type 0) (bytes : List ℕ) (place code : ℕ) : Type 0 where
  pub width : ℕ
  pub refused : IsRefused code width
  pub within : place + width ≤ length bytes
  pub before : (n : ℕ) → n < place + width → cut (take n bytes)
  pub after : (a : A) (more : List ℕ) → spells a (take (place + width) bytes ++ more) → ⊥
  pub none : HasNone spells bytes

-- the value and how many of the bytes are its spelling; or why there is none
abbrev pub IsReadOr : {A : Type 0} → (A → List ℕ → Type 0) → (List ℕ → Type 0) → List ℕ → Result (A × ℕ) ValueFault → Type 0
IsReadOr spells cut bytes (Ok x) = (x.1 ≤ length bytes) × spells x.0 (take x.1 bytes)
IsReadOr spells cut bytes (Err faults.Short) = EndsEarly spells cut bytes
IsReadOr spells cut bytes (Err (faults.Bad place code)) = IsFault spells cut bytes place code
IsReadOr spells cut bytes (Err faults.OutOfMemory) = Unit {0}

-- bytes that end inside a value are the front of a spelling
abbrev pub IsRead : {A : Type 0} → (A → List ℕ → Type 0) → List ℕ → Result (A × ℕ) ValueFault → Type 0
IsRead spells bytes result = IsReadOr spells (Begun spells) bytes result
