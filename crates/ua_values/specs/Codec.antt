-- A reader reads exactly the spellings of a type.
use Rattle.std.specs.Prelude.{◌≡◌, ◌≤◌, ◌<◌, ℕ, ◌+◌, List, ◌++◌, length, take, Ok, Err}
use Rattle.ua_values.specs.Reading.{Input, input, Reader, Short, Bad}
use Rattle.ua_values.specs.Parts.{IsRefused, Begun}

-- the bytes are a spelling of the value, and then what is left
pub record Took {A : Type 0} (spells : A → List ℕ → Type 0) (place : ℕ) (bytes : List ℕ) (a : A) (after : Input) : Type 0 where
  pub text : List ℕ
  pub rest : List ℕ
  pub spelled : spells a text
  pub whole : bytes ≡ text ++ rest
  pub after_is : after ≡ input (place + length text) rest

-- the field of `width` bytes that begins after `start` of the bytes breaks a rule: whatever is shorter is the front
-- of a spelling, and whatever follows the field, the answer stays
pub record Faulty {A : Type 0} (at : Reader A) (place : ℕ) (bytes : List ℕ) (fault code : ℕ) : Type 0 where
  pub start : ℕ
  pub width : ℕ
  pub where_is : fault ≡ place + start
  pub refused : IsRefused code width
  pub within : start + width ≤ length bytes
  pub begins : (n : ℕ) → n < start + width → at (input place (take n bytes)) ≡ Err Short
  pub breaks : (more : List ℕ) → at (input place (take (start + width) bytes ++ more)) ≡ Err (Bad fault code)

-- a reader reads exactly the spellings; `cut` says of bytes that they end inside one
pub record Reads {A : Type 0} (spells : A → List ℕ → Type 0) (cut : List ℕ → Type 0) (at : Reader A) : Type 0 where
  -- what is read is spelled so
  pub found : (place : ℕ) (bytes : List ℕ) (a : A) (after : Input) → at (input place bytes) ≡ Ok (a, after) → Took spells place bytes a after
  -- what is spelled so is read, whatever follows
  pub again : (place : ℕ) (text more : List ℕ) (a : A) → spells a text → at (input place (text ++ more)) ≡ Ok (a, input (place + length text) more)
  -- what ends early ends inside a spelling
  pub short : (place : ℕ) (bytes : List ℕ) → at (input place bytes) ≡ Err Short → cut bytes
  -- a fault is the first one
  pub faulty : (place : ℕ) (bytes : List ℕ) (fault code : ℕ) → at (input place bytes) ≡ Err (Bad fault code) → Faulty at place bytes fault code

-- besides there is a spelling, and what ends inside one is the front of one
pub record IsCodec {A : Type 0} (spells : A → List ℕ → Type 0) (at : Reader A) : Type 0 where
  -- there is a spelling
  pub one : A
  pub one_text : List ℕ
  pub one_spelled : spells one one_text
  -- what is read is spelled so
  pub found : (place : ℕ) (bytes : List ℕ) (a : A) (after : Input) → at (input place bytes) ≡ Ok (a, after) → Took spells place bytes a after
  -- what is spelled so is read, whatever follows
  pub again : (place : ℕ) (text more : List ℕ) (a : A) → spells a text → at (input place (text ++ more)) ≡ Ok (a, input (place + length text) more)
  -- what ends early could go on
  pub short : (place : ℕ) (bytes : List ℕ) → at (input place bytes) ≡ Err Short → Begun spells bytes
  -- a fault is the first one
  pub faulty : (place : ℕ) (bytes : List ℕ) (fault code : ℕ) → at (input place bytes) ≡ Err (Bad fault code) → Faulty at place bytes fault code
