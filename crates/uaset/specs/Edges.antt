-- What was read of a source, and what was written to a sink, over any number of calls.
use Rattle.std.specs.Prelude.{◌≡◌, ℕ, ◌<◌, List, [], ◌++◌, Option, Some, length, IfSome, IsSomeAnd}

-- these bytes stood first in what was left, where that is told
abbrev pub HasTaken : Option (List ℕ) → Option (List ℕ) → List ℕ → Type 0
HasTaken before after bytes = IfSome before (λ all. IsSomeAnd after (λ rest. all ≡ bytes ++ rest))

-- these bytes are all that was left, where that is told, and nothing is left now
abbrev pub HasTakenAll : Option (List ℕ) → Option (List ℕ) → List ℕ → Type 0
HasTakenAll before after bytes = IfSome before (λ all. (all ≡ bytes) × (after ≡ Some []))

-- nothing is left, where that is told
abbrev pub IsDrained : Option (List ℕ) → Option (List ℕ) → Type 0
IsDrained before after = IfSome before (λ all. after ≡ Some [])

-- more than so many bytes were left, where that is told
abbrev pub HadMore : Option (List ℕ) → ℕ → Type 0
HadMore before most = IfSome before (λ all. most < length all)

-- these bytes were appended to what was written, where that is told
abbrev pub HasAppended : Option (List ℕ) → Option (List ℕ) → List ℕ → Type 0
HasAppended before after bytes = IfSome before (λ written. after ≡ Some (written ++ bytes))

-- of these bytes all but the rest were appended to what was written, where that is told
pub record HasAppendedUpTo (before after : Option (List ℕ)) (bytes rest : List ℕ) : Type 0 where
  pub front : List ℕ
  pub split : bytes ≡ front ++ rest
  pub appended : HasAppended before after front

-- a front of these bytes was appended to what was written, where that is told
abbrev pub HasAppendedFront : Option (List ℕ) → Option (List ℕ) → List ℕ → Type 0
HasAppendedFront before after bytes = (rest : List ℕ) × HasAppendedUpTo before after bytes rest
