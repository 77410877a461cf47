-- What a life of a server knows of the source.
use Rattle.std.specs.Prelude.{◌≡◌, ℕ, List, ◌++◌, length, take, drop}
use Rattle.set_model.specs.declared.source.Change.{Change}
use Rattle.set_model.specs.Source.{of_item}
use Rattle.set_rules.specs.Slots.{currents}

-- the current values with which a life begins behind the first changes, and so many that it is fed from there on
abbrev pub known_of : ℕ → List Change → ℕ → ℕ → List Change
known_of items source first count = currents items (take first source) ++ take count (drop first source)

-- the known changes of an item are neighbours of the source's, in order, from a place on
pub record AreNeighbours (item : ℕ) (source known : List Change) : Type 0 where
  pub place : ℕ
  pub are : of_item item known ≡ take (length (of_item item known)) (drop place (of_item item source))
