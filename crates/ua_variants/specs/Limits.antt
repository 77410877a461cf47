-- How many dimensions an array may have.
use Rattle.std.specs.Prelude.{ℕ}

abbrev pub most_dimensions : ℕ
most_dimensions = 16
