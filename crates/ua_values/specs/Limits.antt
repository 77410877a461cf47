-- How much a value may hold.
use Rattle.std.specs.Prelude.{ℕ}

-- bytes of a text or a ByteString
abbrev pub most_bytes : ℕ
most_bytes = 1_048_576

-- elements of an array
abbrev pub most_items : ℕ
most_items = 65_536
