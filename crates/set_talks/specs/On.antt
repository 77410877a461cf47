-- On which connections a server's life heard what it heard.
use Rattle.std.specs.Prelude.{◌≡◌, ℕ, List, [], ◌∷◌, ◌++◌}
use Rattle.server_rules.specs.Step as server

-- the number is one of these
abbrev pub IsIn : ℕ → List ℕ → Type 0
IsIn number numbers = (before : List ℕ) × (after : List ℕ) × (numbers ≡ before ++ number ∷ after)

-- each message is heard on one of these connections
abbrev pub AreOn : List ℕ → List server.Happening → Type 0
AreOn numbers [] = Unit {0}
AreOn numbers (server.Hears conn h ∷ earlier) = IsIn conn numbers × AreOn numbers earlier
AreOn numbers (other ∷ earlier) = AreOn numbers earlier
