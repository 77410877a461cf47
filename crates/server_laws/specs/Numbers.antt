-- Which connections are there.
use Rattle.std.specs.Prelude.{◌<◌, ◌≤◌, ℕ, ◌==◌, not, List, [], ◌∷◌, ◌++◌, map, filter, Option, Some, None, if◌then◌else◌}
use Rattle.server_rules.specs.State.{ServerState}
use Rattle.server_rules.specs.Connecting.{is_above}
use Rattle.server_rules.specs.Step.{Happening, Opens, Closes}

-- the numbers of the connections that are there
abbrev pub conn_numbers : ServerState → List ℕ
conn_numbers s = map (λ conn. conn.number) s.conns

-- after this happened
abbrev pub numbers_after : Happening → ServerState → List ℕ
numbers_after (Opens number) s = if is_above s.highest number then conn_numbers s ++ number ∷ [] else conn_numbers s
numbers_after (Closes number) s = filter (λ other. not (other == number)) (conn_numbers s)
numbers_after other s = conn_numbers s

abbrev pub highest_after : Happening → ServerState → Option ℕ
highest_after (Opens number) s = if is_above s.highest number then Some number else s.highest
highest_after other s = s.highest

-- each is above the ones before it, and none above the highest that was opened
abbrev pub AreAbove : ℕ → List ℕ → Type 0
AreAbove number [] = Unit {0}
AreAbove number (other ∷ numbers) = (number < other) × AreAbove number numbers

abbrev pub RiseTo : Option ℕ → List ℕ → Type 0
RiseTo highest [] = Unit {0}
RiseTo None (number ∷ numbers) = ⊥
RiseTo (Some highest) (number ∷ numbers) = (number ≤ highest) × AreAbove number numbers × RiseTo (Some highest) numbers
