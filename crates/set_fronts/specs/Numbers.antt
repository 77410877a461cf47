-- The boot numbers of a server's lives.
use Rattle.std.specs.Prelude.{◌<◌, ℕ, List, [], ◌∷◌, map}
use Rattle.set_fronts.specs.Noting.{NotedLife}

-- newest first
abbrev pub boots_of : {S A : Type 0} → List (NotedLife S A) → List ℕ
boots_of lives = map (λ life. life.boot) lives

-- all of them are below a number
abbrev pub AreBelow : ℕ → List ℕ → Type 0
AreBelow number [] = Unit {0}
AreBelow number (other ∷ numbers) = (other < number) × AreBelow number numbers

-- each is above all that follow it
abbrev pub AreFalling : List ℕ → Type 0
AreFalling [] = Unit {0}
AreFalling (number ∷ numbers) = AreBelow number numbers × AreFalling numbers
