-- The numbers of a server's lives.
use Rattle.std.proofs.Common.{◌≡◌, ℕ, suc, ◌+◌, ◌-◌, ◌≤◌, ◌<◌, ◌^◌, min, List, [], ◌∷◌, length, arith}
use Rattle.set_fronts.specs.Noting.{NotedLife}
use Rattle.set_fronts.specs.Fronts.{AreNumbered}
use Rattle.set_fronts.specs.Numbers.{AreBelow, AreFalling, boots_of}

below : (number count most boot : ℕ) → number ≡ min (count + 1) most → suc count < boot → number < boot
below number count most boot is less = omega (arith, is, less)

-- as far as the numbers go on
next : (number count most : ℕ) → number ≡ min (count + 1) most → suc count ≤ most → count < number
next number count most is less = omega (arith, is, less)

all_below : {S A : Type 0} (boot : ℕ) (lives : List (NotedLife S A)) → AreNumbered lives → length lives < boot → AreBelow boot (boots_of lives)
all_below boot [] x less = tt
all_below boot (life ∷ earlier) x less =
    (below life.boot (length earlier) (2 ^ 16 - 1) boot x.0 less, all_below boot earlier x.2 (omega (arith, less)))

pub numbers_fall : {S A : Type 0} (lives : List (NotedLife S A)) → AreNumbered lives → length lives ≤ 2 ^ 16 - 1 → AreFalling (boots_of lives)
numbers_fall [] x few = tt
numbers_fall (life ∷ earlier) x few =
    (all_below life.boot earlier x.2 (next life.boot (length earlier) (2 ^ 16 - 1) x.0 few), numbers_fall earlier x.2 (omega (arith, few)))
