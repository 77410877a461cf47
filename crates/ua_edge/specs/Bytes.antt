-- What a source and a sink do to the bytes that they tell of, by cases on their answers.
use Rattle.std.specs.Prelude.{◌≡◌, ℕ, ◌<◌, ◌≤◌, List, [], ◌++◌, Option, Some, take, drop, IfSome}
use Rattle.ua_edge.specs.declared.source.Took.{Took}
use Rattle.ua_edge.specs.declared.source.Took.TheVariants as took
use Rattle.ua_edge.specs.declared.sink.Put.{Put}
use Rattle.ua_edge.specs.declared.sink.Put.TheVariants as put

-- the bytes of an answer stand in the slice, and at least one of them where there is room
abbrev pub TakesWithin : Took → ℕ → Type 0
TakesWithin (took.Bytes count) room = (count ≤ room) × (0 < room → 0 < count)
TakesWithin took.End room = Unit {0}
TakesWithin took.Failed room = Unit {0}

-- told bytes: those that were given stood first and are gone; at the end there are none; after a fault all are there
abbrev pub Takes : Option (List ℕ) → Option (List ℕ) → Took → List ℕ → Type 0
Takes before after (took.Bytes count) slice =
    IfSome before (λ left. (left ≡ take count slice ++ drop count left) × (after ≡ Some (drop count left)))
Takes before after took.End slice = IfSome before (λ left. (left ≡ []) × (after ≡ Some left))
Takes before after took.Failed slice = IfSome before (λ left. after ≡ Some left)

-- what was written stood in the given bytes, and is at least one byte where there are some
abbrev pub PutsWithin : Put → ℕ → Type 0
PutsWithin (put.Wrote count) given = (count ≤ given) × (0 < given → 0 < count)
PutsWithin put.Failed given = Unit {0}
PutsWithin put.OutOfMemory given = Unit {0}

-- told bytes: the first of the given ones are appended, and else nothing is
abbrev pub Puts : Option (List ℕ) → Option (List ℕ) → Put → List ℕ → Type 0
Puts before after (put.Wrote count) given = IfSome before (λ written. after ≡ Some (written ++ take count given))
Puts before after put.Failed given = IfSome before (λ written. after ≡ Some written)
Puts before after put.OutOfMemory given = IfSome before (λ written. after ≡ Some written)
