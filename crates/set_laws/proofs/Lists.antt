-- Lists of which each element has something.
use Rattle.std.proofs.Common.{List, [], ◌∷◌, ◌++◌}
use Rattle.std.specs.List.{AllByRecursion}

pub both_all : {A : Type 0} (P : A → Type 0) (first more : List A) → AllByRecursion P first → AllByRecursion P more → AllByRecursion P (first ++ more)
both_all P [] more one other = other
both_all P (x ∷ first) more one other = (one.0, both_all P first more one.1 other)

pub each_all : {A : Type 0} (P Q : A → Type 0) (all : List A) → ((x : A) → P x → Q x) → AllByRecursion P all → AllByRecursion Q all
each_all P Q [] more have = tt
each_all P Q (x ∷ all) more have = (more x have.0, each_all P Q all more have.1)
