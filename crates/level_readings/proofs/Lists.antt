-- What holds of all of a list.
use Rattle.std.proofs.Common.{List, [], ◌∷◌, ◌++◌}
use Rattle.std.specs.List.{AllByRecursion}

pub all_join : {A : Type 0} (P : A → Type 0) (one other : List A) → AllByRecursion P one → AllByRecursion P other → AllByRecursion P (one ++ other)
all_join P [] other h k = k
all_join P (x ∷ one) other h k = (h.0, all_join P one other h.1 k)

pub all_to : {A : Type 0} (P Q : A → Type 0) → ((a : A) → P a → Q a) → (list : List A) → AllByRecursion P list → AllByRecursion Q list
all_to P Q step [] h = tt
all_to P Q step (x ∷ list) h = (step x h.0, all_to P Q step list h.1)
