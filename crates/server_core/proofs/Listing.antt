-- A list in parts, of which some elements are kept.
use Rattle.std.proofs.Common.{◌≡◌, ◌++◌, List, [], ◌∷◌, Bool, true, false, filter, map, refl}

kept_first : {A B : Type 0} (make : A → B) (test : A → Bool) (x : A) (xs : List A) (b : Bool) → test x ≡ b
    → map make (filter test (x ∷ [])) ++ map make (filter test xs) ≡ map make (filter test (x ∷ xs))
kept_first make test x xs true is = rw (is) refl
kept_first make test x xs false is = rw (is) refl

pub kept_more : {A B : Type 0} (make : A → B) (test : A → Bool) (x : A) (xs : List A)
    → map make (filter test (x ∷ [])) ++ map make (filter test xs) ≡ map make (filter test (x ∷ xs))
kept_more make test x xs = kept_first make test x xs (test x) refl
