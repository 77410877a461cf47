-- Two orders, one after the other.
use Rattle.std.proofs.Common.{◌≡◌, ◌∙◌, ◌++◌, List, [], ◌∷◌, append_assoc, ap, refl}

pub two_said : {A : Type 0} (to mid new : List A) (a b c d : A) → mid ≡ to ++ a ∷ [] → new ≡ mid ++ b ∷ []
    → a ≡ c → b ≡ d → new ≡ to ++ c ∷ d ∷ []
two_said to mid new a b c d mid_is new_is a_is b_is = rw (new_is, mid_is, a_is, b_is) (append_assoc to (c ∷ []) (d ∷ []))
