-- Lists that are within others, in order.
use Rattle.std.proofs.Common.{◌≡◌, List, [], ◌∷◌, ◌++◌, refl, sym, ap, subst, ◌⊎◌, inl, inr}
use Rattle.link_laws.specs.Acks.{IsWithin}

pub none_within : {A : Type 0} (ys : List A) → IsWithin [] ys
none_within [] = refl
none_within (y ∷ ys) = inl (none_within ys)

pub all_within : {A : Type 0} (xs : List A) → IsWithin xs xs
all_within [] = refl
all_within (x ∷ xs) = inr (xs, refl, all_within xs)

pub within_same : {A : Type 0} (xs ys : List A) → xs ≡ ys → IsWithin xs ys
within_same xs ys same = subst (IsWithin xs) same (all_within xs)

pub within_join : {A : Type 0} (xs ys more others : List A) → IsWithin xs ys → IsWithin more others → IsWithin (xs ++ more) (ys ++ others)
within_join xs [] more others h rest = subst (λ l. IsWithin (l ++ more) others) (sym h) rest
within_join xs (y ∷ ys) more others (inl h) rest = inl (within_join xs ys more others h rest)
within_join xs (y ∷ ys) more others (inr h) rest =
    inr (h.0 ++ more, ap (λ l. l ++ more) h.1, within_join h.0 ys more others h.2 rest)

pub within_less : {A : Type 0} (xs ys more : List A) → IsWithin xs ys → IsWithin xs (ys ++ more)
within_less xs [] more h = subst (λ l. IsWithin l more) (sym h) (none_within more)
within_less xs (y ∷ ys) more (inl h) = inl (within_less xs ys more h)
within_less xs (y ∷ ys) more (inr h) = inr (h.0, h.1, within_less h.0 ys more h.2)

trans_by : {A : Type 0} (xs : List A) (z : A) (rest zs : List A) → ((l : List A) → IsWithin l rest → IsWithin l zs)
    → IsWithin xs rest ⊎ ((more : List A) × (xs ≡ z ∷ more) × IsWithin more rest) → IsWithin xs (z ∷ zs)
trans_by xs z rest zs on (inl h) = inl (on xs h)
trans_by xs z rest zs on (inr h) = inr (h.0, h.1, on h.0 h.2)

pub within_trans : {A : Type 0} (xs ys zs : List A) → IsWithin xs ys → IsWithin ys zs → IsWithin xs zs
within_trans xs ys [] h none = subst (IsWithin xs) none h
within_trans xs ys (z ∷ zs) h (inl more) = inl (within_trans xs ys zs h more)
within_trans xs ys (z ∷ zs) h (inr more) =
    trans_by xs z more.0 zs (λ l within. within_trans l more.0 zs within more.2) (subst (IsWithin xs) more.1 h)
