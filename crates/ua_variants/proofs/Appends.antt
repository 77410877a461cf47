-- What several appends give together.
use Rattle.std.proofs.Common.{◌≡◌, ℕ, List, ◌++◌, Result, Ok, Err, OnOk, ap, ◌∙◌, append_assoc}

on_ok : {T E : Type 0} (r : Result T E) (P Q : Type 0) → (P → Q) → OnOk r P → OnOk r Q
on_ok (Ok t) P Q f p = f p
on_ok (Err e) P Q f p = p

pub two : {T E : Type 0} (r : Result T E) (a b c x y : List ℕ) → b ≡ a ++ x → OnOk r (c ≡ b ++ y) → OnOk r (c ≡ a ++ (x ++ y))
two r a b c x y first = on_ok r (c ≡ b ++ y) (c ≡ a ++ (x ++ y)) (λ second. second ∙ ap (λ (l : List ℕ). l ++ y) first ∙ append_assoc a x y)

pub three : {T E : Type 0} (r : Result T E) (a b c d x y z : List ℕ) → b ≡ a ++ x → c ≡ b ++ y → OnOk r (d ≡ c ++ z) → OnOk r (d ≡ a ++ (x ++ y ++ z))
three r a b c d x y z first second = two r a c d (x ++ y) z (second ∙ ap (λ (l : List ℕ). l ++ y) first ∙ append_assoc a x y)

pub four : {T E : Type 0} (r : Result T E) (a b c d e x y z w : List ℕ) → b ≡ a ++ x → c ≡ b ++ y → d ≡ c ++ z → OnOk r (e ≡ d ++ w) → OnOk r (e ≡ a ++ (x ++ (y ++ z) ++ w))
four r a b c d e x y z w first second third =
    three r a b d e x (y ++ z) w first (third ∙ ap (λ (l : List ℕ). l ++ z) second ∙ append_assoc b y z)
