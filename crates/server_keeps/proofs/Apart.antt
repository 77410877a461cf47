-- Subscriptions of which no two have one id.
use Rattle.std.proofs.Common.{◌≡◌, ℕ, ◌==◌, List, [], ◌∷◌, ◌++◌, Bool, true, false, not, cond, Some, map, filter, refl, sym, ap, ◌∙◌, subst, arith}
use Rattle.std.specs.List.{AllByRecursion}
use Rattle.std.proofs.lemmas.Bool.Decides.{nat_tests}
use Rattle.subscription.specs.State.{SubState}
use Rattle.server_rules.specs.State.{changed_if, is_sub, sub_at, without_sub}
use Rattle.server_keeps.specs.Fitting.{AreApart, FitsSub}
use Rattle.server_keeps.proofs.Lists.{all_filter, all_map, all_more, choice}

-- it isn't the one of this id
abbrev pub IsOther : ℕ → SubState → Type 0
IsOther id sub = is_sub id sub ≡ false

same_other : (id : ℕ) (one other : SubState) → other.spec.id ≡ one.spec.id → IsOther id one → IsOther id other
same_other id one other same h = ap (λ n. n == id) same ∙ h

pub apart_map : (f : SubState → SubState) → ((sub : SubState) → (f sub).spec.id ≡ sub.spec.id) → (subs : List SubState) → AreApart subs → AreApart (map f subs)
apart_map f same [] h = tt
apart_map f same (sub ∷ subs) h = (
  all_map (IsOther sub.spec.id) (IsOther (f sub).spec.id) f
      (λ other is. subst (λ n. IsOther n (f other)) (sym (same sub)) (same_other sub.spec.id other (f other) (same other) is)) subs h.0,
  apart_map f same subs h.1,
)

pub apart_filter : (test : SubState → Bool) (subs : List SubState) → AreApart subs → AreApart (filter test subs)
apart_filter test [] h = tt
apart_filter test (sub ∷ subs) h =
    choice AreApart (test sub) (sub ∷ filter test subs) (filter test subs)
    (all_filter (IsOther sub.spec.id) test subs h.0, apart_filter test subs h.1) (apart_filter test subs h.1)

apart_more : (new : SubState) (subs : List SubState) → AllByRecursion (λ sub. IsOther sub.spec.id new) subs → AreApart subs → AreApart (subs ++ new ∷ [])
apart_more new [] others h = (tt, tt)
apart_more new (sub ∷ subs) others h =
    (all_more (IsOther sub.spec.id) subs new h.0 others.0, apart_more new subs others.1 h.1)

swapped : (m n : ℕ) → (m == n) ≡ false → (n == m) ≡ false
swapped m n test = grind (arith, nat_tests)

others_left : (id : ℕ) (new : SubState) → new.spec.id ≡ id → (subs : List SubState) → AllByRecursion (λ sub. IsOther sub.spec.id new) (without_sub id subs)
others_left id new same [] = tt
others_left id new same (sub ∷ subs) = by_test (is_sub id sub) refl (others_left id new same subs)
  where
    by_test : (b : Bool) → is_sub id sub ≡ b → AllByRecursion (λ one. IsOther one.spec.id new) (without_sub id subs)
        → AllByRecursion (λ one. IsOther one.spec.id new) (cond (not b) (sub ∷ without_sub id subs) (without_sub id subs))
    by_test true test rest = rest
    by_test false test rest = (ap (λ n. n == sub.spec.id) same ∙ swapped sub.spec.id id test, rest)

-- a new one, after the one of its id went
pub apart_new : (id : ℕ) (new : SubState) (subs : List SubState) → new.spec.id ≡ id → AreApart subs → AreApart (without_sub id subs ++ new ∷ [])
apart_new id new subs same h =
    apart_more new (without_sub id subs) (others_left id new same subs) (apart_filter (λ sub. not (is_sub id sub)) subs h)

pub changed_same : (id : ℕ) (change : SubState → SubState) → ((sub : SubState) → (change sub).spec.id ≡ sub.spec.id)
    → (sub : SubState) → (changed_if id change sub).spec.id ≡ sub.spec.id
changed_same id change same sub = choice (λ (one : SubState). one.spec.id ≡ sub.spec.id) (is_sub id sub) (change sub) sub (same sub) refl

-- those of other ids stay
others_stay : (id : ℕ) (change : SubState → SubState) (subs : List SubState) → AllByRecursion (IsOther id) subs → AllByRecursion FitsSub subs
    → AllByRecursion FitsSub (map (changed_if id change) subs)
others_stay id change [] others h = tt
others_stay id change (sub ∷ subs) others h =
    (subst (λ b. FitsSub (cond b (change sub) sub)) (sym others.0) h.0, others_stay id change subs others.1 h.1)

pub all_changed : (id : ℕ) (change : SubState → SubState) (subs : List SubState) → AreApart subs → AllByRecursion FitsSub subs
    → ((sub : SubState) → sub_at id subs ≡ Some sub → FitsSub sub → FitsSub (change sub)) → AllByRecursion FitsSub (map (changed_if id change) subs)
all_changed id change [] apart h step = tt
all_changed id change (sub ∷ subs) apart h step =
    by_test (is_sub id sub) refl (λ same. all_changed id change subs apart.1 h.1 (λ one is fits. step one (same ∙ is) fits))
  where
    by_test : (b : Bool) → is_sub id sub ≡ b → (sub_at id (sub ∷ subs) ≡ sub_at id subs → AllByRecursion FitsSub (map (changed_if id change) subs))
        → AllByRecursion FitsSub (cond b (change sub) sub ∷ map (changed_if id change) subs)
    by_test true test rest =
        let own : sub.spec.id ≡ id = grind (arith, nat_tests) in (
          step sub (ap (λ b. cond b (Some sub) (sub_at id subs)) test) h.0,
          others_stay id change subs (subst (λ n. AllByRecursion (IsOther n) subs) own apart.0) h.1,
        )
    by_test false test rest = (h.0, rest (ap (λ b. cond b (Some sub) (sub_at id subs)) test))
