-- Places in lists that are joined, and orders of joined lists.
use Rattle.std.proofs.Common.{◌≡◌, ◌≤◌, ◌<◌, ℕ, zero, suc, ◌-◌, ◌==◌, List, [], ◌∷◌, ◌++◌, Bool, true, false, cond, map, filter, length, Some, refl, sym, ap, ◌∙◌, append_assoc, arith, slice_get}
use Rattle.std.specs.Prelude.{take}
use Rattle.ua_channel.specs.declared.wire.Order.{Order}
use Rattle.ua_channel.specs.Orders.{put_by, puts_of}
use Rattle.ua_channel.specs.Sharing.{own}
use Rattle.ua_channel.specs.State.{WireState}
use Rattle.ua_channel.specs.declared.heard.Heard.{Heard}
use Rattle.server_answers.specs.Turns.{AreNoPublish}

-- ---- orders

pub own_join : (k : ℕ) (one more : List (ℕ × Order)) → own k (one ++ more) ≡ own k one ++ own k more
own_join k [] more = refl
own_join k (o ∷ one) more =
    ap (λ (l : List Order). cond (o.0 == k) (o.1 ∷ []) [] ++ l) (own_join k one more)
    ∙ sym (append_assoc (cond (o.0 == k) (o.1 ∷ []) []) (own k one) (own k more))

pub puts_join : (one more : List Order) → puts_of (one ++ more) ≡ puts_of one ++ puts_of more
puts_join [] more = refl
puts_join (o ∷ one) more =
    ap (λ (l : List WireState). put_by o ++ l) (puts_join one more) ∙ sym (append_assoc (put_by o) (puts_of one) (puts_of more))

pub map_join : {A B : Type 0} (f : A → B) (one more : List A) → map f (one ++ more) ≡ map f one ++ map f more
map_join f [] more = refl
map_join f (x ∷ one) more = ap (λ l. f x ∷ l) (map_join f one more)

-- ---- places

pub place_before : {A : Type 0} (one more : List A) (k : ℕ) → k < length one → slice_get (one ++ more) k ≡ slice_get one k
place_before [] more k low = absurd (omega arith)
place_before (x ∷ one) more zero low = refl
place_before (x ∷ one) more (suc k) low = place_before one more k (omega arith)

pub place_behind : {A : Type 0} (one more : List A) (k : ℕ) → length one ≤ k → slice_get (one ++ more) k ≡ slice_get more (k - length one)
place_behind [] more k high = ap (λ (i : ℕ). slice_get more i) (omega arith)
place_behind (x ∷ one) more zero high = absurd (omega arith)
place_behind (x ∷ one) more (suc k) high = place_behind one more k (omega arith) ∙ ap (λ (i : ℕ). slice_get more i) (omega arith)

pub place_of_one : {A : Type 0} (x y : A) (k : ℕ) → slice_get (x ∷ []) k ≡ Some y → (k ≡ 0) × (x ≡ y)
place_of_one x y zero is = (refl, cc)
place_of_one x y (suc k) is = absurd cc

pub first_passes : {A : Type 0} (test : A → Bool) (xs : List A) (x : A) (more : List A) → filter test xs ≡ x ∷ more → test x ≡ true
first_passes test [] x more is = absurd cc
first_passes {A} test (one ∷ xs) x more is = by_test (test one) refl is (first_passes test xs x more)
  where
    by_test : (b : Bool) → test one ≡ b → cond b (one ∷ filter test xs) (filter test xs) ≡ x ∷ more
        → (filter test xs ≡ x ∷ more → test x ≡ true) → test x ≡ true
    by_test true same found rest =
        let first : one ≡ x = cc in
        ap test (sym first) ∙ same
    by_test false same found rest = rest found

-- ---- what was heard

pub none_before : (one more : List Heard) → AreNoPublish (one ++ more) → AreNoPublish one
none_before [] more h = tt
none_before (x ∷ one) more h = (h.0, none_before one more h.1)

pub none_behind : (one more : List Heard) → AreNoPublish (one ++ more) → AreNoPublish more
none_behind [] more h = h
none_behind (x ∷ one) more h = none_behind one more h.1

pub none_first : (n : ℕ) (one more : List Heard) → AreNoPublish (take n (one ++ more)) → AreNoPublish (take n one)
none_first zero one more h = tt
none_first (suc n) [] more h = tt
none_first (suc n) (x ∷ one) more h = (h.0, none_first n one more h.1)
