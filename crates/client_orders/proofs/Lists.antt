-- Lists of links, and lists of orders.
use Rattle.std.proofs.Common.{◌≡◌, ◌≢◌, ℕ, zero, suc, ◌<◌, ◌==◌, List, [], ◌∷◌, ◌++◌, true, false, cond, length, slice_index_or, slice_set, refl, sym, ap, ◌∙◌, arith}
use Rattle.std.specs.List.{AllByRecursion}
use Rattle.std.proofs.lemmas.List.{append_assoc}
use Rattle.ua_chunks.specs.Sending.{Sending}
use Rattle.ua_channel.specs.declared.wire.Order.{Order}
use Rattle.ua_channel.specs.Arriving.{AreLawful, after_order, after_orders}
use Rattle.ua_channel.specs.Sharing.{own, own_first}
use Rattle.client_rules.specs.Links.{ordered}

-- ---- places

pub all_set : {A : Type 0} (P : A → Type 0) (xs : List A) (i : ℕ) (a : A) → AllByRecursion P xs → P a → AllByRecursion P (slice_set xs i a)
all_set P [] i a all one = tt
all_set P (x ∷ xs) zero a all one = (one, all.1)
all_set P (x ∷ xs) (suc i) a all one = (all.0, all_set P xs i a all.1 one)

pub all_at : {A : Type 0} (P : A → Type 0) (xs : List A) (i : ℕ) (d : A) → AllByRecursion P xs → P d → P (slice_index_or xs i d)
all_at P [] i d all one = one
all_at P (x ∷ xs) zero d all one = all.0
all_at P (x ∷ xs) (suc i) d all one = all_at P xs i d all.1 one

pub set_long : {A : Type 0} (xs : List A) (i : ℕ) (a : A) → length (slice_set xs i a) ≡ length xs
set_long [] i a = refl
set_long (x ∷ xs) zero a = refl
set_long (x ∷ xs) (suc i) a = ap suc (set_long xs i a)

pub set_here : {A : Type 0} (xs : List A) (i : ℕ) (a d : A) → i < length xs → slice_index_or (slice_set xs i a) i d ≡ a
set_here [] i a d less = absurd (omega arith)
set_here (x ∷ xs) zero a d less = refl
set_here (x ∷ xs) (suc i) a d less = set_here xs i a d (omega arith)

pub set_elsewhere : {A : Type 0} (xs : List A) (i j : ℕ) (a d : A) → i ≢ j
    → slice_index_or (slice_set xs i a) j d ≡ slice_index_or xs j d
set_elsewhere [] i j a d other = refl
set_elsewhere (x ∷ xs) zero zero a d other = absurd (other refl)
set_elsewhere (x ∷ xs) zero (suc j) a d other = refl
set_elsewhere (x ∷ xs) (suc i) zero a d other = refl
set_elsewhere (x ∷ xs) (suc i) (suc j) a d other = set_elsewhere xs i j a d (λ e. other (ap suc e))

-- what is kept where an element is put in place of another, all keep
pub set_keeps : {A : Type 0} (P : A → Type 0) (xs : List A) (i j : ℕ) (a d : A) → (P (slice_index_or xs i d) → P a)
    → P (slice_index_or xs j d) → P (slice_index_or (slice_set xs i a) j d)
set_keeps P [] i j a d keep one = one
set_keeps P (x ∷ xs) zero zero a d keep one = keep one
set_keeps P (x ∷ xs) zero (suc j) a d keep one = one
set_keeps P (x ∷ xs) (suc i) zero a d keep one = one
set_keeps P (x ∷ xs) (suc i) (suc j) a d keep one = set_keeps P xs i j a d keep one

-- ---- orders

pub own_append : (number : ℕ) (xs ys : List (ℕ × Order)) → own number (xs ++ ys) ≡ own number xs ++ own number ys
own_append number [] ys = refl
own_append number (x ∷ xs) ys =
    ap (λ (l : List Order). own_first number x ++ l) (own_append number xs ys)
    ∙ sym (append_assoc (own_first number x) (own number xs) (own number ys))

pub own_same : (server number : ℕ) (orders : List Order) → (server == number) ≡ true → own number (ordered server orders) ≡ orders
own_same server number [] test = refl
own_same server number (o ∷ orders) test =
    ap (λ b. cond b (o ∷ []) [] ++ own number (ordered server orders)) test ∙ ap (λ (l : List Order). o ∷ l) (own_same server number orders test)

pub own_other : (server number : ℕ) (orders : List Order) → (server == number) ≡ false → own number (ordered server orders) ≡ []
own_other server number [] test = refl
own_other server number (o ∷ orders) test =
    ap (λ b. cond b (o ∷ []) [] ++ own number (ordered server orders)) test ∙ own_other server number orders test

pub after_append : (xs ys : List Order) (s : Sending) → after_orders ys (after_orders xs s) ≡ after_orders (xs ++ ys) s
after_append [] ys s = refl
after_append (x ∷ xs) ys s = after_append xs ys (after_order x s)

pub lawful_append : (xs ys : List Order) (s : Sending) → AreLawful xs s → AreLawful ys (after_orders xs s) → AreLawful (xs ++ ys) s
lawful_append [] ys s first second = second
lawful_append (x ∷ xs) ys s first second = (first.0, lawful_append xs ys (after_order x s) first.1 second)

pub all_append : {A : Type 0} (P : A → Type 0) (first more : List A) → AllByRecursion P first → AllByRecursion P more
    → AllByRecursion P (first ++ more)
all_append P [] more first second = second
all_append P (one ∷ first) more all second = (all.0, all_append P first more all.1 second)

pub all_ordered : (P : Order → Type 0) (server : ℕ) (orders : List Order) → AllByRecursion P orders
    → AllByRecursion (λ (o : ℕ × Order). P o.1) (ordered server orders)
all_ordered P server [] all = tt
all_ordered P server (o ∷ orders) all = (all.0, all_ordered P server orders all.1)
