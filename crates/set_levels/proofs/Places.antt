-- Places in lists that are told of each other.
use Rattle.std.proofs.Common.{◌≡◌, ℕ, zero, suc, ◌==◌, List, [], ◌∷◌, ◌++◌, length, slice_get, filter, map, Bool, true, false, cond, Some, refl, sym, ap, ◌∙◌, subst, arith, inl, inr}
use Rattle.std.specs.List.{AllByRecursion}
use Rattle.ua_channel.specs.declared.heard.Heard.{Heard}
use Rattle.ua_channel.specs.declared.wire.Order.{Order}
use Rattle.ua_channel.specs.declared.wire.Order.TheVariants as order
use Rattle.ua_channel.specs.Orders.{puts_of}
use Rattle.ua_channel.specs.State.{WireState}
use Rattle.server_rules.specs.Step as server
use Rattle.server_laws.specs.Facts.{IsWithin}
use Rattle.server_laws.proofs.Within.{none_within}
use Rattle.link_rules.specs.Said.{Told}
use Rattle.set_talks.specs.Heard.{AreHeardOf, IsHeardOf}
use Rattle.set_talks.specs.Lives.{heard_by, heard_on}
use Rattle.client_askings.specs.Reading.{AreReadAs, ReadsAs}

-- ---- parts of lists

pub all_behind : {A : Type 0} (P : A → Type 0) (one other : List A) → AllByRecursion P (one ++ other) → AllByRecursion P other
all_behind P [] other h = h
all_behind P (x ∷ one) other h = all_behind P one other h.1

pub all_join : {A : Type 0} (P : A → Type 0) (one other : List A) → AllByRecursion P one → AllByRecursion P other → AllByRecursion P (one ++ other)
all_join P [] other h k = k
all_join P (x ∷ one) other h k = (h.0, all_join P one other h.1 k)

pub all_to : {A : Type 0} (P Q : A → Type 0) → ((a : A) → P a → Q a) → (list : List A) → AllByRecursion P list → AllByRecursion Q list
all_to P Q step [] h = tt
all_to P Q step (x ∷ list) h = (step x h.0, all_to P Q step list h.1)

pub all_map : {A B : Type 0} (P : A → Type 0) (Q : B → Type 0) (f : A → B) → ((a : A) → P a → Q (f a)) → (list : List A) → AllByRecursion P list
    → AllByRecursion Q (map f list)
all_map P Q f step [] h = tt
all_map P Q f step (x ∷ list) h = (step x h.0, all_map P Q f step list h.1)

pub all_filter : {A : Type 0} (P : A → Type 0) (test : A → Bool) (list : List A) → AllByRecursion P list → AllByRecursion P (filter test list)
all_filter P test [] h = tt
all_filter P test (x ∷ list) h = by_test (test x) (all_filter P test list h.1)
  where
    by_test : (b : Bool) → AllByRecursion P (filter test list) → AllByRecursion P (cond b (x ∷ filter test list) (filter test list))
    by_test true rest = (h.0, rest)
    by_test false rest = rest

pub all_within : {A : Type 0} (P : A → Type 0) (x : A) (list : List A) → IsWithin (x ∷ []) list → AllByRecursion P list → P x
all_within P x [] h all = let is : x ∷ [] ≡ [] = h in absurd cc
all_within P x (y ∷ list) (inl h) all = all_within P x list h all.1
all_within P x (y ∷ list) (inr h) all =
    let is : x ∷ [] ≡ y ∷ h.0 = h.1 in
    let same : y ≡ x = cc in
    subst P same all.0

pub all_at : {A : Type 0} (P : A → Type 0) (list : List A) (place : ℕ) (x : A) → AllByRecursion P list → slice_get list place ≡ Some x → P x
all_at P [] place x all is = absurd cc
all_at P (y ∷ list) zero x all is = let same : y ≡ x = cc in subst P same all.0
all_at P (y ∷ list) (suc place) x all is = all_at P list place x all.1 is

pub place_behind : {A : Type 0} (one : List A) (x : A) (more : List A) → slice_get (one ++ x ∷ more) (length one) ≡ Some x
place_behind [] x more = refl
place_behind (y ∷ one) x more = place_behind one x more

-- ---- messages that are put

-- what is put at a place is put there
pub put_at : (orders : List Order) (place : ℕ) (wire : WireState) → slice_get (puts_of orders) place ≡ Some wire → IsWithin (order.Put wire ∷ []) orders
put_at [] place wire is = absurd cc
put_at (order.Put w ∷ orders) zero wire is =
    let same : w ≡ wire = cc in
    inr ([], ap (λ (x : WireState). order.Put x ∷ []) (sym same), none_within orders)
put_at (order.Put w ∷ orders) (suc place) wire is = inl (put_at orders place wire is)
put_at (order.Limit l ∷ orders) place wire is = inl (put_at orders place wire is)
put_at (order.Renew channel token ∷ orders) place wire is = inl (put_at orders place wire is)

-- ---- messages that are heard of those

-- a message is heard of the one at this place
pub record IsHeardAt (h : Heard) (place : ℕ) (wires : List WireState) : Type 0 where
  pub wire : WireState
  pub at : slice_get wires place ≡ Some wire
  pub of : IsHeardOf h wire

pub heard_at : (heard : List Heard) (wires : List WireState) (place : ℕ) (h : Heard) → AreHeardOf heard wires → slice_get heard place ≡ Some h
    → IsHeardAt h place wires
heard_at [] wires place h are is = absurd cc
heard_at (x ∷ more) [] place h are is = absurd are
heard_at (x ∷ more) (wire ∷ wires) zero h are is =
    let same : x ≡ h = cc in
    record { wire = wire; at = refl; of = subst (λ (y : Heard). IsHeardOf y wire) same are.0 }
heard_at (x ∷ more) (wire ∷ wires) (suc place) h are is =
    let r = heard_at more wires place h are.1 is in
    record { wire = r.wire; at = r.at; of = r.of }

-- ---- what is heard on a connection of a life

own_heard : (b : Bool) (conn other : ℕ) (h : Heard) → (other == conn) ≡ b → other ≡ conn → cond b (h ∷ []) [] ≡ h ∷ []
own_heard true conn other h test same = refl
own_heard false conn other h test same = absurd (grind (arith))

-- what is heard at one time is at the place behind what was heard before
pub heard_then : (conn : ℕ) (later : List server.Happening) (h : Heard) (earlier : List server.Happening)
    → slice_get (heard_on conn (later ++ server.Hears conn h ∷ earlier)) (length (heard_on conn earlier)) ≡ Some h
heard_then conn [] h earlier =
    ap (λ (l : List Heard). slice_get (heard_on conn earlier ++ l) (length (heard_on conn earlier))) (own_heard (conn == conn) conn conn h refl refl)
    ∙ place_behind (heard_on conn earlier) h []
heard_then conn (happening ∷ later) h earlier =
    before (heard_on conn (later ++ server.Hears conn h ∷ earlier)) (heard_by conn happening) (length (heard_on conn earlier)) h
    (heard_then conn later h earlier)
  where
    before : (one more : List Heard) (place : ℕ) (x : Heard) → slice_get one place ≡ Some x → slice_get (one ++ more) place ≡ Some x
    before [] more place x is = absurd cc
    before (y ∷ one) more zero x is = is
    before (y ∷ one) more (suc place) x is = before one more place x is

-- ---- messages that are read

-- a message is read as the one that was told at this place
pub record IsReadAt (h : Heard) (place : ℕ) (told : List Told) : Type 0 where
  pub one : Told
  pub at : slice_get told place ≡ Some one
  pub as_told : ReadsAs one h

pub read_at : (heard : List Heard) (told : List Told) (place : ℕ) (h : Heard) → AreReadAs heard told → slice_get heard place ≡ Some h
    → IsReadAt h place told
read_at [] told place h are is = absurd cc
read_at (x ∷ more) [] place h are is = absurd are
read_at (x ∷ more) (one ∷ told) zero h are is =
    let same : x ≡ h = cc in
    record { one = one; at = refl; as_told = subst (λ (y : Heard). ReadsAs one y) same are.0 }
read_at (x ∷ more) (one ∷ told) (suc place) h are is =
    let r = read_at more told place h are.1 is in
    record { one = r.one; at = r.at; as_told = r.as_told }
