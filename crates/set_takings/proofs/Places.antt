-- Places in lists that are told of each other.
use Rattle.std.proofs.Common.{◌≡◌, ℕ, zero, suc, ◌==◌, List, [], ◌∷◌, ◌++◌, length, slice_get, Bool, true, false, cond, Some, refl, sym, ap, ap₂, ◌∙◌, subst, arith, inl, inr}
use Rattle.std.specs.Prelude.{Ok, Err, Result, take}
use Rattle.std.specs.List.{AllByRecursion}
use Rattle.ua_channel.specs.declared.heard.Heard.{Heard}
use Rattle.ua_channel.specs.declared.heard.Heard.TheVariants as heard_as
use Rattle.ua_channel.specs.declared.wire.Order.{Order}
use Rattle.ua_channel.specs.declared.wire.Order.TheVariants as order
use Rattle.ua_channel.specs.Orders.{puts_of}
use Rattle.ua_channel.specs.State.{WireState}
use Rattle.ua_sub_msgs.specs.declared.request.SubRequest.TheVariants as sub_request
use Rattle.ua_services.specs.declared.request.Request.{Request}
use Rattle.ua_services.specs.declared.request.Request.TheVariants as request
use Rattle.ua_services.specs.declared.request.RequestFault.{RequestFault}
use Rattle.ua_services.specs.Requests.{request_at}
use Rattle.server_rules.specs.Step as server
use Rattle.server_laws.specs.Facts.{IsWithin}
use Rattle.server_laws.specs.Lockstep.{IsAtOnceOf, IsNoPublish}
use Rattle.server_answers.specs.Turns as turns
use Rattle.link_rules.specs.Said.{Told}
use Rattle.link_laws.specs.Lockstep.{is_publish}
use Rattle.link_takings.specs.Exchange.{NoPublish}
use Rattle.set_talks.specs.Heard.{AreHeardOf, IsHeardOf}
use Rattle.set_talks.specs.Lives as lives
use Rattle.client_askings.specs.Reading.{AreReadAs, ReadsAs}

-- ---- parts of lists

pub all_behind : {A : Type 0} (P : A → Type 0) (one other : List A) → AllByRecursion P (one ++ other) → AllByRecursion P other
all_behind P [] other h = h
all_behind P (x ∷ one) other h = all_behind P one other h.1

pub all_join : {A : Type 0} (P : A → Type 0) (one other : List A) → AllByRecursion P one → AllByRecursion P other → AllByRecursion P (one ++ other)
all_join P [] other h k = k
all_join P (x ∷ one) other h k = (h.0, all_join P one other h.1 k)

pub place_behind : {A : Type 0} (one : List A) (x : A) (more : List A) → slice_get (one ++ x ∷ more) (length one) ≡ Some x
place_behind [] x more = refl
place_behind (y ∷ one) x more = place_behind one x more

-- ---- messages that are put

none_within : {A : Type 0} (all : List A) → IsWithin [] all
none_within [] = refl
none_within (x ∷ all) = inl (none_within all)

-- what is put at a place is put there
pub put_at : (orders : List Order) (place : ℕ) (wire : WireState) → slice_get (puts_of orders) place ≡ Some wire → IsWithin (order.Put wire ∷ []) orders
put_at [] place wire is = absurd cc
put_at (order.Put w ∷ orders) zero wire is =
    let same : w ≡ wire = cc in
    inr ([], ap (λ (x : WireState). order.Put x ∷ []) (sym same), none_within orders)
put_at (order.Put w ∷ orders) (suc place) wire is = inl (put_at orders place wire is)
put_at (order.Limit l ∷ orders) place wire is = inl (put_at orders place wire is)
put_at (order.Renew channel token ∷ orders) place wire is = inl (put_at orders place wire is)

-- ---- messages that are heard of those

-- a message is heard of the one at this place
pub record IsHeardAt (h : Heard) (place : ℕ) (wires : List WireState) : Type 0 where
  pub wire : WireState
  pub at : slice_get wires place ≡ Some wire
  pub of : IsHeardOf h wire

pub heard_at : (heard : List Heard) (wires : List WireState) (place : ℕ) (h : Heard) → AreHeardOf heard wires → slice_get heard place ≡ Some h
    → IsHeardAt h place wires
heard_at [] wires place h are is = absurd cc
heard_at (x ∷ more) [] place h are is = absurd are
heard_at (x ∷ more) (wire ∷ wires) zero h are is =
    let same : x ≡ h = cc in
    record { wire = wire; at = refl; of = subst (λ (y : Heard). IsHeardOf y wire) same are.0 }
heard_at (x ∷ more) (wire ∷ wires) (suc place) h are is =
    let r = heard_at more wires place h are.1 is in
    record { wire = r.wire; at = r.at; of = r.of }

-- ---- what is heard on a connection of a life, in the words of two crates

by_same : (conn : ℕ) (happening : server.Happening) → lives.heard_by conn happening ≡ turns.heard_by conn happening
by_same conn (server.Hears other h) = refl
by_same conn other = refl

pub on_same : (conn : ℕ) (happenings : List server.Happening) → lives.heard_on conn happenings ≡ turns.heard_on conn happenings
on_same conn [] = refl
on_same conn (happening ∷ earlier) = ap₂ (λ (l m : List Heard). l ++ m) (on_same conn earlier) (by_same conn happening)

own_heard : (b : Bool) (conn other : ℕ) (h : Heard) → (other == conn) ≡ b → other ≡ conn → cond b (h ∷ []) [] ≡ h ∷ []
own_heard true conn other h test same = refl
own_heard false conn other h test same = absurd (grind (arith))

-- what is heard at one time is at the place behind what was heard before
pub heard_then : (conn : ℕ) (later : List server.Happening) (h : Heard) (earlier : List server.Happening)
    → slice_get (turns.heard_on conn (later ++ server.Hears conn h ∷ earlier)) (length (turns.heard_on conn earlier)) ≡ Some h
heard_then conn [] h earlier =
    ap (λ (l : List Heard). slice_get (turns.heard_on conn earlier ++ l) (length (turns.heard_on conn earlier))) (own_heard (conn == conn) conn conn h refl refl)
    ∙ place_behind (turns.heard_on conn earlier) h []
heard_then conn (happening ∷ later) h earlier =
    before (turns.heard_on conn (later ++ server.Hears conn h ∷ earlier)) (turns.heard_by conn happening) (length (turns.heard_on conn earlier)) h
    (heard_then conn later h earlier)
  where
    before : (one more : List Heard) (place : ℕ) (x : Heard) → slice_get one place ≡ Some x → slice_get (one ++ more) place ≡ Some x
    before [] more place x is = absurd cc
    before (y ∷ one) more zero x is = is
    before (y ∷ one) more (suc place) x is = before one more place x is

-- ---- messages that are read

pub read_at : (heard : List Heard) (told : List Told) (place : ℕ) (h : Heard) (one : Told) → AreReadAs heard told → slice_get heard place ≡ Some h
    → slice_get told place ≡ Some one → ReadsAs one h
read_at [] told place h one are is also = absurd cc
read_at (x ∷ more) [] place h one are is also = absurd are
read_at (x ∷ more) (y ∷ told) zero h one are is also =
    let first : x ≡ h = cc in
    let second : y ≡ one = cc in
    subst (λ (z : Told). ReadsAs z h) second (subst (λ (z : Heard). ReadsAs y z) first are.0)
read_at (x ∷ more) (y ∷ told) (suc place) h one are is also = read_at more told place h one are.1 is also

-- what is no Publish isn't heard as one
no_publish : (told : Told) (h : Heard) → ReadsAs told h → is_publish told ≡ false → IsNoPublish h
no_publish told (heard_as.Message number body) reads none = by_read (request_at body) refl
  where
    by_read : (r : Result Request RequestFault) → request_at body ≡ r → IsAtOnceOf r
    by_read (Err fault) is = tt
    by_read (Ok (request.Session r)) is = tt
    by_read (Ok (request.Subscription (sub_request.Publish r))) is =
        let asked = reads (request.Subscription (sub_request.Publish r)) is in
        let publishes : is_publish told ≡ true = ap is_publish asked.1 in
        absurd cc
    by_read (Ok (request.Subscription other)) is = tt
no_publish told other reads none = tt

pub none_read : (n : ℕ) (heard : List Heard) (put others : List Told) → AreReadAs heard (put ++ others) → length put ≡ n → NoPublish put
    → turns.AreNoPublish (take n heard)
none_read zero heard put others are long none = tt
none_read (suc n) [] put others are long none = tt
none_read (suc n) (h ∷ more) [] others are long none = absurd (omega (arith, long))
none_read (suc n) (h ∷ more) (one ∷ put) others are long none =
    (no_publish one h are.0 none.0, none_read n more put others are.1 (omega (arith, long)) none.1)
