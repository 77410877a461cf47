-- What is kept of the owners.
use Rattle.std.proofs.Common.{◌≡◌, ℕ, List, [], ◌∷◌, ◌++◌, Bool, true, false, cond, not, Option, Some, None, refl, sym, ◌∙◌, ap, ap₂, arith}
use Rattle.std.specs.List.{All, filter}
use Rattle.std.specs.Prelude.{map, ◌==◌, IfSome, is_some}
use Rattle.std.specs.Option.{option_or}
use Rattle.std.proofs.lemmas.Bool.Decides.{nat_tests, Decides-eqb}
use Rattle.std.proofs.lemmas.List.Elements.{All-map, All-weaker}
use Rattle.std.proofs.lemmas.List.Folds.{find-append}
use Rattle.sessions.specs.declared.ownership.Ownership.{Ownership}
use Rattle.sessions.specs.declared.session.Session.{Session}
use Rattle.sessions.specs.Session.{is_numbered}
use Rattle.sessions.specs.Sound.{AreApart, IsOwned}
use Rattle.sessions.specs.Table.{closed, given_to, keeps, lives, owned, owned_among, owned_by, owner_among, ownership_of, session_at}
use Rattle.sessions.specs.State.{SessionsState}

-- an owner that is kept exists
alive_test : (sessions : List Session) (owner : ℕ) (b : Bool) → lives owner sessions ≡ b
    → IfSome (cond b (Some owner) None) (λ kept. lives kept sessions ≡ true)
alive_test sessions owner true is = is
alive_test sessions owner false is = tt

alive_owner : (sessions : List Session) (owner : Option ℕ) → IfSome (owner_among sessions owner) (λ kept. lives kept sessions ≡ true)
alive_owner sessions None = tt
alive_owner sessions (Some owner) = alive_test sessions owner _ refl

pub owners_among : (sessions : List Session) (owned : List Ownership) → All (IsOwned sessions) (map (owned_among sessions) owned)
owners_among sessions owned =
    All-map (IsOwned sessions) (owned_among sessions) owned (λ place d within. alive_owner sessions _)

-- where the same sessions exist, the same owners do
still_owner : (before after : List Session) (owner : Option ℕ) → ((counter : ℕ) → lives counter after ≡ lives counter before)
    → IfSome owner (λ kept. lives kept before ≡ true) → IfSome owner (λ kept. lives kept after ≡ true)
still_owner before after None same h = tt
still_owner before after (Some owner) same h = same owner ∙ h

pub owners_stay : (before after : List Session) (owned : List Ownership) → ((counter : ℕ) → lives counter after ≡ lives counter before)
    → All (IsOwned before) owned → All (IsOwned after) owned
owners_stay before after owned same h =
    All-weaker (IsOwned before) (IsOwned after) (λ ownership. still_owner before after ownership.owner same) owned h

-- what is kept of a subscription when owners leave
abbrev pub among : Option Ownership → List Session → Option Ownership
among None sessions = None
among (Some ownership) sessions = Some (owned_among sessions ownership)

kept_test : (ownership : Ownership) (more : Option Ownership) (sessions : List Session) (b : Bool)
    → cond b (Some (owned_among sessions ownership)) (among more sessions) ≡ among (cond b (Some ownership) more) sessions
kept_test ownership more sessions true = refl
kept_test ownership more sessions false = refl

pub kept_among : (id : ℕ) (sessions : List Session) (owned : List Ownership)
    → ownership_of id (map (owned_among sessions) owned) ≡ among (ownership_of id owned) sessions
kept_among id sessions [] = refl
kept_among id sessions (ownership ∷ owned) =
    ap (λ more. cond (ownership.id == id) (Some (owned_among sessions ownership)) more) (kept_among id sessions owned)
    ∙ kept_test ownership (ownership_of id owned) sessions (ownership.id == id)

pub apart_among : (sessions : List Session) (owned : List Ownership) → AreApart owned → AreApart (map (owned_among sessions) owned)
apart_among sessions [] apart = tt
apart_among sessions (ownership ∷ owned) apart =
    (kept_among ownership.id sessions owned ∙ ap (λ kept. among kept sessions) apart.0, apart_among sessions owned apart.1)

-- what is not kept is not kept in a part
none_step : (id : ℕ) (ownership : Ownership) (more : Option Ownership) (kept : List Ownership) (m k : Bool) → (ownership.id == id) ≡ m
    → cond m (Some ownership) more ≡ None → (more ≡ None → ownership_of id kept ≡ None)
    → ownership_of id (cond k (ownership ∷ kept) kept) ≡ None
none_step id ownership more kept true k is none rest = absurd cc
none_step id ownership more kept false true is none rest = rw is (rest none)
none_step id ownership more kept false false is none rest = rest none

none_part : (p : Ownership → Bool) (id : ℕ) (owned : List Ownership) → ownership_of id owned ≡ None → ownership_of id (filter p owned) ≡ None
none_part p id [] none = refl
none_part p id (ownership ∷ owned) none =
    none_step id ownership (ownership_of id owned) (filter p owned) _ (p ownership) refl none (none_part p id owned)

apart_step : (ownership : Ownership) (kept : List Ownership) (k : Bool) → ownership_of ownership.id kept ≡ None → AreApart kept
    → AreApart (cond k (ownership ∷ kept) kept)
apart_step ownership kept true none apart = (none, apart)
apart_step ownership kept false none apart = apart

pub apart_part : (p : Ownership → Bool) (owned : List Ownership) → AreApart owned → AreApart (filter p owned)
apart_part p [] apart = tt
apart_part p (ownership ∷ owned) apart =
    apart_step ownership (filter p owned) (p ownership) (none_part p ownership.id owned apart.0) (apart_part p owned apart.1)

-- what is kept is none where nothing is
none_kept : (kept : Option Ownership) → is_some kept ≡ false → kept ≡ None
none_kept None is = refl
none_kept (Some ownership) is = absurd cc

pub not_kept : (id : ℕ) (owned : List Ownership) → keeps id owned ≡ false → ownership_of id owned ≡ None
not_kept id owned is = none_kept (ownership_of id owned) is

-- a subscription of which nothing was kept is apart from the others
other_id : (first second : ℕ) (ownership : Ownership) (more : Option Ownership) (m : Bool) → (first == second) ≡ m → cond m (Some ownership) more ≡ None
    → ((second == first) ≡ false) × (more ≡ None)
other_id first second ownership more true is none = absurd cc
other_id first second ownership more false is none = (grind (arith, nat_tests), none)

pub found_last : (id : ℕ) (owned : List Ownership) (ownership : Ownership) → ownership_of id owned ≡ None
    → ownership_of id (owned ++ ownership ∷ []) ≡ cond (ownership.id == id) (Some ownership) None
found_last id owned ownership none =
    find-append (λ kept. kept.id == id) owned (ownership ∷ []) ∙ ap (λ kept. option_or kept (cond (ownership.id == id) (Some ownership) None)) none

pub apart_more : (owned : List Ownership) (ownership : Ownership) → AreApart owned → ownership_of ownership.id owned ≡ None
    → AreApart (owned ++ ownership ∷ [])
apart_more [] ownership apart none = (refl, tt)
apart_more (first ∷ owned) ownership apart none =
    let other = other_id first.id ownership.id first (ownership_of ownership.id owned) _ refl none in
    (found_last first.id owned ownership apart.0 ∙ ap (λ b. cond b (Some ownership) None) other.0, apart_more owned ownership apart.1 other.1)

-- a session that is closed is no more
closed_step : (counter : ℕ) (session : Session) (kept : List Session) (b : Bool) → is_numbered counter session ≡ b → lives counter kept ≡ false
    → lives counter (cond (not b) (session ∷ kept) kept) ≡ false
closed_step counter session kept true is rest = rest
closed_step counter session kept false is rest = rw is rest

lives_closed : (counter : ℕ) (sessions : List Session) → lives counter (filter (λ session. not (is_numbered counter session)) sessions) ≡ false
lives_closed counter [] = refl
lives_closed counter (session ∷ sessions) =
    closed_step counter session (filter (λ session. not (is_numbered counter session)) sessions) _ refl (lives_closed counter sessions)

-- a session that is given a subscription owns it
pub same_number : (counter : ℕ) (sessions : List Session) (session : Session) → session_at counter sessions ≡ Some session → session.counter ≡ counter
same_number counter [] session is = absurd cc
same_number counter (first ∷ sessions) session is = by_test (first.counter == counter) refl is (same_number counter sessions session)
  where
    by_test : (b : Bool) → (first.counter == counter) ≡ b → cond b (Some first) (session_at counter sessions) ≡ Some session
        → (session_at counter sessions ≡ Some session → session.counter ≡ counter) → session.counter ≡ counter
    by_test true test chosen rest = let same : first ≡ session = cc in ap (λ s. s.counter) (sym same) ∙ (Decides-eqb first.counter counter).0 test
    by_test false test chosen rest = rest chosen

itself : (id : ℕ) → (id == id) ≡ true
itself id = (Decides-eqb id id).1 refl

pub owns : (id counter : ℕ) (session : Session) (state : SessionsState) → keeps id state.owned ≡ false
    → session_at counter state.sessions ≡ Some session
    → ownership_of id (owned id counter state).owned ≡ Some (record { id = id; owner = Some counter; uri = session.uri })
owns id counter session state fresh is =
    let none = not_kept id state.owned fresh in
    let numbered = same_number counter state.sessions session is in
    ap (λ by. ownership_of id (owned_by id by state).owned) is
    ∙ found_last id state.owned (record { id = id; owner = Some session.counter; uri = session.uri }) none
    ∙ ap (λ b. cond b (Some (record { id = id; owner = Some session.counter; uri = session.uri })) None) (itself id)
    ∙ ap (λ owner. Some (record { id = id; owner = Some owner; uri = session.uri })) numbered

pub leaves : (id counter : ℕ) (ownership : Ownership) (state : SessionsState) → ownership_of id state.owned ≡ Some ownership
    → ownership.owner ≡ Some counter
    → ownership_of id (closed counter state).owned ≡ Some (record ownership { owner = None })
leaves id counter ownership state is by =
    let left = (closed counter state).sessions in
    let gone : owner_among left (Some counter) ≡ None = ap (λ b. cond b (Some counter) None) (lives_closed counter state.sessions) in
    kept_among id left state.owned
    ∙ ap (λ kept. among kept left) is
    ∙ ap (λ owner. Some (record ownership { owner = owner })) (ap (owner_among left) by ∙ gone)

-- a subscription that goes to a session that exists has an owner that exists
given_owner : (id to : ℕ) (sessions : List Session) (ownership : Ownership) → lives to sessions ≡ true → IsOwned sessions ownership
    → IsOwned sessions (given_to id to ownership)
given_owner id to sessions ownership exists h = by_test (ownership.id == id)
  where
    by_test : (b : Bool) → IsOwned sessions (cond b (record ownership { owner = Some to }) ownership)
    by_test true = exists
    by_test false = h

pub owners_given : (id to : ℕ) (sessions : List Session) (owned : List Ownership) → lives to sessions ≡ true → All (IsOwned sessions) owned
    → All (IsOwned sessions) (map (given_to id to) owned)
owners_given id to sessions owned exists h =
    All-map (IsOwned sessions) (given_to id to) owned
    (All-weaker (IsOwned sessions) (λ ownership. IsOwned sessions (given_to id to ownership))
    (λ ownership. given_owner id to sessions ownership exists) owned h)

given_id : (id to : ℕ) (ownership : Ownership) → (given_to id to ownership).id ≡ ownership.id
given_id id to ownership = by_test (ownership.id == id)
  where
    by_test : (b : Bool) → (cond b (record ownership { owner = Some to }) ownership).id ≡ ownership.id
    by_test true = refl
    by_test false = refl

-- what is kept of a subscription when one is given to a session
abbrev pub given_kept : ℕ → ℕ → Option Ownership → Option Ownership
given_kept id to None = None
given_kept id to (Some ownership) = Some (given_to id to ownership)

given_test : (id to : ℕ) (ownership : Ownership) (more : Option Ownership) (b : Bool)
    → cond b (Some (given_to id to ownership)) (given_kept id to more) ≡ given_kept id to (cond b (Some ownership) more)
given_test id to ownership more true = refl
given_test id to ownership more false = refl

pub kept_given : (other id to : ℕ) (owned : List Ownership) → ownership_of other (map (given_to id to) owned) ≡ given_kept id to (ownership_of other owned)
kept_given other id to [] = refl
kept_given other id to (ownership ∷ owned) =
    ap₂ (λ n more. cond (n == other) (Some (given_to id to ownership)) more) (given_id id to ownership) (kept_given other id to owned)
    ∙ given_test id to ownership (ownership_of other owned) (ownership.id == other)

pub apart_given : (id to : ℕ) (owned : List Ownership) → AreApart owned → AreApart (map (given_to id to) owned)
apart_given id to [] apart = tt
apart_given id to (ownership ∷ owned) apart = (
  ap (λ n. ownership_of n (map (given_to id to) owned)) (given_id id to ownership)
      ∙ kept_given ownership.id id to owned
      ∙ ap (given_kept id to) apart.0,
  apart_given id to owned apart.1,
)
