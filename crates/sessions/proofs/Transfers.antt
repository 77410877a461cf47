-- Which subscriptions go from one session to another.
use Rattle.std.proofs.Common.{◌≡◌, ◌≢◌, ℕ, List, [], ◌∷◌, Bool, true, false, cond, Option, Some, None, refl, sym, ◌∙◌, ap}
use Rattle.std.specs.Prelude.{map, ◌==◌, Ok, Err}
use Rattle.std.proofs.lemmas.Bool.Decides.{Decides-eqb}
use Rattle.std.proofs.lemmas.Slice.Eq.{bytes_eq-Decides}
use Rattle.ua_base.specs.Status.{bad_subscription_id_invalid}
use Rattle.sessions.specs.declared.fault.SessionFault.TheVariants.{Code}
use Rattle.sessions.specs.declared.ownership.Ownership.{Ownership}
use Rattle.sessions.specs.declared.session.Session.{Session}
use Rattle.sessions.specs.State.{SessionsState}
use Rattle.sessions.specs.Table.{given_to, keeps, may_own, may_transfer, ownership_of, same_text, session_at, transfer_answer, transfer_told, transferred}
use Rattle.sessions.proofs.Owners.{given_kept, kept_given, not_kept}

same_bytes : (bytes : List ℕ) → same_text (Some bytes) (Some bytes) ≡ true
same_bytes bytes = (bytes_eq-Decides bytes bytes).1 refl

same_itself : (text : Option (List ℕ)) → same_text text text ≡ true
same_itself None = refl
same_itself (Some bytes) = same_bytes bytes

never : (test : Bool) → (test ≡ true → ⊥) → test ≡ false
never true fails = absurd (fails refl)
never false fails = refl

other_text : (one other : Option (List ℕ)) → one ≢ other → same_text one other ≡ false
other_text None None differs = absurd (differs refl)
other_text None (Some bytes) differs = refl
other_text (Some bytes) None differs = refl
other_text (Some one) (Some other) differs =
    never (same_text (Some one) (Some other)) (λ same. differs (ap (λ (bytes : List ℕ). Some bytes) ((bytes_eq-Decides one other).0 same)))

may : (kept : Option Ownership) (found : Option Session) (ownership : Ownership) (session : Session) → kept ≡ Some ownership → found ≡ Some session
    → may_own kept found ≡ same_text ownership.uri session.uri
may kept found ownership session is at = ap (λ o. may_own o found) is ∙ ap (may_own (Some ownership)) at

refuses : (b : Bool) → b ≡ false → transfer_told b ≡ Err (Code bad_subscription_id_invalid)
refuses b is = ap transfer_told is

pub other_client : (id to : ℕ) (ownership : Ownership) (session : Session) (state : SessionsState)
    → ownership_of id state.owned ≡ Some ownership → session_at to state.sessions ≡ Some session → ownership.uri ≢ session.uri
    → transfer_answer id to state ≡ Err (Code bad_subscription_id_invalid)
other_client id to ownership session state is at differs =
    refuses (may_transfer id to state)
    (may (ownership_of id state.owned) (session_at to state.sessions) ownership session is at ∙ other_text ownership.uri session.uri differs)

pub unknown : (id to : ℕ) (state : SessionsState) → keeps id state.owned ≡ false
    → transfer_answer id to state ≡ Err (Code bad_subscription_id_invalid)
unknown id to state none =
    refuses (may_transfer id to state) (ap (λ o. may_own o (session_at to state.sessions)) (not_kept id state.owned none))

-- what was found under an id has it
found_id : (id : ℕ) (owned : List Ownership) (ownership : Ownership) → ownership_of id owned ≡ Some ownership → ownership.id ≡ id
found_id id [] ownership is = absurd cc
found_id id (first ∷ owned) ownership is = by_test (first.id == id) refl is (found_id id owned ownership)
  where
    by_test : (b : Bool) → (first.id == id) ≡ b → cond b (Some first) (ownership_of id owned) ≡ Some ownership
        → (ownership_of id owned ≡ Some ownership → ownership.id ≡ id) → ownership.id ≡ id
    by_test true test chosen rest = let same : first ≡ ownership = cc in ap (λ o. o.id) (sym same) ∙ (Decides-eqb first.id id).0 test
    by_test false test chosen rest = rest chosen

given_itself : (id to : ℕ) (ownership : Ownership) → ownership.id ≡ id → given_to id to ownership ≡ record ownership { owner = Some to }
given_itself id to ownership is =
    ap (λ b. cond b (record ownership { owner = Some to }) ownership) ((Decides-eqb ownership.id id).1 is)

pub taken : (id to : ℕ) (ownership : Ownership) (session : Session) (state : SessionsState)
    → ownership_of id state.owned ≡ Some ownership → session_at to state.sessions ≡ Some session → ownership.uri ≡ session.uri
    → (transfer_answer id to state ≡ Ok tt) × (ownership_of id (transferred id to state).owned ≡ Some (record ownership { owner = Some to }))
taken id to ownership session state is at same =
    let passes : may_transfer id to state ≡ true =
    may (ownership_of id state.owned) (session_at to state.sessions) ownership session is at
    ∙ ap (λ uri. same_text uri session.uri) same
    ∙ same_itself session.uri in (
      ap transfer_told passes,
      ap (λ b. ownership_of id (cond b (record state { owned = map (given_to id to) state.owned }) state).owned) passes
          ∙ kept_given id id to state.owned
          ∙ ap (given_kept id to) is
          ∙ ap (λ (o : Ownership). Some o) (given_itself id to ownership (found_id id state.owned ownership is)),
    )

-- another subscription is as it was
other_given : (id to other : ℕ) (ownership : Ownership) → ownership.id ≡ other → other ≢ id → given_to id to ownership ≡ ownership
other_given id to other ownership is differs =
    ap (λ b. cond b (record ownership { owner = Some to }) ownership)
    (never (ownership.id == id) (λ same. differs (sym is ∙ (Decides-eqb ownership.id id).0 same)))

other_kept : (id to other : ℕ) (owned : List Ownership) → other ≢ id → (kept : Option Ownership) → ownership_of other owned ≡ kept
    → given_kept id to kept ≡ kept
other_kept id to other owned differs None is = refl
other_kept id to other owned differs (Some ownership) is =
    ap (λ (o : Ownership). Some o) (other_given id to other ownership (found_id other owned ownership is) differs)

pub others : (id to other : ℕ) (state : SessionsState) → other ≢ id
    → ownership_of other (transferred id to state).owned ≡ ownership_of other state.owned
others id to other state differs = by_test (may_transfer id to state)
  where
    by_test : (b : Bool) → ownership_of other (cond b (record state { owned = map (given_to id to) state.owned }) state).owned
        ≡ ownership_of other state.owned
    by_test true = kept_given other id to state.owned ∙ other_kept id to other state.owned differs (ownership_of other state.owned) refl
    by_test false = refl
