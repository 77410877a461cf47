-- What a call writes into its fields is sound, as what it comes to is.
use Rattle.std.proofs.Common.{◌≡◌, ℕ, List, [], ◌∷◌, ◌++◌, Bool, true, cond, Some, map, refl, sym, ◌∙◌, ap, set, subst}
use Rattle.std.specs.Prelude.{Result, Ok, Err, OnOk, OnErr}
use Rattle.sessions.specs.declared.ownership.Ownership.{Ownership}
use Rattle.sessions.specs.declared.session.Session.{Session}
use Rattle.sessions.specs.declared.table.Sessions.TheInside.{Inside}
use Rattle.sessions.specs.Sound.{IsSound}
use Rattle.sessions.specs.State.{SessionsState}
use Rattle.sessions.specs.Table.{at_first, given_to, may_transfer, owned, owned_among, owned_by, session_at, transferred, with_sessions}
use Rattle.sessions.proofs.Firsts.{IsFirst}
use Rattle.sessions.proofs.Steps.{sound_first}

-- what contracts see of these fields
abbrev pub state_of : Inside → SessionsState
state_of s = record { boot = s.boot; last_counter = s.last_counter; sessions = s.sessions.items; owned = s.owned.items }

-- other sessions
pub sound_sessions : (state : SessionsState) (sessions after : List Session) → after ≡ sessions → IsSound (record state { sessions = sessions })
    → IsSound (record state { sessions = after })
sound_sessions state sessions after is = subst (λ s. IsSound (record state { sessions = s })) (sym is)

-- other owners
pub sound_owners : (state : SessionsState) (owned after : List Ownership) → after ≡ owned → IsSound (record state { owned = owned })
    → IsSound (record state { owned = after })
sound_owners state owned after is = subst (λ o. IsSound (record state { owned = o })) (sym is)

-- other sessions, and the owners among them
pub sound_among : (state : SessionsState) (sessions after read : List Session) (owned : List Ownership) → after ≡ sessions → read ≡ after
    → owned ≡ map (owned_among read) state.owned → IsSound (with_sessions sessions state)
    → IsSound (record state { sessions = after; owned = owned })
sound_among state sessions after read owned is reads among sound =
    let P : List Session → Type 0 = λ s. IsSound (record state { sessions = s; owned = map (owned_among s) state.owned }) in
    let Q : List Ownership → Type 0 = λ o. IsSound (record state { sessions = after; owned = o }) in
    subst Q (sym (among ∙ ap (λ s. map (owned_among s) state.owned) reads)) (subst P (sym is) sound)

-- one session changed in its place
pub sound_at : (state : SessionsState) (test : Session → Bool) (change : Session → Session) (place : ℕ) (session after : Session)
    → IsFirst test state.sessions place session → after ≡ change session
    → IsSound (record state { sessions = at_first test change state.sessions })
    → IsSound (record state { sessions = set state.sessions place after })
sound_at state test change place session after h is =
    sound_sessions state (at_first test change state.sessions) (set state.sessions place after)
    (ap (set state.sessions place) is ∙ sym (h.changes change))

-- one session changed in its place, or left as it was
pub sound_tried : {T E : Type 0} (state : SessionsState) (test : Session → Bool) (change : Session → Session) (place : ℕ) (session after : Session)
    (result : Result T E) → IsFirst test state.sessions place session → OnOk result (after ≡ change session) → OnErr result (after ≡ session)
    → IsSound state → IsSound (record state { sessions = at_first test change state.sessions })
    → IsSound (record state { sessions = set state.sessions place after })
sound_tried state test change place session after (Ok value) h ok err before sound = sound_at state test change place session after h ok sound
sound_tried state test change place session after (Err fault) h ok err before sound =
    sound_at state test (λ s. s) place session after h err (sound_first state test (λ s. s) before (λ s. refl) (λ s tidy. tidy))

-- one more owner
pub sound_own : (state : SessionsState) (id counter : ℕ) (session : Session) (after : List Ownership) → session_at counter state.sessions ≡ Some session
    → after ≡ state.owned ++ record { id = id; owner = Some session.counter; uri = session.uri } ∷ [] → IsSound (owned id counter state)
    → IsSound (record state { owned = after })
sound_own state id counter session after is more sound =
    sound_owners state (state.owned ++ record { id = id; owner = Some session.counter; uri = session.uri } ∷ []) after more
    (subst (λ found. IsSound (owned_by id found state)) is sound)

-- another owner
pub sound_transfer : (state : SessionsState) (id to : ℕ) (after : List Ownership) → may_transfer id to state ≡ true
    → after ≡ map (given_to id to) state.owned → IsSound (transferred id to state) → IsSound (record state { owned = after })
sound_transfer state id to after passes given sound =
    sound_owners state (map (given_to id to) state.owned) after given
    (subst (λ b. IsSound (cond b (record state { owned = map (given_to id to) state.owned }) state)) passes sound)
