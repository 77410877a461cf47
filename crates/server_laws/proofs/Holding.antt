-- A session keeps its subscriptions.
use Rattle.std.proofs.Common.{◌≡◌, ℕ, ◌+◌, ◌*◌, ◌==◌, ◌≤◌, List, [], ◌∷◌, ◌++◌, Bool, true, false, cond, not, nat_lt, length, map, filter, is_some, Option, Some, None, refl, sym, ap, ◌∙◌, subst, arith, ◌⊎◌, inl, inr}
use Rattle.std.specs.Option.{option_map}
use Rattle.std.proofs.lemmas.Bool.Decides.{nat_tests}
use Rattle.set_model.specs.declared.source.Change.{Change}
use Rattle.sessions.specs.declared.ownership.Ownership.{Ownership}
use Rattle.sessions.specs.declared.session.Session.{Session}
use Rattle.sessions.specs.Session as one
use Rattle.sessions.specs.Session.{has_token, is_bound_to, is_numbered, is_unbound, lasts_past, may_activate, new_session}
use Rattle.sessions.specs.State.{SessionsState}
use Rattle.sessions.specs.Calls.{Call as SessionCall, Create, Activate, Check, Bound, Unbind, Close, Expire, Park, Unpark, Own, Disown, Transfer, after_call, after_create}
use Rattle.sessions.specs.Table.{at_first, given_to, is_full, lives, may_transfer, owned_among, owned_by, owner_among, owner_of, ownership_of, session_at, transferred, with_room, without_first, without_id}
use Rattle.sessions.proofs.Owners.{among, kept_among}
use Rattle.sessions.proofs.Counters.{last_owned}
use Rattle.subscription.specs.State.{SubState}
use Rattle.subscription.specs.Calls.{new_sub}
use Rattle.subscription.specs.History.{Call, Feed, after as after_one}
use Rattle.server_rules.specs.declared.config.ServerConfig.{ServerConfig}
use Rattle.server_rules.specs.State.{ServerState, new_server, sub_at, without_sub}
use Rattle.server_rules.specs.Moves.{is_session, owns}
use Rattle.server_rules.specs.Step.{Happening, after}
use Rattle.server_rules.specs.Acts.{state_after}
use Rattle.server_laws.specs.Moves.{AreFair, Core, IsFair, IsFairAsk, Move, Makes, Does, Enters, Ends, Asks, Issues, Repeats, Answers, call_of, called, id_of, moved, moved_all}
use Rattle.server_laws.specs.Course.{Leave, MayAsk, MayMove, MayMoves, MayTransfer, core_of, leave_of}
use Rattle.server_laws.specs.Owners.{NeverMoved, StillOwns}
use Rattle.server_laws.proofs.Beginning.{bounded}
use Rattle.server_laws.proofs.Finding.{called_here, called_there, fed_each, found_more, gone_here, gone_there, or_else}
use Rattle.server_laws.proofs.Hearing.{after_comes}
use Rattle.server_laws.proofs.Living.{course, state_is}
use Rattle.server_laws.proofs.Waiting.{owned_same, transferred_same}

-- ---- the counters of sessions

abbrev pub Each : (ℕ → Type 0) → List Session → Type 0
Each Q [] = Unit {0}
Each Q (x ∷ sessions) = Q x.counter × Each Q sessions

first_by : (Q : ℕ → Type 0) (b : Bool) (change : Session → Session) (x : Session) (sessions rest : List Session) → (change x).counter ≡ x.counter
    → Q x.counter × Each Q sessions → Each Q rest → Each Q (cond b (change x ∷ sessions) (x ∷ rest))
first_by Q true change x sessions rest same h more = (subst Q (sym same) h.0, h.1)
first_by Q false change x sessions rest same h more = (h.0, more)

pub each_first : (Q : ℕ → Type 0) (test : Session → Bool) (change : Session → Session) (sessions : List Session) → ((x : Session) → (change x).counter ≡ x.counter)
    → Each Q sessions → Each Q (at_first test change sessions)
each_first Q test change [] same h = tt
each_first Q test change (x ∷ sessions) same h =
    first_by Q (test x) change x sessions (at_first test change sessions) (same x) h (each_first Q test change sessions same h.1)

each_map : (Q : ℕ → Type 0) (change : Session → Session) (sessions : List Session) → ((x : Session) → (change x).counter ≡ x.counter) → Each Q sessions
    → Each Q (map change sessions)
each_map Q change [] same h = tt
each_map Q change (x ∷ sessions) same h = (subst Q (sym (same x)) h.0, each_map Q change sessions same h.1)

kept_by : (Q : ℕ → Type 0) (b : Bool) (x : Session) (rest : List Session) → Q x.counter → Each Q rest → Each Q (cond b (x ∷ rest) rest)
kept_by Q true x rest q h = (q, h)
kept_by Q false x rest q h = h

each_filter : (Q : ℕ → Type 0) (test : Session → Bool) (sessions : List Session) → Each Q sessions → Each Q (filter test sessions)
each_filter Q test [] h = tt
each_filter Q test (x ∷ sessions) h = kept_by Q (test x) x (filter test sessions) h.0 (each_filter Q test sessions h.1)

left_by : (Q : ℕ → Type 0) (b : Bool) (x : Session) (sessions rest : List Session) → Q x.counter × Each Q sessions → Each Q rest → Each Q (cond b sessions (x ∷ rest))
left_by Q true x sessions rest h more = h.1
left_by Q false x sessions rest h more = (h.0, more)

each_without : (Q : ℕ → Type 0) (test : Session → Bool) (sessions : List Session) → Each Q sessions → Each Q (without_first test sessions)
each_without Q test [] h = tt
each_without Q test (x ∷ sessions) h = left_by Q (test x) x sessions (without_first test sessions) h (each_without Q test sessions h.1)

each_append : (Q : ℕ → Type 0) (sessions others : List Session) → Each Q sessions → Each Q others → Each Q (sessions ++ others)
each_append Q [] others h rest = rest
each_append Q (x ∷ sessions) others h rest = (h.0, each_append Q sessions others h.1 rest)

each_other : (Q R : ℕ → Type 0) (sessions : List Session) → ((n : ℕ) → Q n → R n) → Each Q sessions → Each R sessions
each_other Q R [] on h = tt
each_other Q R (x ∷ sessions) on h = (on x.counter h.0, each_other Q R sessions on h.1)

room_by : (Q : ℕ → Type 0) (b : Bool) (one_list other : List Session) → Each Q one_list → Each Q other → Each Q (cond b one_list other)
room_by Q true one_list other h rest = h
room_by Q false one_list other h rest = rest

each_room : (Q : ℕ → Type 0) (sessions : List Session) → Each Q sessions → Each Q (with_room sessions)
each_room Q sessions h = room_by Q (nat_lt (length sessions) 16) sessions (without_first is_unbound sessions) h (each_without Q is_unbound sessions h)

-- ---- calls on the sessions

activated_counter : (conn now : ℕ) (x : Session) → (one.activated conn now x).counter ≡ x.counter
activated_counter conn now x = by_may (may_activate conn x)
  where
    by_may : (b : Bool) → (cond b (one.activated_on conn now x) x).counter ≡ x.counter
    by_may true = refl
    by_may false = refl

pub requested_counter : (conn now : ℕ) (x : Session) → (one.requested conn now x).counter ≡ x.counter
requested_counter conn now x = by_bound (is_bound_to conn x)
  where
    by_bound : (b : Bool) → (cond b (record x { last = now }) x).counter ≡ x.counter
    by_bound true = refl
    by_bound false = refl

unbound_counter : (conn : ℕ) (x : Session) → (one.unbound_from conn x).counter ≡ x.counter
unbound_counter conn x = by_bound (is_bound_to conn x)
  where
    by_bound : (b : Bool) → (cond b (one.unbound x) x).counter ≡ x.counter
    by_bound true = refl
    by_bound false = refl

-- the next counter, where it is given
abbrev pub Fresh : (ℕ → Type 0) → SessionsState → SessionsState → Type 0
Fresh Q before now = before.last_counter + 1 ≤ now.last_counter → Q (before.last_counter + 1)

each_create : (Q : ℕ → Type 0) (b : Bool) (conn : ℕ) (uri : Option (List ℕ)) (timeout now : ℕ) (state : SessionsState)
    → Fresh Q state (after_create b conn uri timeout now state) → Each Q state.sessions → Each Q (after_create b conn uri timeout now state).sessions
each_create Q true conn uri timeout now state fresh h = h
each_create Q false conn uri timeout now state fresh h =
    each_append Q (with_room state.sessions) (new_session (state.last_counter + 1) conn uri timeout now ∷ []) (each_room Q state.sessions h) (fresh (omega arith), tt)

each_call : (Q : ℕ → Type 0) (call : SessionCall) (state : SessionsState) → Fresh Q state (after_call call state) → Each Q state.sessions
    → Each Q (after_call call state).sessions
each_call Q (Create conn uri timeout now) state fresh h = each_create Q (is_full state) conn uri timeout now state fresh h
each_call Q (Activate token conn now) state fresh h = each_first Q (has_token state.boot token) (one.activated conn now) state.sessions (activated_counter conn now) h
each_call Q (Check token conn now) state fresh h = each_first Q (has_token state.boot token) (one.requested conn now) state.sessions (requested_counter conn now) h
each_call Q (Bound token conn now) state fresh h = each_first Q (has_token state.boot token) (one.requested conn now) state.sessions (requested_counter conn now) h
each_call Q (Unbind conn) state fresh h = each_map Q (one.unbound_from conn) state.sessions (unbound_counter conn) h
each_call Q (Close session) state fresh h = each_filter Q (λ x. not (is_numbered session x)) state.sessions h
each_call Q (Expire now) state fresh h = each_filter Q (lasts_past now) state.sessions h
each_call Q (Park session publish) state fresh h = each_first Q (is_numbered session) (one.with_parked publish) state.sessions (λ x. refl) h
each_call Q (Unpark session) state fresh h = each_first Q (is_numbered session) one.without_oldest state.sessions (λ x. refl) h
each_call Q (Own id session) state fresh h = subst (Each Q) (sym (owned_same id (session_at session state.sessions) state)) h
each_call Q (Disown id) state fresh h = h
each_call Q (Transfer id to) state fresh h = subst (Each Q) (sym (transferred_same id to state)) h

last_create : (b : Bool) (conn : ℕ) (uri : Option (List ℕ)) (timeout now : ℕ) (state : SessionsState) → state.last_counter ≤ (after_create b conn uri timeout now state).last_counter
last_create true conn uri timeout now state = omega arith
last_create false conn uri timeout now state = omega arith

last_transferred : (id to : ℕ) (state : SessionsState) → (transferred id to state).last_counter ≡ state.last_counter
last_transferred id to state = by_test (may_transfer id to state)
  where
    by_test : (b : Bool) → (cond b (record state { owned = map (given_to id to) state.owned }) state).last_counter ≡ state.last_counter
    by_test true = refl
    by_test false = refl

last_more : (call : SessionCall) (state : SessionsState) → state.last_counter ≤ (after_call call state).last_counter
last_more (Create conn uri timeout now) state = last_create (is_full state) conn uri timeout now state
last_more (Activate token conn now) state = omega arith
last_more (Check token conn now) state = omega arith
last_more (Bound token conn now) state = omega arith
last_more (Unbind conn) state = omega arith
last_more (Close session) state = omega arith
last_more (Expire now) state = omega arith
last_more (Park session publish) state = omega arith
last_more (Unpark session) state = omega arith
last_more (Own id session) state = let same = last_owned id (session_at session state.sessions) state in omega (arith, same)
last_more (Disown id) state = omega arith
last_more (Transfer id to) state = let same = last_transferred id to state in omega (arith, same)

-- ---- owners

abbrev pub IsOwner : ℕ → ℕ → List Ownership → Type 0
IsOwner who which owned = is_session who (owner_of (ownership_of which owned)) ≡ true

-- no session has this counter
abbrev pub NoneIs : ℕ → List Session → Type 0
NoneIs who sessions = Each (λ n. (n == who) ≡ false) sessions

differ_all : (who : ℕ) (sessions : List Session) → lives who sessions ≡ false → NoneIs who sessions
differ_all who [] is = tt
differ_all who (x ∷ sessions) is = by_test (x.counter == who) refl is (differ_all who sessions)
  where
    by_test : (b : Bool) → (x.counter == who) ≡ b → is_some (cond b (Some x) (session_at who sessions)) ≡ false → (lives who sessions ≡ false → NoneIs who sessions)
        → ((x.counter == who) ≡ false) × NoneIs who sessions
    by_test true test is on = absurd cc
    by_test false test is on = (test, on is)

none_lives : (who : ℕ) (sessions : List Session) → NoneIs who sessions → lives who sessions ≡ false
none_lives who [] h = refl
none_lives who (x ∷ sessions) h = ap (λ b. is_some (cond b (Some x) (session_at who sessions))) h.0 ∙ none_lives who sessions h.1

owner_by : (b : Bool) (who number : ℕ) (sessions : List Session) → lives number sessions ≡ b → (number == who) ≡ true
    → (is_session who (cond b (Some number) None) ≡ true) ⊎ NoneIs who sessions
owner_by true who number sessions is test = inl test
owner_by false who number sessions is test =
    let own : number ≡ who = grind (arith, nat_tests) in
    inr (differ_all who sessions (ap (λ n. lives n sessions) (sym own) ∙ is))

owner_among_keeps : (who : ℕ) (owner : Option ℕ) (sessions : List Session) → is_session who owner ≡ true → (is_session who (owner_among sessions owner) ≡ true) ⊎ NoneIs who sessions
owner_among_keeps who None sessions is = absurd cc
owner_among_keeps who (Some number) sessions is = owner_by (lives number sessions) who number sessions refl is

among_keeps : (who : ℕ) (found : Option Ownership) (sessions : List Session) → is_session who (owner_of found) ≡ true
    → (is_session who (owner_of (among found sessions)) ≡ true) ⊎ NoneIs who sessions
among_keeps who None sessions is = absurd cc
among_keeps who (Some ownership) sessions is = owner_among_keeps who ownership.owner sessions is

with_sessions_keeps : (who which : ℕ) (owned : List Ownership) (sessions : List Session) → IsOwner who which owned
    → IsOwner who which (map (owned_among sessions) owned) ⊎ NoneIs who sessions
with_sessions_keeps who which owned sessions is =
    subst (λ found. (is_session who (owner_of found) ≡ true) ⊎ NoneIs who sessions) (sym (kept_among which sessions owned))
    (among_keeps who (ownership_of which owned) sessions is)

append_by : (b : Bool) (who : ℕ) (o : Ownership) (rest more : Option Ownership) → (is_session who (owner_of rest) ≡ true → is_session who (owner_of more) ≡ true)
    → is_session who (owner_of (cond b (Some o) rest)) ≡ true → is_session who (owner_of (cond b (Some o) more)) ≡ true
append_by true who o rest more on is = is
append_by false who o rest more on is = on is

append_keeps : (who which : ℕ) (owned more : List Ownership) → IsOwner who which owned → IsOwner who which (owned ++ more)
append_keeps who which [] more is = absurd cc
append_keeps who which (o ∷ owned) more is =
    append_by (o.id == which) who o (ownership_of which owned) (ownership_of which (owned ++ more)) (append_keeps who which owned more) is

own_keeps : (who which id : ℕ) (found : Option Session) (state : SessionsState) → IsOwner who which state.owned → IsOwner who which (owned_by id found state).owned
own_keeps who which id None state is = is
own_keeps who which id (Some session) state is = append_keeps who which state.owned _ is

disown_by : (out here : Bool) (which id : ℕ) (o : Ownership) (left rest : List Ownership) → (o.id == id) ≡ out → (o.id == which) ≡ here → (id == which) ≡ false
    → ownership_of which left ≡ ownership_of which rest
    → ownership_of which (cond (not out) (o ∷ left) left) ≡ cond here (Some o) (ownership_of which rest)
disown_by true true which id o left rest test own apart same = absurd (grind (arith, nat_tests))
disown_by true false which id o left rest test own apart same = same
disown_by false true which id o left rest test own apart same = ap (λ b. cond b (Some o) (ownership_of which left)) own
disown_by false false which id o left rest test own apart same = ap (λ b. cond b (Some o) (ownership_of which left)) own ∙ same

disown_keeps : (which id : ℕ) (owned : List Ownership) → (id == which) ≡ false → ownership_of which (without_id id owned) ≡ ownership_of which owned
disown_keeps which id [] apart = refl
disown_keeps which id (o ∷ owned) apart =
    disown_by (o.id == id) (o.id == which) which id o (without_id id owned) owned refl refl apart (disown_keeps which id owned apart)

given_by : (out here : Bool) (which id to : ℕ) (o : Ownership) (rest more : Option Ownership) → (o.id == id) ≡ out → (o.id == which) ≡ here → (id == which) ≡ false → more ≡ rest
    → cond ((cond out (record o { owner = Some to }) o).id == which) (Some (cond out (record o { owner = Some to }) o)) more ≡ cond here (Some o) rest
given_by true true which id to o rest more test own apart same = absurd (grind (arith, nat_tests))
given_by true false which id to o rest more test own apart same = ap (λ b. cond b (Some (record o { owner = Some to })) more) own ∙ same
given_by false true which id to o rest more test own apart same = ap (λ b. cond b (Some o) more) own
given_by false false which id to o rest more test own apart same = ap (λ b. cond b (Some o) more) own ∙ same

given_keeps : (which id to : ℕ) (owned : List Ownership) → (id == which) ≡ false → ownership_of which (map (given_to id to) owned) ≡ ownership_of which owned
given_keeps which id to [] apart = refl
given_keeps which id to (o ∷ owned) apart =
    given_by (o.id == id) (o.id == which) which id to o (ownership_of which owned) (ownership_of which (map (given_to id to) owned)) refl refl apart (given_keeps which id to owned apart)

transfer_keeps : (b : Bool) (who which id to : ℕ) (state : SessionsState) → (id == which) ≡ false → IsOwner who which state.owned
    → IsOwner who which (cond b (record state { owned = map (given_to id to) state.owned }) state).owned
transfer_keeps true who which id to state apart is = ap (λ found. is_session who (owner_of found)) (given_keeps which id to state.owned apart) ∙ is
transfer_keeps false who which id to state apart is = is

create_keeps : (b : Bool) (who which conn : ℕ) (uri : Option (List ℕ)) (timeout now : ℕ) (state : SessionsState) → IsOwner who which state.owned
    → IsOwner who which (after_create b conn uri timeout now state).owned ⊎ NoneIs who (after_create b conn uri timeout now state).sessions
create_keeps true who which conn uri timeout now state is = inl is
create_keeps false who which conn uri timeout now state is =
    with_sessions_keeps who which state.owned (with_room state.sessions ++ new_session (state.last_counter + 1) conn uri timeout now ∷ []) is

-- ---- a core

abbrev pub Held : ℕ → ℕ → Core → Type 0
Held who which c = IsOwner who which c.sessions.owned ⊎ ((sub_at which c.subs ≡ None) ⊎ NoneIs who c.sessions.sessions)

pub record Holds (who which : ℕ) (c : Core) : Type 0 where
  pub counter : who ≤ c.sessions.last_counter
  pub id : which ≤ id_of c.boot c.made
  pub held : Held who which c

-- the owner, or no session
or_none : (who which : ℕ) (c : Core) → IsOwner who which c.sessions.owned ⊎ NoneIs who c.sessions.sessions → Held who which c
or_none who which c (inl own) = inl own
or_none who which c (inr none) = inr (inr none)

owner_asked : (who which : ℕ) (leave : Leave) (call : SessionCall) (c : Core) → IsFairAsk call c → MayAsk leave call → (MayTransfer leave which → ⊥)
    → IsOwner who which c.sessions.owned → Held who which (moved (Asks call) c)
owner_asked who which leave (Create conn uri timeout now) c fair may never is =
    or_none who which (moved (Asks (Create conn uri timeout now)) c) (create_keeps (is_full c.sessions) who which conn uri timeout now c.sessions is)
owner_asked who which leave (Activate token conn now) c fair may never is = inl is
owner_asked who which leave (Check token conn now) c fair may never is = inl is
owner_asked who which leave (Bound token conn now) c fair may never is = inl is
owner_asked who which leave (Unbind conn) c fair may never is = inl is
owner_asked who which leave (Close session) c fair may never is =
    or_none who which (moved (Asks (Close session)) c) (with_sessions_keeps who which c.sessions.owned (filter (λ x. not (is_numbered session x)) c.sessions.sessions) is)
owner_asked who which leave (Expire now) c fair may never is =
    or_none who which (moved (Asks (Expire now)) c) (with_sessions_keeps who which c.sessions.owned (filter (lasts_past now) c.sessions.sessions) is)
owner_asked who which leave (Park session publish) c fair may never is = inl is
owner_asked who which leave (Unpark session) c fair may never is = inl is
owner_asked who which leave (Own id session) c fair may never is = inl (own_keeps who which id (session_at session c.sessions.sessions) c.sessions is)
owner_asked who which leave (Disown id) c fair may never is = by_id (id == which) refl
  where
    by_id : (b : Bool) → (id == which) ≡ b → Held who which (moved (Asks (Disown id)) c)
    by_id true test = let own : id ≡ which = grind (arith, nat_tests) in inr (inl (ap (λ n. sub_at n c.subs) (sym own) ∙ fair))
    by_id false test = inl (ap (λ found. is_session who (owner_of found)) (disown_keeps which id c.sessions.owned test) ∙ is)
owner_asked who which leave (Transfer id to) c fair may never is = by_id (id == which) refl
  where
    by_id : (b : Bool) → (id == which) ≡ b → Held who which (moved (Asks (Transfer id to)) c)
    by_id true test = let own : id ≡ which = grind (arith, nat_tests) in absurd (never (subst (MayTransfer leave) own may))
    by_id false test = inl (transfer_keeps (may_transfer id to c.sessions) who which id to c.sessions test is)

next_differs : (who last : ℕ) → who ≤ last → (last + 1 == who) ≡ false
next_differs who last under = grind (arith, nat_tests)

asked_held : (who which : ℕ) (leave : Leave) (call : SessionCall) (c : Core) → IsFairAsk call c → MayAsk leave call → (MayTransfer leave which → ⊥) → who ≤ c.sessions.last_counter
    → Held who which c → Held who which (moved (Asks call) c)
asked_held who which leave call c fair may never under (inl own) = owner_asked who which leave call c fair may never own
asked_held who which leave call c fair may never under (inr (inl gone)) = inr (inl gone)
asked_held who which leave call c fair may never under (inr (inr none)) =
    inr (inr (each_call (λ n. (n == who) ≡ false) call c.sessions (λ given. next_differs who c.sessions.last_counter under) none))

-- subscriptions

subs_held : (who which : ℕ) (c : Core) (subs : List SubState) → (sub_at which c.subs ≡ None → sub_at which subs ≡ None) → Held who which c → Held who which (record c { subs = subs })
subs_held who which c subs on (inl own) = inl own
subs_held who which c subs on (inr (inl gone)) = inr (inl (on gone))
subs_held who which c subs on (inr (inr none)) = inr (inr none)

called_none : (b : Bool) (which other : ℕ) (call : Call) (subs : List SubState) → (other == which) ≡ b → sub_at which subs ≡ None → sub_at which (called other call subs) ≡ None
called_none true which other call subs test none =
    let own : other ≡ which = grind (arith, nat_tests) in
    ap (λ n. sub_at which (called n call subs)) own ∙ called_here which call subs ∙ ap (option_map (after_one call)) none
called_none false which other call subs test none = called_there which other call subs test ∙ none

gone_none : (b : Bool) (which other : ℕ) (subs : List SubState) → (other == which) ≡ b → sub_at which subs ≡ None → sub_at which (without_sub other subs) ≡ None
gone_none true which other subs test none =
    let own : other ≡ which = grind (arith, nat_tests) in ap (λ n. sub_at which (without_sub n subs)) own ∙ gone_here which subs
gone_none false which other subs test none = gone_there which other subs test ∙ none

new_none : (which : ℕ) (spec_id : ℕ) (subs : List SubState) (new : SubState) → new.spec.id ≡ spec_id → (spec_id == which) ≡ false → sub_at which subs ≡ None
    → sub_at which (subs ++ new ∷ []) ≡ None
new_none which spec_id subs new own apart none =
    found_more which subs new ∙ ap (λ found. or_else found (cond (new.spec.id == which) (Some new) None)) none
    ∙ ap (λ n. cond (n == which) (Some new) None) own ∙ ap (λ b. cond b (Some new) None) apart

later_differs : (which boot made new : ℕ) → which ≤ boot * 65536 + made → new ≡ boot * 65536 + (made + 1) → (new == which) ≡ false
later_differs which boot made new under is = grind (arith, nat_tests)

move_held : (who which : ℕ) (leave : Leave) (move : Move) (c : Core) → IsFair move c → MayMove leave move → (MayTransfer leave which → ⊥) → Holds who which c
    → Held who which (moved move c)
move_held who which leave (Makes spec start) c fair may never h =
    let apart : (spec.id == which) ≡ false = later_differs which c.boot c.made spec.id h.id fair.0 in
    subs_held who which c (c.subs ++ new_sub spec start ∷ []) (new_none which spec.id c.subs (new_sub spec start) refl apart) h.held
move_held who which leave (Does other doing) c fair may never h =
    subs_held who which c (called other (call_of doing c.current (sub_at other c.subs)) c.subs)
    (called_none (other == which) which other (call_of doing c.current (sub_at other c.subs)) c.subs refl) h.held
move_held who which leave (Enters change) c fair may never h =
    subs_held who which c (map (after_one (Feed change)) c.subs) (λ none. fed_each which change c.subs ∙ ap (option_map (after_one (Feed change))) none) h.held
move_held who which leave (Ends other) c fair may never h =
    subs_held who which c (without_sub other c.subs) (gone_none (other == which) which other c.subs refl) h.held
move_held who which leave (Asks call) c fair may never h = asked_held who which leave call c fair may never h.counter h.held
move_held who which leave Issues c fair may never h = h.held
move_held who which leave (Repeats other number) c fair may never h = h.held
move_held who which leave (Answers answer) c fair may never h = h.held

pub move_counter : (who : ℕ) (move : Move) (c : Core) → who ≤ c.sessions.last_counter → who ≤ (moved move c).sessions.last_counter
move_counter who (Asks call) c under = let more = last_more call c.sessions in omega (arith, under, more)
move_counter who (Makes spec start) c under = under
move_counter who (Does other doing) c under = under
move_counter who (Enters change) c under = under
move_counter who (Ends other) c under = under
move_counter who Issues c under = under
move_counter who (Repeats other number) c under = under
move_counter who (Answers answer) c under = under

move_id : (which : ℕ) (move : Move) (c : Core) → which ≤ id_of c.boot c.made → which ≤ id_of (moved move c).boot (moved move c).made
move_id which (Makes spec start) c under = omega (arith, under)
move_id which (Asks call) c under = under
move_id which (Does other doing) c under = under
move_id which (Enters change) c under = under
move_id which (Ends other) c under = under
move_id which Issues c under = under
move_id which (Repeats other number) c under = under
move_id which (Answers answer) c under = under

pub all_hold : (who which : ℕ) (leave : Leave) (moves : List Move) (c : Core) → AreFair moves c → MayMoves leave moves → (MayTransfer leave which → ⊥) → Holds who which c
    → Holds who which (moved_all moves c)
all_hold who which leave [] c fair may never h = h
all_hold who which leave (move ∷ moves) c fair may never h =
    all_hold who which leave moves (moved move c) fair.1 may.1 never
    (record { counter = move_counter who move c h.counter; id = move_id which move c h.id; held = move_held who which leave move c fair.0 may.0 never h })

step_holds : (who which : ℕ) (happening : Happening) (s : ServerState) → (MayTransfer (leave_of happening) which → ⊥) → Holds who which (core_of s)
    → Holds who which (core_of (after happening s).state)
step_holds who which happening s never h =
    let step = after_comes happening s in
    subst (Holds who which) (sym step.leads) (all_hold who which (leave_of happening) step.moves (core_of s) step.fair step.may never h)

none_holds : (who which : ℕ) (s : ServerState) → Holds who which (core_of s) → Holds who which (core_of (state_after [] s))
unfolding state_after
none_holds who which s h = h

later_holds : (who which : ℕ) (later : List Happening) (s : ServerState) → NeverMoved which later → Holds who which (core_of s) → Holds who which (core_of (state_after later s))
later_holds who which [] s never h = none_holds who which s h
later_holds who which (happening ∷ later) s never h =
    subst (λ (t : ServerState). Holds who which (core_of t)) (sym (state_is happening later s))
    (step_holds who which happening (state_after later s) never.0 (later_holds who which later s never.1 h))

-- ---- counters that were given

abbrev pub Given : Core → Type 0
Given c = Each (λ n. n ≤ c.sessions.last_counter) c.sessions.sessions

ask_given : (call : SessionCall) (c : Core) → Given c → Given (moved (Asks call) c)
ask_given call c h =
    let more : c.sessions.last_counter ≤ (after_call call c.sessions).last_counter = last_more call c.sessions in
    each_call (λ n. n ≤ (after_call call c.sessions).last_counter) call c.sessions (λ given. given)
    (each_other (λ n. n ≤ c.sessions.last_counter) (λ n. n ≤ (after_call call c.sessions).last_counter) c.sessions.sessions
    (λ n under. still_under n c.sessions.last_counter (after_call call c.sessions).last_counter under more) h)
  where
    still_under : (a b c : ℕ) → a ≤ b → b ≤ c → a ≤ c
    still_under a b c first later = omega (arith, first, later)

pub all_given : (moves : List Move) (c : Core) → Given c → Given (moved_all moves c)
all_given [] c h = h
all_given (Asks call ∷ moves) c h = all_given moves (moved (Asks call) c) (ask_given call c h)
all_given (Makes spec start ∷ moves) c h = all_given moves (moved (Makes spec start) c) h
all_given (Does id doing ∷ moves) c h = all_given moves (moved (Does id doing) c) h
all_given (Enters change ∷ moves) c h = all_given moves (moved (Enters change) c) h
all_given (Ends id ∷ moves) c h = all_given moves (moved (Ends id) c) h
all_given (Issues ∷ moves) c h = all_given moves (moved Issues c) h
all_given (Repeats id number ∷ moves) c h = all_given moves c h
all_given (Answers answer ∷ moves) c h = all_given moves c h

pub lives_under : (who last : ℕ) (sessions : List Session) → lives who sessions ≡ true → Each (λ n. n ≤ last) sessions → who ≤ last
lives_under who last [] is h = absurd cc
lives_under who last (x ∷ sessions) is h = by_test (x.counter == who) refl is (lives_under who last sessions)
  where
    by_test : (b : Bool) → (x.counter == who) ≡ b → is_some (cond b (Some x) (session_at who sessions)) ≡ true
        → (lives who sessions ≡ true → Each (λ n. n ≤ last) sessions → who ≤ last) → who ≤ last
    by_test true test is on =
        let own : x.counter ≡ who = grind (arith, nat_tests) in
        let under : x.counter ≤ last = h.0 in
        omega (arith, own, under)
    by_test false test is on = on is h.1

pub held_still : (session id : ℕ) (s : ServerState) → Held session id (core_of s) → StillOwns session id s
held_still session id s (inl own) = inl own
held_still session id s (inr (inl gone)) = inr (inl gone)
held_still session id s (inr (inr none)) = inr (inr (none_lives session s.sessions.sessions none))

pub owners_keep : (config : ServerConfig) (current : List Change) (earlier later : List Happening) (session id : ℕ) (sub : SubState)
    → owns session id (state_after earlier (new_server config current)) ≡ true → lives session (state_after earlier (new_server config current)).sessions.sessions ≡ true
    → sub_at id (state_after earlier (new_server config current)).subs ≡ Some sub → NeverMoved id later
    → StillOwns session id (state_after later (state_after earlier (new_server config current)))
owners_keep config current earlier later session id sub own there found never =
    let s : ServerState = state_after earlier (new_server config current) in
    let c = course earlier (new_server config current) in
    let given : Given (core_of s) = subst Given (sym c.leads) (all_given c.moves (core_of (new_server config current)) tt) in
    held_still session id (state_after later s)
    (later_holds session id later s never
    (record {
      counter = lives_under session s.sessions.last_counter s.sessions.sessions there given;
      id = bounded config current earlier id sub found;
      held = inl own;
    })).held
