-- A session's queued Publishes, one by one.
use Rattle.std.proofs.Common.{◌≡◌, ℕ, zero, suc, ◌+◌, List, [], ◌∷◌, Bool, true, false, cond, Option, Some, None, length, drop, refl, sym, ◌∙◌, ap, arith}
use Rattle.std.specs.Prelude.{slice_get, ◌++◌}
use Rattle.sessions.specs.declared.session.Parked.{Parked}
use Rattle.sessions.specs.declared.session.Session.{Session}
use Rattle.sessions.specs.Session.{is_numbered, without_oldest}
use Rattle.sessions.specs.Table.{at_first, conn_of, oldest_of, session_at}
use Rattle.server_rules.specs.declared.waiting.Waiting.{Waiting}
use Rattle.server_rules.specs.State.{ServerState}
use Rattle.server_rules.specs.Said.{Did, and_then, nothing}
use Rattle.server_rules.specs.Moves.{answered_queued, answered_within, count_queued, has_notice, oldest_waiting, queued, served, served_within, told, unqueued, waiting_of}
use Rattle.server_rules.specs.Answering.{faulted}
use Rattle.server_rules.specs.Publishing.{has_more, sent, sent_on, sent_within}
use Rattle.server_subs.specs.Leaving.{next_sending, next_served}
use Rattle.server_subs.proofs.Keeping.{SameSessions, replied_sessions, sent_sessions, told_sessions}

-- ---- the session whose oldest queued Publish goes

abbrev pub with_oldest_gone : Option Session → Option Session
with_oldest_gone None = None
with_oldest_gone (Some session) = Some (without_oldest session)

gone_test : (counter : ℕ) (first : Session) (sessions : List Session) (b : Bool) → is_numbered counter first ≡ b
    → session_at counter (at_first (is_numbered counter) without_oldest sessions) ≡ with_oldest_gone (session_at counter sessions)
    → session_at counter (at_first (is_numbered counter) without_oldest (first ∷ sessions)) ≡ with_oldest_gone (session_at counter (first ∷ sessions))
gone_test counter first sessions true is rest = rw (is, is) refl
gone_test counter first sessions false is rest = rw (is, is) rest

pub oldest_gone : (counter : ℕ) (sessions : List Session)
    → session_at counter (at_first (is_numbered counter) without_oldest sessions) ≡ with_oldest_gone (session_at counter sessions)
oldest_gone counter [] = refl
oldest_gone counter (first ∷ sessions) = gone_test counter first sessions _ refl (oldest_gone counter sessions)

-- its connection stays
pub same_conn : (found : Option Session) → conn_of (with_oldest_gone found) ≡ conn_of found
same_conn None = refl
same_conn (Some session) = refl

-- ---- one Publish fewer

fewer_in : (conn : Option ℕ) (queue : List Parked) (waiting : Waiting) → waiting_of conn (slice_get queue 0) ≡ Some waiting
    → length queue ≡ length (drop 1 queue) + 1
fewer_in None queue waiting is = absurd cc
fewer_in (Some conn) [] waiting is = absurd cc
fewer_in (Some conn) (publish ∷ queue) waiting is = omega arith

fewer_of : (found : Option Session) (waiting : Waiting) → waiting_of (conn_of found) (oldest_of found) ≡ Some waiting
    → count_queued found ≡ count_queued (with_oldest_gone found) + 1
fewer_of None waiting is = absurd cc
fewer_of (Some session) waiting is = fewer_in session.conn session.queued waiting is

pub fewer : (session : ℕ) (s : ServerState) (waiting : Waiting) → oldest_waiting session s ≡ Some waiting
    → queued session s ≡ queued session (unqueued session s) + 1
fewer session s waiting is =
    fewer_of (session_at session s.sessions.sessions) waiting is
    ∙ ap (λ found. count_queued found + 1) (sym (oldest_gone session s.sessions.sessions))

-- an answer leaves the queue
pub same_queue : (session : ℕ) (s : ServerState) (did : Did) → SameSessions s did → queued session did.state ≡ queued session s
same_queue session s did same = ap (λ x. count_queued (session_at session x.sessions)) same

-- ---- answered by notices

missing : {A : Type 0} (b : Bool) (found : Option A) → b ≡ true → cond b found None ≡ None → found ≡ None
missing true found has is = is
missing false found has is = absurd cc

both : {A : Type 0} (b : Bool) (found : Option A) (one : A) → cond b found None ≡ Some one → (b ≡ true) × (found ≡ Some one)
both true found one is = (refl, is)
both false found one is = absurd cc

same_rest : (rule other : ServerState → Did) (did : Did) → rule did.state ≡ other did.state → and_then rule did ≡ and_then other did
same_rest rule other did is = ap (λ rest. record { state = rest.state; said = did.said ++ rest.said }) is

served_one : (most session : ℕ) (s : ServerState) (waiting : Waiting) → has_notice session s ≡ true → oldest_waiting session s ≡ Some waiting
    → served_within (suc most) session s ≡ and_then (served_within most session) (told waiting session (unqueued session s))
unfolding served_within
served_one most session s waiting has is = rw (has, is) refl

pub served_next : (session : ℕ) (s : ServerState) (waiting : Waiting) → next_served session s ≡ Some waiting
    → served session s ≡ and_then (served session) (told waiting session (unqueued session s))
served_next session s waiting is =
    let h = both (has_notice session s) (oldest_waiting session s) waiting is in
    let did = told waiting session (unqueued session s) in
    let less = fewer session s waiting h.1 in
    let same = same_queue session (unqueued session s) did (told_sessions waiting session (unqueued session s)) in
    let count : queued session s ≡ suc (queued session did.state) = omega arith in
    ap (λ n. served_within n session s) count ∙ served_one (queued session did.state) session s waiting h.0 h.1
    ∙ same_rest (served_within (queued session did.state) session) (served session) did refl

served_none : (most session : ℕ) (s : ServerState) (has : Bool) → has_notice session s ≡ has → next_served session s ≡ None
    → served_within most session s ≡ nothing s
unfolding served_within
served_none zero session s has tells is = refl
served_none (suc most) session s true tells is =
    let none = missing _ _ tells is in
    rw (tells, none) refl
served_none (suc most) session s false tells is = rw tells refl

pub served_last : (session : ℕ) (s : ServerState) → next_served session s ≡ None → served session s ≡ nothing s
served_last session s is = served_none _ session s _ refl is

pub served_oldest : (session : ℕ) (s : ServerState) (waiting : Waiting) → next_served session s ≡ Some waiting → oldest_waiting session s ≡ Some waiting
served_oldest session s waiting is = (both (has_notice session s) (oldest_waiting session s) waiting is).1

-- ---- answered by a fault

answered_one : (most code session : ℕ) (s : ServerState) (waiting : Waiting) → oldest_waiting session s ≡ Some waiting
    → answered_within (suc most) code session s ≡ and_then (answered_within most code session) (faulted waiting.asker code (unqueued session s))
unfolding answered_within
answered_one most code session s waiting is = rw is refl

pub answered_next : (code session : ℕ) (s : ServerState) (waiting : Waiting) → oldest_waiting session s ≡ Some waiting
    → answered_queued code session s ≡ and_then (answered_queued code session) (faulted waiting.asker code (unqueued session s))
answered_next code session s waiting is =
    let did = faulted waiting.asker code (unqueued session s) in
    let less = fewer session s waiting is in
    let same = same_queue session (unqueued session s) did (replied_sessions waiting.asker _ (unqueued session s)) in
    let count : queued session s ≡ suc (queued session did.state) = omega arith in
    ap (λ n. answered_within n code session s) count ∙ answered_one (queued session did.state) code session s waiting is

answered_none : (most code session : ℕ) (s : ServerState) → oldest_waiting session s ≡ None → answered_within most code session s ≡ nothing s
unfolding answered_within
answered_none zero code session s is = refl
answered_none (suc most) code session s is = rw is refl

pub answered_last : (code session : ℕ) (s : ServerState) → oldest_waiting session s ≡ None → answered_queued code session s ≡ nothing s
answered_last code session s is = answered_none _ code session s is

-- ---- answered by a subscription

sent_one : (most id session : ℕ) (s : ServerState) (waiting : Waiting) → has_more id s ≡ true → oldest_waiting session s ≡ Some waiting
    → sent_within (suc most) id session s ≡ and_then (sent_within most id session) (sent waiting id (unqueued session s))
unfolding sent_within
sent_one most id session s waiting has is = rw (has, is) refl

pub sent_next : (id session : ℕ) (s : ServerState) (waiting : Waiting) → next_sending id session s ≡ Some waiting
    → sent_on id session s ≡ and_then (sent_on id session) (sent waiting id (unqueued session s))
sent_next id session s waiting is =
    let h = both (has_more id s) (oldest_waiting session s) waiting is in
    let did = sent waiting id (unqueued session s) in
    let less = fewer session s waiting h.1 in
    let same = same_queue session (unqueued session s) did (sent_sessions waiting id (unqueued session s)) in
    let count : queued session s ≡ suc (queued session did.state) = omega arith in
    ap (λ n. sent_within n id session s) count ∙ sent_one (queued session did.state) id session s waiting h.0 h.1

sent_none : (most id session : ℕ) (s : ServerState) (has : Bool) → has_more id s ≡ has → next_sending id session s ≡ None
    → sent_within most id session s ≡ nothing s
unfolding sent_within
sent_none zero id session s has tells is = refl
sent_none (suc most) id session s true tells is =
    let none = missing _ _ tells is in
    rw (tells, none) refl
sent_none (suc most) id session s false tells is = rw tells refl

pub sent_last : (id session : ℕ) (s : ServerState) → next_sending id session s ≡ None → sent_on id session s ≡ nothing s
sent_last id session s is = sent_none _ id session s _ refl is

pub sent_oldest : (id session : ℕ) (s : ServerState) (waiting : Waiting) → next_sending id session s ≡ Some waiting → oldest_waiting session s ≡ Some waiting
sent_oldest id session s waiting is = (both (has_more id s) (oldest_waiting session s) waiting is).1
