-- A session's oldest queued Publish, taken out.
use Rattle.std.proofs.Common.{◌≡◌, ℕ, suc, ◌==◌, List, [], ◌∷◌, true, false, not, Option, Some, None, length, refl, sym, ◌∙◌, ap, arith, subst}
use Rattle.std.proofs.lemmas.Bool.Decides.{nat_tests}
use Rattle.std.specs.Prelude.{IsSome, slice_get}
use Rattle.sessions.specs.declared.session.Parked.{Parked}
use Rattle.sessions.specs.declared.session.Session.{Session}
use Rattle.sessions.specs.Table.{conn_of, oldest_of, session_at, waits}
use Rattle.server_rules.specs.declared.waiting.Waiting.{Waiting}
use Rattle.server_rules.specs.State.{ServerState}
use Rattle.server_rules.specs.Moves.{oldest_waiting, unqueued, waiting_of}
use Rattle.server_subs.proofs.Queues.{oldest_gone, same_conn}

never : (n : ℕ) → not (suc n == 0) ≡ false → ⊥
never n is = let zero_is : suc n ≡ 0 = grind (arith, nat_tests) in absurd (omega arith)

idle : (conn : Option ℕ) (queue : List Parked) → not (length queue == 0) ≡ false → waiting_of conn (slice_get queue 0) ≡ None
idle None queue is = refl
idle (Some conn) [] is = refl
idle (Some conn) (publish ∷ queue) is = absurd (never (length queue) is)

idle_of : (found : Option Session) → waits found ≡ false → waiting_of (conn_of found) (oldest_of found) ≡ None
idle_of None is = refl
idle_of (Some session) is = idle session.conn session.queued is

-- where none waits
pub none_waits : (session : ℕ) (s : ServerState) → waits (session_at session s.sessions.sessions) ≡ false → oldest_waiting session s ≡ None
none_waits session s is = idle_of (session_at session s.sessions.sessions) is

first_in : (queue : List Parked) → not (length queue == 0) ≡ true → slice_get queue 0 ≡ None → ⊥
first_in [] is none = absurd cc
first_in (publish ∷ queue) is none = absurd cc

first_of : (found : Option Session) → waits found ≡ true → oldest_of found ≡ None → ⊥
first_of None is none = absurd cc
first_of (Some session) is none = first_in session.queued is none

-- where one waits, there is a first
pub one_waits : (session : ℕ) (sessions : List Session) → waits (session_at session sessions) ≡ true
    → oldest_of (session_at session sessions) ≡ None → ⊥
one_waits session sessions is none = first_of (session_at session sessions) is none

-- the session stays bound
bound_of : (conn : Option ℕ) (publish : Option Parked) (waiting : Waiting) → waiting_of conn publish ≡ Some waiting → IsSome conn
bound_of None publish waiting is = absurd cc
bound_of (Some conn) publish waiting is = refl

pub stays_bound : (session : ℕ) (s : ServerState) (waiting : Waiting) → oldest_waiting session s ≡ Some waiting
    → IsSome (conn_of (session_at session (unqueued session s).sessions.sessions))
stays_bound session s waiting is =
    let bound : IsSome (conn_of (session_at session s.sessions.sessions)) = bound_of _ _ waiting is in
    subst (λ (conn : Option ℕ). IsSome conn)
    (sym (ap conn_of (oldest_gone session s.sessions.sessions) ∙ same_conn (session_at session s.sessions.sessions))) bound

pub parks : (session : ℕ) (s mid : ServerState) (found : Option Waiting) (waiting : Waiting) → found ≡ oldest_waiting session s → found ≡ Some waiting
    → (IsSome found → mid ≡ unqueued session s) → IsSome (conn_of (session_at session mid.sessions.sessions))
parks session s mid found waiting is some takes =
    let mid_is : mid ≡ unqueued session s = takes (subst (λ (f : Option Waiting). IsSome f) (sym some) refl) in
    subst (λ (x : ServerState). IsSome (conn_of (session_at session x.sessions.sessions))) (sym mid_is)
    (stays_bound session s waiting (sym is ∙ some))
