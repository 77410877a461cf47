-- What each millisecond brings: the subscriptions' cycles, and the sessions that expire (OPC 10000-4, 5.6.2 and 5.13.1).
use Rattle.std.specs.Prelude.{ℕ, zero, suc, ◌+◌, ◌-◌, ◌^◌, ◌==◌, List, Bool, false, Option, Some, None, map, filter, nat_le, if◌then◌else◌}
use Rattle.sessions.specs.Table.{expired, session_at, waits}
use Rattle.subscription.specs.declared.cycle.Cycle.{Cycle}
use Rattle.subscription.specs.declared.cycle.Cycle.TheVariants.{Quiet, Notify, KeepAlive, Late, Expired}
use Rattle.subscription.specs.Cycle.{cycled, row_of}
use Rattle.subscription.specs.State.{SubState}
use Rattle.server_rules.specs.State.{ServerState, sub_at, with_sub}
use Rattle.server_rules.specs.Said.{Did, and_then, each, nothing}
use Rattle.server_rules.specs.Moves.{expired_sub, owner}
use Rattle.server_rules.specs.Publishing.{sends}

-- ---- a cycle (5.13.1.2)

abbrev pub is_waiting : Option ℕ → ServerState → Bool
is_waiting None s = false
is_waiting (Some session) s = waits (session_at session s.sessions.sessions)

-- a Publish of its session is queued for a subscription
abbrev pub is_served : ℕ → ServerState → Bool
is_served id s = is_waiting (owner id s) s

abbrev pub sends_for : Option ℕ → ℕ → ServerState → Did
sends_for None id s = nothing s
sends_for (Some session) id s = sends id session s

-- what each row does, after the cycle went by
abbrev pub by_row : Cycle → ℕ → ServerState → Did
by_row Quiet id s = nothing s
by_row Notify id s = sends_for (owner id s) id s
by_row KeepAlive id s = sends_for (owner id s) id s
by_row Late id s = nothing s
by_row Expired id s = expired_sub id s

abbrev pub cycle_of : Option SubState → ℕ → ServerState → Did
cycle_of None id s = nothing s
cycle_of (Some sub) id s = by_row (row_of (is_served id s) sub) id (with_sub id (cycled (is_served id s)) s)

unfoldable pub cycle : ℕ → ServerState → Did
cycle id s = cycle_of (sub_at id s.subs) id s

-- ---- time

abbrev pub has_come : ℕ → Option ℕ → Bool
has_come age None = false
has_come age (Some due) = nat_le due age

-- the subscriptions whose cycle is due, in order of their ids
abbrev pub ids_due : ServerState → List ℕ
ids_due s = map (λ sub. sub.spec.id) (filter (λ sub. has_come s.age sub.due) s.subs)

-- the sessions that had no request for their timeout are no more
abbrev pub sessions_expired : ServerState → ServerState
sessions_expired s = record s { sessions = expired s.age s.sessions }

-- what is due at this age: the cycles first
unfoldable pub moment : ServerState → Did
moment s = and_then (λ after. nothing (sessions_expired after)) (each cycle (ids_due s) s)

-- a millisecond goes by; at the last age none does
unfoldable pub millisecond : ServerState → Did
millisecond s = if s.age == 2 ^ 64 - 1 then nothing s else moment (record s { age = s.age + 1 })

-- so many milliseconds go by
unfoldable pub ticked : ℕ → ServerState → Did
ticked zero s = nothing s
ticked (suc more) s = and_then (ticked more) (millisecond s)
