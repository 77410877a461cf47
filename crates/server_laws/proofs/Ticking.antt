-- What time brings, in moves.
use Rattle.std.proofs.Common.{ℕ, zero, suc, ◌+◌, ◌-◌, ◌^◌, ◌==◌, List, [], ◌∷◌, Option, Some, None, refl}
use Rattle.sessions.specs.Calls.{Expire}
use Rattle.subscription.specs.declared.cycle.Cycle.{Cycle}
use Rattle.subscription.specs.declared.cycle.Cycle.TheVariants.{Quiet, Notify, KeepAlive, Late, Expired}
use Rattle.subscription.specs.Cycle.{cycled, row_of}
use Rattle.subscription.specs.State.{SubState}
use Rattle.server_rules.specs.State.{ServerState, sub_at, with_sub}
use Rattle.server_rules.specs.Said.{Did, each, nothing}
use Rattle.server_rules.specs.Moves.{owner}
use Rattle.server_rules.specs.Timer.{by_row, cycle, cycle_of, ids_due, is_served, millisecond, moment, sends_for, sessions_expired, ticked}
use Rattle.server_laws.specs.Moves.{Asks, Cycles, Does}
use Rattle.server_laws.specs.Course.{Comes, Leave}
use Rattle.server_laws.proofs.Coming.{begun_by, either, from_same, idle, then_comes}
use Rattle.server_laws.proofs.Owning.{expired_comes}
use Rattle.server_laws.proofs.Sending.{sends_comes}

-- one rule after another
pub each_comes : {A : Type 0} (leave : Leave) (rule : A → ServerState → Did) (list : List A) (s : ServerState)
    → ((one : A) (t : ServerState) → Comes leave t (rule one t)) → Comes leave s (each rule list s)
each_comes leave rule [] s on = idle leave s
each_comes leave rule (one ∷ more) s on =
    then_comes leave s (each rule more) (rule one s) (on one s) (each_comes leave rule more (rule one s).state on)

sends_for_comes : (leave : Leave) (session : Option ℕ) (id : ℕ) (s : ServerState) → Comes leave s (sends_for session id s)
sends_for_comes leave None id s = idle leave s
sends_for_comes leave (Some session) id s = sends_comes leave id session s

by_row_comes : (leave : Leave) (row : Cycle) (id : ℕ) (s : ServerState) → Comes leave s (by_row row id s)
by_row_comes leave Quiet id s = idle leave s
by_row_comes leave Notify id s = sends_for_comes leave (owner id s) id s
by_row_comes leave KeepAlive id s = sends_for_comes leave (owner id s) id s
by_row_comes leave Late id s = idle leave s
by_row_comes leave Expired id s = expired_comes leave id s

cycle_of_comes : (leave : Leave) (sub : Option SubState) (id : ℕ) (s : ServerState) → Comes leave s (cycle_of sub id s)
cycle_of_comes leave None id s = idle leave s
cycle_of_comes leave (Some sub) id s =
    begun_by leave (Does id (Cycles (is_served id s))) s (with_sub id (cycled (is_served id s)) s) _ tt tt refl
    (by_row_comes leave (row_of (is_served id s) sub) id (with_sub id (cycled (is_served id s)) s))

cycle_comes : (leave : Leave) (id : ℕ) (s : ServerState) → Comes leave s (cycle id s)
unfolding cycle
cycle_comes leave id s = cycle_of_comes leave (sub_at id s.subs) id s

moment_comes : (leave : Leave) (s : ServerState) → Comes leave s (moment s)
unfolding moment
moment_comes leave s =
    let cycles : Did = each cycle (ids_due s) s in
    then_comes leave s (λ after. nothing (sessions_expired after)) cycles (each_comes leave cycle (ids_due s) s (cycle_comes leave))
    (begun_by leave (Asks (Expire cycles.state.age)) cycles.state (sessions_expired cycles.state) _ tt tt refl (idle leave (sessions_expired cycles.state)))

millisecond_comes : (leave : Leave) (s : ServerState) → Comes leave s (millisecond s)
unfolding millisecond
millisecond_comes leave s =
    either leave (s.age == 2 ^ 64 - 1) s _ _ (idle leave s)
    (from_same leave s (record s { age = s.age + 1 }) _ refl (moment_comes leave (record s { age = s.age + 1 })))

pub ticked_comes : (leave : Leave) (count : ℕ) (s : ServerState) → Comes leave s (ticked count s)
unfolding ticked
ticked_comes leave zero s = idle leave s
ticked_comes leave (suc more) s =
    then_comes leave s (ticked more) (millisecond s) (millisecond_comes leave s) (ticked_comes leave more (millisecond s).state)
