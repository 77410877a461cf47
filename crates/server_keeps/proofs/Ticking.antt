-- What each millisecond brings keeps the limits.
use Rattle.std.proofs.Common.{ℕ, zero, suc, ◌+◌, ◌-◌, ◌^◌, ◌==◌, Option, Some, None}
use Rattle.sessions.specs.Table.{expired}
use Rattle.subscription.specs.declared.cycle.Cycle.{Cycle}
use Rattle.subscription.specs.declared.cycle.Cycle.TheVariants.{Quiet, Notify, KeepAlive, Late, Expired}
use Rattle.subscription.specs.Cycle.{cycled, row_of}
use Rattle.subscription.specs.State.{SubState}
use Rattle.server_rules.specs.State.{ServerState, sub_at, with_sub}
use Rattle.server_rules.specs.Said.{each, nothing}
use Rattle.server_rules.specs.Moves.{owner}
use Rattle.server_rules.specs.Timer.{by_row, cycle, cycle_of, ids_due, is_served, millisecond, moment, sends_for, sessions_expired, ticked}
use Rattle.server_keeps.specs.Fitting.{FitsServer, KeepsDid}
use Rattle.server_keeps.proofs.Answering.{Any, each_in_turn, in_turn, quiet, sub_fits, with_sessions}
use Rattle.server_keeps.proofs.Lists.{all_true, choice}
use Rattle.server_keeps.proofs.Moving.{expired_sub_keeps}
use Rattle.server_keeps.proofs.Publishing.{sends_keeps}
use Rattle.server_keeps.proofs.Sessions.{expired_fits}
use Rattle.server_keeps.proofs.Subs.{cycled_fits, cycled_same}

sends_for_keeps : (session : Option ℕ) (id : ℕ) (s : ServerState) → FitsServer s → KeepsDid (sends_for session id s)
sends_for_keeps None id s h = quiet s h
sends_for_keeps (Some session) id s h = sends_keeps id session s h

by_row_keeps : (row : Cycle) (id : ℕ) (s : ServerState) → FitsServer s → KeepsDid (by_row row id s)
by_row_keeps Quiet id s h = quiet s h
by_row_keeps Notify id s h = sends_for_keeps (owner id s) id s h
by_row_keeps KeepAlive id s h = sends_for_keeps (owner id s) id s h
by_row_keeps Late id s h = quiet s h
by_row_keeps Expired id s h = expired_sub_keeps id s h

cycle_of_keeps : (sub : Option SubState) (id : ℕ) (s : ServerState) → FitsServer s → KeepsDid (cycle_of sub id s)
cycle_of_keeps None id s h = quiet s h
cycle_of_keeps (Some sub) id s h =
    by_row_keeps (row_of (is_served id s) sub) id (with_sub id (cycled (is_served id s)) s)
    (sub_fits id (cycled (is_served id s)) s h (cycled_same (is_served id s)) (cycled_fits (is_served id s)))

cycle_keeps : (id : ℕ) (s : ServerState) → FitsServer s → KeepsDid (cycle id s)
unfolding cycle
cycle_keeps id s h = cycle_of_keeps (sub_at id s.subs) id s h

moment_keeps : (s : ServerState) → FitsServer s → KeepsDid (moment s)
unfolding moment
moment_keeps s h =
    in_turn (λ after. nothing (sessions_expired after)) (each cycle (ids_due s) s)
    (each_in_turn Any cycle (λ id t any kept. cycle_keeps id t kept) (ids_due s) s (all_true Any (λ id. tt) (ids_due s)) h)
    (λ t kept. quiet (sessions_expired t) (with_sessions (expired t.age t.sessions) t kept (expired_fits t.age t.sessions kept.sessions)))

aged_fits : (age : ℕ) (s : ServerState) → FitsServer s → FitsServer (record s { age = age })
aged_fits age s h = record {
  config = h.config;
  level = h.level;
  current = h.current;
  sessions = h.sessions;
  notices = h.notices;
  subs = h.subs;
  apart = h.apart;
  channels = h.channels;
  conns = h.conns;
}

millisecond_keeps : (s : ServerState) → FitsServer s → KeepsDid (millisecond s)
unfolding millisecond
millisecond_keeps s h =
    choice KeepsDid (s.age == 2 ^ 64 - 1) (nothing s) (moment (record s { age = s.age + 1 })) (quiet s h)
    (moment_keeps (record s { age = s.age + 1 }) (aged_fits (s.age + 1) s h))

pub ticked_keeps : (ms : ℕ) (s : ServerState) → FitsServer s → KeepsDid (ticked ms s)
unfolding ticked
ticked_keeps zero s h = quiet s h
ticked_keeps (suc more) s h = in_turn (ticked more) (millisecond s) (millisecond_keeps s h) (ticked_keeps more)
