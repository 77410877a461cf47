-- Who is answered beside the one who asks: those whose Publishes wait.
use Rattle.std.proofs.Common.{◌≡◌, ℕ, zero, suc, ◌+◌, ◌-◌, ◌^◌, ◌==◌, List, [], ◌∷◌, ◌++◌, Bool, true, false, cond, ◌||◌, Option, Some, None, refl, sym, ap, ◌∙◌, subst, arith, map}
use Rattle.std.proofs.lemmas.Bool.Decides.{nat_tests}
use Rattle.ua_base.specs.Status.{bad_no_subscription, bad_response_too_large, bad_tcp_message_too_large, bad_timeout, good_subscription_transferred}
use Rattle.sessions.specs.Session as one
use Rattle.sessions.specs.Session.{is_numbered, lasts_past}
use Rattle.sessions.specs.Table.{may_transfer}
use Rattle.subscription.specs.declared.cycle.Cycle.{Cycle}
use Rattle.subscription.specs.declared.cycle.Cycle.TheVariants.{Quiet, Notify, KeepAlive, Late, Expired}
use Rattle.subscription.specs.Cycle.{cycled, row_of}
use Rattle.subscription.specs.State.{SubState}
use Rattle.ua_services.specs.declared.reply.Reply.{Reply}
use Rattle.server_rules.specs.declared.conn.Asker.{Asker}
use Rattle.server_rules.specs.declared.conn.Conn.{Conn}
use Rattle.server_rules.specs.declared.waiting.Waiting.{Waiting}
use Rattle.server_rules.specs.State.{NoticeState, ServerState, conn_at, server_time, sub_at, with_sub, renewed_conn, with_conn, is_conn}
use Rattle.server_rules.specs.Said.{Did, Said, and_then, each, nothing}
use Rattle.server_rules.specs.Answering.{deafened, fault_reply, faulted, refused_on, replied, replied_on, replied_to, replied_within, takes}
use Rattle.server_rules.specs.Moves.{answered_by, answered_queued, answered_within, deleted, expired_sub, given_sub, gone, has_notice, has_subs, left, left_by, notice_of, notice_response, noticed, noticed_of, oldest_notice, oldest_waiting, other_than, owner, publish_reply, queued, released, served, served_by, served_if, served_within, told, told_notice, told_why, transferred_sub, unqueued, without_oldest_notice}
use Rattle.server_rules.specs.Publishing.{has_more, sends, sent, sent_by, sent_if, sent_on, sent_with, sent_within, sub_response}
use Rattle.server_rules.specs.Timer.{by_row, cycle, cycle_of, ids_due, is_served, millisecond, moment, sends_for, sessions_expired, ticked}
use Rattle.subscription.specs.Calls.{published}
use Rattle.server_laws.specs.Lockstep.{AllWait, IsTold, SaysOn}
use Rattle.server_laws.proofs.Waiting.{filter_waits, first_waits, oldest_waits, transferred_same, unparked_waits}

-- ---- what is said on a connection

-- the highest number of a connection that was opened, and the numbers of those that are there
abbrev pub numbers_of : ServerState → Option ℕ × List ℕ
numbers_of s = (s.highest, map (λ conn. conn.number) s.conns)

pub record Spoken (P : ℕ → Type 0) (s : ServerState) (did : Did) : Type 0 where
  pub same : did.state.sessions ≡ s.sessions
  pub numbers : numbers_of did.state ≡ numbers_of s
  pub on : SaysOn P did.said

found_by : (b : Bool) (number : ℕ) (conn found : Conn) (rest : Option Conn) → (conn.number == number) ≡ b → (rest ≡ Some found → found.number ≡ number)
    → cond b (Some conn) rest ≡ Some found → found.number ≡ number
found_by true number conn found rest test on is =
    let same : conn ≡ found = cc in
    let own : conn.number ≡ number = grind (arith, nat_tests) in
    sym (ap (λ (c : Conn). c.number) same) ∙ own
found_by false number conn found rest test on is = on is

pub found_conn : (number : ℕ) (conns : List Conn) (found : Conn) → conn_at number conns ≡ Some found → found.number ≡ number
found_conn number [] found is = absurd cc
found_conn number (conn ∷ conns) found is = found_by _ number conn found (conn_at number conns) refl (found_conn number conns found) is

numbers_by : (b : Bool) (conn other : Conn) (rest others : List ℕ) → (other.number == conn.number) ≡ b → rest ≡ others
    → (cond b conn other).number ∷ rest ≡ other.number ∷ others
numbers_by true conn other rest others test same =
    let own : other.number ≡ conn.number = grind (arith, nat_tests) in
    ap (λ n. n ∷ rest) (sym own) ∙ ap (λ l. other.number ∷ l) same
numbers_by false conn other rest others test same = ap (λ l. other.number ∷ l) same

renewed_numbers : (conn : Conn) (conns : List Conn) → map (λ one. one.number) (map (renewed_conn conn) conns) ≡ map (λ one. one.number) conns
renewed_numbers conn [] = refl
renewed_numbers conn (other ∷ conns) =
    numbers_by (is_conn conn.number other) conn other (map (λ one. one.number) (map (renewed_conn conn) conns)) (map (λ one. one.number) conns) refl (renewed_numbers conn conns)

pub with_numbers : (conn : Conn) (s : ServerState) → numbers_of (with_conn conn s) ≡ numbers_of s
with_numbers conn s = ap (λ numbers. (s.highest, numbers)) (renewed_numbers conn s.conns)

spoken_either : (P : ℕ → Type 0) (b : Bool) (s : ServerState) (first other : Did) → Spoken P s first → Spoken P s other → Spoken P s (cond b first other)
spoken_either P true s first other h rest = h
spoken_either P false s first other h rest = rest

pub refused_spoken : (P : ℕ → Type 0) (conn : Conn) (code : ℕ) (s : ServerState) → P conn.number → Spoken P s (refused_on conn code s)
unfolding refused_on
refused_spoken P conn code s p = record { same = refl; numbers = with_numbers (deafened conn) s; on = (p, tt) }

within_spoken : (P : ℕ → Type 0) (conn : Conn) (request : ℕ) (answer : Reply) (s : ServerState) → P conn.number → Spoken P s (replied_within conn request answer s)
unfolding replied_within
within_spoken P conn request answer s p = record { same = refl; numbers = refl; on = (p, tt) }

on_spoken : (P : ℕ → Type 0) (conn : Conn) (request handle : ℕ) (answer : Reply) (s : ServerState) → P conn.number → Spoken P s (replied_on conn request handle answer s)
unfolding replied_on
on_spoken P conn request handle answer s p =
    let fault : Reply = fault_reply handle bad_response_too_large s in
    spoken_either P (takes conn answer) s _ _ (within_spoken P conn request answer s p)
    (spoken_either P (takes conn fault) s _ _ (within_spoken P conn request fault s p) (refused_spoken P conn bad_tcp_message_too_large s p))

to_spoken : (P : ℕ → Type 0) (number : ℕ) (found : Option Conn) (request handle : ℕ) (answer : Reply) (s : ServerState) → conn_at number s.conns ≡ found → P number
    → Spoken P s (replied_to found request handle answer s)
to_spoken P number None request handle answer s is p = record { same = refl; numbers = refl; on = tt }
to_spoken P number (Some conn) request handle answer s is p =
    on_spoken P conn request handle answer s (subst P (sym (found_conn number s.conns conn is)) p)

pub replied_spoken : (P : ℕ → Type 0) (asker : Asker) (answer : Reply) (s : ServerState) → P asker.conn → Spoken P s (replied asker answer s)
unfolding replied
replied_spoken P asker answer s p = to_spoken P asker.conn (conn_at asker.conn s.conns) asker.request asker.handle answer s refl p

-- whom it tells, the sessions stay
pub replied_same : (asker : Asker) (answer : Reply) (s : ServerState) → (replied asker answer s).state.sessions ≡ s.sessions
replied_same asker answer s = (replied_spoken (λ conn. Unit {0}) asker answer s tt).same

pub replied_numbers : (asker : Asker) (answer : Reply) (s : ServerState) → numbers_of (replied asker answer s).state ≡ numbers_of s
replied_numbers asker answer s = (replied_spoken (λ conn. Unit {0}) asker answer s tt).numbers

-- ---- rules

-- and the same connections are there
pub record Kept (P : ℕ → Type 0) (s : ServerState) (did : Did) : Type 0 where
  pub told : IsTold P did
  pub numbers : numbers_of did.state ≡ numbers_of s

abbrev pub Tells : (ℕ → Type 0) → ServerState → Did → Type 0
Tells P s did = AllWait P s.sessions.sessions → Kept P s did

pub idle_tells : (P : ℕ → Type 0) (s : ServerState) → Tells P s (nothing s)
idle_tells P s h = record { told = record { on = tt; waits = h }; numbers = refl }

pub says_join : (P : ℕ → Type 0) (first later : List Said) → SaysOn P first → SaysOn P later → SaysOn P (first ++ later)
says_join P [] later h rest = rest
says_join P (said ∷ first) later h rest = (h.0, says_join P first later h.1 rest)

pub then_tells : (P : ℕ → Type 0) (s : ServerState) (rule : ServerState → Did) (did : Did) → Tells P s did → Tells P did.state (rule did.state)
    → Tells P s (and_then rule did)
then_tells P s rule did first later h =
    let one = first h in
    let other = later one.told.waits in
    record {
      told = record { on = says_join P did.said (rule did.state).said one.told.on other.told.on; waits = other.told.waits };
      numbers = other.numbers ∙ one.numbers;
    }

pub either_tells : (P : ℕ → Type 0) (b : Bool) (s : ServerState) (first other : Did) → Tells P s first → Tells P s other → Tells P s (cond b first other)
either_tells P true s first other h rest = h
either_tells P false s first other h rest = rest

pub spoken_tells : (P : ℕ → Type 0) (s : ServerState) (did : Did) → Spoken P s did → Tells P s did
spoken_tells P s did spoken h = record {
  told = record { on = spoken.on; waits = subst (λ sessions. AllWait P sessions.sessions) (sym spoken.same) h };
  numbers = spoken.numbers;
}

-- a state with the same connections, whose sessions are the same list, or another one on which none more waits
pub from_tells : (P : ℕ → Type 0) (s before : ServerState) (did : Did) → numbers_of before ≡ numbers_of s
    → (AllWait P s.sessions.sessions → AllWait P before.sessions.sessions) → Tells P before did → Tells P s did
from_tells P s before did same on tells h = let one = tells (on h) in record { told = one.told; numbers = one.numbers ∙ same }

pub rebased : (P : ℕ → Type 0) (s before : ServerState) (did : Did) → numbers_of before ≡ numbers_of s → Kept P before did → Kept P s did
rebased P s before did same one = record { told = one.told; numbers = one.numbers ∙ same }

-- ---- notices and queued Publishes

told_by : (P : ℕ → Type 0) (waiting : Waiting) (notice : Option NoticeState) (session : ℕ) (s : ServerState) → P waiting.asker.conn
    → Tells P s (told_notice waiting notice session s)
told_by P waiting None session s p = idle_tells P s
told_by P waiting (Some notice) session s p =
    from_tells P s (record s { notices = without_oldest_notice session s.notices }) _ refl (λ h. h)
    (spoken_tells P (record s { notices = without_oldest_notice session s.notices }) _
    (replied_spoken P waiting.asker (publish_reply (notice_response waiting notice s)) (record s { notices = without_oldest_notice session s.notices }) p))

pub told_tells : (P : ℕ → Type 0) (waiting : Waiting) (session : ℕ) (s : ServerState) → P waiting.asker.conn → Tells P s (told waiting session s)
unfolding told
told_tells P waiting session s p = told_by P waiting (oldest_notice session s.notices) session s p

pub unqueued_waits : (P : ℕ → Type 0) (session : ℕ) (s : ServerState) → AllWait P s.sessions.sessions → AllWait P (unqueued session s).sessions.sessions
unqueued_waits P session s h = first_waits P (is_numbered session) one.without_oldest s.sessions.sessions (unparked_waits P) h

served_by_tells : (P : ℕ → Type 0) (session : ℕ) (more : ServerState → Did) (waiting : Option Waiting) (s : ServerState) → oldest_waiting session s ≡ waiting
    → ((t : ServerState) → Tells P t (more t)) → Tells P s (served_by more waiting session s)
served_by_tells P session more None s is rest = idle_tells P s
served_by_tells P session more (Some waiting) s is rest = λ h.
    rebased P s (unqueued session s) (and_then more (told waiting session (unqueued session s))) refl
    (then_tells P (unqueued session s) more (told waiting session (unqueued session s))
    (told_tells P waiting session (unqueued session s) (oldest_waits P session s waiting h is))
    (rest (told waiting session (unqueued session s)).state) (unqueued_waits P session s h))

served_if_tells : (P : ℕ → Type 0) (session : ℕ) (more : ServerState → Did) (b : Bool) (s : ServerState) → ((t : ServerState) → Tells P t (more t))
    → Tells P s (served_if b more session s)
served_if_tells P session more false s rest = idle_tells P s
served_if_tells P session more true s rest = served_by_tells P session more (oldest_waiting session s) s refl rest

served_tells : (P : ℕ → Type 0) (most session : ℕ) (s : ServerState) → Tells P s (served_within most session s)
unfolding served_within
served_tells P zero session s = idle_tells P s
served_tells P (suc most) session s = served_if_tells P session (served_within most session) (has_notice session s) s (served_tells P most session)

answered_by_tells : (P : ℕ → Type 0) (code session : ℕ) (more : ServerState → Did) (waiting : Option Waiting) (s : ServerState)
    → oldest_waiting session s ≡ waiting → ((t : ServerState) → Tells P t (more t)) → Tells P s (answered_by more code waiting session s)
answered_by_tells P code session more None s is rest = idle_tells P s
answered_by_tells P code session more (Some waiting) s is rest = λ h.
    rebased P s (unqueued session s) (and_then more (faulted waiting.asker code (unqueued session s))) refl
    (then_tells P (unqueued session s) more (faulted waiting.asker code (unqueued session s))
    (spoken_tells P (unqueued session s) _
    (replied_spoken P waiting.asker (fault_reply waiting.asker.handle code (unqueued session s)) (unqueued session s) (oldest_waits P session s waiting h is)))
    (rest (faulted waiting.asker code (unqueued session s)).state) (unqueued_waits P session s h))

answered_tells : (P : ℕ → Type 0) (most code session : ℕ) (s : ServerState) → Tells P s (answered_within most code session s)
unfolding answered_within
answered_tells P zero code session s = idle_tells P s
answered_tells P (suc most) code session s =
    answered_by_tells P code session (answered_within most code session) (oldest_waiting session s) s refl (answered_tells P most code session)

pub queued_tells : (P : ℕ → Type 0) (code session : ℕ) (s : ServerState) → Tells P s (answered_queued code session s)
queued_tells P code session s = answered_tells P (queued session s) code session s

released_tells : (P : ℕ → Type 0) (session : ℕ) (s : ServerState) → Tells P s (released session s)
released_tells P session s =
    either_tells P (has_subs session s || has_notice session s) s (nothing s) (answered_queued bad_no_subscription session s) (idle_tells P s)
    (queued_tells P bad_no_subscription session s)

left_tells : (P : ℕ → Type 0) (session : ℕ) (s : ServerState) → Tells P s (left session s)
unfolding left
left_tells P session s =
    then_tells P s (released session) (served session s) (served_tells P (queued session s) session s) (released_tells P session (served session s).state)

-- ---- a subscription leaves a session

left_by_tells : (P : ℕ → Type 0) (session : Option ℕ) (s : ServerState) → Tells P s (left_by session s)
left_by_tells P None s = idle_tells P s
left_by_tells P (Some session) s = left_tells P session s

pub deleted_tells : (P : ℕ → Type 0) (id : ℕ) (s : ServerState) → Tells P s (deleted id s)
unfolding deleted
deleted_tells P id s = from_tells P s (gone id s) _ refl (λ h. h) (left_by_tells P (owner id s) (gone id s))

noticed_same : (notice : NoticeState) (s : ServerState) → (noticed notice s).sessions ≡ s.sessions
unfolding noticed
noticed_same notice s = refl

noticed_numbers : (notice : NoticeState) (s : ServerState) → numbers_of (noticed notice s) ≡ numbers_of s
unfolding noticed
noticed_numbers notice s = refl

noticed_of_numbers : (sub : Option SubState) (session code : ℕ) (s : ServerState) → numbers_of (noticed_of sub session code s) ≡ numbers_of s
noticed_of_numbers None session code s = refl
noticed_of_numbers (Some sub) session code s = noticed_numbers (notice_of session code sub) s

noticed_of_same : (sub : Option SubState) (session code : ℕ) (s : ServerState) → (noticed_of sub session code s).sessions ≡ s.sessions
noticed_of_same None session code s = refl
noticed_of_same (Some sub) session code s = noticed_same (notice_of session code sub) s

told_why_tells : (P : ℕ → Type 0) (session : Option ℕ) (code : ℕ) (sub : Option SubState) (s : ServerState) → Tells P s (told_why session code sub s)
told_why_tells P None code sub s = idle_tells P s
told_why_tells P (Some session) code sub s =
    from_tells P s (noticed_of sub session code s) _ (noticed_of_numbers sub session code s)
    (λ h. subst (λ sessions. AllWait P sessions.sessions) (sym (noticed_of_same sub session code s)) h)
    (left_tells P session (noticed_of sub session code s))

expired_tells : (P : ℕ → Type 0) (id : ℕ) (s : ServerState) → Tells P s (expired_sub id s)
unfolding expired_sub
expired_tells P id s = from_tells P s (gone id s) _ refl (λ h. h) (told_why_tells P (owner id s) bad_timeout (sub_at id s.subs) (gone id s))

pub transferred_tells : (P : ℕ → Type 0) (id to : ℕ) (s : ServerState) → Tells P s (transferred_sub id to s)
unfolding transferred_sub
transferred_tells P id to s =
    either_tells P (may_transfer id to s.sessions) s _ _
    (from_tells P s (given_sub id to s) _ refl (λ h. subst (AllWait P) (sym (transferred_same id to s.sessions)) h)
    (told_why_tells P (other_than to (owner id s)) good_subscription_transferred (sub_at id s.subs) (given_sub id to s)))
    (idle_tells P s)

-- ---- sending

sent_by_tells : (P : ℕ → Type 0) (waiting : Waiting) (id : ℕ) (found : Option SubState) (s : ServerState) → P waiting.asker.conn → Tells P s (sent_by waiting id found s)
sent_by_tells P waiting id None s p = idle_tells P s
sent_by_tells P waiting id (Some sub) s p =
    from_tells P s (with_sub id (published (server_time s)) s) _ refl (λ h. h)
    (spoken_tells P (with_sub id (published (server_time s)) s) _
    (replied_spoken P waiting.asker (publish_reply (sub_response waiting sub (published (server_time s) sub) s)) (with_sub id (published (server_time s)) s) p))

pub sent_tells : (P : ℕ → Type 0) (waiting : Waiting) (id : ℕ) (s : ServerState) → P waiting.asker.conn → Tells P s (sent waiting id s)
unfolding sent
sent_tells P waiting id s p = sent_by_tells P waiting id (sub_at id s.subs) s p

sent_with_tells : (P : ℕ → Type 0) (more : ServerState → Did) (waiting : Option Waiting) (id session : ℕ) (s : ServerState) → oldest_waiting session s ≡ waiting
    → ((t : ServerState) → Tells P t (more t)) → Tells P s (sent_with more waiting id session s)
sent_with_tells P more None id session s is rest = idle_tells P s
sent_with_tells P more (Some waiting) id session s is rest = λ h.
    rebased P s (unqueued session s) (and_then more (sent waiting id (unqueued session s))) refl
    (then_tells P (unqueued session s) more (sent waiting id (unqueued session s))
    (sent_tells P waiting id (unqueued session s) (oldest_waits P session s waiting h is))
    (rest (sent waiting id (unqueued session s)).state) (unqueued_waits P session s h))

sent_if_tells : (P : ℕ → Type 0) (more : ServerState → Did) (b : Bool) (id session : ℕ) (s : ServerState) → ((t : ServerState) → Tells P t (more t))
    → Tells P s (sent_if b more id session s)
sent_if_tells P more false id session s rest = idle_tells P s
sent_if_tells P more true id session s rest = sent_with_tells P more (oldest_waiting session s) id session s refl rest

sent_within_tells : (P : ℕ → Type 0) (most id session : ℕ) (s : ServerState) → Tells P s (sent_within most id session s)
unfolding sent_within
sent_within_tells P zero id session s = idle_tells P s
sent_within_tells P (suc most) id session s =
    sent_if_tells P (sent_within most id session) (has_more id s) id session s (sent_within_tells P most id session)

pub sent_on_tells : (P : ℕ → Type 0) (id session : ℕ) (s : ServerState) → Tells P s (sent_on id session s)
sent_on_tells P id session s = sent_within_tells P (queued session s) id session s

sends_tells : (P : ℕ → Type 0) (id session : ℕ) (s : ServerState) → Tells P s (sends id session s)
unfolding sends
sends_tells P id session s = sent_with_tells P (sent_on id session) (oldest_waiting session s) id session s refl (sent_on_tells P id session)

-- ---- time

pub each_tells : {A : Type 0} (P : ℕ → Type 0) (rule : A → ServerState → Did) (list : List A) (s : ServerState)
    → ((x : A) (t : ServerState) → Tells P t (rule x t)) → Tells P s (each rule list s)
each_tells P rule [] s on = idle_tells P s
each_tells P rule (x ∷ more) s on = then_tells P s (each rule more) (rule x s) (on x s) (each_tells P rule more (rule x s).state on)

sends_for_tells : (P : ℕ → Type 0) (session : Option ℕ) (id : ℕ) (s : ServerState) → Tells P s (sends_for session id s)
sends_for_tells P None id s = idle_tells P s
sends_for_tells P (Some session) id s = sends_tells P id session s

by_row_tells : (P : ℕ → Type 0) (row : Cycle) (id : ℕ) (s : ServerState) → Tells P s (by_row row id s)
by_row_tells P Quiet id s = idle_tells P s
by_row_tells P Notify id s = sends_for_tells P (owner id s) id s
by_row_tells P KeepAlive id s = sends_for_tells P (owner id s) id s
by_row_tells P Late id s = idle_tells P s
by_row_tells P Expired id s = expired_tells P id s

cycle_of_tells : (P : ℕ → Type 0) (sub : Option SubState) (id : ℕ) (s : ServerState) → Tells P s (cycle_of sub id s)
cycle_of_tells P None id s = idle_tells P s
cycle_of_tells P (Some sub) id s =
    from_tells P s (with_sub id (cycled (is_served id s)) s) _ refl (λ h. h)
    (by_row_tells P (row_of (is_served id s) sub) id (with_sub id (cycled (is_served id s)) s))

pub cycle_tells : (P : ℕ → Type 0) (id : ℕ) (s : ServerState) → Tells P s (cycle id s)
unfolding cycle
cycle_tells P id s = cycle_of_tells P (sub_at id s.subs) id s

moment_tells : (P : ℕ → Type 0) (s : ServerState) → Tells P s (moment s)
unfolding moment
moment_tells P s =
    let cycles : Did = each cycle (ids_due s) s in
    then_tells P s (λ after. nothing (sessions_expired after)) cycles (each_tells P cycle (ids_due s) s (cycle_tells P))
    (from_tells P cycles.state (sessions_expired cycles.state) _ refl (λ h. filter_waits P (lasts_past cycles.state.age) cycles.state.sessions.sessions h)
    (idle_tells P (sessions_expired cycles.state)))

pub millisecond_tells : (P : ℕ → Type 0) (s : ServerState) → Tells P s (millisecond s)
unfolding millisecond
millisecond_tells P s =
    either_tells P (s.age == 2 ^ 64 - 1) s _ _ (idle_tells P s)
    (from_tells P s (record s { age = s.age + 1 }) _ refl (λ h. h) (moment_tells P (record s { age = s.age + 1 })))

pub ticked_tells : (P : ℕ → Type 0) (count : ℕ) (s : ServerState) → Tells P s (ticked count s)
unfolding ticked
ticked_tells P zero s = idle_tells P s
ticked_tells P (suc more) s = then_tells P s (ticked more) (millisecond s) (millisecond_tells P s) (ticked_tells P more (millisecond s).state)
