-- Where no Read response is said: the rules of answers, of Publish, and of time.
use Rattle.std.proofs.Common.{ℕ, zero, suc, ◌+◌, ◌^◌, ◌==◌, ◌||◌, List, [], ◌∷◌, Bool, true, false, cond, length, nat_lt, Option, Some, None, ◌-◌}
use Rattle.std.specs.Prelude.{Result, Ok, Err}
use Rattle.std.specs.List.{AllByRecursion}
use Rattle.ua_base.specs.Status.{bad_no_subscription, bad_response_too_large, bad_tcp_message_too_large, bad_timeout, bad_too_many_operations, bad_too_many_publish_requests, good_subscription_transferred}
use Rattle.sessions.specs.Table.{conn_of, driven_out_of, may_transfer, parked, session_at}
use Rattle.ua_sub_msgs.specs.declared.publish.PublishRequest.{PublishRequest}
use Rattle.ua_sub_msgs.specs.declared.publish.SubscriptionAcknowledgement.{SubscriptionAcknowledgement}
use Rattle.ua_session_msgs.specs.declared.reply.SessionReply.TheVariants as session_reply
use Rattle.ua_services.specs.declared.reply.Reply.{Reply}
use Rattle.ua_services.specs.declared.reply.Reply.TheVariants as reply
use Rattle.subscription.specs.declared.cycle.Cycle.{Cycle}
use Rattle.subscription.specs.declared.cycle.Cycle.TheVariants.{Quiet, Notify, KeepAlive, Late, Expired}
use Rattle.subscription.specs.State.{SubState}
use Rattle.subscription.specs.Calls.{published}
use Rattle.subscription.specs.Cycle.{cycled, row_of}
use Rattle.server_rules.specs.declared.conn.Asker.{Asker}
use Rattle.server_rules.specs.declared.conn.Conn.{Conn}
use Rattle.server_rules.specs.declared.waiting.Waiting.{Waiting}
use Rattle.server_rules.specs.State.{NoticeState, ServerState, conn_at, server_time, sub_at, with_sub}
use Rattle.server_rules.specs.Said.{Did, Replied, Said, Told, and_then, each, nothing}
use Rattle.server_rules.specs.Answering.{fault_reply, faulted, refused_on, replied, replied_on, replied_to, replied_within, takes}
use Rattle.server_rules.specs.Moves.{answered_by, answered_queued, answered_within, deleted, expired_sub, given_sub, gone, has_notice, has_subs, left, left_by, noticed, noticed_of, notice_of, notice_response, oldest_notice, oldest_waiting, other_than, owner, owns, publish_reply, queued, released, served_by, served_if, served_within, told, told_notice, told_why, transferred_sub, unqueued, waiting_of, without_oldest_notice}
use Rattle.server_rules.specs.Moves as moves
use Rattle.server_rules.specs.Operations.{done}
use Rattle.server_rules.specs.Publishing.{ack_results, all_acked, driven_out, enqueued, first_of, has_more, late_sub, parked_of, publish, queued_on, sends, sent, sent_by, sent_if, sent_on, sent_with, sent_within, sub_response, taken, taken_by, turned, used, waiting_with}
use Rattle.server_rules.specs.Timer.{by_row, cycle, cycle_of, ids_due, is_served, millisecond, moment, sends_for, sessions_expired, ticked}
use Rattle.level_readings.proofs.Lists.{all_join}

-- it is no Read response
abbrev pub IsOtherReply : Reply → Type 0
IsOtherReply (reply.Session (session_reply.Read r)) = ⊥
IsOtherReply other = Unit {0}

abbrev pub IsOther : Told → Type 0
IsOther (Replied request answer) = IsOtherReply answer
IsOther other = Unit {0}

abbrev pub IsOtherSaid : Said → Type 0
IsOtherSaid said = IsOther said.told

abbrev pub IsQuiet : Did → Type 0
IsQuiet did = AllByRecursion IsOtherSaid did.said

-- ---- rules put together

pub either : (b : Bool) (one other : Did) → IsQuiet one → IsQuiet other → IsQuiet (cond b one other)
either true one other h rest = h
either false one other h rest = rest

pub then_quiet : (rule : ServerState → Did) (did : Did) → IsQuiet did → IsQuiet (rule did.state) → IsQuiet (and_then rule did)
then_quiet rule did first later = all_join IsOtherSaid did.said (rule did.state).said first later

pub each_quiet : {A : Type 0} (rule : A → ServerState → Did) (list : List A) (s : ServerState) → ((one : A) (t : ServerState) → IsQuiet (rule one t))
    → IsQuiet (each rule list s)
each_quiet rule [] s on = tt
each_quiet rule (one ∷ more) s on =
    then_quiet (each rule more) (rule one s) (on one s) (each_quiet rule more (rule one s).state on)

-- ---- answers

pub refused_quiet : (conn : Conn) (code : ℕ) (s : ServerState) → IsQuiet (refused_on conn code s)
unfolding refused_on
refused_quiet conn code s = (tt, tt)

pub within_quiet : (conn : Conn) (number : ℕ) (answer : Reply) (s : ServerState) → IsOtherReply answer → IsQuiet (replied_within conn number answer s)
unfolding replied_within
within_quiet conn number answer s h = (h, tt)

on_quiet : (conn : Conn) (number handle : ℕ) (answer : Reply) (s : ServerState) → IsOtherReply answer → IsQuiet (replied_on conn number handle answer s)
unfolding replied_on
on_quiet conn number handle answer s h =
    let fault : Reply = fault_reply handle bad_response_too_large s in
    either (takes conn answer) _ _ (within_quiet conn number answer s h)
    (either (takes conn fault) _ _ (within_quiet conn number fault s tt) (refused_quiet conn bad_tcp_message_too_large s))

to_quiet : (found : Option Conn) (number handle : ℕ) (answer : Reply) (s : ServerState) → IsOtherReply answer
    → IsQuiet (replied_to found number handle answer s)
to_quiet None number handle answer s h = tt
to_quiet (Some conn) number handle answer s h = on_quiet conn number handle answer s h

pub replied_quiet : (asker : Asker) (answer : Reply) (s : ServerState) → IsOtherReply answer → IsQuiet (replied asker answer s)
unfolding replied
replied_quiet asker answer s h = to_quiet (conn_at asker.conn s.conns) asker.request asker.handle answer s h

pub fault_quiet : (asker : Asker) (code : ℕ) (s : ServerState) → IsQuiet (faulted asker code s)
fault_quiet asker code s = replied_quiet asker (fault_reply asker.handle code s) s tt

pub done_quiet : {A : Type 0} (asker : Asker) (rule : A → ServerState → Did) (result : Result A ℕ) (s : ServerState)
    → ((found : A) → IsQuiet (rule found s)) → IsQuiet (done asker rule result s)
done_quiet asker rule (Ok found) s on = on found
done_quiet asker rule (Err code) s on = fault_quiet asker code s

-- ---- notices and queued Publishes

told_by : (waiting : Waiting) (notice : Option NoticeState) (session : ℕ) (s : ServerState) → IsQuiet (told_notice waiting notice session s)
told_by waiting None session s = tt
told_by waiting (Some notice) session s =
    replied_quiet waiting.asker (publish_reply (notice_response waiting notice s)) (record s { notices = without_oldest_notice session s.notices })
    tt

told_quiet : (waiting : Waiting) (session : ℕ) (s : ServerState) → IsQuiet (told waiting session s)
unfolding told
told_quiet waiting session s = told_by waiting (oldest_notice session s.notices) session s

served_by_quiet : (more : ServerState → Did) (waiting : Option Waiting) (session : ℕ) (s : ServerState) → ((t : ServerState) → IsQuiet (more t))
    → IsQuiet (served_by more waiting session s)
served_by_quiet more None session s rest = tt
served_by_quiet more (Some waiting) session s rest =
    then_quiet more (told waiting session (unqueued session s)) (told_quiet waiting session (unqueued session s))
    (rest (told waiting session (unqueued session s)).state)

served_if_quiet : (b : Bool) (more : ServerState → Did) (session : ℕ) (s : ServerState) → ((t : ServerState) → IsQuiet (more t))
    → IsQuiet (served_if b more session s)
served_if_quiet false more session s rest = tt
served_if_quiet true more session s rest = served_by_quiet more (oldest_waiting session s) session s rest

served_within_quiet : (most session : ℕ) (s : ServerState) → IsQuiet (served_within most session s)
unfolding served_within
served_within_quiet zero session s = tt
served_within_quiet (suc most) session s = served_if_quiet (has_notice session s) (served_within most session) session s (served_within_quiet most session)

answered_by_quiet : (more : ServerState → Did) (code : ℕ) (waiting : Option Waiting) (session : ℕ) (s : ServerState) → ((t : ServerState) → IsQuiet (more t))
    → IsQuiet (answered_by more code waiting session s)
answered_by_quiet more code None session s rest = tt
answered_by_quiet more code (Some waiting) session s rest =
    then_quiet more (faulted waiting.asker code (unqueued session s)) (fault_quiet waiting.asker code (unqueued session s))
    (rest (faulted waiting.asker code (unqueued session s)).state)

pub answered_quiet : (most code session : ℕ) (s : ServerState) → IsQuiet (answered_within most code session s)
unfolding answered_within
answered_quiet zero code session s = tt
answered_quiet (suc most) code session s =
    answered_by_quiet (answered_within most code session) code (oldest_waiting session s) session s (answered_quiet most code session)

released_quiet : (session : ℕ) (s : ServerState) → IsQuiet (released session s)
released_quiet session s =
    either (has_subs session s || has_notice session s) (nothing s) (answered_queued bad_no_subscription session s) tt
    (answered_quiet (queued session s) bad_no_subscription session s)

left_quiet : (session : ℕ) (s : ServerState) → IsQuiet (left session s)
unfolding left
left_quiet session s =
    then_quiet (released session) (moves.served session s) (served_within_quiet (queued session s) session s)
    (released_quiet session (moves.served session s).state)

-- ---- a subscription leaves a session

left_by_quiet : (session : Option ℕ) (s : ServerState) → IsQuiet (left_by session s)
left_by_quiet None s = tt
left_by_quiet (Some session) s = left_quiet session s

pub deleted_quiet : (id : ℕ) (s : ServerState) → IsQuiet (deleted id s)
unfolding deleted
deleted_quiet id s = left_by_quiet (owner id s) (gone id s)

told_why_quiet : (session : Option ℕ) (code : ℕ) (sub : Option SubState) (s : ServerState) → IsQuiet (told_why session code sub s)
told_why_quiet None code sub s = tt
told_why_quiet (Some session) code sub s = left_quiet session (noticed_of sub session code s)

expired_quiet : (id : ℕ) (s : ServerState) → IsQuiet (expired_sub id s)
unfolding expired_sub
expired_quiet id s = told_why_quiet (owner id s) bad_timeout (sub_at id s.subs) (gone id s)

pub transferred_quiet : (id to : ℕ) (s : ServerState) → IsQuiet (transferred_sub id to s)
unfolding transferred_sub
transferred_quiet id to s =
    either (may_transfer id to s.sessions) _ _
    (told_why_quiet (other_than to (owner id s)) good_subscription_transferred (sub_at id s.subs) (given_sub id to s)) tt

-- ---- sending, and Publish

sent_by_quiet : (waiting : Waiting) (id : ℕ) (found : Option SubState) (s : ServerState) → IsQuiet (sent_by waiting id found s)
sent_by_quiet waiting id None s = tt
sent_by_quiet waiting id (Some sub) s =
    replied_quiet waiting.asker (publish_reply (sub_response waiting sub (published (server_time s) sub) s)) (with_sub id (published (server_time s)) s)
    tt

sent_quiet : (waiting : Waiting) (id : ℕ) (s : ServerState) → IsQuiet (sent waiting id s)
unfolding sent
sent_quiet waiting id s = sent_by_quiet waiting id (sub_at id s.subs) s

sent_with_quiet : (more : ServerState → Did) (waiting : Option Waiting) (id session : ℕ) (s : ServerState) → ((t : ServerState) → IsQuiet (more t))
    → IsQuiet (sent_with more waiting id session s)
sent_with_quiet more None id session s rest = tt
sent_with_quiet more (Some waiting) id session s rest =
    then_quiet more (sent waiting id (unqueued session s)) (sent_quiet waiting id (unqueued session s))
    (rest (sent waiting id (unqueued session s)).state)

sent_if_quiet : (b : Bool) (more : ServerState → Did) (id session : ℕ) (s : ServerState) → ((t : ServerState) → IsQuiet (more t))
    → IsQuiet (sent_if b more id session s)
sent_if_quiet false more id session s rest = tt
sent_if_quiet true more id session s rest = sent_with_quiet more (oldest_waiting session s) id session s rest

sent_within_quiet : (most id session : ℕ) (s : ServerState) → IsQuiet (sent_within most id session s)
unfolding sent_within
sent_within_quiet zero id session s = tt
sent_within_quiet (suc most) id session s = sent_if_quiet (has_more id s) (sent_within most id session) id session s (sent_within_quiet most id session)

sent_on_quiet : (id session : ℕ) (s : ServerState) → IsQuiet (sent_on id session s)
sent_on_quiet id session s = sent_within_quiet (queued session s) id session s

sends_quiet : (id session : ℕ) (s : ServerState) → IsQuiet (sends id session s)
unfolding sends
sends_quiet id session s = sent_with_quiet (sent_on id session) (oldest_waiting session s) id session s (sent_on_quiet id session)

driven_out_quiet : (waiting : Option Waiting) (s : ServerState) → IsQuiet (driven_out waiting s)
driven_out_quiet None s = tt
driven_out_quiet (Some waiting) s = fault_quiet waiting.asker bad_too_many_publish_requests s

queued_on_quiet : (conn : Option ℕ) (waiting : Waiting) (session : ℕ) (s : ServerState) → IsQuiet (queued_on conn waiting session s)
queued_on_quiet None waiting session s = tt
queued_on_quiet (Some conn) waiting session s =
    driven_out_quiet (waiting_of (Some conn) (driven_out_of (session_at session s.sessions.sessions)))
    (record s { sessions = parked session (parked_of waiting) s.sessions })

enqueued_quiet : (waiting : Waiting) (session : ℕ) (s : ServerState) → IsQuiet (enqueued waiting session s)
unfolding enqueued
enqueued_quiet waiting session s = queued_on_quiet (conn_of (session_at session s.sessions.sessions)) waiting session s

used_quiet : (waiting : Waiting) (id session : ℕ) (s : ServerState) → IsQuiet (used waiting id session s)
unfolding used
used_quiet waiting id session s =
    let first : Waiting = first_of (oldest_waiting session s) waiting in
    let queue : ServerState = turned (oldest_waiting session s) waiting session s in
    then_quiet (sent_on id session) (sent first id queue)
    (sent_quiet first id queue)
    (sent_on_quiet id session (sent first id queue).state)

taken_by_quiet : (sub : Option SubState) (waiting : Waiting) (session : ℕ) (s : ServerState) → IsQuiet (taken_by sub waiting session s)
taken_by_quiet None waiting session s = enqueued_quiet waiting session s
taken_by_quiet (Some sub) waiting session s = used_quiet waiting sub.spec.id session s

taken_quiet : (waiting : Waiting) (session : ℕ) (s : ServerState) → IsQuiet (taken waiting session s)
unfolding taken
taken_quiet waiting session s =
    either (has_notice session s) _ _ (told_quiet waiting session s)
    (either (has_subs session s) _ _ (taken_by_quiet (late_sub session s) waiting session s) (fault_quiet waiting.asker bad_no_subscription s))

pub publish_quiet : (asker : Asker) (session : ℕ) (r : PublishRequest) (s : ServerState) → IsQuiet (publish asker session r s)
unfolding publish
publish_quiet asker session r s =
    let acks : List SubscriptionAcknowledgement = r.subscription_acknowledgements in
    either (nat_lt 1000 (length acks)) _ _ (fault_quiet asker bad_too_many_operations s)
    (taken_quiet (waiting_with asker (ack_results session acks s)) session (all_acked session acks s))

-- ---- time

sends_for_quiet : (session : Option ℕ) (id : ℕ) (s : ServerState) → IsQuiet (sends_for session id s)
sends_for_quiet None id s = tt
sends_for_quiet (Some session) id s = sends_quiet id session s

by_row_quiet : (row : Cycle) (id : ℕ) (s : ServerState) → IsQuiet (by_row row id s)
by_row_quiet Quiet id s = tt
by_row_quiet Notify id s = sends_for_quiet (owner id s) id s
by_row_quiet KeepAlive id s = sends_for_quiet (owner id s) id s
by_row_quiet Late id s = tt
by_row_quiet Expired id s = expired_quiet id s

cycle_of_quiet : (sub : Option SubState) (id : ℕ) (s : ServerState) → IsQuiet (cycle_of sub id s)
cycle_of_quiet None id s = tt
cycle_of_quiet (Some sub) id s = by_row_quiet (row_of (is_served id s) sub) id (with_sub id (cycled (is_served id s)) s)

cycle_quiet : (id : ℕ) (s : ServerState) → IsQuiet (cycle id s)
unfolding cycle
cycle_quiet id s = cycle_of_quiet (sub_at id s.subs) id s

moment_quiet : (s : ServerState) → IsQuiet (moment s)
unfolding moment
moment_quiet s =
    then_quiet (λ after. nothing (sessions_expired after)) (each cycle (ids_due s) s) (each_quiet cycle (ids_due s) s cycle_quiet) tt

millisecond_quiet : (s : ServerState) → IsQuiet (millisecond s)
unfolding millisecond
millisecond_quiet s = either (s.age == 2 ^ 64 - 1) _ _ tt (moment_quiet (record s { age = s.age + 1 }))

pub ticked_quiet : (count : ℕ) (s : ServerState) → IsQuiet (ticked count s)
unfolding ticked
ticked_quiet zero s = tt
ticked_quiet (suc more) s = then_quiet (ticked more) (millisecond s) (millisecond_quiet s) (ticked_quiet more (millisecond s).state)
