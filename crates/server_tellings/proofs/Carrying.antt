-- What Publish responses carry: the rules of answers, of Publish, and of time.
use Rattle.std.proofs.Common.{ℕ, zero, suc, ◌+◌, ◌^◌, ◌==◌, ◌||◌, List, [], ◌∷◌, Bool, true, false, cond, length, nat_lt, Option, Some, None, refl, ◌-◌, ℤ, inl, inr}
use Rattle.std.specs.Prelude.{Result, Ok, Err}
use Rattle.ua_base.specs.Status.{bad_no_subscription, bad_response_too_large, bad_tcp_message_too_large, bad_timeout, bad_too_many_operations, bad_too_many_publish_requests, good_subscription_transferred}
use Rattle.sessions.specs.Table.{conn_of, driven_out_of, may_transfer, parked, session_at}
use Rattle.ua_sub_msgs.specs.declared.publish.PublishRequest.{PublishRequest}
use Rattle.ua_sub_msgs.specs.declared.publish.SubscriptionAcknowledgement.{SubscriptionAcknowledgement}
use Rattle.ua_services.specs.declared.reply.Reply.{Reply}
use Rattle.subscription.specs.declared.cycle.Cycle.{Cycle}
use Rattle.subscription.specs.declared.cycle.Cycle.TheVariants.{Quiet, Notify, KeepAlive, Late, Expired}
use Rattle.subscription.specs.State.{SubState}
use Rattle.subscription.specs.Calls.{published}
use Rattle.subscription.specs.Cycle.{cycled, row_of}
use Rattle.server_rules.specs.declared.conn.Asker.{Asker}
use Rattle.server_rules.specs.declared.conn.Conn.{Conn}
use Rattle.server_rules.specs.declared.waiting.Waiting.{Waiting}
use Rattle.server_rules.specs.State.{NoticeState, ServerState, conn_at, server_time, sub_at, with_sub}
use Rattle.server_rules.specs.Said.{Did, and_then, each, nothing}
use Rattle.server_rules.specs.Answering.{fault_reply, faulted, refused_on, replied, replied_on, replied_to, replied_within, takes}
use Rattle.server_rules.specs.Moves.{answered_by, answered_queued, answered_within, deleted, expired_sub, given_sub, gone, has_notice, has_subs, left, left_by, noticed, noticed_of, notice_of, notice_response, oldest_notice, oldest_waiting, other_than, owner, owns, publish_reply, queued, released, served_by, served_if, served_within, told, told_notice, told_why, transferred_sub, unqueued, waiting_of, without_oldest_notice}
use Rattle.server_rules.specs.Moves as moves
use Rattle.server_rules.specs.Operations.{done}
use Rattle.server_rules.specs.Publishing.{ack_results, all_acked, driven_out, enqueued, first_of, has_more, late_sub, parked_of, publish, queued_on, sends, sent, sent_by, sent_if, sent_on, sent_with, sent_within, sub_response, taken, taken_by, turned, used, waiting_with}
use Rattle.server_rules.specs.Timer.{by_row, cycle, cycle_of, ids_due, is_served, millisecond, moment, sends_for, sessions_expired, ticked}
use Rattle.subscription.specs.Calls.{entries_told}
use Rattle.subscription.specs.Items.{Told as Entry}
use Rattle.subscription.specs.Message.{message_of}
use Rattle.link_rules.specs.Messages.{content_of}
use Rattle.server_keeps.proofs.Lists.{all_join}
use Rattle.server_rules.specs.Moves.{notice_message}
use Rattle.server_tellings.specs.Carried.{AreCarried, CarriesReply, CarriesSaid, IsMessage}

abbrev pub Carries : Did → Type 0
Carries did = AreCarried did.said

-- ---- messages

is_last : (now : ℤ) (notice : NoticeState) → IsMessage (notice_message now notice)
unfolding content_of
is_last now notice =
    inr (inr (record { change = record { status = notice.code; diagnostic_info = record {} }; is = refl; ends = refl }))

is_next : (number : ℕ) (now : ℤ) (entries : List Entry) → IsMessage (message_of number now entries)
is_next number now [] = inl refl
is_next number now (one ∷ more) =
    inr (inl (record { number = number; now = now; entries = one ∷ more; some = λ none. absurd cc; is = refl }))

-- ---- rules put together

pub either : (b : Bool) (one other : Did) → Carries one → Carries other → Carries (cond b one other)
either true one other h rest = h
either false one other h rest = rest

pub then_carries : (rule : ServerState → Did) (did : Did) → Carries did → Carries (rule did.state) → Carries (and_then rule did)
then_carries rule did first later = all_join CarriesSaid did.said (rule did.state).said first later

pub each_carries : {A : Type 0} (rule : A → ServerState → Did) (list : List A) (s : ServerState) → ((one : A) (t : ServerState) → Carries (rule one t))
    → Carries (each rule list s)
each_carries rule [] s on = tt
each_carries rule (one ∷ more) s on =
    then_carries (each rule more) (rule one s) (on one s) (each_carries rule more (rule one s).state on)

-- ---- answers

pub refused_carries : (conn : Conn) (code : ℕ) (s : ServerState) → Carries (refused_on conn code s)
unfolding refused_on
refused_carries conn code s = (tt, tt)

within_carries : (conn : Conn) (number : ℕ) (answer : Reply) (s : ServerState) → CarriesReply answer → Carries (replied_within conn number answer s)
unfolding replied_within
within_carries conn number answer s h = (h, tt)

on_carries : (conn : Conn) (number handle : ℕ) (answer : Reply) (s : ServerState) → CarriesReply answer → Carries (replied_on conn number handle answer s)
unfolding replied_on
on_carries conn number handle answer s h =
    let fault : Reply = fault_reply handle bad_response_too_large s in
    either (takes conn answer) _ _ (within_carries conn number answer s h)
    (either (takes conn fault) _ _ (within_carries conn number fault s tt) (refused_carries conn bad_tcp_message_too_large s))

to_carries : (found : Option Conn) (number handle : ℕ) (answer : Reply) (s : ServerState) → CarriesReply answer
    → Carries (replied_to found number handle answer s)
to_carries None number handle answer s h = tt
to_carries (Some conn) number handle answer s h = on_carries conn number handle answer s h

pub replied_carries : (asker : Asker) (answer : Reply) (s : ServerState) → CarriesReply answer → Carries (replied asker answer s)
unfolding replied
replied_carries asker answer s h = to_carries (conn_at asker.conn s.conns) asker.request asker.handle answer s h

pub fault_carries : (asker : Asker) (code : ℕ) (s : ServerState) → Carries (faulted asker code s)
fault_carries asker code s = replied_carries asker (fault_reply asker.handle code s) s tt

pub done_carries : {A : Type 0} (asker : Asker) (rule : A → ServerState → Did) (result : Result A ℕ) (s : ServerState)
    → ((found : A) → Carries (rule found s)) → Carries (done asker rule result s)
done_carries asker rule (Ok found) s on = on found
done_carries asker rule (Err code) s on = fault_carries asker code s

-- ---- notices and queued Publishes

told_by : (waiting : Waiting) (notice : Option NoticeState) (session : ℕ) (s : ServerState) → Carries (told_notice waiting notice session s)
told_by waiting None session s = tt
told_by waiting (Some notice) session s =
    replied_carries waiting.asker (publish_reply (notice_response waiting notice s)) (record s { notices = without_oldest_notice session s.notices })
    (is_last (server_time s) notice)

told_carries : (waiting : Waiting) (session : ℕ) (s : ServerState) → Carries (told waiting session s)
unfolding told
told_carries waiting session s = told_by waiting (oldest_notice session s.notices) session s

served_by_carries : (more : ServerState → Did) (waiting : Option Waiting) (session : ℕ) (s : ServerState) → ((t : ServerState) → Carries (more t))
    → Carries (served_by more waiting session s)
served_by_carries more None session s rest = tt
served_by_carries more (Some waiting) session s rest =
    then_carries more (told waiting session (unqueued session s)) (told_carries waiting session (unqueued session s))
    (rest (told waiting session (unqueued session s)).state)

served_if_carries : (b : Bool) (more : ServerState → Did) (session : ℕ) (s : ServerState) → ((t : ServerState) → Carries (more t))
    → Carries (served_if b more session s)
served_if_carries false more session s rest = tt
served_if_carries true more session s rest = served_by_carries more (oldest_waiting session s) session s rest

served_within_carries : (most session : ℕ) (s : ServerState) → Carries (served_within most session s)
unfolding served_within
served_within_carries zero session s = tt
served_within_carries (suc most) session s = served_if_carries (has_notice session s) (served_within most session) session s (served_within_carries most session)

answered_by_carries : (more : ServerState → Did) (code : ℕ) (waiting : Option Waiting) (session : ℕ) (s : ServerState) → ((t : ServerState) → Carries (more t))
    → Carries (answered_by more code waiting session s)
answered_by_carries more code None session s rest = tt
answered_by_carries more code (Some waiting) session s rest =
    then_carries more (faulted waiting.asker code (unqueued session s)) (fault_carries waiting.asker code (unqueued session s))
    (rest (faulted waiting.asker code (unqueued session s)).state)

pub answered_carries : (most code session : ℕ) (s : ServerState) → Carries (answered_within most code session s)
unfolding answered_within
answered_carries zero code session s = tt
answered_carries (suc most) code session s =
    answered_by_carries (answered_within most code session) code (oldest_waiting session s) session s (answered_carries most code session)

released_carries : (session : ℕ) (s : ServerState) → Carries (released session s)
released_carries session s =
    either (has_subs session s || has_notice session s) (nothing s) (answered_queued bad_no_subscription session s) tt
    (answered_carries (queued session s) bad_no_subscription session s)

left_carries : (session : ℕ) (s : ServerState) → Carries (left session s)
unfolding left
left_carries session s =
    then_carries (released session) (moves.served session s) (served_within_carries (queued session s) session s)
    (released_carries session (moves.served session s).state)

-- ---- a subscription leaves a session

left_by_carries : (session : Option ℕ) (s : ServerState) → Carries (left_by session s)
left_by_carries None s = tt
left_by_carries (Some session) s = left_carries session s

pub deleted_carries : (id : ℕ) (s : ServerState) → Carries (deleted id s)
unfolding deleted
deleted_carries id s = left_by_carries (owner id s) (gone id s)

told_why_carries : (session : Option ℕ) (code : ℕ) (sub : Option SubState) (s : ServerState) → Carries (told_why session code sub s)
told_why_carries None code sub s = tt
told_why_carries (Some session) code sub s = left_carries session (noticed_of sub session code s)

expired_carries : (id : ℕ) (s : ServerState) → Carries (expired_sub id s)
unfolding expired_sub
expired_carries id s = told_why_carries (owner id s) bad_timeout (sub_at id s.subs) (gone id s)

pub transferred_carries : (id to : ℕ) (s : ServerState) → Carries (transferred_sub id to s)
unfolding transferred_sub
transferred_carries id to s =
    either (may_transfer id to s.sessions) _ _
    (told_why_carries (other_than to (owner id s)) good_subscription_transferred (sub_at id s.subs) (given_sub id to s)) tt

-- ---- sending, and Publish

sent_by_carries : (waiting : Waiting) (id : ℕ) (found : Option SubState) (s : ServerState) → Carries (sent_by waiting id found s)
sent_by_carries waiting id None s = tt
sent_by_carries waiting id (Some sub) s =
    replied_carries waiting.asker (publish_reply (sub_response waiting sub (published (server_time s) sub) s)) (with_sub id (published (server_time s)) s)
    (is_next sub.next (server_time s) (entries_told sub))

sent_carries : (waiting : Waiting) (id : ℕ) (s : ServerState) → Carries (sent waiting id s)
unfolding sent
sent_carries waiting id s = sent_by_carries waiting id (sub_at id s.subs) s

sent_with_carries : (more : ServerState → Did) (waiting : Option Waiting) (id session : ℕ) (s : ServerState) → ((t : ServerState) → Carries (more t))
    → Carries (sent_with more waiting id session s)
sent_with_carries more None id session s rest = tt
sent_with_carries more (Some waiting) id session s rest =
    then_carries more (sent waiting id (unqueued session s)) (sent_carries waiting id (unqueued session s))
    (rest (sent waiting id (unqueued session s)).state)

sent_if_carries : (b : Bool) (more : ServerState → Did) (id session : ℕ) (s : ServerState) → ((t : ServerState) → Carries (more t))
    → Carries (sent_if b more id session s)
sent_if_carries false more id session s rest = tt
sent_if_carries true more id session s rest = sent_with_carries more (oldest_waiting session s) id session s rest

sent_within_carries : (most id session : ℕ) (s : ServerState) → Carries (sent_within most id session s)
unfolding sent_within
sent_within_carries zero id session s = tt
sent_within_carries (suc most) id session s = sent_if_carries (has_more id s) (sent_within most id session) id session s (sent_within_carries most id session)

sent_on_carries : (id session : ℕ) (s : ServerState) → Carries (sent_on id session s)
sent_on_carries id session s = sent_within_carries (queued session s) id session s

sends_carries : (id session : ℕ) (s : ServerState) → Carries (sends id session s)
unfolding sends
sends_carries id session s = sent_with_carries (sent_on id session) (oldest_waiting session s) id session s (sent_on_carries id session)

driven_out_carries : (waiting : Option Waiting) (s : ServerState) → Carries (driven_out waiting s)
driven_out_carries None s = tt
driven_out_carries (Some waiting) s = fault_carries waiting.asker bad_too_many_publish_requests s

queued_on_carries : (conn : Option ℕ) (waiting : Waiting) (session : ℕ) (s : ServerState) → Carries (queued_on conn waiting session s)
queued_on_carries None waiting session s = tt
queued_on_carries (Some conn) waiting session s =
    driven_out_carries (waiting_of (Some conn) (driven_out_of (session_at session s.sessions.sessions)))
    (record s { sessions = parked session (parked_of waiting) s.sessions })

enqueued_carries : (waiting : Waiting) (session : ℕ) (s : ServerState) → Carries (enqueued waiting session s)
unfolding enqueued
enqueued_carries waiting session s = queued_on_carries (conn_of (session_at session s.sessions.sessions)) waiting session s

used_carries : (waiting : Waiting) (id session : ℕ) (s : ServerState) → Carries (used waiting id session s)
unfolding used
used_carries waiting id session s =
    let first : Waiting = first_of (oldest_waiting session s) waiting in
    let queue : ServerState = turned (oldest_waiting session s) waiting session s in
    then_carries (sent_on id session) (sent first id queue)
    (sent_carries first id queue)
    (sent_on_carries id session (sent first id queue).state)

taken_by_carries : (sub : Option SubState) (waiting : Waiting) (session : ℕ) (s : ServerState) → Carries (taken_by sub waiting session s)
taken_by_carries None waiting session s = enqueued_carries waiting session s
taken_by_carries (Some sub) waiting session s = used_carries waiting sub.spec.id session s

taken_carries : (waiting : Waiting) (session : ℕ) (s : ServerState) → Carries (taken waiting session s)
unfolding taken
taken_carries waiting session s =
    either (has_notice session s) _ _ (told_carries waiting session s)
    (either (has_subs session s) _ _ (taken_by_carries (late_sub session s) waiting session s) (fault_carries waiting.asker bad_no_subscription s))

pub publish_carries : (asker : Asker) (session : ℕ) (r : PublishRequest) (s : ServerState) → Carries (publish asker session r s)
unfolding publish
publish_carries asker session r s =
    let acks : List SubscriptionAcknowledgement = r.subscription_acknowledgements in
    either (nat_lt 1000 (length acks)) _ _ (fault_carries asker bad_too_many_operations s)
    (taken_carries (waiting_with asker (ack_results session acks s)) session (all_acked session acks s))

-- ---- time

sends_for_carries : (session : Option ℕ) (id : ℕ) (s : ServerState) → Carries (sends_for session id s)
sends_for_carries None id s = tt
sends_for_carries (Some session) id s = sends_carries id session s

by_row_carries : (row : Cycle) (id : ℕ) (s : ServerState) → Carries (by_row row id s)
by_row_carries Quiet id s = tt
by_row_carries Notify id s = sends_for_carries (owner id s) id s
by_row_carries KeepAlive id s = sends_for_carries (owner id s) id s
by_row_carries Late id s = tt
by_row_carries Expired id s = expired_carries id s

cycle_of_carries : (sub : Option SubState) (id : ℕ) (s : ServerState) → Carries (cycle_of sub id s)
cycle_of_carries None id s = tt
cycle_of_carries (Some sub) id s = by_row_carries (row_of (is_served id s) sub) id (with_sub id (cycled (is_served id s)) s)

cycle_carries : (id : ℕ) (s : ServerState) → Carries (cycle id s)
unfolding cycle
cycle_carries id s = cycle_of_carries (sub_at id s.subs) id s

moment_carries : (s : ServerState) → Carries (moment s)
unfolding moment
moment_carries s =
    then_carries (λ after. nothing (sessions_expired after)) (each cycle (ids_due s) s) (each_carries cycle (ids_due s) s cycle_carries) tt

millisecond_carries : (s : ServerState) → Carries (millisecond s)
unfolding millisecond
millisecond_carries s = either (s.age == 2 ^ 64 - 1) _ _ tt (moment_carries (record s { age = s.age + 1 }))

pub ticked_carries : (count : ℕ) (s : ServerState) → Carries (ticked count s)
unfolding ticked
ticked_carries zero s = tt
ticked_carries (suc more) s = then_carries (ticked more) (millisecond s) (millisecond_carries s) (ticked_carries more (millisecond s).state)
