-- What a life began with stays: the rules of answers, of Publish, and of time.
use Rattle.std.proofs.Common.{◌≡◌, ℕ, zero, suc, ◌+◌, ◌^◌, ◌==◌, ◌||◌, List, [], ◌∷◌, Bool, true, false, cond, length, nat_lt, Option, Some, None, refl, ◌∙◌, ◌-◌}
use Rattle.std.specs.Prelude.{Result, Ok, Err}
use Rattle.ua_base.specs.Status.{bad_no_subscription, bad_response_too_large, bad_tcp_message_too_large, bad_timeout, bad_too_many_operations, bad_too_many_publish_requests, good_subscription_transferred}
use Rattle.sessions.specs.Table.{conn_of, driven_out_of, may_transfer, parked, session_at}
use Rattle.ua_sub_msgs.specs.declared.publish.PublishRequest.{PublishRequest}
use Rattle.ua_sub_msgs.specs.declared.publish.SubscriptionAcknowledgement.{SubscriptionAcknowledgement}
use Rattle.ua_services.specs.declared.reply.Reply.{Reply}
use Rattle.subscription.specs.declared.cycle.Cycle.{Cycle}
use Rattle.subscription.specs.declared.cycle.Cycle.TheVariants.{Quiet, Notify, KeepAlive, Late, Expired}
use Rattle.subscription.specs.State.{SubState}
use Rattle.subscription.specs.Calls.{acknowledged as call_acknowledged, published}
use Rattle.subscription.specs.Cycle.{cycled, row_of}
use Rattle.server_rules.specs.declared.config.ServerConfig.{ServerConfig}
use Rattle.server_rules.specs.declared.conn.Asker.{Asker}
use Rattle.server_rules.specs.declared.conn.Conn.{Conn}
use Rattle.server_rules.specs.declared.waiting.Waiting.{Waiting}
use Rattle.server_rules.specs.State.{NoticeState, ServerState, conn_at, server_time, sub_at, with_sub}
use Rattle.server_rules.specs.Said.{Did, and_then, each, nothing}
use Rattle.server_rules.specs.Answering.{fault_reply, faulted, refused_on, replied, replied_on, replied_to, replied_within, takes}
use Rattle.server_rules.specs.Moves.{answered_by, answered_queued, answered_within, deleted, expired_sub, given_sub, gone, has_notice, has_subs, left, left_by, noticed, noticed_of, notice_of, notice_response, oldest_notice, oldest_waiting, other_than, owner, owns, publish_reply, queued, released, served_by, served_if, served_within, told, told_notice, told_why, transferred_sub, unqueued, waiting_of, without_oldest_notice}
use Rattle.server_rules.specs.Moves as moves
use Rattle.server_rules.specs.Operations.{after_each, done}
use Rattle.server_rules.specs.Publishing.{ack_results, acked, all_acked, driven_out, enqueued, first_of, has_more, late_sub, parked_of, publish, queued_on, sends, sent, sent_by, sent_if, sent_on, sent_with, sent_within, sub_response, taken, taken_by, turned, used, waiting_with}
use Rattle.server_rules.specs.Timer.{by_row, cycle, cycle_of, ids_due, is_served, millisecond, moment, sends_for, sessions_expired, ticked}

abbrev pub Keeps : ServerConfig → Did → Type 0
Keeps config did = did.state.config ≡ config

-- ---- rules put together

pub either : (b : Bool) (config : ServerConfig) (one other : Did) → Keeps config one → Keeps config other → Keeps config (cond b one other)
either true config one other h rest = h
either false config one other h rest = rest

pub then_keeps : (config : ServerConfig) (rule : ServerState → Did) (did : Did) → Keeps config did → Keeps did.state.config (rule did.state)
    → Keeps config (and_then rule did)
then_keeps config rule did first later = later ∙ first

pub each_keeps : {A : Type 0} (rule : A → ServerState → Did) (list : List A) (s : ServerState) → ((one : A) (t : ServerState) → Keeps t.config (rule one t))
    → Keeps s.config (each rule list s)
each_keeps rule [] s on = refl
each_keeps rule (one ∷ more) s on =
    then_keeps s.config (each rule more) (rule one s) (on one s) (each_keeps rule more (rule one s).state on)

pub steps_keep : {A : Type 0} (step : A → ServerState → ServerState) (list : List A) (s : ServerState)
    → ((one : A) (t : ServerState) → (step one t).config ≡ t.config) → (after_each step list s).config ≡ s.config
steps_keep step [] s on = refl
steps_keep step (one ∷ more) s on = steps_keep step more (step one s) on ∙ on one s

-- ---- answers

pub refused_keeps : (conn : Conn) (code : ℕ) (s : ServerState) → Keeps s.config (refused_on conn code s)
unfolding refused_on
refused_keeps conn code s = refl

within_keeps : (conn : Conn) (number : ℕ) (answer : Reply) (s : ServerState) → Keeps s.config (replied_within conn number answer s)
unfolding replied_within
within_keeps conn number answer s = refl

on_keeps : (conn : Conn) (number handle : ℕ) (answer : Reply) (s : ServerState) → Keeps s.config (replied_on conn number handle answer s)
unfolding replied_on
on_keeps conn number handle answer s =
    let fault : Reply = fault_reply handle bad_response_too_large s in
    either (takes conn answer) s.config _ _ (within_keeps conn number answer s)
    (either (takes conn fault) s.config _ _ (within_keeps conn number fault s) (refused_keeps conn bad_tcp_message_too_large s))

to_keeps : (found : Option Conn) (number handle : ℕ) (answer : Reply) (s : ServerState) → Keeps s.config (replied_to found number handle answer s)
to_keeps None number handle answer s = refl
to_keeps (Some conn) number handle answer s = on_keeps conn number handle answer s

pub replied_keeps : (asker : Asker) (answer : Reply) (s : ServerState) → Keeps s.config (replied asker answer s)
unfolding replied
replied_keeps asker answer s = to_keeps (conn_at asker.conn s.conns) asker.request asker.handle answer s

-- after changes that keep it too
pub replied_after : (asker : Asker) (answer : Reply) (s t : ServerState) → t.config ≡ s.config → Keeps s.config (replied asker answer t)
replied_after asker answer s t same = replied_keeps asker answer t ∙ same

pub fault_keeps : (asker : Asker) (code : ℕ) (s : ServerState) → Keeps s.config (faulted asker code s)
fault_keeps asker code s = replied_keeps asker (fault_reply asker.handle code s) s

pub done_keeps : {A : Type 0} (asker : Asker) (rule : A → ServerState → Did) (result : Result A ℕ) (s : ServerState)
    → ((found : A) → Keeps s.config (rule found s)) → Keeps s.config (done asker rule result s)
done_keeps asker rule (Ok found) s on = on found
done_keeps asker rule (Err code) s on = fault_keeps asker code s

-- ---- notices and queued Publishes

told_by : (waiting : Waiting) (notice : Option NoticeState) (session : ℕ) (s : ServerState) → Keeps s.config (told_notice waiting notice session s)
told_by waiting None session s = refl
told_by waiting (Some notice) session s =
    replied_keeps waiting.asker (publish_reply (notice_response waiting notice s)) (record s { notices = without_oldest_notice session s.notices })

told_keeps : (waiting : Waiting) (session : ℕ) (s : ServerState) → Keeps s.config (told waiting session s)
unfolding told
told_keeps waiting session s = told_by waiting (oldest_notice session s.notices) session s

served_by_keeps : (more : ServerState → Did) (waiting : Option Waiting) (session : ℕ) (s : ServerState) → ((t : ServerState) → Keeps t.config (more t))
    → Keeps s.config (served_by more waiting session s)
served_by_keeps more None session s rest = refl
served_by_keeps more (Some waiting) session s rest =
    then_keeps s.config more (told waiting session (unqueued session s)) (told_keeps waiting session (unqueued session s))
    (rest (told waiting session (unqueued session s)).state)

served_if_keeps : (b : Bool) (more : ServerState → Did) (session : ℕ) (s : ServerState) → ((t : ServerState) → Keeps t.config (more t))
    → Keeps s.config (served_if b more session s)
served_if_keeps false more session s rest = refl
served_if_keeps true more session s rest = served_by_keeps more (oldest_waiting session s) session s rest

served_within_keeps : (most session : ℕ) (s : ServerState) → Keeps s.config (served_within most session s)
unfolding served_within
served_within_keeps zero session s = refl
served_within_keeps (suc most) session s = served_if_keeps (has_notice session s) (served_within most session) session s (served_within_keeps most session)

answered_by_keeps : (more : ServerState → Did) (code : ℕ) (waiting : Option Waiting) (session : ℕ) (s : ServerState) → ((t : ServerState) → Keeps t.config (more t))
    → Keeps s.config (answered_by more code waiting session s)
answered_by_keeps more code None session s rest = refl
answered_by_keeps more code (Some waiting) session s rest =
    then_keeps s.config more (faulted waiting.asker code (unqueued session s)) (fault_keeps waiting.asker code (unqueued session s))
    (rest (faulted waiting.asker code (unqueued session s)).state)

pub answered_keeps : (most code session : ℕ) (s : ServerState) → Keeps s.config (answered_within most code session s)
unfolding answered_within
answered_keeps zero code session s = refl
answered_keeps (suc most) code session s =
    answered_by_keeps (answered_within most code session) code (oldest_waiting session s) session s (answered_keeps most code session)

released_keeps : (session : ℕ) (s : ServerState) → Keeps s.config (released session s)
released_keeps session s =
    either (has_subs session s || has_notice session s) s.config (nothing s) (answered_queued bad_no_subscription session s) refl
    (answered_keeps (queued session s) bad_no_subscription session s)

left_keeps : (session : ℕ) (s : ServerState) → Keeps s.config (left session s)
unfolding left
left_keeps session s =
    then_keeps s.config (released session) (moves.served session s) (served_within_keeps (queued session s) session s)
    (released_keeps session (moves.served session s).state)

-- ---- a subscription leaves a session

left_by_keeps : (session : Option ℕ) (s : ServerState) → Keeps s.config (left_by session s)
left_by_keeps None s = refl
left_by_keeps (Some session) s = left_keeps session s

pub deleted_keeps : (id : ℕ) (s : ServerState) → Keeps s.config (deleted id s)
unfolding deleted
deleted_keeps id s = left_by_keeps (owner id s) (gone id s)

noticed_keeps : (notice : NoticeState) (s : ServerState) → (noticed notice s).config ≡ s.config
unfolding noticed
noticed_keeps notice s = refl

noticed_of_keeps : (sub : Option SubState) (session code : ℕ) (s : ServerState) → (noticed_of sub session code s).config ≡ s.config
noticed_of_keeps None session code s = refl
noticed_of_keeps (Some sub) session code s = noticed_keeps (notice_of session code sub) s

told_why_keeps : (session : Option ℕ) (code : ℕ) (sub : Option SubState) (s : ServerState) → Keeps s.config (told_why session code sub s)
told_why_keeps None code sub s = refl
told_why_keeps (Some session) code sub s = left_keeps session (noticed_of sub session code s) ∙ noticed_of_keeps sub session code s

expired_keeps : (id : ℕ) (s : ServerState) → Keeps s.config (expired_sub id s)
unfolding expired_sub
expired_keeps id s = told_why_keeps (owner id s) bad_timeout (sub_at id s.subs) (gone id s)

pub transferred_keeps : (id to : ℕ) (s : ServerState) → Keeps s.config (transferred_sub id to s)
unfolding transferred_sub
transferred_keeps id to s =
    either (may_transfer id to s.sessions) s.config _ _
    (told_why_keeps (other_than to (owner id s)) good_subscription_transferred (sub_at id s.subs) (given_sub id to s)) refl

-- ---- sending, and Publish

acked_keeps : (session : ℕ) (ack : SubscriptionAcknowledgement) (s : ServerState) → (acked session ack s).config ≡ s.config
acked_keeps session ack s = by_owner (owns session ack.subscription_id s)
  where
    by_owner : (b : Bool) → (cond b (with_sub ack.subscription_id (call_acknowledged ack.sequence_number) s) s).config ≡ s.config
    by_owner true = refl
    by_owner false = refl

all_acked_keeps : (session : ℕ) (acks : List SubscriptionAcknowledgement) (s : ServerState) → (all_acked session acks s).config ≡ s.config
all_acked_keeps session [] s = refl
all_acked_keeps session (ack ∷ acks) s = all_acked_keeps session acks (acked session ack s) ∙ acked_keeps session ack s

sent_by_keeps : (waiting : Waiting) (id : ℕ) (found : Option SubState) (s : ServerState) → Keeps s.config (sent_by waiting id found s)
sent_by_keeps waiting id None s = refl
sent_by_keeps waiting id (Some sub) s =
    replied_keeps waiting.asker (publish_reply (sub_response waiting sub (published (server_time s) sub) s)) (with_sub id (published (server_time s)) s)

sent_keeps : (waiting : Waiting) (id : ℕ) (s : ServerState) → Keeps s.config (sent waiting id s)
unfolding sent
sent_keeps waiting id s = sent_by_keeps waiting id (sub_at id s.subs) s

sent_with_keeps : (more : ServerState → Did) (waiting : Option Waiting) (id session : ℕ) (s : ServerState) → ((t : ServerState) → Keeps t.config (more t))
    → Keeps s.config (sent_with more waiting id session s)
sent_with_keeps more None id session s rest = refl
sent_with_keeps more (Some waiting) id session s rest =
    then_keeps s.config more (sent waiting id (unqueued session s)) (sent_keeps waiting id (unqueued session s))
    (rest (sent waiting id (unqueued session s)).state)

sent_if_keeps : (b : Bool) (more : ServerState → Did) (id session : ℕ) (s : ServerState) → ((t : ServerState) → Keeps t.config (more t))
    → Keeps s.config (sent_if b more id session s)
sent_if_keeps false more id session s rest = refl
sent_if_keeps true more id session s rest = sent_with_keeps more (oldest_waiting session s) id session s rest

sent_within_keeps : (most id session : ℕ) (s : ServerState) → Keeps s.config (sent_within most id session s)
unfolding sent_within
sent_within_keeps zero id session s = refl
sent_within_keeps (suc most) id session s = sent_if_keeps (has_more id s) (sent_within most id session) id session s (sent_within_keeps most id session)

sent_on_keeps : (id session : ℕ) (s : ServerState) → Keeps s.config (sent_on id session s)
sent_on_keeps id session s = sent_within_keeps (queued session s) id session s

sends_keeps : (id session : ℕ) (s : ServerState) → Keeps s.config (sends id session s)
unfolding sends
sends_keeps id session s = sent_with_keeps (sent_on id session) (oldest_waiting session s) id session s (sent_on_keeps id session)

driven_out_keeps : (waiting : Option Waiting) (s : ServerState) → Keeps s.config (driven_out waiting s)
driven_out_keeps None s = refl
driven_out_keeps (Some waiting) s = fault_keeps waiting.asker bad_too_many_publish_requests s

queued_on_keeps : (conn : Option ℕ) (waiting : Waiting) (session : ℕ) (s : ServerState) → Keeps s.config (queued_on conn waiting session s)
queued_on_keeps None waiting session s = refl
queued_on_keeps (Some conn) waiting session s =
    driven_out_keeps (waiting_of (Some conn) (driven_out_of (session_at session s.sessions.sessions)))
    (record s { sessions = parked session (parked_of waiting) s.sessions })

enqueued_keeps : (waiting : Waiting) (session : ℕ) (s : ServerState) → Keeps s.config (enqueued waiting session s)
unfolding enqueued
enqueued_keeps waiting session s = queued_on_keeps (conn_of (session_at session s.sessions.sessions)) waiting session s

turned_keeps : (oldest : Option Waiting) (waiting : Waiting) (session : ℕ) (s : ServerState) → (turned oldest waiting session s).config ≡ s.config
turned_keeps None waiting session s = refl
turned_keeps (Some oldest) waiting session s = refl

used_keeps : (waiting : Waiting) (id session : ℕ) (s : ServerState) → Keeps s.config (used waiting id session s)
unfolding used
used_keeps waiting id session s =
    let first : Waiting = first_of (oldest_waiting session s) waiting in
    let queue : ServerState = turned (oldest_waiting session s) waiting session s in
    then_keeps s.config (sent_on id session) (sent first id queue)
    (sent_keeps first id queue ∙ turned_keeps (oldest_waiting session s) waiting session s)
    (sent_on_keeps id session (sent first id queue).state)

taken_by_keeps : (sub : Option SubState) (waiting : Waiting) (session : ℕ) (s : ServerState) → Keeps s.config (taken_by sub waiting session s)
taken_by_keeps None waiting session s = enqueued_keeps waiting session s
taken_by_keeps (Some sub) waiting session s = used_keeps waiting sub.spec.id session s

taken_keeps : (waiting : Waiting) (session : ℕ) (s : ServerState) → Keeps s.config (taken waiting session s)
unfolding taken
taken_keeps waiting session s =
    either (has_notice session s) s.config _ _ (told_keeps waiting session s)
    (either (has_subs session s) s.config _ _ (taken_by_keeps (late_sub session s) waiting session s) (fault_keeps waiting.asker bad_no_subscription s))

pub publish_keeps : (asker : Asker) (session : ℕ) (r : PublishRequest) (s : ServerState) → Keeps s.config (publish asker session r s)
unfolding publish
publish_keeps asker session r s =
    let acks : List SubscriptionAcknowledgement = r.subscription_acknowledgements in
    either (nat_lt 1000 (length acks)) s.config _ _ (fault_keeps asker bad_too_many_operations s)
    (taken_keeps (waiting_with asker (ack_results session acks s)) session (all_acked session acks s) ∙ all_acked_keeps session acks s)

-- ---- time

sends_for_keeps : (session : Option ℕ) (id : ℕ) (s : ServerState) → Keeps s.config (sends_for session id s)
sends_for_keeps None id s = refl
sends_for_keeps (Some session) id s = sends_keeps id session s

by_row_keeps : (row : Cycle) (id : ℕ) (s : ServerState) → Keeps s.config (by_row row id s)
by_row_keeps Quiet id s = refl
by_row_keeps Notify id s = sends_for_keeps (owner id s) id s
by_row_keeps KeepAlive id s = sends_for_keeps (owner id s) id s
by_row_keeps Late id s = refl
by_row_keeps Expired id s = expired_keeps id s

cycle_of_keeps : (sub : Option SubState) (id : ℕ) (s : ServerState) → Keeps s.config (cycle_of sub id s)
cycle_of_keeps None id s = refl
cycle_of_keeps (Some sub) id s = by_row_keeps (row_of (is_served id s) sub) id (with_sub id (cycled (is_served id s)) s)

cycle_keeps : (id : ℕ) (s : ServerState) → Keeps s.config (cycle id s)
unfolding cycle
cycle_keeps id s = cycle_of_keeps (sub_at id s.subs) id s

moment_keeps : (s : ServerState) → Keeps s.config (moment s)
unfolding moment
moment_keeps s =
    then_keeps s.config (λ after. nothing (sessions_expired after)) (each cycle (ids_due s) s) (each_keeps cycle (ids_due s) s cycle_keeps) refl

millisecond_keeps : (s : ServerState) → Keeps s.config (millisecond s)
unfolding millisecond
millisecond_keeps s = either (s.age == 2 ^ 64 - 1) s.config _ _ refl (moment_keeps (record s { age = s.age + 1 }))

pub ticked_keeps : (count : ℕ) (s : ServerState) → Keeps s.config (ticked count s)
unfolding ticked
ticked_keeps zero s = refl
ticked_keeps (suc more) s = then_keeps s.config (ticked more) (millisecond s) (millisecond_keeps s) (ticked_keeps more (millisecond s).state)
