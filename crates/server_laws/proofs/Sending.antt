-- What becomes of a Publish, in moves.
use Rattle.std.proofs.Common.{◌≡◌, ℕ, ℤ, zero, suc, ◌==◌, List, [], ◌∷◌, Bool, true, false, cond, length, nat_lt, Option, Some, None, refl, sym, ap, ◌∙◌, subst, arith}
use Rattle.std.proofs.lemmas.Bool.Decides.{nat_tests}
use Rattle.ua_base.specs.Status.{bad_no_subscription, bad_too_many_operations, bad_too_many_publish_requests}
use Rattle.ua_sub_msgs.specs.declared.publish.PublishRequest.{PublishRequest}
use Rattle.ua_sub_msgs.specs.declared.publish.SubscriptionAcknowledgement.{SubscriptionAcknowledgement}
use Rattle.sessions.specs.Calls.{Park}
use Rattle.sessions.specs.Table.{conn_of, driven_out_of, parked, session_at}
use Rattle.subscription.specs.Calls.{acknowledged, entries_told, next_message, published}
use Rattle.subscription.specs.Items.{Told}
use Rattle.subscription.specs.Message.{message_of}
use Rattle.subscription.specs.Sendings.{data_of}
use Rattle.subscription.specs.State.{SubState}
use Rattle.server_rules.specs.declared.conn.Asker.{Asker}
use Rattle.server_rules.specs.declared.waiting.Waiting.{Waiting}
use Rattle.server_rules.specs.State.{ServerState, is_sub, server_time, sub_at, with_sub}
use Rattle.server_rules.specs.Said.{Did}
use Rattle.server_rules.specs.Moves.{has_notice, has_subs, oldest_waiting, owns, publish_reply, queued, unqueued, waiting_of}
use Rattle.server_rules.specs.Publishing.{ack_results, acked, all_acked, driven_out, enqueued, first_of, has_more, late_sub, parked_of, publish, queued_on, sends, sent, sent_by, sent_if, sent_on, sent_with, sent_within, sub_response, taken, taken_by, turned, used, waiting_with}
use Rattle.server_laws.specs.Moves.{Acknowledges, Asks, Does, Sends, sent_as, sent_of}
use Rattle.server_laws.specs.Facts.{IsWithin, data_in}
use Rattle.server_laws.specs.Course.{Comes, Leave}
use Rattle.server_laws.proofs.Coming.{begun_by, either, idle, then_comes}
use Rattle.server_laws.proofs.Replying.{answer_comes, fault_comes}
use Rattle.server_laws.proofs.Owning.{From, told_comes, unqueued_from}
use Rattle.server_laws.proofs.Within.{all_within}

-- ---- acknowledgements

acked_from : (leave : Leave) (session : ℕ) (ack : SubscriptionAcknowledgement) (s : ServerState) → From leave s (acked session ack s)
acked_from leave session ack s did h = by_owner (owns session ack.subscription_id s) h
  where
    by_owner : (b : Bool) → Comes leave (cond b (with_sub ack.subscription_id (acknowledged ack.sequence_number) s) s) did → Comes leave s did
    by_owner true h = begun_by leave (Does ack.subscription_id (Acknowledges ack.sequence_number)) s (with_sub ack.subscription_id (acknowledged ack.sequence_number) s) did tt tt refl h
    by_owner false h = h

all_acked_from : (leave : Leave) (session : ℕ) (acks : List SubscriptionAcknowledgement) (s : ServerState) → From leave s (all_acked session acks s)
all_acked_from leave session [] s did h = h
all_acked_from leave session (ack ∷ acks) s did h =
    acked_from leave session ack s did (all_acked_from leave session acks (acked session ack s) did h)

-- ---- sending

-- what is found has the id
found_by : (b : Bool) (id : ℕ) (one sub : SubState) (rest : Option SubState) → (one.spec.id == id) ≡ b → (rest ≡ Some sub → sub.spec.id ≡ id)
    → cond (is_sub id one) (Some one) rest ≡ Some sub → sub.spec.id ≡ id
found_by true id one sub rest test on found =
    let is : Some one ≡ Some sub = sym (ap (λ b. cond b (Some one) rest) test) ∙ found in
    let same : one ≡ sub = cc in
    let own : one.spec.id ≡ id = grind (arith, nat_tests) in
    sym (ap (λ (s : SubState). s.spec.id) same) ∙ own
found_by false id one sub rest test on found = on (sym (ap (λ b. cond b (Some one) rest) test) ∙ found)

pub found_id : (id : ℕ) (subs : List SubState) (sub : SubState) → sub_at id subs ≡ Some sub → sub.spec.id ≡ id
found_id id [] sub found = absurd cc
found_id id (one ∷ subs) sub found = found_by _ id one sub (sub_at id subs) refl (found_id id subs sub) found

-- a message shows whether it has data
data_shown : (id number : ℕ) (now : ℤ) (entries : List Told)
    → data_in id (message_of number now entries) (message_of number now entries).notification_data ≡ sent_as id (data_of number now entries)
data_shown id number now [] = refl
data_shown id number now (one ∷ more) = refl

sent_by_comes : (leave : Leave) (waiting : Waiting) (id : ℕ) (found : Option SubState) (s : ServerState) → sub_at id s.subs ≡ found
    → Comes leave s (sent_by waiting id found s)
sent_by_comes leave waiting id None s is = idle leave s
sent_by_comes leave waiting id (Some sub) s is =
    let now : ℤ = server_time s in
    let own : sub.spec.id ≡ id = found_id id s.subs sub is in
    let facts : data_in sub.spec.id (next_message now sub) (next_message now sub).notification_data ≡ sent_of id (Sends now) s.current (sub_at id s.subs) =
    ap (λ n. data_in n (next_message now sub) (next_message now sub).notification_data) own ∙ data_shown id sub.next now (entries_told sub)
    ∙ sym (ap (sent_of id (Sends now) s.current) is) in
    answer_comes leave (Does id (Sends now)) s (with_sub id (published now) s) waiting.asker
    (publish_reply (sub_response waiting sub (published now sub) s)) tt tt refl
    (subst (IsWithin (data_in sub.spec.id (next_message now sub) (next_message now sub).notification_data)) facts (all_within _))

pub sent_comes : (leave : Leave) (waiting : Waiting) (id : ℕ) (s : ServerState) → Comes leave s (sent waiting id s)
unfolding sent
sent_comes leave waiting id s = sent_by_comes leave waiting id (sub_at id s.subs) s refl

sent_with_comes : (leave : Leave) (more : ServerState → Did) (waiting : Option Waiting) (id session : ℕ) (s : ServerState)
    → ((t : ServerState) → Comes leave t (more t)) → Comes leave s (sent_with more waiting id session s)
sent_with_comes leave more None id session s rest = idle leave s
sent_with_comes leave more (Some waiting) id session s rest =
    then_comes leave s more (sent waiting id (unqueued session s))
    (unqueued_from leave session s _ (sent_comes leave waiting id (unqueued session s)))
    (rest (sent waiting id (unqueued session s)).state)

sent_if_comes : (leave : Leave) (more : ServerState → Did) (b : Bool) (id session : ℕ) (s : ServerState)
    → ((t : ServerState) → Comes leave t (more t)) → Comes leave s (sent_if b more id session s)
sent_if_comes leave more false id session s rest = idle leave s
sent_if_comes leave more true id session s rest = sent_with_comes leave more (oldest_waiting session s) id session s rest

sent_within_comes : (leave : Leave) (most id session : ℕ) (s : ServerState) → Comes leave s (sent_within most id session s)
unfolding sent_within
sent_within_comes leave zero id session s = idle leave s
sent_within_comes leave (suc most) id session s =
    sent_if_comes leave (sent_within most id session) (has_more id s) id session s (sent_within_comes leave most id session)

sent_on_comes : (leave : Leave) (id session : ℕ) (s : ServerState) → Comes leave s (sent_on id session s)
sent_on_comes leave id session s = sent_within_comes leave (queued session s) id session s

pub sends_comes : (leave : Leave) (id session : ℕ) (s : ServerState) → Comes leave s (sends id session s)
unfolding sends
sends_comes leave id session s =
    sent_with_comes leave (sent_on id session) (oldest_waiting session s) id session s (sent_on_comes leave id session)

-- ---- a Publish

driven_out_comes : (leave : Leave) (waiting : Option Waiting) (s : ServerState) → Comes leave s (driven_out waiting s)
driven_out_comes leave None s = idle leave s
driven_out_comes leave (Some waiting) s = fault_comes leave waiting.asker bad_too_many_publish_requests s

queued_on_comes : (leave : Leave) (conn : Option ℕ) (waiting : Waiting) (session : ℕ) (s : ServerState) → Comes leave s (queued_on conn waiting session s)
queued_on_comes leave None waiting session s = idle leave s
queued_on_comes leave (Some conn) waiting session s =
    begun_by leave (Asks (Park session (parked_of waiting))) s (record s { sessions = parked session (parked_of waiting) s.sessions }) _ tt tt refl
    (driven_out_comes leave (waiting_of (Some conn) (driven_out_of (session_at session s.sessions.sessions))) _)

enqueued_comes : (leave : Leave) (waiting : Waiting) (session : ℕ) (s : ServerState) → Comes leave s (enqueued waiting session s)
unfolding enqueued
enqueued_comes leave waiting session s = queued_on_comes leave (conn_of (session_at session s.sessions.sessions)) waiting session s

turned_from : (leave : Leave) (oldest : Option Waiting) (waiting : Waiting) (session : ℕ) (s : ServerState) → From leave s (turned oldest waiting session s)
turned_from leave None waiting session s did h = h
turned_from leave (Some oldest) waiting session s did h =
    unqueued_from leave session s did
    (begun_by leave (Asks (Park session (parked_of waiting))) (unqueued session s) (turned (Some oldest) waiting session s) did tt tt refl h)

used_comes : (leave : Leave) (waiting : Waiting) (id session : ℕ) (s : ServerState) → Comes leave s (used waiting id session s)
unfolding used
used_comes leave waiting id session s =
    let first : Waiting = first_of (oldest_waiting session s) waiting in
    let queue : ServerState = turned (oldest_waiting session s) waiting session s in
    then_comes leave s (sent_on id session) (sent first id queue)
    (turned_from leave (oldest_waiting session s) waiting session s _ (sent_comes leave first id queue))
    (sent_on_comes leave id session (sent first id queue).state)

taken_by_comes : (leave : Leave) (sub : Option SubState) (waiting : Waiting) (session : ℕ) (s : ServerState) → Comes leave s (taken_by sub waiting session s)
taken_by_comes leave None waiting session s = enqueued_comes leave waiting session s
taken_by_comes leave (Some sub) waiting session s = used_comes leave waiting sub.spec.id session s

taken_comes : (leave : Leave) (waiting : Waiting) (session : ℕ) (s : ServerState) → Comes leave s (taken waiting session s)
unfolding taken
taken_comes leave waiting session s =
    either leave (has_notice session s) s _ _ (told_comes leave waiting session s)
    (either leave (has_subs session s) s _ _ (taken_by_comes leave (late_sub session s) waiting session s)
    (fault_comes leave waiting.asker bad_no_subscription s))

pub publish_comes : (leave : Leave) (asker : Asker) (session : ℕ) (request : PublishRequest) (s : ServerState) → Comes leave s (publish asker session request s)
unfolding publish
publish_comes leave asker session request s =
    either leave (nat_lt 1000 (length request.subscription_acknowledgements)) s _ _ (fault_comes leave asker bad_too_many_operations s)
    (all_acked_from leave session request.subscription_acknowledgements s _
    (taken_comes leave (waiting_with asker (ack_results session request.subscription_acknowledgements s)) session
    (all_acked session request.subscription_acknowledgements s)))
