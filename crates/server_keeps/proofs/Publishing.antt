-- What becomes of a Publish, and what a subscription sends, keeps the limits.
use Rattle.std.proofs.Common.{◌≡◌, ℕ, zero, suc, List, [], ◌∷◌, Bool, true, false, cond, Option, Some, None, IfSome, length, nat_lt, refl, ap, arith}
use Rattle.std.specs.List.{AllByRecursion}
use Rattle.ua_base.specs.Status.{bad_no_subscription, bad_sequence_number_unknown, bad_subscription_id_invalid, bad_too_many_operations, bad_too_many_publish_requests, good}
use Rattle.ua_sub_msgs.specs.declared.publish.PublishRequest.{PublishRequest}
use Rattle.ua_sub_msgs.specs.declared.publish.SubscriptionAcknowledgement.{SubscriptionAcknowledgement}
use Rattle.ua_sub_msgs.specs.Structures.{a_publish_request}
use Rattle.sessions.specs.Table.{conn_of, driven_out_of, parked, session_at}
use Rattle.subscription.specs.Calls.{acknowledged, next_message, published}
use Rattle.subscription.specs.State.{SubState}
use Rattle.server_rules.specs.declared.conn.Asker.{Asker}
use Rattle.server_rules.specs.declared.waiting.Waiting.{Waiting}
use Rattle.server_rules.specs.State.{ServerState, server_time, sub_at, with_sub}
use Rattle.server_rules.specs.Said.{Did}
use Rattle.server_rules.specs.Answering.{faulted}
use Rattle.server_rules.specs.Moves.{has_notice, has_subs, oldest_waiting, owns, publish_reply, queued, told, unqueued, waiting_of}
use Rattle.server_rules.specs.Publishing.{ack_result, ack_results, acked, all_acked, driven_out, enqueued, first_of, has_more, keeps_message, late_sub, parked_of, publish, queued_on, sends, sent, sent_by, sent_if, sent_on, sent_with, sent_within, sub_response, taken, taken_by, turned, used, waiting_with}
use Rattle.server_keeps.specs.Fitting.{FitsMessage, FitsParked, FitsServer, FitsSub, IsUInt32, KeepsDid}
use Rattle.server_keeps.proofs.Answering.{FitsAsker, FitsWaiting, faulted_keeps, found_fits, good_fits, in_turn, now_fits, quiet, replied_keeps, sub_fits, with_sessions}
use Rattle.server_keeps.proofs.Asked.{acks_asked}
use Rattle.server_keeps.proofs.Lists.{choice}
use Rattle.server_keeps.proofs.Moving.{Keeps, oldest_waits, told_keeps, unqueued_fits, waiting_fits}
use Rattle.server_keeps.proofs.Replies.{publish_keeps}
use Rattle.server_keeps.proofs.Sessions.{driven_fits, parked_fits}
use Rattle.server_keeps.proofs.Subs.{acknowledged_fits, next_message_fits, numbers_fit, published_fits, published_same}

-- ---- acknowledgements

acked_fits : (session : ℕ) (ack : SubscriptionAcknowledgement) (s : ServerState) → FitsServer s → FitsServer (acked session ack s)
acked_fits session ack s h =
    choice FitsServer (owns session ack.subscription_id s) (with_sub ack.subscription_id (acknowledged ack.sequence_number) s) s
    (sub_fits ack.subscription_id (acknowledged ack.sequence_number) s h (λ sub. refl) (acknowledged_fits ack.sequence_number)) h

all_acked_fits : (session : ℕ) (acks : List SubscriptionAcknowledgement) (s : ServerState) → FitsServer s → FitsServer (all_acked session acks s)
all_acked_fits session [] s h = h
all_acked_fits session (ack ∷ acks) s h = all_acked_fits session acks (acked session ack s) (acked_fits session ack s h)

result_fits : (session : ℕ) (ack : SubscriptionAcknowledgement) (s : ServerState) → IsUInt32 (ack_result session ack s)
result_fits session ack s =
    choice IsUInt32 (owns session ack.subscription_id s)
    (cond (keeps_message ack.subscription_id ack.sequence_number s) good bad_sequence_number_unknown) bad_subscription_id_invalid
    (choice IsUInt32 (keeps_message ack.subscription_id ack.sequence_number s) good bad_sequence_number_unknown (omega arith) (omega arith)) (omega arith)

results_fit : (session : ℕ) (acks : List SubscriptionAcknowledgement) (s : ServerState) → AllByRecursion IsUInt32 (ack_results session acks s)
results_fit session [] s = tt
results_fit session (ack ∷ acks) s = (result_fits session ack s, results_fit session acks (acked session ack s))

results_long : (session : ℕ) (acks : List SubscriptionAcknowledgement) (s : ServerState) → length (ack_results session acks s) ≡ length acks
results_long session [] s = refl
results_long session (ack ∷ acks) s = ap suc (results_long session acks (acked session ack s))

-- ---- sending

sent_by_keeps : (waiting : Waiting) (id : ℕ) (sub : Option SubState) (s : ServerState) → FitsServer s → FitsWaiting waiting → IfSome sub FitsSub
    → KeepsDid (sent_by waiting id sub s)
sent_by_keeps waiting id None s h fits kept = quiet s h
sent_by_keeps waiting id (Some sub) s h fits kept =
    let after : SubState = published (server_time s) sub in
    let left : FitsSub after = published_fits (server_time s) (now_fits s h) sub kept in
    let message : FitsMessage (next_message (server_time s) sub) = next_message_fits (server_time s) sub (now_fits s h) kept in
    replied_keeps waiting.asker (publish_reply (sub_response waiting sub after s)) (with_sub id (published (server_time s)) s)
    (sub_fits id (published (server_time s)) s h (published_same (server_time s)) (published_fits (server_time s) (now_fits s h))) fits.asker
    (record {
      keeps = publish_keeps (sub_response waiting sub after s) (good_fits waiting.asker.handle s h fits.asker.handle) kept.id (numbers_fit after.kept left.few left.kept)
          message.keeps fits.results;
      brings = message;
    })

sent_keeps : (waiting : Waiting) (id : ℕ) (s : ServerState) → FitsServer s → FitsWaiting waiting → KeepsDid (sent waiting id s)
unfolding sent
sent_keeps waiting id s h fits = sent_by_keeps waiting id (sub_at id s.subs) s h fits (found_fits id s h)

sent_with_keeps : (more : ServerState → Did) (waiting : Option Waiting) (id session : ℕ) (s : ServerState) → FitsServer s → IfSome waiting FitsWaiting → Keeps more
    → KeepsDid (sent_with more waiting id session s)
sent_with_keeps more None id session s h fits rest = quiet s h
sent_with_keeps more (Some waiting) id session s h fits rest =
    in_turn more (sent waiting id (unqueued session s)) (sent_keeps waiting id (unqueued session s) (unqueued_fits session s h) fits) rest

sent_if_keeps : (b : Bool) (more : ServerState → Did) (id session : ℕ) (s : ServerState) → FitsServer s → Keeps more → KeepsDid (sent_if b more id session s)
sent_if_keeps false more id session s h rest = quiet s h
sent_if_keeps true more id session s h rest = sent_with_keeps more (oldest_waiting session s) id session s h (oldest_waits session s h) rest

sent_within_keeps : (most id session : ℕ) (s : ServerState) → FitsServer s → KeepsDid (sent_within most id session s)
unfolding sent_within
sent_within_keeps zero id session s h = quiet s h
sent_within_keeps (suc most) id session s h =
    sent_if_keeps (has_more id s) (sent_within most id session) id session s h (sent_within_keeps most id session)

sent_on_keeps : (id session : ℕ) (s : ServerState) → FitsServer s → KeepsDid (sent_on id session s)
sent_on_keeps id session s h = sent_within_keeps (queued session s) id session s h

pub sends_keeps : (id session : ℕ) (s : ServerState) → FitsServer s → KeepsDid (sends id session s)
unfolding sends
sends_keeps id session s h =
    sent_with_keeps (sent_on id session) (oldest_waiting session s) id session s h (oldest_waits session s h) (sent_on_keeps id session)

-- ---- a Publish

parked_of_fits : (waiting : Waiting) → FitsWaiting waiting → FitsParked (parked_of waiting)
parked_of_fits waiting fits = record { request = fits.asker.request; handle = fits.asker.handle; results = fits.results }

driven_out_keeps : (waiting : Option Waiting) (s : ServerState) → FitsServer s → IfSome waiting FitsWaiting → KeepsDid (driven_out waiting s)
driven_out_keeps None s h fits = quiet s h
driven_out_keeps (Some waiting) s h fits = faulted_keeps waiting.asker bad_too_many_publish_requests s h fits.asker (omega arith)

queued_on_keeps : (conn : Option ℕ) (waiting : Waiting) (session : ℕ) (s : ServerState) → FitsServer s → FitsWaiting waiting
    → KeepsDid (queued_on conn waiting session s)
queued_on_keeps None waiting session s h fits = quiet s h
queued_on_keeps (Some conn) waiting session s h fits =
    driven_out_keeps (waiting_of (Some conn) (driven_out_of (session_at session s.sessions.sessions)))
    (record s { sessions = parked session (parked_of waiting) s.sessions })
    (with_sessions (parked session (parked_of waiting) s.sessions) s h (parked_fits session (parked_of waiting) s.sessions (parked_of_fits waiting fits) h.sessions))
    (waiting_fits (Some conn) (driven_out_of (session_at session s.sessions.sessions)) (driven_fits session s.sessions h.sessions))

enqueued_keeps : (waiting : Waiting) (session : ℕ) (s : ServerState) → FitsServer s → FitsWaiting waiting → KeepsDid (enqueued waiting session s)
unfolding enqueued
enqueued_keeps waiting session s h fits = queued_on_keeps (conn_of (session_at session s.sessions.sessions)) waiting session s h fits

first_fits : (oldest : Option Waiting) (waiting : Waiting) → IfSome oldest FitsWaiting → FitsWaiting waiting → FitsWaiting (first_of oldest waiting)
first_fits None waiting old fits = fits
first_fits (Some oldest) waiting old fits = old

turned_fits : (oldest : Option Waiting) (waiting : Waiting) (session : ℕ) (s : ServerState) → FitsServer s → FitsWaiting waiting
    → FitsServer (turned oldest waiting session s)
turned_fits None waiting session s h fits = h
turned_fits (Some oldest) waiting session s h fits =
    let less : FitsServer (unqueued session s) = unqueued_fits session s h in
    with_sessions (parked session (parked_of waiting) (unqueued session s).sessions) s h
    (parked_fits session (parked_of waiting) (unqueued session s).sessions (parked_of_fits waiting fits) less.sessions)

used_keeps : (waiting : Waiting) (id session : ℕ) (s : ServerState) → FitsServer s → FitsWaiting waiting → KeepsDid (used waiting id session s)
unfolding used
used_keeps waiting id session s h fits =
    let first : Waiting = first_of (oldest_waiting session s) waiting in
    let queue : ServerState = turned (oldest_waiting session s) waiting session s in
    in_turn (sent_on id session) (sent first id queue)
    (sent_keeps first id queue (turned_fits (oldest_waiting session s) waiting session s h fits)
    (first_fits (oldest_waiting session s) waiting (oldest_waits session s h) fits))
    (sent_on_keeps id session)

taken_by_keeps : (sub : Option SubState) (waiting : Waiting) (session : ℕ) (s : ServerState) → FitsServer s → FitsWaiting waiting
    → KeepsDid (taken_by sub waiting session s)
taken_by_keeps None waiting session s h fits = enqueued_keeps waiting session s h fits
taken_by_keeps (Some sub) waiting session s h fits = used_keeps waiting sub.spec.id session s h fits

taken_keeps : (waiting : Waiting) (session : ℕ) (s : ServerState) → FitsServer s → FitsWaiting waiting → KeepsDid (taken waiting session s)
unfolding taken
taken_keeps waiting session s h fits =
    choice KeepsDid (has_notice session s) (told waiting session s)
    (cond (has_subs session s) (taken_by (late_sub session s) waiting session s) (faulted waiting.asker bad_no_subscription s))
    (told_keeps waiting session s h fits)
    (choice KeepsDid (has_subs session s) (taken_by (late_sub session s) waiting session s) (faulted waiting.asker bad_no_subscription s)
    (taken_by_keeps (late_sub session s) waiting session s h fits) (faulted_keeps waiting.asker bad_no_subscription s h fits.asker (omega arith)))

pub publish_request_keeps : (asker : Asker) (session : ℕ) (r : PublishRequest) (s : ServerState) → FitsServer s → FitsAsker asker → a_publish_request.keeps r
    → KeepsDid (publish asker session r s)
unfolding publish
publish_request_keeps asker session r s h fits asked =
    let acks : List SubscriptionAcknowledgement = r.subscription_acknowledgements in
    let waiting : Waiting = waiting_with asker (ack_results session acks s) in
    let few = acks_asked r asked in
    let same = results_long session acks s in
    choice KeepsDid (nat_lt 1000 (length acks)) (faulted asker bad_too_many_operations s) (taken waiting session (all_acked session acks s))
    (faulted_keeps asker bad_too_many_operations s h fits (omega arith))
    (taken_keeps waiting session (all_acked session acks s) (all_acked_fits session acks s h)
    (record { asker = fits; results = (omega (arith, few, same), results_fit session acks s) }))
