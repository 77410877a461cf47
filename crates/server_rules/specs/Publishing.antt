-- What becomes of a Publish request, and how a subscription sends (OPC 10000-4, 5.13.1 and 5.13.5).
use Rattle.std.specs.Prelude.{ℕ, zero, suc, ◌&&◌, List, [], ◌∷◌, Bool, true, false, Option, Some, None, find, is_some, length, nat_lt, if◌then◌else◌}
use Rattle.ua_base.specs.Status.{bad_no_subscription, bad_sequence_number_unknown, bad_subscription_id_invalid, bad_too_many_operations, bad_too_many_publish_requests, good}
use Rattle.retransmit.specs.declared.retransmission.Sent.{Sent}
use Rattle.retransmit.specs.Kept.{message_of, numbers_of}
use Rattle.ua_sub_msgs.specs.declared.notification.NotificationMessage.{NotificationMessage}
use Rattle.ua_sub_msgs.specs.declared.publish.PublishRequest.{PublishRequest}
use Rattle.ua_sub_msgs.specs.declared.publish.PublishResponse.{PublishResponse}
use Rattle.ua_sub_msgs.specs.declared.publish.SubscriptionAcknowledgement.{SubscriptionAcknowledgement}
use Rattle.sessions.specs.declared.session.Parked.{Parked}
use Rattle.sessions.specs.Table.{conn_of, driven_out_of, parked, session_at}
use Rattle.subscription.specs.Calls.{acknowledged, next_message, published}
use Rattle.subscription.specs.Cycle.{has_something}
use Rattle.subscription.specs.State.{SubState}
use Rattle.server_rules.specs.declared.conn.Asker.{Asker}
use Rattle.server_rules.specs.declared.waiting.Waiting.{Waiting}
use Rattle.server_rules.specs.State.{ServerState, server_time, sub_at, with_sub}
use Rattle.server_rules.specs.Said.{Did, and_then, nothing}
use Rattle.server_rules.specs.Answering.{faulted, good_header, replied}
use Rattle.server_rules.specs.Moves.{has_notice, has_subs, oldest_waiting, owns, owns_sub, publish_reply, queued, told, unqueued, waiting_of, waiting_on}

-- ---- acknowledgements

abbrev pub kept_of : Option SubState → List (Sent NotificationMessage)
kept_of None = []
kept_of (Some sub) = sub.kept

-- whether a subscription keeps a message of this number
abbrev pub keeps_message : ℕ → ℕ → ServerState → Bool
keeps_message id number s = is_some (message_of number (kept_of (sub_at id s.subs)))

-- what a session is told of one acknowledgement
abbrev pub ack_result : ℕ → SubscriptionAcknowledgement → ServerState → ℕ
ack_result session ack s =
    if owns session ack.subscription_id s then
    (if keeps_message ack.subscription_id ack.sequence_number s then good else bad_sequence_number_unknown)
    else bad_subscription_id_invalid

-- a message that is acknowledged is kept no longer
abbrev pub acked : ℕ → SubscriptionAcknowledgement → ServerState → ServerState
acked session ack s =
    if owns session ack.subscription_id s then with_sub ack.subscription_id (acknowledged ack.sequence_number) s else s

abbrev pub all_acked : ℕ → List SubscriptionAcknowledgement → ServerState → ServerState
all_acked session [] s = s
all_acked session (ack ∷ acks) s = all_acked session acks (acked session ack s)

abbrev pub ack_results : ℕ → List SubscriptionAcknowledgement → ServerState → List ℕ
ack_results session [] s = []
ack_results session (ack ∷ acks) s = ack_result session ack s ∷ ack_results session acks (acked session ack s)

-- ---- sending

-- the answer with the next message, from the subscription before it and after it
abbrev pub sub_response : Waiting → SubState → SubState → ServerState → PublishResponse
sub_response waiting before after s = record {
  response_header = good_header waiting.asker.handle s;
  subscription_id = before.spec.id;
  available_sequence_numbers = numbers_of after.kept;
  more_notifications = has_something after;
  notification_message = next_message (server_time s) before;
  results = waiting.results;
  diagnostic_infos = record {};
}

abbrev pub sent_by : Waiting → ℕ → Option SubState → ServerState → Did
sent_by waiting id None s = nothing s
sent_by waiting id (Some sub) s =
    replied waiting.asker (publish_reply (sub_response waiting sub (published (server_time s) sub) s))
    (with_sub id (published (server_time s)) s)

-- a subscription answers a Publish by its next message: data where it has something, else a keep-alive
unfoldable pub sent : Waiting → ℕ → ServerState → Did
sent waiting id s = sent_by waiting id (sub_at id s.subs) s

abbrev pub sub_has_something : Option SubState → Bool
sub_has_something None = false
sub_has_something (Some sub) = has_something sub

-- a subscription still has something
abbrev pub has_more : ℕ → ServerState → Bool
has_more id s = sub_has_something (sub_at id s.subs)

abbrev pub sent_with : (ServerState → Did) → Option Waiting → ℕ → ℕ → ServerState → Did
sent_with more None id session s = nothing s
sent_with more (Some waiting) id session s = and_then more (sent waiting id (unqueued session s))

abbrev pub sent_if : Bool → (ServerState → Did) → ℕ → ℕ → ServerState → Did
sent_if false more id session s = nothing s
sent_if true more id session s = sent_with more (oldest_waiting session s) id session s

-- with so many queued Publishes at the most
unfoldable pub sent_within : ℕ → ℕ → ℕ → ServerState → Did
sent_within zero id session s = nothing s
sent_within (suc most) id session s = sent_if (has_more id s) (sent_within most id session) id session s

-- while it still has something, and a Publish is queued, it sends again
abbrev pub sent_on : ℕ → ℕ → ServerState → Did
sent_on id session s = sent_within (queued session s) id session s

-- a subscription sends with its session's queued Publishes, the oldest first, and at least once
unfoldable pub sends : ℕ → ℕ → ServerState → Did
sends id session s = sent_with (sent_on id session) (oldest_waiting session s) id session s

-- ---- a Publish

abbrev pub parked_of : Waiting → Parked
parked_of waiting = record { request = waiting.asker.request; handle = waiting.asker.handle; results = waiting.results }

abbrev pub driven_out : Option Waiting → ServerState → Did
driven_out None s = nothing s
driven_out (Some waiting) s = faulted waiting.asker bad_too_many_publish_requests s

abbrev pub queued_on : Option ℕ → Waiting → ℕ → ServerState → Did
queued_on None waiting session s = nothing s
queued_on (Some conn) waiting session s =
    driven_out (waiting_of (Some conn) (driven_out_of (session_at session s.sessions.sessions)))
    (record s { sessions = parked session (parked_of waiting) s.sessions })

-- it is queued, and where 16 were the oldest of them is answered; a session that is bound to no connection queues nothing
unfoldable pub enqueued : Waiting → ℕ → ServerState → Did
enqueued waiting session s = queued_on (conn_of (session_at session s.sessions.sessions)) waiting session s

-- which Publish is used where this one counts as queued last, and what is queued then
abbrev pub first_of : Option Waiting → Waiting → Waiting
first_of None waiting = waiting
first_of (Some oldest) waiting = oldest

abbrev pub turned : Option Waiting → Waiting → ℕ → ServerState → ServerState
turned None waiting session s = s
turned (Some oldest) waiting session s =
    record s { sessions = parked session (parked_of waiting) (unqueued session s).sessions }

-- a late subscription sends at once
unfoldable pub used : Waiting → ℕ → ℕ → ServerState → Did
used waiting id session s =
    and_then (sent_on id session)
    (sent (first_of (oldest_waiting session s) waiting) id (turned (oldest_waiting session s) waiting session s))

-- of a session's subscriptions that are late the one of lowest id
abbrev pub late_sub : ℕ → ServerState → Option SubState
late_sub session s = find (λ sub. owns_sub session s sub && sub.late) s.subs

abbrev pub taken_by : Option SubState → Waiting → ℕ → ServerState → Did
taken_by None waiting session s = enqueued waiting session s
taken_by (Some sub) waiting session s = used waiting sub.spec.id session s

-- a notice comes first; without subscription there is nothing to wait for; a late subscription sends; and else it waits
unfoldable pub taken : Waiting → ℕ → ServerState → Did
taken waiting session s =
    if has_notice session s then told waiting session s
    else if has_subs session s then taken_by (late_sub session s) waiting session s
    else faulted waiting.asker bad_no_subscription s

abbrev pub waiting_with : Asker → List ℕ → Waiting
waiting_with asker results = record { asker = asker; results = results }

-- Publish (5.13.5)
unfoldable pub publish : Asker → ℕ → PublishRequest → ServerState → Did
publish asker session request s =
    if nat_lt 1000 (length request.subscription_acknowledgements) then faulted asker bad_too_many_operations s
    else taken (waiting_with asker (ack_results session request.subscription_acknowledgements s)) session
    (all_acked session request.subscription_acknowledgements s)
