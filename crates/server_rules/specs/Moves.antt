-- Which session owns a subscription, what a session is told of one that left it, and what becomes of its queued Publishes
-- (OPC 10000-4, 5.13.5, 5.13.7 and 7.20.4).
use Rattle.std.specs.Prelude.{ℕ, zero, suc, ℤ, ◌==◌, ◌||◌, List, [], ◌∷◌, ◌++◌, Bool, true, false, Option, Some, None, find, filter, map, is_some, length, nat_lt, if◌then◌else◌}
use Rattle.std.specs.List.{list_any}
use Rattle.ua_base.specs.Status.{bad_no_subscription, bad_timeout, good_subscription_transferred}
use Rattle.set_model.specs.declared.source.Change.{Change}
use Rattle.retransmit.specs.Kept.{numbers_of}
use Rattle.ua_structures.specs.Body.{object_by}
use Rattle.ua_sub_msgs.specs.declared.notification.Notification.TheVariants as notification
use Rattle.ua_sub_msgs.specs.declared.notification.NotificationMessage.{NotificationMessage}
use Rattle.ua_sub_msgs.specs.declared.publish.PublishResponse.{PublishResponse}
use Rattle.ua_sub_msgs.specs.declared.reply.SubReply.TheVariants as sub_reply
use Rattle.ua_sub_msgs.specs.Families.{notifications, notification_put}
use Rattle.ua_services.specs.declared.reply.Reply.{Reply}
use Rattle.ua_services.specs.declared.reply.Reply.TheVariants as reply
use Rattle.sessions.specs.declared.session.Parked.{Parked}
use Rattle.sessions.specs.declared.session.Session.{Session}
use Rattle.sessions.specs.Table.{conn_of, disowned, lives, may_transfer, oldest_of, owner_of, ownership_of, session_at, transferred, unparked}
use Rattle.redundancy_nodes.specs.Current.{with_newest}
use Rattle.subscription.specs.Calls.{fed, moved}
use Rattle.subscription.specs.State.{SubState}
use Rattle.server_rules.specs.declared.conn.Asker.{Asker}
use Rattle.server_rules.specs.declared.waiting.Waiting.{Waiting}
use Rattle.server_rules.specs.State.{NoticeState, ServerState, server_time, sub_at, with_sub, without_sub}
use Rattle.server_rules.specs.Said.{Did, and_then, nothing}
use Rattle.server_rules.specs.Answering.{faulted, good_header, replied}

-- ---- the source

-- a change is its item's current value, and each monitored item that samples it takes it in
abbrev pub fed_with : Change → ServerState → ServerState
fed_with change s = record s { current = with_newest change s.current; subs = map (fed change) s.subs }

-- ---- owners

-- the session that owns a subscription
abbrev pub owner : ℕ → ServerState → Option ℕ
owner id s = owner_of (ownership_of id s.sessions.owned)

abbrev pub is_session : ℕ → Option ℕ → Bool
is_session session None = false
is_session session (Some other) = other == session

abbrev pub owns : ℕ → ℕ → ServerState → Bool
owns session id s = is_session session (owner id s)

abbrev pub owns_sub : ℕ → ServerState → SubState → Bool
owns_sub session s sub = owns session sub.spec.id s

-- a session's subscriptions
abbrev pub own_subs : ℕ → ServerState → List SubState
own_subs session s = filter (owns_sub session s) s.subs

abbrev pub has_subs : ℕ → ServerState → Bool
has_subs session s = list_any (owns_sub session s) s.subs

-- ---- notices

abbrev pub is_told : ℕ → NoticeState → Bool
is_told session notice = notice.session == session

abbrev pub oldest_notice : ℕ → List NoticeState → Option NoticeState
oldest_notice session notices = find (is_told session) notices

abbrev pub has_notice : ℕ → ServerState → Bool
has_notice session s = is_some (oldest_notice session s.notices)

abbrev pub without_oldest_notice : ℕ → List NoticeState → List NoticeState
without_oldest_notice session [] = []
without_oldest_notice session (notice ∷ notices) =
    if is_told session notice then notices else notice ∷ without_oldest_notice session notices

abbrev pub notices_of : ℕ → List NoticeState → List NoticeState
notices_of session notices = filter (is_told session) notices

-- with room for one more: a session keeps its last 64
abbrev pub with_room : ℕ → List NoticeState → List NoticeState
with_room session notices =
    if nat_lt (length (notices_of session notices)) 64 then notices else without_oldest_notice session notices

-- the notices of sessions that exist
abbrev pub lasting_notices : ServerState → List NoticeState
lasting_notices s = filter (λ notice. lives notice.session s.sessions.sessions) s.notices

-- a session is to be told this
unfoldable pub noticed : NoticeState → ServerState → ServerState
noticed notice s = record s { notices = with_room notice.session (lasting_notices s) ++ notice ∷ [] }

abbrev pub notice_of : ℕ → ℕ → SubState → NoticeState
notice_of session code sub = record {
  session = session;
  subscription = sub.spec.id;
  code = code;
  next = sub.next;
  available = numbers_of sub.kept;
}

-- ---- the answers to a Publish (5.13.5)

abbrev pub publish_reply : PublishResponse → Reply
publish_reply response = reply.Subscription (sub_reply.Publish response)

-- a notice's message has one StatusChangeNotification; it has the number of the next data message, and is not kept
abbrev pub notice_message : ℤ → NoticeState → NotificationMessage
notice_message now notice = record {
  sequence_number = notice.next;
  publish_time = now;
  notification_data = object_by notifications notification_put
      (notification.StatusChange (record { status = notice.code; diagnostic_info = record {} })) ∷ [];
}

abbrev pub notice_response : Waiting → NoticeState → ServerState → PublishResponse
notice_response waiting notice s = record {
  response_header = good_header waiting.asker.handle s;
  subscription_id = notice.subscription;
  available_sequence_numbers = notice.available;
  more_notifications = false;
  notification_message = notice_message (server_time s) notice;
  results = waiting.results;
  diagnostic_infos = record {};
}

abbrev pub told_notice : Waiting → Option NoticeState → ℕ → ServerState → Did
told_notice waiting None session s = nothing s
told_notice waiting (Some notice) session s =
    replied waiting.asker (publish_reply (notice_response waiting notice s))
    (record s { notices = without_oldest_notice session s.notices })

-- a Publish is answered by the oldest notice of its session
unfoldable pub told : Waiting → ℕ → ServerState → Did
told waiting session s = told_notice waiting (oldest_notice session s.notices) session s

-- ---- queued Publishes

-- one that came on this connection
abbrev pub waiting_on : ℕ → Parked → Waiting
waiting_on conn publish = record {
  asker = record { conn = conn; request = publish.request; handle = publish.handle };
  results = publish.results;
}

abbrev pub waiting_of : Option ℕ → Option Parked → Option Waiting
waiting_of None publish = None
waiting_of (Some conn) None = None
waiting_of (Some conn) (Some publish) = Some (waiting_on conn publish)

-- a session's oldest queued Publish, on the connection to which the session is bound
abbrev pub oldest_waiting : ℕ → ServerState → Option Waiting
oldest_waiting session s =
    waiting_of (conn_of (session_at session s.sessions.sessions)) (oldest_of (session_at session s.sessions.sessions))

-- without that one
abbrev pub unqueued : ℕ → ServerState → ServerState
unqueued session s = record s { sessions = unparked session s.sessions }

abbrev pub count_queued : Option Session → ℕ
count_queued None = 0
count_queued (Some session) = length session.queued

-- how many Publishes of a session are queued
abbrev pub queued : ℕ → ServerState → ℕ
queued session s = count_queued (session_at session s.sessions.sessions)

-- ---- notices and queued Publishes

abbrev pub served_by : (ServerState → Did) → Option Waiting → ℕ → ServerState → Did
served_by more None session s = nothing s
served_by more (Some waiting) session s = and_then more (told waiting session (unqueued session s))

abbrev pub served_if : Bool → (ServerState → Did) → ℕ → ServerState → Did
served_if false more session s = nothing s
served_if true more session s = served_by more (oldest_waiting session s) session s

-- with so many queued Publishes at the most
unfoldable pub served_within : ℕ → ℕ → ServerState → Did
served_within zero session s = nothing s
served_within (suc most) session s = served_if (has_notice session s) (served_within most session) session s

-- a session's oldest notice answers its oldest queued Publish, and so on while it has both
abbrev pub served : ℕ → ServerState → Did
served session s = served_within (queued session s) session s

abbrev pub answered_by : (ServerState → Did) → ℕ → Option Waiting → ℕ → ServerState → Did
answered_by more code None session s = nothing s
answered_by more code (Some waiting) session s = and_then more (faulted waiting.asker code (unqueued session s))

unfoldable pub answered_within : ℕ → ℕ → ℕ → ServerState → Did
answered_within zero code session s = nothing s
answered_within (suc most) code session s =
    answered_by (answered_within most code session) code (oldest_waiting session s) session s

-- a session's queued Publishes are answered by a ServiceFault, the oldest first
abbrev pub answered_queued : ℕ → ℕ → ServerState → Did
answered_queued code session s = answered_within (queued session s) code session s

-- a session without subscription and notice has nothing to wait for
abbrev pub released : ℕ → ServerState → Did
released session s =
    if has_subs session s || has_notice session s then nothing s else answered_queued bad_no_subscription session s

-- after a subscription of it went
unfoldable pub left : ℕ → ServerState → Did
left session s = and_then (released session) (served session s)

-- ---- a subscription leaves a session

-- it is no more, and nothing is kept of its owner
abbrev pub gone : ℕ → ServerState → ServerState
gone id s = record s { subs = without_sub id s.subs; sessions = disowned id s.sessions }

abbrev pub left_by : Option ℕ → ServerState → Did
left_by None s = nothing s
left_by (Some session) s = left session s

-- DeleteSubscriptions, of one subscription (5.13.8)
unfoldable pub deleted : ℕ → ServerState → Did
deleted id s = left_by (owner id s) (gone id s)

abbrev pub noticed_of : Option SubState → ℕ → ℕ → ServerState → ServerState
noticed_of None session code s = s
noticed_of (Some sub) session code s = noticed (notice_of session code sub) s

-- the session that owned it, if there is one, is told why it is no more its own
abbrev pub told_why : Option ℕ → ℕ → Option SubState → ServerState → Did
told_why None code sub s = nothing s
told_why (Some session) code sub s = left session (noticed_of sub session code s)

-- no Publish came for its lifetime count (5.13.1.2)
unfoldable pub expired_sub : ℕ → ServerState → Did
expired_sub id s = told_why (owner id s) bad_timeout (sub_at id s.subs) (gone id s)

-- the session to which it went is told nothing
abbrev pub other_than : ℕ → Option ℕ → Option ℕ
other_than session None = None
other_than session (Some other) = if other == session then None else Some other

abbrev pub given_sub : ℕ → ℕ → ServerState → ServerState
given_sub id to s = record (with_sub id moved s) { sessions = transferred id to s.sessions }

-- TransferSubscriptions, of one subscription: it goes to another session of the client that owned it last (5.13.7)
unfoldable pub transferred_sub : ℕ → ℕ → ServerState → Did
transferred_sub id to s =
    if may_transfer id to s.sessions then
    told_why (other_than to (owner id s)) good_subscription_transferred (sub_at id s.subs) (given_sub id to s)
    else nothing s
