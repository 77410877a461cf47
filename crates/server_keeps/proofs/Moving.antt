-- What sessions are told, and what becomes of subscriptions and queued Publishes, keeps the limits.
use Rattle.std.proofs.Common.{ℕ, ℤ, zero, suc, ◌==◌, ◌||◌, ◌≤◌, List, [], ◌∷◌, ◌++◌, Bool, true, false, not, Option, Some, None, IfSome, map, length, nat_lt, FitsSigned, refl, arith}
use Rattle.std.specs.List.{AllByRecursion}
use Rattle.std.specs.Int.{w64}
use Rattle.ua_base.specs.Status.{bad_no_subscription, bad_timeout, good_subscription_transferred}
use Rattle.set_model.specs.declared.source.Change.{Change}
use Rattle.redundancy_nodes.specs.Current.{renewed, with_newest}
use Rattle.ua_sub_msgs.specs.declared.notification.Notification.TheVariants as notification
use Rattle.ua_sub_msgs.specs.declared.notification.NotificationType.TheVariants as notification_type
use Rattle.ua_sub_msgs.specs.Families.{notification_put}
use Rattle.ua_sub_msgs.specs.Numbers.{notification_small}
use Rattle.ua_sub_msgs.specs.Structures.{a_notification_message, a_status_change_notification}
use Rattle.sessions.specs.declared.session.Parked.{Parked}
use Rattle.sessions.specs.Table.{conn_of, lives, may_transfer, oldest_of, session_at, transferred}
use Rattle.subscription.specs.Calls.{fed, moved}
use Rattle.subscription.specs.State.{SubState}
use Rattle.server_rules.specs.declared.waiting.Waiting.{Waiting}
use Rattle.server_rules.specs.State.{NoticeState, ServerState, is_sub, server_time, sub_at, with_sub}
use Rattle.server_rules.specs.Said.{Did, nothing}
use Rattle.server_rules.specs.Answering.{faulted}
use Rattle.server_rules.specs.Moves.{answered_by, answered_queued, answered_within, deleted, expired_sub, fed_with, given_sub, gone, has_notice, has_subs, is_told, lasting_notices, left, left_by, notice_message, notice_of, notice_response, noticed, noticed_of, notices_of, oldest_notice, oldest_waiting, other_than, owner, publish_reply, queued, released, served, served_by, served_if, served_within, told, told_notice, told_why, transferred_sub, unqueued, waiting_of, with_room, without_oldest_notice}
use Rattle.server_keeps.specs.Fitting.{FitsChange, FitsMessage, FitsNotice, FitsParked, FitsServer, FitsSub, IsUInt32, KeepsDid}
use Rattle.server_keeps.proofs.Answering.{FitsWaiting, faulted_keeps, found_fits, good_fits, in_turn, now_fits, quiet, replied_keeps, sub_fits, with_notices, with_sessions}
use Rattle.server_keeps.proofs.Apart.{apart_filter, apart_map}
use Rattle.server_keeps.proofs.Lists.{all_filter, all_map, all_more, choice, found}
use Rattle.server_keeps.proofs.Replies.{publish_keeps}
use Rattle.server_keeps.proofs.Sessions.{disowned_fits, oldest_fits, transferred_fits, unparked_fits}
use Rattle.server_keeps.proofs.Subs.{fed_sub_fits, moved_fits, numbers_fit}

-- ---- the source

newest_fits : (change : Change) (changes : List Change) → FitsChange change → AllByRecursion FitsChange changes
    → AllByRecursion FitsChange (with_newest change changes)
newest_fits change changes fits h =
    choice (AllByRecursion FitsChange) _ (map (renewed change) changes) (changes ++ change ∷ [])
    (all_map FitsChange FitsChange (renewed change) (λ known kept. choice FitsChange (known.item == change.item) change known fits kept) changes h)
    (all_more FitsChange changes change h fits)

pub fed_with_fits : (change : Change) (s : ServerState) → FitsChange change → FitsServer s → FitsServer (fed_with change s)
fed_with_fits change s fits h = record {
  config = h.config;
  level = h.level;
  current = newest_fits change s.current fits h.current;
  sessions = h.sessions;
  notices = h.notices;
  subs = all_map FitsSub FitsSub (fed change) (fed_sub_fits change fits) s.subs h.subs;
  apart = apart_map (fed change) (λ sub. refl) s.subs h.apart;
  channels = h.channels;
  conns = h.conns;
}

-- ---- notices

without_oldest_fits : (session : ℕ) (notices : List NoticeState) → AllByRecursion FitsNotice notices
    → AllByRecursion FitsNotice (without_oldest_notice session notices)
without_oldest_fits session [] h = tt
without_oldest_fits session (notice ∷ notices) h =
    choice (AllByRecursion FitsNotice) (is_told session notice) notices (notice ∷ without_oldest_notice session notices)
    h.1 (h.0, without_oldest_fits session notices h.1)

room_fits : (session : ℕ) (notices : List NoticeState) → AllByRecursion FitsNotice notices → AllByRecursion FitsNotice (with_room session notices)
room_fits session notices h =
    choice (AllByRecursion FitsNotice) (nat_lt (length (notices_of session notices)) 64) notices (without_oldest_notice session notices)
    h (without_oldest_fits session notices h)

noticed_fits : (notice : NoticeState) (s : ServerState) → FitsNotice notice → FitsServer s → FitsServer (noticed notice s)
unfolding noticed
noticed_fits notice s fits h =
    with_notices (with_room notice.session (lasting_notices s) ++ notice ∷ []) s h
    (all_more FitsNotice (with_room notice.session (lasting_notices s)) notice
    (room_fits notice.session (lasting_notices s) (all_filter FitsNotice (λ one. lives one.session s.sessions.sessions) s.notices h.notices)) fits)

notice_fits : (session code : ℕ) (sub : SubState) → IsUInt32 code → FitsSub sub → FitsNotice (notice_of session code sub)
notice_fits session code sub c h =
    record { subscription = h.id; code = c; next = h.next; available = numbers_fit sub.kept h.few h.kept }

-- ---- the answers to a Publish

status_written_long : (code : ℕ) → length (notification_put (notification.StatusChange (record { status = code; diagnostic_info = record {} }))).text ≤ 5
unfolding a_status_change_notification
status_written_long code = omega arith

status_keeps : (code : ℕ) → IsUInt32 code → (notification_put (notification.StatusChange (record { status = code; diagnostic_info = record {} }))).keeps
unfolding a_status_change_notification
status_keeps code h = (h, tt)

notice_message_fits : (now : ℤ) (notice : NoticeState) → FitsSigned w64 now → FitsNotice notice → FitsMessage (notice_message now notice)
unfolding a_notification_message
notice_message_fits now notice at h =
    let long = status_written_long notice.code in
    record {
      keeps = (h.next, (at, (omega arith, (((omega arith, notification_small notification_type.StatusChange), omega (arith, long)), tt))));
      holds = ((notification.StatusChange (record { status = notice.code; diagnostic_info = record {} }), refl, status_keeps notice.code h.code), tt);
    }

told_by_keeps : (waiting : Waiting) (notice : Option NoticeState) (session : ℕ) (s : ServerState) → FitsServer s → FitsWaiting waiting → IfSome notice FitsNotice
    → KeepsDid (told_notice waiting notice session s)
told_by_keeps waiting None session s h fits kept = quiet s h
told_by_keeps waiting (Some notice) session s h fits kept =
    let message : FitsMessage (notice_message (server_time s) notice) = notice_message_fits (server_time s) notice (now_fits s h) kept in
    replied_keeps waiting.asker (publish_reply (notice_response waiting notice s)) (record s { notices = without_oldest_notice session s.notices })
    (with_notices (without_oldest_notice session s.notices) s h (without_oldest_fits session s.notices h.notices)) fits.asker
    (record {
      keeps = publish_keeps (notice_response waiting notice s) (good_fits waiting.asker.handle s h fits.asker.handle) kept.subscription kept.available message.keeps fits.results;
      brings = message;
    })

pub told_keeps : (waiting : Waiting) (session : ℕ) (s : ServerState) → FitsServer s → FitsWaiting waiting → KeepsDid (told waiting session s)
unfolding told
told_keeps waiting session s h fits =
    told_by_keeps waiting (oldest_notice session s.notices) session s h fits (found FitsNotice (is_told session) s.notices h.notices)

-- ---- queued Publishes

pub waiting_fits : (conn : Option ℕ) (publish : Option Parked) → IfSome publish FitsParked → IfSome (waiting_of conn publish) FitsWaiting
waiting_fits None publish h = tt
waiting_fits (Some conn) None h = tt
waiting_fits (Some conn) (Some publish) h = record { asker = record { request = h.request; handle = h.handle }; results = h.results }

pub oldest_waits : (session : ℕ) (s : ServerState) → FitsServer s → IfSome (oldest_waiting session s) FitsWaiting
oldest_waits session s h =
    waiting_fits (conn_of (session_at session s.sessions.sessions)) (oldest_of (session_at session s.sessions.sessions)) (oldest_fits session s.sessions h.sessions)

pub unqueued_fits : (session : ℕ) (s : ServerState) → FitsServer s → FitsServer (unqueued session s)
unqueued_fits session s h = with_sessions _ s h (unparked_fits session s.sessions h.sessions)

-- a rule of a server that fits
abbrev pub Keeps : (ServerState → Did) → Type 0
Keeps rule = (t : ServerState) → FitsServer t → KeepsDid (rule t)

served_by_keeps : (more : ServerState → Did) (waiting : Option Waiting) (session : ℕ) (s : ServerState) → FitsServer s → IfSome waiting FitsWaiting → Keeps more
    → KeepsDid (served_by more waiting session s)
served_by_keeps more None session s h fits rest = quiet s h
served_by_keeps more (Some waiting) session s h fits rest =
    in_turn more (told waiting session (unqueued session s)) (told_keeps waiting session (unqueued session s) (unqueued_fits session s h) fits) rest

served_if_keeps : (b : Bool) (more : ServerState → Did) (session : ℕ) (s : ServerState) → FitsServer s → Keeps more → KeepsDid (served_if b more session s)
served_if_keeps false more session s h rest = quiet s h
served_if_keeps true more session s h rest = served_by_keeps more (oldest_waiting session s) session s h (oldest_waits session s h) rest

served_within_keeps : (most session : ℕ) (s : ServerState) → FitsServer s → KeepsDid (served_within most session s)
unfolding served_within
served_within_keeps zero session s h = quiet s h
served_within_keeps (suc most) session s h =
    served_if_keeps (has_notice session s) (served_within most session) session s h (served_within_keeps most session)

served_keeps : (session : ℕ) (s : ServerState) → FitsServer s → KeepsDid (served session s)
served_keeps session s h = served_within_keeps (queued session s) session s h

answered_by_keeps : (more : ServerState → Did) (code : ℕ) (waiting : Option Waiting) (session : ℕ) (s : ServerState) → FitsServer s → IsUInt32 code
    → IfSome waiting FitsWaiting → Keeps more → KeepsDid (answered_by more code waiting session s)
answered_by_keeps more code None session s h c fits rest = quiet s h
answered_by_keeps more code (Some waiting) session s h c fits rest =
    in_turn more (faulted waiting.asker code (unqueued session s)) (faulted_keeps waiting.asker code (unqueued session s) (unqueued_fits session s h) fits.asker c) rest

answered_within_keeps : (most code session : ℕ) (s : ServerState) → IsUInt32 code → FitsServer s → KeepsDid (answered_within most code session s)
unfolding answered_within
answered_within_keeps zero code session s c h = quiet s h
answered_within_keeps (suc most) code session s c h =
    answered_by_keeps (answered_within most code session) code (oldest_waiting session s) session s h c (oldest_waits session s h)
    (λ t kept. answered_within_keeps most code session t c kept)

pub answered_queued_keeps : (code session : ℕ) (s : ServerState) → IsUInt32 code → FitsServer s → KeepsDid (answered_queued code session s)
answered_queued_keeps code session s c h = answered_within_keeps (queued session s) code session s c h

released_keeps : (session : ℕ) (s : ServerState) → FitsServer s → KeepsDid (released session s)
released_keeps session s h =
    choice KeepsDid (has_subs session s || has_notice session s) (nothing s) (answered_queued bad_no_subscription session s)
    (quiet s h) (answered_queued_keeps bad_no_subscription session s (omega arith) h)

pub left_keeps : (session : ℕ) (s : ServerState) → FitsServer s → KeepsDid (left session s)
unfolding left
left_keeps session s h = in_turn (released session) (served session s) (served_keeps session s h) (released_keeps session)

-- ---- a subscription leaves a session

pub gone_fits : (id : ℕ) (s : ServerState) → FitsServer s → FitsServer (gone id s)
gone_fits id s h = record {
  config = h.config;
  level = h.level;
  current = h.current;
  sessions = disowned_fits id s.sessions h.sessions;
  notices = h.notices;
  subs = all_filter FitsSub (λ sub. not (is_sub id sub)) s.subs h.subs;
  apart = apart_filter (λ sub. not (is_sub id sub)) s.subs h.apart;
  channels = h.channels;
  conns = h.conns;
}

left_by_keeps : (session : Option ℕ) (s : ServerState) → FitsServer s → KeepsDid (left_by session s)
left_by_keeps None s h = quiet s h
left_by_keeps (Some session) s h = left_keeps session s h

pub deleted_keeps : (id : ℕ) (s : ServerState) → FitsServer s → KeepsDid (deleted id s)
unfolding deleted
deleted_keeps id s h = left_by_keeps (owner id s) (gone id s) (gone_fits id s h)

noticed_of_fits : (sub : Option SubState) (session code : ℕ) (s : ServerState) → IfSome sub FitsSub → IsUInt32 code → FitsServer s
    → FitsServer (noticed_of sub session code s)
noticed_of_fits None session code s fits c h = h
noticed_of_fits (Some sub) session code s fits c h = noticed_fits (notice_of session code sub) s (notice_fits session code sub c fits) h

told_why_keeps : (session : Option ℕ) (code : ℕ) (sub : Option SubState) (s : ServerState) → IfSome sub FitsSub → IsUInt32 code → FitsServer s
    → KeepsDid (told_why session code sub s)
told_why_keeps None code sub s fits c h = quiet s h
told_why_keeps (Some session) code sub s fits c h = left_keeps session (noticed_of sub session code s) (noticed_of_fits sub session code s fits c h)

pub expired_sub_keeps : (id : ℕ) (s : ServerState) → FitsServer s → KeepsDid (expired_sub id s)
unfolding expired_sub
expired_sub_keeps id s h = told_why_keeps (owner id s) bad_timeout (sub_at id s.subs) (gone id s) (found_fits id s h) (omega arith) (gone_fits id s h)

given_fits : (id to : ℕ) (s : ServerState) → FitsServer s → FitsServer (given_sub id to s)
given_fits id to s h = with_sessions (transferred id to s.sessions) (with_sub id moved s) (sub_fits id moved s h (λ sub. refl) moved_fits) (transferred_fits id to s.sessions h.sessions)

pub transferred_keeps : (id to : ℕ) (s : ServerState) → FitsServer s → KeepsDid (transferred_sub id to s)
unfolding transferred_sub
transferred_keeps id to s h =
    choice KeepsDid (may_transfer id to s.sessions)
    (told_why (other_than to (owner id s)) good_subscription_transferred (sub_at id s.subs) (given_sub id to s)) (nothing s)
    (told_why_keeps (other_than to (owner id s)) good_subscription_transferred (sub_at id s.subs) (given_sub id to s) (found_fits id s h) (omega arith) (given_fits id to s h))
    (quiet s h)
