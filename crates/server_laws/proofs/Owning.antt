-- What becomes of owners, notices and queued Publishes, in moves.
use Rattle.std.proofs.Common.{◌≡◌, ℕ, zero, suc, Bool, true, false, ◌||◌, Option, Some, None, refl}
use Rattle.ua_base.specs.Status.{bad_no_subscription, bad_timeout, good_subscription_transferred}
use Rattle.sessions.specs.Calls.{Disown, Transfer, Unpark}
use Rattle.sessions.specs.Table.{may_transfer}
use Rattle.subscription.specs.Calls.{moved as taken_over}
use Rattle.subscription.specs.State.{SubState}
use Rattle.server_rules.specs.declared.waiting.Waiting.{Waiting}
use Rattle.server_rules.specs.State.{NoticeState, ServerState, sub_at, with_sub, without_sub}
use Rattle.server_rules.specs.Said.{Did, nothing}
use Rattle.server_rules.specs.Answering.{faulted}
use Rattle.server_rules.specs.Moves.{answered_by, answered_queued, answered_within, deleted, expired_sub, given_sub, gone, has_notice, has_subs, left, left_by, noticed, noticed_of, notice_response, notice_of, oldest_notice, oldest_waiting, other_than, owner, publish_reply, queued, released, served, served_by, served_if, served_within, told, told_notice, told_why, transferred_sub, unqueued, without_oldest_notice}
use Rattle.server_laws.specs.Moves.{Asks, Does, Ends, Goes}
use Rattle.server_laws.specs.Course.{Comes, Leave, MayTransfer, core_of}
use Rattle.server_laws.proofs.Finding.{gone_here}
use Rattle.server_laws.proofs.Coming.{begun_by, either, from_same, idle, then_comes}
use Rattle.server_laws.proofs.Replying.{fault_comes, quiet}

-- what comes of a later state comes of an earlier one
abbrev pub From : Leave → ServerState → ServerState → Type 0
From leave s after = (did : Did) → Comes leave after did → Comes leave s did

-- ---- notices

told_by : (leave : Leave) (waiting : Waiting) (notice : Option NoticeState) (session : ℕ) (s : ServerState) → Comes leave s (told_notice waiting notice session s)
told_by leave waiting None session s = idle leave s
told_by leave waiting (Some notice) session s =
    from_same leave s (record s { notices = without_oldest_notice session s.notices }) _ refl
    (quiet leave waiting.asker (publish_reply (notice_response waiting notice s)) (record s { notices = without_oldest_notice session s.notices }) refl)

pub told_comes : (leave : Leave) (waiting : Waiting) (session : ℕ) (s : ServerState) → Comes leave s (told waiting session s)
unfolding told
told_comes leave waiting session s = told_by leave waiting (oldest_notice session s.notices) session s

-- ---- queued Publishes

pub unqueued_from : (leave : Leave) (session : ℕ) (s : ServerState) → From leave s (unqueued session s)
unqueued_from leave session s did h = begun_by leave (Asks (Unpark session)) s (unqueued session s) did tt tt refl h

served_by_comes : (leave : Leave) (session : ℕ) (more : ServerState → Did) (waiting : Option Waiting) (s : ServerState)
    → ((t : ServerState) → Comes leave t (more t)) → Comes leave s (served_by more waiting session s)
served_by_comes leave session more None s rest = idle leave s
served_by_comes leave session more (Some waiting) s rest =
    then_comes leave s more (told waiting session (unqueued session s))
    (unqueued_from leave session s _ (told_comes leave waiting session (unqueued session s)))
    (rest (told waiting session (unqueued session s)).state)

served_if_comes : (leave : Leave) (session : ℕ) (more : ServerState → Did) (b : Bool) (s : ServerState)
    → ((t : ServerState) → Comes leave t (more t)) → Comes leave s (served_if b more session s)
served_if_comes leave session more false s rest = idle leave s
served_if_comes leave session more true s rest = served_by_comes leave session more (oldest_waiting session s) s rest

served_comes : (leave : Leave) (most session : ℕ) (s : ServerState) → Comes leave s (served_within most session s)
unfolding served_within
served_comes leave zero session s = idle leave s
served_comes leave (suc most) session s =
    served_if_comes leave session (served_within most session) (has_notice session s) s (served_comes leave most session)

answered_by_comes : (leave : Leave) (code session : ℕ) (more : ServerState → Did) (waiting : Option Waiting) (s : ServerState)
    → ((t : ServerState) → Comes leave t (more t)) → Comes leave s (answered_by more code waiting session s)
answered_by_comes leave code session more None s rest = idle leave s
answered_by_comes leave code session more (Some waiting) s rest =
    then_comes leave s more (faulted waiting.asker code (unqueued session s))
    (unqueued_from leave session s _ (fault_comes leave waiting.asker code (unqueued session s)))
    (rest (faulted waiting.asker code (unqueued session s)).state)

answered_comes : (leave : Leave) (most code session : ℕ) (s : ServerState) → Comes leave s (answered_within most code session s)
unfolding answered_within
answered_comes leave zero code session s = idle leave s
answered_comes leave (suc most) code session s =
    answered_by_comes leave code session (answered_within most code session) (oldest_waiting session s) s (answered_comes leave most code session)

pub queued_comes : (leave : Leave) (code session : ℕ) (s : ServerState) → Comes leave s (answered_queued code session s)
queued_comes leave code session s = answered_comes leave (queued session s) code session s

released_comes : (leave : Leave) (session : ℕ) (s : ServerState) → Comes leave s (released session s)
released_comes leave session s =
    either leave (has_subs session s || has_notice session s) s (nothing s) (answered_queued bad_no_subscription session s) (idle leave s)
    (queued_comes leave bad_no_subscription session s)

pub left_comes : (leave : Leave) (session : ℕ) (s : ServerState) → Comes leave s (left session s)
unfolding left
left_comes leave session s =
    then_comes leave s (released session) (served session s) (served_comes leave (queued session s) session s)
    (released_comes leave session (served session s).state)

-- ---- a subscription leaves a session

pub gone_from : (leave : Leave) (id : ℕ) (s : ServerState) → From leave s (gone id s)
gone_from leave id s did h =
    begun_by leave (Ends id) s (record s { subs = without_sub id s.subs }) did tt tt refl
    (begun_by leave (Asks (Disown id)) (record s { subs = without_sub id s.subs }) (gone id s) did tt (gone_here id s.subs) refl h)

left_by_comes : (leave : Leave) (session : Option ℕ) (s : ServerState) → Comes leave s (left_by session s)
left_by_comes leave None s = idle leave s
left_by_comes leave (Some session) s = left_comes leave session s

pub deleted_comes : (leave : Leave) (id : ℕ) (s : ServerState) → Comes leave s (deleted id s)
unfolding deleted
deleted_comes leave id s = gone_from leave id s _ (left_by_comes leave (owner id s) (gone id s))

noticed_same : (notice : NoticeState) (s : ServerState) → core_of (noticed notice s) ≡ core_of s
unfolding noticed
noticed_same notice s = refl

noticed_of_same : (sub : Option SubState) (session code : ℕ) (s : ServerState) → core_of (noticed_of sub session code s) ≡ core_of s
noticed_of_same None session code s = refl
noticed_of_same (Some sub) session code s = noticed_same (notice_of session code sub) s

pub told_why_comes : (leave : Leave) (session : Option ℕ) (code : ℕ) (sub : Option SubState) (s : ServerState) → Comes leave s (told_why session code sub s)
told_why_comes leave None code sub s = idle leave s
told_why_comes leave (Some session) code sub s =
    from_same leave s (noticed_of sub session code s) _ (noticed_of_same sub session code s) (left_comes leave session (noticed_of sub session code s))

pub expired_comes : (leave : Leave) (id : ℕ) (s : ServerState) → Comes leave s (expired_sub id s)
unfolding expired_sub
expired_comes leave id s = gone_from leave id s _ (told_why_comes leave (owner id s) bad_timeout (sub_at id s.subs) (gone id s))

given_from : (leave : Leave) (id to : ℕ) (s : ServerState) → MayTransfer leave id → From leave s (given_sub id to s)
given_from leave id to s may did h =
    begun_by leave (Does id Goes) s (with_sub id taken_over s) did tt tt refl
    (begun_by leave (Asks (Transfer id to)) (with_sub id taken_over s) (given_sub id to s) did may tt refl h)

pub transferred_comes : (leave : Leave) (id to : ℕ) (s : ServerState) → MayTransfer leave id → Comes leave s (transferred_sub id to s)
unfolding transferred_sub
transferred_comes leave id to s may =
    either leave (may_transfer id to s.sessions) s _ _
    (given_from leave id to s may _
    (told_why_comes leave (other_than to (owner id s)) good_subscription_transferred (sub_at id s.subs) (given_sub id to s)))
    (idle leave s)
