-- What rules leave as it was.
use Rattle.std.proofs.Common.{◌≡◌, ℕ, zero, suc, List, [], ◌∷◌, Bool, true, false, cond, Option, Some, None, refl, ◌∙◌, ap}
use Rattle.ua_services.specs.declared.reply.Reply.{Reply}
use Rattle.subscription.specs.State.{SubState}
use Rattle.subscription.specs.declared.cycle.Cycle.{Cycle}
use Rattle.subscription.specs.declared.cycle.Cycle.TheVariants.{Quiet, Notify, KeepAlive, Late, Expired}
use Rattle.subscription.specs.Cycle.{cycled, row_of}
use Rattle.server_rules.specs.declared.conn.Asker.{Asker}
use Rattle.server_rules.specs.declared.conn.Conn.{Conn}
use Rattle.server_rules.specs.declared.waiting.Waiting.{Waiting}
use Rattle.server_rules.specs.State.{NoticeState, ServerState, with_sub}
use Rattle.server_rules.specs.Said.{Did, each}
use Rattle.server_rules.specs.Answering.{fault_reply, refused_on, replied, replied_on, replied_to, replied_within, takes}
use Rattle.ua_base.specs.Status.{bad_response_too_large, bad_tcp_message_too_large}
use Rattle.server_rules.specs.Moves.{answered_by, answered_within, expired_sub, gone, has_notice, left, noticed, noticed_of, oldest_waiting, released, served, served_if, served_within, told, told_notice, told_why, unqueued}
use Rattle.server_rules.specs.Publishing.{sends, sent, sent_by, sent_if, sent_on, sent_with, sent_within}
use Rattle.server_rules.specs.Timer.{by_row, cycle, cycle_of, ids_due, is_served, moment, sends_for}

-- either way
either : (P : Did → Type 0) (b : Bool) (x y : Did) → P x → P y → P (cond b x y)
either P true x y one other = one
either P false x y one other = other

-- ---- an answer changes nothing but the connection

abbrev OnlyConns : ServerState → Did → Type 0
OnlyConns s did = did.state ≡ record s { conns = did.state.conns }

refused_only : (conn : Conn) (code : ℕ) (s : ServerState) → OnlyConns s (refused_on conn code s)
unfolding refused_on
refused_only conn code s = refl

within_only : (conn : Conn) (request : ℕ) (answer : Reply) (s : ServerState) → OnlyConns s (replied_within conn request answer s)
unfolding replied_within
within_only conn request answer s = refl

abbrev instead : Conn → ℕ → ℕ → ServerState → Did
instead conn request handle s =
    cond (takes conn (fault_reply handle bad_response_too_large s)) (replied_within conn request (fault_reply handle bad_response_too_large s) s)
    (refused_on conn bad_tcp_message_too_large s)

instead_only : (conn : Conn) (request handle : ℕ) (s : ServerState) → OnlyConns s (instead conn request handle s)
instead_only conn request handle s =
    either (OnlyConns s) (takes conn (fault_reply handle bad_response_too_large s)) (replied_within conn request (fault_reply handle bad_response_too_large s) s)
    (refused_on conn bad_tcp_message_too_large s) (within_only conn request (fault_reply handle bad_response_too_large s) s)
    (refused_only conn bad_tcp_message_too_large s)

on_only : (conn : Conn) (request handle : ℕ) (answer : Reply) (s : ServerState) → OnlyConns s (replied_on conn request handle answer s)
unfolding replied_on
on_only conn request handle answer s =
    either (OnlyConns s) (takes conn answer) (replied_within conn request answer s) (instead conn request handle s)
    (within_only conn request answer s) (instead_only conn request handle s)

to_only : (found : Option Conn) (request handle : ℕ) (answer : Reply) (s : ServerState) → OnlyConns s (replied_to found request handle answer s)
to_only None request handle answer s = refl
to_only (Some conn) request handle answer s = on_only conn request handle answer s

pub replied_only : (asker : Asker) (answer : Reply) (s : ServerState) → OnlyConns s (replied asker answer s)
unfolding replied
replied_only asker answer s = to_only _ asker.request asker.handle answer s

-- ---- the sessions

abbrev pub SameSessions : ServerState → Did → Type 0
SameSessions s did = did.state.sessions ≡ s.sessions

notice_sessions : (waiting : Waiting) (notice : Option NoticeState) (session : ℕ) (s : ServerState) → SameSessions s (told_notice waiting notice session s)
notice_sessions waiting None session s = refl
notice_sessions waiting (Some notice) session s = ap (λ x. x.sessions) (replied_only waiting.asker _ _)

pub told_sessions : (waiting : Waiting) (session : ℕ) (s : ServerState) → SameSessions s (told waiting session s)
unfolding told
told_sessions waiting session s = notice_sessions waiting _ session s

sub_sessions : (waiting : Waiting) (id : ℕ) (sub : Option SubState) (s : ServerState) → SameSessions s (sent_by waiting id sub s)
sub_sessions waiting id None s = refl
sub_sessions waiting id (Some sub) s = ap (λ x. x.sessions) (replied_only waiting.asker _ _)

pub sent_sessions : (waiting : Waiting) (id : ℕ) (s : ServerState) → SameSessions s (sent waiting id s)
unfolding sent
sent_sessions waiting id s = sub_sessions waiting id _ s

pub replied_sessions : (asker : Asker) (answer : Reply) (s : ServerState) → SameSessions s (replied asker answer s)
replied_sessions asker answer s = ap (λ x. x.sessions) (replied_only asker answer s)

-- ---- the age

abbrev pub SameAge : ServerState → Did → Type 0
SameAge s did = did.state.age ≡ s.age

replied_age : (asker : Asker) (answer : Reply) (s : ServerState) → SameAge s (replied asker answer s)
replied_age asker answer s = ap (λ x. x.age) (replied_only asker answer s)

notice_age : (waiting : Waiting) (notice : Option NoticeState) (session : ℕ) (s : ServerState) → SameAge s (told_notice waiting notice session s)
notice_age waiting None session s = refl
notice_age waiting (Some notice) session s = replied_age waiting.asker _ _

told_age : (waiting : Waiting) (session : ℕ) (s : ServerState) → SameAge s (told waiting session s)
unfolding told
told_age waiting session s = notice_age waiting _ session s

served_if_age : (has : Bool) (found : Option Waiting) (more : ServerState → Did) (session : ℕ) (s : ServerState)
    → ((s : ServerState) → SameAge s (more s)) → oldest_waiting session s ≡ found → SameAge s (served_if has more session s)
served_if_age false found more session s keeps is = refl
served_if_age true None more session s keeps is = rw is refl
served_if_age true (Some waiting) more session s keeps is =
    rw is (keeps (told waiting session (unqueued session s)).state ∙ told_age waiting session (unqueued session s))

served_age : (most session : ℕ) (s : ServerState) → SameAge s (served_within most session s)
unfolding served_within
served_age zero session s = refl
served_age (suc most) session s = served_if_age (has_notice session s) _ (served_within most session) session s (served_age most session) refl

answered_by_age : (found : Option Waiting) (more : ServerState → Did) (code session : ℕ) (s : ServerState)
    → ((s : ServerState) → SameAge s (more s)) → SameAge s (answered_by more code found session s)
answered_by_age None more code session s keeps = refl
answered_by_age (Some waiting) more code session s keeps = keeps _ ∙ replied_age waiting.asker _ (unqueued session s)

answered_age : (most code session : ℕ) (s : ServerState) → SameAge s (answered_within most code session s)
unfolding answered_within
answered_age zero code session s = refl
answered_age (suc most) code session s = answered_by_age _ (answered_within most code session) code session s (answered_age most code session)

released_age : (session : ℕ) (s : ServerState) → SameAge s (released session s)
released_age session s = either (SameAge s) _ _ _ refl (answered_age _ _ session s)

left_age : (session : ℕ) (s : ServerState) → SameAge s (left session s)
unfolding left
left_age session s = released_age session (served session s).state ∙ served_age _ session s

noticed_of_age : (sub : Option SubState) (session code : ℕ) (s : ServerState) → (noticed_of sub session code s).age ≡ s.age
unfolding noticed
noticed_of_age None session code s = refl
noticed_of_age (Some sub) session code s = refl

told_why_age : (owner : Option ℕ) (code : ℕ) (sub : Option SubState) (s : ServerState) → SameAge s (told_why owner code sub s)
told_why_age None code sub s = refl
told_why_age (Some session) code sub s = left_age session _ ∙ noticed_of_age sub session code s

expired_age : (id : ℕ) (s : ServerState) → SameAge s (expired_sub id s)
unfolding expired_sub
expired_age id s = told_why_age _ _ _ (gone id s)

sub_age : (waiting : Waiting) (id : ℕ) (sub : Option SubState) (s : ServerState) → SameAge s (sent_by waiting id sub s)
sub_age waiting id None s = refl
sub_age waiting id (Some sub) s = replied_age waiting.asker _ _

sent_age : (waiting : Waiting) (id : ℕ) (s : ServerState) → SameAge s (sent waiting id s)
unfolding sent
sent_age waiting id s = sub_age waiting id _ s

sent_with_age : (found : Option Waiting) (more : ServerState → Did) (id session : ℕ) (s : ServerState)
    → ((s : ServerState) → SameAge s (more s)) → SameAge s (sent_with more found id session s)
sent_with_age None more id session s keeps = refl
sent_with_age (Some waiting) more id session s keeps = keeps _ ∙ sent_age waiting id (unqueued session s)

sent_if_age : (has : Bool) (more : ServerState → Did) (id session : ℕ) (s : ServerState)
    → ((s : ServerState) → SameAge s (more s)) → SameAge s (sent_if has more id session s)
sent_if_age false more id session s keeps = refl
sent_if_age true more id session s keeps = sent_with_age _ more id session s keeps

sent_within_age : (most id session : ℕ) (s : ServerState) → SameAge s (sent_within most id session s)
unfolding sent_within
sent_within_age zero id session s = refl
sent_within_age (suc most) id session s = sent_if_age _ (sent_within most id session) id session s (sent_within_age most id session)

sends_age : (id session : ℕ) (s : ServerState) → SameAge s (sends id session s)
unfolding sends
sends_age id session s = sent_with_age _ (sent_on id session) id session s (λ s. sent_within_age _ id session s)

sends_for_age : (owner : Option ℕ) (id : ℕ) (s : ServerState) → SameAge s (sends_for owner id s)
sends_for_age None id s = refl
sends_for_age (Some session) id s = sends_age id session s

row_age : (row : Cycle) (id : ℕ) (s : ServerState) → SameAge s (by_row row id s)
row_age Quiet id s = refl
row_age Notify id s = sends_for_age _ id s
row_age KeepAlive id s = sends_for_age _ id s
row_age Late id s = refl
row_age Expired id s = expired_age id s

cycle_of_age : (sub : Option SubState) (id : ℕ) (s : ServerState) → SameAge s (cycle_of sub id s)
cycle_of_age None id s = refl
cycle_of_age (Some sub) id s = row_age (row_of (is_served id s) sub) id (with_sub id (cycled (is_served id s)) s)

cycle_age : (id : ℕ) (s : ServerState) → SameAge s (cycle id s)
unfolding cycle
cycle_age id s = cycle_of_age _ id s

each_age : (ids : List ℕ) (s : ServerState) → SameAge s (each cycle ids s)
each_age [] s = refl
each_age (id ∷ ids) s = each_age ids (cycle id s).state ∙ cycle_age id s

pub moment_age : (s : ServerState) → SameAge s (moment s)
unfolding moment
moment_age s = each_age (ids_due s) s
