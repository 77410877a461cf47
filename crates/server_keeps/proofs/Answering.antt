-- Answers keep the limits, and leave a server that fits; rules put together do so too.
use Rattle.std.proofs.Common.{◌≡◌, ℕ, ◌*◌, List, [], ◌∷◌, cond, Option, Some, None, IfSome, map, length, FitsSigned, refl, ap, suc, arith}
use Rattle.std.specs.Prelude.{Result, Ok, Err}
use Rattle.std.specs.List.{AllByRecursion}
use Rattle.std.specs.Int.{w64}
use Rattle.ua_base.specs.Status.{bad_response_too_large, bad_tcp_message_too_large, good}
use Rattle.sessions.specs.State.{SessionsState}
use Rattle.subscription.specs.State.{SubState}
use Rattle.ua_structures.specs.declared.header.ResponseHeader.{ResponseHeader}
use Rattle.ua_services.specs.declared.reply.Reply.{Reply}
use Rattle.server_rules.specs.declared.conn.Asker.{Asker}
use Rattle.server_rules.specs.declared.conn.Conn.{Conn}
use Rattle.server_rules.specs.declared.waiting.Waiting.{Waiting}
use Rattle.server_rules.specs.State.{NoticeState, ServerState, changed_if, conn_at, is_conn, is_sub, renewed_conn, server_time, sub_at, with_conn, with_sub}
use Rattle.server_rules.specs.Said.{Did, Told, Refused, Replied, and_then, each, nothing}
use Rattle.server_rules.specs.Answering.{deafened, fault_reply, faulted, good_header, header_with, refused_on, replied, replied_on, replied_to, replied_within, said_on, takes}
use Rattle.server_rules.specs.Operations.{◌>>=◌, after_each, answered, answers, done, passes, wanted}
use Rattle.server_keeps.specs.Fitting.{AreApart, AreUInt32, FitsConn, FitsNotice, FitsServer, FitsSession, FitsSub, IsUInt32, KeepsDid, KeepsReply, KeepsSaid, KeepsTold}
use Rattle.server_keeps.proofs.Apart.{all_changed, apart_map, changed_same}
use Rattle.server_keeps.proofs.Lists.{all_join, all_map, choice, found}
use Rattle.server_keeps.proofs.Numbers.{time_fits}
use Rattle.server_keeps.proofs.Replies.{KeepsHeader, header_keeps}

-- ---- a part of a server changes

pub with_sessions : (sessions : SessionsState) (s : ServerState) → FitsServer s → AllByRecursion FitsSession sessions.sessions
    → FitsServer (record s { sessions = sessions })
with_sessions sessions s h fits = record {
  config = h.config;
  level = h.level;
  current = h.current;
  sessions = fits;
  notices = h.notices;
  subs = h.subs;
  apart = h.apart;
  channels = h.channels;
  conns = h.conns;
}

pub with_notices : (notices : List NoticeState) (s : ServerState) → FitsServer s → AllByRecursion FitsNotice notices
    → FitsServer (record s { notices = notices })
with_notices notices s h fits = record {
  config = h.config;
  level = h.level;
  current = h.current;
  sessions = h.sessions;
  notices = fits;
  subs = h.subs;
  apart = h.apart;
  channels = h.channels;
  conns = h.conns;
}

pub with_subs : (subs : List SubState) (s : ServerState) → FitsServer s → AllByRecursion FitsSub subs → AreApart subs
    → FitsServer (record s { subs = subs })
with_subs subs s h fits apart = record {
  config = h.config;
  level = h.level;
  current = h.current;
  sessions = h.sessions;
  notices = h.notices;
  subs = fits;
  apart = apart;
  channels = h.channels;
  conns = h.conns;
}

pub with_conns : (conns : List Conn) (s : ServerState) → FitsServer s → AllByRecursion FitsConn conns → FitsServer (record s { conns = conns })
with_conns conns s h fits = record {
  config = h.config;
  level = h.level;
  current = h.current;
  sessions = h.sessions;
  notices = h.notices;
  subs = h.subs;
  apart = h.apart;
  channels = h.channels;
  conns = fits;
}

pub conn_fits : (conn : Conn) (s : ServerState) → FitsServer s → FitsConn conn → FitsServer (with_conn conn s)
conn_fits conn s h fits =
    with_conns (map (renewed_conn conn) s.conns) s h
    (all_map FitsConn FitsConn (renewed_conn conn) (λ other kept. choice FitsConn (is_conn conn.number other) conn other fits kept) s.conns h.conns)

-- the subscription of an id changes, and keeps its id
pub found_sub_fits : (id : ℕ) (change : SubState → SubState) (s : ServerState) → FitsServer s → ((sub : SubState) → (change sub).spec.id ≡ sub.spec.id)
    → ((sub : SubState) → sub_at id s.subs ≡ Some sub → FitsSub sub → FitsSub (change sub)) → FitsServer (with_sub id change s)
found_sub_fits id change s h same step =
    with_subs (map (changed_if id change) s.subs) s h (all_changed id change s.subs h.apart h.subs step)
    (apart_map (changed_if id change) (changed_same id change same) s.subs h.apart)

pub sub_fits : (id : ℕ) (change : SubState → SubState) (s : ServerState) → FitsServer s → ((sub : SubState) → (change sub).spec.id ≡ sub.spec.id)
    → ((sub : SubState) → FitsSub sub → FitsSub (change sub)) → FitsServer (with_sub id change s)
sub_fits id change s h same step = found_sub_fits id change s h same (λ sub is fits. step sub fits)

pub found_fits : (id : ℕ) (s : ServerState) → FitsServer s → IfSome (sub_at id s.subs) FitsSub
found_fits id s h = found FitsSub (is_sub id) s.subs h.subs

pub now_fits : (s : ServerState) → FitsServer s → FitsSigned w64 (server_time s)
now_fits s h = time_fits s.config.start (s.age * 10000) h.config.start

-- ---- rules put together

pub quiet : (s : ServerState) → FitsServer s → KeepsDid (nothing s)
quiet s h = record { state = h; said = tt }

pub in_turn : (rule : ServerState → Did) (did : Did) → KeepsDid did → ((t : ServerState) → FitsServer t → KeepsDid (rule t)) → KeepsDid (and_then rule did)
in_turn rule did h rest =
    let later = rest did.state h.state in
    record { state = later.state; said = all_join KeepsSaid did.said (rule did.state).said h.said later.said }

pub each_in_turn : {A : Type 0} (P : A → Type 0) (rule : A → ServerState → Did) → ((one : A) (t : ServerState) → P one → FitsServer t → KeepsDid (rule one t))
    → (all : List A) (s : ServerState) → AllByRecursion P all → FitsServer s → KeepsDid (each rule all s)
each_in_turn P rule step [] s fits h = quiet s h
each_in_turn P rule step (one ∷ more) s fits h =
    in_turn (each rule more) (rule one s) (step one s fits.0 h) (λ t kept. each_in_turn P rule step more t fits.1 kept)

-- ---- on a connection

pub record FitsAsker (asker : Asker) : Type 0 where
  pub request : IsUInt32 asker.request
  pub handle : IsUInt32 asker.handle

pub record FitsWaiting (waiting : Waiting) : Type 0 where
  pub asker : FitsAsker waiting.asker
  pub results : AreUInt32 waiting.results

pub said_keeps : (conn : Conn) (told : Told) → FitsConn conn → KeepsTold told → KeepsSaid (said_on conn told)
said_keeps conn told fits h = record { channel = fits.channel; token = fits.token; told = h }

pub refused_keeps : (conn : Conn) (code : ℕ) (s : ServerState) → FitsServer s → FitsConn conn → IsUInt32 code → KeepsDid (refused_on conn code s)
unfolding refused_on
refused_keeps conn code s h fits c = record {
  state = conn_fits (deafened conn) s h (record { channel = fits.channel; token = fits.token });
  said = (said_keeps conn (Refused code) fits c, tt);
}

within_keeps : (conn : Conn) (request : ℕ) (answer : Reply) (s : ServerState) → FitsServer s → FitsConn conn → IsUInt32 request → KeepsReply answer
    → KeepsDid (replied_within conn request answer s)
unfolding replied_within
within_keeps conn request answer s h fits r kept = record { state = h; said = (said_keeps conn (Replied request answer) fits (r, kept), tt) }

pub header_fits : (handle code : ℕ) (s : ServerState) → FitsServer s → IsUInt32 handle → IsUInt32 code → KeepsHeader (header_with handle code s)
header_fits handle code s h n c = header_keeps (server_time s) handle code (now_fits s h) n c

pub good_fits : (handle : ℕ) (s : ServerState) → FitsServer s → IsUInt32 handle → KeepsHeader (good_header handle s)
good_fits handle s h n = header_fits handle good s h n (omega arith)

fault_reply_keeps : (handle code : ℕ) (s : ServerState) → FitsServer s → IsUInt32 handle → IsUInt32 code → KeepsReply (fault_reply handle code s)
fault_reply_keeps handle code s h n c = record { keeps = header_fits handle code s h n c; brings = tt }

on_keeps : (conn : Conn) (request handle : ℕ) (answer : Reply) (s : ServerState) → FitsServer s → FitsConn conn → IsUInt32 request → IsUInt32 handle
    → KeepsReply answer → KeepsDid (replied_on conn request handle answer s)
unfolding replied_on
on_keeps conn request handle answer s h fits r n kept =
    let fault : Reply = fault_reply handle bad_response_too_large s in
    choice KeepsDid (takes conn answer) (replied_within conn request answer s)
    (cond (takes conn fault) (replied_within conn request fault s) (refused_on conn bad_tcp_message_too_large s))
    (within_keeps conn request answer s h fits r kept)
    (choice KeepsDid (takes conn fault) (replied_within conn request fault s) (refused_on conn bad_tcp_message_too_large s)
    (within_keeps conn request fault s h fits r (fault_reply_keeps handle bad_response_too_large s h n (omega arith)))
    (refused_keeps conn bad_tcp_message_too_large s h fits (omega arith)))

to_keeps : (to : Option Conn) (request handle : ℕ) (answer : Reply) (s : ServerState) → FitsServer s → IfSome to FitsConn → IsUInt32 request → IsUInt32 handle
    → KeepsReply answer → KeepsDid (replied_to to request handle answer s)
to_keeps None request handle answer s h fits r n kept = quiet s h
to_keeps (Some conn) request handle answer s h fits r n kept = on_keeps conn request handle answer s h fits r n kept

pub replied_keeps : (asker : Asker) (answer : Reply) (s : ServerState) → FitsServer s → FitsAsker asker → KeepsReply answer → KeepsDid (replied asker answer s)
unfolding replied
replied_keeps asker answer s h fits kept =
    to_keeps (conn_at asker.conn s.conns) asker.request asker.handle answer s h (found FitsConn (is_conn asker.conn) s.conns h.conns) fits.request fits.handle kept

pub faulted_keeps : (asker : Asker) (code : ℕ) (s : ServerState) → FitsServer s → FitsAsker asker → IsUInt32 code → KeepsDid (faulted asker code s)
faulted_keeps asker code s h fits c = replied_keeps asker (fault_reply asker.handle code s) s h fits (fault_reply_keeps asker.handle code s h fits.handle c)

-- the reply of a service that was done
pub answered_keeps : (asker : Asker) (reply : ResponseHeader → Reply) (s : ServerState) → FitsServer s → FitsAsker asker
    → ((header : ResponseHeader) → KeepsHeader header → KeepsReply (reply header)) → KeepsDid (answered asker reply s)
answered_keeps asker reply s h fits kept =
    replied_keeps asker (reply (good_header asker.handle s)) s h fits (kept (good_header asker.handle s) (good_fits asker.handle s h fits.handle))

-- ---- what refuses, in order

-- what is found is so, and what refuses has a code
abbrev pub Judged : {A : Type 0} → (A → Type 0) → Result A ℕ → Type 0
Judged P (Ok a) = P a
Judged P (Err code) = IsUInt32 code

-- of it nothing is to be known
abbrev pub Any : {A : Type 0} → A → Type 0
Any a = Unit {0}

pub any_some : {A : Type 0} (o : Option A) → IfSome o Any
any_some None = tt
any_some (Some a) = tt

pub judged_then : {A B : Type 0} (P : A → Type 0) (Q : B → Type 0) (r : Result A ℕ) (rule : A → Result B ℕ) → Judged P r → ((a : A) → P a → Judged Q (rule a))
    → Judged Q (r >>= rule)
judged_then P Q (Ok a) rule h rest = rest a h
judged_then P Q (Err code) rule h rest = h

pub judged_wanted : {A : Type 0} (P : A → Type 0) (code : ℕ) (o : Option A) → IsUInt32 code → IfSome o P → Judged P (wanted code o)
judged_wanted P code None c h = c
judged_wanted P code (Some a) c h = h

pub judged_passes : (o : Option ℕ) → IfSome o IsUInt32 → Judged Any (passes o)
judged_passes None h = tt
judged_passes (Some code) h = h

pub done_keeps : {A : Type 0} (P : A → Type 0) (asker : Asker) (rule : A → ServerState → Did) (r : Result A ℕ) (s : ServerState) → FitsServer s → FitsAsker asker
    → Judged P r → ((a : A) → P a → KeepsDid (rule a s)) → KeepsDid (done asker rule r s)
done_keeps P asker rule (Ok a) s h fits judged kept = kept a judged
done_keeps P asker rule (Err code) s h fits judged kept = faulted_keeps asker code s h fits judged

-- ---- operations in turn

pub after_each_fits : {A : Type 0} (P : A → Type 0) (step : A → ServerState → ServerState)
    → ((one : A) (t : ServerState) → P one → FitsServer t → FitsServer (step one t)) → (all : List A) (s : ServerState) → AllByRecursion P all → FitsServer s
    → FitsServer (after_each step all s)
after_each_fits P step keeps [] s fits h = h
after_each_fits P step keeps (one ∷ more) s fits h = after_each_fits P step keeps more (step one s) fits.1 (keeps one s fits.0 h)

pub answers_keep : {A B : Type 0} (P : A → Type 0) (Q : B → Type 0) (answer : A → ServerState → B) (step : A → ServerState → ServerState)
    → ((one : A) (t : ServerState) → P one → FitsServer t → FitsServer (step one t)) → ((one : A) (t : ServerState) → P one → FitsServer t → Q (answer one t))
    → (all : List A) (s : ServerState) → AllByRecursion P all → FitsServer s → AllByRecursion Q (answers answer step all s)
answers_keep P Q answer step keeps each [] s fits h = tt
answers_keep P Q answer step keeps each (one ∷ more) s fits h =
    (each one s fits.0 h, answers_keep P Q answer step keeps each more (step one s) fits.1 (keeps one s fits.0 h))

pub answers_long : {A B : Type 0} (answer : A → ServerState → B) (step : A → ServerState → ServerState) (all : List A) (s : ServerState)
    → length (answers answer step all s) ≡ length all
answers_long answer step [] s = refl
answers_long answer step (one ∷ more) s = ap suc (answers_long answer step more (step one s))
