-- Discovery and the services of sessions keep the limits.
use Rattle.std.proofs.Common.{ℕ, ◌+◌, List, [], ◌∷◌, Bool, true, false, Option, Some, None, arith}
use Rattle.std.specs.Prelude.{Result, Ok, Err}
use Rattle.ua_base.specs.Status.{bad_identity_token_rejected, bad_secure_channel_id_invalid, bad_session_closed, bad_session_id_invalid, bad_session_not_activated, bad_too_many_sessions}
use Rattle.ua_structures.specs.Structures.{unused_diagnostics}
use Rattle.ua_session_msgs.specs.declared.discovery.FindServersRequest.{FindServersRequest}
use Rattle.ua_session_msgs.specs.declared.discovery.GetEndpointsRequest.{GetEndpointsRequest}
use Rattle.ua_session_msgs.specs.declared.reply.SessionReply.{SessionReply}
use Rattle.ua_session_msgs.specs.declared.reply.SessionReply.TheVariants as session_reply
use Rattle.ua_session_msgs.specs.declared.session.ActivateSessionRequest.{ActivateSessionRequest}
use Rattle.ua_session_msgs.specs.declared.session.CloseSessionRequest.{CloseSessionRequest}
use Rattle.ua_session_msgs.specs.declared.session.CreateSessionRequest.{CreateSessionRequest}
use Rattle.ua_session_msgs.specs.Families as session
use Rattle.ua_session_msgs.specs.Structures.{a_find_servers_response, a_get_endpoints_response, an_activate_session_response}
use Rattle.ua_services.specs.declared.reply.Reply.TheVariants as reply
use Rattle.sessions.specs.declared.fault.SessionFault.{SessionFault}
use Rattle.sessions.specs.declared.fault.SessionFault.TheVariants as session_fault
use Rattle.sessions.specs.declared.session.Session.{Session}
use Rattle.sessions.specs.Session as one
use Rattle.sessions.specs.Session.{is_bound_to, may_activate}
use Rattle.sessions.specs.State.{SessionsState}
use Rattle.sessions.specs.Table.{activate_answer, activated, answer_of, bound_answer, check_answer, closed, created, is_full, session_of}
use Rattle.server_rules.specs.declared.conn.Asker.{Asker}
use Rattle.server_rules.specs.State.{ServerState}
use Rattle.server_rules.specs.Answering.{faulted, good_header}
use Rattle.server_rules.specs.Moves.{answered_queued, gone, own_subs}
use Rattle.server_rules.specs.Sessions.{activate_session, activation_answered, activation_done, all_gone, close_answered, close_session, create_session, created_response, creation_answered, endpoint, find_servers, get_endpoints, ids_of, is_anonymous, nonce, servers_listed, session_activated, session_closed, session_created, session_replied, session_timeout, token_at, with_session, without_owned, without_session}
use Rattle.server_keeps.specs.Fitting.{FitsServer, IsUInt32, KeepsDid}
use Rattle.server_keeps.proofs.Answering.{Any, FitsAsker, Judged, faulted_keeps, good_fits, in_turn, quiet, replied_keeps, with_sessions}
use Rattle.server_keeps.proofs.Describing.{created_keeps, endpoints_keep, listed_keep, nonce_keeps}
use Rattle.server_keeps.proofs.Lists.{choice}
use Rattle.server_keeps.proofs.Moving.{answered_queued_keeps, gone_fits}
use Rattle.server_keeps.proofs.Sessions.{activated_fits, closed_fits, created_fits}

session_replied_keeps : (asker : Asker) (answer : SessionReply) (s : ServerState) → FitsServer s → FitsAsker asker → (session.reply_put answer).keeps
    → KeepsDid (session_replied asker answer s)
session_replied_keeps asker answer s h fits kept = replied_keeps asker (reply.Session answer) s h fits (record { keeps = kept; brings = tt })

-- ---- discovery

pub find_servers_keeps : (asker : Asker) (r : FindServersRequest) (s : ServerState) → FitsServer s → FitsAsker asker → KeepsDid (find_servers asker r s)
unfolding find_servers a_find_servers_response
find_servers_keeps asker r s h fits =
    session_replied_keeps asker
    (session_reply.FindServers (record { response_header = good_header asker.handle s; servers = servers_listed r.server_uris s.config.members })) s h fits
    (good_fits asker.handle s h fits.handle, listed_keep r.server_uris s.config.members h.config.members)

pub get_endpoints_keeps : (asker : Asker) (r : GetEndpointsRequest) (s : ServerState) → FitsServer s → FitsAsker asker → KeepsDid (get_endpoints asker r s)
unfolding get_endpoints a_get_endpoints_response
get_endpoints_keeps asker r s h fits =
    session_replied_keeps asker
    (session_reply.GetEndpoints (record { response_header = good_header asker.handle s; endpoints = endpoint s.config ∷ [] })) s h fits
    (good_fits asker.handle s h fits.handle, endpoints_keep s.config h.config)

-- ---- CreateSession

creation_keeps : (asker : Asker) (counter timeout : ℕ) (s : ServerState) → FitsServer s → FitsAsker asker → KeepsDid (creation_answered asker counter timeout s)
unfolding creation_answered
creation_keeps asker counter timeout s h fits =
    session_replied_keeps asker (session_reply.CreateSession (created_response asker counter timeout s)) s h fits
    (created_keeps asker counter timeout s h.config (good_fits asker.handle s h fits.handle))

session_created_keeps : (asker : Asker) (uri : Option (List ℕ)) (timeout : ℕ) (s : ServerState) → FitsServer s → FitsAsker asker
    → KeepsDid (session_created asker uri timeout s)
session_created_keeps asker uri timeout s h fits =
    creation_keeps asker (s.sessions.last_counter + 1) timeout (with_session asker uri timeout s)
    (with_sessions (created asker.conn uri timeout s.age s.sessions) s h (created_fits asker.conn uri timeout s.age s.sessions h.sessions)) fits

pub create_session_keeps : (asker : Asker) (r : CreateSessionRequest) (s : ServerState) → FitsServer s → FitsAsker asker → KeepsDid (create_session asker r s)
unfolding create_session
create_session_keeps asker r s h fits =
    choice KeepsDid (is_full s.sessions) (faulted asker bad_too_many_sessions s)
    (session_created asker r.client_description.application_uri (session_timeout r) s) (faulted_keeps asker bad_too_many_sessions s h fits (omega arith))
    (session_created_keeps asker r.client_description.application_uri (session_timeout r) s h fits)

-- ---- ActivateSession

activation_keeps : (asker : Asker) (s : ServerState) → FitsServer s → FitsAsker asker → KeepsDid (activation_done asker s)
unfolding activation_done an_activate_session_response unused_diagnostics
activation_keeps asker s h fits =
    session_replied_keeps asker
    (session_reply.ActivateSession
    (record { response_header = good_header asker.handle s; server_nonce = nonce; results = []; diagnostic_infos = record {} })) s h fits
    (good_fits asker.handle s h fits.handle, (nonce_keeps, ((omega arith, tt), tt)))

-- the code of a refusal fits
abbrev pub Answers : Result ℕ SessionFault → Type 0
Answers (Ok counter) = Unit {0}
Answers (Err (session_fault.Code code)) = IsUInt32 code
Answers (Err session_fault.OutOfMemory) = Unit {0}

answered_keeps : (asker : Asker) (answer : Result ℕ SessionFault) (s : ServerState) → FitsServer s → FitsAsker asker → Answers answer
    → KeepsDid (activation_answered asker answer s)
answered_keeps asker (Ok counter) s h fits c = activation_keeps asker s h fits
answered_keeps asker (Err (session_fault.Code code)) s h fits c = faulted_keeps asker code s h fits c
answered_keeps asker (Err session_fault.OutOfMemory) s h fits c = quiet s h

activate_code : (conn : ℕ) (found : Option Session) → Answers (answer_of (session_fault.Code bad_session_id_invalid) (one.activate_answer conn) found)
activate_code conn None = omega arith
activate_code conn (Some session) =
    choice Answers (may_activate conn session) (Ok session.counter) (Err (session_fault.Code bad_secure_channel_id_invalid)) tt (omega arith)

activated_keeps : (asker : Asker) (token : Option (List ℕ)) (s : ServerState) → FitsServer s → FitsAsker asker → KeepsDid (session_activated asker token s)
unfolding session_activated
activated_keeps asker token s h fits =
    answered_keeps asker (activate_answer token asker.conn s.sessions) (record s { sessions = activated token asker.conn s.age s.sessions })
    (with_sessions (activated token asker.conn s.age s.sessions) s h (activated_fits token asker.conn s.age s.sessions h.sessions)) fits
    (activate_code asker.conn (session_of token s.sessions))

pub activate_session_keeps : (asker : Asker) (r : ActivateSessionRequest) (s : ServerState) → FitsServer s → FitsAsker asker
    → KeepsDid (activate_session asker r s)
unfolding activate_session
activate_session_keeps asker r s h fits =
    choice KeepsDid (is_anonymous r.user_identity_token) (session_activated asker (token_at r.request_header.authentication_token) s)
    (faulted asker bad_identity_token_rejected s) (activated_keeps asker (token_at r.request_header.authentication_token) s h fits)
    (faulted_keeps asker bad_identity_token_rejected s h fits (omega arith))

-- ---- CloseSession

all_gone_fits : (ids : List ℕ) (s : ServerState) → FitsServer s → FitsServer (all_gone ids s)
all_gone_fits [] s h = h
all_gone_fits (id ∷ ids) s h = all_gone_fits ids (gone id s) (gone_fits id s h)

without_owned_fits : (deletes : Bool) (session : ℕ) (s : ServerState) → FitsServer s → FitsServer (without_owned deletes session s)
without_owned_fits true session s h = all_gone_fits (ids_of (own_subs session s)) s h
without_owned_fits false session s h = h

close_answered_keeps : (asker : Asker) (s : ServerState) → FitsServer s → FitsAsker asker → KeepsDid (close_answered asker s)
unfolding close_answered
close_answered_keeps asker s h fits =
    session_replied_keeps asker (session_reply.CloseSession (good_header asker.handle s)) s h fits (good_fits asker.handle s h fits.handle)

session_closed_keeps : (asker : Asker) (deletes : Bool) (session : ℕ) (s : ServerState) → FitsServer s → FitsAsker asker
    → KeepsDid (session_closed asker deletes session s)
unfolding session_closed
session_closed_keeps asker deletes session s h fits =
    let left : ServerState = without_owned deletes session s in
    let kept : FitsServer left = without_owned_fits deletes session s h in
    close_answered_keeps asker (without_session session left)
    (with_sessions (closed session left.sessions) left kept (closed_fits session left.sessions kept.sessions)) fits

pub close_session_keeps : (asker : Asker) (session : ℕ) (r : CloseSessionRequest) (s : ServerState) → FitsServer s → FitsAsker asker
    → KeepsDid (close_session asker session r s)
unfolding close_session
close_session_keeps asker session r s h fits =
    in_turn (session_closed asker r.delete_subscriptions session) (answered_queued bad_session_closed session s)
    (answered_queued_keeps bad_session_closed session s (omega arith) h)
    (λ t kept. session_closed_keeps asker r.delete_subscriptions session t kept fits)

-- ---- of which session

bound_code : (conn : ℕ) (found : Option Session) → Judged Any (answer_of bad_session_id_invalid (one.bound_answer conn) found)
bound_code conn None = omega arith
bound_code conn (Some session) = choice (Judged Any) (is_bound_to conn session) (Ok session.counter) (Err bad_secure_channel_id_invalid) tt (omega arith)

pub bound_judged : (token : Option (List ℕ)) (conn : ℕ) (state : SessionsState) → Judged Any (bound_answer token conn state)
bound_judged token conn state = bound_code conn (session_of token state)

check_code : (conn : ℕ) (found : Option Session) → Judged Any (answer_of bad_session_id_invalid (one.check_answer conn) found)
check_code conn None = omega arith
check_code conn (Some session) =
    choice (Judged Any) (is_bound_to conn session) (one.activated_answer session) (Err bad_secure_channel_id_invalid)
    (choice (Judged Any) session.activated (Ok session.counter) (Err bad_session_not_activated) tt (omega arith)) (omega arith)

pub check_judged : (token : Option (List ℕ)) (conn : ℕ) (state : SessionsState) → Judged Any (check_answer token conn state)
check_judged token conn state = check_code conn (session_of token state)
