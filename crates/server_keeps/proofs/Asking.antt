-- Whatever a message asks for is answered within the limits.
use Rattle.std.proofs.Common.{ℕ, List, Option, arith}
use Rattle.std.specs.Prelude.{Result, Ok, Err}
use Rattle.ua_base.specs.Status.{bad_decoding_error, bad_service_unsupported}
use Rattle.ua_session_msgs.specs.declared.request.SessionRequest.{SessionRequest}
use Rattle.ua_session_msgs.specs.declared.request.SessionRequest.TheVariants as session_request
use Rattle.ua_session_msgs.specs.Families as session
use Rattle.ua_sub_msgs.specs.declared.request.SubRequest.{SubRequest}
use Rattle.ua_sub_msgs.specs.declared.request.SubRequest.TheVariants as sub_request
use Rattle.ua_sub_msgs.specs.Families as sub
use Rattle.ua_services.specs.declared.request.Request.{Request}
use Rattle.ua_services.specs.declared.request.Request.TheVariants as request
use Rattle.ua_services.specs.declared.request.RequestFault.{RequestFault}
use Rattle.ua_services.specs.declared.request.RequestFault.TheVariants as faults
use Rattle.ua_services.specs.Families.{request_put}
use Rattle.ua_services.specs.Requests.{header_of, request_at, sub_header}
use Rattle.sessions.specs.Table as table
use Rattle.sessions.specs.Table.{bound_answer, check_answer}
use Rattle.server_rules.specs.declared.conn.Asker.{Asker}
use Rattle.server_rules.specs.State.{ServerState}
use Rattle.server_rules.specs.Said.{Did}
use Rattle.server_rules.specs.Reading.{call, read}
use Rattle.server_rules.specs.Requests.{asked, asker_of, done_for, in_bound, in_session, noted, requested, served, session_served, sub_served, token_in}
use Rattle.server_rules.specs.Sessions.{close_session}
use Rattle.server_keeps.specs.Fitting.{FitsRequest, FitsServer, IsUInt32, KeepsDid}
use Rattle.server_keeps.proofs.Answering.{Any, FitsAsker, Judged, faulted_keeps, quiet, with_sessions}
use Rattle.server_keeps.proofs.Asked.{handle_of}
use Rattle.server_keeps.proofs.Publishing.{publish_request_keeps}
use Rattle.server_keeps.proofs.Reading.{call_request_keeps, read_request_keeps}
use Rattle.server_keeps.proofs.Serving.{create_items_keeps, create_sub_keeps, delete_items_keeps, delete_subs_keeps, modify_sub_keeps, republish_keep, set_modes_keeps, set_publishing_keeps, transfer_subs_keeps}
use Rattle.server_keeps.proofs.Sessions.{requested_fits}
use Rattle.server_keeps.proofs.Visiting.{activate_session_keeps, bound_judged, check_judged, close_session_keeps, create_session_keeps, find_servers_keeps, get_endpoints_keeps}

-- ---- of which session

noted_fits : (asker : Asker) (token : Option (List ℕ)) (s : ServerState) → FitsServer s → FitsServer (noted asker token s)
noted_fits asker token s h =
    with_sessions (table.requested token asker.conn s.age s.sessions) s h (requested_fits token asker.conn s.age s.sessions h.sessions)

done_for_keeps : (row : ℕ → ServerState → Did) (asker : Asker) (answer : Result ℕ ℕ) (s : ServerState) → FitsServer s → FitsAsker asker → Judged Any answer
    → ((session : ℕ) (t : ServerState) → FitsServer t → KeepsDid (row session t)) → KeepsDid (done_for row asker answer s)
done_for_keeps row asker (Ok session) s h fits judged kept = kept session s h
done_for_keeps row asker (Err code) s h fits judged kept = faulted_keeps asker code s h fits judged

in_session_keeps : (row : ℕ → ServerState → Did) (asker : Asker) (token : Option (List ℕ)) (s : ServerState) → FitsServer s → FitsAsker asker
    → ((session : ℕ) (t : ServerState) → FitsServer t → KeepsDid (row session t)) → KeepsDid (in_session row asker token s)
in_session_keeps row asker token s h fits kept =
    done_for_keeps row asker (check_answer token asker.conn s.sessions) (noted asker token s) (noted_fits asker token s h) fits
    (check_judged token asker.conn s.sessions) kept

in_bound_keeps : (row : ℕ → ServerState → Did) (asker : Asker) (token : Option (List ℕ)) (s : ServerState) → FitsServer s → FitsAsker asker
    → ((session : ℕ) (t : ServerState) → FitsServer t → KeepsDid (row session t)) → KeepsDid (in_bound row asker token s)
in_bound_keeps row asker token s h fits kept =
    done_for_keeps row asker (bound_answer token asker.conn s.sessions) (noted asker token s) (noted_fits asker token s h) fits
    (bound_judged token asker.conn s.sessions) kept

-- ---- which service

sub_served_keeps : (asker : Asker) (r : SubRequest) → FitsAsker asker → (sub.request_put r).keeps → (one : ℕ) (s : ServerState) → FitsServer s
    → KeepsDid (sub_served asker r one s)
unfolding sub_served
sub_served_keeps asker (sub_request.CreateMonitoredItems r) fits asks one s h = create_items_keeps asker one r s h fits asks
sub_served_keeps asker (sub_request.SetMonitoringMode r) fits asks one s h = set_modes_keeps asker one r s h fits asks
sub_served_keeps asker (sub_request.DeleteMonitoredItems r) fits asks one s h = delete_items_keeps asker one r s h fits asks
sub_served_keeps asker (sub_request.CreateSubscription r) fits asks one s h = create_sub_keeps asker one r s h fits
sub_served_keeps asker (sub_request.ModifySubscription r) fits asks one s h = modify_sub_keeps asker one r s h fits
sub_served_keeps asker (sub_request.SetPublishingMode r) fits asks one s h = set_publishing_keeps asker one r s h fits asks
sub_served_keeps asker (sub_request.Publish r) fits asks one s h = publish_request_keeps asker one r s h fits asks
sub_served_keeps asker (sub_request.Republish r) fits asks one s h = republish_keep asker one r s h fits
sub_served_keeps asker (sub_request.TransferSubscriptions r) fits asks one s h = transfer_subs_keeps asker one r s h fits asks
sub_served_keeps asker (sub_request.DeleteSubscriptions r) fits asks one s h = delete_subs_keeps asker one r s h fits asks

session_served_keeps : (asker : Asker) (r : SessionRequest) (s : ServerState) → FitsServer s → FitsAsker asker → (session.request_put r).keeps
    → KeepsDid (session_served asker r s)
unfolding session_served
session_served_keeps asker (session_request.OpenSecureChannel r) s h fits asks = faulted_keeps asker bad_service_unsupported s h fits (omega arith)
session_served_keeps asker (session_request.CloseSecureChannel r) s h fits asks = faulted_keeps asker bad_service_unsupported s h fits (omega arith)
session_served_keeps asker (session_request.FindServers r) s h fits asks = find_servers_keeps asker r s h fits
session_served_keeps asker (session_request.GetEndpoints r) s h fits asks = get_endpoints_keeps asker r s h fits
session_served_keeps asker (session_request.CreateSession r) s h fits asks = create_session_keeps asker r s h fits
session_served_keeps asker (session_request.ActivateSession r) s h fits asks = activate_session_keeps asker r s h fits
session_served_keeps asker (session_request.CloseSession r) s h fits asks =
    in_bound_keeps (λ one. close_session asker one r) asker (token_in r.request_header) s h fits (λ one t kept. close_session_keeps asker one r t kept fits)
session_served_keeps asker (session_request.Read r) s h fits asks =
    in_session_keeps (λ one. read asker r) asker (token_in r.request_header) s h fits (λ one t kept. read_request_keeps asker r t kept fits asks)
session_served_keeps asker (session_request.Call r) s h fits asks =
    in_session_keeps (λ one. call asker one r) asker (token_in r.request_header) s h fits (λ one t kept. call_request_keeps asker one r t kept fits asks)

served_keeps : (asker : Asker) (r : Request) (s : ServerState) → FitsServer s → FitsAsker asker → (request_put r).keeps → KeepsDid (served asker r s)
unfolding served
served_keeps asker (request.Session r) s h fits asks = session_served_keeps asker r s h fits asks
served_keeps asker (request.Subscription r) s h fits asks =
    in_session_keeps (sub_served asker r) asker (token_in (sub_header r)) s h fits (sub_served_keeps asker r fits asks)

-- ---- a message

asker_fits : (conn number handle : ℕ) → IsUInt32 number → IsUInt32 handle → FitsAsker (asker_of conn number handle)
asker_fits conn number handle n h = record { request = n; handle = h }

asked_keeps : (conn number : ℕ) (r : Result Request RequestFault) (s : ServerState) → FitsServer s → IsUInt32 number → FitsRequest r
    → KeepsDid (asked conn number r s)
asked_keeps conn number (Ok r) s h n asks =
    served_keeps (asker_of conn number (header_of r).request_handle) r s h (asker_fits conn number (header_of r).request_handle n (handle_of r asks)) asks
asked_keeps conn number (Err faults.Header) s h n asks =
    faulted_keeps (asker_of conn number 0) bad_decoding_error s h (asker_fits conn number 0 n (omega arith)) (omega arith)
asked_keeps conn number (Err (faults.Service handle)) s h n asks =
    faulted_keeps (asker_of conn number handle) bad_service_unsupported s h (asker_fits conn number handle n asks) (omega arith)
asked_keeps conn number (Err (faults.Body handle)) s h n asks =
    faulted_keeps (asker_of conn number handle) bad_decoding_error s h (asker_fits conn number handle n asks) (omega arith)
asked_keeps conn number (Err faults.OutOfMemory) s h n asks = quiet s h

pub requested_keeps : (conn number : ℕ) (body : List ℕ) (s : ServerState) → FitsServer s → IsUInt32 number → FitsRequest (request_at body)
    → KeepsDid (requested conn number body s)
unfolding requested
requested_keeps conn number body s h n asks = asked_keeps conn number (request_at body) s h n asks
