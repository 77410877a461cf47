-- What a server does with the body of a message: which service it asks for, and of which session (OPC 10000-4, 5.3).
use Rattle.std.specs.Prelude.{ℕ, List, Option, Some, None, Result, Ok, Err}
use Rattle.ua_base.specs.Status.{bad_decoding_error, bad_service_unsupported}
use Rattle.sessions.specs.Table.{bound_answer, check_answer}
use Rattle.sessions.specs.Table as table
use Rattle.ua_structures.specs.declared.header.RequestHeader.{RequestHeader}
use Rattle.ua_session_msgs.specs.declared.attribute.ReadRequest.{ReadRequest}
use Rattle.ua_session_msgs.specs.declared.method.CallRequest.{CallRequest}
use Rattle.ua_session_msgs.specs.declared.session.CloseSessionRequest.{CloseSessionRequest}
use Rattle.ua_session_msgs.specs.declared.request.SessionRequest.{SessionRequest}
use Rattle.ua_session_msgs.specs.declared.request.SessionRequest.TheVariants as session_request
use Rattle.ua_sub_msgs.specs.declared.request.SubRequest.{SubRequest}
use Rattle.ua_sub_msgs.specs.declared.request.SubRequest.TheVariants as sub_request
use Rattle.ua_services.specs.declared.request.Request.{Request}
use Rattle.ua_services.specs.declared.request.Request.TheVariants as request
use Rattle.ua_services.specs.declared.request.RequestFault.{RequestFault}
use Rattle.ua_services.specs.declared.request.RequestFault.TheVariants as faults
use Rattle.ua_services.specs.Requests.{header_of, request_at, sub_header}
use Rattle.server_rules.specs.declared.conn.Asker.{Asker}
use Rattle.server_rules.specs.State.{ServerState}
use Rattle.server_rules.specs.Said.{Did, nothing}
use Rattle.server_rules.specs.Answering.{faulted}
use Rattle.server_rules.specs.Sessions.{activate_session, close_session, create_session, find_servers, get_endpoints, token_at}
use Rattle.server_rules.specs.Publishing.{publish}
use Rattle.server_rules.specs.Reading.{call, read}
use Rattle.server_rules.specs.Items.{create_items, delete_items, set_modes}
use Rattle.server_rules.specs.Subscriptions.{create_sub, delete_subs, modify_sub, republish, set_publishing, transfer_subs}

-- ---- of which session

-- a request on its session's connection is the session's last one
abbrev pub noted : Asker → Option (List ℕ) → ServerState → ServerState
noted asker token s = record s { sessions = table.requested token asker.conn s.age s.sessions }

-- a service does this for a session, or the request is refused
abbrev pub done_for : (ℕ → ServerState → Did) → Asker → Result ℕ ℕ → ServerState → Did
done_for row asker (Ok session) s = row session s
done_for row asker (Err code) s = faulted asker code s

-- a session that is bound to the connection, and activated
abbrev pub in_session : (ℕ → ServerState → Did) → Asker → Option (List ℕ) → ServerState → Did
in_session row asker token s = done_for row asker (check_answer token asker.conn s.sessions) (noted asker token s)

-- one that is bound to it
abbrev pub in_bound : (ℕ → ServerState → Did) → Asker → Option (List ℕ) → ServerState → Did
in_bound row asker token s = done_for row asker (bound_answer token asker.conn s.sessions) (noted asker token s)

abbrev pub token_in : RequestHeader → Option (List ℕ)
token_in header = token_at header.authentication_token

-- ---- which service

unfoldable pub sub_served : Asker → SubRequest → ℕ → ServerState → Did
sub_served asker (sub_request.CreateMonitoredItems r) session s = create_items asker session r s
sub_served asker (sub_request.SetMonitoringMode r) session s = set_modes asker session r s
sub_served asker (sub_request.DeleteMonitoredItems r) session s = delete_items asker session r s
sub_served asker (sub_request.CreateSubscription r) session s = create_sub asker session r s
sub_served asker (sub_request.ModifySubscription r) session s = modify_sub asker session r s
sub_served asker (sub_request.SetPublishingMode r) session s = set_publishing asker session r s
sub_served asker (sub_request.Publish r) session s = publish asker session r s
sub_served asker (sub_request.Republish r) session s = republish asker session r s
sub_served asker (sub_request.TransferSubscriptions r) session s = transfer_subs asker session r s
sub_served asker (sub_request.DeleteSubscriptions r) session s = delete_subs asker session r s

abbrev pub close_served : Asker → CloseSessionRequest → ServerState → Did
close_served asker r s = in_bound (λ session. close_session asker session r) asker (token_in r.request_header) s

abbrev pub read_served : Asker → ReadRequest → ServerState → Did
read_served asker r s = in_session (λ session. read asker r) asker (token_in r.request_header) s

abbrev pub call_served : Asker → CallRequest → ServerState → Did
call_served asker r s = in_session (λ session. call asker session r) asker (token_in r.request_header) s

-- a secure channel is opened and closed by chunks of their own kinds (OPC 10000-6, 6.7.2)
unfoldable pub session_served : Asker → SessionRequest → ServerState → Did
session_served asker (session_request.OpenSecureChannel r) s = faulted asker bad_service_unsupported s
session_served asker (session_request.CloseSecureChannel r) s = faulted asker bad_service_unsupported s
session_served asker (session_request.FindServers r) s = find_servers asker r s
session_served asker (session_request.GetEndpoints r) s = get_endpoints asker r s
session_served asker (session_request.CreateSession r) s = create_session asker r s
session_served asker (session_request.ActivateSession r) s = activate_session asker r s
session_served asker (session_request.CloseSession r) s = close_served asker r s
session_served asker (session_request.Read r) s = read_served asker r s
session_served asker (session_request.Call r) s = call_served asker r s

unfoldable pub served : Asker → Request → ServerState → Did
served asker (request.Session r) s = session_served asker r s
served asker (request.Subscription r) s = in_session (sub_served asker r) asker (token_in (sub_header r)) s

-- ---- a message

abbrev pub asker_of : ℕ → ℕ → ℕ → Asker
asker_of conn number handle = record { conn = conn; request = number; handle = handle }

-- a body that is no request is answered with the handle, as far as that is known
abbrev pub asked : ℕ → ℕ → Result Request RequestFault → ServerState → Did
asked conn number (Ok r) s = served (asker_of conn number (header_of r).request_handle) r s
asked conn number (Err faults.Header) s = faulted (asker_of conn number 0) bad_decoding_error s
asked conn number (Err (faults.Service handle)) s = faulted (asker_of conn number handle) bad_service_unsupported s
asked conn number (Err (faults.Body handle)) s = faulted (asker_of conn number handle) bad_decoding_error s
asked conn number (Err faults.OutOfMemory) s = nothing s

-- the message of this number on a connection's channel
unfoldable pub requested : ℕ → ℕ → List ℕ → ServerState → Did
requested conn number body s = asked conn number (request_at body) s
