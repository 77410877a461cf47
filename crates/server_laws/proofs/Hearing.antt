-- What a server does with all that happens, in moves.
use Rattle.std.proofs.Common.{◌≡◌, ℕ, ◌+◌, List, [], ◌∷◌, Bool, true, false, cond, not, Option, Some, None, refl}
use Rattle.std.specs.Prelude.{Result, Ok, Err}
use Rattle.ua_base.specs.Status.{bad_decoding_error, bad_identity_token_rejected, bad_security_policy_rejected, bad_sequence_number_invalid, bad_service_unsupported, bad_session_closed, bad_tcp_message_too_large, bad_tcp_secure_channel_unknown, bad_too_many_sessions}
use Rattle.set_model.specs.declared.source.Change.{Change}
use Rattle.sessions.specs.Calls.{Activate, Check, Close, Create, Unbind}
use Rattle.sessions.specs.declared.fault.SessionFault.{SessionFault}
use Rattle.sessions.specs.declared.fault.SessionFault.TheVariants as session_fault
use Rattle.sessions.specs.Token.{token_of}
use Rattle.sessions.specs.Table.{activate_answer, bound_answer, check_answer, is_full}
use Rattle.ua_values.specs.Reading.{Fault, input}
use Rattle.ua_chunks.specs.Bodies.{hello_at, value_of, whole_at}
use Rattle.ua_chunks.specs.declared.greeting.Greeting.{Greeting}
use Rattle.ua_channel.specs.declared.ear.Ear.{Ear}
use Rattle.ua_channel.specs.declared.ear.Ear.TheVariants as ear
use Rattle.ua_channel.specs.declared.heard.Heard.{Heard}
use Rattle.ua_channel.specs.declared.heard.Heard.TheVariants as heard_as
use Rattle.ua_channel.specs.State.{is_deaf}
use Rattle.ua_session_msgs.specs.declared.channel.OpenSecureChannelResponse.{OpenSecureChannelResponse}
use Rattle.ua_session_msgs.specs.declared.request.SessionRequest.{SessionRequest}
use Rattle.ua_session_msgs.specs.declared.request.SessionRequest.TheVariants as session_request
use Rattle.ua_session_msgs.specs.declared.session.ActivateSessionRequest.{ActivateSessionRequest}
use Rattle.ua_session_msgs.specs.declared.session.CloseSessionRequest.{CloseSessionRequest}
use Rattle.ua_session_msgs.specs.declared.session.CreateSessionRequest.{CreateSessionRequest}
use Rattle.ua_session_msgs.specs.declared.discovery.FindServersRequest.{FindServersRequest}
use Rattle.ua_session_msgs.specs.declared.discovery.GetEndpointsRequest.{GetEndpointsRequest}
use Rattle.ua_sub_msgs.specs.declared.request.SubRequest.{SubRequest}
use Rattle.ua_sub_msgs.specs.declared.request.SubRequest.TheVariants as sub_request
use Rattle.ua_services.specs.declared.request.Request.{Request}
use Rattle.ua_services.specs.declared.request.Request.TheVariants as request
use Rattle.ua_services.specs.declared.request.RequestFault.{RequestFault}
use Rattle.ua_services.specs.declared.request.RequestFault.TheVariants as faults
use Rattle.ua_services.specs.Requests.{header_of, request_at, sub_header}
use Rattle.server_rules.specs.declared.conn.Asker.{Asker}
use Rattle.server_rules.specs.declared.conn.Conn.{Conn}
use Rattle.server_rules.specs.declared.opening.OpeningRequest.{OpeningRequest}
use Rattle.server_rules.specs.declared.opening.SecurityTokenRequestType.{SecurityTokenRequestType}
use Rattle.server_rules.specs.declared.opening.SecurityTokenRequestType.TheVariants as request_type
use Rattle.server_rules.specs.State.{ServerState, conn_at}
use Rattle.server_rules.specs.Said.{Did, nothing}
use Rattle.server_rules.specs.Answering.{faulted, takes}
use Rattle.server_rules.specs.Moves.{answered_queued, fed_with, gone, own_subs}
use Rattle.server_rules.specs.Opening.{asked_at, granted, granted_on, is_unsecured, issued, opened_as, opened_by, opened_for, opening, opening_reply, opening_response, security_mode_of, token_renewed, with_channel, with_next_channel}
use Rattle.server_rules.specs.Sessions.{activate_session, activation_answered, activation_done, all_gone, close_answered, close_session, create_session, created_response, creation_answered, find_servers, get_endpoints, ids_of, is_anonymous, session_activated, session_closed, session_created, session_timeout, token_at, with_session, without_owned, without_session}
use Rattle.server_rules.specs.Requests.{asked, asker_of, done_for, in_bound, in_session, noted, requested, served, session_served, sub_served, token_in}
use Rattle.server_rules.specs.Connecting.{acknowledged, closed, closed_by, closing, greeted_by, greeting, hears, hears_by, hears_on, is_above, is_small, opened, with_new_conn, without_conn}
use Rattle.server_rules.specs.Step.{Happening, Opens, Hears, Closes, Feeds, Ticks, Levels, after, ears, fed, heard, leveled}
use Rattle.server_laws.specs.Moves.{Answered, Answers, Asks, ChannelOpened, Enters, Issues, Token}
use Rattle.server_laws.specs.Course.{Comes, Issuing, Leave, Nothing, Reading, Repeating, leave_of, leave_of_heard, leave_of_request, leave_of_session, leave_of_sub}
use Rattle.server_laws.proofs.Coming.{begun_by, by_move, either, idle, still, then_comes}
use Rattle.server_laws.proofs.Replying.{answer_comes, fault_comes, quiet, refused_comes}
use Rattle.server_laws.proofs.Owning.{From, gone_from, queued_comes}
use Rattle.server_laws.proofs.Sending.{publish_comes}
use Rattle.server_laws.proofs.Ticking.{ticked_comes}
use Rattle.server_laws.proofs.Asking.{call_comes, create_items_comes, create_sub_comes, delete_items_comes, delete_subs_comes, modify_sub_comes, read_comes, republish_comes, set_modes_comes, set_publishing_comes, transfer_subs_comes}
use Rattle.server_laws.proofs.Within.{all_within}

-- ---- sessions

servers_comes : (leave : Leave) (asker : Asker) (r : FindServersRequest) (s : ServerState) → Comes leave s (find_servers asker r s)
unfolding find_servers
servers_comes leave asker r s = quiet leave asker _ s refl

endpoints_comes : (leave : Leave) (asker : Asker) (r : GetEndpointsRequest) (s : ServerState) → Comes leave s (get_endpoints asker r s)
unfolding get_endpoints
endpoints_comes leave asker r s = quiet leave asker _ s refl

created_comes : (leave : Leave) (asker : Asker) (uri : Option (List ℕ)) (timeout : ℕ) (s : ServerState) → is_full s.sessions ≡ false
    → Comes leave s (session_created asker uri timeout s)
unfolding creation_answered created_response
created_comes leave asker uri timeout s room =
    answer_comes leave (Asks (Create asker.conn uri timeout s.age)) s (with_session asker uri timeout s) asker _ tt tt (rw room refl) (rw room (all_within (Token (token_of s.config.boot (s.sessions.last_counter + 1)) ∷ [])))

create_session_comes : (leave : Leave) (asker : Asker) (r : CreateSessionRequest) (s : ServerState) → Comes leave s (create_session asker r s)
unfolding create_session
create_session_comes leave asker r s = by_room (is_full s.sessions) refl
  where
    by_room : (b : Bool) → is_full s.sessions ≡ b
        → Comes leave s (cond b (faulted asker bad_too_many_sessions s) (session_created asker r.client_description.application_uri (session_timeout r) s))
    by_room true is = fault_comes leave asker bad_too_many_sessions s
    by_room false is = created_comes leave asker r.client_description.application_uri (session_timeout r) s is

activation_comes : (leave : Leave) (asker : Asker) (result : Result ℕ SessionFault) (s : ServerState) → Comes leave s (activation_answered asker result s)
unfolding activation_done
activation_comes leave asker (Ok counter) s = quiet leave asker _ s refl
activation_comes leave asker (Err (session_fault.Code code)) s = fault_comes leave asker code s
activation_comes leave asker (Err session_fault.OutOfMemory) s = idle leave s

activated_comes : (leave : Leave) (asker : Asker) (token : Option (List ℕ)) (s : ServerState) → Comes leave s (session_activated asker token s)
unfolding session_activated
activated_comes leave asker token s =
    begun_by leave (Asks (Activate token asker.conn s.age)) s _ _ tt tt refl
    (activation_comes leave asker (activate_answer token asker.conn s.sessions) _)

activate_comes : (leave : Leave) (asker : Asker) (r : ActivateSessionRequest) (s : ServerState) → Comes leave s (activate_session asker r s)
unfolding activate_session
activate_comes leave asker r s =
    either leave (is_anonymous r.user_identity_token) s _ _ (activated_comes leave asker (token_at r.request_header.authentication_token) s)
    (fault_comes leave asker bad_identity_token_rejected s)

all_gone_from : (leave : Leave) (ids : List ℕ) (s : ServerState) → From leave s (all_gone ids s)
all_gone_from leave [] s did h = h
all_gone_from leave (id ∷ ids) s did h = gone_from leave id s did (all_gone_from leave ids (gone id s) did h)

without_owned_from : (leave : Leave) (deletes : Bool) (session : ℕ) (s : ServerState) → From leave s (without_owned deletes session s)
without_owned_from leave true session s did h = all_gone_from leave (ids_of (own_subs session s)) s did h
without_owned_from leave false session s did h = h

session_closed_comes : (leave : Leave) (asker : Asker) (deletes : Bool) (session : ℕ) (s : ServerState) → Comes leave s (session_closed asker deletes session s)
unfolding session_closed close_answered
session_closed_comes leave asker deletes session s =
    without_owned_from leave deletes session s _
    (begun_by leave (Asks (Close session)) (without_owned deletes session s) (without_session session (without_owned deletes session s)) _ tt tt refl
    (quiet leave asker _ _ refl))

close_session_comes : (leave : Leave) (asker : Asker) (session : ℕ) (r : CloseSessionRequest) (s : ServerState) → Comes leave s (close_session asker session r s)
unfolding close_session
close_session_comes leave asker session r s =
    then_comes leave s (session_closed asker r.delete_subscriptions session) (answered_queued bad_session_closed session s)
    (queued_comes leave bad_session_closed session s)
    (session_closed_comes leave asker r.delete_subscriptions session (answered_queued bad_session_closed session s).state)

-- ---- requests

noted_from : (leave : Leave) (asker : Asker) (token : Option (List ℕ)) (s : ServerState) → From leave s (noted asker token s)
noted_from leave asker token s did h = begun_by leave (Asks (Check token asker.conn s.age)) s (noted asker token s) did tt tt refl h

done_for_comes : (leave : Leave) (row : ℕ → ServerState → Did) (asker : Asker) (answer : Result ℕ ℕ) (s : ServerState)
    → ((session : ℕ) → Comes leave s (row session s)) → Comes leave s (done_for row asker answer s)
done_for_comes leave row asker (Ok session) s on = on session
done_for_comes leave row asker (Err code) s on = fault_comes leave asker code s

in_session_comes : (leave : Leave) (row : ℕ → ServerState → Did) (asker : Asker) (token : Option (List ℕ)) (s : ServerState)
    → ((session : ℕ) (t : ServerState) → Comes leave t (row session t)) → Comes leave s (in_session row asker token s)
in_session_comes leave row asker token s on =
    noted_from leave asker token s _
    (done_for_comes leave row asker (check_answer token asker.conn s.sessions) (noted asker token s) (λ session. on session (noted asker token s)))

in_bound_comes : (leave : Leave) (row : ℕ → ServerState → Did) (asker : Asker) (token : Option (List ℕ)) (s : ServerState)
    → ((session : ℕ) (t : ServerState) → Comes leave t (row session t)) → Comes leave s (in_bound row asker token s)
in_bound_comes leave row asker token s on =
    noted_from leave asker token s _
    (done_for_comes leave row asker (bound_answer token asker.conn s.sessions) (noted asker token s) (λ session. on session (noted asker token s)))

sub_served_comes : (asker : Asker) (r : SubRequest) (session : ℕ) (s : ServerState) → Comes (leave_of_sub r) s (sub_served asker r session s)
unfolding sub_served
sub_served_comes asker (sub_request.CreateMonitoredItems r) session s = create_items_comes asker session r s
sub_served_comes asker (sub_request.SetMonitoringMode r) session s = set_modes_comes asker session r s
sub_served_comes asker (sub_request.DeleteMonitoredItems r) session s = delete_items_comes Nothing asker session r s
sub_served_comes asker (sub_request.CreateSubscription r) session s = create_sub_comes Nothing asker session r s
sub_served_comes asker (sub_request.ModifySubscription r) session s = modify_sub_comes Nothing asker session r s
sub_served_comes asker (sub_request.SetPublishingMode r) session s = set_publishing_comes Nothing asker session r s
sub_served_comes asker (sub_request.Publish r) session s = publish_comes Nothing asker session r s
sub_served_comes asker (sub_request.Republish r) session s = republish_comes (Repeating r.subscription_id r.retransmit_sequence_number) asker session r s (refl, refl)
sub_served_comes asker (sub_request.TransferSubscriptions r) session s = transfer_subs_comes asker session r s
sub_served_comes asker (sub_request.DeleteSubscriptions r) session s = delete_subs_comes Nothing asker session r s

session_served_comes : (asker : Asker) (r : SessionRequest) (s : ServerState) → Comes (leave_of_session r) s (session_served asker r s)
unfolding session_served
session_served_comes asker (session_request.OpenSecureChannel r) s = fault_comes Nothing asker bad_service_unsupported s
session_served_comes asker (session_request.CloseSecureChannel r) s = fault_comes Nothing asker bad_service_unsupported s
session_served_comes asker (session_request.FindServers r) s = servers_comes Nothing asker r s
session_served_comes asker (session_request.GetEndpoints r) s = endpoints_comes Nothing asker r s
session_served_comes asker (session_request.CreateSession r) s = create_session_comes Nothing asker r s
session_served_comes asker (session_request.ActivateSession r) s = activate_comes Nothing asker r s
session_served_comes asker (session_request.CloseSession r) s = in_bound_comes Nothing _ asker (token_in r.request_header) s (λ session t. close_session_comes Nothing asker session r t)
session_served_comes asker (session_request.Read r) s = in_session_comes Reading _ asker (token_in r.request_header) s (λ session t. read_comes asker r t)
session_served_comes asker (session_request.Call r) s = in_session_comes Nothing _ asker (token_in r.request_header) s (λ session t. call_comes Nothing asker session r t)

served_comes : (asker : Asker) (r : Request) (s : ServerState) → Comes (leave_of_request (Ok r)) s (served asker r s)
unfolding served
served_comes asker (request.Session r) s = session_served_comes asker r s
served_comes asker (request.Subscription r) s =
    in_session_comes (leave_of_sub r) (sub_served asker r) asker (token_in (sub_header r)) s (λ session t. sub_served_comes asker r session t)

asked_comes : (conn number : ℕ) (r : Result Request RequestFault) (s : ServerState) → Comes (leave_of_request r) s (asked conn number r s)
asked_comes conn number (Ok r) s = served_comes (asker_of conn number (header_of r).request_handle) r s
asked_comes conn number (Err faults.Header) s = fault_comes Nothing (asker_of conn number 0) bad_decoding_error s
asked_comes conn number (Err (faults.Service handle)) s = fault_comes Nothing (asker_of conn number handle) bad_service_unsupported s
asked_comes conn number (Err (faults.Body handle)) s = fault_comes Nothing (asker_of conn number handle) bad_decoding_error s
asked_comes conn number (Err faults.OutOfMemory) s = idle Nothing s

requested_comes : (conn number : ℕ) (body : List ℕ) (s : ServerState) → Comes (leave_of_request (request_at body)) s (requested conn number body s)
unfolding requested
requested_comes conn number body s = asked_comes conn number (request_at body) s

-- ---- channels

granted_on_comes : (conn : Conn) (request : ℕ) (response : OpenSecureChannelResponse) (s : ServerState) → Comes Issuing s (granted_on conn request response s)
unfolding granted_on
granted_on_comes conn request response s =
    by_move Issuing (Answers (ChannelOpened response.security_token.channel_id)) s (granted_on conn request response s) tt tt refl (all_within (Answered (ChannelOpened response.security_token.channel_id) ∷ []))

granted_comes : (channel token : ℕ) (conn : Conn) (request : ℕ) (a : OpeningRequest) (s : ServerState) → Comes Issuing s (granted channel token conn request a s)
unfolding granted
granted_comes channel token conn request a s =
    either Issuing (takes conn (opening_reply (opening_response (with_channel channel token conn) a s))) s _ _
    (granted_on_comes (with_channel channel token conn) request (opening_response (with_channel channel token conn) a s) s)
    (refused_comes Issuing conn bad_tcp_message_too_large s)

issued_comes : (conn : Conn) (request : ℕ) (a : OpeningRequest) (s : ServerState) → Comes Issuing s (issued conn request a s)
unfolding issued
issued_comes conn request a s =
    begun_by Issuing Issues s (with_next_channel s) _ tt tt refl (granted_comes _ 1 conn request a (with_next_channel s))

renewed_comes : (conn : Conn) (request : ℕ) (a : OpeningRequest) (s : ServerState) → Comes Issuing s (token_renewed conn request a s)
unfolding token_renewed
renewed_comes conn request a s = granted_comes conn.channel _ conn request a s

opened_as_comes : (e : Ear) (t : Option SecurityTokenRequestType) (channel : ℕ) (conn : Conn) (request : ℕ) (a : OpeningRequest) (s : ServerState)
    → Comes Issuing s (opened_as e t channel conn request a s)
opened_as_comes ear.Opening (Some request_type.Issue) channel conn request a s = issued_comes conn request a s
opened_as_comes ear.Open (Some request_type.Renew) channel conn request a s =
    either Issuing _ s _ _ (renewed_comes conn request a s) (refused_comes Issuing conn bad_tcp_secure_channel_unknown s)
opened_as_comes _ _ channel conn request a s = refused_comes Issuing conn bad_tcp_secure_channel_unknown s

opened_for_comes : (channel : ℕ) (follows : Bool) (conn : Conn) (request : ℕ) (a : OpeningRequest) (s : ServerState)
    → Comes Issuing s (opened_for channel follows conn request a s)
unfolding opened_for
opened_for_comes channel follows conn request a s =
    either Issuing (not follows) s _ _ (refused_comes Issuing conn bad_sequence_number_invalid s)
    (either Issuing (not (is_unsecured (security_mode_of a.security_mode))) s _ _ (refused_comes Issuing conn bad_security_policy_rejected s)
    (opened_as_comes conn.ear _ channel conn request a s))

opened_by_comes : (a : Option OpeningRequest) (channel : ℕ) (follows : Bool) (conn : Conn) (request : ℕ) (s : ServerState)
    → Comes Issuing s (opened_by a channel follows conn request s)
opened_by_comes None channel follows conn request s = refused_comes Issuing conn bad_decoding_error s
opened_by_comes (Some a) channel follows conn request s = opened_for_comes channel follows conn request a s

opening_comes : (channel : ℕ) (follows : Bool) (request : ℕ) (body : List ℕ) (conn : Conn) (s : ServerState)
    → Comes Issuing s (opening channel follows request body conn s)
unfolding opening
opening_comes channel follows request body conn s = opened_by_comes (asked_at body) channel follows conn request s

-- ---- connections

acknowledged_comes : (leave : Leave) (hello : Greeting) (conn : Conn) (s : ServerState) → Comes leave s (acknowledged hello conn s)
unfolding acknowledged
acknowledged_comes leave hello conn s = still leave s _ _ refl refl

greeted_comes : (leave : Leave) (read : Result (Greeting × Option (List ℕ)) Fault) (conn : Conn) (s : ServerState) → Comes leave s (greeted_by read conn s)
greeted_comes leave (Ok hello) conn s =
    either leave (is_small hello.0) s _ _ (refused_comes leave conn bad_decoding_error s) (acknowledged_comes leave hello.0 conn s)
greeted_comes leave (Err fault) conn s = refused_comes leave conn bad_decoding_error s

greeting_comes : (leave : Leave) (body : List ℕ) (conn : Conn) (s : ServerState) → Comes leave s (greeting body conn s)
unfolding greeting
greeting_comes leave body conn s = greeted_comes leave (value_of (whole_at hello_at (input 0 body))) conn s

closing_comes : (leave : Leave) (conn : Conn) (s : ServerState) → Comes leave s (closing conn s)
unfolding closing
closing_comes leave conn s = still leave s _ _ refl refl

hears_on_comes : (h : Heard) (conn : Conn) (s : ServerState) → Comes (leave_of_heard h) s (hears_on h conn s)
hears_on_comes (heard_as.Greeting body) conn s = greeting_comes Nothing body conn s
hears_on_comes (heard_as.Opening channel follows request body) conn s = opening_comes channel follows request body conn s
hears_on_comes (heard_as.Message request body) conn s = requested_comes conn.number request body s
hears_on_comes heard_as.Close conn s = closing_comes Nothing conn s
hears_on_comes (heard_as.Fault code) conn s = refused_comes Nothing conn code s

hears_by_comes : (conn : Option Conn) (h : Heard) (s : ServerState) → Comes (leave_of_heard h) s (hears_by conn h s)
hears_by_comes None h s = idle (leave_of_heard h) s
hears_by_comes (Some conn) h s = hears_on_comes h conn s

hears_comes : (number : ℕ) (h : Heard) (s : ServerState) → Comes (leave_of_heard h) s (hears number h s)
unfolding hears
hears_comes number h s = hears_by_comes (conn_at number s.conns) h s

opened_comes : (leave : Leave) (number : ℕ) (s : ServerState) → Comes leave s (opened number s)
unfolding opened
opened_comes leave number s = either leave (is_above s.highest number) s _ _ (still leave s (with_new_conn number s) [] refl refl) (idle leave s)

closed_by_comes : (leave : Leave) (conn : Option Conn) (number : ℕ) (s : ServerState) → Comes leave s (closed_by conn number s)
closed_by_comes leave None number s = idle leave s
closed_by_comes leave (Some conn) number s =
    begun_by leave (Asks (Unbind number)) s (without_conn number s) _ tt tt refl (idle leave (without_conn number s))

closed_comes : (leave : Leave) (number : ℕ) (s : ServerState) → Comes leave s (closed number s)
unfolding closed
closed_comes leave number s = closed_by_comes leave (conn_at number s.conns) number s

-- ---- all that happens

heard_comes : (number : ℕ) (h : Heard) (s : ServerState) → Comes (leave_of_heard h) s (heard number h s)
unfolding heard
heard_comes number h s = either (leave_of_heard h) (is_deaf (ears number s)) s _ _ (idle (leave_of_heard h) s) (hears_comes number h s)

fed_comes : (change : Change) (s : ServerState) → Comes (leave_of (Feeds change)) s (fed change s)
unfolding fed
fed_comes change s = by_move (leave_of (Feeds change)) (Enters change) s (nothing (fed_with change s)) refl tt refl refl

leveled_comes : (leave : Leave) (level : ℕ) (s : ServerState) → Comes leave s (leveled level s)
unfolding leveled
leveled_comes leave level s = still leave s _ _ refl refl

pub after_comes : (happening : Happening) (s : ServerState) → Comes (leave_of happening) s (after happening s)
after_comes (Opens number) s = opened_comes Nothing number s
after_comes (Hears number h) s = heard_comes number h s
after_comes (Closes number) s = closed_comes Nothing number s
after_comes (Feeds change) s = fed_comes change s
after_comes (Ticks ms) s = ticked_comes Nothing ms s
after_comes (Levels level) s = leveled_comes Nothing level s
