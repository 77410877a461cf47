-- What Publish responses carry: the rules of services, of channels, and of connections.
use Rattle.std.proofs.Common.{ℕ, ◌+◌, ◌==◌, List, Bool, not, length, Option, Some, None}
use Rattle.std.specs.Prelude.{Result, Ok, Err}
use Rattle.ua_base.specs.Status.{bad_decoding_error, bad_identity_token_rejected, bad_security_policy_rejected, bad_sequence_number_invalid, bad_service_unsupported, bad_session_closed, bad_tcp_message_too_large, bad_tcp_secure_channel_unknown, bad_too_many_sessions}
use Rattle.ua_base.specs.Number.{after_message}
use Rattle.set_model.specs.declared.source.Change.{Change}
use Rattle.sessions.specs.Table.{activate_answer, activated, bound_answer, check_answer, is_full}
use Rattle.sessions.specs.declared.fault.SessionFault.{SessionFault}
use Rattle.sessions.specs.declared.fault.SessionFault.TheVariants as session_fault
use Rattle.ua_values.specs.Reading.{Fault, input}
use Rattle.ua_chunks.specs.Bodies.{hello_at, value_of, whole_at}
use Rattle.ua_chunks.specs.declared.greeting.Greeting.{Greeting}
use Rattle.ua_channel.specs.State.{is_deaf}
use Rattle.ua_channel.specs.declared.ear.Ear.{Ear}
use Rattle.ua_channel.specs.declared.ear.Ear.TheVariants as ear
use Rattle.ua_channel.specs.declared.heard.Heard.{Heard}
use Rattle.ua_channel.specs.declared.heard.Heard.TheVariants as heard_as
use Rattle.ua_structures.specs.declared.header.ResponseHeader.{ResponseHeader}
use Rattle.ua_session_msgs.specs.declared.attribute.ReadRequest.{ReadRequest}
use Rattle.ua_session_msgs.specs.declared.channel.OpenSecureChannelResponse.{OpenSecureChannelResponse}
use Rattle.ua_session_msgs.specs.declared.method.CallRequest.{CallRequest}
use Rattle.ua_session_msgs.specs.declared.discovery.FindServersRequest.{FindServersRequest}
use Rattle.ua_session_msgs.specs.declared.discovery.GetEndpointsRequest.{GetEndpointsRequest}
use Rattle.ua_session_msgs.specs.declared.session.ActivateSessionRequest.{ActivateSessionRequest}
use Rattle.ua_session_msgs.specs.declared.session.CloseSessionRequest.{CloseSessionRequest}
use Rattle.ua_session_msgs.specs.declared.session.CreateSessionRequest.{CreateSessionRequest}
use Rattle.ua_session_msgs.specs.declared.request.SessionRequest.{SessionRequest}
use Rattle.ua_session_msgs.specs.declared.request.SessionRequest.TheVariants as session_request
use Rattle.ua_sub_msgs.specs.declared.item.CreateMonitoredItemsRequest.{CreateMonitoredItemsRequest}
use Rattle.ua_sub_msgs.specs.declared.item.DeleteMonitoredItemsRequest.{DeleteMonitoredItemsRequest}
use Rattle.ua_sub_msgs.specs.declared.item.SetMonitoringModeRequest.{SetMonitoringModeRequest}
use Rattle.ua_sub_msgs.specs.declared.publish.RepublishRequest.{RepublishRequest}
use Rattle.ua_sub_msgs.specs.declared.subscription.CreateSubscriptionRequest.{CreateSubscriptionRequest}
use Rattle.ua_sub_msgs.specs.declared.subscription.DeleteSubscriptionsRequest.{DeleteSubscriptionsRequest}
use Rattle.ua_sub_msgs.specs.declared.subscription.ModifySubscriptionRequest.{ModifySubscriptionRequest}
use Rattle.ua_sub_msgs.specs.declared.subscription.SetPublishingModeRequest.{SetPublishingModeRequest}
use Rattle.ua_sub_msgs.specs.declared.subscription.TransferSubscriptionsRequest.{TransferSubscriptionsRequest}
use Rattle.ua_sub_msgs.specs.declared.request.SubRequest.{SubRequest}
use Rattle.ua_sub_msgs.specs.declared.request.SubRequest.TheVariants as sub_request
use Rattle.ua_services.specs.declared.reply.Reply.{Reply}
use Rattle.ua_services.specs.declared.request.Request.{Request}
use Rattle.ua_services.specs.declared.request.Request.TheVariants as request
use Rattle.ua_services.specs.declared.request.RequestFault.{RequestFault}
use Rattle.ua_services.specs.declared.request.RequestFault.TheVariants as faults
use Rattle.ua_services.specs.Requests.{header_of, request_at, sub_header}
use Rattle.subscription.specs.State.{SubState}
use Rattle.subscription.specs.Calls.{modified}
use Rattle.server_rules.specs.declared.conn.Asker.{Asker}
use Rattle.server_rules.specs.declared.conn.Conn.{Conn}
use Rattle.server_rules.specs.declared.opening.OpeningRequest.{OpeningRequest}
use Rattle.server_rules.specs.declared.opening.SecurityTokenRequestType.{SecurityTokenRequestType}
use Rattle.server_rules.specs.declared.opening.SecurityTokenRequestType.TheVariants as request_type
use Rattle.server_rules.specs.State.{ServerState, conn_at, with_sub}
use Rattle.server_rules.specs.Said.{Did, and_then, each}
use Rattle.server_rules.specs.Answering.{good_header, takes}
use Rattle.server_rules.specs.Moves.{answered_queued, queued}
use Rattle.server_rules.specs.Operations.{after_each, answered, answers, leaves, operations_fault, own_sub, passes}
use Rattle.server_rules.specs.Reading.{call, call_all, read, read_all, read_checked}
use Rattle.server_rules.specs.Items.{create_all, create_checked, create_items, delete_all, delete_checked, delete_items, modes_checked, set_all, set_modes, with_item, with_mode_set, without_item_of}
use Rattle.server_rules.specs.Subscriptions.{create_one, create_sub, delete_all as subs_deleted, delete_one, delete_subs, deleted_if, deleted_reply, enable_all, modify_checked, modify_one, modify_sub, new_checked, republish, republish_checked, republish_one, set_publishing, sub_known, transfer_all, transfer_one, transfer_reply, transfer_result, transfer_subs, with_new_sub, with_publishing}
use Rattle.server_rules.specs.Sessions.{activate_session, activation_answered, activation_done, close_answered, close_session, create_session, creation_answered, find_servers, get_endpoints, is_anonymous, session_activated, session_closed, session_timeout, token_at, with_session, without_owned, without_session}
use Rattle.server_rules.specs.Opening.{asked_at, granted, granted_on, is_unsecured, issued, opened_as, opened_by, opened_for, opening, opening_reply, opening_response, security_mode_of, token_renewed, with_channel, with_next_channel}
use Rattle.server_rules.specs.Requests.{asked, asker_of, done_for, in_bound, in_session, noted, requested, served, session_served, sub_served, token_in}
use Rattle.server_rules.specs.Connecting.{acknowledged, closed, closed_by, closing, greeted_by, greeting, hears, hears_by, hears_on, is_above, is_small, opened}
use Rattle.server_rules.specs.Step.{Happening, Opens, Hears, Closes, Feeds, Ticks, Levels, after, ears, fed, heard, leveled}
use Rattle.server_tellings.specs.Carried.{CarriesReply}
use Rattle.server_tellings.proofs.Carrying.{Carries, answered_carries, deleted_carries, done_carries, each_carries, either, fault_carries, publish_carries, refused_carries, replied_carries, then_carries, ticked_carries, transferred_carries}

-- ---- services of items and subscriptions

create_items_carries : (asker : Asker) (session : ℕ) (r : CreateMonitoredItemsRequest) (s : ServerState) → Carries (create_items asker session r s)
unfolding create_items
create_items_carries asker session r s =
    done_carries asker (create_all asker r.subscription_id r.items_to_create) (create_checked session r s) s
    (λ stamps. replied_carries asker _ (after_each (with_item r.subscription_id stamps) r.items_to_create s) tt)

set_modes_carries : (asker : Asker) (session : ℕ) (r : SetMonitoringModeRequest) (s : ServerState) → Carries (set_modes asker session r s)
unfolding set_modes
set_modes_carries asker session r s =
    done_carries asker (set_all asker r.subscription_id r.monitored_item_ids) (modes_checked session r s) s
    (λ mode. replied_carries asker _ (after_each (with_mode_set r.subscription_id mode) r.monitored_item_ids s) tt)

delete_items_carries : (asker : Asker) (session : ℕ) (r : DeleteMonitoredItemsRequest) (s : ServerState) → Carries (delete_items asker session r s)
unfolding delete_items
delete_items_carries asker session r s =
    done_carries asker (delete_all asker r.subscription_id r.monitored_item_ids) (delete_checked session r s) s
    (λ found. replied_carries asker _ (after_each (without_item_of r.subscription_id) r.monitored_item_ids s) tt)

create_sub_carries : (asker : Asker) (session : ℕ) (r : CreateSubscriptionRequest) (s : ServerState) → Carries (create_sub asker session r s)
unfolding create_sub
create_sub_carries asker session r s =
    done_carries asker (create_one asker session) (new_checked r s) s
    (λ spec. replied_carries asker _ (with_new_sub session spec s) tt)

modify_sub_carries : (asker : Asker) (session : ℕ) (r : ModifySubscriptionRequest) (s : ServerState) → Carries (modify_sub asker session r s)
unfolding modify_sub
modify_sub_carries asker session r s =
    done_carries asker (modify_one asker) (modify_checked session r s) s
    (λ spec. replied_carries asker _ (with_sub spec.id (modified spec s.age) s) tt)

set_publishing_carries : (asker : Asker) (session : ℕ) (r : SetPublishingModeRequest) (s : ServerState) → Carries (set_publishing asker session r s)
unfolding set_publishing
set_publishing_carries asker session r s =
    done_carries asker (enable_all asker session r.publishing_enabled r.subscription_ids) (passes (operations_fault (length r.subscription_ids))) s
    (λ found. replied_carries asker _ (after_each (with_publishing session r.publishing_enabled) r.subscription_ids s) tt)

republish_carries : (asker : Asker) (session : ℕ) (r : RepublishRequest) (s : ServerState) → Carries (republish asker session r s)
unfolding republish
republish_carries asker session r s = done_carries asker (republish_one asker) (republish_checked session r s) s (λ message. replied_carries asker _ s tt)

-- rules in turn, and an answer behind them
turns_carries : (asker : Asker) (answer : ResponseHeader → Reply) (rule : ℕ → ServerState → Did) (ids : List ℕ) (s : ServerState)
    → CarriesReply (answer (good_header asker.handle (each rule ids s).state)) → ((id : ℕ) (t : ServerState) → Carries (rule id t))
    → Carries (and_then (answered asker answer) (each rule ids s))
turns_carries asker answer rule ids s plain on =
    then_carries (answered asker answer) (each rule ids s) (each_carries rule ids s on)
    (replied_carries asker (answer (good_header asker.handle (each rule ids s).state)) (each rule ids s).state plain)

transfer_one_carries : (session id : ℕ) (s : ServerState) → Carries (transfer_one session id s)
unfolding transfer_one
transfer_one_carries session id s = transferred_carries id session s

transfer_subs_carries : (asker : Asker) (session : ℕ) (r : TransferSubscriptionsRequest) (s : ServerState) → Carries (transfer_subs asker session r s)
unfolding transfer_subs
transfer_subs_carries asker session r s =
    done_carries asker (transfer_all asker session r.subscription_ids) (passes (operations_fault (length r.subscription_ids))) s
    (λ found. turns_carries asker (transfer_reply (answers (transfer_result session) (leaves (transfer_one session)) r.subscription_ids s)) (transfer_one session)
    r.subscription_ids s tt (transfer_one_carries session))

deleted_if_carries : (found : Option SubState) (id : ℕ) (s : ServerState) → Carries (deleted_if found id s)
deleted_if_carries None id s = tt
deleted_if_carries (Some sub) id s = deleted_carries id s

delete_one_carries : (session id : ℕ) (s : ServerState) → Carries (delete_one session id s)
unfolding delete_one
delete_one_carries session id s = deleted_if_carries (own_sub session id s) id s

delete_subs_carries : (asker : Asker) (session : ℕ) (r : DeleteSubscriptionsRequest) (s : ServerState) → Carries (delete_subs asker session r s)
unfolding delete_subs
delete_subs_carries asker session r s =
    done_carries asker (subs_deleted asker session r.subscription_ids) (passes (operations_fault (length r.subscription_ids))) s
    (λ found. turns_carries asker (deleted_reply (answers (sub_known session) (leaves (delete_one session)) r.subscription_ids s)) (delete_one session)
    r.subscription_ids s tt (delete_one_carries session))

-- ---- sessions

read_carries : (asker : Asker) (r : ReadRequest) (s : ServerState) → Carries (read asker r s)
unfolding read
read_carries asker r s = done_carries asker (read_all asker r.nodes_to_read) (read_checked r) s (λ stamps. replied_carries asker _ s tt)

call_carries : (asker : Asker) (session : ℕ) (r : CallRequest) (s : ServerState) → Carries (call asker session r s)
unfolding call
call_carries asker session r s =
    done_carries asker (call_all asker session r.methods_to_call) (passes (operations_fault (length r.methods_to_call))) s (λ found. replied_carries asker _ s tt)

servers_carries : (asker : Asker) (r : FindServersRequest) (s : ServerState) → Carries (find_servers asker r s)
unfolding find_servers
servers_carries asker r s = replied_carries asker _ s tt

endpoints_carries : (asker : Asker) (r : GetEndpointsRequest) (s : ServerState) → Carries (get_endpoints asker r s)
unfolding get_endpoints
endpoints_carries asker r s = replied_carries asker _ s tt

creation_carries : (asker : Asker) (counter timeout : ℕ) (s : ServerState) → Carries (creation_answered asker counter timeout s)
unfolding creation_answered
creation_carries asker counter timeout s = replied_carries asker _ s tt

create_session_carries : (asker : Asker) (r : CreateSessionRequest) (s : ServerState) → Carries (create_session asker r s)
unfolding create_session
create_session_carries asker r s =
    either (is_full s.sessions) _ _ (fault_carries asker bad_too_many_sessions s)
    (creation_carries asker (s.sessions.last_counter + 1) (session_timeout r) (with_session asker r.client_description.application_uri (session_timeout r) s))

activation_carries : (asker : Asker) (result : Result ℕ SessionFault) (s : ServerState) → Carries (activation_answered asker result s)
unfolding activation_done
activation_carries asker (Ok counter) s = replied_carries asker _ s tt
activation_carries asker (Err (session_fault.Code code)) s = fault_carries asker code s
activation_carries asker (Err session_fault.OutOfMemory) s = tt

activated_carries : (asker : Asker) (token : Option (List ℕ)) (s : ServerState) → Carries (session_activated asker token s)
unfolding session_activated
activated_carries asker token s =
    activation_carries asker (activate_answer token asker.conn s.sessions) (record s { sessions = activated token asker.conn s.age s.sessions })

activate_carries : (asker : Asker) (r : ActivateSessionRequest) (s : ServerState) → Carries (activate_session asker r s)
unfolding activate_session
activate_carries asker r s =
    either (is_anonymous r.user_identity_token) _ _ (activated_carries asker (token_at r.request_header.authentication_token) s)
    (fault_carries asker bad_identity_token_rejected s)

session_closed_carries : (asker : Asker) (deletes : Bool) (session : ℕ) (s : ServerState) → Carries (session_closed asker deletes session s)
unfolding session_closed close_answered
session_closed_carries asker deletes session s =
    replied_carries asker _ (without_session session (without_owned deletes session s)) tt

close_session_carries : (asker : Asker) (session : ℕ) (r : CloseSessionRequest) (s : ServerState) → Carries (close_session asker session r s)
unfolding close_session
close_session_carries asker session r s =
    then_carries (session_closed asker r.delete_subscriptions session) (answered_queued bad_session_closed session s)
    (answered_carries (queued session s) bad_session_closed session s)
    (session_closed_carries asker r.delete_subscriptions session (answered_queued bad_session_closed session s).state)

-- ---- requests

done_for_carries : (row : ℕ → ServerState → Did) (asker : Asker) (answer : Result ℕ ℕ) (s : ServerState)
    → ((session : ℕ) (t : ServerState) → Carries (row session t)) → Carries (done_for row asker answer s)
done_for_carries row asker (Ok session) s on = on session s
done_for_carries row asker (Err code) s on = fault_carries asker code s

in_session_carries : (row : ℕ → ServerState → Did) (asker : Asker) (token : Option (List ℕ)) (s : ServerState)
    → ((session : ℕ) (t : ServerState) → Carries (row session t)) → Carries (in_session row asker token s)
in_session_carries row asker token s on = done_for_carries row asker (check_answer token asker.conn s.sessions) (noted asker token s) on

in_bound_carries : (row : ℕ → ServerState → Did) (asker : Asker) (token : Option (List ℕ)) (s : ServerState)
    → ((session : ℕ) (t : ServerState) → Carries (row session t)) → Carries (in_bound row asker token s)
in_bound_carries row asker token s on = done_for_carries row asker (bound_answer token asker.conn s.sessions) (noted asker token s) on

sub_served_carries : (asker : Asker) (r : SubRequest) (session : ℕ) (s : ServerState) → Carries (sub_served asker r session s)
unfolding sub_served
sub_served_carries asker (sub_request.CreateMonitoredItems r) session s = create_items_carries asker session r s
sub_served_carries asker (sub_request.SetMonitoringMode r) session s = set_modes_carries asker session r s
sub_served_carries asker (sub_request.DeleteMonitoredItems r) session s = delete_items_carries asker session r s
sub_served_carries asker (sub_request.CreateSubscription r) session s = create_sub_carries asker session r s
sub_served_carries asker (sub_request.ModifySubscription r) session s = modify_sub_carries asker session r s
sub_served_carries asker (sub_request.SetPublishingMode r) session s = set_publishing_carries asker session r s
sub_served_carries asker (sub_request.Publish r) session s = publish_carries asker session r s
sub_served_carries asker (sub_request.Republish r) session s = republish_carries asker session r s
sub_served_carries asker (sub_request.TransferSubscriptions r) session s = transfer_subs_carries asker session r s
sub_served_carries asker (sub_request.DeleteSubscriptions r) session s = delete_subs_carries asker session r s

session_served_carries : (asker : Asker) (r : SessionRequest) (s : ServerState) → Carries (session_served asker r s)
unfolding session_served
session_served_carries asker (session_request.OpenSecureChannel r) s = fault_carries asker bad_service_unsupported s
session_served_carries asker (session_request.CloseSecureChannel r) s = fault_carries asker bad_service_unsupported s
session_served_carries asker (session_request.FindServers r) s = servers_carries asker r s
session_served_carries asker (session_request.GetEndpoints r) s = endpoints_carries asker r s
session_served_carries asker (session_request.CreateSession r) s = create_session_carries asker r s
session_served_carries asker (session_request.ActivateSession r) s = activate_carries asker r s
session_served_carries asker (session_request.CloseSession r) s =
    in_bound_carries (λ session. close_session asker session r) asker (token_in r.request_header) s (λ session t. close_session_carries asker session r t)
session_served_carries asker (session_request.Read r) s =
    in_session_carries (λ session. read asker r) asker (token_in r.request_header) s (λ session t. read_carries asker r t)
session_served_carries asker (session_request.Call r) s =
    in_session_carries (λ session. call asker session r) asker (token_in r.request_header) s (λ session t. call_carries asker session r t)

served_carries : (asker : Asker) (r : Request) (s : ServerState) → Carries (served asker r s)
unfolding served
served_carries asker (request.Session r) s = session_served_carries asker r s
served_carries asker (request.Subscription r) s = in_session_carries (sub_served asker r) asker (token_in (sub_header r)) s (sub_served_carries asker r)

asked_carries : (conn number : ℕ) (r : Result Request RequestFault) (s : ServerState) → Carries (asked conn number r s)
asked_carries conn number (Ok r) s = served_carries (asker_of conn number (header_of r).request_handle) r s
asked_carries conn number (Err faults.Header) s = fault_carries (asker_of conn number 0) bad_decoding_error s
asked_carries conn number (Err (faults.Service handle)) s = fault_carries (asker_of conn number handle) bad_service_unsupported s
asked_carries conn number (Err (faults.Body handle)) s = fault_carries (asker_of conn number handle) bad_decoding_error s
asked_carries conn number (Err faults.OutOfMemory) s = tt

requested_carries : (conn number : ℕ) (body : List ℕ) (s : ServerState) → Carries (requested conn number body s)
unfolding requested
requested_carries conn number body s = asked_carries conn number (request_at body) s

-- ---- channels

granted_on_carries : (conn : Conn) (number : ℕ) (response : OpenSecureChannelResponse) (s : ServerState) → Carries (granted_on conn number response s)
unfolding granted_on
granted_on_carries conn number response s = (tt, (tt, tt))

granted_carries : (channel token : ℕ) (conn : Conn) (number : ℕ) (a : OpeningRequest) (s : ServerState) → Carries (granted channel token conn number a s)
unfolding granted
granted_carries channel token conn number a s =
    let new : Conn = with_channel channel token conn in
    either (takes conn (opening_reply (opening_response new a s))) _ _ (granted_on_carries new number (opening_response new a s) s)
    (refused_carries conn bad_tcp_message_too_large s)

issued_carries : (conn : Conn) (number : ℕ) (a : OpeningRequest) (s : ServerState) → Carries (issued conn number a s)
unfolding issued
issued_carries conn number a s = granted_carries (after_message s.channels_given) 1 conn number a (with_next_channel s)

renewed_carries : (conn : Conn) (number : ℕ) (a : OpeningRequest) (s : ServerState) → Carries (token_renewed conn number a s)
unfolding token_renewed
renewed_carries conn number a s = granted_carries conn.channel (after_message conn.token) conn number a s

opened_as_carries : (e : Ear) (t : Option SecurityTokenRequestType) (channel : ℕ) (conn : Conn) (number : ℕ) (a : OpeningRequest) (s : ServerState)
    → Carries (opened_as e t channel conn number a s)
opened_as_carries ear.Opening (Some request_type.Issue) channel conn number a s = issued_carries conn number a s
opened_as_carries ear.Open (Some request_type.Renew) channel conn number a s =
    either (channel == conn.channel) _ _ (renewed_carries conn number a s) (refused_carries conn bad_tcp_secure_channel_unknown s)
opened_as_carries _ _ channel conn number a s = refused_carries conn bad_tcp_secure_channel_unknown s

opened_for_carries : (channel : ℕ) (follows : Bool) (conn : Conn) (number : ℕ) (a : OpeningRequest) (s : ServerState)
    → Carries (opened_for channel follows conn number a s)
unfolding opened_for
opened_for_carries channel follows conn number a s =
    either (not follows) _ _ (refused_carries conn bad_sequence_number_invalid s)
    (either (not (is_unsecured (security_mode_of a.security_mode))) _ _ (refused_carries conn bad_security_policy_rejected s)
    (opened_as_carries conn.ear _ channel conn number a s))

opened_by_carries : (a : Option OpeningRequest) (channel : ℕ) (follows : Bool) (conn : Conn) (number : ℕ) (s : ServerState)
    → Carries (opened_by a channel follows conn number s)
opened_by_carries None channel follows conn number s = refused_carries conn bad_decoding_error s
opened_by_carries (Some a) channel follows conn number s = opened_for_carries channel follows conn number a s

opening_carries : (channel : ℕ) (follows : Bool) (number : ℕ) (body : List ℕ) (conn : Conn) (s : ServerState) → Carries (opening channel follows number body conn s)
unfolding opening
opening_carries channel follows number body conn s = opened_by_carries (asked_at body) channel follows conn number s

-- ---- connections

acknowledged_carries : (hello : Greeting) (conn : Conn) (s : ServerState) → Carries (acknowledged hello conn s)
unfolding acknowledged
acknowledged_carries hello conn s = (tt, (tt, tt))

greeted_carries : (found : Result (Greeting × Option (List ℕ)) Fault) (conn : Conn) (s : ServerState) → Carries (greeted_by found conn s)
greeted_carries (Ok hello) conn s = either (is_small hello.0) _ _ (refused_carries conn bad_decoding_error s) (acknowledged_carries hello.0 conn s)
greeted_carries (Err fault) conn s = refused_carries conn bad_decoding_error s

greeting_carries : (body : List ℕ) (conn : Conn) (s : ServerState) → Carries (greeting body conn s)
unfolding greeting
greeting_carries body conn s = greeted_carries (value_of (whole_at hello_at (input 0 body))) conn s

closing_carries : (conn : Conn) (s : ServerState) → Carries (closing conn s)
unfolding closing
closing_carries conn s = tt

hears_on_carries : (h : Heard) (conn : Conn) (s : ServerState) → Carries (hears_on h conn s)
hears_on_carries (heard_as.Greeting body) conn s = greeting_carries body conn s
hears_on_carries (heard_as.Opening channel follows number body) conn s = opening_carries channel follows number body conn s
hears_on_carries (heard_as.Message number body) conn s = requested_carries conn.number number body s
hears_on_carries heard_as.Close conn s = closing_carries conn s
hears_on_carries (heard_as.Fault code) conn s = refused_carries conn code s

hears_by_carries : (conn : Option Conn) (h : Heard) (s : ServerState) → Carries (hears_by conn h s)
hears_by_carries None h s = tt
hears_by_carries (Some conn) h s = hears_on_carries h conn s

hears_carries : (number : ℕ) (h : Heard) (s : ServerState) → Carries (hears number h s)
unfolding hears
hears_carries number h s = hears_by_carries (conn_at number s.conns) h s

opened_carries : (number : ℕ) (s : ServerState) → Carries (opened number s)
unfolding opened
opened_carries number s = either (is_above s.highest number) _ _ tt tt

closed_by_carries : (conn : Option Conn) (number : ℕ) (s : ServerState) → Carries (closed_by conn number s)
closed_by_carries None number s = tt
closed_by_carries (Some conn) number s = tt

closed_carries : (number : ℕ) (s : ServerState) → Carries (closed number s)
unfolding closed
closed_carries number s = closed_by_carries (conn_at number s.conns) number s

-- ---- all that happens

heard_carries : (number : ℕ) (h : Heard) (s : ServerState) → Carries (heard number h s)
unfolding heard
heard_carries number h s = either (is_deaf (ears number s)) _ _ tt (hears_carries number h s)

fed_carries : (change : Change) (s : ServerState) → Carries (fed change s)
unfolding fed
fed_carries change s = tt

leveled_carries : (level : ℕ) (s : ServerState) → Carries (leveled level s)
unfolding leveled
leveled_carries level s = tt

pub step_carries : (happening : Happening) (s : ServerState) → Carries (after happening s)
step_carries (Opens number) s = opened_carries number s
step_carries (Hears number h) s = heard_carries number h s
step_carries (Closes number) s = closed_carries number s
step_carries (Feeds change) s = fed_carries change s
step_carries (Ticks ms) s = ticked_carries ms s
step_carries (Levels level) s = leveled_carries level s
