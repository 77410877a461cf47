-- Where no Read response is said: the rules of services, of channels, and of connections.
use Rattle.std.proofs.Common.{ℕ, ◌+◌, ◌==◌, List, Bool, not, length, Option, Some, None}
use Rattle.std.specs.Prelude.{Result, Ok, Err}
use Rattle.ua_base.specs.Status.{bad_decoding_error, bad_identity_token_rejected, bad_security_policy_rejected, bad_sequence_number_invalid, bad_session_closed, bad_tcp_message_too_large, bad_tcp_secure_channel_unknown, bad_too_many_sessions}
use Rattle.ua_base.specs.Number.{after_message}
use Rattle.sessions.specs.Table.{activate_answer, activated, bound_answer, check_answer, is_full}
use Rattle.sessions.specs.declared.fault.SessionFault.{SessionFault}
use Rattle.sessions.specs.declared.fault.SessionFault.TheVariants as session_fault
use Rattle.ua_values.specs.Reading.{Fault, input}
use Rattle.ua_chunks.specs.Bodies.{hello_at, value_of, whole_at}
use Rattle.ua_chunks.specs.declared.greeting.Greeting.{Greeting}
use Rattle.ua_channel.specs.declared.ear.Ear.{Ear}
use Rattle.ua_channel.specs.declared.ear.Ear.TheVariants as ear
use Rattle.ua_structures.specs.declared.header.ResponseHeader.{ResponseHeader}
use Rattle.ua_session_msgs.specs.declared.channel.OpenSecureChannelResponse.{OpenSecureChannelResponse}
use Rattle.ua_session_msgs.specs.declared.method.CallRequest.{CallRequest}
use Rattle.ua_session_msgs.specs.declared.discovery.FindServersRequest.{FindServersRequest}
use Rattle.ua_session_msgs.specs.declared.discovery.GetEndpointsRequest.{GetEndpointsRequest}
use Rattle.ua_session_msgs.specs.declared.session.ActivateSessionRequest.{ActivateSessionRequest}
use Rattle.ua_session_msgs.specs.declared.session.CloseSessionRequest.{CloseSessionRequest}
use Rattle.ua_session_msgs.specs.declared.session.CreateSessionRequest.{CreateSessionRequest}
use Rattle.ua_sub_msgs.specs.declared.item.CreateMonitoredItemsRequest.{CreateMonitoredItemsRequest}
use Rattle.ua_sub_msgs.specs.declared.item.DeleteMonitoredItemsRequest.{DeleteMonitoredItemsRequest}
use Rattle.ua_sub_msgs.specs.declared.item.SetMonitoringModeRequest.{SetMonitoringModeRequest}
use Rattle.ua_sub_msgs.specs.declared.publish.RepublishRequest.{RepublishRequest}
use Rattle.ua_sub_msgs.specs.declared.subscription.CreateSubscriptionRequest.{CreateSubscriptionRequest}
use Rattle.ua_sub_msgs.specs.declared.subscription.DeleteSubscriptionsRequest.{DeleteSubscriptionsRequest}
use Rattle.ua_sub_msgs.specs.declared.subscription.ModifySubscriptionRequest.{ModifySubscriptionRequest}
use Rattle.ua_sub_msgs.specs.declared.subscription.SetPublishingModeRequest.{SetPublishingModeRequest}
use Rattle.ua_sub_msgs.specs.declared.subscription.TransferSubscriptionsRequest.{TransferSubscriptionsRequest}
use Rattle.ua_sub_msgs.specs.declared.request.SubRequest.{SubRequest}
use Rattle.ua_sub_msgs.specs.declared.request.SubRequest.TheVariants as sub_request
use Rattle.ua_services.specs.declared.reply.Reply.{Reply}
use Rattle.subscription.specs.State.{SubState}
use Rattle.subscription.specs.Calls.{modified}
use Rattle.server_rules.specs.declared.conn.Asker.{Asker}
use Rattle.server_rules.specs.declared.conn.Conn.{Conn}
use Rattle.server_rules.specs.declared.opening.OpeningRequest.{OpeningRequest}
use Rattle.server_rules.specs.declared.opening.SecurityTokenRequestType.{SecurityTokenRequestType}
use Rattle.server_rules.specs.declared.opening.SecurityTokenRequestType.TheVariants as request_type
use Rattle.server_rules.specs.State.{ServerState, conn_at, with_sub}
use Rattle.server_rules.specs.Said.{Did, and_then, each}
use Rattle.server_rules.specs.Answering.{good_header, takes}
use Rattle.server_rules.specs.Moves.{answered_queued, queued}
use Rattle.server_rules.specs.Operations.{after_each, answered, answers, leaves, operations_fault, own_sub, passes}
use Rattle.server_rules.specs.Reading.{call, call_all}
use Rattle.server_rules.specs.Items.{create_all, create_checked, create_items, delete_all, delete_checked, delete_items, modes_checked, set_all, set_modes, with_item, with_mode_set, without_item_of}
use Rattle.server_rules.specs.Subscriptions.{create_one, create_sub, delete_all as subs_deleted, delete_one, delete_subs, deleted_if, deleted_reply, enable_all, modify_checked, modify_one, modify_sub, new_checked, republish, republish_checked, republish_one, set_publishing, sub_known, transfer_all, transfer_one, transfer_reply, transfer_result, transfer_subs, with_new_sub, with_publishing}
use Rattle.server_rules.specs.Sessions.{activate_session, activation_answered, activation_done, close_answered, close_session, create_session, creation_answered, find_servers, get_endpoints, is_anonymous, session_activated, session_closed, session_timeout, token_at, with_session, without_owned, without_session}
use Rattle.server_rules.specs.Opening.{asked_at, granted, granted_on, is_unsecured, issued, opened_as, opened_by, opened_for, opening, opening_reply, opening_response, security_mode_of, token_renewed, with_channel, with_next_channel}
use Rattle.server_rules.specs.Requests.{done_for, in_bound, in_session, noted, sub_served}
use Rattle.server_rules.specs.Connecting.{acknowledged, closed, closed_by, closing, greeted_by, greeting, is_above, is_small, opened}
use Rattle.level_readings.proofs.Quieting.{IsOtherReply, IsQuiet, answered_quiet, deleted_quiet, done_quiet, each_quiet, either, fault_quiet, publish_quiet, refused_quiet, replied_quiet, then_quiet, transferred_quiet}

-- ---- services of items and subscriptions

create_items_quiet : (asker : Asker) (session : ℕ) (r : CreateMonitoredItemsRequest) (s : ServerState) → IsQuiet (create_items asker session r s)
unfolding create_items
create_items_quiet asker session r s =
    done_quiet asker (create_all asker r.subscription_id r.items_to_create) (create_checked session r s) s
    (λ stamps. replied_quiet asker _ (after_each (with_item r.subscription_id stamps) r.items_to_create s) tt)

set_modes_quiet : (asker : Asker) (session : ℕ) (r : SetMonitoringModeRequest) (s : ServerState) → IsQuiet (set_modes asker session r s)
unfolding set_modes
set_modes_quiet asker session r s =
    done_quiet asker (set_all asker r.subscription_id r.monitored_item_ids) (modes_checked session r s) s
    (λ mode. replied_quiet asker _ (after_each (with_mode_set r.subscription_id mode) r.monitored_item_ids s) tt)

delete_items_quiet : (asker : Asker) (session : ℕ) (r : DeleteMonitoredItemsRequest) (s : ServerState) → IsQuiet (delete_items asker session r s)
unfolding delete_items
delete_items_quiet asker session r s =
    done_quiet asker (delete_all asker r.subscription_id r.monitored_item_ids) (delete_checked session r s) s
    (λ found. replied_quiet asker _ (after_each (without_item_of r.subscription_id) r.monitored_item_ids s) tt)

create_sub_quiet : (asker : Asker) (session : ℕ) (r : CreateSubscriptionRequest) (s : ServerState) → IsQuiet (create_sub asker session r s)
unfolding create_sub
create_sub_quiet asker session r s =
    done_quiet asker (create_one asker session) (new_checked r s) s
    (λ spec. replied_quiet asker _ (with_new_sub session spec s) tt)

modify_sub_quiet : (asker : Asker) (session : ℕ) (r : ModifySubscriptionRequest) (s : ServerState) → IsQuiet (modify_sub asker session r s)
unfolding modify_sub
modify_sub_quiet asker session r s =
    done_quiet asker (modify_one asker) (modify_checked session r s) s
    (λ spec. replied_quiet asker _ (with_sub spec.id (modified spec s.age) s) tt)

set_publishing_quiet : (asker : Asker) (session : ℕ) (r : SetPublishingModeRequest) (s : ServerState) → IsQuiet (set_publishing asker session r s)
unfolding set_publishing
set_publishing_quiet asker session r s =
    done_quiet asker (enable_all asker session r.publishing_enabled r.subscription_ids) (passes (operations_fault (length r.subscription_ids))) s
    (λ found. replied_quiet asker _ (after_each (with_publishing session r.publishing_enabled) r.subscription_ids s) tt)

republish_quiet : (asker : Asker) (session : ℕ) (r : RepublishRequest) (s : ServerState) → IsQuiet (republish asker session r s)
unfolding republish
republish_quiet asker session r s = done_quiet asker (republish_one asker) (republish_checked session r s) s (λ message. replied_quiet asker _ s tt)

-- rules in turn, and an answer behind them
turns_quiet : (asker : Asker) (answer : ResponseHeader → Reply) (rule : ℕ → ServerState → Did) (ids : List ℕ) (s : ServerState)
    → IsOtherReply (answer (good_header asker.handle (each rule ids s).state)) → ((id : ℕ) (t : ServerState) → IsQuiet (rule id t))
    → IsQuiet (and_then (answered asker answer) (each rule ids s))
turns_quiet asker answer rule ids s plain on =
    then_quiet (answered asker answer) (each rule ids s) (each_quiet rule ids s on)
    (replied_quiet asker (answer (good_header asker.handle (each rule ids s).state)) (each rule ids s).state plain)

transfer_one_quiet : (session id : ℕ) (s : ServerState) → IsQuiet (transfer_one session id s)
unfolding transfer_one
transfer_one_quiet session id s = transferred_quiet id session s

transfer_subs_quiet : (asker : Asker) (session : ℕ) (r : TransferSubscriptionsRequest) (s : ServerState) → IsQuiet (transfer_subs asker session r s)
unfolding transfer_subs
transfer_subs_quiet asker session r s =
    done_quiet asker (transfer_all asker session r.subscription_ids) (passes (operations_fault (length r.subscription_ids))) s
    (λ found. turns_quiet asker (transfer_reply (answers (transfer_result session) (leaves (transfer_one session)) r.subscription_ids s)) (transfer_one session)
    r.subscription_ids s tt (transfer_one_quiet session))

deleted_if_quiet : (found : Option SubState) (id : ℕ) (s : ServerState) → IsQuiet (deleted_if found id s)
deleted_if_quiet None id s = tt
deleted_if_quiet (Some sub) id s = deleted_quiet id s

delete_one_quiet : (session id : ℕ) (s : ServerState) → IsQuiet (delete_one session id s)
unfolding delete_one
delete_one_quiet session id s = deleted_if_quiet (own_sub session id s) id s

delete_subs_quiet : (asker : Asker) (session : ℕ) (r : DeleteSubscriptionsRequest) (s : ServerState) → IsQuiet (delete_subs asker session r s)
unfolding delete_subs
delete_subs_quiet asker session r s =
    done_quiet asker (subs_deleted asker session r.subscription_ids) (passes (operations_fault (length r.subscription_ids))) s
    (λ found. turns_quiet asker (deleted_reply (answers (sub_known session) (leaves (delete_one session)) r.subscription_ids s)) (delete_one session)
    r.subscription_ids s tt (delete_one_quiet session))

-- ---- sessions

pub call_quiet : (asker : Asker) (session : ℕ) (r : CallRequest) (s : ServerState) → IsQuiet (call asker session r s)
unfolding call
call_quiet asker session r s =
    done_quiet asker (call_all asker session r.methods_to_call) (passes (operations_fault (length r.methods_to_call))) s (λ found. replied_quiet asker _ s tt)

pub servers_quiet : (asker : Asker) (r : FindServersRequest) (s : ServerState) → IsQuiet (find_servers asker r s)
unfolding find_servers
servers_quiet asker r s = replied_quiet asker _ s tt

pub endpoints_quiet : (asker : Asker) (r : GetEndpointsRequest) (s : ServerState) → IsQuiet (get_endpoints asker r s)
unfolding get_endpoints
endpoints_quiet asker r s = replied_quiet asker _ s tt

creation_quiet : (asker : Asker) (counter timeout : ℕ) (s : ServerState) → IsQuiet (creation_answered asker counter timeout s)
unfolding creation_answered
creation_quiet asker counter timeout s = replied_quiet asker _ s tt

pub create_session_quiet : (asker : Asker) (r : CreateSessionRequest) (s : ServerState) → IsQuiet (create_session asker r s)
unfolding create_session
create_session_quiet asker r s =
    either (is_full s.sessions) _ _ (fault_quiet asker bad_too_many_sessions s)
    (creation_quiet asker (s.sessions.last_counter + 1) (session_timeout r) (with_session asker r.client_description.application_uri (session_timeout r) s))

activation_quiet : (asker : Asker) (result : Result ℕ SessionFault) (s : ServerState) → IsQuiet (activation_answered asker result s)
unfolding activation_done
activation_quiet asker (Ok counter) s = replied_quiet asker _ s tt
activation_quiet asker (Err (session_fault.Code code)) s = fault_quiet asker code s
activation_quiet asker (Err session_fault.OutOfMemory) s = tt

activated_quiet : (asker : Asker) (token : Option (List ℕ)) (s : ServerState) → IsQuiet (session_activated asker token s)
unfolding session_activated
activated_quiet asker token s =
    activation_quiet asker (activate_answer token asker.conn s.sessions) (record s { sessions = activated token asker.conn s.age s.sessions })

pub activate_quiet : (asker : Asker) (r : ActivateSessionRequest) (s : ServerState) → IsQuiet (activate_session asker r s)
unfolding activate_session
activate_quiet asker r s =
    either (is_anonymous r.user_identity_token) _ _ (activated_quiet asker (token_at r.request_header.authentication_token) s)
    (fault_quiet asker bad_identity_token_rejected s)

session_closed_quiet : (asker : Asker) (deletes : Bool) (session : ℕ) (s : ServerState) → IsQuiet (session_closed asker deletes session s)
unfolding session_closed close_answered
session_closed_quiet asker deletes session s =
    replied_quiet asker _ (without_session session (without_owned deletes session s)) tt

pub close_session_quiet : (asker : Asker) (session : ℕ) (r : CloseSessionRequest) (s : ServerState) → IsQuiet (close_session asker session r s)
unfolding close_session
close_session_quiet asker session r s =
    then_quiet (session_closed asker r.delete_subscriptions session) (answered_queued bad_session_closed session s)
    (answered_quiet (queued session s) bad_session_closed session s)
    (session_closed_quiet asker r.delete_subscriptions session (answered_queued bad_session_closed session s).state)

-- ---- requests

done_for_quiet : (row : ℕ → ServerState → Did) (asker : Asker) (answer : Result ℕ ℕ) (s : ServerState)
    → ((session : ℕ) (t : ServerState) → IsQuiet (row session t)) → IsQuiet (done_for row asker answer s)
done_for_quiet row asker (Ok session) s on = on session s
done_for_quiet row asker (Err code) s on = fault_quiet asker code s

pub in_session_quiet : (row : ℕ → ServerState → Did) (asker : Asker) (token : Option (List ℕ)) (s : ServerState)
    → ((session : ℕ) (t : ServerState) → IsQuiet (row session t)) → IsQuiet (in_session row asker token s)
in_session_quiet row asker token s on = done_for_quiet row asker (check_answer token asker.conn s.sessions) (noted asker token s) on

pub in_bound_quiet : (row : ℕ → ServerState → Did) (asker : Asker) (token : Option (List ℕ)) (s : ServerState)
    → ((session : ℕ) (t : ServerState) → IsQuiet (row session t)) → IsQuiet (in_bound row asker token s)
in_bound_quiet row asker token s on = done_for_quiet row asker (bound_answer token asker.conn s.sessions) (noted asker token s) on

pub sub_served_quiet : (asker : Asker) (r : SubRequest) (session : ℕ) (s : ServerState) → IsQuiet (sub_served asker r session s)
unfolding sub_served
sub_served_quiet asker (sub_request.CreateMonitoredItems r) session s = create_items_quiet asker session r s
sub_served_quiet asker (sub_request.SetMonitoringMode r) session s = set_modes_quiet asker session r s
sub_served_quiet asker (sub_request.DeleteMonitoredItems r) session s = delete_items_quiet asker session r s
sub_served_quiet asker (sub_request.CreateSubscription r) session s = create_sub_quiet asker session r s
sub_served_quiet asker (sub_request.ModifySubscription r) session s = modify_sub_quiet asker session r s
sub_served_quiet asker (sub_request.SetPublishingMode r) session s = set_publishing_quiet asker session r s
sub_served_quiet asker (sub_request.Publish r) session s = publish_quiet asker session r s
sub_served_quiet asker (sub_request.Republish r) session s = republish_quiet asker session r s
sub_served_quiet asker (sub_request.TransferSubscriptions r) session s = transfer_subs_quiet asker session r s
sub_served_quiet asker (sub_request.DeleteSubscriptions r) session s = delete_subs_quiet asker session r s

-- ---- channels

granted_on_quiet : (conn : Conn) (number : ℕ) (response : OpenSecureChannelResponse) (s : ServerState) → IsQuiet (granted_on conn number response s)
unfolding granted_on
granted_on_quiet conn number response s = (tt, (tt, tt))

granted_quiet : (channel token : ℕ) (conn : Conn) (number : ℕ) (a : OpeningRequest) (s : ServerState) → IsQuiet (granted channel token conn number a s)
unfolding granted
granted_quiet channel token conn number a s =
    let new : Conn = with_channel channel token conn in
    either (takes conn (opening_reply (opening_response new a s))) _ _ (granted_on_quiet new number (opening_response new a s) s)
    (refused_quiet conn bad_tcp_message_too_large s)

issued_quiet : (conn : Conn) (number : ℕ) (a : OpeningRequest) (s : ServerState) → IsQuiet (issued conn number a s)
unfolding issued
issued_quiet conn number a s = granted_quiet (after_message s.channels_given) 1 conn number a (with_next_channel s)

renewed_quiet : (conn : Conn) (number : ℕ) (a : OpeningRequest) (s : ServerState) → IsQuiet (token_renewed conn number a s)
unfolding token_renewed
renewed_quiet conn number a s = granted_quiet conn.channel (after_message conn.token) conn number a s

opened_as_quiet : (e : Ear) (t : Option SecurityTokenRequestType) (channel : ℕ) (conn : Conn) (number : ℕ) (a : OpeningRequest) (s : ServerState)
    → IsQuiet (opened_as e t channel conn number a s)
opened_as_quiet ear.Opening (Some request_type.Issue) channel conn number a s = issued_quiet conn number a s
opened_as_quiet ear.Open (Some request_type.Renew) channel conn number a s =
    either (channel == conn.channel) _ _ (renewed_quiet conn number a s) (refused_quiet conn bad_tcp_secure_channel_unknown s)
opened_as_quiet _ _ channel conn number a s = refused_quiet conn bad_tcp_secure_channel_unknown s

opened_for_quiet : (channel : ℕ) (follows : Bool) (conn : Conn) (number : ℕ) (a : OpeningRequest) (s : ServerState)
    → IsQuiet (opened_for channel follows conn number a s)
unfolding opened_for
opened_for_quiet channel follows conn number a s =
    either (not follows) _ _ (refused_quiet conn bad_sequence_number_invalid s)
    (either (not (is_unsecured (security_mode_of a.security_mode))) _ _ (refused_quiet conn bad_security_policy_rejected s)
    (opened_as_quiet conn.ear _ channel conn number a s))

opened_by_quiet : (a : Option OpeningRequest) (channel : ℕ) (follows : Bool) (conn : Conn) (number : ℕ) (s : ServerState)
    → IsQuiet (opened_by a channel follows conn number s)
opened_by_quiet None channel follows conn number s = refused_quiet conn bad_decoding_error s
opened_by_quiet (Some a) channel follows conn number s = opened_for_quiet channel follows conn number a s

pub opening_quiet : (channel : ℕ) (follows : Bool) (number : ℕ) (body : List ℕ) (conn : Conn) (s : ServerState) → IsQuiet (opening channel follows number body conn s)
unfolding opening
opening_quiet channel follows number body conn s = opened_by_quiet (asked_at body) channel follows conn number s

-- ---- connections

acknowledged_quiet : (hello : Greeting) (conn : Conn) (s : ServerState) → IsQuiet (acknowledged hello conn s)
unfolding acknowledged
acknowledged_quiet hello conn s = (tt, (tt, tt))

greeted_quiet : (found : Result (Greeting × Option (List ℕ)) Fault) (conn : Conn) (s : ServerState) → IsQuiet (greeted_by found conn s)
greeted_quiet (Ok hello) conn s = either (is_small hello.0) _ _ (refused_quiet conn bad_decoding_error s) (acknowledged_quiet hello.0 conn s)
greeted_quiet (Err fault) conn s = refused_quiet conn bad_decoding_error s

pub greeting_quiet : (body : List ℕ) (conn : Conn) (s : ServerState) → IsQuiet (greeting body conn s)
unfolding greeting
greeting_quiet body conn s = greeted_quiet (value_of (whole_at hello_at (input 0 body))) conn s

pub closing_quiet : (conn : Conn) (s : ServerState) → IsQuiet (closing conn s)
unfolding closing
closing_quiet conn s = tt

pub opened_quiet : (number : ℕ) (s : ServerState) → IsQuiet (opened number s)
unfolding opened
opened_quiet number s = either (is_above s.highest number) _ _ tt tt

closed_by_quiet : (conn : Option Conn) (number : ℕ) (s : ServerState) → IsQuiet (closed_by conn number s)
closed_by_quiet None number s = tt
closed_by_quiet (Some conn) number s = tt

pub closed_quiet : (number : ℕ) (s : ServerState) → IsQuiet (closed number s)
unfolding closed
closed_quiet number s = closed_by_quiet (conn_at number s.conns) number s
