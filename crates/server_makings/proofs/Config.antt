-- What a life began with stays: no rule changes it.
use Rattle.std.proofs.Common.{◌≡◌, ℕ, ◌+◌, ◌==◌, List, [], ◌∷◌, Bool, true, false, not, length, Option, Some, None, refl, ap, ◌∙◌}
use Rattle.std.specs.Prelude.{Result, Ok, Err}
use Rattle.ua_base.specs.Status.{bad_decoding_error, bad_identity_token_rejected, bad_security_policy_rejected, bad_sequence_number_invalid, bad_service_unsupported, bad_session_closed, bad_tcp_message_too_large, bad_tcp_secure_channel_unknown, bad_too_many_sessions}
use Rattle.ua_base.specs.Number.{after_message}
use Rattle.ua_base.specs.declared.modes.Mode.{Mode}
use Rattle.ua_base.specs.declared.modes.Timestamps.{Timestamps}
use Rattle.set_model.specs.declared.source.Change.{Change}
use Rattle.sessions.specs.Table.{activate_answer, activated, bound_answer, check_answer, is_full}
use Rattle.sessions.specs.declared.fault.SessionFault.{SessionFault}
use Rattle.sessions.specs.declared.fault.SessionFault.TheVariants as session_fault
use Rattle.ua_values.specs.Reading.{Fault, input}
use Rattle.ua_chunks.specs.Bodies.{hello_at, value_of, whole_at}
use Rattle.ua_chunks.specs.declared.greeting.Greeting.{Greeting}
use Rattle.ua_channel.specs.State.{is_deaf}
use Rattle.ua_channel.specs.declared.ear.Ear.{Ear}
use Rattle.ua_channel.specs.declared.ear.Ear.TheVariants as ear
use Rattle.ua_channel.specs.declared.heard.Heard.{Heard}
use Rattle.ua_channel.specs.declared.heard.Heard.TheVariants as heard_as
use Rattle.ua_structures.specs.declared.header.ResponseHeader.{ResponseHeader}
use Rattle.ua_session_msgs.specs.declared.attribute.ReadRequest.{ReadRequest}
use Rattle.ua_session_msgs.specs.declared.channel.OpenSecureChannelResponse.{OpenSecureChannelResponse}
use Rattle.ua_session_msgs.specs.declared.method.CallRequest.{CallRequest}
use Rattle.ua_session_msgs.specs.declared.discovery.FindServersRequest.{FindServersRequest}
use Rattle.ua_session_msgs.specs.declared.discovery.GetEndpointsRequest.{GetEndpointsRequest}
use Rattle.ua_session_msgs.specs.declared.session.ActivateSessionRequest.{ActivateSessionRequest}
use Rattle.ua_session_msgs.specs.declared.session.CloseSessionRequest.{CloseSessionRequest}
use Rattle.ua_session_msgs.specs.declared.session.CreateSessionRequest.{CreateSessionRequest}
use Rattle.ua_session_msgs.specs.declared.request.SessionRequest.{SessionRequest}
use Rattle.ua_session_msgs.specs.declared.request.SessionRequest.TheVariants as session_request
use Rattle.ua_sub_msgs.specs.declared.item.CreateMonitoredItemsRequest.{CreateMonitoredItemsRequest}
use Rattle.ua_sub_msgs.specs.declared.item.DeleteMonitoredItemsRequest.{DeleteMonitoredItemsRequest}
use Rattle.ua_sub_msgs.specs.declared.item.MonitoredItemCreateRequest.{MonitoredItemCreateRequest}
use Rattle.ua_sub_msgs.specs.declared.item.SetMonitoringModeRequest.{SetMonitoringModeRequest}
use Rattle.ua_sub_msgs.specs.declared.publish.RepublishRequest.{RepublishRequest}
use Rattle.ua_sub_msgs.specs.declared.subscription.CreateSubscriptionRequest.{CreateSubscriptionRequest}
use Rattle.ua_sub_msgs.specs.declared.subscription.DeleteSubscriptionsRequest.{DeleteSubscriptionsRequest}
use Rattle.ua_sub_msgs.specs.declared.subscription.ModifySubscriptionRequest.{ModifySubscriptionRequest}
use Rattle.ua_sub_msgs.specs.declared.subscription.SetPublishingModeRequest.{SetPublishingModeRequest}
use Rattle.ua_sub_msgs.specs.declared.subscription.TransferSubscriptionsRequest.{TransferSubscriptionsRequest}
use Rattle.ua_sub_msgs.specs.declared.request.SubRequest.{SubRequest}
use Rattle.ua_sub_msgs.specs.declared.request.SubRequest.TheVariants as sub_request
use Rattle.ua_services.specs.declared.reply.Reply.{Reply}
use Rattle.ua_services.specs.declared.request.Request.{Request}
use Rattle.ua_services.specs.declared.request.Request.TheVariants as request
use Rattle.ua_services.specs.declared.request.RequestFault.{RequestFault}
use Rattle.ua_services.specs.declared.request.RequestFault.TheVariants as faults
use Rattle.ua_services.specs.Requests.{header_of, request_at, sub_header}
use Rattle.subscription.specs.declared.spec.ItemSpec.{ItemSpec}
use Rattle.subscription.specs.declared.spec.SubSpec.{SubSpec}
use Rattle.subscription.specs.State.{SubState}
use Rattle.subscription.specs.Calls.{modified}
use Rattle.server_rules.specs.declared.conn.Asker.{Asker}
use Rattle.server_rules.specs.declared.conn.Conn.{Conn}
use Rattle.server_rules.specs.declared.opening.OpeningRequest.{OpeningRequest}
use Rattle.server_rules.specs.declared.opening.SecurityTokenRequestType.{SecurityTokenRequestType}
use Rattle.server_rules.specs.declared.opening.SecurityTokenRequestType.TheVariants as request_type
use Rattle.server_rules.specs.State.{ServerState, conn_at, with_sub}
use Rattle.server_rules.specs.Said.{Did, and_then, each}
use Rattle.server_rules.specs.Answering.{good_header, takes}
use Rattle.server_rules.specs.Moves.{answered_queued, gone, own_subs, queued}
use Rattle.server_rules.specs.Operations.{after_each, answered, answers, leaves, operations_fault, own_sub, passes}
use Rattle.server_rules.specs.Reading.{call, call_all, read, read_all, read_checked}
use Rattle.server_rules.specs.Items.{create_all, create_checked, create_items, delete_all, delete_checked, delete_items, item_judged, modes_checked, set_all, set_modes, with_item, with_made, with_mode_set, without_item_of}
use Rattle.server_rules.specs.Subscriptions.{create_one, create_sub, delete_all as subs_deleted, delete_one, delete_subs, deleted_if, deleted_reply, enable_all, enabled_if, modify_checked, modify_one, modify_sub, new_checked, republish, republish_checked, republish_one, set_publishing, sub_known, transfer_all, transfer_one, transfer_reply, transfer_result, transfer_subs, with_new_sub, with_publishing}
use Rattle.server_rules.specs.Sessions.{activate_session, activation_answered, activation_done, all_gone, close_answered, close_session, create_session, creation_answered, find_servers, get_endpoints, ids_of, is_anonymous, session_activated, session_closed, session_timeout, token_at, with_session, without_owned, without_session}
use Rattle.server_rules.specs.Opening.{asked_at, granted, granted_on, is_unsecured, issued, opened_as, opened_by, opened_for, opening, opening_reply, opening_response, security_mode_of, token_renewed, with_channel, with_next_channel}
use Rattle.server_rules.specs.Requests.{asked, asker_of, done_for, in_bound, in_session, noted, requested, served, session_served, sub_served, token_in}
use Rattle.server_rules.specs.Connecting.{acknowledged, closed, closed_by, closing, greeted_by, greeting, hears, hears_by, hears_on, is_above, is_small, opened}
use Rattle.server_rules.specs.Step.{Happening, Opens, Hears, Closes, Feeds, Ticks, Levels, after, ears, fed, heard, leveled}
use Rattle.server_rules.specs.Acts.{state_after}
use Rattle.server_laws.proofs.Living.{state_is}
use Rattle.server_makings.proofs.Staying.{Keeps, answered_keeps, deleted_keeps, done_keeps, each_keeps, either, fault_keeps, publish_keeps, refused_keeps, replied_after, replied_keeps, steps_keep, then_keeps, ticked_keeps, transferred_keeps}

-- ---- services of items and subscriptions

made_keeps : (sub : ℕ) (made : Result (ℕ × ItemSpec) ℕ) (s : ServerState) → (with_made sub made s).config ≡ s.config
made_keeps sub (Ok made) s = refl
made_keeps sub (Err code) s = refl

pub item_keeps : (sub : ℕ) (stamps : Timestamps) (one : MonitoredItemCreateRequest) (s : ServerState) → (with_item sub stamps one s).config ≡ s.config
unfolding with_item
item_keeps sub stamps one s = made_keeps sub (item_judged sub stamps one s) s

mode_keeps : (sub : ℕ) (mode : Mode) (id : ℕ) (s : ServerState) → (with_mode_set sub mode id s).config ≡ s.config
unfolding with_mode_set
mode_keeps sub mode id s = refl

removed_keeps : (sub id : ℕ) (s : ServerState) → (without_item_of sub id s).config ≡ s.config
unfolding without_item_of
removed_keeps sub id s = refl

enabled_keeps : (enabled : Bool) (found : Option SubState) (id : ℕ) (s : ServerState) → (enabled_if enabled found id s).config ≡ s.config
enabled_keeps enabled None id s = refl
enabled_keeps enabled (Some sub) id s = refl

publishing_keeps : (session : ℕ) (enabled : Bool) (id : ℕ) (s : ServerState) → (with_publishing session enabled id s).config ≡ s.config
unfolding with_publishing
publishing_keeps session enabled id s = enabled_keeps enabled (own_sub session id s) id s

create_items_keeps : (asker : Asker) (session : ℕ) (r : CreateMonitoredItemsRequest) (s : ServerState) → Keeps s.config (create_items asker session r s)
unfolding create_items
create_items_keeps asker session r s =
    done_keeps asker (create_all asker r.subscription_id r.items_to_create) (create_checked session r s) s
    (λ stamps. replied_after asker _ s (after_each (with_item r.subscription_id stamps) r.items_to_create s)
    (steps_keep (with_item r.subscription_id stamps) r.items_to_create s (item_keeps r.subscription_id stamps)))

set_modes_keeps : (asker : Asker) (session : ℕ) (r : SetMonitoringModeRequest) (s : ServerState) → Keeps s.config (set_modes asker session r s)
unfolding set_modes
set_modes_keeps asker session r s =
    done_keeps asker (set_all asker r.subscription_id r.monitored_item_ids) (modes_checked session r s) s
    (λ mode. replied_after asker _ s (after_each (with_mode_set r.subscription_id mode) r.monitored_item_ids s)
    (steps_keep (with_mode_set r.subscription_id mode) r.monitored_item_ids s (mode_keeps r.subscription_id mode)))

delete_items_keeps : (asker : Asker) (session : ℕ) (r : DeleteMonitoredItemsRequest) (s : ServerState) → Keeps s.config (delete_items asker session r s)
unfolding delete_items
delete_items_keeps asker session r s =
    done_keeps asker (delete_all asker r.subscription_id r.monitored_item_ids) (delete_checked session r s) s
    (λ found. replied_after asker _ s (after_each (without_item_of r.subscription_id) r.monitored_item_ids s)
    (steps_keep (without_item_of r.subscription_id) r.monitored_item_ids s (removed_keeps r.subscription_id)))

new_sub_keeps : (session : ℕ) (spec : SubSpec) (s : ServerState) → (with_new_sub session spec s).config ≡ s.config
unfolding with_new_sub
new_sub_keeps session spec s = refl

create_sub_keeps : (asker : Asker) (session : ℕ) (r : CreateSubscriptionRequest) (s : ServerState) → Keeps s.config (create_sub asker session r s)
unfolding create_sub
create_sub_keeps asker session r s =
    done_keeps asker (create_one asker session) (new_checked r s) s
    (λ spec. replied_after asker _ s (with_new_sub session spec s) (new_sub_keeps session spec s))

modify_sub_keeps : (asker : Asker) (session : ℕ) (r : ModifySubscriptionRequest) (s : ServerState) → Keeps s.config (modify_sub asker session r s)
unfolding modify_sub
modify_sub_keeps asker session r s =
    done_keeps asker (modify_one asker) (modify_checked session r s) s
    (λ spec. replied_after asker _ s (with_sub spec.id (modified spec s.age) s) refl)

set_publishing_keeps : (asker : Asker) (session : ℕ) (r : SetPublishingModeRequest) (s : ServerState) → Keeps s.config (set_publishing asker session r s)
unfolding set_publishing
set_publishing_keeps asker session r s =
    done_keeps asker (enable_all asker session r.publishing_enabled r.subscription_ids) (passes (operations_fault (length r.subscription_ids))) s
    (λ found. replied_after asker _ s (after_each (with_publishing session r.publishing_enabled) r.subscription_ids s)
    (steps_keep (with_publishing session r.publishing_enabled) r.subscription_ids s (publishing_keeps session r.publishing_enabled)))

republish_keeps : (asker : Asker) (session : ℕ) (r : RepublishRequest) (s : ServerState) → Keeps s.config (republish asker session r s)
unfolding republish
republish_keeps asker session r s = done_keeps asker (republish_one asker) (republish_checked session r s) s (λ message. replied_keeps asker _ s)

-- rules in turn, and an answer behind them
turns_keep : (asker : Asker) (answer : ResponseHeader → Reply) (rule : ℕ → ServerState → Did) (ids : List ℕ) (s : ServerState)
    → ((id : ℕ) (t : ServerState) → Keeps t.config (rule id t)) → Keeps s.config (and_then (answered asker answer) (each rule ids s))
turns_keep asker answer rule ids s on =
    then_keeps s.config (answered asker answer) (each rule ids s) (each_keeps rule ids s on)
    (replied_keeps asker (answer (good_header asker.handle (each rule ids s).state)) (each rule ids s).state)

transfer_one_keeps : (session id : ℕ) (s : ServerState) → Keeps s.config (transfer_one session id s)
unfolding transfer_one
transfer_one_keeps session id s = transferred_keeps id session s

transfer_subs_keeps : (asker : Asker) (session : ℕ) (r : TransferSubscriptionsRequest) (s : ServerState) → Keeps s.config (transfer_subs asker session r s)
unfolding transfer_subs
transfer_subs_keeps asker session r s =
    done_keeps asker (transfer_all asker session r.subscription_ids) (passes (operations_fault (length r.subscription_ids))) s
    (λ found. turns_keep asker (transfer_reply (answers (transfer_result session) (leaves (transfer_one session)) r.subscription_ids s)) (transfer_one session)
    r.subscription_ids s (transfer_one_keeps session))

deleted_if_keeps : (found : Option SubState) (id : ℕ) (s : ServerState) → Keeps s.config (deleted_if found id s)
deleted_if_keeps None id s = refl
deleted_if_keeps (Some sub) id s = deleted_keeps id s

delete_one_keeps : (session id : ℕ) (s : ServerState) → Keeps s.config (delete_one session id s)
unfolding delete_one
delete_one_keeps session id s = deleted_if_keeps (own_sub session id s) id s

delete_subs_keeps : (asker : Asker) (session : ℕ) (r : DeleteSubscriptionsRequest) (s : ServerState) → Keeps s.config (delete_subs asker session r s)
unfolding delete_subs
delete_subs_keeps asker session r s =
    done_keeps asker (subs_deleted asker session r.subscription_ids) (passes (operations_fault (length r.subscription_ids))) s
    (λ found. turns_keep asker (deleted_reply (answers (sub_known session) (leaves (delete_one session)) r.subscription_ids s)) (delete_one session)
    r.subscription_ids s (delete_one_keeps session))

-- ---- sessions

read_keeps : (asker : Asker) (r : ReadRequest) (s : ServerState) → Keeps s.config (read asker r s)
unfolding read
read_keeps asker r s = done_keeps asker (read_all asker r.nodes_to_read) (read_checked r) s (λ stamps. replied_keeps asker _ s)

call_keeps : (asker : Asker) (session : ℕ) (r : CallRequest) (s : ServerState) → Keeps s.config (call asker session r s)
unfolding call
call_keeps asker session r s =
    done_keeps asker (call_all asker session r.methods_to_call) (passes (operations_fault (length r.methods_to_call))) s (λ found. replied_keeps asker _ s)

servers_keep : (asker : Asker) (r : FindServersRequest) (s : ServerState) → Keeps s.config (find_servers asker r s)
unfolding find_servers
servers_keep asker r s = replied_keeps asker _ s

endpoints_keep : (asker : Asker) (r : GetEndpointsRequest) (s : ServerState) → Keeps s.config (get_endpoints asker r s)
unfolding get_endpoints
endpoints_keep asker r s = replied_keeps asker _ s

creation_keeps : (asker : Asker) (counter timeout : ℕ) (s : ServerState) → Keeps s.config (creation_answered asker counter timeout s)
unfolding creation_answered
creation_keeps asker counter timeout s = replied_keeps asker _ s

create_session_keeps : (asker : Asker) (r : CreateSessionRequest) (s : ServerState) → Keeps s.config (create_session asker r s)
unfolding create_session
create_session_keeps asker r s =
    either (is_full s.sessions) s.config _ _ (fault_keeps asker bad_too_many_sessions s)
    (creation_keeps asker (s.sessions.last_counter + 1) (session_timeout r) (with_session asker r.client_description.application_uri (session_timeout r) s))

activation_keeps : (asker : Asker) (result : Result ℕ SessionFault) (s : ServerState) → Keeps s.config (activation_answered asker result s)
unfolding activation_done
activation_keeps asker (Ok counter) s = replied_keeps asker _ s
activation_keeps asker (Err (session_fault.Code code)) s = fault_keeps asker code s
activation_keeps asker (Err session_fault.OutOfMemory) s = refl

activated_keeps : (asker : Asker) (token : Option (List ℕ)) (s : ServerState) → Keeps s.config (session_activated asker token s)
unfolding session_activated
activated_keeps asker token s =
    activation_keeps asker (activate_answer token asker.conn s.sessions) (record s { sessions = activated token asker.conn s.age s.sessions })

activate_keeps : (asker : Asker) (r : ActivateSessionRequest) (s : ServerState) → Keeps s.config (activate_session asker r s)
unfolding activate_session
activate_keeps asker r s =
    either (is_anonymous r.user_identity_token) s.config _ _ (activated_keeps asker (token_at r.request_header.authentication_token) s)
    (fault_keeps asker bad_identity_token_rejected s)

all_gone_keeps : (ids : List ℕ) (s : ServerState) → (all_gone ids s).config ≡ s.config
all_gone_keeps [] s = refl
all_gone_keeps (id ∷ ids) s = all_gone_keeps ids (gone id s)

without_owned_keeps : (deletes : Bool) (session : ℕ) (s : ServerState) → (without_owned deletes session s).config ≡ s.config
without_owned_keeps true session s = all_gone_keeps (ids_of (own_subs session s)) s
without_owned_keeps false session s = refl

session_closed_keeps : (asker : Asker) (deletes : Bool) (session : ℕ) (s : ServerState) → Keeps s.config (session_closed asker deletes session s)
unfolding session_closed close_answered
session_closed_keeps asker deletes session s =
    replied_after asker _ s (without_session session (without_owned deletes session s)) (without_owned_keeps deletes session s)

close_session_keeps : (asker : Asker) (session : ℕ) (r : CloseSessionRequest) (s : ServerState) → Keeps s.config (close_session asker session r s)
unfolding close_session
close_session_keeps asker session r s =
    then_keeps s.config (session_closed asker r.delete_subscriptions session) (answered_queued bad_session_closed session s)
    (answered_keeps (queued session s) bad_session_closed session s)
    (session_closed_keeps asker r.delete_subscriptions session (answered_queued bad_session_closed session s).state)

-- ---- requests

done_for_keeps : (row : ℕ → ServerState → Did) (asker : Asker) (answer : Result ℕ ℕ) (s : ServerState)
    → ((session : ℕ) (t : ServerState) → Keeps t.config (row session t)) → Keeps s.config (done_for row asker answer s)
done_for_keeps row asker (Ok session) s on = on session s
done_for_keeps row asker (Err code) s on = fault_keeps asker code s

in_session_keeps : (row : ℕ → ServerState → Did) (asker : Asker) (token : Option (List ℕ)) (s : ServerState)
    → ((session : ℕ) (t : ServerState) → Keeps t.config (row session t)) → Keeps s.config (in_session row asker token s)
in_session_keeps row asker token s on = done_for_keeps row asker (check_answer token asker.conn s.sessions) (noted asker token s) on

in_bound_keeps : (row : ℕ → ServerState → Did) (asker : Asker) (token : Option (List ℕ)) (s : ServerState)
    → ((session : ℕ) (t : ServerState) → Keeps t.config (row session t)) → Keeps s.config (in_bound row asker token s)
in_bound_keeps row asker token s on = done_for_keeps row asker (bound_answer token asker.conn s.sessions) (noted asker token s) on

sub_served_keeps : (asker : Asker) (r : SubRequest) (session : ℕ) (s : ServerState) → Keeps s.config (sub_served asker r session s)
unfolding sub_served
sub_served_keeps asker (sub_request.CreateMonitoredItems r) session s = create_items_keeps asker session r s
sub_served_keeps asker (sub_request.SetMonitoringMode r) session s = set_modes_keeps asker session r s
sub_served_keeps asker (sub_request.DeleteMonitoredItems r) session s = delete_items_keeps asker session r s
sub_served_keeps asker (sub_request.CreateSubscription r) session s = create_sub_keeps asker session r s
sub_served_keeps asker (sub_request.ModifySubscription r) session s = modify_sub_keeps asker session r s
sub_served_keeps asker (sub_request.SetPublishingMode r) session s = set_publishing_keeps asker session r s
sub_served_keeps asker (sub_request.Publish r) session s = publish_keeps asker session r s
sub_served_keeps asker (sub_request.Republish r) session s = republish_keeps asker session r s
sub_served_keeps asker (sub_request.TransferSubscriptions r) session s = transfer_subs_keeps asker session r s
sub_served_keeps asker (sub_request.DeleteSubscriptions r) session s = delete_subs_keeps asker session r s

session_served_keeps : (asker : Asker) (r : SessionRequest) (s : ServerState) → Keeps s.config (session_served asker r s)
unfolding session_served
session_served_keeps asker (session_request.OpenSecureChannel r) s = fault_keeps asker bad_service_unsupported s
session_served_keeps asker (session_request.CloseSecureChannel r) s = fault_keeps asker bad_service_unsupported s
session_served_keeps asker (session_request.FindServers r) s = servers_keep asker r s
session_served_keeps asker (session_request.GetEndpoints r) s = endpoints_keep asker r s
session_served_keeps asker (session_request.CreateSession r) s = create_session_keeps asker r s
session_served_keeps asker (session_request.ActivateSession r) s = activate_keeps asker r s
session_served_keeps asker (session_request.CloseSession r) s =
    in_bound_keeps (λ session. close_session asker session r) asker (token_in r.request_header) s (λ session t. close_session_keeps asker session r t)
session_served_keeps asker (session_request.Read r) s =
    in_session_keeps (λ session. read asker r) asker (token_in r.request_header) s (λ session t. read_keeps asker r t)
session_served_keeps asker (session_request.Call r) s =
    in_session_keeps (λ session. call asker session r) asker (token_in r.request_header) s (λ session t. call_keeps asker session r t)

served_keeps : (asker : Asker) (r : Request) (s : ServerState) → Keeps s.config (served asker r s)
unfolding served
served_keeps asker (request.Session r) s = session_served_keeps asker r s
served_keeps asker (request.Subscription r) s = in_session_keeps (sub_served asker r) asker (token_in (sub_header r)) s (sub_served_keeps asker r)

asked_keeps : (conn number : ℕ) (r : Result Request RequestFault) (s : ServerState) → Keeps s.config (asked conn number r s)
asked_keeps conn number (Ok r) s = served_keeps (asker_of conn number (header_of r).request_handle) r s
asked_keeps conn number (Err faults.Header) s = fault_keeps (asker_of conn number 0) bad_decoding_error s
asked_keeps conn number (Err (faults.Service handle)) s = fault_keeps (asker_of conn number handle) bad_service_unsupported s
asked_keeps conn number (Err (faults.Body handle)) s = fault_keeps (asker_of conn number handle) bad_decoding_error s
asked_keeps conn number (Err faults.OutOfMemory) s = refl

requested_keeps : (conn number : ℕ) (body : List ℕ) (s : ServerState) → Keeps s.config (requested conn number body s)
unfolding requested
requested_keeps conn number body s = asked_keeps conn number (request_at body) s

-- ---- channels

granted_on_keeps : (conn : Conn) (number : ℕ) (response : OpenSecureChannelResponse) (s : ServerState) → Keeps s.config (granted_on conn number response s)
unfolding granted_on
granted_on_keeps conn number response s = refl

granted_keeps : (channel token : ℕ) (conn : Conn) (number : ℕ) (a : OpeningRequest) (s : ServerState) → Keeps s.config (granted channel token conn number a s)
unfolding granted
granted_keeps channel token conn number a s =
    let new : Conn = with_channel channel token conn in
    either (takes conn (opening_reply (opening_response new a s))) s.config _ _ (granted_on_keeps new number (opening_response new a s) s)
    (refused_keeps conn bad_tcp_message_too_large s)

issued_keeps : (conn : Conn) (number : ℕ) (a : OpeningRequest) (s : ServerState) → Keeps s.config (issued conn number a s)
unfolding issued
issued_keeps conn number a s = granted_keeps (after_message s.channels_given) 1 conn number a (with_next_channel s)

renewed_keeps : (conn : Conn) (number : ℕ) (a : OpeningRequest) (s : ServerState) → Keeps s.config (token_renewed conn number a s)
unfolding token_renewed
renewed_keeps conn number a s = granted_keeps conn.channel (after_message conn.token) conn number a s

opened_as_keeps : (e : Ear) (t : Option SecurityTokenRequestType) (channel : ℕ) (conn : Conn) (number : ℕ) (a : OpeningRequest) (s : ServerState)
    → Keeps s.config (opened_as e t channel conn number a s)
opened_as_keeps ear.Opening (Some request_type.Issue) channel conn number a s = issued_keeps conn number a s
opened_as_keeps ear.Open (Some request_type.Renew) channel conn number a s =
    either (channel == conn.channel) s.config _ _ (renewed_keeps conn number a s) (refused_keeps conn bad_tcp_secure_channel_unknown s)
opened_as_keeps _ _ channel conn number a s = refused_keeps conn bad_tcp_secure_channel_unknown s

opened_for_keeps : (channel : ℕ) (follows : Bool) (conn : Conn) (number : ℕ) (a : OpeningRequest) (s : ServerState)
    → Keeps s.config (opened_for channel follows conn number a s)
unfolding opened_for
opened_for_keeps channel follows conn number a s =
    either (not follows) s.config _ _ (refused_keeps conn bad_sequence_number_invalid s)
    (either (not (is_unsecured (security_mode_of a.security_mode))) s.config _ _ (refused_keeps conn bad_security_policy_rejected s)
    (opened_as_keeps conn.ear _ channel conn number a s))

opened_by_keeps : (a : Option OpeningRequest) (channel : ℕ) (follows : Bool) (conn : Conn) (number : ℕ) (s : ServerState)
    → Keeps s.config (opened_by a channel follows conn number s)
opened_by_keeps None channel follows conn number s = refused_keeps conn bad_decoding_error s
opened_by_keeps (Some a) channel follows conn number s = opened_for_keeps channel follows conn number a s

opening_keeps : (channel : ℕ) (follows : Bool) (number : ℕ) (body : List ℕ) (conn : Conn) (s : ServerState) → Keeps s.config (opening channel follows number body conn s)
unfolding opening
opening_keeps channel follows number body conn s = opened_by_keeps (asked_at body) channel follows conn number s

-- ---- connections

acknowledged_keeps : (hello : Greeting) (conn : Conn) (s : ServerState) → Keeps s.config (acknowledged hello conn s)
unfolding acknowledged
acknowledged_keeps hello conn s = refl

greeted_keeps : (found : Result (Greeting × Option (List ℕ)) Fault) (conn : Conn) (s : ServerState) → Keeps s.config (greeted_by found conn s)
greeted_keeps (Ok hello) conn s = either (is_small hello.0) s.config _ _ (refused_keeps conn bad_decoding_error s) (acknowledged_keeps hello.0 conn s)
greeted_keeps (Err fault) conn s = refused_keeps conn bad_decoding_error s

greeting_keeps : (body : List ℕ) (conn : Conn) (s : ServerState) → Keeps s.config (greeting body conn s)
unfolding greeting
greeting_keeps body conn s = greeted_keeps (value_of (whole_at hello_at (input 0 body))) conn s

closing_keeps : (conn : Conn) (s : ServerState) → Keeps s.config (closing conn s)
unfolding closing
closing_keeps conn s = refl

hears_on_keeps : (h : Heard) (conn : Conn) (s : ServerState) → Keeps s.config (hears_on h conn s)
hears_on_keeps (heard_as.Greeting body) conn s = greeting_keeps body conn s
hears_on_keeps (heard_as.Opening channel follows number body) conn s = opening_keeps channel follows number body conn s
hears_on_keeps (heard_as.Message number body) conn s = requested_keeps conn.number number body s
hears_on_keeps heard_as.Close conn s = closing_keeps conn s
hears_on_keeps (heard_as.Fault code) conn s = refused_keeps conn code s

hears_by_keeps : (conn : Option Conn) (h : Heard) (s : ServerState) → Keeps s.config (hears_by conn h s)
hears_by_keeps None h s = refl
hears_by_keeps (Some conn) h s = hears_on_keeps h conn s

hears_keeps : (number : ℕ) (h : Heard) (s : ServerState) → Keeps s.config (hears number h s)
unfolding hears
hears_keeps number h s = hears_by_keeps (conn_at number s.conns) h s

opened_keeps : (number : ℕ) (s : ServerState) → Keeps s.config (opened number s)
unfolding opened
opened_keeps number s = either (is_above s.highest number) s.config _ _ refl refl

closed_by_keeps : (conn : Option Conn) (number : ℕ) (s : ServerState) → Keeps s.config (closed_by conn number s)
closed_by_keeps None number s = refl
closed_by_keeps (Some conn) number s = refl

closed_keeps : (number : ℕ) (s : ServerState) → Keeps s.config (closed number s)
unfolding closed
closed_keeps number s = closed_by_keeps (conn_at number s.conns) number s

-- ---- all that happens

heard_keeps : (number : ℕ) (h : Heard) (s : ServerState) → Keeps s.config (heard number h s)
unfolding heard
heard_keeps number h s = either (is_deaf (ears number s)) s.config _ _ refl (hears_keeps number h s)

fed_keeps : (change : Change) (s : ServerState) → Keeps s.config (fed change s)
unfolding fed
fed_keeps change s = refl

leveled_keeps : (level : ℕ) (s : ServerState) → Keeps s.config (leveled level s)
unfolding leveled
leveled_keeps level s = refl

step_keeps : (happening : Happening) (s : ServerState) → Keeps s.config (after happening s)
step_keeps (Opens number) s = opened_keeps number s
step_keeps (Hears number h) s = heard_keeps number h s
step_keeps (Closes number) s = closed_keeps number s
step_keeps (Feeds change) s = fed_keeps change s
step_keeps (Ticks ms) s = ticked_keeps ms s
step_keeps (Levels level) s = leveled_keeps level s

none_yet : (s : ServerState) → (state_after [] s).config ≡ s.config
unfolding state_after
none_yet s = refl

-- of a life
pub config_stays : (happenings : List Happening) (s : ServerState) → (state_after happenings s).config ≡ s.config
config_stays [] s = none_yet s
config_stays (happening ∷ earlier) s =
    ap (λ (t : ServerState). t.config) (state_is happening earlier s) ∙ step_keeps happening (state_after earlier s) ∙ config_stays earlier s
