-- One connection is watched while a request is served.
use Rattle.std.proofs.Common.{ℕ, ◌+◌, List, [], ◌∷◌, Bool, true, false, Option, Some, None, map, length}
use Rattle.std.specs.Prelude.{Result, Ok, Err}
use Rattle.ua_base.specs.Status.{bad_identity_token_rejected, bad_session_closed, bad_too_many_sessions, bad_decoding_error, bad_service_unsupported}
use Rattle.subscription.specs.State.{SubState}
use Rattle.server_rules.specs.declared.conn.Asker.{Asker}
use Rattle.server_rules.specs.State.{ServerState, with_sub}
use Rattle.server_rules.specs.Said.{Did, each}
use Rattle.server_rules.specs.Answering.{faulted, good_header}
use Rattle.server_rules.specs.Operations.{after_each, answered, answers, passes, leaves, operations_fault, own_sub}
use Rattle.sessions.specs.Table.{activate_answer, activated, bound_answer, check_answer, is_full}
use Rattle.subscription.specs.Calls.{modified}
use Rattle.server_rules.specs.Moves.{answered_queued, gone, own_subs}
use Rattle.ua_base.specs.declared.modes.Mode.{Mode}
use Rattle.ua_base.specs.declared.modes.Timestamps.{Timestamps}
use Rattle.ua_sub_msgs.specs.declared.item.CreateMonitoredItemsRequest.{CreateMonitoredItemsRequest}
use Rattle.ua_sub_msgs.specs.declared.item.DeleteMonitoredItemsRequest.{DeleteMonitoredItemsRequest}
use Rattle.ua_sub_msgs.specs.declared.item.MonitoredItemCreateRequest.{MonitoredItemCreateRequest}
use Rattle.ua_sub_msgs.specs.declared.item.SetMonitoringModeRequest.{SetMonitoringModeRequest}
use Rattle.ua_sub_msgs.specs.declared.publish.RepublishRequest.{RepublishRequest}
use Rattle.ua_sub_msgs.specs.declared.subscription.CreateSubscriptionRequest.{CreateSubscriptionRequest}
use Rattle.ua_sub_msgs.specs.declared.subscription.DeleteSubscriptionsRequest.{DeleteSubscriptionsRequest}
use Rattle.ua_sub_msgs.specs.declared.subscription.ModifySubscriptionRequest.{ModifySubscriptionRequest}
use Rattle.ua_sub_msgs.specs.declared.subscription.SetPublishingModeRequest.{SetPublishingModeRequest}
use Rattle.ua_sub_msgs.specs.declared.subscription.TransferResult.{TransferResult}
use Rattle.ua_sub_msgs.specs.declared.subscription.TransferSubscriptionsRequest.{TransferSubscriptionsRequest}
use Rattle.subscription.specs.declared.spec.ItemSpec.{ItemSpec}
use Rattle.subscription.specs.declared.spec.SubSpec.{SubSpec}
use Rattle.server_rules.specs.Items.{create_all, create_checked, create_items, create_reply, delete_all, delete_checked, delete_items, delete_reply, item_judged, item_known, item_result, modes_checked, modes_reply, set_all, set_modes, with_item, with_made, with_mode_set, without_item_of}
use Rattle.server_rules.specs.Reading.{call, call_all, call_reply, called, nodes_of, read, read_all, read_checked, read_reply, value_read}
use Rattle.server_rules.specs.Subscriptions.{create_one, create_sub, created_reply, delete_all as delete_all_subs, delete_one, delete_subs, deleted_if, deleted_reply, enable_all, enabled_if, modified_reply, modify_checked, modify_one, modify_sub, new_checked, publishing_reply, republish, republish_checked, republish_one, republished_reply, set_publishing, sub_known, transfer_all, transfer_one, transfer_reply, transfer_result, transfer_subs, with_new_sub, with_publishing}
use Rattle.ua_session_msgs.specs.declared.attribute.ReadRequest.{ReadRequest}
use Rattle.ua_session_msgs.specs.declared.method.CallRequest.{CallRequest}
use Rattle.ua_session_msgs.specs.declared.discovery.FindServersRequest.{FindServersRequest}
use Rattle.ua_session_msgs.specs.declared.discovery.GetEndpointsRequest.{GetEndpointsRequest}
use Rattle.ua_session_msgs.specs.declared.session.ActivateSessionRequest.{ActivateSessionRequest}
use Rattle.ua_session_msgs.specs.declared.session.CloseSessionRequest.{CloseSessionRequest}
use Rattle.ua_session_msgs.specs.declared.session.CreateSessionRequest.{CreateSessionRequest}
use Rattle.sessions.specs.declared.fault.SessionFault.{SessionFault}
use Rattle.sessions.specs.declared.fault.SessionFault.TheVariants as session_fault
use Rattle.server_rules.specs.Sessions.{activate_session, activation_answered, activation_done, all_gone, close_answered, close_session, create_session, creation_answered, find_servers, get_endpoints, ids_of, is_anonymous, session_activated, session_closed, session_created, session_timeout, token_at, with_session, without_owned, without_session}
use Rattle.ua_session_msgs.specs.declared.request.SessionRequest.{SessionRequest}
use Rattle.ua_session_msgs.specs.declared.request.SessionRequest.TheVariants as session_request
use Rattle.ua_sub_msgs.specs.declared.request.SubRequest.{SubRequest}
use Rattle.ua_sub_msgs.specs.declared.request.SubRequest.TheVariants as sub_request
use Rattle.ua_services.specs.declared.request.Request.{Request}
use Rattle.ua_services.specs.declared.request.Request.TheVariants as request
use Rattle.ua_services.specs.declared.request.RequestFault.{RequestFault}
use Rattle.ua_services.specs.declared.request.RequestFault.TheVariants as faults
use Rattle.ua_services.specs.Requests.{header_of, request_at, sub_header}
use Rattle.server_rules.specs.Requests.{asked, asker_of, done_for, in_bound, in_session, noted, requested, served as served_request, session_served, sub_served, token_in}
use Rattle.server_keeps.proofs.Lists.{choice}
use Rattle.server_keeps.proofs.Watching.{Watch, Has, Keeps, after_each_has, answered_queued_keeps, deleted_keeps, done_keeps, each_in_turn, faulted_keeps, in_turn, publish_keeps, quiet, replied_keeps, transferred_keeps}

module _ (watch : Watch) where
  -- ---- items

  made_has : (sub : ℕ) (made : Result (ℕ × ItemSpec) ℕ) (s : ServerState) → Has watch s → Has watch (with_made sub made s)
  made_has sub (Ok made) s h = h
  made_has sub (Err code) s h = h

  with_item_has : (sub : ℕ) (stamps : Timestamps) (asked : MonitoredItemCreateRequest) (s : ServerState) → Has watch s → Has watch (with_item sub stamps asked s)
  unfolding with_item
  with_item_has sub stamps asked s h = made_has sub (item_judged sub stamps asked s) s h

  mode_set_has : (sub : ℕ) (mode : Mode) (id : ℕ) (s : ServerState) → Has watch s → Has watch (with_mode_set sub mode id s)
  unfolding with_mode_set
  mode_set_has sub mode id s h = h

  removed_has : (sub id : ℕ) (s : ServerState) → Has watch s → Has watch (without_item_of sub id s)
  unfolding without_item_of
  removed_has sub id s h = h

  create_items_keeps : (asker : Asker) (session : ℕ) (r : CreateMonitoredItemsRequest) (s : ServerState) → Has watch s → Keeps watch (create_items asker session r s)
  unfolding create_items
  create_items_keeps asker session r s h =
      done_keeps watch asker (create_all asker r.subscription_id r.items_to_create) (create_checked session r s) s h
      (λ stamps. let sub : ℕ = r.subscription_id in
      replied_keeps watch asker
      (create_reply (answers (item_result sub stamps) (with_item sub stamps) r.items_to_create s)
      (good_header asker.handle (after_each (with_item sub stamps) r.items_to_create s)))
      (after_each (with_item sub stamps) r.items_to_create s) (after_each_has watch (with_item sub stamps) (with_item_has sub stamps) r.items_to_create s h))

  set_modes_keeps : (asker : Asker) (session : ℕ) (r : SetMonitoringModeRequest) (s : ServerState) → Has watch s → Keeps watch (set_modes asker session r s)
  unfolding set_modes
  set_modes_keeps asker session r s h =
      done_keeps watch asker (set_all asker r.subscription_id r.monitored_item_ids) (modes_checked session r s) s h
      (λ mode. let sub : ℕ = r.subscription_id in
      let ids : List ℕ = r.monitored_item_ids in
      replied_keeps watch asker
      (modes_reply (answers (item_known sub) (with_mode_set sub mode) ids s) (good_header asker.handle (after_each (with_mode_set sub mode) ids s)))
      (after_each (with_mode_set sub mode) ids s) (after_each_has watch (with_mode_set sub mode) (mode_set_has sub mode) ids s h))

  delete_items_keeps : (asker : Asker) (session : ℕ) (r : DeleteMonitoredItemsRequest) (s : ServerState) → Has watch s → Keeps watch (delete_items asker session r s)
  unfolding delete_items
  delete_items_keeps asker session r s h =
      done_keeps watch asker (delete_all asker r.subscription_id r.monitored_item_ids) (delete_checked session r s) s h
      (λ u. let sub : ℕ = r.subscription_id in
      let ids : List ℕ = r.monitored_item_ids in
      replied_keeps watch asker
      (delete_reply (answers (item_known sub) (without_item_of sub) ids s) (good_header asker.handle (after_each (without_item_of sub) ids s)))
      (after_each (without_item_of sub) ids s) (after_each_has watch (without_item_of sub) (removed_has sub) ids s h))

  -- ---- subscriptions

  new_sub_has : (session : ℕ) (spec : SubSpec) (s : ServerState) → Has watch s → Has watch (with_new_sub session spec s)
  unfolding with_new_sub
  new_sub_has session spec s h = h

  create_sub_keeps : (asker : Asker) (session : ℕ) (r : CreateSubscriptionRequest) (s : ServerState) → Has watch s → Keeps watch (create_sub asker session r s)
  unfolding create_sub
  create_sub_keeps asker session r s h =
      done_keeps watch asker (create_one asker session) (new_checked r s) s h
      (λ spec. replied_keeps watch asker (created_reply spec (good_header asker.handle (with_new_sub session spec s))) (with_new_sub session spec s)
      (new_sub_has session spec s h))

  modify_sub_keeps : (asker : Asker) (session : ℕ) (r : ModifySubscriptionRequest) (s : ServerState) → Has watch s → Keeps watch (modify_sub asker session r s)
  unfolding modify_sub
  modify_sub_keeps asker session r s h =
      done_keeps watch asker (modify_one asker) (modify_checked session r s) s h
      (λ spec. replied_keeps watch asker (modified_reply spec (good_header asker.handle (with_sub spec.id (modified spec s.age) s)))
      (with_sub spec.id (modified spec s.age) s) h)

  enabled_if_has : (enabled : Bool) (sub : Option SubState) (id : ℕ) (s : ServerState) → Has watch s → Has watch (enabled_if enabled sub id s)
  enabled_if_has enabled None id s h = h
  enabled_if_has enabled (Some sub) id s h = h

  publishing_has : (session : ℕ) (enabled : Bool) (id : ℕ) (s : ServerState) → Has watch s → Has watch (with_publishing session enabled id s)
  unfolding with_publishing
  publishing_has session enabled id s h = enabled_if_has enabled (own_sub session id s) id s h

  set_publishing_keeps : (asker : Asker) (session : ℕ) (r : SetPublishingModeRequest) (s : ServerState) → Has watch s → Keeps watch (set_publishing asker session r s)
  unfolding set_publishing
  set_publishing_keeps asker session r s h =
      done_keeps watch asker (enable_all asker session r.publishing_enabled r.subscription_ids) (passes (operations_fault (length r.subscription_ids))) s h
      (λ u. let ids : List ℕ = r.subscription_ids in
      let step : ℕ → ServerState → ServerState = with_publishing session r.publishing_enabled in
      replied_keeps watch asker (publishing_reply (answers (sub_known session) step ids s) (good_header asker.handle (after_each step ids s)))
      (after_each step ids s) (after_each_has watch step (publishing_has session r.publishing_enabled) ids s h))

  republish_keeps : (asker : Asker) (session : ℕ) (r : RepublishRequest) (s : ServerState) → Has watch s → Keeps watch (republish asker session r s)
  unfolding republish
  republish_keeps asker session r s h =
      done_keeps watch asker (republish_one asker) (republish_checked session r s) s h
      (λ message. replied_keeps watch asker (republished_reply message (good_header asker.handle s)) s h)

  transfer_one_keeps : (session id : ℕ) (s : ServerState) → Has watch s → Keeps watch (transfer_one session id s)
  unfolding transfer_one
  transfer_one_keeps session id s h = transferred_keeps watch id session s h

  transfer_subs_keeps : (asker : Asker) (session : ℕ) (r : TransferSubscriptionsRequest) (s : ServerState) → Has watch s → Keeps watch (transfer_subs asker session r s)
  unfolding transfer_subs
  transfer_subs_keeps asker session r s h =
      done_keeps watch asker (transfer_all asker session r.subscription_ids) (passes (operations_fault (length r.subscription_ids))) s h
      (λ u. let ids : List ℕ = r.subscription_ids in
      let results : List TransferResult = answers (transfer_result session) (leaves (transfer_one session)) ids s in
      in_turn watch (answered asker (transfer_reply results)) (each (transfer_one session) ids s) (each_in_turn watch (transfer_one session) (transfer_one_keeps session) ids s h)
      (λ t still. replied_keeps watch asker (transfer_reply results (good_header asker.handle t)) t still))

  deleted_if_keeps : (sub : Option SubState) (id : ℕ) (s : ServerState) → Has watch s → Keeps watch (deleted_if sub id s)
  deleted_if_keeps None id s h = quiet watch s h
  deleted_if_keeps (Some sub) id s h = deleted_keeps watch id s h

  delete_one_keeps : (session id : ℕ) (s : ServerState) → Has watch s → Keeps watch (delete_one session id s)
  unfolding delete_one
  delete_one_keeps session id s h = deleted_if_keeps (own_sub session id s) id s h

  delete_subs_keeps : (asker : Asker) (session : ℕ) (r : DeleteSubscriptionsRequest) (s : ServerState) → Has watch s → Keeps watch (delete_subs asker session r s)
  unfolding delete_subs
  delete_subs_keeps asker session r s h =
      done_keeps watch asker (delete_all_subs asker session r.subscription_ids) (passes (operations_fault (length r.subscription_ids))) s h
      (λ u. let ids : List ℕ = r.subscription_ids in
      let codes : List ℕ = answers (sub_known session) (leaves (delete_one session)) ids s in
      in_turn watch (answered asker (deleted_reply codes)) (each (delete_one session) ids s) (each_in_turn watch (delete_one session) (delete_one_keeps session) ids s h)
      (λ t still. replied_keeps watch asker (deleted_reply codes (good_header asker.handle t)) t still))

  -- ---- Read and Call

  read_keeps : (asker : Asker) (r : ReadRequest) (s : ServerState) → Has watch s → Keeps watch (read asker r s)
  unfolding read
  read_keeps asker r s h =
      done_keeps watch asker (read_all asker r.nodes_to_read) (read_checked r) s h
      (λ stamps. replied_keeps watch asker (read_reply (map (value_read (nodes_of s) stamps) r.nodes_to_read) (good_header asker.handle s)) s h)

  call_keeps : (asker : Asker) (session : ℕ) (r : CallRequest) (s : ServerState) → Has watch s → Keeps watch (call asker session r s)
  unfolding call
  call_keeps asker session r s h =
      done_keeps watch asker (call_all asker session r.methods_to_call) (passes (operations_fault (length r.methods_to_call))) s h
      (λ u. replied_keeps watch asker (call_reply (map (called session s) r.methods_to_call) (good_header asker.handle s)) s h)

  -- ---- discovery and sessions

  find_servers_keeps : (asker : Asker) (r : FindServersRequest) (s : ServerState) → Has watch s → Keeps watch (find_servers asker r s)
  unfolding find_servers
  find_servers_keeps asker r s h = replied_keeps watch asker _ s h

  get_endpoints_keeps : (asker : Asker) (r : GetEndpointsRequest) (s : ServerState) → Has watch s → Keeps watch (get_endpoints asker r s)
  unfolding get_endpoints
  get_endpoints_keeps asker r s h = replied_keeps watch asker _ s h

  creation_keeps : (asker : Asker) (counter timeout : ℕ) (s : ServerState) → Has watch s → Keeps watch (creation_answered asker counter timeout s)
  unfolding creation_answered
  creation_keeps asker counter timeout s h = replied_keeps watch asker _ s h

  create_session_keeps : (asker : Asker) (r : CreateSessionRequest) (s : ServerState) → Has watch s → Keeps watch (create_session asker r s)
  unfolding create_session
  create_session_keeps asker r s h =
      choice (Keeps watch) (is_full s.sessions) (faulted asker bad_too_many_sessions s)
      (session_created asker r.client_description.application_uri (session_timeout r) s) (faulted_keeps watch asker bad_too_many_sessions s h)
      (creation_keeps asker (s.sessions.last_counter + 1) (session_timeout r)
      (with_session asker r.client_description.application_uri (session_timeout r) s) h)

  activation_keeps : (asker : Asker) (s : ServerState) → Has watch s → Keeps watch (activation_done asker s)
  unfolding activation_done
  activation_keeps asker s h = replied_keeps watch asker _ s h

  activation_by_keeps : (asker : Asker) (answer : Result ℕ SessionFault) (s : ServerState) → Has watch s → Keeps watch (activation_answered asker answer s)
  activation_by_keeps asker (Ok counter) s h = activation_keeps asker s h
  activation_by_keeps asker (Err (session_fault.Code code)) s h = faulted_keeps watch asker code s h
  activation_by_keeps asker (Err session_fault.OutOfMemory) s h = quiet watch s h

  activated_keeps : (asker : Asker) (token : Option (List ℕ)) (s : ServerState) → Has watch s → Keeps watch (session_activated asker token s)
  unfolding session_activated
  activated_keeps asker token s h =
      activation_by_keeps asker (activate_answer token asker.conn s.sessions) (record s { sessions = activated token asker.conn s.age s.sessions }) h

  activate_session_keeps : (asker : Asker) (r : ActivateSessionRequest) (s : ServerState) → Has watch s → Keeps watch (activate_session asker r s)
  unfolding activate_session
  activate_session_keeps asker r s h =
      choice (Keeps watch) (is_anonymous r.user_identity_token) (session_activated asker (token_at r.request_header.authentication_token) s)
      (faulted asker bad_identity_token_rejected s) (activated_keeps asker (token_at r.request_header.authentication_token) s h)
      (faulted_keeps watch asker bad_identity_token_rejected s h)

  all_gone_has : (ids : List ℕ) (s : ServerState) → Has watch s → Has watch (all_gone ids s)
  all_gone_has [] s h = h
  all_gone_has (id ∷ ids) s h = all_gone_has ids (gone id s) h

  without_owned_has : (deletes : Bool) (session : ℕ) (s : ServerState) → Has watch s → Has watch (without_owned deletes session s)
  without_owned_has true session s h = all_gone_has (ids_of (own_subs session s)) s h
  without_owned_has false session s h = h

  close_answered_keeps : (asker : Asker) (s : ServerState) → Has watch s → Keeps watch (close_answered asker s)
  unfolding close_answered
  close_answered_keeps asker s h = replied_keeps watch asker _ s h

  session_closed_keeps : (asker : Asker) (deletes : Bool) (session : ℕ) (s : ServerState) → Has watch s → Keeps watch (session_closed asker deletes session s)
  unfolding session_closed
  session_closed_keeps asker deletes session s h =
      close_answered_keeps asker (without_session session (without_owned deletes session s)) (without_owned_has deletes session s h)

  close_session_keeps : (asker : Asker) (session : ℕ) (r : CloseSessionRequest) (s : ServerState) → Has watch s → Keeps watch (close_session asker session r s)
  unfolding close_session
  close_session_keeps asker session r s h =
      in_turn watch (session_closed asker r.delete_subscriptions session) (answered_queued bad_session_closed session s)
      (answered_queued_keeps watch bad_session_closed session s h) (session_closed_keeps asker r.delete_subscriptions session)

  -- ---- a message

  done_for_keeps : (row : ℕ → ServerState → Did) (asker : Asker) (answer : Result ℕ ℕ) (s : ServerState) → Has watch s
      → ((session : ℕ) (t : ServerState) → Has watch t → Keeps watch (row session t)) → Keeps watch (done_for row asker answer s)
  done_for_keeps row asker (Ok session) s h kept = kept session s h
  done_for_keeps row asker (Err code) s h kept = faulted_keeps watch asker code s h

  in_session_keeps : (row : ℕ → ServerState → Did) (asker : Asker) (token : Option (List ℕ)) (s : ServerState) → Has watch s
      → ((session : ℕ) (t : ServerState) → Has watch t → Keeps watch (row session t)) → Keeps watch (in_session row asker token s)
  in_session_keeps row asker token s h kept = done_for_keeps row asker (check_answer token asker.conn s.sessions) (noted asker token s) h kept

  in_bound_keeps : (row : ℕ → ServerState → Did) (asker : Asker) (token : Option (List ℕ)) (s : ServerState) → Has watch s
      → ((session : ℕ) (t : ServerState) → Has watch t → Keeps watch (row session t)) → Keeps watch (in_bound row asker token s)
  in_bound_keeps row asker token s h kept = done_for_keeps row asker (bound_answer token asker.conn s.sessions) (noted asker token s) h kept

  sub_served_keeps : (asker : Asker) (r : SubRequest) (one : ℕ) (s : ServerState) → Has watch s → Keeps watch (sub_served asker r one s)
  unfolding sub_served
  sub_served_keeps asker (sub_request.CreateMonitoredItems r) one s h = create_items_keeps asker one r s h
  sub_served_keeps asker (sub_request.SetMonitoringMode r) one s h = set_modes_keeps asker one r s h
  sub_served_keeps asker (sub_request.DeleteMonitoredItems r) one s h = delete_items_keeps asker one r s h
  sub_served_keeps asker (sub_request.CreateSubscription r) one s h = create_sub_keeps asker one r s h
  sub_served_keeps asker (sub_request.ModifySubscription r) one s h = modify_sub_keeps asker one r s h
  sub_served_keeps asker (sub_request.SetPublishingMode r) one s h = set_publishing_keeps asker one r s h
  sub_served_keeps asker (sub_request.Publish r) one s h = publish_keeps watch asker one r s h
  sub_served_keeps asker (sub_request.Republish r) one s h = republish_keeps asker one r s h
  sub_served_keeps asker (sub_request.TransferSubscriptions r) one s h = transfer_subs_keeps asker one r s h
  sub_served_keeps asker (sub_request.DeleteSubscriptions r) one s h = delete_subs_keeps asker one r s h

  session_served_keeps : (asker : Asker) (r : SessionRequest) (s : ServerState) → Has watch s → Keeps watch (session_served asker r s)
  unfolding session_served
  session_served_keeps asker (session_request.OpenSecureChannel r) s h = faulted_keeps watch asker bad_service_unsupported s h
  session_served_keeps asker (session_request.CloseSecureChannel r) s h = faulted_keeps watch asker bad_service_unsupported s h
  session_served_keeps asker (session_request.FindServers r) s h = find_servers_keeps asker r s h
  session_served_keeps asker (session_request.GetEndpoints r) s h = get_endpoints_keeps asker r s h
  session_served_keeps asker (session_request.CreateSession r) s h = create_session_keeps asker r s h
  session_served_keeps asker (session_request.ActivateSession r) s h = activate_session_keeps asker r s h
  session_served_keeps asker (session_request.CloseSession r) s h =
      in_bound_keeps (λ one. close_session asker one r) asker (token_in r.request_header) s h (λ one t kept. close_session_keeps asker one r t kept)
  session_served_keeps asker (session_request.Read r) s h =
      in_session_keeps (λ one. read asker r) asker (token_in r.request_header) s h (λ one t kept. read_keeps asker r t kept)
  session_served_keeps asker (session_request.Call r) s h =
      in_session_keeps (λ one. call asker one r) asker (token_in r.request_header) s h (λ one t kept. call_keeps asker one r t kept)

  request_keeps : (asker : Asker) (r : Request) (s : ServerState) → Has watch s → Keeps watch (served_request asker r s)
  unfolding served_request
  request_keeps asker (request.Session r) s h = session_served_keeps asker r s h
  request_keeps asker (request.Subscription r) s h =
      in_session_keeps (sub_served asker r) asker (token_in (sub_header r)) s h (sub_served_keeps asker r)

  asked_keeps : (conn request : ℕ) (r : Result Request RequestFault) (s : ServerState) → Has watch s → Keeps watch (asked conn request r s)
  asked_keeps conn request (Ok r) s h = request_keeps (asker_of conn request (header_of r).request_handle) r s h
  asked_keeps conn request (Err faults.Header) s h = faulted_keeps watch (asker_of conn request 0) bad_decoding_error s h
  asked_keeps conn request (Err (faults.Service handle)) s h = faulted_keeps watch (asker_of conn request handle) bad_service_unsupported s h
  asked_keeps conn request (Err (faults.Body handle)) s h = faulted_keeps watch (asker_of conn request handle) bad_decoding_error s h
  asked_keeps conn request (Err faults.OutOfMemory) s h = quiet watch s h

  pub requested_keeps : (conn request : ℕ) (body : List ℕ) (s : ServerState) → Has watch s → Keeps watch (requested conn request body s)
  unfolding requested
  requested_keeps conn request body s h = asked_keeps conn request (request_at body) s h
