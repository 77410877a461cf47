-- Each request but Publish is answered last, and all that is said before it answers Publishes that waited.
use Rattle.std.proofs.Common.{◌≡◌, ℕ, ◌+◌, List, [], ◌∷◌, ◌++◌, Bool, true, false, cond, not, length, map, Option, Some, None, refl, sym, ap, ◌∙◌, subst, append_assoc, inl, inr}
use Rattle.std.specs.Prelude.{Result, Ok, Err}
use Rattle.ua_base.specs.Status.{bad_identity_token_rejected, bad_secure_channel_id_invalid, bad_service_unsupported, bad_session_closed, bad_session_id_invalid, bad_too_many_sessions}
use Rattle.sessions.specs.declared.session.Session.{Session}
use Rattle.sessions.specs.declared.fault.SessionFault.{SessionFault}
use Rattle.sessions.specs.declared.fault.SessionFault.TheVariants as session_fault
use Rattle.sessions.specs.Session as one
use Rattle.sessions.specs.Session.{has_token, is_numbered}
use Rattle.sessions.specs.Table.{activate_answer, bound_answer, check_answer, is_full, session_at, session_of}
use Rattle.sessions.specs.Table as table
use Rattle.ua_base.specs.declared.modes.Mode.{Mode}
use Rattle.ua_base.specs.declared.modes.Timestamps.{Timestamps}
use Rattle.ua_structures.specs.declared.header.ResponseHeader.{ResponseHeader}
use Rattle.ua_session_msgs.specs.declared.attribute.ReadRequest.{ReadRequest}
use Rattle.ua_session_msgs.specs.declared.method.CallRequest.{CallRequest}
use Rattle.ua_session_msgs.specs.declared.discovery.FindServersRequest.{FindServersRequest}
use Rattle.ua_session_msgs.specs.declared.discovery.GetEndpointsRequest.{GetEndpointsRequest}
use Rattle.ua_session_msgs.specs.declared.session.ActivateSessionRequest.{ActivateSessionRequest}
use Rattle.ua_session_msgs.specs.declared.session.CloseSessionRequest.{CloseSessionRequest}
use Rattle.ua_session_msgs.specs.declared.session.CreateSessionRequest.{CreateSessionRequest}
use Rattle.ua_session_msgs.specs.declared.session.ActivateSessionResponse.{ActivateSessionResponse}
use Rattle.ua_session_msgs.specs.declared.session.CreateSessionResponse.{CreateSessionResponse}
use Rattle.ua_session_msgs.specs.declared.reply.SessionReply.TheVariants as session_reply
use Rattle.ua_services.specs.declared.reply.Reply.TheVariants as reply
use Rattle.ua_session_msgs.specs.declared.request.SessionRequest.{SessionRequest}
use Rattle.ua_session_msgs.specs.declared.request.SessionRequest.TheVariants as session_request
use Rattle.ua_sub_msgs.specs.declared.item.CreateMonitoredItemsRequest.{CreateMonitoredItemsRequest}
use Rattle.ua_sub_msgs.specs.declared.item.DeleteMonitoredItemsRequest.{DeleteMonitoredItemsRequest}
use Rattle.ua_sub_msgs.specs.declared.item.MonitoredItemCreateRequest.{MonitoredItemCreateRequest}
use Rattle.ua_sub_msgs.specs.declared.item.SetMonitoringModeRequest.{SetMonitoringModeRequest}
use Rattle.ua_sub_msgs.specs.declared.publish.RepublishRequest.{RepublishRequest}
use Rattle.ua_sub_msgs.specs.declared.subscription.CreateSubscriptionRequest.{CreateSubscriptionRequest}
use Rattle.ua_sub_msgs.specs.declared.subscription.DeleteSubscriptionsRequest.{DeleteSubscriptionsRequest}
use Rattle.ua_sub_msgs.specs.declared.subscription.ModifySubscriptionRequest.{ModifySubscriptionRequest}
use Rattle.ua_sub_msgs.specs.declared.subscription.SetPublishingModeRequest.{SetPublishingModeRequest}
use Rattle.ua_sub_msgs.specs.declared.subscription.TransferSubscriptionsRequest.{TransferSubscriptionsRequest}
use Rattle.ua_sub_msgs.specs.declared.request.SubRequest.{SubRequest}
use Rattle.ua_sub_msgs.specs.declared.request.SubRequest.TheVariants as sub_request
use Rattle.ua_services.specs.declared.reply.Reply.{Reply}
use Rattle.ua_services.specs.declared.request.Request.{Request}
use Rattle.ua_services.specs.declared.request.Request.TheVariants as request
use Rattle.ua_services.specs.Requests.{sub_header}
use Rattle.subscription.specs.declared.spec.ItemSpec.{ItemSpec}
use Rattle.subscription.specs.declared.spec.SubSpec.{SubSpec}
use Rattle.subscription.specs.Calls.{modified}
use Rattle.subscription.specs.State.{SubState}
use Rattle.server_rules.specs.declared.conn.Asker.{Asker}
use Rattle.server_rules.specs.State.{ServerState, with_sub}
use Rattle.server_rules.specs.Said.{Did, and_then, each}
use Rattle.server_rules.specs.Answering.{fault_reply, faulted, good_header, replied}
use Rattle.server_rules.specs.Moves.{answered_queued, gone, own_subs}
use Rattle.server_rules.specs.Operations.{after_each, answered, answers, done, leaves, operations_fault, own_sub, passes}
use Rattle.server_rules.specs.Reading.{call, call_all, call_reply, called, nodes_of, read, read_all, read_checked, read_reply, value_read}
use Rattle.server_rules.specs.Items.{create_all, create_checked, create_items, create_reply, delete_all, delete_checked, delete_items, delete_reply, item_judged, item_known, item_result, modes_checked, modes_reply, set_all, set_modes, with_item, with_made, with_mode_set, without_item_of}
use Rattle.server_rules.specs.Subscriptions.{create_one, create_sub, created_reply, delete_all as subs_deleted, delete_one, delete_subs, deleted_if, deleted_reply, enable_all, enabled_if, modify_checked, modified_reply, modify_one, modify_sub, new_checked, publishing_reply, republish, republish_checked, republish_one, republished_reply, set_publishing, sub_known, transfer_all, transfer_one, transfer_reply, transfer_result, transfer_subs, with_new_sub, with_publishing}
use Rattle.server_rules.specs.Sessions.{activate_session, activation_answered, activation_done, all_gone, close_answered, close_session, create_session, created_response, creation_answered, endpoint, find_servers, get_endpoints, ids_of, is_anonymous, nonce, servers_listed, session_activated, session_closed, session_created, session_timeout, token_at, with_session, without_owned, without_session}
use Rattle.server_rules.specs.Requests.{done_for, in_bound, in_session, noted, served, session_served, sub_served, token_in}
use Rattle.server_laws.specs.Lockstep.{AllWait, IsAnswered, IsAtOnce, IsAtOnceSub, IsGood}
use Rattle.server_laws.proofs.Kept.{results_kept}
use Rattle.server_laws.proofs.Silent.{Tells, deleted_tells, each_tells, queued_tells, replied_same, says_join, transferred_tells, numbers_of, replied_numbers}
use Rattle.server_laws.proofs.Waiting.{activated_waits, created_waits, filter_waits, first_waits, owned_same, requested_waits}

-- ---- rows

-- and the same connections are there, when it is answered too
pub record KeptRow (P : ℕ → Type 0) (asker : Asker) (Good : Reply → Type 0) (s : ServerState) (did : Did) : Type 0 where
  pub answered : IsAnswered P asker Good did
  pub numbers : numbers_of did.state ≡ numbers_of s
  pub from_numbers : numbers_of answered.from ≡ numbers_of s

abbrev pub Row : (ℕ → Type 0) → Asker → (Reply → Type 0) → ServerState → Did → Type 0
Row P asker Good s did = AllWait P s.sessions.sessions → KeptRow P asker Good s did

-- any fault is good
abbrev pub Fine : (Reply → Type 0) → Type 0
Fine Good = (handle code : ℕ) (s : ServerState) → Good (fault_reply handle code s)

pub single : (P : ℕ → Type 0) (asker : Asker) (Good : Reply → Type 0) (s after : ServerState) (answer : Reply) → numbers_of after ≡ numbers_of s
    → (AllWait P s.sessions.sessions → AllWait P after.sessions.sessions) → Good answer → Row P asker Good s (replied asker answer after)
single P asker Good s after answer same on good h = record {
  answered = record {
    front = [];
    answer = answer;
    from = after;
    said = refl;
    on = tt;
    good = good;
    waits = subst (λ sessions. AllWait P sessions.sessions) (sym (replied_same asker answer after)) (on h);
  };
  numbers = replied_numbers asker answer after ∙ same;
  from_numbers = same;
}

pub fault_row : (P : ℕ → Type 0) (asker : Asker) (Good : Reply → Type 0) (code : ℕ) (s : ServerState) → Fine Good → Row P asker Good s (faulted asker code s)
fault_row P asker Good code s fine = single P asker Good s s (fault_reply asker.handle code s) refl (λ h. h) (fine asker.handle code s)

-- others are answered before
pub behind : (P : ℕ → Type 0) (asker : Asker) (Good : Reply → Type 0) (s : ServerState) (rule : ServerState → Did) (did : Did) → Tells P s did
    → Row P asker Good did.state (rule did.state) → Row P asker Good s (and_then rule did)
behind P asker Good s rule did first later h =
    let one = first h in
    let other = later one.told.waits in
    let last = other.answered in
    record {
      answered = record {
        front = did.said ++ last.front;
        answer = last.answer;
        from = last.from;
        said = ap (λ l. did.said ++ l) last.said ∙ sym (append_assoc did.said last.front (replied asker last.answer last.from).said);
        on = says_join P did.said last.front one.told.on last.on;
        good = last.good;
        waits = last.waits;
      };
      numbers = other.numbers ∙ one.numbers;
      from_numbers = other.from_numbers ∙ one.numbers;
    }

pub from_row : (P : ℕ → Type 0) (asker : Asker) (Good : Reply → Type 0) (s before : ServerState) (did : Did) → numbers_of before ≡ numbers_of s
    → (AllWait P s.sessions.sessions → AllWait P before.sessions.sessions) → Row P asker Good before did → Row P asker Good s did
from_row P asker Good s before did same on row h =
    let one = row (on h) in record { answered = one.answered; numbers = one.numbers ∙ same; from_numbers = one.from_numbers ∙ same }

either_row : (P : ℕ → Type 0) (asker : Asker) (Good : Reply → Type 0) (b : Bool) (s : ServerState) (first other : Did) → Row P asker Good s first
    → Row P asker Good s other → Row P asker Good s (cond b first other)
either_row P asker Good true s first other h rest = h
either_row P asker Good false s first other h rest = rest

done_row : {A : Type 0} (P : ℕ → Type 0) (asker : Asker) (Good : Reply → Type 0) (rule : A → ServerState → Did) (result : Result A ℕ) (s : ServerState) → Fine Good
    → ((found : A) → Row P asker Good s (rule found s)) → Row P asker Good s (done asker rule result s)
done_row P asker Good rule (Ok found) s fine on = on found
done_row P asker Good rule (Err code) s fine on = fault_row P asker Good code s fine

-- the sessions and the connections' numbers are as they were
pub record Calm (after before : ServerState) : Type 0 where
  pub sessions : after.sessions ≡ before.sessions
  pub conns : numbers_of after ≡ numbers_of before

-- an answer after steps that leave them
stepped : {A : Type 0} (step : A → ServerState → ServerState) (list : List A) (s : ServerState) → ((x : A) (t : ServerState) → Calm (step x t) t)
    → Calm (after_each step list s) s
stepped step [] s on = record { sessions = refl; conns = refl }
stepped step (x ∷ more) s on =
    let one = on x s in
    let rest = stepped step more (step x s) on in
    record { sessions = rest.sessions ∙ one.sessions; conns = rest.conns ∙ one.conns }

after_steps : {A : Type 0} (P : ℕ → Type 0) (asker : Asker) (Good : Reply → Type 0) (step : A → ServerState → ServerState) (list : List A) (s : ServerState) (answer : Reply)
    → ((x : A) (t : ServerState) → Calm (step x t) t) → Good answer → Row P asker Good s (replied asker answer (after_each step list s))
after_steps P asker Good step list s answer on good =
    let calm = stepped step list s on in
    single P asker Good s (after_each step list s) answer calm.conns
    (λ h. subst (λ sessions. AllWait P sessions.sessions) (sym calm.sessions) h) good

-- ---- what is good

abbrev pub GoodFor : Request → ServerState → Reply → Type 0
GoodFor r s answer = IsGood r s.subs answer

fine_for : (r : Request) (subs : List SubState) → Fine (IsGood r subs)
fine_for r subs handle code s = (inr refl, tt)

-- ---- services of items and subscriptions

made_same : (sub : ℕ) (made : Result (ℕ × ItemSpec) ℕ) (s : ServerState) → Calm (with_made sub made s) s
made_same sub (Ok made) s = record { sessions = refl; conns = refl }
made_same sub (Err code) s = record { sessions = refl; conns = refl }

item_same : (sub : ℕ) (stamps : Timestamps) (asked : MonitoredItemCreateRequest) (s : ServerState) → Calm (with_item sub stamps asked s) s
unfolding with_item
item_same sub stamps asked s = made_same sub (item_judged sub stamps asked s) s

mode_same : (sub : ℕ) (mode : Mode) (id : ℕ) (s : ServerState) → Calm (with_mode_set sub mode id s) s
unfolding with_mode_set
mode_same sub mode id s = record { sessions = refl; conns = refl }

removed_same : (sub id : ℕ) (s : ServerState) → Calm (without_item_of sub id s) s
unfolding without_item_of
removed_same sub id s = record { sessions = refl; conns = refl }

enabled_same : (enabled : Bool) (found : Option SubState) (id : ℕ) (s : ServerState) → Calm (enabled_if enabled found id s) s
enabled_same enabled None id s = record { sessions = refl; conns = refl }
enabled_same enabled (Some sub) id s = record { sessions = refl; conns = refl }

publishing_same : (session : ℕ) (enabled : Bool) (id : ℕ) (s : ServerState) → Calm (with_publishing session enabled id s) s
unfolding with_publishing
publishing_same session enabled id s = enabled_same enabled (own_sub session id s) id s

create_items_row : (P : ℕ → Type 0) (asker : Asker) (session : ℕ) (r : CreateMonitoredItemsRequest) (subs : List SubState) (s : ServerState)
    → Row P asker (IsGood (request.Subscription (sub_request.CreateMonitoredItems r)) subs) s (create_items asker session r s)
unfolding create_items
create_items_row P asker session r subs s =
    done_row P asker (IsGood (request.Subscription (sub_request.CreateMonitoredItems r)) subs) (create_all asker r.subscription_id r.items_to_create) (create_checked session r s) s
    (fine_for (request.Subscription (sub_request.CreateMonitoredItems r)) subs)
    (λ stamps. after_steps P asker (IsGood (request.Subscription (sub_request.CreateMonitoredItems r)) subs) (with_item r.subscription_id stamps) r.items_to_create s
    (create_reply (answers (item_result r.subscription_id stamps) (with_item r.subscription_id stamps) r.items_to_create s)
    (good_header asker.handle (after_each (with_item r.subscription_id stamps) r.items_to_create s)))
    (item_same r.subscription_id stamps) (inl refl, tt))

set_modes_row : (P : ℕ → Type 0) (asker : Asker) (session : ℕ) (r : SetMonitoringModeRequest) (subs : List SubState) (s : ServerState)
    → Row P asker (IsGood (request.Subscription (sub_request.SetMonitoringMode r)) subs) s (set_modes asker session r s)
unfolding set_modes
set_modes_row P asker session r subs s =
    done_row P asker (IsGood (request.Subscription (sub_request.SetMonitoringMode r)) subs) (set_all asker r.subscription_id r.monitored_item_ids) (modes_checked session r s) s
    (fine_for (request.Subscription (sub_request.SetMonitoringMode r)) subs)
    (λ mode. after_steps P asker (IsGood (request.Subscription (sub_request.SetMonitoringMode r)) subs) (with_mode_set r.subscription_id mode) r.monitored_item_ids s
    (modes_reply (answers (item_known r.subscription_id) (with_mode_set r.subscription_id mode) r.monitored_item_ids s)
    (good_header asker.handle (after_each (with_mode_set r.subscription_id mode) r.monitored_item_ids s)))
    (mode_same r.subscription_id mode) (inl refl, tt))

delete_items_row : (P : ℕ → Type 0) (asker : Asker) (session : ℕ) (r : DeleteMonitoredItemsRequest) (subs : List SubState) (s : ServerState)
    → Row P asker (IsGood (request.Subscription (sub_request.DeleteMonitoredItems r)) subs) s (delete_items asker session r s)
unfolding delete_items
delete_items_row P asker session r subs s =
    done_row P asker (IsGood (request.Subscription (sub_request.DeleteMonitoredItems r)) subs) (delete_all asker r.subscription_id r.monitored_item_ids) (delete_checked session r s) s
    (fine_for (request.Subscription (sub_request.DeleteMonitoredItems r)) subs)
    (λ found. after_steps P asker (IsGood (request.Subscription (sub_request.DeleteMonitoredItems r)) subs) (without_item_of r.subscription_id) r.monitored_item_ids s
    (delete_reply (answers (item_known r.subscription_id) (without_item_of r.subscription_id) r.monitored_item_ids s)
    (good_header asker.handle (after_each (without_item_of r.subscription_id) r.monitored_item_ids s)))
    (removed_same r.subscription_id) (inl refl, tt))

new_row : (P : ℕ → Type 0) (asker : Asker) (session : ℕ) (Good : Reply → Type 0) (spec : SubSpec) (s : ServerState)
    → ((header : ResponseHeader) → Good (created_reply spec header)) → Row P asker Good s (create_one asker session spec s)
unfolding with_new_sub
new_row P asker session Good spec s good =
    single P asker Good s (with_new_sub session spec s) (created_reply spec (good_header asker.handle (with_new_sub session spec s)))
    refl (λ h. subst (AllWait P) (sym (owned_same spec.id (session_at session s.sessions.sessions) (table.disowned spec.id s.sessions))) h)
    (good (good_header asker.handle (with_new_sub session spec s)))

create_sub_row : (P : ℕ → Type 0) (asker : Asker) (session : ℕ) (r : CreateSubscriptionRequest) (subs : List SubState) (s : ServerState)
    → Row P asker (IsGood (request.Subscription (sub_request.CreateSubscription r)) subs) s (create_sub asker session r s)
unfolding create_sub
create_sub_row P asker session r subs s =
    done_row P asker (IsGood (request.Subscription (sub_request.CreateSubscription r)) subs) (create_one asker session) (new_checked r s) s
    (fine_for (request.Subscription (sub_request.CreateSubscription r)) subs)
    (λ spec. new_row P asker session (IsGood (request.Subscription (sub_request.CreateSubscription r)) subs) spec s (λ header. (inl refl, tt)))

modify_sub_row : (P : ℕ → Type 0) (asker : Asker) (session : ℕ) (r : ModifySubscriptionRequest) (subs : List SubState) (s : ServerState)
    → Row P asker (IsGood (request.Subscription (sub_request.ModifySubscription r)) subs) s (modify_sub asker session r s)
unfolding modify_sub
modify_sub_row P asker session r subs s =
    done_row P asker (IsGood (request.Subscription (sub_request.ModifySubscription r)) subs) (modify_one asker) (modify_checked session r s) s
    (fine_for (request.Subscription (sub_request.ModifySubscription r)) subs)
    (λ spec. single P asker (IsGood (request.Subscription (sub_request.ModifySubscription r)) subs) s (with_sub spec.id (modified spec s.age) s)
    (modified_reply spec (good_header asker.handle (with_sub spec.id (modified spec s.age) s))) refl (λ h. h) (inl refl, tt))

set_publishing_row : (P : ℕ → Type 0) (asker : Asker) (session : ℕ) (r : SetPublishingModeRequest) (subs : List SubState) (s : ServerState)
    → Row P asker (IsGood (request.Subscription (sub_request.SetPublishingMode r)) subs) s (set_publishing asker session r s)
unfolding set_publishing
set_publishing_row P asker session r subs s =
    done_row P asker (IsGood (request.Subscription (sub_request.SetPublishingMode r)) subs) (enable_all asker session r.publishing_enabled r.subscription_ids)
    (passes (operations_fault (length r.subscription_ids))) s (fine_for (request.Subscription (sub_request.SetPublishingMode r)) subs)
    (λ found. after_steps P asker (IsGood (request.Subscription (sub_request.SetPublishingMode r)) subs) (with_publishing session r.publishing_enabled) r.subscription_ids s
    (publishing_reply (answers (sub_known session) (with_publishing session r.publishing_enabled) r.subscription_ids s)
    (good_header asker.handle (after_each (with_publishing session r.publishing_enabled) r.subscription_ids s)))
    (publishing_same session r.publishing_enabled) (inl refl, tt))

republish_row : (P : ℕ → Type 0) (asker : Asker) (session : ℕ) (r : RepublishRequest) (subs : List SubState) (s : ServerState)
    → Row P asker (IsGood (request.Subscription (sub_request.Republish r)) subs) s (republish asker session r s)
unfolding republish
republish_row P asker session r subs s =
    done_row P asker (IsGood (request.Subscription (sub_request.Republish r)) subs) (republish_one asker) (republish_checked session r s) s
    (fine_for (request.Subscription (sub_request.Republish r)) subs)
    (λ message. single P asker (IsGood (request.Subscription (sub_request.Republish r)) subs) s s (republished_reply message (good_header asker.handle s)) refl (λ h. h) (inl refl, tt))

-- rules in turn, and an answer behind them
pub all_row : (P : ℕ → Type 0) (asker : Asker) (Good : Reply → Type 0) (answer : ResponseHeader → Reply) (rule : ℕ → ServerState → Did) (ids : List ℕ) (s : ServerState)
    → ((id : ℕ) (t : ServerState) → Tells P t (rule id t)) → ((header : ResponseHeader) → Good (answer header))
    → Row P asker Good s (and_then (answered asker answer) (each rule ids s))
all_row P asker Good answer rule ids s on good =
    behind P asker Good s (answered asker answer) (each rule ids s) (each_tells P rule ids s on)
    (single P asker Good (each rule ids s).state (each rule ids s).state (answer (good_header asker.handle (each rule ids s).state)) refl (λ h. h)
    (good (good_header asker.handle (each rule ids s).state)))

pub transfer_tells : (P : ℕ → Type 0) (session id : ℕ) (s : ServerState) → Tells P s (transfer_one session id s)
unfolding transfer_one
transfer_tells P session id s = transferred_tells P id session s

transfer_subs_row : (P : ℕ → Type 0) (asker : Asker) (session : ℕ) (r : TransferSubscriptionsRequest) (s : ServerState)
    → Row P asker (IsGood (request.Subscription (sub_request.TransferSubscriptions r)) s.subs) s (transfer_subs asker session r s)
unfolding transfer_subs
transfer_subs_row P asker session r s =
    done_row P asker (IsGood (request.Subscription (sub_request.TransferSubscriptions r)) s.subs) (transfer_all asker session r.subscription_ids)
    (passes (operations_fault (length r.subscription_ids))) s (fine_for (request.Subscription (sub_request.TransferSubscriptions r)) s.subs)
    (λ found. all_row P asker (IsGood (request.Subscription (sub_request.TransferSubscriptions r)) s.subs)
    (transfer_reply (answers (transfer_result session) (leaves (transfer_one session)) r.subscription_ids s)) (transfer_one session) r.subscription_ids s
    (transfer_tells P session) (λ header. (inl refl, results_kept session r.subscription_ids s)))

deleted_if_tells : (P : ℕ → Type 0) (found : Option SubState) (id : ℕ) (s : ServerState) → Tells P s (deleted_if found id s)
deleted_if_tells P None id s h = record { told = record { on = tt; waits = h }; numbers = refl }
deleted_if_tells P (Some sub) id s h = deleted_tells P id s h

delete_tells : (P : ℕ → Type 0) (session id : ℕ) (s : ServerState) → Tells P s (delete_one session id s)
unfolding delete_one
delete_tells P session id s = deleted_if_tells P (own_sub session id s) id s

delete_subs_row : (P : ℕ → Type 0) (asker : Asker) (session : ℕ) (r : DeleteSubscriptionsRequest) (subs : List SubState) (s : ServerState)
    → Row P asker (IsGood (request.Subscription (sub_request.DeleteSubscriptions r)) subs) s (delete_subs asker session r s)
unfolding delete_subs
delete_subs_row P asker session r subs s =
    done_row P asker (IsGood (request.Subscription (sub_request.DeleteSubscriptions r)) subs) (subs_deleted asker session r.subscription_ids)
    (passes (operations_fault (length r.subscription_ids))) s (fine_for (request.Subscription (sub_request.DeleteSubscriptions r)) subs)
    (λ found. all_row P asker (IsGood (request.Subscription (sub_request.DeleteSubscriptions r)) subs)
    (deleted_reply (answers (sub_known session) (leaves (delete_one session)) r.subscription_ids s)) (delete_one session) r.subscription_ids s
    (delete_tells P session) (λ header. (inl refl, tt)))

-- ---- the other services

read_row : (P : ℕ → Type 0) (asker : Asker) (r : ReadRequest) (subs : List SubState) (s : ServerState)
    → Row P asker (IsGood (request.Session (session_request.Read r)) subs) s (read asker r s)
unfolding read
read_row P asker r subs s =
    done_row P asker (IsGood (request.Session (session_request.Read r)) subs) (read_all asker r.nodes_to_read) (read_checked r) s
    (fine_for (request.Session (session_request.Read r)) subs)
    (λ stamps. single P asker (IsGood (request.Session (session_request.Read r)) subs) s s
    (read_reply (map (value_read (nodes_of s) stamps) r.nodes_to_read) (good_header asker.handle s)) refl (λ h. h) (inl refl, tt))

call_row : (P : ℕ → Type 0) (asker : Asker) (session : ℕ) (r : CallRequest) (subs : List SubState) (s : ServerState)
    → Row P asker (IsGood (request.Session (session_request.Call r)) subs) s (call asker session r s)
unfolding call
call_row P asker session r subs s =
    done_row P asker (IsGood (request.Session (session_request.Call r)) subs) (call_all asker session r.methods_to_call)
    (passes (operations_fault (length r.methods_to_call))) s (fine_for (request.Session (session_request.Call r)) subs)
    (λ found. single P asker (IsGood (request.Session (session_request.Call r)) subs) s s
    (call_reply (map (called session s) r.methods_to_call) (good_header asker.handle s)) refl (λ h. h) (inl refl, tt))

-- ---- sessions

servers_row : (P : ℕ → Type 0) (asker : Asker) (r : FindServersRequest) (subs : List SubState) (s : ServerState)
    → Row P asker (IsGood (request.Session (session_request.FindServers r)) subs) s (find_servers asker r s)
unfolding find_servers
servers_row P asker r subs s =
    single P asker (IsGood (request.Session (session_request.FindServers r)) subs) s s
    (reply.Session (session_reply.FindServers (record { response_header = good_header asker.handle s; servers = servers_listed r.server_uris s.config.members })))
    refl (λ h. h) (inl refl, tt)

endpoints_row : (P : ℕ → Type 0) (asker : Asker) (r : GetEndpointsRequest) (subs : List SubState) (s : ServerState)
    → Row P asker (IsGood (request.Session (session_request.GetEndpoints r)) subs) s (get_endpoints asker r s)
unfolding get_endpoints
endpoints_row P asker r subs s =
    single P asker (IsGood (request.Session (session_request.GetEndpoints r)) subs) s s
    (reply.Session (session_reply.GetEndpoints (record { response_header = good_header asker.handle s; endpoints = endpoint s.config ∷ [] })))
    refl (λ h. h) (inl refl, tt)

created_row : (P : ℕ → Type 0) (asker : Asker) (Good : Reply → Type 0) (uri : Option (List ℕ)) (timeout : ℕ) (s : ServerState)
    → ((answer : CreateSessionResponse) → Good (reply.Session (session_reply.CreateSession answer))) → Row P asker Good s (session_created asker uri timeout s)
unfolding creation_answered
created_row P asker Good uri timeout s good =
    single P asker Good s (with_session asker uri timeout s)
    (reply.Session (session_reply.CreateSession (created_response asker (s.sessions.last_counter + 1) timeout (with_session asker uri timeout s))))
    refl (λ h. created_waits P (s.sessions.last_counter + 1) asker.conn uri timeout s.age s.sessions.sessions h)
    (good (created_response asker (s.sessions.last_counter + 1) timeout (with_session asker uri timeout s)))

create_session_row : (P : ℕ → Type 0) (asker : Asker) (r : CreateSessionRequest) (subs : List SubState) (s : ServerState)
    → Row P asker (IsGood (request.Session (session_request.CreateSession r)) subs) s (create_session asker r s)
unfolding create_session
create_session_row P asker r subs s =
    either_row P asker (IsGood (request.Session (session_request.CreateSession r)) subs) (is_full s.sessions) s _ _
    (fault_row P asker (IsGood (request.Session (session_request.CreateSession r)) subs) bad_too_many_sessions s (fine_for (request.Session (session_request.CreateSession r)) subs))
    (created_row P asker (IsGood (request.Session (session_request.CreateSession r)) subs) r.client_description.application_uri (session_timeout r) s (λ answer. (inl refl, tt)))

-- an activation is answered, since no memory is wanted for it here
no_memory : (b : Bool) (counter code : ℕ) → cond b (Ok counter) (Err (session_fault.Code code)) ≡ Err session_fault.OutOfMemory → ⊥
no_memory true counter code is = absurd cc
no_memory false counter code is = absurd cc

never_memory : (conn : ℕ) (found : Option Session) → table.answer_of (session_fault.Code bad_session_id_invalid) (one.activate_answer conn) found ≡ Err session_fault.OutOfMemory → ⊥
never_memory conn None is = absurd cc
never_memory conn (Some session) is = no_memory (one.may_activate conn session) session.counter bad_secure_channel_id_invalid is

activation_row : (P : ℕ → Type 0) (asker : Asker) (Good : Reply → Type 0) (result : Result ℕ SessionFault) (s : ServerState) → (result ≡ Err session_fault.OutOfMemory → ⊥)
    → Fine Good → ((answer : ActivateSessionResponse) → Good (reply.Session (session_reply.ActivateSession answer))) → Row P asker Good s (activation_answered asker result s)
unfolding activation_done
activation_row P asker Good (Ok counter) s never fine good =
    single P asker Good s s
    (reply.Session (session_reply.ActivateSession (record { response_header = good_header asker.handle s; server_nonce = nonce; results = []; diagnostic_infos = record {} })))
    refl (λ h. h) (good (record { response_header = good_header asker.handle s; server_nonce = nonce; results = []; diagnostic_infos = record {} }))
activation_row P asker Good (Err (session_fault.Code code)) s never fine good = fault_row P asker Good code s fine
activation_row P asker Good (Err session_fault.OutOfMemory) s never fine good = absurd (never refl)

activated_row : (P : ℕ → Type 0) (asker : Asker) (Good : Reply → Type 0) (token : Option (List ℕ)) (s : ServerState) → Fine Good
    → ((answer : ActivateSessionResponse) → Good (reply.Session (session_reply.ActivateSession answer))) → Row P asker Good s (session_activated asker token s)
unfolding session_activated
activated_row P asker Good token s fine good =
    from_row P asker Good s (record s { sessions = table.activated token asker.conn s.age s.sessions }) _ refl
    (λ h. first_waits P (has_token s.sessions.boot token) (one.activated asker.conn s.age) s.sessions.sessions (activated_waits P asker.conn s.age) h)
    (activation_row P asker Good (activate_answer token asker.conn s.sessions) (record s { sessions = table.activated token asker.conn s.age s.sessions })
    (never_memory asker.conn (session_of token s.sessions)) fine good)

activate_row : (P : ℕ → Type 0) (asker : Asker) (r : ActivateSessionRequest) (subs : List SubState) (s : ServerState)
    → Row P asker (IsGood (request.Session (session_request.ActivateSession r)) subs) s (activate_session asker r s)
unfolding activate_session
activate_row P asker r subs s =
    either_row P asker (IsGood (request.Session (session_request.ActivateSession r)) subs) (is_anonymous r.user_identity_token) s _ _
    (activated_row P asker (IsGood (request.Session (session_request.ActivateSession r)) subs) (token_at r.request_header.authentication_token) s
    (fine_for (request.Session (session_request.ActivateSession r)) subs) (λ answer. (inl refl, tt)))
    (fault_row P asker (IsGood (request.Session (session_request.ActivateSession r)) subs) bad_identity_token_rejected s (fine_for (request.Session (session_request.ActivateSession r)) subs))

all_gone_same : (ids : List ℕ) (s : ServerState) → (all_gone ids s).sessions.sessions ≡ s.sessions.sessions
all_gone_same [] s = refl
all_gone_same (id ∷ ids) s = all_gone_same ids (gone id s)

without_owned_same : (deletes : Bool) (session : ℕ) (s : ServerState) → (without_owned deletes session s).sessions.sessions ≡ s.sessions.sessions
without_owned_same true session s = all_gone_same (ids_of (own_subs session s)) s
without_owned_same false session s = refl

all_gone_conns : (ids : List ℕ) (s : ServerState) → numbers_of (all_gone ids s) ≡ numbers_of s
all_gone_conns [] s = refl
all_gone_conns (id ∷ ids) s = all_gone_conns ids (gone id s)

without_owned_conns : (deletes : Bool) (session : ℕ) (s : ServerState) → numbers_of (without_owned deletes session s) ≡ numbers_of s
without_owned_conns true session s = all_gone_conns (ids_of (own_subs session s)) s
without_owned_conns false session s = refl

session_closed_row : (P : ℕ → Type 0) (asker : Asker) (Good : Reply → Type 0) (deletes : Bool) (session : ℕ) (s : ServerState)
    → ((header : ResponseHeader) → Good (reply.Session (session_reply.CloseSession header))) → Row P asker Good s (session_closed asker deletes session s)
unfolding session_closed close_answered
session_closed_row P asker Good deletes session s good =
    let after : ServerState = without_session session (without_owned deletes session s) in
    single P asker Good s after (reply.Session (session_reply.CloseSession (good_header asker.handle after)))
    (without_owned_conns deletes session s)
    (λ h. filter_waits P (λ one. not (is_numbered session one)) (without_owned deletes session s).sessions.sessions
    (subst (AllWait P) (sym (without_owned_same deletes session s)) h))
    (good (good_header asker.handle after))

close_session_row : (P : ℕ → Type 0) (asker : Asker) (session : ℕ) (r : CloseSessionRequest) (subs : List SubState) (s : ServerState)
    → Row P asker (IsGood (request.Session (session_request.CloseSession r)) subs) s (close_session asker session r s)
unfolding close_session
close_session_row P asker session r subs s =
    behind P asker (IsGood (request.Session (session_request.CloseSession r)) subs) s (session_closed asker r.delete_subscriptions session)
    (answered_queued bad_session_closed session s) (queued_tells P bad_session_closed session s)
    (session_closed_row P asker (IsGood (request.Session (session_request.CloseSession r)) subs) r.delete_subscriptions session
    (answered_queued bad_session_closed session s).state (λ header. (inl refl, tt)))

-- ---- requests

pub noted_waits : (P : ℕ → Type 0) (asker : Asker) (token : Option (List ℕ)) (s : ServerState) → AllWait P s.sessions.sessions → AllWait P (noted asker token s).sessions.sessions
noted_waits P asker token s h = first_waits P (has_token s.sessions.boot token) (one.requested asker.conn s.age) s.sessions.sessions (requested_waits P asker.conn s.age) h

done_for_row : (P : ℕ → Type 0) (asker : Asker) (Good : Reply → Type 0) (row : ℕ → ServerState → Did) (answer : Result ℕ ℕ) (s : ServerState) → Fine Good
    → ((session : ℕ) → Row P asker Good s (row session s)) → Row P asker Good s (done_for row asker answer s)
done_for_row P asker Good row (Ok session) s fine on = on session
done_for_row P asker Good row (Err code) s fine on = fault_row P asker Good code s fine

in_session_row : (P : ℕ → Type 0) (asker : Asker) (Good : Reply → Type 0) (row : ℕ → ServerState → Did) (token : Option (List ℕ)) (s : ServerState) → Fine Good
    → ((session : ℕ) → Row P asker Good (noted asker token s) (row session (noted asker token s))) → Row P asker Good s (in_session row asker token s)
in_session_row P asker Good row token s fine on =
    from_row P asker Good s (noted asker token s) _ refl (noted_waits P asker token s)
    (done_for_row P asker Good row (check_answer token asker.conn s.sessions) (noted asker token s) fine on)

in_bound_row : (P : ℕ → Type 0) (asker : Asker) (Good : Reply → Type 0) (row : ℕ → ServerState → Did) (token : Option (List ℕ)) (s : ServerState) → Fine Good
    → ((session : ℕ) → Row P asker Good (noted asker token s) (row session (noted asker token s))) → Row P asker Good s (in_bound row asker token s)
in_bound_row P asker Good row token s fine on =
    from_row P asker Good s (noted asker token s) _ refl (noted_waits P asker token s)
    (done_for_row P asker Good row (bound_answer token asker.conn s.sessions) (noted asker token s) fine on)

sub_served_row : (P : ℕ → Type 0) (asker : Asker) (r : SubRequest) (session : ℕ) (s : ServerState) → IsAtOnceSub r
    → Row P asker (IsGood (request.Subscription r) s.subs) s (sub_served asker r session s)
unfolding sub_served
sub_served_row P asker (sub_request.CreateMonitoredItems r) session s at_once = create_items_row P asker session r s.subs s
sub_served_row P asker (sub_request.SetMonitoringMode r) session s at_once = set_modes_row P asker session r s.subs s
sub_served_row P asker (sub_request.DeleteMonitoredItems r) session s at_once = delete_items_row P asker session r s.subs s
sub_served_row P asker (sub_request.CreateSubscription r) session s at_once = create_sub_row P asker session r s.subs s
sub_served_row P asker (sub_request.ModifySubscription r) session s at_once = modify_sub_row P asker session r s.subs s
sub_served_row P asker (sub_request.SetPublishingMode r) session s at_once = set_publishing_row P asker session r s.subs s
sub_served_row P asker (sub_request.Publish r) session s at_once = absurd at_once
sub_served_row P asker (sub_request.Republish r) session s at_once = republish_row P asker session r s.subs s
sub_served_row P asker (sub_request.TransferSubscriptions r) session s at_once = transfer_subs_row P asker session r s
sub_served_row P asker (sub_request.DeleteSubscriptions r) session s at_once = delete_subs_row P asker session r s.subs s

session_served_row : (P : ℕ → Type 0) (asker : Asker) (r : SessionRequest) (s : ServerState) → Row P asker (IsGood (request.Session r) s.subs) s (session_served asker r s)
unfolding session_served
session_served_row P asker (session_request.OpenSecureChannel r) s =
    fault_row P asker _ bad_service_unsupported s (fine_for (request.Session (session_request.OpenSecureChannel r)) s.subs)
session_served_row P asker (session_request.CloseSecureChannel r) s =
    fault_row P asker _ bad_service_unsupported s (fine_for (request.Session (session_request.CloseSecureChannel r)) s.subs)
session_served_row P asker (session_request.FindServers r) s = servers_row P asker r s.subs s
session_served_row P asker (session_request.GetEndpoints r) s = endpoints_row P asker r s.subs s
session_served_row P asker (session_request.CreateSession r) s = create_session_row P asker r s.subs s
session_served_row P asker (session_request.ActivateSession r) s = activate_row P asker r s.subs s
session_served_row P asker (session_request.CloseSession r) s =
    in_bound_row P asker (IsGood (request.Session (session_request.CloseSession r)) s.subs) (λ session. close_session asker session r) (token_in r.request_header) s
    (fine_for (request.Session (session_request.CloseSession r)) s.subs)
    (λ session. close_session_row P asker session r s.subs (noted asker (token_in r.request_header) s))
session_served_row P asker (session_request.Read r) s =
    in_session_row P asker (IsGood (request.Session (session_request.Read r)) s.subs) (λ session. read asker r) (token_in r.request_header) s
    (fine_for (request.Session (session_request.Read r)) s.subs)
    (λ session. read_row P asker r s.subs (noted asker (token_in r.request_header) s))
session_served_row P asker (session_request.Call r) s =
    in_session_row P asker (IsGood (request.Session (session_request.Call r)) s.subs) (λ session. call asker session r) (token_in r.request_header) s
    (fine_for (request.Session (session_request.Call r)) s.subs)
    (λ session. call_row P asker session r s.subs (noted asker (token_in r.request_header) s))

pub served_row : (P : ℕ → Type 0) (asker : Asker) (r : Request) (s : ServerState) → IsAtOnce r → Row P asker (IsGood r s.subs) s (served asker r s)
unfolding served
served_row P asker (request.Session r) s at_once = session_served_row P asker r s
served_row P asker (request.Subscription r) s at_once =
    in_session_row P asker (IsGood (request.Subscription r) s.subs) (sub_served asker r) (token_in (sub_header r)) s (fine_for (request.Subscription r) s.subs)
    (λ session. sub_served_row P asker r session (noted asker (token_in (sub_header r)) s) at_once)
