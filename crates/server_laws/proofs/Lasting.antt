-- What subscriptions keep lasts while no Publish is taken.
use Rattle.std.proofs.Common.{◌≡◌, ℕ, zero, suc, ◌+◌, ◌-◌, ◌*◌, ◌^◌, ◌==◌, ◌<◌, List, [], ◌∷◌, Bool, true, false, cond, length, map, Option, Some, None, refl, sym, ap, ◌∙◌, subst, arith, ◌⊎◌, inl, inr}
use Rattle.std.specs.Prelude.{Result, Ok, Err}
use Rattle.std.specs.Option.{option_map}
use Rattle.std.proofs.lemmas.Bool.Decides.{nat_tests}
use Rattle.ua_base.specs.Status.{bad_decoding_error, bad_identity_token_rejected, bad_service_unsupported, bad_session_closed, bad_timeout, bad_too_many_sessions}
use Rattle.ua_base.specs.declared.modes.Mode.{Mode}
use Rattle.ua_base.specs.declared.modes.Timestamps.{Timestamps}
use Rattle.set_model.specs.Source.{last_of}
use Rattle.set_model.specs.declared.source.Change.{Change}
use Rattle.sessions.specs.Table.{activate_answer, activated, bound_answer, check_answer, is_full as no_more}
use Rattle.sessions.specs.declared.fault.SessionFault.{SessionFault}
use Rattle.sessions.specs.declared.fault.SessionFault.TheVariants as session_fault
use Rattle.ua_structures.specs.declared.header.ResponseHeader.{ResponseHeader}
use Rattle.ua_session_msgs.specs.declared.attribute.ReadRequest.{ReadRequest}
use Rattle.ua_session_msgs.specs.declared.method.CallRequest.{CallRequest}
use Rattle.ua_session_msgs.specs.declared.discovery.FindServersRequest.{FindServersRequest}
use Rattle.ua_session_msgs.specs.declared.discovery.GetEndpointsRequest.{GetEndpointsRequest}
use Rattle.ua_session_msgs.specs.declared.session.ActivateSessionRequest.{ActivateSessionRequest}
use Rattle.ua_session_msgs.specs.declared.session.CloseSessionRequest.{CloseSessionRequest}
use Rattle.ua_session_msgs.specs.declared.session.CreateSessionRequest.{CreateSessionRequest}
use Rattle.ua_session_msgs.specs.declared.request.SessionRequest.{SessionRequest}
use Rattle.ua_session_msgs.specs.declared.request.SessionRequest.TheVariants as session_request
use Rattle.ua_sub_msgs.specs.declared.item.CreateMonitoredItemsRequest.{CreateMonitoredItemsRequest}
use Rattle.ua_sub_msgs.specs.declared.item.DeleteMonitoredItemsRequest.{DeleteMonitoredItemsRequest}
use Rattle.ua_sub_msgs.specs.declared.item.MonitoredItemCreateRequest.{MonitoredItemCreateRequest}
use Rattle.ua_sub_msgs.specs.declared.item.SetMonitoringModeRequest.{SetMonitoringModeRequest}
use Rattle.ua_sub_msgs.specs.declared.publish.RepublishRequest.{RepublishRequest}
use Rattle.ua_sub_msgs.specs.declared.subscription.CreateSubscriptionRequest.{CreateSubscriptionRequest}
use Rattle.ua_sub_msgs.specs.declared.subscription.DeleteSubscriptionsRequest.{DeleteSubscriptionsRequest}
use Rattle.ua_sub_msgs.specs.declared.subscription.ModifySubscriptionRequest.{ModifySubscriptionRequest}
use Rattle.ua_sub_msgs.specs.declared.subscription.SetPublishingModeRequest.{SetPublishingModeRequest}
use Rattle.ua_sub_msgs.specs.declared.subscription.TransferSubscriptionsRequest.{TransferSubscriptionsRequest}
use Rattle.ua_sub_msgs.specs.declared.request.SubRequest.{SubRequest}
use Rattle.ua_sub_msgs.specs.declared.request.SubRequest.TheVariants as sub_request
use Rattle.ua_services.specs.declared.reply.Reply.{Reply}
use Rattle.ua_services.specs.declared.request.Request.{Request}
use Rattle.ua_services.specs.declared.request.Request.TheVariants as request
use Rattle.ua_services.specs.declared.request.RequestFault.{RequestFault}
use Rattle.ua_services.specs.declared.request.RequestFault.TheVariants as faults
use Rattle.ua_services.specs.Requests.{header_of, request_at, sub_header}
use Rattle.subscription.specs.declared.cycle.Cycle.{Cycle}
use Rattle.subscription.specs.declared.cycle.Cycle.TheVariants.{Quiet, Notify, KeepAlive, Late, Expired}
use Rattle.subscription.specs.declared.spec.ItemSpec.{ItemSpec}
use Rattle.subscription.specs.declared.spec.SubSpec.{SubSpec}
use Rattle.subscription.specs.State.{SubState}
use Rattle.subscription.specs.Calls.{modified, new_sub}
use Rattle.subscription.specs.Cycle.{after_row, cycled, row_of}
use Rattle.subscription.specs.History.{Call, Add, Remove, SetMode, Feed, Timer, Modify, SetEnabled, after as after_call}
use Rattle.server_rules.specs.declared.conn.Asker.{Asker}
use Rattle.server_rules.specs.declared.waiting.Waiting.{Waiting}
use Rattle.server_rules.specs.State.{ServerState, sub_at, with_sub, without_sub}
use Rattle.server_rules.specs.Said.{Did, and_then, each, nothing}
use Rattle.server_rules.specs.Answering.{fault_reply, faulted, good_header, replied}
use Rattle.server_rules.specs.Moves.{answered_queued, deleted, expired_sub, gone, left_by, oldest_waiting, own_subs, owner, queued, told_why}
use Rattle.server_rules.specs.Operations.{after_each, answered, answers, done, leaves, operations_fault, own_sub, passes}
use Rattle.server_rules.specs.Publishing.{sends, sent_on, sent_with}
use Rattle.server_rules.specs.Reading.{call, call_all, read, read_all, read_checked}
use Rattle.server_rules.specs.Items.{create_all, create_checked, create_items, current_of, delete_all, delete_checked, delete_items, item_judged, item_node, modes_checked, set_all, set_modes, with_item, with_made, with_mode_set, without_item_of}
use Rattle.server_rules.specs.Subscriptions.{create_one, create_sub, created_reply, delete_all as subs_deleted, delete_one, delete_subs, deleted_if, deleted_reply, enable_all, enabled_if, modify_checked, modify_one, modify_sub, new_checked, republish, republish_checked, republish_one, set_publishing, sub_known, transfer_all, transfer_one, transfer_reply, transfer_result, transfer_subs, with_new_sub, with_publishing}
use Rattle.server_rules.specs.Sessions.{activate_session, activation_answered, activation_done, all_gone, close_answered, close_session, create_session, creation_answered, find_servers, get_endpoints, ids_of, is_anonymous, session_activated, session_closed, session_created, session_timeout, token_at, with_session, without_owned, without_session}
use Rattle.server_rules.specs.Requests.{asked, asker_of, done_for, in_bound, in_session, noted, requested, served, session_served, sub_served, token_in}
use Rattle.server_rules.specs.Timer.{by_row, cycle, cycle_of, ids_due, is_served, millisecond, moment, sends_for, sessions_expired, ticked}
use Rattle.server_laws.specs.Lockstep.{IsAtOnce, IsAtOnceOf, IsAtOnceSub, Never, NoneWaits}
use Rattle.server_laws.specs.Moves.{called, id_of}
use Rattle.server_laws.proofs.Asking.{IsNew, is_new}
use Rattle.server_laws.proofs.Finding.{called_here, called_there, fed_each, found_more, gone_here, gone_there, or_else}
use Rattle.server_laws.proofs.Kept.{IsSame, SameKept, answered_subs, either_same, left_subs, replied_subs, same_now, same_then, told_why_subs, transfer_same}
use Rattle.server_laws.proofs.Silent.{Tells, cycle_tells, millisecond_tells}
use Rattle.server_laws.proofs.Waiting.{oldest_waits}

-- ---- calls that keep

abbrev pub KeepsKept : Call → Type 0
KeepsKept call = (x : SubState) → (after_call call x).kept ≡ x.kept

cycled_kept : (queued : Bool) (x : SubState) → (cycled queued x).kept ≡ x.kept
cycled_kept queued x = row_kept (row_of queued x)
  where
    row_kept : (row : Cycle) → (after_row row queued x).kept ≡ x.kept
    row_kept Quiet = refl
    row_kept Notify = refl
    row_kept KeepAlive = refl
    row_kept Late = refl
    row_kept Expired = refl

mapped_by : (id : ℕ) (call : Call) (before : Option SubState) (s : ServerState) (sub : SubState) → KeepsKept call → sub_at id s.subs ≡ before
    → option_map (after_call call) before ≡ Some sub → IsSame id s sub
mapped_by id call None s sub keeps is found = absurd cc
mapped_by id call (Some before) s sub keeps is found =
    let same : after_call call before ≡ sub = cc in
    record { before = before; found = is; kept = sym (keeps before) ∙ ap (λ (x : SubState). x.kept) same }

called_by : (b : Bool) (id other : ℕ) (call : Call) (s : ServerState) (sub : SubState) → KeepsKept call → (other == id) ≡ b
    → sub_at id (called other call s.subs) ≡ Some sub → IsSame id s sub
called_by true id other call s sub keeps test found =
    let same : other ≡ id = grind (arith, nat_tests) in
    let here : sub_at id (called id call s.subs) ≡ Some sub = subst (λ n. sub_at id (called n call s.subs) ≡ Some sub) same found in
    mapped_by id call (sub_at id s.subs) s sub keeps refl (sym (called_here id call s.subs) ∙ here)
called_by false id other call s sub keeps test found =
    record { before = sub; found = sym (called_there id other call s.subs test) ∙ found; kept = refl }

called_same : (other : ℕ) (call : Call) (s t : ServerState) → KeepsKept call → t.subs ≡ called other call s.subs → SameKept s t
called_same other call s t keeps is id sub found = called_by (other == id) id other call s sub keeps refl (sym (ap (sub_at id) is) ∙ found)

pub fed_same : (change : Change) (s t : ServerState) → t.subs ≡ map (after_call (Feed change)) s.subs → SameKept s t
fed_same change s t is id sub found =
    mapped_by id (Feed change) (sub_at id s.subs) s sub (λ x. refl) refl (sym (fed_each id change s.subs) ∙ sym (ap (sub_at id) is) ∙ found)

gone_by : (b : Bool) (id other : ℕ) (s : ServerState) (sub : SubState) → (other == id) ≡ b → sub_at id (without_sub other s.subs) ≡ Some sub → IsSame id s sub
gone_by true id other s sub test found =
    let same : other ≡ id = grind (arith, nat_tests) in
    let here : sub_at id (without_sub id s.subs) ≡ Some sub = subst (λ n. sub_at id (without_sub n s.subs) ≡ Some sub) same found in
    let none : ◌≡◌ {A = Option SubState} None (Some sub) = sym (gone_here id s.subs) ∙ here in
    absurd cc
gone_by false id other s sub test found =
    record { before = sub; found = sym (gone_there id other s.subs test) ∙ found; kept = refl }

gone_same : (other : ℕ) (s : ServerState) → SameKept s (gone other s)
gone_same other s id sub found = gone_by (other == id) id other s sub refl found

-- ---- rules put together

here : (s : ServerState) → SameKept s s
here s = same_now s s refl

replied_after : (s t : ServerState) (asker : Asker) (answer : Reply) → SameKept s t → SameKept s (replied asker answer t).state
replied_after s t asker answer h = same_then s t (replied asker answer t).state h (same_now t (replied asker answer t).state (replied_subs asker answer t))

replied_now : (asker : Asker) (answer : Reply) (s : ServerState) → SameKept s (replied asker answer s).state
replied_now asker answer s = same_now s (replied asker answer s).state (replied_subs asker answer s)

done_same : {A : Type 0} (asker : Asker) (rule : A → ServerState → Did) (result : Result A ℕ) (s : ServerState) → ((found : A) → SameKept s (rule found s).state)
    → SameKept s (done asker rule result s).state
done_same asker rule (Ok found) s on = on found
done_same asker rule (Err code) s on = replied_now asker _ s

steps_same : {A : Type 0} (step : A → ServerState → ServerState) (list : List A) (s : ServerState) → ((x : A) (t : ServerState) → SameKept t (step x t))
    → SameKept s (after_each step list s)
steps_same step [] s on = here s
steps_same step (x ∷ more) s on = same_then s (step x s) (after_each step more (step x s)) (on x s) (steps_same step more (step x s) on)

then_same : (s : ServerState) (rule : ServerState → Did) (did : Did) → SameKept s did.state → SameKept did.state (rule did.state).state
    → SameKept s (and_then rule did).state
then_same s rule did first later = same_then s did.state (rule did.state).state first later

all_same : {A : Type 0} (rule : A → ServerState → Did) (list : List A) (s : ServerState) → ((x : A) (t : ServerState) → SameKept t (rule x t).state)
    → SameKept s (each rule list s).state
all_same rule [] s on = here s
all_same rule (x ∷ more) s on = then_same s (each rule more) (rule x s) (on x s) (all_same rule more (rule x s).state on)

-- ---- a subscription goes

left_by_subs : (session : Option ℕ) (s : ServerState) → (left_by session s).state.subs ≡ s.subs
left_by_subs None s = refl
left_by_subs (Some session) s = left_subs session s

deleted_same : (id : ℕ) (s : ServerState) → SameKept s (deleted id s).state
unfolding deleted
deleted_same id s =
    same_then s (gone id s) (left_by (owner id s) (gone id s)).state (gone_same id s)
    (same_now (gone id s) (left_by (owner id s) (gone id s)).state (left_by_subs (owner id s) (gone id s)))

expired_same : (id : ℕ) (s : ServerState) → SameKept s (expired_sub id s).state
unfolding expired_sub
expired_same id s =
    same_then s (gone id s) (told_why (owner id s) bad_timeout (sub_at id s.subs) (gone id s)).state (gone_same id s)
    (same_now (gone id s) (told_why (owner id s) bad_timeout (sub_at id s.subs) (gone id s)).state (told_why_subs (owner id s) bad_timeout (sub_at id s.subs) (gone id s)))

-- ---- time, where no Publish waits

abbrev pub Lasts : ServerState → Did → Type 0
Lasts s did = NoneWaits s → SameKept s did.state

then_lasts : (s : ServerState) (rule : ServerState → Did) (did : Did) → Tells Never s did → Lasts s did → Lasts did.state (rule did.state)
    → Lasts s (and_then rule did)
then_lasts s rule did tells first later h = then_same s rule did (first h) (later (tells h).told.waits)

sent_none : (more : ServerState → Did) (found : Option Waiting) (id session : ℕ) (s : ServerState) → oldest_waiting session s ≡ found → Lasts s (sent_with more found id session s)
sent_none more None id session s is h = here s
sent_none more (Some waiting) id session s is h = absurd (oldest_waits Never session s waiting h is)

sends_lasts : (id session : ℕ) (s : ServerState) → Lasts s (sends id session s)
unfolding sends
sends_lasts id session s = sent_none (sent_on id session) (oldest_waiting session s) id session s refl

sends_for_lasts : (session : Option ℕ) (id : ℕ) (s : ServerState) → Lasts s (sends_for session id s)
sends_for_lasts None id s h = here s
sends_for_lasts (Some session) id s h = sends_lasts id session s h

by_row_lasts : (row : Cycle) (id : ℕ) (s : ServerState) → Lasts s (by_row row id s)
by_row_lasts Quiet id s h = here s
by_row_lasts Notify id s h = sends_for_lasts (owner id s) id s h
by_row_lasts KeepAlive id s h = sends_for_lasts (owner id s) id s h
by_row_lasts Late id s h = here s
by_row_lasts Expired id s h = expired_same id s

cycle_of_lasts : (sub : Option SubState) (id : ℕ) (s : ServerState) → Lasts s (cycle_of sub id s)
cycle_of_lasts None id s h = here s
cycle_of_lasts (Some sub) id s h =
    let t : ServerState = with_sub id (cycled (is_served id s)) s in
    same_then s t (by_row (row_of (is_served id s) sub) id t).state
    (called_same id (Timer (is_served id s)) s t (cycled_kept (is_served id s)) refl)
    (by_row_lasts (row_of (is_served id s) sub) id t h)

cycle_lasts : (id : ℕ) (s : ServerState) → Lasts s (cycle id s)
unfolding cycle
cycle_lasts id s = cycle_of_lasts (sub_at id s.subs) id s

each_lasts : {A : Type 0} (rule : A → ServerState → Did) (list : List A) (s : ServerState) → ((x : A) (t : ServerState) → Tells Never t (rule x t))
    → ((x : A) (t : ServerState) → Lasts t (rule x t)) → Lasts s (each rule list s)
each_lasts rule [] s tells on h = here s
each_lasts rule (x ∷ more) s tells on h =
    then_lasts s (each rule more) (rule x s) (tells x s) (on x s) (each_lasts rule more (rule x s).state tells on) h

moment_lasts : (s : ServerState) → Lasts s (moment s)
unfolding moment
moment_lasts s h =
    let cycles : Did = each cycle (ids_due s) s in
    then_same s (λ after. nothing (sessions_expired after)) cycles (each_lasts cycle (ids_due s) s (cycle_tells Never) cycle_lasts h)
    (same_now cycles.state (sessions_expired cycles.state) refl)

older_same : (s : ServerState) (did : Did) → Lasts (record s { age = s.age + 1 }) did → Lasts s did
older_same s did on h = same_then s (record s { age = s.age + 1 }) did.state (same_now s (record s { age = s.age + 1 }) refl) (on h)

either_lasts : (b : Bool) (s : ServerState) (one other : Did) → Lasts s one → Lasts s other → Lasts s (cond b one other)
either_lasts true s one other h rest = h
either_lasts false s one other h rest = rest

millisecond_lasts : (s : ServerState) → Lasts s (millisecond s)
unfolding millisecond
millisecond_lasts s =
    either_lasts (s.age == 2 ^ 64 - 1) s (nothing s) (moment (record s { age = s.age + 1 })) (λ h. here s)
    (older_same s (moment (record s { age = s.age + 1 })) (moment_lasts (record s { age = s.age + 1 })))

pub ticked_lasts : (count : ℕ) (s : ServerState) → Lasts s (ticked count s)
unfolding ticked
ticked_lasts zero s h = here s
ticked_lasts (suc more) s h =
    then_lasts s (ticked more) (millisecond s) (millisecond_tells Never s) (millisecond_lasts s) (ticked_lasts more (millisecond s).state) h

-- ---- services of items and subscriptions

made_same : (sub : ℕ) (made : Result (ℕ × ItemSpec) ℕ) (s : ServerState) → SameKept s (with_made sub made s)
made_same sub (Ok made) s = called_same sub (Add made.1 (last_of made.1.node s.current)) s (with_made sub (Ok made) s) (λ x. refl) refl
made_same sub (Err code) s = here s

item_same : (sub : ℕ) (stamps : Timestamps) (asked : MonitoredItemCreateRequest) (s : ServerState) → SameKept s (with_item sub stamps asked s)
unfolding with_item
item_same sub stamps asked s = made_same sub (item_judged sub stamps asked s) s

mode_same : (sub : ℕ) (mode : Mode) (id : ℕ) (s : ServerState) → SameKept s (with_mode_set sub mode id s)
unfolding with_mode_set
mode_same sub mode id s = called_same sub (SetMode id mode (current_of (item_node id (sub_at sub s.subs)) s.current)) s (with_mode_set sub mode id s) (λ x. refl) refl

removed_same : (sub id : ℕ) (s : ServerState) → SameKept s (without_item_of sub id s)
unfolding without_item_of
removed_same sub id s = called_same sub (Remove id) s (without_item_of sub id s) (λ x. refl) refl

enabled_same : (enabled : Bool) (found : Option SubState) (id : ℕ) (s : ServerState) → SameKept s (enabled_if enabled found id s)
enabled_same enabled None id s = here s
enabled_same enabled (Some sub) id s = called_same id (SetEnabled enabled) s (enabled_if enabled (Some sub) id s) (λ x. refl) refl

publishing_same : (session : ℕ) (enabled : Bool) (id : ℕ) (s : ServerState) → SameKept s (with_publishing session enabled id s)
unfolding with_publishing
publishing_same session enabled id s = enabled_same enabled (own_sub session id s) id s

create_items_same : (asker : Asker) (session : ℕ) (r : CreateMonitoredItemsRequest) (s : ServerState) → SameKept s (create_items asker session r s).state
unfolding create_items
create_items_same asker session r s =
    done_same asker (create_all asker r.subscription_id r.items_to_create) (create_checked session r s) s
    (λ stamps. replied_after s (after_each (with_item r.subscription_id stamps) r.items_to_create s) asker _
    (steps_same (with_item r.subscription_id stamps) r.items_to_create s (item_same r.subscription_id stamps)))

set_modes_same : (asker : Asker) (session : ℕ) (r : SetMonitoringModeRequest) (s : ServerState) → SameKept s (set_modes asker session r s).state
unfolding set_modes
set_modes_same asker session r s =
    done_same asker (set_all asker r.subscription_id r.monitored_item_ids) (modes_checked session r s) s
    (λ mode. replied_after s (after_each (with_mode_set r.subscription_id mode) r.monitored_item_ids s) asker _
    (steps_same (with_mode_set r.subscription_id mode) r.monitored_item_ids s (mode_same r.subscription_id mode)))

delete_items_same : (asker : Asker) (session : ℕ) (r : DeleteMonitoredItemsRequest) (s : ServerState) → SameKept s (delete_items asker session r s).state
unfolding delete_items
delete_items_same asker session r s =
    done_same asker (delete_all asker r.subscription_id r.monitored_item_ids) (delete_checked session r s) s
    (λ found. replied_after s (after_each (without_item_of r.subscription_id) r.monitored_item_ids s) asker _
    (steps_same (without_item_of r.subscription_id) r.monitored_item_ids s (removed_same r.subscription_id)))

modify_sub_same : (asker : Asker) (session : ℕ) (r : ModifySubscriptionRequest) (s : ServerState) → SameKept s (modify_sub asker session r s).state
unfolding modify_sub
modify_sub_same asker session r s =
    done_same asker (modify_one asker) (modify_checked session r s) s
    (λ spec. replied_after s (with_sub spec.id (modified spec s.age) s) asker _
    (called_same spec.id (Modify spec s.age) s (with_sub spec.id (modified spec s.age) s) (λ x. refl) refl))

set_publishing_same : (asker : Asker) (session : ℕ) (r : SetPublishingModeRequest) (s : ServerState) → SameKept s (set_publishing asker session r s).state
unfolding set_publishing
set_publishing_same asker session r s =
    done_same asker (enable_all asker session r.publishing_enabled r.subscription_ids) (passes (operations_fault (length r.subscription_ids))) s
    (λ found. replied_after s (after_each (with_publishing session r.publishing_enabled) r.subscription_ids s) asker _
    (steps_same (with_publishing session r.publishing_enabled) r.subscription_ids s (publishing_same session r.publishing_enabled)))

republish_same : (asker : Asker) (session : ℕ) (r : RepublishRequest) (s : ServerState) → SameKept s (republish asker session r s).state
unfolding republish
republish_same asker session r s =
    done_same asker (republish_one asker) (republish_checked session r s) s (λ message. replied_now asker _ s)

-- rules in turn, and an answer behind them
turns_same : (asker : Asker) (answer : ResponseHeader → Reply) (rule : ℕ → ServerState → Did) (ids : List ℕ) (s : ServerState)
    → ((id : ℕ) (t : ServerState) → SameKept t (rule id t).state) → SameKept s (and_then (answered asker answer) (each rule ids s)).state
turns_same asker answer rule ids s on =
    then_same s (answered asker answer) (each rule ids s) (all_same rule ids s on)
    (replied_now asker (answer (good_header asker.handle (each rule ids s).state)) (each rule ids s).state)

transfer_subs_same : (asker : Asker) (session : ℕ) (r : TransferSubscriptionsRequest) (s : ServerState) → SameKept s (transfer_subs asker session r s).state
unfolding transfer_subs
transfer_subs_same asker session r s =
    done_same asker (transfer_all asker session r.subscription_ids) (passes (operations_fault (length r.subscription_ids))) s
    (λ found. turns_same asker (transfer_reply (answers (transfer_result session) (leaves (transfer_one session)) r.subscription_ids s)) (transfer_one session) r.subscription_ids s
    (transfer_same session))

deleted_if_same : (found : Option SubState) (id : ℕ) (s : ServerState) → SameKept s (deleted_if found id s).state
deleted_if_same None id s = here s
deleted_if_same (Some sub) id s = deleted_same id s

delete_one_same : (session id : ℕ) (s : ServerState) → SameKept s (delete_one session id s).state
unfolding delete_one
delete_one_same session id s = deleted_if_same (own_sub session id s) id s

delete_subs_same : (asker : Asker) (session : ℕ) (r : DeleteSubscriptionsRequest) (s : ServerState) → SameKept s (delete_subs asker session r s).state
unfolding delete_subs
delete_subs_same asker session r s =
    done_same asker (subs_deleted asker session r.subscription_ids) (passes (operations_fault (length r.subscription_ids))) s
    (λ found. turns_same asker (deleted_reply (answers (sub_known session) (leaves (delete_one session)) r.subscription_ids s)) (delete_one session) r.subscription_ids s
    (delete_one_same session))

-- ---- a subscription more

-- it was there and kept the same; or it was made under an id above those that were given, and keeps none
abbrev pub IsLasting : ℕ → SubState → ServerState → Type 0
IsLasting id sub s =
    ((before : SubState) × (sub_at id s.subs ≡ Some before) × (before.kept ≡ sub.kept)) ⊎ ((id_of s.config.boot s.made < id) × (sub.kept ≡ []))

abbrev pub AllLast : ServerState → ServerState → Type 0
AllLast s after = (id : ℕ) (sub : SubState) → sub_at id after.subs ≡ Some sub → IsLasting id sub s

pub last_same : (s t : ServerState) → SameKept s t → AllLast s t
last_same s t h id sub found = let one = h id sub found in inl (one.before, one.found, one.kept)

new_here : (b : Bool) (id : ℕ) (spec : SubSpec) (s : ServerState) (sub : SubState) → IsNew spec s → (spec.id == id) ≡ b
    → cond b (Some (new_sub spec s.age)) None ≡ Some sub → IsLasting id sub s
new_here true id spec s sub new test is =
    let same : new_sub spec s.age ≡ sub = cc in
    let own : spec.id ≡ id = grind (arith, nat_tests) in
    let given : spec.id ≡ s.config.boot * 65536 + (s.made + 1) = new.id in
    inr (omega (arith, own, given), sym (ap (λ (x : SubState). x.kept) same))
new_here false id spec s sub new test is = absurd cc

new_by : (found : Option SubState) (id : ℕ) (spec : SubSpec) (s : ServerState) (sub : SubState) → IsNew spec s → sub_at id (without_sub spec.id s.subs) ≡ found
    → or_else found (cond (spec.id == id) (Some (new_sub spec s.age)) None) ≡ Some sub → IsLasting id sub s
new_by None id spec s sub new found is = new_here (spec.id == id) id spec s sub new refl is
new_by (Some x) id spec s sub new found is =
    let one = gone_by (spec.id == id) id spec.id s sub refl (found ∙ is) in inl (one.before, one.found, one.kept)

new_last : (session : ℕ) (spec : SubSpec) (s : ServerState) → IsNew spec s → AllLast s (with_new_sub session spec s)
unfolding with_new_sub
new_last session spec s new id sub found =
    new_by (sub_at id (without_sub spec.id s.subs)) id spec s sub new refl (sym (found_more id (without_sub spec.id s.subs) (new_sub spec s.age)) ∙ found)

created_last : (asker : Asker) (session : ℕ) (spec : SubSpec) (s : ServerState) → IsNew spec s → AllLast s (create_one asker session spec s).state
created_last asker session spec s new id sub found =
    let t : ServerState = with_new_sub session spec s in
    new_last session spec s new id sub (sym (ap (sub_at id) (replied_subs asker (created_reply spec (good_header asker.handle t)) t)) ∙ found)

create_by : (asker : Asker) (session : ℕ) (result : Result SubSpec ℕ) (s : ServerState) → ((spec : SubSpec) → result ≡ Ok spec → IsNew spec s)
    → AllLast s (done asker (create_one asker session) result s).state
create_by asker session (Ok spec) s new = created_last asker session spec s (new spec refl)
create_by asker session (Err code) s new = last_same s (done asker (create_one asker session) (Err code) s).state (replied_now asker _ s)

create_sub_last : (asker : Asker) (session : ℕ) (r : CreateSubscriptionRequest) (s : ServerState) → AllLast s (create_sub asker session r s).state
unfolding create_sub
create_sub_last asker session r s = create_by asker session (new_checked r s) s (is_new r s)

-- ---- sessions

servers_same : (asker : Asker) (r : FindServersRequest) (s : ServerState) → SameKept s (find_servers asker r s).state
unfolding find_servers
servers_same asker r s = replied_now asker _ s

endpoints_same : (asker : Asker) (r : GetEndpointsRequest) (s : ServerState) → SameKept s (get_endpoints asker r s).state
unfolding get_endpoints
endpoints_same asker r s = replied_now asker _ s

created_same : (asker : Asker) (uri : Option (List ℕ)) (timeout : ℕ) (s : ServerState) → SameKept s (session_created asker uri timeout s).state
unfolding creation_answered
created_same asker uri timeout s = replied_after s (with_session asker uri timeout s) asker _ (same_now s (with_session asker uri timeout s) refl)

create_session_same : (asker : Asker) (r : CreateSessionRequest) (s : ServerState) → SameKept s (create_session asker r s).state
unfolding create_session
create_session_same asker r s =
    either_same (no_more s.sessions) s (faulted asker bad_too_many_sessions s) (session_created asker r.client_description.application_uri (session_timeout r) s)
    (replied_now asker _ s) (created_same asker r.client_description.application_uri (session_timeout r) s)

activation_same : (asker : Asker) (result : Result ℕ SessionFault) (s : ServerState) → SameKept s (activation_answered asker result s).state
unfolding activation_done
activation_same asker (Ok counter) s = replied_now asker _ s
activation_same asker (Err (session_fault.Code code)) s = replied_now asker _ s
activation_same asker (Err session_fault.OutOfMemory) s = here s

activated_same : (asker : Asker) (token : Option (List ℕ)) (s : ServerState) → SameKept s (session_activated asker token s).state
unfolding session_activated
activated_same asker token s =
    let t : ServerState = record s { sessions = activated token asker.conn s.age s.sessions } in
    same_then s t (activation_answered asker (activate_answer token asker.conn s.sessions) t).state (same_now s t refl)
    (activation_same asker (activate_answer token asker.conn s.sessions) t)

activate_same : (asker : Asker) (r : ActivateSessionRequest) (s : ServerState) → SameKept s (activate_session asker r s).state
unfolding activate_session
activate_same asker r s =
    either_same (is_anonymous r.user_identity_token) s (session_activated asker (token_at r.request_header.authentication_token) s) (faulted asker bad_identity_token_rejected s)
    (activated_same asker (token_at r.request_header.authentication_token) s) (replied_now asker _ s)

all_gone_same : (ids : List ℕ) (s : ServerState) → SameKept s (all_gone ids s)
all_gone_same [] s = here s
all_gone_same (id ∷ ids) s = same_then s (gone id s) (all_gone ids (gone id s)) (gone_same id s) (all_gone_same ids (gone id s))

without_owned_same : (deletes : Bool) (session : ℕ) (s : ServerState) → SameKept s (without_owned deletes session s)
without_owned_same true session s = all_gone_same (ids_of (own_subs session s)) s
without_owned_same false session s = here s

session_closed_same : (asker : Asker) (deletes : Bool) (session : ℕ) (s : ServerState) → SameKept s (session_closed asker deletes session s).state
unfolding session_closed close_answered
session_closed_same asker deletes session s =
    let t : ServerState = without_owned deletes session s in
    replied_after s (without_session session t) asker _
    (same_then s t (without_session session t) (without_owned_same deletes session s) (same_now t (without_session session t) refl))

close_session_same : (asker : Asker) (session : ℕ) (r : CloseSessionRequest) (s : ServerState) → SameKept s (close_session asker session r s).state
unfolding close_session
close_session_same asker session r s =
    let first : Did = answered_queued bad_session_closed session s in
    then_same s (session_closed asker r.delete_subscriptions session) first (same_now s first.state (answered_subs (queued session s) bad_session_closed session s))
    (session_closed_same asker r.delete_subscriptions session first.state)

read_same : (asker : Asker) (r : ReadRequest) (s : ServerState) → SameKept s (read asker r s).state
unfolding read
read_same asker r s = done_same asker (read_all asker r.nodes_to_read) (read_checked r) s (λ stamps. replied_now asker _ s)

call_same : (asker : Asker) (session : ℕ) (r : CallRequest) (s : ServerState) → SameKept s (call asker session r s).state
unfolding call
call_same asker session r s =
    done_same asker (call_all asker session r.methods_to_call) (passes (operations_fault (length r.methods_to_call))) s (λ found. replied_now asker _ s)

-- ---- which service

noted_last : (asker : Asker) (token : Option (List ℕ)) (s t : ServerState) → AllLast (noted asker token s) t → AllLast s t
noted_last asker token s t h id sub found = h id sub found

done_for_last : (row : ℕ → ServerState → Did) (asker : Asker) (answer : Result ℕ ℕ) (s : ServerState) → ((session : ℕ) → AllLast s (row session s).state)
    → AllLast s (done_for row asker answer s).state
done_for_last row asker (Ok session) s on = on session
done_for_last row asker (Err code) s on = last_same s (done_for row asker (Err code) s).state (replied_now asker _ s)

in_session_last : (row : ℕ → ServerState → Did) (asker : Asker) (token : Option (List ℕ)) (s : ServerState)
    → ((session : ℕ) (t : ServerState) → AllLast t (row session t).state) → AllLast s (in_session row asker token s).state
in_session_last row asker token s on =
    noted_last asker token s (in_session row asker token s).state
    (done_for_last row asker (check_answer token asker.conn s.sessions) (noted asker token s) (λ session. on session (noted asker token s)))

in_bound_last : (row : ℕ → ServerState → Did) (asker : Asker) (token : Option (List ℕ)) (s : ServerState)
    → ((session : ℕ) (t : ServerState) → AllLast t (row session t).state) → AllLast s (in_bound row asker token s).state
in_bound_last row asker token s on =
    noted_last asker token s (in_bound row asker token s).state
    (done_for_last row asker (bound_answer token asker.conn s.sessions) (noted asker token s) (λ session. on session (noted asker token s)))

sub_served_last : (asker : Asker) (r : SubRequest) (session : ℕ) (s : ServerState) → IsAtOnceSub r → AllLast s (sub_served asker r session s).state
unfolding sub_served
sub_served_last asker (sub_request.CreateMonitoredItems r) session s at_once = last_same s (create_items asker session r s).state (create_items_same asker session r s)
sub_served_last asker (sub_request.SetMonitoringMode r) session s at_once = last_same s (set_modes asker session r s).state (set_modes_same asker session r s)
sub_served_last asker (sub_request.DeleteMonitoredItems r) session s at_once = last_same s (delete_items asker session r s).state (delete_items_same asker session r s)
sub_served_last asker (sub_request.CreateSubscription r) session s at_once = create_sub_last asker session r s
sub_served_last asker (sub_request.ModifySubscription r) session s at_once = last_same s (modify_sub asker session r s).state (modify_sub_same asker session r s)
sub_served_last asker (sub_request.SetPublishingMode r) session s at_once = last_same s (set_publishing asker session r s).state (set_publishing_same asker session r s)
sub_served_last asker (sub_request.Publish r) session s at_once = absurd at_once
sub_served_last asker (sub_request.Republish r) session s at_once = last_same s (republish asker session r s).state (republish_same asker session r s)
sub_served_last asker (sub_request.TransferSubscriptions r) session s at_once = last_same s (transfer_subs asker session r s).state (transfer_subs_same asker session r s)
sub_served_last asker (sub_request.DeleteSubscriptions r) session s at_once = last_same s (delete_subs asker session r s).state (delete_subs_same asker session r s)

session_served_last : (asker : Asker) (r : SessionRequest) (s : ServerState) → AllLast s (session_served asker r s).state
unfolding session_served
session_served_last asker (session_request.OpenSecureChannel r) s =
    last_same s (faulted asker bad_service_unsupported s).state (replied_now asker (fault_reply asker.handle bad_service_unsupported s) s)
session_served_last asker (session_request.CloseSecureChannel r) s =
    last_same s (faulted asker bad_service_unsupported s).state (replied_now asker (fault_reply asker.handle bad_service_unsupported s) s)
session_served_last asker (session_request.FindServers r) s = last_same s (find_servers asker r s).state (servers_same asker r s)
session_served_last asker (session_request.GetEndpoints r) s = last_same s (get_endpoints asker r s).state (endpoints_same asker r s)
session_served_last asker (session_request.CreateSession r) s = last_same s (create_session asker r s).state (create_session_same asker r s)
session_served_last asker (session_request.ActivateSession r) s = last_same s (activate_session asker r s).state (activate_same asker r s)
session_served_last asker (session_request.CloseSession r) s =
    in_bound_last (λ session. close_session asker session r) asker (token_in r.request_header) s (λ session t. last_same t (close_session asker session r t).state (close_session_same asker session r t))
session_served_last asker (session_request.Read r) s =
    in_session_last (λ session. read asker r) asker (token_in r.request_header) s (λ session t. last_same t (read asker r t).state (read_same asker r t))
session_served_last asker (session_request.Call r) s =
    in_session_last (λ session. call asker session r) asker (token_in r.request_header) s (λ session t. last_same t (call asker session r t).state (call_same asker session r t))

served_last : (asker : Asker) (r : Request) (s : ServerState) → IsAtOnce r → AllLast s (served asker r s).state
unfolding served
served_last asker (request.Session r) s at_once = session_served_last asker r s
served_last asker (request.Subscription r) s at_once =
    in_session_last (sub_served asker r) asker (token_in (sub_header r)) s (λ session t. sub_served_last asker r session t at_once)

asked_last : (conn number : ℕ) (r : Result Request RequestFault) (s : ServerState) → IsAtOnceOf r → AllLast s (asked conn number r s).state
asked_last conn number (Ok r) s at_once = served_last (asker_of conn number (header_of r).request_handle) r s at_once
asked_last conn number (Err faults.Header) s at_once =
    last_same s (faulted (asker_of conn number 0) bad_decoding_error s).state (replied_now (asker_of conn number 0) (fault_reply 0 bad_decoding_error s) s)
asked_last conn number (Err (faults.Service handle)) s at_once =
    last_same s (faulted (asker_of conn number handle) bad_service_unsupported s).state (replied_now (asker_of conn number handle) (fault_reply handle bad_service_unsupported s) s)
asked_last conn number (Err (faults.Body handle)) s at_once =
    last_same s (faulted (asker_of conn number handle) bad_decoding_error s).state (replied_now (asker_of conn number handle) (fault_reply handle bad_decoding_error s) s)
asked_last conn number (Err faults.OutOfMemory) s at_once = last_same s s (here s)

pub requested_last : (conn number : ℕ) (body : List ℕ) (s : ServerState) → IsAtOnceOf (request_at body) → AllLast s (requested conn number body s).state
unfolding requested
requested_last conn number body s at_once = asked_last conn number (request_at body) s at_once
