-- What the services of items and subscriptions do, in moves.
use Rattle.std.proofs.Common.{◌≡◌, ℕ, ◌+◌, ◌*◌, ◌<◌, ◌≤◌, List, [], ◌∷◌, Bool, true, false, cond, ◌||◌, nat_le, length, map, Option, Some, None, refl, sym, ap, ◌∙◌, subst, arith, max, min, inl, inr}
use Rattle.std.specs.Prelude.{Result, Ok, Err}
use Rattle.std.proofs.lemmas.Bool.Decides.{nat_tests}
use Rattle.ua_base.specs.Status.{bad_message_not_available, bad_monitoring_mode_invalid, bad_node_id_unknown, bad_subscription_id_invalid, bad_too_many_monitored_items, bad_too_many_subscriptions}
use Rattle.ua_base.specs.declared.modes.Mode.{Mode}
use Rattle.ua_base.specs.declared.modes.Timestamps.{Timestamps}
use Rattle.retransmit.specs.Kept.{message_of}
use Rattle.ua_sub_msgs.specs.declared.notification.NotificationMessage.{NotificationMessage}
use Rattle.sessions.specs.Calls.{Disown, Own}
use Rattle.sessions.specs.Table.{disowned, owned}
use Rattle.ua_structures.specs.declared.header.ResponseHeader.{ResponseHeader}
use Rattle.ua_services.specs.declared.reply.Reply.{Reply}
use Rattle.ua_session_msgs.specs.declared.attribute.ReadRequest.{ReadRequest}
use Rattle.ua_session_msgs.specs.declared.method.CallRequest.{CallRequest}
use Rattle.ua_sub_msgs.specs.declared.item.CreateMonitoredItemsRequest.{CreateMonitoredItemsRequest}
use Rattle.ua_sub_msgs.specs.declared.item.DeleteMonitoredItemsRequest.{DeleteMonitoredItemsRequest}
use Rattle.ua_sub_msgs.specs.declared.item.MonitoredItemCreateRequest.{MonitoredItemCreateRequest}
use Rattle.ua_sub_msgs.specs.declared.item.SetMonitoringModeRequest.{SetMonitoringModeRequest}
use Rattle.ua_sub_msgs.specs.declared.publish.RepublishRequest.{RepublishRequest}
use Rattle.ua_sub_msgs.specs.declared.subscription.CreateSubscriptionRequest.{CreateSubscriptionRequest}
use Rattle.ua_sub_msgs.specs.declared.subscription.DeleteSubscriptionsRequest.{DeleteSubscriptionsRequest}
use Rattle.ua_sub_msgs.specs.declared.subscription.ModifySubscriptionRequest.{ModifySubscriptionRequest}
use Rattle.ua_sub_msgs.specs.declared.subscription.SetPublishingModeRequest.{SetPublishingModeRequest}
use Rattle.ua_sub_msgs.specs.declared.subscription.TransferSubscriptionsRequest.{TransferSubscriptionsRequest}
use Rattle.subscription.specs.declared.spec.ItemSpec.{ItemSpec}
use Rattle.subscription.specs.declared.spec.SubSpec.{SubSpec}
use Rattle.subscription.specs.State.{SubState}
use Rattle.server_rules.specs.declared.conn.Asker.{Asker}
use Rattle.server_rules.specs.Answering.{good_header}
use Rattle.server_rules.specs.Durations.{revised_queue}
use Rattle.server_rules.specs.State.{ServerState, sub_at, without_sub}
use Rattle.server_rules.specs.Said.{Did, and_then, each}
use Rattle.server_rules.specs.Moves.{owns}
use Rattle.server_rules.specs.Operations.{◌>>=◌, after_each, answered, answers, done, leaves, mode_named, operations_fault, own_checked, own_or_fault, own_sub, passes, wanted}
use Rattle.server_rules.specs.Reading.{call, call_all, call_reply, called, nodes_of, read, read_all, read_checked, read_reply, value_read}
use Rattle.server_rules.specs.Items.{create_all, create_checked, create_items, delete_all, delete_checked, delete_items, filter_fault, item_judged, item_number, item_spec, judged, modes_checked, set_all, set_modes, value_fault, with_item, with_made, with_mode_set, with_room, without_item_of}
use Rattle.server_rules.specs.Subscriptions.{asked_spec, create_one, create_sub, delete_all as subs_deleted, delete_one, delete_subs, deleted_if, deleted_reply, enable_all, enabled_if, is_full, modify_checked, modify_one, modify_sub, new_checked, republish, republish_checked, republish_one, revised_spec, set_publishing, sub_known, transfer_all, transfer_one, transfer_reply, transfer_result, transfer_subs, with_new_sub, with_publishing}
use Rattle.server_laws.specs.Moves.{Adds, Answered, Answers, Asks, Does, Enables, Ends, Makes, Modes, ModesSet, Modifies, Removes, Repeated, Repeats, Subscribed, ValuesRead, repeated, repeated_of}
use Rattle.server_laws.specs.Facts.{facts_of_reply}
use Rattle.server_laws.specs.Course.{Adding, Comes, IsAmong, Leave, MayAdd, MayRepeat, MayTransfer, Transferring, MaySet, Reading, Setting}
use Rattle.server_laws.proofs.Finding.{gone_here}
use Rattle.server_laws.proofs.Coming.{begun_by, idle, then_comes}
use Rattle.server_laws.proofs.Replying.{answer_comes, fault_comes, quiet}
use Rattle.server_laws.proofs.Owning.{From, deleted_comes, transferred_comes}
use Rattle.server_laws.proofs.Ticking.{each_comes}
use Rattle.server_laws.proofs.Within.{all_within, within_same}

-- ---- what is done where nothing refuses

pub done_comes : {A : Type 0} (leave : Leave) (asker : Asker) (rule : A → ServerState → Did) (result : Result A ℕ) (s : ServerState)
    → ((found : A) → result ≡ Ok found → Comes leave s (rule found s)) → Comes leave s (done asker rule result s)
done_comes leave asker rule (Ok found) s on = on found refl
done_comes leave asker rule (Err code) s on = fault_comes leave asker code s

pub each_from : {A : Type 0} (leave : Leave) (step : A → ServerState → ServerState) (list : List A) (s : ServerState)
    → ((one : A) (t : ServerState) → From leave t (step one t)) → From leave s (after_each step list s)
each_from leave step [] s on did h = h
each_from leave step (one ∷ more) s on did h = on one s did (each_from leave step more (step one s) on did h)

through : {A B : Type 0} (r : Result A ℕ) (rule : A → Result B ℕ) (P : B → Type 0) (b : B) → ((a : A) → r ≡ Ok a → rule a ≡ Ok b → P b)
    → (r >>= rule) ≡ Ok b → P b
through (Ok a) rule P b on is = on a refl is
through (Err code) rule P b on is = absurd cc

-- ---- Read and Call

pub read_comes : (asker : Asker) (request : ReadRequest) (s : ServerState) → Comes Reading s (read asker request s)
unfolding read
read_comes asker request s =
    done_comes Reading asker (read_all asker request.nodes_to_read) (read_checked request) s
    (λ stamps is. answer_comes Reading (Answers ValuesRead) s s asker (read_reply (map (value_read (nodes_of s) stamps) request.nodes_to_read) (good_header asker.handle s)) tt tt refl
    (all_within (Answered ValuesRead ∷ [])))

pub call_comes : (leave : Leave) (asker : Asker) (session : ℕ) (request : CallRequest) (s : ServerState) → Comes leave s (call asker session request s)
unfolding call
call_comes leave asker session request s =
    done_comes leave asker (call_all asker session request.methods_to_call) (passes (operations_fault (length request.methods_to_call))) s
    (λ found is. quiet leave asker (call_reply (map (called session s) request.methods_to_call) (good_header asker.handle s)) s refl)

-- ---- items are made

queue_in : (size : ℕ) → 1 ≤ revised_queue size
queue_in size = let least : 1 ≤ max 1 (min 1000 size) = omega arith in least

judged_least : (number : Result ℕ ℕ) (value filter : Result (Unit {0}) ℕ) (mode : Result Mode ℕ) (make : ℕ → Mode → ItemSpec) (spec : ItemSpec)
    → ((n : ℕ) (m : Mode) → 1 ≤ (make n m).queue) → (number >>= (λ n. value >>= (λ _. mode >>= (λ m. filter >>= (λ _. Ok (make n m)))))) ≡ Ok spec → 1 ≤ spec.queue
judged_least (Err code) value filter mode make spec least is = absurd cc
judged_least (Ok n) (Err code) filter mode make spec least is = absurd cc
judged_least (Ok n) (Ok v) filter (Err code) make spec least is = absurd cc
judged_least (Ok n) (Ok v) (Err code) (Ok m) make spec least is = absurd cc
judged_least (Ok n) (Ok v) (Ok f) (Ok m) make spec least is = let same : make n m ≡ spec = cc in subst (λ (spec : ItemSpec). 1 ≤ spec.queue) same (least n m)

judged_queue : (items : ℕ) (stamps : Timestamps) (asked : MonitoredItemCreateRequest) (spec : ItemSpec) → judged items stamps asked ≡ Ok spec → 1 ≤ spec.queue
unfolding judged
judged_queue items stamps asked spec is =
    judged_least (wanted bad_node_id_unknown (item_number items asked.item_to_monitor.node_id)) (passes (value_fault asked.item_to_monitor))
    (passes (filter_fault asked.requested_parameters.filter)) (wanted bad_monitoring_mode_invalid (mode_named asked.monitoring_mode))
    (item_spec stamps asked.requested_parameters) spec (λ n m. queue_in asked.requested_parameters.queue_size) is

room_queue : (sub : Option SubState) (spec : ItemSpec) (made : ℕ × ItemSpec) → 1 ≤ spec.queue → with_room sub spec ≡ Ok made → 1 ≤ made.1.queue
room_queue None spec made least is = absurd cc
room_queue (Some sub) spec made least is = by_full _ is
  where
    by_full : (b : Bool) → cond b (Err bad_too_many_monitored_items) (Ok (sub.given + 1, spec)) ≡ Ok made → 1 ≤ made.1.queue
    by_full true is = absurd cc
    by_full false is = let same : (sub.given + 1, spec) ≡ made = cc in subst (λ (made : ℕ × ItemSpec). 1 ≤ made.1.queue) same least

made_from : (leave : Leave) (sub : ℕ) → MayAdd leave sub → (made : Result (ℕ × ItemSpec) ℕ) (s : ServerState) → ((one : ℕ × ItemSpec) → made ≡ Ok one → 1 ≤ one.1.queue)
    → From leave s (with_made sub made s)
made_from leave sub may (Ok made) s least did h = begun_by leave (Does sub (Adds made.1)) s (with_made sub (Ok made) s) did may (least made refl) refl h
made_from leave sub may (Err code) s least did h = h

pub item_least : (sub : ℕ) (stamps : Timestamps) (asked : MonitoredItemCreateRequest) (s : ServerState) (one : ℕ × ItemSpec) → item_judged sub stamps asked s ≡ Ok one
    → 1 ≤ one.1.queue
item_least sub stamps asked s one is =
    through (judged s.config.items stamps asked) (with_room (sub_at sub s.subs)) (λ (made : ℕ × ItemSpec). 1 ≤ made.1.queue) one
    (λ spec good room. room_queue (sub_at sub s.subs) spec one (judged_queue s.config.items stamps asked spec good) room) is

item_from : (leave : Leave) (sub : ℕ) → MayAdd leave sub → (stamps : Timestamps) (asked : MonitoredItemCreateRequest) (s : ServerState)
    → From leave s (with_item sub stamps asked s)
unfolding with_item
item_from leave sub may stamps asked s = made_from leave sub may (item_judged sub stamps asked s) s (item_least sub stamps asked s)

pub create_items_comes : (asker : Asker) (session : ℕ) (request : CreateMonitoredItemsRequest) (s : ServerState)
    → Comes (Adding request.subscription_id) s (create_items asker session request s)
unfolding create_items
create_items_comes asker session request s =
    let leave : Leave = Adding request.subscription_id in
    done_comes leave asker (create_all asker request.subscription_id request.items_to_create) (create_checked session request s) s
    (λ stamps is. each_from leave (with_item request.subscription_id stamps) request.items_to_create s (item_from leave request.subscription_id refl stamps) _
    (quiet leave asker _ _ refl))

-- ---- modes, and items that end

mode_from : (leave : Leave) (sub : ℕ) (mode : Mode) → MaySet leave sub mode → (id : ℕ) (s : ServerState) → From leave s (with_mode_set sub mode id s)
unfolding with_mode_set
mode_from leave sub mode may id s did h = begun_by leave (Does sub (Modes id mode)) s (with_mode_set sub mode id s) did may tt refl h

mode_is : (found : Option Mode) (code : ℕ) (mode : Mode) → wanted code found ≡ Ok mode → found ≡ Some mode
mode_is None code mode is = absurd cc
mode_is (Some one) code mode is = let same : one ≡ mode = cc in ap Some same

mode_of_chain : (list own : Result (Unit {0}) ℕ) (found : Option Mode) (code : ℕ) (mode : Mode) → (list >>= (λ _. own >>= (λ _. wanted code found))) ≡ Ok mode
    → found ≡ Some mode
mode_of_chain (Err fault) own found code mode is = absurd cc
mode_of_chain (Ok one) (Err fault) found code mode is = absurd cc
mode_of_chain (Ok one) (Ok other) found code mode is = mode_is found code mode is

pub mode_asked : (session : ℕ) (request : SetMonitoringModeRequest) (mode : Mode) (s : ServerState) → modes_checked session request s ≡ Ok mode
    → mode_named request.monitoring_mode ≡ Some mode
mode_asked session request mode s is =
    mode_of_chain (passes (operations_fault (length request.monitored_item_ids))) (own_checked session request.subscription_id s)
    (mode_named request.monitoring_mode) bad_monitoring_mode_invalid mode is

pub set_modes_comes : (asker : Asker) (session : ℕ) (request : SetMonitoringModeRequest) (s : ServerState)
    → Comes (Setting request.subscription_id (mode_named request.monitoring_mode)) s (set_modes asker session request s)
unfolding set_modes
set_modes_comes asker session request s =
    let leave : Leave = Setting request.subscription_id (mode_named request.monitoring_mode) in
    done_comes leave asker (set_all asker request.subscription_id request.monitored_item_ids) (modes_checked session request s) s
    (λ mode is. each_from leave (with_mode_set request.subscription_id mode) request.monitored_item_ids s
    (mode_from leave request.subscription_id mode (refl, mode_asked session request mode s is)) _
    (answer_comes leave (Answers ModesSet) _ _ asker _ tt tt refl (all_within (Answered ModesSet ∷ []))))

removed_from : (leave : Leave) (sub id : ℕ) (s : ServerState) → From leave s (without_item_of sub id s)
unfolding without_item_of
removed_from leave sub id s did h = begun_by leave (Does sub (Removes id)) s (without_item_of sub id s) did tt tt refl h

pub delete_items_comes : (leave : Leave) (asker : Asker) (session : ℕ) (request : DeleteMonitoredItemsRequest) (s : ServerState)
    → Comes leave s (delete_items asker session request s)
unfolding delete_items
delete_items_comes leave asker session request s =
    done_comes leave asker (delete_all asker request.subscription_id request.monitored_item_ids) (delete_checked session request s) s
    (λ found is. each_from leave (without_item_of request.subscription_id) request.monitored_item_ids s (removed_from leave request.subscription_id) _
    (quiet leave asker _ _ refl))

-- ---- a subscription is made

pub record IsNew (spec : SubSpec) (s : ServerState) : Type 0 where
  pub id : spec.id ≡ s.config.boot * 65536 + (s.made + 1)
  pub room : s.made < 65535

new_by : (full : Bool) (code : ℕ) (one spec : SubSpec) → cond full (Err code) (Ok one) ≡ Ok spec → (full ≡ false) × (one ≡ spec)
new_by true code one spec is = absurd cc
new_by false code one spec is = (refl, cc)

second_false : (a b : Bool) → (a || b) ≡ false → b ≡ false
second_false true b is = absurd cc
second_false false b is = is

asked_id : (request : CreateSubscriptionRequest) (s : ServerState) → (asked_spec request s).id ≡ s.config.boot * 65536 + (s.made + 1)
unfolding revised_spec
asked_id request s = refl

pub is_new : (request : CreateSubscriptionRequest) (s : ServerState) (spec : SubSpec) → new_checked request s ≡ Ok spec → IsNew spec s
is_new request s spec is =
    let h = new_by (is_full s) bad_too_many_subscriptions (asked_spec request s) spec is in
    let room : nat_le 65535 s.made ≡ false = second_false (nat_le 32 (length s.subs)) (nat_le 65535 s.made) h.0 in
    record {
      id = sym (ap (λ (spec : SubSpec). spec.id) h.1) ∙ asked_id request s;
      room = grind (arith, nat_tests);
    }

made_comes : (leave : Leave) (asker : Asker) (session : ℕ) (spec : SubSpec) (s : ServerState) → IsNew spec s → Comes leave s (create_one asker session spec s)
unfolding with_new_sub
made_comes leave asker session spec s h =
    let less : ServerState = record s { subs = without_sub spec.id s.subs } in
    let none : ServerState = record less { sessions = disowned spec.id s.sessions } in
    let owner : ServerState = record less { sessions = owned spec.id session (disowned spec.id s.sessions) } in
    begun_by leave (Ends spec.id) s less _ tt tt refl
    (begun_by leave (Asks (Disown spec.id)) less none _ tt (gone_here spec.id s.subs) refl
    (begun_by leave (Asks (Own spec.id session)) none owner _ tt tt refl
    (answer_comes leave (Makes spec s.age) owner (with_new_sub session spec s) asker _ tt (h.id, h.room) refl (all_within (Subscribed spec.id ∷ [])))))

pub create_sub_comes : (leave : Leave) (asker : Asker) (session : ℕ) (request : CreateSubscriptionRequest) (s : ServerState)
    → Comes leave s (create_sub asker session request s)
unfolding create_sub
create_sub_comes leave asker session request s =
    done_comes leave asker (create_one asker session) (new_checked request s) s (λ spec is. made_comes leave asker session spec s (is_new request s spec is))

-- ---- the other services of subscriptions

pub modify_sub_comes : (leave : Leave) (asker : Asker) (session : ℕ) (request : ModifySubscriptionRequest) (s : ServerState)
    → Comes leave s (modify_sub asker session request s)
unfolding modify_sub
modify_sub_comes leave asker session request s =
    done_comes leave asker (modify_one asker) (modify_checked session request s) s
    (λ spec is. begun_by leave (Does spec.id (Modifies spec s.age)) s _ _ tt tt refl (quiet leave asker _ _ refl))

enabled_from : (leave : Leave) (enabled : Bool) (found : Option SubState) (id : ℕ) (s : ServerState) → From leave s (enabled_if enabled found id s)
enabled_from leave enabled None id s did h = h
enabled_from leave enabled (Some sub) id s did h = begun_by leave (Does id (Enables enabled)) s (enabled_if enabled (Some sub) id s) did tt tt refl h

publishing_from : (leave : Leave) (session : ℕ) (enabled : Bool) (id : ℕ) (s : ServerState) → From leave s (with_publishing session enabled id s)
unfolding with_publishing
publishing_from leave session enabled id s = enabled_from leave enabled (own_sub session id s) id s

pub set_publishing_comes : (leave : Leave) (asker : Asker) (session : ℕ) (request : SetPublishingModeRequest) (s : ServerState)
    → Comes leave s (set_publishing asker session request s)
unfolding set_publishing
set_publishing_comes leave asker session request s =
    done_comes leave asker (enable_all asker session request.publishing_enabled request.subscription_ids) _ s
    (λ found is. each_from leave (with_publishing session request.publishing_enabled) request.subscription_ids s (publishing_from leave session request.publishing_enabled) _
    (quiet leave asker _ _ refl))

record IsKept (id number : ℕ) (message : NotificationMessage) (s : ServerState) : Type 0 where
  sub : SubState
  found : sub_at id s.subs ≡ Some sub
  kept : message_of number sub.kept ≡ Some message

own_found : (owned : Bool) (found : Option SubState) (code : ℕ) (sub : SubState) → wanted code (cond owned found None) ≡ Ok sub → found ≡ Some sub
own_found true None code sub is = absurd cc
own_found true (Some one) code sub is = let same : one ≡ sub = cc in ap Some same
own_found false found code sub is = absurd cc

wanted_is : (found : Option NotificationMessage) (code : ℕ) (message : NotificationMessage) → wanted code found ≡ Ok message → found ≡ Some message
wanted_is None code message is = absurd cc
wanted_is (Some one) code message is = let same : one ≡ message = cc in ap Some same

is_kept : (session : ℕ) (request : RepublishRequest) (message : NotificationMessage) (s : ServerState) → republish_checked session request s ≡ Ok message
    → IsKept request.subscription_id request.retransmit_sequence_number message s
is_kept session request message s is =
    through (own_or_fault session request.subscription_id s) _ (λ message. IsKept request.subscription_id request.retransmit_sequence_number message s) message
    (λ sub own kept. record {
      sub = sub;
      found = own_found (owns session request.subscription_id s) (sub_at request.subscription_id s.subs) bad_subscription_id_invalid sub own;
      kept = wanted_is (message_of request.retransmit_sequence_number sub.kept) bad_message_not_available message kept;
    }) is

pub republish_comes : (leave : Leave) (asker : Asker) (session : ℕ) (request : RepublishRequest) (s : ServerState)
    → MayRepeat leave request.subscription_id request.retransmit_sequence_number → Comes leave s (republish asker session request s)
unfolding republish
republish_comes leave asker session request s may =
    done_comes leave asker (republish_one asker) (republish_checked session request s) s
    (λ message is.
    let h = is_kept session request message s is in
    let facts : Repeated message ∷ [] ≡ repeated_of request.retransmit_sequence_number (sub_at request.subscription_id s.subs) =
    sym (ap (repeated_of request.retransmit_sequence_number) h.found ∙ ap repeated h.kept) in
    answer_comes leave (Repeats request.subscription_id request.retransmit_sequence_number) s s asker _ may tt refl
    (within_same (Repeated message ∷ []) (repeated_of request.retransmit_sequence_number (sub_at request.subscription_id s.subs)) facts))

-- rules in turn, and an answer behind them that tells of no move
all_comes : (leave : Leave) (asker : Asker) (answer : ResponseHeader → Reply) (rule : ℕ → ServerState → Did) (ids : List ℕ) (s : ServerState)
    → ((id : ℕ) (t : ServerState) → Comes leave t (rule id t)) → ((header : ResponseHeader) → facts_of_reply (answer header) ≡ [])
    → Comes leave s (and_then (answered asker answer) (each rule ids s))
all_comes leave asker answer rule ids s on none =
    then_comes leave s (answered asker answer) (each rule ids s) (each_comes leave rule ids s on)
    (quiet leave asker (answer (good_header asker.handle (each rule ids s).state)) (each rule ids s).state (none (good_header asker.handle (each rule ids s).state)))

pub transfer_one_comes : (leave : Leave) (session id : ℕ) (s : ServerState) → MayTransfer leave id → Comes leave s (transfer_one session id s)
unfolding transfer_one
transfer_one_comes leave session id s may = transferred_comes leave id session s may

transfers_come : (leave : Leave) (session : ℕ) (ids : List ℕ) (s : ServerState) → ((id : ℕ) → IsAmong id ids → MayTransfer leave id)
    → Comes leave s (each (transfer_one session) ids s)
transfers_come leave session [] s may = idle leave s
transfers_come leave session (id ∷ ids) s may =
    then_comes leave s (each (transfer_one session) ids) (transfer_one session id s) (transfer_one_comes leave session id s (may id (inl refl)))
    (transfers_come leave session ids (transfer_one session id s).state (λ other h. may other (inr h)))

pub transfer_subs_comes : (asker : Asker) (session : ℕ) (request : TransferSubscriptionsRequest) (s : ServerState)
    → Comes (Transferring request.subscription_ids) s (transfer_subs asker session request s)
unfolding transfer_subs
transfer_subs_comes asker session request s =
    let leave : Leave = Transferring request.subscription_ids in
    done_comes leave asker (transfer_all asker session request.subscription_ids) (passes (operations_fault (length request.subscription_ids))) s
    (λ found is.
    let answer : ResponseHeader → Reply = transfer_reply (answers (transfer_result session) (leaves (transfer_one session)) request.subscription_ids s) in
    let first : Did = each (transfer_one session) request.subscription_ids s in
    then_comes leave s (answered asker answer) first (transfers_come leave session request.subscription_ids s (λ id h. h))
    (quiet leave asker (answer (good_header asker.handle first.state)) first.state refl))

deleted_if_comes : (leave : Leave) (found : Option SubState) (id : ℕ) (s : ServerState) → Comes leave s (deleted_if found id s)
deleted_if_comes leave None id s = idle leave s
deleted_if_comes leave (Some sub) id s = deleted_comes leave id s

delete_one_comes : (leave : Leave) (session id : ℕ) (s : ServerState) → Comes leave s (delete_one session id s)
unfolding delete_one
delete_one_comes leave session id s = deleted_if_comes leave (own_sub session id s) id s

pub delete_subs_comes : (leave : Leave) (asker : Asker) (session : ℕ) (request : DeleteSubscriptionsRequest) (s : ServerState)
    → Comes leave s (delete_subs asker session request s)
unfolding delete_subs
delete_subs_comes leave asker session request s =
    done_comes leave asker (subs_deleted asker session request.subscription_ids) (passes (operations_fault (length request.subscription_ids))) s
    (λ found is. all_comes leave asker (deleted_reply (answers (sub_known session) (leaves (delete_one session)) request.subscription_ids s))
    (delete_one session) request.subscription_ids s (delete_one_comes leave session) (λ header. refl))
