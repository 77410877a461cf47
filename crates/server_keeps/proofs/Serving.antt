-- The services of items and subscriptions keep the limits.
use Rattle.std.proofs.Common.{◌≡◌, ℕ, ◌+◌, ◌*◌, ◌==◌, ◌||◌, ◌^◌, ◌<◌, ◌≤◌, min, max, List, [], Bool, true, false, cond, nat_le, nat_lt, Option, Some, None, IfSome, not, length, refl, sym, ◌∙◌, subst, arith}
use Rattle.std.proofs.lemmas.Bool.Decides.{nat_tests}
use Rattle.std.specs.Prelude.{Result, Ok, Err}
use Rattle.std.specs.List.{AllByRecursion}
use Rattle.ua_base.specs.Status.{bad_attribute_id_invalid, bad_data_encoding_invalid, bad_index_range_invalid, bad_message_not_available, bad_monitored_item_filter_unsupported, bad_monitored_item_id_invalid, bad_monitoring_mode_invalid, bad_node_id_unknown, bad_nothing_to_do, bad_subscription_id_invalid, bad_timestamps_to_return_invalid, bad_too_many_monitored_items, bad_too_many_operations, bad_too_many_subscriptions, good}
use Rattle.ua_base.specs.declared.modes.Mode.{Mode}
use Rattle.ua_base.specs.declared.modes.Timestamps.{Timestamps}
use Rattle.set_model.specs.declared.source.Change.{Change}
use Rattle.set_model.specs.Source.{last_of}
use Rattle.retransmit.specs.Kept.{message_of, numbers_of}
use Rattle.ua_values.specs.Limits.{most_items}
use Rattle.ua_values.specs.declared.extension.ExtensionObject.{ExtensionObject}
use Rattle.ua_structures.specs.declared.shared.ReadValueId.{ReadValueId}
use Rattle.ua_structures.specs.Body.{object_at}
use Rattle.ua_sub_msgs.specs.declared.item.CreateMonitoredItemsRequest.{CreateMonitoredItemsRequest}
use Rattle.ua_sub_msgs.specs.declared.item.DeleteMonitoredItemsRequest.{DeleteMonitoredItemsRequest}
use Rattle.ua_sub_msgs.specs.declared.item.MonitoredItemCreateRequest.{MonitoredItemCreateRequest}
use Rattle.ua_sub_msgs.specs.declared.item.MonitoredItemCreateResult.{MonitoredItemCreateResult}
use Rattle.ua_sub_msgs.specs.declared.item.SetMonitoringModeRequest.{SetMonitoringModeRequest}
use Rattle.ua_sub_msgs.specs.declared.publish.RepublishRequest.{RepublishRequest}
use Rattle.ua_sub_msgs.specs.declared.subscription.CreateSubscriptionRequest.{CreateSubscriptionRequest}
use Rattle.ua_sub_msgs.specs.declared.subscription.DeleteSubscriptionsRequest.{DeleteSubscriptionsRequest}
use Rattle.ua_sub_msgs.specs.declared.subscription.ModifySubscriptionRequest.{ModifySubscriptionRequest}
use Rattle.ua_sub_msgs.specs.declared.subscription.SetPublishingModeRequest.{SetPublishingModeRequest}
use Rattle.ua_sub_msgs.specs.declared.subscription.TransferResult.{TransferResult}
use Rattle.ua_sub_msgs.specs.declared.subscription.TransferSubscriptionsRequest.{TransferSubscriptionsRequest}
use Rattle.ua_sub_msgs.specs.Families.{filters}
use Rattle.ua_sub_msgs.specs.Structures.{a_create_monitored_items_request, a_delete_monitored_items_request, a_delete_subscriptions_request, a_monitored_item_create_request, a_monitored_item_create_result, a_set_monitoring_mode_request, a_set_publishing_mode_request, a_transfer_result, a_transfer_subscriptions_request}
use Rattle.sessions.specs.Table as table
use Rattle.subscription.specs.declared.spec.ItemSpec.{ItemSpec}
use Rattle.subscription.specs.declared.spec.SubSpec.{SubSpec}
use Rattle.subscription.specs.Calls.{added, modified, new_sub, removed, with_enabled, with_mode_of}
use Rattle.subscription.specs.Items.{is_there}
use Rattle.subscription.specs.State.{SubState}
use Rattle.server_rules.specs.declared.conn.Asker.{Asker}
use Rattle.server_rules.specs.State.{ServerState, is_sub, sub_at, with_sub, without_sub}
use Rattle.server_rules.specs.Said.{each}
use Rattle.server_rules.specs.Durations.{duration_bits, revised_keep_alive, revised_lifetime, revised_most, revised_queue}
use Rattle.server_rules.specs.Moves.{owns}
use Rattle.server_rules.specs.Operations.{◌>>=◌, after_each, answered, answers, coded_results, is_found, leaves, mode_named, operations_fault, own_checked, own_or_fault, own_sub, passes, timestamps_named, wanted}
use Rattle.server_rules.specs.Items.{create_all, create_checked, create_items, create_reply, current_of, delete_all, delete_checked, delete_items, delete_reply, filter_fault, id_result, is_absent, is_full, is_plain_filter, item_judged, item_known, item_node, item_number, item_result, judged, made_result, modes_checked, modes_reply, set_all, set_modes, value_fault, with_item, with_made, with_mode_set, with_room, without_item_of}
use Rattle.server_rules.specs.Reading.{form_fault, is_blank}
use Rattle.server_rules.specs.Subscriptions.{asked_spec, changed_spec, create_one, create_sub, created_reply, delete_all as delete_all_subs, delete_one, delete_subs, deleted_if, deleted_reply, enable_all, enabled_if, modified_reply, modify_checked, modify_one, modify_sub, new_checked, own_result, publishing_reply, republish, republish_checked, republish_one, republished_reply, revised_spec, set_publishing, sub_id, sub_known, sub_to_move, transfer_all, transfer_one, transfer_reply, transfer_result, transfer_subs, transfer_told, with_new_sub, with_publishing}
use Rattle.server_rules.specs.Subscriptions as subscriptions
use Rattle.server_keeps.specs.Fitting.{AreUInt32, FitsChange, FitsMessage, FitsServer, FitsSub, IsUInt32, KeepsDid}
use Rattle.server_keeps.proofs.Answering.{Any, FitsAsker, Judged, after_each_fits, answered_keeps, answers_keep, answers_long, any_some, done_keeps, each_in_turn, found_fits, found_sub_fits, in_turn, judged_passes, judged_then, judged_wanted, quiet, sub_fits}
use Rattle.server_keeps.proofs.Apart.{apart_new}
use Rattle.server_keeps.proofs.Asked.{deletes_asked, item_handle, items_asked, modes_asked, publishing_asked, subs_asked, transfers_asked}
use Rattle.server_keeps.proofs.Describing.{duration_fits}
use Rattle.server_keeps.proofs.Lists.{all_filter, all_more, all_true, choice}
use Rattle.server_keeps.proofs.Moving.{deleted_keeps, transferred_keeps}
use Rattle.server_keeps.proofs.Replies.{created_items_keep, created_sub_keeps, modified_sub_keeps, republish_keeps, result_keeps, results_keep, transfer_keeps, transfers_keep}
use Rattle.server_keeps.proofs.Sessions.{disowned_fits, owned_fits}
use Rattle.server_keeps.proofs.Subs.{HasRoom, added_fits, enabled_fits, kept_message_fits, mode_of_fits, modified_fits, new_sub_fits, numbers_fit, removed_fits}
use Rattle.server_keeps.proofs.Values.{last_fits}

-- ---- lists of operations

pub fault_fits : (count : ℕ) → IfSome (operations_fault count) IsUInt32
fault_fits count =
    choice (λ o. IfSome o IsUInt32) (count == 0) (Some bad_nothing_to_do) (cond (nat_lt 1000 count) (Some bad_too_many_operations) None)
    (omega arith) (choice (λ o. IfSome o IsUInt32) (nat_lt 1000 count) (Some bad_too_many_operations) None (omega arith) tt)

pub operations_judged : (count : ℕ) → Judged Any (passes (operations_fault count))
operations_judged count = judged_passes (operations_fault count) (fault_fits count)

-- the codes of as many operations as there may be
codes_fit : {A : Type 0} (answer : A → ServerState → ℕ) (step : A → ServerState → ServerState)
    → ((one : A) (t : ServerState) → FitsServer t → FitsServer (step one t)) → ((one : A) (t : ServerState) → IsUInt32 (answer one t))
    → (all : List A) (s : ServerState) → length all ≤ most_items → FitsServer s → AreUInt32 (answers answer step all s)
codes_fit answer step keeps each all s few h =
    let same = answers_long answer step all s in (
      omega (arith, same, few),
      answers_keep Any IsUInt32 answer step (λ one t any kept. keeps one t kept) (λ one t any kept. each one t) all s (all_true Any (λ one. tt) all) h,
    )

left_fits : {A : Type 0} (step : A → ServerState → ServerState) → ((one : A) (t : ServerState) → FitsServer t → FitsServer (step one t))
    → (all : List A) (s : ServerState) → FitsServer s → FitsServer (after_each step all s)
left_fits step keeps all s h = after_each_fits Any step (λ one t any kept. keeps one t kept) all s (all_true Any (λ one. tt) all) h

-- ---- the session's own

pub own_fits : (session id : ℕ) (s : ServerState) → FitsServer s → IfSome (own_sub session id s) FitsSub
own_fits session id s h = choice (λ o. IfSome o FitsSub) (owns session id s) (sub_at id s.subs) None (found_fits id s h) tt

found_judged : (sub : Option SubState) → Judged Any (is_found sub)
found_judged None = omega arith
found_judged (Some sub) = tt

-- ---- items are made

pub form_fault_fits : (asked : ReadValueId) → IfSome (form_fault asked) IsUInt32
form_fault_fits asked =
    choice (λ o. IfSome o IsUInt32) (not (is_blank asked.index_range)) (Some bad_index_range_invalid)
    (cond (not (is_blank asked.data_encoding.name)) (Some bad_data_encoding_invalid) None) (omega arith)
    (choice (λ o. IfSome o IsUInt32) (not (is_blank asked.data_encoding.name)) (Some bad_data_encoding_invalid) None (omega arith) tt)

value_fault_fits : (asked : ReadValueId) → IfSome (value_fault asked) IsUInt32
value_fault_fits asked =
    choice (λ o. IfSome o IsUInt32) (asked.attribute_id == 13) (form_fault asked) (Some bad_attribute_id_invalid) (form_fault_fits asked) (omega arith)

filter_fault_fits : (object : ExtensionObject) → IfSome (filter_fault object) IsUInt32
filter_fault_fits object =
    choice (λ o. IfSome o IsUInt32) (is_absent object.body) None
    (cond (is_plain_filter (object_at filters object)) None (Some bad_monitored_item_filter_unsupported)) tt
    (choice (λ o. IfSome o IsUInt32) (is_plain_filter (object_at filters object)) None (Some bad_monitored_item_filter_unsupported) tt (omega arith))

queue_small : (size : ℕ) → IsUInt32 (revised_queue size)
queue_small size = let most : max 1 (min 1000 size) ≤ 1000 = omega arith in omega (arith, most)

-- what an item is made with
pub record FitsSpec (spec : ItemSpec) : Type 0 where
  pub handle : IsUInt32 spec.handle
  pub queue : IsUInt32 spec.queue

judged_fits : (items : ℕ) (stamps : Timestamps) (asked : MonitoredItemCreateRequest) → a_monitored_item_create_request.keeps asked
    → Judged FitsSpec (judged items stamps asked)
unfolding judged
judged_fits items stamps asked h =
    let object : ExtensionObject = asked.requested_parameters.filter in
    judged_then Any FitsSpec (wanted bad_node_id_unknown (item_number items asked.item_to_monitor.node_id)) _
    (judged_wanted Any bad_node_id_unknown (item_number items asked.item_to_monitor.node_id) (omega arith) (any_some (item_number items asked.item_to_monitor.node_id)))
    (λ number any. judged_then Any FitsSpec (passes (value_fault asked.item_to_monitor)) _
    (judged_passes (value_fault asked.item_to_monitor) (value_fault_fits asked.item_to_monitor))
    (λ passed also. judged_then Any FitsSpec (wanted bad_monitoring_mode_invalid (mode_named asked.monitoring_mode)) _
    (judged_wanted Any bad_monitoring_mode_invalid (mode_named asked.monitoring_mode) (omega arith) (any_some (mode_named asked.monitoring_mode)))
    (λ mode too. judged_then Any FitsSpec (passes (filter_fault object)) _ (judged_passes (filter_fault object) (filter_fault_fits object))
    (λ last all. record { handle = item_handle asked h; queue = queue_small asked.requested_parameters.queue_size }))))

-- an item that is made: under which id, and that there is room
pub record Made (sub : ℕ) (s : ServerState) (made : ℕ × ItemSpec) : Type 0 where
  pub id : IsUInt32 made.0
  pub spec : FitsSpec made.1
  pub room : (found : SubState) → sub_at sub s.subs ≡ Some found → HasRoom found

both_false : (a b : Bool) → (a || b) ≡ false → (a ≡ false) × (b ≡ false)
both_false false false is = (refl, refl)
both_false true b is = absurd cc
both_false false true is = absurd cc

room_of : (sub : SubState) → is_full sub ≡ false → FitsSub sub → HasRoom sub
room_of sub is h =
    let both = both_false (nat_le 1024 (length sub.items)) (sub.given == 4294967295) is in
    let one : nat_le 1024 (length sub.items) ≡ false = both.0 in
    let other : (sub.given == 4294967295) ≡ false = both.1 in
    let given : sub.given < 2 ^ 32 = h.given in
    record { count = grind (arith, nat_tests); given = grind (arith, nat_tests) }

room_judged : (id : ℕ) (s : ServerState) (found : Option SubState) (spec : ItemSpec) → sub_at id s.subs ≡ found → IfSome found FitsSub → FitsSpec spec
    → Judged (Made id s) (with_room found spec)
room_judged id s None spec is h fits = omega arith
room_judged id s (Some sub) spec is h fits = by_room (is_full sub) refl
  where
    by_room : (b : Bool) → is_full sub ≡ b → Judged (Made id s) (cond b (Err bad_too_many_monitored_items) (Ok (sub.given + 1, spec)))
    by_room true full = omega arith
    by_room false full =
        let room : HasRoom sub = room_of sub full h in
        record {
          id = room.given;
          spec = fits;
          room = λ other also.
              let both : Some sub ≡ Some other = sym is ∙ also in
              let same : sub ≡ other = cc in
              subst HasRoom same room;
        }

item_judged_fits : (sub : ℕ) (stamps : Timestamps) (asked : MonitoredItemCreateRequest) (s : ServerState) → a_monitored_item_create_request.keeps asked
    → FitsServer s → Judged (Made sub s) (item_judged sub stamps asked s)
item_judged_fits sub stamps asked s asks h =
    judged_then FitsSpec (Made sub s) (judged s.config.items stamps asked) (with_room (sub_at sub s.subs)) (judged_fits s.config.items stamps asked asks)
    (λ spec fits. room_judged sub s (sub_at sub s.subs) spec refl (found_fits sub s h) fits)

made_keeps : (sub : ℕ) (s : ServerState) (made : Result (ℕ × ItemSpec) ℕ) → Judged (Made sub s) made → a_monitored_item_create_result.keeps (made_result made)
made_keeps sub s (Ok made) fits = result_keeps good made.0 made.1.queue (omega arith) fits.id fits.spec.queue
made_keeps sub s (Err code) fits = result_keeps code 0 0 fits (omega arith) (omega arith)

made_fits : (sub : ℕ) (s : ServerState) (made : Result (ℕ × ItemSpec) ℕ) → Judged (Made sub s) made → FitsServer s → FitsServer (with_made sub made s)
made_fits sub s (Ok made) fits h =
    found_sub_fits sub (added made.1 (last_of made.1.node s.current)) s h (λ one. refl)
    (λ one is kept. added_fits made.1 (last_of made.1.node s.current) one (fits.room one is) fits.spec.handle (last_fits made.1.node s.current h.current) kept)
made_fits sub s (Err code) fits h = h

item_result_keeps : (sub : ℕ) (stamps : Timestamps) (asked : MonitoredItemCreateRequest) (s : ServerState) → a_monitored_item_create_request.keeps asked
    → FitsServer s → a_monitored_item_create_result.keeps (item_result sub stamps asked s)
unfolding item_result
item_result_keeps sub stamps asked s asks h = made_keeps sub s (item_judged sub stamps asked s) (item_judged_fits sub stamps asked s asks h)

with_item_fits : (sub : ℕ) (stamps : Timestamps) (asked : MonitoredItemCreateRequest) (s : ServerState) → a_monitored_item_create_request.keeps asked
    → FitsServer s → FitsServer (with_item sub stamps asked s)
unfolding with_item
with_item_fits sub stamps asked s asks h = made_fits sub s (item_judged sub stamps asked s) (item_judged_fits sub stamps asked s asks h) h

create_all_keeps : (asker : Asker) (sub : ℕ) (asked : List MonitoredItemCreateRequest) (stamps : Timestamps) (s : ServerState) → FitsServer s → FitsAsker asker
    → (length asked ≤ most_items) × AllByRecursion a_monitored_item_create_request.keeps asked → KeepsDid (create_all asker sub asked stamps s)
create_all_keeps asker sub asked stamps s h fits asks =
    let results : List MonitoredItemCreateResult = answers (item_result sub stamps) (with_item sub stamps) asked s in
    let same = answers_long (item_result sub stamps) (with_item sub stamps) asked s in
    let few = asks.0 in
    answered_keeps asker (create_reply results) (after_each (with_item sub stamps) asked s)
    (after_each_fits a_monitored_item_create_request.keeps (with_item sub stamps) (λ one t ask kept. with_item_fits sub stamps one t ask kept) asked s asks.1 h) fits
    (λ header kept. record {
      keeps = created_items_keep header results kept (
        omega (arith, same, few),
        answers_keep a_monitored_item_create_request.keeps a_monitored_item_create_result.keeps (item_result sub stamps) (with_item sub stamps)
            (λ one t ask still. with_item_fits sub stamps one t ask still) (λ one t ask still. item_result_keeps sub stamps one t ask still) asked s asks.1 h,
      );
      brings = tt;
    })

-- the list, the subscription, and what is named
checked_fits : {A : Type 0} (count session id : ℕ) (code : ℕ) (o : Option A) (s : ServerState) → IsUInt32 code
    → Judged Any (passes (operations_fault count) >>= λ passed. own_checked session id s >>= λ own. wanted code o)
checked_fits count session id code o s c =
    judged_then Any Any (passes (operations_fault count)) (λ passed. own_checked session id s >>= λ own. wanted code o) (operations_judged count)
    (λ passed any. judged_then Any Any (own_checked session id s) (λ own. wanted code o) (found_judged (own_sub session id s))
    (λ own also. judged_wanted Any code o c (any_some o)))

pub create_items_keeps : (asker : Asker) (session : ℕ) (r : CreateMonitoredItemsRequest) (s : ServerState) → FitsServer s → FitsAsker asker
    → a_create_monitored_items_request.keeps r → KeepsDid (create_items asker session r s)
unfolding create_items
create_items_keeps asker session r s h fits asks =
    done_keeps Any asker (create_all asker r.subscription_id r.items_to_create) (create_checked session r s) s h fits
    (checked_fits (length r.items_to_create) session r.subscription_id bad_timestamps_to_return_invalid (timestamps_named r.timestamps_to_return) s (omega arith))
    (λ stamps any. create_all_keeps asker r.subscription_id r.items_to_create stamps s h fits (items_asked r asks))

-- ---- modes and ends of items

id_result_fits : (id : ℕ) (sub : Option SubState) → IsUInt32 (id_result id sub)
id_result_fits id None = omega arith
id_result_fits id (Some sub) = choice IsUInt32 (is_there id sub.items) good bad_monitored_item_id_invalid (omega arith) (omega arith)

known_fits : (sub id : ℕ) (s : ServerState) → IsUInt32 (item_known sub id s)
unfolding item_known
known_fits sub id s = id_result_fits id (sub_at sub s.subs)

current_fits : (node : Option ℕ) (changes : List Change) → AllByRecursion FitsChange changes → IfSome (current_of node changes) FitsChange
current_fits None changes h = tt
current_fits (Some node) changes h = last_fits node changes h

mode_set_fits : (sub : ℕ) (mode : Mode) (id : ℕ) (s : ServerState) → FitsServer s → FitsServer (with_mode_set sub mode id s)
unfolding with_mode_set
mode_set_fits sub mode id s h =
    let current : Option Change = current_of (item_node id (sub_at sub s.subs)) s.current in
    sub_fits sub (with_mode_of id mode current) s h (λ one. refl) (mode_of_fits id mode current (current_fits (item_node id (sub_at sub s.subs)) s.current h.current))

removed_item_fits : (sub id : ℕ) (s : ServerState) → FitsServer s → FitsServer (without_item_of sub id s)
unfolding without_item_of
removed_item_fits sub id s h = sub_fits sub (removed id) s h (λ one. refl) (removed_fits id)

set_all_keeps : (asker : Asker) (sub : ℕ) (ids : List ℕ) (mode : Mode) (s : ServerState) → FitsServer s → FitsAsker asker → length ids ≤ most_items
    → KeepsDid (set_all asker sub ids mode s)
set_all_keeps asker sub ids mode s h fits few =
    let codes : List ℕ = answers (item_known sub) (with_mode_set sub mode) ids s in
    answered_keeps asker (modes_reply codes) (after_each (with_mode_set sub mode) ids s) (left_fits (with_mode_set sub mode) (mode_set_fits sub mode) ids s h) fits
    (λ header kept. record {
      keeps = results_keep (coded_results codes header) kept
          (codes_fit (item_known sub) (with_mode_set sub mode) (mode_set_fits sub mode) (known_fits sub) ids s few h);
      brings = tt;
    })

pub set_modes_keeps : (asker : Asker) (session : ℕ) (r : SetMonitoringModeRequest) (s : ServerState) → FitsServer s → FitsAsker asker
    → a_set_monitoring_mode_request.keeps r → KeepsDid (set_modes asker session r s)
unfolding set_modes
set_modes_keeps asker session r s h fits asks =
    done_keeps Any asker (set_all asker r.subscription_id r.monitored_item_ids) (modes_checked session r s) s h fits
    (checked_fits (length r.monitored_item_ids) session r.subscription_id bad_monitoring_mode_invalid (mode_named r.monitoring_mode) s (omega arith))
    (λ mode any. set_all_keeps asker r.subscription_id r.monitored_item_ids mode s h fits (modes_asked r asks))

delete_all_keeps : (asker : Asker) (sub : ℕ) (ids : List ℕ) (u : Unit {0}) (s : ServerState) → FitsServer s → FitsAsker asker → length ids ≤ most_items
    → KeepsDid (delete_all asker sub ids u s)
delete_all_keeps asker sub ids u s h fits few =
    let codes : List ℕ = answers (item_known sub) (without_item_of sub) ids s in
    answered_keeps asker (delete_reply codes) (after_each (without_item_of sub) ids s) (left_fits (without_item_of sub) (removed_item_fits sub) ids s h) fits
    (λ header kept. record {
      keeps = results_keep (coded_results codes header) kept
          (codes_fit (item_known sub) (without_item_of sub) (removed_item_fits sub) (known_fits sub) ids s few h);
      brings = tt;
    })

pub delete_items_keeps : (asker : Asker) (session : ℕ) (r : DeleteMonitoredItemsRequest) (s : ServerState) → FitsServer s → FitsAsker asker
    → a_delete_monitored_items_request.keeps r → KeepsDid (delete_items asker session r s)
unfolding delete_items
delete_items_keeps asker session r s h fits asks =
    done_keeps Any asker (delete_all asker r.subscription_id r.monitored_item_ids) (delete_checked session r s) s h fits
    (judged_then Any Any (passes (operations_fault (length r.monitored_item_ids))) (λ passed. own_checked session r.subscription_id s)
    (operations_judged (length r.monitored_item_ids)) (λ passed any. found_judged (own_sub session r.subscription_id s)))
    (λ u any. delete_all_keeps asker r.subscription_id r.monitored_item_ids u s h fits (deletes_asked r asks))

-- ---- subscriptions are made and changed

pub record FitsCounts (spec : SubSpec) : Type 0 where
  pub most : spec.most ≤ 1000
  pub lifetime : IsUInt32 spec.lifetime
  pub keep_alive : IsUInt32 spec.keep_alive

lifetime_small : (keep_alive count : ℕ) → keep_alive ≤ 10000 → IsUInt32 (revised_lifetime keep_alive count)
lifetime_small keep_alive count h =
    let three : 3 * keep_alive ≤ 30000 = omega (arith, h) in
    let most : max (3 * keep_alive) (min 100000 count) ≤ 100000 = omega (arith, three) in
    omega (arith, most)

most_small : (count : ℕ) → revised_most count ≤ 1000
most_small count = choice (λ n. n ≤ 1000) (count == 0) 1000 (min 1000 count) (omega arith) (omega arith)

counts_fit : (id : ℕ) (enabled : Bool) (interval lifetime keep_alive most : ℕ) → FitsCounts (revised_spec id enabled interval lifetime keep_alive most)
unfolding revised_spec
counts_fit id enabled interval lifetime keep_alive most =
    let small : max 1 (min 10000 keep_alive) ≤ 10000 = omega arith in
    record {
      most = most_small most;
      lifetime = lifetime_small (revised_keep_alive keep_alive) lifetime small;
      keep_alive = omega (arith, small);
    }

id_stays : (id : ℕ) (enabled : Bool) (interval lifetime keep_alive most : ℕ) → (revised_spec id enabled interval lifetime keep_alive most).id ≡ id
unfolding revised_spec
id_stays id enabled interval lifetime keep_alive most = refl

-- a new subscription's
pub record FitsNew (spec : SubSpec) : Type 0 where
  pub id : IsUInt32 spec.id
  pub counts : FitsCounts spec

id_small : (boot made : ℕ) → boot < 2 ^ 16 → made < 65535 → IsUInt32 (sub_id boot made)
id_small boot made b m =
    let most : boot * 65536 ≤ 65535 * 65536 = omega (arith, b) in
    omega (arith, most, m)

new_judged : (request : CreateSubscriptionRequest) (s : ServerState) → FitsServer s → Judged FitsNew (new_checked request s)
new_judged request s h = by_room (subscriptions.is_full s) refl
  where
    by_room : (b : Bool) → subscriptions.is_full s ≡ b → Judged FitsNew (cond b (Err bad_too_many_subscriptions) (Ok (asked_spec request s)))
    by_room true full = omega arith
    by_room false full =
        let other : nat_le 65535 s.made ≡ false = (both_false (nat_le 32 (length s.subs)) (nat_le 65535 s.made) full).1 in
        let few : s.made < 65535 = grind (arith, nat_tests) in
        record {
          id = subst IsUInt32
              (sym (id_stays (sub_id s.config.boot s.made) request.publishing_enabled request.requested_publishing_interval request.requested_lifetime_count
              request.requested_max_keep_alive_count request.max_notifications_per_publish))
              (id_small s.config.boot s.made h.config.boot few);
          counts = counts_fit (sub_id s.config.boot s.made) request.publishing_enabled request.requested_publishing_interval request.requested_lifetime_count
              request.requested_max_keep_alive_count request.max_notifications_per_publish;
        }

new_fits : (session : ℕ) (spec : SubSpec) (s : ServerState) → FitsNew spec → FitsServer s → FitsServer (with_new_sub session spec s)
unfolding with_new_sub
new_fits session spec s fits h = record {
  config = h.config;
  level = h.level;
  current = h.current;
  sessions = owned_fits spec.id session (table.disowned spec.id s.sessions) (disowned_fits spec.id s.sessions h.sessions);
  notices = h.notices;
  subs = all_more FitsSub (without_sub spec.id s.subs) (new_sub spec s.age) (all_filter FitsSub (λ sub. not (is_sub spec.id sub)) s.subs h.subs)
      (new_sub_fits spec s.age fits.id fits.counts.most);
  apart = apart_new spec.id (new_sub spec s.age) s.subs refl h.apart;
  channels = h.channels;
  conns = h.conns;
}

create_one_keeps : (asker : Asker) (session : ℕ) (spec : SubSpec) (s : ServerState) → FitsServer s → FitsAsker asker → FitsNew spec
    → KeepsDid (create_one asker session spec s)
create_one_keeps asker session spec s h fits new =
    answered_keeps asker (created_reply spec) (with_new_sub session spec s) (new_fits session spec s new h) fits
    (λ header kept. record {
      keeps = created_sub_keeps header spec.id (duration_bits spec.interval) spec.lifetime spec.keep_alive kept new.id (duration_fits spec.interval)
          new.counts.lifetime new.counts.keep_alive;
      brings = tt;
    })

pub create_sub_keeps : (asker : Asker) (session : ℕ) (r : CreateSubscriptionRequest) (s : ServerState) → FitsServer s → FitsAsker asker
    → KeepsDid (create_sub asker session r s)
unfolding create_sub
create_sub_keeps asker session r s h fits =
    done_keeps FitsNew asker (create_one asker session) (new_checked r s) s h fits (new_judged r s h)
    (λ spec new. create_one_keeps asker session spec s h fits new)

own_judged : (session id : ℕ) (s : ServerState) → FitsServer s → Judged FitsSub (own_or_fault session id s)
own_judged session id s h = judged_wanted FitsSub bad_subscription_id_invalid (own_sub session id s) (omega arith) (own_fits session id s h)

modify_one_keeps : (asker : Asker) (spec : SubSpec) (s : ServerState) → FitsServer s → FitsAsker asker → FitsCounts spec → KeepsDid (modify_one asker spec s)
modify_one_keeps asker spec s h fits counts =
    answered_keeps asker (modified_reply spec) (with_sub spec.id (modified spec s.age) s)
    (sub_fits spec.id (modified spec s.age) s h (λ sub. refl) (modified_fits spec s.age counts.most)) fits
    (λ header kept. record {
      keeps = modified_sub_keeps header (duration_bits spec.interval) spec.lifetime spec.keep_alive kept (duration_fits spec.interval) counts.lifetime counts.keep_alive;
      brings = tt;
    })

pub modify_sub_keeps : (asker : Asker) (session : ℕ) (r : ModifySubscriptionRequest) (s : ServerState) → FitsServer s → FitsAsker asker
    → KeepsDid (modify_sub asker session r s)
unfolding modify_sub
modify_sub_keeps asker session r s h fits =
    done_keeps FitsCounts asker (modify_one asker) (modify_checked session r s) s h fits
    (judged_then FitsSub FitsCounts (own_or_fault session r.subscription_id s) (λ sub. Ok (changed_spec r sub)) (own_judged session r.subscription_id s h)
    (λ sub kept. counts_fit r.subscription_id sub.spec.enabled r.requested_publishing_interval r.requested_lifetime_count r.requested_max_keep_alive_count
    r.max_notifications_per_publish))
    (λ spec counts. modify_one_keeps asker spec s h fits counts)

-- ---- publishing is enabled or disabled

own_result_fits : (sub : Option SubState) → IsUInt32 (own_result sub)
own_result_fits None = omega arith
own_result_fits (Some sub) = omega arith

sub_known_fits : (session id : ℕ) (s : ServerState) → IsUInt32 (sub_known session id s)
unfolding sub_known
sub_known_fits session id s = own_result_fits (own_sub session id s)

enabled_if_fits : (enabled : Bool) (sub : Option SubState) (id : ℕ) (s : ServerState) → FitsServer s → FitsServer (enabled_if enabled sub id s)
enabled_if_fits enabled None id s h = h
enabled_if_fits enabled (Some sub) id s h = sub_fits id (with_enabled enabled) s h (λ one. refl) (enabled_fits enabled)

publishing_fits : (session : ℕ) (enabled : Bool) (id : ℕ) (s : ServerState) → FitsServer s → FitsServer (with_publishing session enabled id s)
unfolding with_publishing
publishing_fits session enabled id s h = enabled_if_fits enabled (own_sub session id s) id s h

enable_all_keeps : (asker : Asker) (session : ℕ) (enabled : Bool) (ids : List ℕ) (u : Unit {0}) (s : ServerState) → FitsServer s → FitsAsker asker
    → length ids ≤ most_items → KeepsDid (enable_all asker session enabled ids u s)
enable_all_keeps asker session enabled ids u s h fits few =
    let codes : List ℕ = answers (sub_known session) (with_publishing session enabled) ids s in
    answered_keeps asker (publishing_reply codes) (after_each (with_publishing session enabled) ids s)
    (left_fits (with_publishing session enabled) (publishing_fits session enabled) ids s h) fits
    (λ header kept. record {
      keeps = results_keep (coded_results codes header) kept
          (codes_fit (sub_known session) (with_publishing session enabled) (publishing_fits session enabled) (sub_known_fits session) ids s few h);
      brings = tt;
    })

pub set_publishing_keeps : (asker : Asker) (session : ℕ) (r : SetPublishingModeRequest) (s : ServerState) → FitsServer s → FitsAsker asker
    → a_set_publishing_mode_request.keeps r → KeepsDid (set_publishing asker session r s)
unfolding set_publishing
set_publishing_keeps asker session r s h fits asks =
    done_keeps Any asker (enable_all asker session r.publishing_enabled r.subscription_ids) (passes (operations_fault (length r.subscription_ids))) s h fits
    (operations_judged (length r.subscription_ids))
    (λ u any. enable_all_keeps asker session r.publishing_enabled r.subscription_ids u s h fits (publishing_asked r asks))

-- ---- a message is said again

pub republish_keep : (asker : Asker) (session : ℕ) (r : RepublishRequest) (s : ServerState) → FitsServer s → FitsAsker asker
    → KeepsDid (republish asker session r s)
unfolding republish
republish_keep asker session r s h fits =
    done_keeps FitsMessage asker (republish_one asker) (republish_checked session r s) s h fits
    (judged_then FitsSub FitsMessage (own_or_fault session r.subscription_id s) (λ sub. wanted bad_message_not_available (message_of r.retransmit_sequence_number sub.kept))
    (own_judged session r.subscription_id s h)
    (λ sub kept. judged_wanted FitsMessage bad_message_not_available (message_of r.retransmit_sequence_number sub.kept) (omega arith)
    (kept_message_fits r.retransmit_sequence_number sub.kept kept.kept)))
    (λ message kept. answered_keeps asker (republished_reply message) s h fits
    (λ header good. record { keeps = republish_keeps (record { response_header = header; notification_message = message }) good kept.keeps; brings = kept }))

-- ---- subscriptions go, or end

told_fits : (sub : Option SubState) → IfSome sub FitsSub → a_transfer_result.keeps (transfer_told sub)
told_fits None h = transfer_keeps (record { status_code = bad_subscription_id_invalid; available_sequence_numbers = [] }) (omega arith) (omega arith, tt)
told_fits (Some sub) h =
    transfer_keeps (record { status_code = good; available_sequence_numbers = numbers_of sub.kept }) (omega arith) (numbers_fit sub.kept h.few h.kept)

transfer_result_fits : (session id : ℕ) (s : ServerState) → FitsServer s → a_transfer_result.keeps (transfer_result session id s)
unfolding transfer_result
transfer_result_fits session id s h =
    told_fits (sub_to_move session id s)
    (choice (λ o. IfSome o FitsSub) (table.may_transfer id session s.sessions) (sub_at id s.subs) None (found_fits id s h) tt)

transfer_one_keeps : (session id : ℕ) (s : ServerState) → FitsServer s → KeepsDid (transfer_one session id s)
unfolding transfer_one
transfer_one_keeps session id s h = transferred_keeps id session s h

transfer_all_keeps : (asker : Asker) (session : ℕ) (ids : List ℕ) (u : Unit {0}) (s : ServerState) → FitsServer s → FitsAsker asker → length ids ≤ most_items
    → KeepsDid (transfer_all asker session ids u s)
transfer_all_keeps asker session ids u s h fits few =
    let results : List TransferResult = answers (transfer_result session) (leaves (transfer_one session)) ids s in
    let same = answers_long (transfer_result session) (leaves (transfer_one session)) ids s in
    in_turn (answered asker (transfer_reply results)) (each (transfer_one session) ids s)
    (each_in_turn Any (transfer_one session) (λ one t any kept. transfer_one_keeps session one t kept) ids s (all_true Any (λ one. tt) ids) h)
    (λ t still. answered_keeps asker (transfer_reply results) t still fits
    (λ header kept. record {
      keeps = transfers_keep header results kept (
        omega (arith, same, few),
        answers_keep Any a_transfer_result.keeps (transfer_result session) (leaves (transfer_one session))
            (λ one w any fit. (transfer_one_keeps session one w fit).state) (λ one w any fit. transfer_result_fits session one w fit) ids s
            (all_true Any (λ one. tt) ids) h,
      );
      brings = tt;
    }))

pub transfer_subs_keeps : (asker : Asker) (session : ℕ) (r : TransferSubscriptionsRequest) (s : ServerState) → FitsServer s → FitsAsker asker
    → a_transfer_subscriptions_request.keeps r → KeepsDid (transfer_subs asker session r s)
unfolding transfer_subs
transfer_subs_keeps asker session r s h fits asks =
    done_keeps Any asker (transfer_all asker session r.subscription_ids) (passes (operations_fault (length r.subscription_ids))) s h fits
    (operations_judged (length r.subscription_ids)) (λ u any. transfer_all_keeps asker session r.subscription_ids u s h fits (transfers_asked r asks))

deleted_if_keeps : (sub : Option SubState) (id : ℕ) (s : ServerState) → FitsServer s → KeepsDid (deleted_if sub id s)
deleted_if_keeps None id s h = quiet s h
deleted_if_keeps (Some sub) id s h = deleted_keeps id s h

delete_one_keeps : (session id : ℕ) (s : ServerState) → FitsServer s → KeepsDid (delete_one session id s)
unfolding delete_one
delete_one_keeps session id s h = deleted_if_keeps (own_sub session id s) id s h

delete_all_subs_keeps : (asker : Asker) (session : ℕ) (ids : List ℕ) (u : Unit {0}) (s : ServerState) → FitsServer s → FitsAsker asker → length ids ≤ most_items
    → KeepsDid (delete_all_subs asker session ids u s)
delete_all_subs_keeps asker session ids u s h fits few =
    let codes : List ℕ = answers (sub_known session) (leaves (delete_one session)) ids s in
    in_turn (answered asker (deleted_reply codes)) (each (delete_one session) ids s)
    (each_in_turn Any (delete_one session) (λ one t any kept. delete_one_keeps session one t kept) ids s (all_true Any (λ one. tt) ids) h)
    (λ t still. answered_keeps asker (deleted_reply codes) t still fits
    (λ header kept. record {
      keeps = results_keep (coded_results codes header) kept
          (codes_fit (sub_known session) (leaves (delete_one session)) (λ one w fit. (delete_one_keeps session one w fit).state) (sub_known_fits session) ids s few h);
      brings = tt;
    }))

pub delete_subs_keeps : (asker : Asker) (session : ℕ) (r : DeleteSubscriptionsRequest) (s : ServerState) → FitsServer s → FitsAsker asker
    → a_delete_subscriptions_request.keeps r → KeepsDid (delete_subs asker session r s)
unfolding delete_subs
delete_subs_keeps asker session r s h fits asks =
    done_keeps Any asker (delete_all_subs asker session r.subscription_ids) (passes (operations_fault (length r.subscription_ids))) s h fits
    (operations_judged (length r.subscription_ids)) (λ u any. delete_all_subs_keeps asker session r.subscription_ids u s h fits (subs_asked r asks))
