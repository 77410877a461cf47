-- Read and Call keep the limits.
use Rattle.std.proofs.Common.{ℕ, ℤ, ◌&&◌, ◌≤◌, List, [], ◌∷◌, not, cond, Option, Some, None, IfSome, is_some, map, length, FitsSigned, arith}
use Rattle.std.proofs.lemmas.List.{length-map}
use Rattle.std.specs.Prelude.{Result, Ok, Err}
use Rattle.std.specs.Int.{w64}
use Rattle.ua_base.specs.Status.{bad_invalid_argument, bad_method_invalid, bad_node_id_unknown, bad_subscription_id_invalid, bad_timestamps_to_return_invalid, good}
use Rattle.ua_base.specs.declared.modes.Timestamps.{Timestamps}
use Rattle.ua_values.specs.Limits.{most_items}
use Rattle.ua_variants.specs.declared.variant.Stamped.{Stamped}
use Rattle.ua_variants.specs.declared.variant.Variant.{Variant, out-Variant}
use Rattle.ua_structures.specs.declared.shared.ReadValueId.{ReadValueId}
use Rattle.ua_session_msgs.specs.declared.attribute.ReadRequest.{ReadRequest}
use Rattle.ua_session_msgs.specs.declared.method.CallMethodRequest.{CallMethodRequest}
use Rattle.ua_session_msgs.specs.declared.method.CallMethodResult.{CallMethodResult}
use Rattle.ua_session_msgs.specs.declared.method.CallRequest.{CallRequest}
use Rattle.ua_session_msgs.specs.Structures.{a_call_method_result, a_call_request, a_read_request}
use Rattle.redundancy_nodes.specs.declared.nodes.Nodes.{Nodes}
use Rattle.redundancy_nodes.specs.Read.{read_of}
use Rattle.subscription.specs.Message.{has_server, has_source}
use Rattle.subscription.specs.State.{ItemState, SubState}
use Rattle.server_rules.specs.declared.conn.Asker.{Asker}
use Rattle.server_rules.specs.State.{ServerState}
use Rattle.server_rules.specs.Operations.{operations_fault, own_sub, passes, timestamps_named, wanted}
use Rattle.server_rules.specs.Reading.{argument_of, call, call_all, call_reply, called, coded, form_fault, given_in, given_value, is_server_id, items_told, nodes_of, read, read_all, read_checked, read_reply, result_of_argument, subscription_asked, told_of_sub, uint32_in, value_read, with_times}
use Rattle.server_keeps.specs.Fitting.{FitsItem, FitsServer, FitsSub, IsUInt32, KeepsDid}
use Rattle.server_keeps.proofs.Answering.{Any, FitsAsker, Judged, answered_keeps, any_some, done_keeps, judged_then, judged_wanted, now_fits}
use Rattle.server_keeps.proofs.Asked.{calls_asked, nodes_asked}
use Rattle.server_keeps.proofs.Describing.{own_uri_keeps, uris_keep}
use Rattle.server_keeps.proofs.Lists.{all_map, all_true, choice}
use Rattle.server_keeps.proofs.Replies.{calls_keep, method_keeps, numbers_keep, values_keep}
use Rattle.server_keeps.proofs.Serving.{form_fault_fits, operations_judged, own_fits}
use Rattle.server_keeps.proofs.Values.{FitsNodes, IsPico, KeepsData, read_of_keeps}

-- ---- Read

nodes_fit : (s : ServerState) → FitsServer s → FitsNodes (nodes_of s)
unfolding nodes_of
nodes_fit s h = record {
  uri = own_uri_keeps s.config h.config;
  uris = uris_keep s.config h.config;
  support = h.config.support;
  level = h.level;
  start = h.config.start;
  now = now_fits s h;
  current = h.current;
}

coded_keeps : (code : ℕ) → IsUInt32 code → KeepsData (coded code)
coded_keeps code h = (tt, (h, tt, tt, tt, tt))

times_keep : (stamps : Timestamps) (now : ℤ) (value : Stamped Variant) → FitsSigned w64 now → KeepsData value → KeepsData (with_times stamps now value)
times_keep stamps now value at h = (
  h.0,
  (
    h.1.0,
    choice (λ o. IfSome o (FitsSigned w64)) (has_source stamps) value.source_timestamp None h.1.1 tt,
    choice (λ o. IfSome o IsPico) (has_source stamps) value.source_picoseconds None h.1.2 tt,
    choice (λ o. IfSome o (FitsSigned w64)) (has_server stamps && is_some value.value) (Some now) None at tt,
    tt,
  ),
)

given_in_keeps : (stamps : Timestamps) (now : ℤ) (fault : Option ℕ) (value : Stamped Variant) → FitsSigned w64 now → IfSome fault IsUInt32 → KeepsData value
    → KeepsData (given_in stamps now fault value)
given_in_keeps stamps now None value at c h = times_keep stamps now value at h
given_in_keeps stamps now (Some code) value at c h = coded_keeps code c

given_keeps : (stamps : Timestamps) (now : ℤ) (fault : Option ℕ) (value : Result (Stamped Variant) ℕ) → FitsSigned w64 now → IfSome fault IsUInt32
    → Judged KeepsData value → KeepsData (given_value stamps now fault value)
given_keeps stamps now fault (Ok value) at c h = given_in_keeps stamps now fault value at c h
given_keeps stamps now fault (Err code) at c h = coded_keeps code h

value_read_keeps : (nodes : Nodes) (stamps : Timestamps) → FitsNodes nodes → (asked : ReadValueId) → KeepsData (value_read nodes stamps asked)
unfolding value_read
value_read_keeps nodes stamps h asked =
    given_keeps stamps nodes.now (form_fault asked) (read_of nodes asked.node_id asked.attribute_id) h.now (form_fault_fits asked)
    (read_of_keeps nodes asked.node_id asked.attribute_id h)

read_all_keeps : (asker : Asker) (asked : List ReadValueId) (stamps : Timestamps) (s : ServerState) → FitsServer s → FitsAsker asker → length asked ≤ most_items
    → KeepsDid (read_all asker asked stamps s)
read_all_keeps asker asked stamps s h fits few =
    let values : List (Stamped Variant) = map (value_read (nodes_of s) stamps) asked in
    let same = length-map asked (value_read (nodes_of s) stamps) in
    answered_keeps asker (read_reply values) s h fits
    (λ header kept. record {
      keeps = values_keep header values kept (omega (arith, same, few))
          (all_map Any KeepsData (value_read (nodes_of s) stamps) (λ one any. value_read_keeps (nodes_of s) stamps (nodes_fit s h) one) asked
          (all_true Any (λ one. tt) asked));
      brings = tt;
    })

pub read_request_keeps : (asker : Asker) (r : ReadRequest) (s : ServerState) → FitsServer s → FitsAsker asker → a_read_request.keeps r
    → KeepsDid (read asker r s)
unfolding read
read_request_keeps asker r s h fits asks =
    done_keeps Any asker (read_all asker r.nodes_to_read) (read_checked r) s h fits
    (judged_then Any Any (passes (operations_fault (length r.nodes_to_read)))
    (λ passed. wanted bad_timestamps_to_return_invalid (timestamps_named r.timestamps_to_return)) (operations_judged (length r.nodes_to_read))
    (λ passed any. judged_wanted Any bad_timestamps_to_return_invalid (timestamps_named r.timestamps_to_return) (omega arith)
    (any_some (timestamps_named r.timestamps_to_return))))
    (λ stamps any. read_all_keeps asker r.nodes_to_read stamps s h fits (nodes_asked r asks))

-- ---- Call

items_keep : (code : ℕ) (sub : SubState) → IsUInt32 code → FitsSub sub → a_call_method_result.keeps (told_of_sub (Some sub))
items_keep code sub c h =
    let ids = length-map sub.items (λ (item : ItemState). item.id) in
    let handles = length-map sub.items (λ (item : ItemState). item.handle) in
    let few = h.count in
    method_keeps good (items_told sub.items) (omega arith) (
      omega arith,
      (
        numbers_keep (map (λ item. item.id) sub.items)
            (omega (arith, ids, few), all_map FitsItem IsUInt32 (λ item. item.id) (λ item fits. fits.id) sub.items h.items),
        (
          numbers_keep (map (λ item. item.handle) sub.items)
              (omega (arith, handles, few), all_map FitsItem IsUInt32 (λ item. item.handle) (λ item fits. fits.handle) sub.items h.items),
          tt,
        ),
      ),
    )

told_of_keeps : (sub : Option SubState) → IfSome sub FitsSub → a_call_method_result.keeps (told_of_sub sub)
told_of_keeps None h = method_keeps bad_subscription_id_invalid [] (omega arith) (omega arith, tt)
told_of_keeps (Some sub) h = items_keep good sub (omega arith) h

argument_keeps : (session : ℕ) (argument : Result ℕ ℕ) (s : ServerState) → FitsServer s → Judged Any argument
    → a_call_method_result.keeps (result_of_argument session argument s)
argument_keeps session (Ok number) s h judged = told_of_keeps (own_sub session number s) (own_fits session number s h)
argument_keeps session (Err code) s h judged = method_keeps code [] judged (omega arith, tt)

argument_judged : (arguments : List Variant) → Judged Any (argument_of arguments)
argument_judged [] = omega arith
argument_judged (one ∷ []) = judged_wanted Any bad_invalid_argument (uint32_in (out-Variant one)) (omega arith) (any_some (uint32_in (out-Variant one)))
argument_judged (one ∷ other ∷ more) = omega arith

asked_judged : (one : CallMethodRequest) → Judged Any (subscription_asked one)
asked_judged one =
    choice (Judged Any) (not (is_server_id 2253 one.object_id)) (Err bad_node_id_unknown)
    (cond (not (is_server_id 11492 one.method_id)) (Err bad_method_invalid) (argument_of one.input_arguments)) (omega arith)
    (choice (Judged Any) (not (is_server_id 11492 one.method_id)) (Err bad_method_invalid) (argument_of one.input_arguments) (omega arith)
    (argument_judged one.input_arguments))

called_keeps : (session : ℕ) (s : ServerState) → FitsServer s → (one : CallMethodRequest) → a_call_method_result.keeps (called session s one)
unfolding called
called_keeps session s h one = argument_keeps session (subscription_asked one) s h (asked_judged one)

call_all_keeps : (asker : Asker) (session : ℕ) (calls : List CallMethodRequest) (u : Unit {0}) (s : ServerState) → FitsServer s → FitsAsker asker
    → length calls ≤ most_items → KeepsDid (call_all asker session calls u s)
call_all_keeps asker session calls u s h fits few =
    let results : List CallMethodResult = map (called session s) calls in
    let same = length-map calls (called session s) in
    answered_keeps asker (call_reply results) s h fits
    (λ header kept. record {
      keeps = calls_keep header results kept (
        omega (arith, same, few),
        all_map Any a_call_method_result.keeps (called session s) (λ one any. called_keeps session s h one) calls (all_true Any (λ one. tt) calls),
      );
      brings = tt;
    })

pub call_request_keeps : (asker : Asker) (session : ℕ) (r : CallRequest) (s : ServerState) → FitsServer s → FitsAsker asker → a_call_request.keeps r
    → KeepsDid (call asker session r s)
unfolding call
call_request_keeps asker session r s h fits asks =
    done_keeps Any asker (call_all asker session r.methods_to_call) (passes (operations_fault (length r.methods_to_call))) s h fits
    (operations_judged (length r.methods_to_call)) (λ u any. call_all_keeps asker session r.methods_to_call u s h fits (calls_asked r asks))
