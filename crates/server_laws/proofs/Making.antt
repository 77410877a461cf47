-- What a CreateMonitoredItems does, in moves: it makes items of the nodes that it asks for, and nothing else.
use Rattle.std.proofs.Common.{◌≡◌, ℕ, ◌+◌, ◌≤◌, ◌==◌, ◌&&◌, List, [], ◌∷◌, ◌++◌, Bool, true, false, cond, nat_le, filter, length, Option, Some, None, refl, sym, ap, ◌∙◌, subst, arith}
use Rattle.std.specs.Prelude.{Result, Ok, Err}
use Rattle.ua_base.specs.Status.{bad_monitoring_mode_invalid, bad_node_id_unknown, bad_too_many_monitored_items}
use Rattle.ua_base.specs.declared.modes.Mode.{Mode}
use Rattle.ua_base.specs.declared.modes.Timestamps.{Timestamps}
use Rattle.sessions.specs.Calls.{Check}
use Rattle.sessions.specs.Table.{check_answer}
use Rattle.ua_values.specs.declared.node.NodeId.{NodeId}
use Rattle.ua_values.specs.declared.node.NodeId.TheVariants as node
use Rattle.ua_channel.specs.declared.heard.Heard.TheVariants as heard_as
use Rattle.ua_channel.specs.State.{is_deaf}
use Rattle.ua_sub_msgs.specs.declared.item.CreateMonitoredItemsRequest.{CreateMonitoredItemsRequest}
use Rattle.ua_sub_msgs.specs.declared.item.MonitoredItemCreateRequest.{MonitoredItemCreateRequest}
use Rattle.ua_sub_msgs.specs.declared.request.SubRequest.TheVariants as sub_request
use Rattle.ua_services.specs.declared.reply.Reply.{Reply}
use Rattle.ua_services.specs.declared.request.Request.{Request}
use Rattle.ua_services.specs.declared.request.Request.TheVariants as request
use Rattle.ua_services.specs.declared.request.RequestFault.{RequestFault}
use Rattle.ua_services.specs.Requests.{header_of, request_at}
use Rattle.subscription.specs.declared.spec.ItemSpec.{ItemSpec}
use Rattle.subscription.specs.State.{SubState}
use Rattle.server_rules.specs.declared.conn.Asker.{Asker}
use Rattle.server_rules.specs.declared.conn.Conn.{Conn}
use Rattle.server_rules.specs.State.{ServerState, conn_at, sub_at}
use Rattle.server_rules.specs.Said.{Did, nothing}
use Rattle.server_rules.specs.Answering.{fault_reply, faulted, good_header, replied}
use Rattle.server_rules.specs.Operations.{◌>>=◌, after_each, answers, done, mode_named, passes, wanted}
use Rattle.server_rules.specs.Items.{create_all, create_checked, create_items, create_reply, filter_fault, item_judged, item_number, item_result, item_spec, judged, value_fault, with_item, with_made, with_room}
use Rattle.server_rules.specs.Requests.{asked, asker_of, done_for, noted, requested, served, sub_served, token_in}
use Rattle.server_rules.specs.Connecting.{hears, hears_by}
use Rattle.server_rules.specs.Step.{Hears, after, ears, heard}
use Rattle.server_laws.specs.Moves.{Adds, AreFair, Asks, Core, Does, Doing, IsFair, Move, Makes, Enters, Ends, Issues, Repeats, Answers, Modes, Removes, Cycles, Sends, Acknowledges, Modifies, Enables, Goes, facts_of, facts_of_all, moved, moved_all}
use Rattle.server_laws.specs.Facts.{IsWithin, facts_said}
use Rattle.server_laws.specs.Course.{Adding, Comes, MayMove, core_of}
use Rattle.server_laws.specs.Bounded.{asked_node, nodes_in, with_node}
use Rattle.server_laws.proofs.Asking.{item_least}
use Rattle.server_laws.proofs.Replying.{Says, replied_says}
use Rattle.server_laws.proofs.Within.{none_within, within_join}

-- ---- the items that moves make in a subscription

abbrev pub added_by : Doing → List ItemSpec
added_by (Adds spec) = spec ∷ []
added_by (Removes id) = []
added_by (Modes id mode) = []
added_by (Cycles queued) = []
added_by (Sends now) = []
added_by (Acknowledges number) = []
added_by (Modifies spec now) = []
added_by (Enables enabled) = []
added_by Goes = []

abbrev pub added_in : ℕ → Move → List ItemSpec
added_in id (Does other doing) = cond (other == id) (added_by doing) []
added_in id (Makes spec start) = []
added_in id (Enters change) = []
added_in id (Ends other) = []
added_in id (Asks call) = []
added_in id Issues = []
added_in id (Repeats other number) = []
added_in id (Answers answer) = []

abbrev pub made_in : ℕ → List Move → List ItemSpec
made_in id [] = []
made_in id (move ∷ moves) = added_in id move ++ made_in id moves

-- how many of them are of some nodes
abbrev pub count_made : (ℕ → Bool) → List ItemSpec → ℕ
count_made p specs = length (filter (λ spec. p spec.node) specs)

abbrev pub count_nodes : (ℕ → Bool) → List ℕ → ℕ
count_nodes p nodes = length (filter p nodes)

-- ---- which node an item is of

number_asked : (items : ℕ) (id : NodeId) (number : ℕ) → item_number items id ≡ Some number → asked_node id ≡ Some number
number_asked items (node.Numeric namespace named) number is = both (namespace == 2) (nat_le 1 named) (nat_le named items) named number is
  where
    both : (a b c : Bool) (named number : ℕ) → cond (a && b && c) (Some named) None ≡ Some number → cond a (Some named) None ≡ Some number
    both true true true named number is = is
    both true true false named number is = absurd cc
    both true false c named number is = absurd cc
    both false b c named number is = absurd cc
number_asked items (node.Text namespace name) number is = absurd cc
number_asked items (node.Guid namespace name) number is = absurd cc
number_asked items (node.Opaque namespace name) number is = absurd cc

judged_node : (found : Option ℕ) (code : ℕ) (value filter : Result (Unit {0}) ℕ) (mode : Result Mode ℕ) (make : ℕ → Mode → ItemSpec) (spec : ItemSpec)
    → ((n : ℕ) (m : Mode) → (make n m).node ≡ n) → (wanted code found >>= (λ n. value >>= (λ _. mode >>= (λ m. filter >>= (λ _. Ok (make n m)))))) ≡ Ok spec
    → found ≡ Some spec.node
judged_node None code value filter mode make spec own is = absurd cc
judged_node (Some n) code (Err fault) filter mode make spec own is = absurd cc
judged_node (Some n) code (Ok v) filter (Err fault) make spec own is = absurd cc
judged_node (Some n) code (Ok v) (Err fault) (Ok m) make spec own is = absurd cc
judged_node (Some n) code (Ok v) (Ok f) (Ok m) make spec own is =
    let same : make n m ≡ spec = cc in
    ap Some (sym (own n m) ∙ ap (λ (x : ItemSpec). x.node) same)

node_judged : (items : ℕ) (stamps : Timestamps) (one : MonitoredItemCreateRequest) (spec : ItemSpec) → judged items stamps one ≡ Ok spec
    → asked_node one.item_to_monitor.node_id ≡ Some spec.node
unfolding judged
node_judged items stamps one spec is =
    number_asked items one.item_to_monitor.node_id spec.node
    (judged_node (item_number items one.item_to_monitor.node_id) bad_node_id_unknown (passes (value_fault one.item_to_monitor))
    (passes (filter_fault one.requested_parameters.filter)) (wanted bad_monitoring_mode_invalid (mode_named one.monitoring_mode))
    (item_spec stamps one.requested_parameters) spec (λ n m. refl) is)

room_same : (sub : Option SubState) (spec : ItemSpec) (made : ℕ × ItemSpec) → with_room sub spec ≡ Ok made → made.1 ≡ spec
room_same None spec made is = absurd cc
room_same (Some sub) spec made is = by_full _ is
  where
    by_full : (b : Bool) → cond b (Err bad_too_many_monitored_items) (Ok (sub.given + 1, spec)) ≡ Ok made → made.1 ≡ spec
    by_full true is = absurd cc
    by_full false is = let same : (sub.given + 1, spec) ≡ made = cc in ap (λ (made : ℕ × ItemSpec). made.1) (sym same)

through_room : (r : Result ItemSpec ℕ) (sub : Option SubState) (made : ℕ × ItemSpec) (found : Option ℕ) → ((spec : ItemSpec) → r ≡ Ok spec → found ≡ Some spec.node)
    → (r >>= with_room sub) ≡ Ok made → found ≡ Some made.1.node
through_room (Ok spec) sub made found on is = on spec refl ∙ ap (λ (x : ItemSpec). Some x.node) (sym (room_same sub spec made is))
through_room (Err code) sub made found on is = absurd cc

node_made : (sub : ℕ) (stamps : Timestamps) (one : MonitoredItemCreateRequest) (s : ServerState) (made : ℕ × ItemSpec) → item_judged sub stamps one s ≡ Ok made
    → asked_node one.item_to_monitor.node_id ≡ Some made.1.node
node_made sub stamps one s made is =
    through_room (judged s.config.items stamps one) (sub_at sub s.subs) made (asked_node one.item_to_monitor.node_id) (node_judged s.config.items stamps one) is

-- ---- moves that make items of these nodes at the most

pub record Makings (sub : ℕ) (nodes : List ℕ) (s : ServerState) (did : Did) : Type 0 where
  pub comes : Comes (Adding sub) s did
  pub few : (p : ℕ → Bool) (id : ℕ) → count_made p (made_in id comes.moves) ≤ count_nodes p nodes

none_makes : (sub : ℕ) (nodes : List ℕ) (s : ServerState) (did : Did) → Says [] s did → Makings sub nodes s did
none_makes sub nodes s did h =
    record { comes = record { moves = []; may = tt; fair = tt; leads = h.same; told = h.told }; few = λ p id. omega arith }

idle_makes : (sub : ℕ) (nodes : List ℕ) (s : ServerState) → Makings sub nodes s (nothing s)
idle_makes sub nodes s = none_makes sub nodes s (nothing s) (record { same = refl; told = refl })

fault_makes : (sub : ℕ) (nodes : List ℕ) (asker : Asker) (code : ℕ) (s : ServerState) → Makings sub nodes s (faulted asker code s)
fault_makes sub nodes asker code s = none_makes sub nodes s (faulted asker code s) (replied_says asker (fault_reply asker.handle code s) s)

begun_comes : (sub : ℕ) (move : Move) (s before : ServerState) (did : Did) → MayMove (Adding sub) move → IsFair move (core_of s)
    → core_of before ≡ moved move (core_of s) → (h : Comes (Adding sub) before did)
    → (c : Comes (Adding sub) s did) × (c.moves ≡ move ∷ h.moves)
begun_comes sub move s before did may fair leads h =
    let c : Core = core_of s in
    let rest : List Move = h.moves in (
      record {
        moves = move ∷ rest;
        may = (may, h.may);
        fair = (fair, subst (AreFair rest) leads h.fair);
        leads = h.leads ∙ ap (moved_all rest) leads;
        told = within_join [] (facts_of move c) (facts_said did.said) (facts_of_all rest (moved move c)) (none_within (facts_of move c))
            (subst (λ d. IsWithin (facts_said did.said) (facts_of_all rest d)) leads h.told);
      },
      refl,
    )

noted_makes : (sub : ℕ) (nodes : List ℕ) (asker : Asker) (token : Option (List ℕ)) (s : ServerState) (did : Did) → Makings sub nodes (noted asker token s) did
    → Makings sub nodes s did
noted_makes sub nodes asker token s did h =
    let more = begun_comes sub (Asks (Check token asker.conn s.age)) s (noted asker token s) did tt tt refl h.comes in
    record { comes = more.0; few = λ p id. subst (λ moves. count_made p (made_in id moves) ≤ count_nodes p nodes) (sym more.1) (h.few p id) }

-- one item more
more_few : (b same : Bool) (p : ℕ → Bool) (spec : ItemSpec) (made : List ItemSpec) (nodes : List ℕ) → p spec.node ≡ b → count_made p made ≤ count_nodes p nodes
    → count_made p (cond same (spec ∷ []) [] ++ made) ≤ count_nodes p (spec.node ∷ nodes)
more_few true true p spec made nodes is h =
    let one : count_made p (spec ∷ made) ≡ length (spec ∷ filter (λ (x : ItemSpec). p x.node) made) = ap (λ b. length (cond b (spec ∷ filter (λ (x : ItemSpec). p x.node) made) (filter (λ (x : ItemSpec). p x.node) made))) is in
    let other : count_nodes p (spec.node ∷ nodes) ≡ length (spec.node ∷ filter p nodes) = ap (λ b. length (cond b (spec.node ∷ filter p nodes) (filter p nodes))) is in
    omega (arith, one, other, h)
more_few false true p spec made nodes is h =
    let one : count_made p (spec ∷ made) ≡ count_made p made = ap (λ b. length (cond b (spec ∷ filter (λ (x : ItemSpec). p x.node) made) (filter (λ (x : ItemSpec). p x.node) made))) is in
    let other : count_nodes p (spec.node ∷ nodes) ≡ count_nodes p nodes = ap (λ b. length (cond b (spec.node ∷ filter p nodes) (filter p nodes))) is in
    omega (arith, one, other, h)
more_few true false p spec made nodes is h =
    let other : count_nodes p (spec.node ∷ nodes) ≡ length (spec.node ∷ filter p nodes) = ap (λ b. length (cond b (spec.node ∷ filter p nodes) (filter p nodes))) is in
    omega (arith, other, h)
more_few false false p spec made nodes is h =
    let other : count_nodes p (spec.node ∷ nodes) ≡ count_nodes p nodes = ap (λ b. length (cond b (spec.node ∷ filter p nodes) (filter p nodes))) is in
    omega (arith, other, h)

skip_few : (found : Option ℕ) (p : ℕ → Bool) (made : ℕ) (nodes : List ℕ) → made ≤ count_nodes p nodes → made ≤ count_nodes p (with_node found nodes)
skip_few None p made nodes h = h
skip_few (Some number) p made nodes h = by_test (p number) h
  where
    by_test : (b : Bool) → made ≤ count_nodes p nodes → made ≤ length (cond b (number ∷ filter p nodes) (filter p nodes))
    by_test true h = omega (arith, h)
    by_test false h = h

made_makes : (sub : ℕ) (nodes : List ℕ) (found : Option ℕ) (made : Result (ℕ × ItemSpec) ℕ) (s : ServerState) (did : Did) → ((one : ℕ × ItemSpec) → made ≡ Ok one → 1 ≤ one.1.queue)
    → ((one : ℕ × ItemSpec) → made ≡ Ok one → found ≡ Some one.1.node) → Makings sub nodes (with_made sub made s) did → Makings sub (with_node found nodes) s did
made_makes sub nodes found (Ok made) s did least own h =
    let more = begun_comes sub (Does sub (Adds made.1)) s (with_made sub (Ok made) s) did refl (least made refl) refl h.comes in
    subst (λ f. Makings sub (with_node f nodes) s did) (sym (own made refl))
    (record {
      comes = more.0;
      few = λ p id. subst (λ moves. count_made p (made_in id moves) ≤ count_nodes p (made.1.node ∷ nodes)) (sym more.1)
          (more_few (p made.1.node) (sub == id) p made.1 (made_in id h.comes.moves) nodes refl (h.few p id));
    })
made_makes sub nodes found (Err code) s did least own h =
    record { comes = h.comes; few = λ p id. skip_few found p (count_made p (made_in id h.comes.moves)) nodes (h.few p id) }

item_makes : (sub : ℕ) (stamps : Timestamps) (one : MonitoredItemCreateRequest) (nodes : List ℕ) (s : ServerState) (did : Did) → Makings sub nodes (with_item sub stamps one s) did
    → Makings sub (with_node (asked_node one.item_to_monitor.node_id) nodes) s did
unfolding with_item
item_makes sub stamps one nodes s did h =
    made_makes sub nodes (asked_node one.item_to_monitor.node_id) (item_judged sub stamps one s) s did (item_least sub stamps one s) (node_made sub stamps one s) h

each_makes : (sub : ℕ) (stamps : Timestamps) (list : List MonitoredItemCreateRequest) (s : ServerState) (did : Did)
    → Makings sub [] (after_each (with_item sub stamps) list s) did → Makings sub (nodes_in list) s did
each_makes sub stamps [] s did h = h
each_makes sub stamps (one ∷ more) s did h = item_makes sub stamps one (nodes_in more) s did (each_makes sub stamps more (with_item sub stamps one s) did h)

done_makes : {A : Type 0} (sub : ℕ) (nodes : List ℕ) (asker : Asker) (rule : A → ServerState → Did) (result : Result A ℕ) (s : ServerState)
    → ((found : A) → Makings sub nodes s (rule found s)) → Makings sub nodes s (done asker rule result s)
done_makes sub nodes asker rule (Ok found) s on = on found
done_makes sub nodes asker rule (Err code) s on = fault_makes sub nodes asker code s

abbrev pub MakingsOf : CreateMonitoredItemsRequest → ServerState → Did → Type 0
MakingsOf r s did = Makings r.subscription_id (nodes_in r.items_to_create) s did

items_make : (asker : Asker) (session : ℕ) (r : CreateMonitoredItemsRequest) (s : ServerState) → MakingsOf r s (create_items asker session r s)
unfolding create_items
items_make asker session r s =
    done_makes r.subscription_id (nodes_in r.items_to_create) asker (create_all asker r.subscription_id r.items_to_create) (create_checked session r s) s
    (λ stamps.
    let t : ServerState = after_each (with_item r.subscription_id stamps) r.items_to_create s in
    let answer : Reply = create_reply (answers (item_result r.subscription_id stamps) (with_item r.subscription_id stamps) r.items_to_create s) (good_header asker.handle t) in
    each_makes r.subscription_id stamps r.items_to_create s (replied asker answer t) (none_makes r.subscription_id [] t (replied asker answer t) (replied_says asker answer t)))

for_makes : (asker : Asker) (r : CreateMonitoredItemsRequest) (answer : Result ℕ ℕ) (s : ServerState)
    → MakingsOf r s (done_for (sub_served asker (sub_request.CreateMonitoredItems r)) asker answer s)
unfolding sub_served
for_makes asker r (Ok session) s = items_make asker session r s
for_makes asker r (Err code) s = fault_makes r.subscription_id (nodes_in r.items_to_create) asker code s

served_makes : (asker : Asker) (r : CreateMonitoredItemsRequest) (s : ServerState) → MakingsOf r s (served asker (request.Subscription (sub_request.CreateMonitoredItems r)) s)
unfolding served
served_makes asker r s =
    let token : Option (List ℕ) = token_in r.request_header in
    noted_makes r.subscription_id (nodes_in r.items_to_create) asker token s _ (for_makes asker r (check_answer token asker.conn s.sessions) (noted asker token s))

requested_makes : (conn number : ℕ) (body : List ℕ) (r : CreateMonitoredItemsRequest) (s : ServerState) → request_at body ≡ Ok (request.Subscription (sub_request.CreateMonitoredItems r))
    → MakingsOf r s (requested conn number body s)
unfolding requested
requested_makes conn number body r s is =
    subst (λ (q : Result Request RequestFault). MakingsOf r s (asked conn number q s)) (sym is)
    (served_makes (asker_of conn number (header_of (request.Subscription (sub_request.CreateMonitoredItems r))).request_handle) r s)

by_conn : (found : Option Conn) (number : ℕ) (body : List ℕ) (r : CreateMonitoredItemsRequest) (s : ServerState)
    → request_at body ≡ Ok (request.Subscription (sub_request.CreateMonitoredItems r)) → MakingsOf r s (hears_by found (heard_as.Message number body) s)
by_conn None number body r s is = idle_makes r.subscription_id (nodes_in r.items_to_create) s
by_conn (Some conn) number body r s is = requested_makes conn.number number body r s is

by_deaf : (b : Bool) (r : CreateMonitoredItemsRequest) (s : ServerState) (did : Did) → MakingsOf r s did → MakingsOf r s (cond b (nothing s) did)
by_deaf true r s did h = idle_makes r.subscription_id (nodes_in r.items_to_create) s
by_deaf false r s did h = h

pub heard_makes : (conn number : ℕ) (body : List ℕ) (r : CreateMonitoredItemsRequest) (s : ServerState) → request_at body ≡ Ok (request.Subscription (sub_request.CreateMonitoredItems r))
    → MakingsOf r s (after (Hears conn (heard_as.Message number body)) s)
unfolding heard hears
heard_makes conn number body r s is = by_deaf (is_deaf (ears conn s)) r s _ (by_conn (conn_at conn s.conns) number body r s is)
