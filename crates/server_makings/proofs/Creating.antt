-- What a CreateMonitoredItems does, in moves: it makes items of those that it asks for, and nothing else.
use Rattle.std.proofs.Common.{◌≡◌, ℕ, ◌+◌, ◌≤◌, ◌==◌, List, [], ◌∷◌, ◌++◌, Bool, true, false, cond, length, Option, Some, None, refl, sym, ap, ◌∙◌, subst, arith, inl, inr}
use Rattle.std.specs.Prelude.{Result, Ok, Err}
use Rattle.std.proofs.lemmas.Bool.Decides.{nat_tests}
use Rattle.ua_base.specs.Status.{bad_monitoring_mode_invalid, bad_node_id_unknown, bad_timestamps_to_return_invalid, bad_too_many_monitored_items}
use Rattle.ua_base.specs.declared.modes.Mode.{Mode}
use Rattle.ua_base.specs.declared.modes.Timestamps.{Timestamps}
use Rattle.sessions.specs.Calls.{Check}
use Rattle.sessions.specs.Table.{check_answer}
use Rattle.ua_channel.specs.declared.heard.Heard.TheVariants as heard_as
use Rattle.ua_channel.specs.State.{is_deaf}
use Rattle.ua_sub_msgs.specs.declared.item.CreateMonitoredItemsRequest.{CreateMonitoredItemsRequest}
use Rattle.ua_sub_msgs.specs.declared.item.MonitoredItemCreateRequest.{MonitoredItemCreateRequest}
use Rattle.ua_sub_msgs.specs.declared.request.SubRequest.TheVariants as sub_request
use Rattle.ua_services.specs.declared.reply.Reply.{Reply}
use Rattle.ua_services.specs.declared.request.Request.{Request}
use Rattle.ua_services.specs.declared.request.Request.TheVariants as request
use Rattle.ua_services.specs.declared.request.RequestFault.{RequestFault}
use Rattle.ua_services.specs.Requests.{header_of, request_at}
use Rattle.subscription.specs.declared.spec.ItemSpec.{ItemSpec}
use Rattle.subscription.specs.State.{SubState}
use Rattle.server_rules.specs.declared.config.ServerConfig.{ServerConfig}
use Rattle.server_rules.specs.declared.conn.Asker.{Asker}
use Rattle.server_rules.specs.declared.conn.Conn.{Conn}
use Rattle.server_rules.specs.State.{ServerState, conn_at, sub_at}
use Rattle.server_rules.specs.Said.{Did, nothing}
use Rattle.server_rules.specs.Answering.{fault_reply, faulted, good_header, replied}
use Rattle.server_rules.specs.Operations.{◌>>=◌, after_each, answers, done, mode_named, operations_fault, own_checked, passes, timestamps_named, wanted}
use Rattle.server_rules.specs.Items.{create_all, create_checked, create_items, create_reply, filter_fault, item_judged, item_number, item_result, item_spec, judged, value_fault, with_item, with_made, with_room}
use Rattle.server_rules.specs.Requests.{asked, asker_of, done_for, noted, requested, served, sub_served, token_in}
use Rattle.server_rules.specs.Connecting.{hears, hears_by}
use Rattle.server_rules.specs.Step.{Hears, after, ears, heard}
use Rattle.server_laws.specs.Moves.{Adds, AreFair, Asks, Core, Does, IsFair, Move, facts_of, facts_of_all, moved, moved_all}
use Rattle.server_laws.specs.Facts.{IsWithin, facts_said}
use Rattle.server_laws.specs.Course.{Adding, Comes, MayMove, core_of}
use Rattle.server_laws.proofs.Asking.{item_least}
use Rattle.server_laws.proofs.Replying.{Says, replied_says}
use Rattle.server_laws.proofs.Within.{none_within, within_join}
use Rattle.server_makings.specs.Asked.{AreMadeOf, AskedItem, IsAsAsked, asked_with, made_in}
use Rattle.server_makings.proofs.Config.{item_keeps}

-- ---- what is made of an item that was asked for

record IsFound (found : Option ℕ) (named : Option Mode) (make : ℕ → Mode → ItemSpec) (spec : ItemSpec) : Type 0 where
  node : ℕ
  mode : Mode
  is_node : found ≡ Some node
  is_mode : named ≡ Some mode
  is : make node mode ≡ spec

all_found : (found : Option ℕ) (code other : ℕ) (value filter : Result (Unit {0}) ℕ) (named : Option Mode) (make : ℕ → Mode → ItemSpec) (spec : ItemSpec)
    → (wanted code found >>= (λ n. value >>= (λ _. wanted other named >>= (λ m. filter >>= (λ _. Ok (make n m)))))) ≡ Ok spec
    → IsFound found named make spec
all_found None code other value filter named make spec is = absurd cc
all_found (Some n) code other (Err fault) filter named make spec is = absurd cc
all_found (Some n) code other (Ok v) filter None make spec is = absurd cc
all_found (Some n) code other (Ok v) (Err fault) (Some m) make spec is = absurd cc
all_found (Some n) code other (Ok v) (Ok f) (Some m) make spec is = record { node = n; mode = m; is_node = refl; is_mode = refl; is = cc }

pub as_asked : (items : ℕ) (stamps : Timestamps) (one : MonitoredItemCreateRequest) (spec : ItemSpec) → judged items stamps one ≡ Ok spec → IsAsAsked items stamps one spec
unfolding judged
as_asked items stamps one spec is =
    let make : ℕ → Mode → ItemSpec = item_spec stamps one.requested_parameters in
    let h = all_found (item_number items one.item_to_monitor.node_id) bad_node_id_unknown bad_monitoring_mode_invalid (passes (value_fault one.item_to_monitor))
    (passes (filter_fault one.requested_parameters.filter)) (mode_named one.monitoring_mode) make spec is in
    record {
      node = h.is_node ∙ ap (λ (x : ItemSpec). Some x.node) h.is;
      handle = sym (ap (λ (x : ItemSpec). x.handle) h.is);
      mode = h.is_mode ∙ ap (λ (x : ItemSpec). Some x.mode) h.is;
      queue = sym (ap (λ (x : ItemSpec). x.queue) h.is);
      oldest = sym (ap (λ (x : ItemSpec). x.oldest) h.is);
      stamps = sym (ap (λ (x : ItemSpec). x.stamps) h.is);
    }

room_same : (sub : Option SubState) (spec : ItemSpec) (made : ℕ × ItemSpec) → with_room sub spec ≡ Ok made → made.1 ≡ spec
room_same None spec made is = absurd cc
room_same (Some sub) spec made is = by_full _ is
  where
    by_full : (b : Bool) → cond b (Err bad_too_many_monitored_items) (Ok (sub.given + 1, spec)) ≡ Ok made → made.1 ≡ spec
    by_full true is = absurd cc
    by_full false is = let same : (sub.given + 1, spec) ≡ made = cc in ap (λ (made : ℕ × ItemSpec). made.1) (sym same)

through_room : (r : Result ItemSpec ℕ) (sub : Option SubState) (made : ℕ × ItemSpec) → (r >>= with_room sub) ≡ Ok made → r ≡ Ok made.1
through_room (Ok spec) sub made is = ap Ok (sym (room_same sub spec made is))
through_room (Err code) sub made is = absurd cc

-- ---- moves that make items of these at the most

pub record Makings (sub items : ℕ) (wants : List AskedItem) (s : ServerState) (did : Did) : Type 0 where
  pub comes : Comes (Adding sub) s did
  pub made : AreMadeOf items (made_in sub comes.moves) wants

none_makes : (sub items : ℕ) (wants : List AskedItem) (s : ServerState) (did : Did) → Says [] s did → Makings sub items wants s did
none_makes sub items wants s did h =
    record { comes = record { moves = []; may = tt; fair = tt; leads = h.same; told = h.told }; made = tt }

idle_makes : (sub items : ℕ) (wants : List AskedItem) (s : ServerState) → Makings sub items wants s (nothing s)
idle_makes sub items wants s = none_makes sub items wants s (nothing s) (record { same = refl; told = refl })

fault_makes : (sub items : ℕ) (wants : List AskedItem) (asker : Asker) (code : ℕ) (s : ServerState) → Makings sub items wants s (faulted asker code s)
fault_makes sub items wants asker code s =
    none_makes sub items wants s (faulted asker code s) (replied_says asker (fault_reply asker.handle code s) s)

begun_comes : (sub : ℕ) (move : Move) (s before : ServerState) (did : Did) → MayMove (Adding sub) move → IsFair move (core_of s)
    → core_of before ≡ moved move (core_of s) → (h : Comes (Adding sub) before did)
    → (c : Comes (Adding sub) s did) × (c.moves ≡ move ∷ h.moves)
begun_comes sub move s before did may fair leads h =
    let c : Core = core_of s in
    let rest : List Move = h.moves in (
      record {
        moves = move ∷ rest;
        may = (may, h.may);
        fair = (fair, subst (AreFair rest) leads h.fair);
        leads = h.leads ∙ ap (moved_all rest) leads;
        told = within_join [] (facts_of move c) (facts_said did.said) (facts_of_all rest (moved move c)) (none_within (facts_of move c))
            (subst (λ d. IsWithin (facts_said did.said) (facts_of_all rest d)) leads h.told);
      },
      refl,
    )

noted_makes : (sub items : ℕ) (wants : List AskedItem) (asker : Asker) (token : Option (List ℕ)) (s : ServerState) (did : Did)
    → Makings sub items wants (noted asker token s) did → Makings sub items wants s did
noted_makes sub items wants asker token s did h =
    let more = begun_comes sub (Asks (Check token asker.conn s.age)) s (noted asker token s) did tt tt refl h.comes in
    record { comes = more.0; made = subst (λ moves. AreMadeOf items (made_in sub moves) wants) (sym more.1) h.made }

-- one item more
pub skip_one : (items : ℕ) (made : List ItemSpec) (one : AskedItem) (wants : List AskedItem) → AreMadeOf items made wants → AreMadeOf items made (one ∷ wants)
skip_one items [] one wants h = tt
skip_one items (spec ∷ made) one wants h = inr h

more_made : (b : Bool) (items : ℕ) (spec : ItemSpec) (made : List ItemSpec) (one : AskedItem) (wants : List AskedItem) → b ≡ true
    → judged items one.stamps one.item ≡ Ok spec → AreMadeOf items made wants → AreMadeOf items (cond b (spec ∷ []) [] ++ made) (one ∷ wants)
more_made true items spec made one wants own is h = inl (is, h)
more_made false items spec made one wants own is h = absurd cc

made_makes : (sub items : ℕ) (one : AskedItem) (wants : List AskedItem) (made : Result (ℕ × ItemSpec) ℕ) (s : ServerState) (did : Did)
    → ((found : ℕ × ItemSpec) → made ≡ Ok found → judged items one.stamps one.item ≡ Ok found.1)
    → ((found : ℕ × ItemSpec) → made ≡ Ok found → 1 ≤ found.1.queue) → Makings sub items wants (with_made sub made s) did
    → Makings sub items (one ∷ wants) s did
made_makes sub items one wants (Ok found) s did own least h =
    let is : judged items one.stamps one.item ≡ Ok found.1 = own found refl in
    let self : (sub == sub) ≡ true = grind (arith, nat_tests) in
    let more = begun_comes sub (Does sub (Adds found.1)) s (with_made sub (Ok found) s) did refl (least found refl) refl h.comes in
    record {
      comes = more.0;
      made = subst (λ moves. AreMadeOf items (made_in sub moves) (one ∷ wants)) (sym more.1)
          (more_made (sub == sub) items found.1 (made_in sub h.comes.moves) one wants self is h.made);
    }
made_makes sub items one wants (Err code) s did own least h = record { comes = h.comes; made = skip_one items (made_in sub h.comes.moves) one wants h.made }

item_makes : (sub items : ℕ) (stamps : Timestamps) (one : MonitoredItemCreateRequest) (wants : List AskedItem) (s : ServerState) (did : Did) → s.config.items ≡ items
    → Makings sub items wants (with_item sub stamps one s) did → Makings sub items (record { stamps = stamps; item = one } ∷ wants) s did
unfolding with_item
item_makes sub items stamps one wants s did same h =
    made_makes sub items (record { stamps = stamps; item = one }) wants (item_judged sub stamps one s) s did
    (λ found is. subst (λ n. judged n stamps one ≡ Ok found.1) same (through_room (judged s.config.items stamps one) (sub_at sub s.subs) found is))
    (item_least sub stamps one s) h

each_makes : (sub items : ℕ) (stamps : Timestamps) (list : List MonitoredItemCreateRequest) (s : ServerState) (did : Did) → s.config.items ≡ items
    → Makings sub items [] (after_each (with_item sub stamps) list s) did → Makings sub items (asked_with (Some stamps) list) s did
each_makes sub items stamps [] s did same h = h
each_makes sub items stamps (one ∷ more) s did same h =
    item_makes sub items stamps one (asked_with (Some stamps) more) s did same
    (each_makes sub items stamps more (with_item sub stamps one s) did (ap (λ (c : ServerConfig). c.items) (item_keeps sub stamps one s) ∙ same) h)

-- ---- a request

done_makes : {A : Type 0} (sub items : ℕ) (wants : List AskedItem) (asker : Asker) (rule : A → ServerState → Did) (result : Result A ℕ) (s : ServerState)
    → ((found : A) → result ≡ Ok found → Makings sub items wants s (rule found s)) → Makings sub items wants s (done asker rule result s)
done_makes sub items wants asker rule (Ok found) s on = on found refl
done_makes sub items wants asker rule (Err code) s on = fault_makes sub items wants asker code s

abbrev pub wants_of : CreateMonitoredItemsRequest → List AskedItem
wants_of r = asked_with (timestamps_named r.timestamps_to_return) r.items_to_create

abbrev pub MakingsOf : CreateMonitoredItemsRequest → ServerState → Did → Type 0
MakingsOf r s did = Makings r.subscription_id s.config.items (wants_of r) s did

is_wanted : (found : Option Timestamps) (code : ℕ) (stamps : Timestamps) → wanted code found ≡ Ok stamps → found ≡ Some stamps
is_wanted None code stamps is = absurd cc
is_wanted (Some one) code stamps is = let same : one ≡ stamps = cc in ap Some same

stamps_of_chain : (list own : Result (Unit {0}) ℕ) (found : Option Timestamps) (code : ℕ) (stamps : Timestamps)
    → (list >>= (λ _. own >>= (λ _. wanted code found))) ≡ Ok stamps → found ≡ Some stamps
stamps_of_chain (Err fault) own found code stamps is = absurd cc
stamps_of_chain (Ok one) (Err fault) found code stamps is = absurd cc
stamps_of_chain (Ok one) (Ok other) found code stamps is = is_wanted found code stamps is

stamps_asked : (session : ℕ) (r : CreateMonitoredItemsRequest) (stamps : Timestamps) (s : ServerState) → create_checked session r s ≡ Ok stamps
    → timestamps_named r.timestamps_to_return ≡ Some stamps
stamps_asked session r stamps s is =
    stamps_of_chain (passes (operations_fault (length r.items_to_create))) (own_checked session r.subscription_id s)
    (timestamps_named r.timestamps_to_return) bad_timestamps_to_return_invalid stamps is

items_make : (asker : Asker) (session : ℕ) (r : CreateMonitoredItemsRequest) (s : ServerState) → MakingsOf r s (create_items asker session r s)
unfolding create_items
items_make asker session r s =
    let sub : ℕ = r.subscription_id in
    let items : ℕ = s.config.items in
    done_makes sub items (wants_of r) asker (create_all asker sub r.items_to_create) (create_checked session r s) s
    (λ stamps is.
    let t : ServerState = after_each (with_item sub stamps) r.items_to_create s in
    let answer : Reply = create_reply (answers (item_result sub stamps) (with_item sub stamps) r.items_to_create s) (good_header asker.handle t) in
    subst (λ named. Makings sub items (asked_with named r.items_to_create) s (replied asker answer t)) (sym (stamps_asked session r stamps s is))
    (each_makes sub items stamps r.items_to_create s (replied asker answer t) refl
    (none_makes sub items [] t (replied asker answer t) (replied_says asker answer t))))

for_makes : (asker : Asker) (r : CreateMonitoredItemsRequest) (answer : Result ℕ ℕ) (s : ServerState)
    → MakingsOf r s (done_for (sub_served asker (sub_request.CreateMonitoredItems r)) asker answer s)
unfolding sub_served
for_makes asker r (Ok session) s = items_make asker session r s
for_makes asker r (Err code) s = fault_makes r.subscription_id s.config.items (wants_of r) asker code s

served_makes : (asker : Asker) (r : CreateMonitoredItemsRequest) (s : ServerState) → MakingsOf r s (served asker (request.Subscription (sub_request.CreateMonitoredItems r)) s)
unfolding served
served_makes asker r s =
    let token : Option (List ℕ) = token_in r.request_header in
    noted_makes r.subscription_id s.config.items (wants_of r) asker token s _
    (for_makes asker r (check_answer token asker.conn s.sessions) (noted asker token s))

requested_makes : (conn number : ℕ) (body : List ℕ) (r : CreateMonitoredItemsRequest) (s : ServerState) → request_at body ≡ Ok (request.Subscription (sub_request.CreateMonitoredItems r))
    → MakingsOf r s (requested conn number body s)
unfolding requested
requested_makes conn number body r s is =
    subst (λ (q : Result Request RequestFault). MakingsOf r s (asked conn number q s)) (sym is)
    (served_makes (asker_of conn number (header_of (request.Subscription (sub_request.CreateMonitoredItems r))).request_handle) r s)

by_conn : (found : Option Conn) (number : ℕ) (body : List ℕ) (r : CreateMonitoredItemsRequest) (s : ServerState)
    → request_at body ≡ Ok (request.Subscription (sub_request.CreateMonitoredItems r)) → MakingsOf r s (hears_by found (heard_as.Message number body) s)
by_conn None number body r s is = idle_makes r.subscription_id s.config.items (wants_of r) s
by_conn (Some conn) number body r s is = requested_makes conn.number number body r s is

by_deaf : (b : Bool) (r : CreateMonitoredItemsRequest) (s : ServerState) (did : Did) → MakingsOf r s did → MakingsOf r s (cond b (nothing s) did)
by_deaf true r s did h = idle_makes r.subscription_id s.config.items (wants_of r) s
by_deaf false r s did h = h

pub heard_makes : (conn number : ℕ) (body : List ℕ) (r : CreateMonitoredItemsRequest) (s : ServerState) → request_at body ≡ Ok (request.Subscription (sub_request.CreateMonitoredItems r))
    → MakingsOf r s (after (Hears conn (heard_as.Message number body)) s)
unfolding heard hears
heard_makes conn number body r s is = by_deaf (is_deaf (ears conn s)) r s _ (by_conn (conn_at conn s.conns) number body r s is)
