-- What a client begins with, and what is called on it, leaves nothing to be done.
use Rattle.std.proofs.Common.{◌≡◌, ℕ, zero, suc, ◌+◌, ◌++◌, Bool, true, false, cond, List, [], ◌∷◌, length, is_some, Option, Some, None, Ordering, Less, Equal, Greater, refl, sym, ap, ap₂, ◌∙◌}
use Rattle.std.specs.Ordering.{match_ordering, nat_cmp}
use Rattle.std.specs.BTreeMap.{insert_entry}
use Rattle.ua_channel.specs.declared.side.Side.TheVariants as sides
use Rattle.ua_channel.specs.State.{ChannelState, new_channel}
use Rattle.ua_channel.specs.Sharing.{Ends, emptied_by, end_at}
use Rattle.client_rules.specs.declared.config.ClientConfig.{ClientConfig}
use Rattle.client_rules.specs.State.{ClientState, idle_client, servers_of}
use Rattle.client_rules.specs.Dialling.{dialled}
use Rattle.client_rules.specs.Step.{new_client}
use Rattle.ua_client.specs.declared.event.ClientEvent.TheVariants as event
use Rattle.ua_client.specs.State.{BytesState, first_ends, new_bytes, without_out, without_wish}
use Rattle.ua_client.specs.Step.{stepped}
use Rattle.client_cuts.specs.Resting.{Call, IsAtRest, Steps, TakesOut, TakesWish, called, called_all, life_after}
use Rattle.client_cuts.proofs.Cutting.{both, deaf_ears, ended_is, events_cut, shut_for, step_rests}
use Rattle.client_cuts.proofs.Dialling.{dialled_twice}
use Rattle.client_cuts.proofs.Ends.{AreShut, all_apart, all_fewer, all_shut, at, change, changed_by, changed_is, shut_all}
use Rattle.client_cuts.proofs.Wishing.{wish_count, wish_deaf, wish_still}

-- ---- a client that begins

by_order : (o : Ordering) (k : ℕ) (e : ℕ × ChannelState) (es more : Ends) → AreShut (e ∷ es) → AreShut more
    → AreShut (match_ordering o ((k, new_channel sides.Client) ∷ e ∷ es) ((e.0, new_channel sides.Client) ∷ es) (e ∷ more))
by_order Less k e es more are later = (refl, are)
by_order Equal k e es more are later = (refl, are.1)
by_order Greater k e es more are later = (are.0, later)

inserted_shut : (k : ℕ) (es : Ends) → AreShut es → AreShut (insert_entry nat_cmp es k (new_channel sides.Client))
inserted_shut k [] are = (refl, tt)
inserted_shut k (e ∷ es) are =
    by_order (nat_cmp k e.0) k e es (insert_entry nat_cmp es k (new_channel sides.Client)) are (inserted_shut k es are.1)

opened_by : (b : Bool) (k : ℕ) (es : Ends) → AreShut es → AreShut (cond b es (insert_entry nat_cmp es k (new_channel sides.Client)))
opened_by true k es are = are
opened_by false k es are = inserted_shut k es are

first_shut : (count : ℕ) → AreShut (first_ends count)
unfolding first_ends
first_shut zero = tt
first_shut (suc count) = opened_by (is_some (end_at (count + 1) (first_ends count))) (count + 1) (first_ends count) (first_shut count)

pub begins : (config : ClientConfig) → IsAtRest (new_bytes config)
begins config =
    ended_is (new_bytes config)
    ∙ ap₂ both (dialled_twice (idle_client config))
    (all_shut (deaf_ears (new_client config)) (length (new_client config).links) (first_ends (servers_of config)) (first_shut (servers_of config)))

-- ---- what is called

hub_rests : (s : BytesState) → IsAtRest s → dialled s.hub ≡ s.hub
hub_rests s at_rest = ap (λ (r : BytesState). r.hub) at_rest

ends_rest : (s : BytesState) → IsAtRest s → shut_for s.hub s.channels ≡ s.channels
ends_rest s at_rest = ap (λ (r : BytesState). r.channels) (sym (ended_is s) ∙ at_rest)

rests_by : (hub : ClientState) (ends : Ends) → dialled hub ≡ hub → shut_for hub ends ≡ ends → IsAtRest (both hub ends)
rests_by hub ends dial same = ended_is (both hub ends) ∙ ap₂ both dial same

abbrev pub emptied : ChannelState → ChannelState
emptied c = record c { out = [] }

emptied_as : (o : Option ChannelState) (server : ℕ) (ends : Ends) → emptied_by o server ends ≡ changed_by o (at server) emptied ends
emptied_as None server ends = refl
emptied_as (Some c) server ends = refl

pub emptied_is : (server : ℕ) (ends : Ends) → emptied_by (end_at server ends) server ends ≡ change (at server) emptied ends
emptied_is server ends = emptied_as (end_at server ends) server ends ∙ changed_is (at server) emptied ends

pub out_rests : (server : ℕ) (s : BytesState) → IsAtRest s → IsAtRest (without_out server s)
out_rests server s at_rest =
    rests_by s.hub (emptied_by (end_at server s.channels) server s.channels) (hub_rests s at_rest)
    (ap (shut_for s.hub) (emptied_is server s.channels)
    ∙ all_apart (deaf_ears s.hub) (length s.hub.links) server emptied s.channels (λ c. refl)
    ∙ ap (change (at server) emptied) (ends_rest s at_rest)
    ∙ sym (emptied_is server s.channels))

pub wish_rests : (server : ℕ) (s : BytesState) → IsAtRest s → IsAtRest (record s { hub = without_wish server s.hub })
wish_rests server s at_rest =
    let next : ClientState = without_wish server s.hub in
    let same = ends_rest s at_rest in
    rests_by next s.channels (wish_still server s.hub (hub_rests s at_rest))
    (ap (λ n. shut_all (deaf_ears next) n s.channels) (wish_count server s.hub)
    ∙ ap (shut_all (deaf_ears next) (length s.hub.links)) (sym same)
    ∙ all_fewer (deaf_ears s.hub) (deaf_ears next) (length s.hub.links) s.channels (λ i. wish_deaf server i s.hub)
    ∙ same)

call_rests : (call : Call) (s : BytesState) → IsAtRest s → IsAtRest (called call s)
call_rests (Steps e) s at_rest = step_rests e s at_rest
call_rests (TakesOut server) s at_rest = out_rests server s at_rest
call_rests (TakesWish server) s at_rest = wish_rests server s at_rest

calls_rest : (calls : List Call) (s : BytesState) → IsAtRest s → IsAtRest (called_all calls s)
calls_rest [] s at_rest = at_rest
calls_rest (call ∷ calls) s at_rest = calls_rest calls (called call s) (call_rests call s at_rest)

pub life_rests : (config : ClientConfig) (calls : List Call) → IsAtRest (life_after config calls)
life_rests config calls = calls_rest calls (new_bytes config) (begins config)

pub life_cut : (config : ClientConfig) (calls : List Call) (server : ℕ) (first second : List ℕ)
    → stepped (event.Bytes server (first ++ second)) (life_after config calls)
    ≡ stepped (event.Bytes server second) (stepped (event.Bytes server first) (life_after config calls))
life_cut config calls server first second = events_cut server first second (life_after config calls) (life_rests config calls)
