-- What waits to be taken has no part in what a client does.
use Rattle.std.proofs.Common.{◌≡◌, ◌≢◌, ◌⊎◌, inl, inr, ℕ, ◌==◌, ◌++◌, Bool, true, false, cond, List, [], ◌∷◌, length, is_some, Option, Some, None, refl, sym, ap, subst, ◌∙◌}
use Rattle.std.proofs.lemmas.List.{append-nil}
use Rattle.std.proofs.lemmas.Map.Steps.{set_value_same}
use Rattle.ua_channel.specs.declared.wire.Order.{Order}
use Rattle.ua_channel.specs.declared.side.Side.TheVariants as sides
use Rattle.ua_channel.specs.State.{ChannelState, blank_end, new_channel}
use Rattle.ua_channel.specs.Orders.{obeyed}
use Rattle.ua_channel.specs.Node.{NodeState, node_after}
use Rattle.ua_channel.specs.Sharing.{Ends, end_at, obeyed_at, obeyed_each, others, out_by, put_back, taken_by, with_end}
use Rattle.link_rules.specs.Opening.{begins_anew}
use Rattle.client_rules.specs.State.{link_of}
use Rattle.client_rules.specs.Acts.{Closes, Opens, Refuses, Ticks}
use Rattle.client_rules.specs.Dialling.{dialled}
use Rattle.client_rules.specs.Step.{after, heard}
use Rattle.ua_client.specs.declared.event.ClientEvent.{ClientEvent}
use Rattle.ua_client.specs.declared.event.ClientEvent.TheVariants as event
use Rattle.ua_client.specs.State.{BytesState, out_of, without_out}
use Rattle.ua_client.specs.Step.{apart, ended, ends_of, happened, is_of_client, put_ends, rest_answer, rest_ears, stepped, taken}
use Rattle.client_cuts.specs.Resting.{IsAtRest}
use Rattle.client_cuts.specs.Waiting.{IsNoOpening, waiting_by, with_waiting}
use Rattle.client_cuts.proofs.Cutting.{both, deaf_ears, ended_is, events_cut}
use Rattle.client_cuts.proofs.Ends.{all_apart, at, change, change_twice, changed_by, changed_is, changed_set, changes_swap, found_changed, found_elsewhere, mapped, obeyed_is, same_or_not, set_changed, set_elsewhere}
use Rattle.client_cuts.proofs.Mapped.{bytes_image, obeyed_waiting, waiting}
use Rattle.client_cuts.proofs.Resting.{emptied, emptied_is}

-- ---- as a change of an end

waiting_as : (o : Option ChannelState) (server : ℕ) (p : List ℕ) (ends : Ends)
    → waiting_by o server p ends ≡ changed_by o (at server) (waiting p) ends
waiting_as None server p ends = refl
waiting_as (Some c) server p ends = refl

waiting_is : (server : ℕ) (p : List ℕ) (ends : Ends)
    → waiting_by (end_at server ends) server p ends ≡ change (at server) (waiting p) ends
waiting_is server p ends = waiting_as (end_at server ends) server p ends ∙ changed_is (at server) (waiting p) ends

abbrev held : ℕ → List ℕ → BytesState → BytesState
held server p s = both s.hub (change (at server) (waiting p) s.channels)

held_is : (server : ℕ) (p : List ℕ) (s : BytesState) → with_waiting server p s ≡ held server p s
held_is server p s = ap (both s.hub) (waiting_is server p s.channels)

-- ---- orders

at_held : (number server : ℕ) (o : Order) (p : List ℕ) (ends : Ends)
    → obeyed_at number o (change (at server) (waiting p) ends) ≡ change (at server) (waiting p) (obeyed_at number o ends)
at_held number server o p ends =
    obeyed_is number o (change (at server) (waiting p) ends)
    ∙ changes_swap number server (obeyed o) (waiting p) ends (λ c. obeyed_waiting p o c)
    ∙ ap (change (at server) (waiting p)) (sym (obeyed_is number o ends))

each_held : (orders : List (ℕ × Order)) (server : ℕ) (p : List ℕ) (ends : Ends)
    → obeyed_each orders (change (at server) (waiting p) ends) ≡ change (at server) (waiting p) (obeyed_each orders ends)
each_held [] server p ends = refl
each_held (o ∷ orders) server p ends =
    ap (obeyed_each orders) (at_held o.0 server o.1 p ends) ∙ each_held orders server p (obeyed_at o.0 o.1 ends)

first_held : (b : Bool) (o : ℕ × Order) (server : ℕ) (p : List ℕ) (ends : Ends)
    → cond b (change (at server) (waiting p) ends) (obeyed_at o.0 o.1 (change (at server) (waiting p) ends))
    ≡ change (at server) (waiting p) (cond b ends (obeyed_at o.0 o.1 ends))
first_held true o server p ends = refl
first_held false o server p ends = at_held o.0 server o.1 p ends

others_held : (conn : ℕ) (orders : List (ℕ × Order)) (server : ℕ) (p : List ℕ) (ends : Ends)
    → others conn orders (change (at server) (waiting p) ends) ≡ change (at server) (waiting p) (others conn orders ends)
others_held conn [] server p ends = refl
others_held conn (o ∷ orders) server p ends =
    ap (others conn orders) (first_held (o.0 == conn) o server p ends)
    ∙ others_held conn orders server p (cond (o.0 == conn) ends (obeyed_at o.0 o.1 ends))

-- ---- bytes

abbrev node_then : ℕ → List ℕ → NodeState BytesState → NodeState BytesState
node_then conn bytes n = node_after (rest_ears conn) (rest_answer conn) bytes n

abbrev back : ℕ → NodeState BytesState → BytesState
back conn n = put_back (rest_ears conn) (rest_answer conn) ends_of put_ends conn n

abbrev took : Option ChannelState → ℕ → List ℕ → BytesState → BytesState
took o conn bytes s = taken_by (rest_ears conn) (rest_answer conn) ends_of put_ends o conn bytes s

-- those of the server itself
own_held : (o : Option ChannelState) (server : ℕ) (bytes p : List ℕ) (s : BytesState)
    → took (mapped (waiting p) o) server bytes (held server p s) ≡ held server p (took o server bytes s)
own_held None server bytes p s = refl
own_held (Some c) server bytes p s =
    let n : NodeState BytesState = node_then server bytes (apart server c s) in
    ap (λ (ends : Ends). back server (node_then server bytes (record { core = both s.hub ends; channel = waiting p c })))
    (set_changed server blank_end (waiting p) s.channels)
    ∙ ap (back server) (bytes_image (rest_ears server) (rest_answer server) (λ (r : BytesState). r) p
    (λ r. refl) (λ h r. refl) (λ h r. refl) bytes (apart server c s))
    ∙ ap (both n.core.hub) (sym (changed_set server n.channel (waiting p) n.core.channels))

-- and those of another one
other_held : (o : Option ChannelState) (conn server : ℕ) (bytes p : List ℕ) (s : BytesState) → conn ≢ server
    → took o conn bytes (held server p s) ≡ held server p (took o conn bytes s)
other_held None conn server bytes p s differs = refl
other_held (Some c) conn server bytes p s differs =
    let n : NodeState BytesState = node_then conn bytes (apart conn c s) in
    ap (λ (ends : Ends). back conn (node_then conn bytes (record { core = both s.hub ends; channel = c })))
    (set_elsewhere conn server blank_end (waiting p) s.channels differs)
    ∙ ap (back conn) (bytes_image (rest_ears conn) (rest_answer conn) (held server p) []
    (λ r. refl) (λ h r. refl)
    (λ h r. ap (both (heard conn h r.hub).client) (others_held conn (heard conn h r.hub).orders server p r.channels))
    bytes (apart conn c s))
    ∙ ap (both n.core.hub) (set_elsewhere conn server n.channel (waiting p) n.core.channels differs)

taken_by_place : (conn server : ℕ) (bytes p : List ℕ) (s : BytesState) → (conn ≡ server) ⊎ (conn ≢ server)
    → took (end_at conn (held server p s).channels) conn bytes (held server p s) ≡ held server p (took (end_at conn s.channels) conn bytes s)
taken_by_place conn server bytes p s (inl is) =
    subst (λ n. took (end_at conn (held n p s).channels) conn bytes (held n p s) ≡ held n p (took (end_at conn s.channels) conn bytes s)) is
    (ap (λ (o : Option ChannelState). took o conn bytes (held conn p s)) (found_changed (at conn) (waiting p) s.channels)
    ∙ own_held (end_at conn s.channels) conn bytes p s)
taken_by_place conn server bytes p s (inr differs) =
    ap (λ (o : Option ChannelState). took o conn bytes (held server p s)) (found_elsewhere conn server (waiting p) s.channels differs)
    ∙ other_held (end_at conn s.channels) conn server bytes p s differs

taken_held : (conn server : ℕ) (bytes p : List ℕ) (s : BytesState) → taken conn bytes (held server p s) ≡ held server p (taken conn bytes s)
unfolding taken
taken_held conn server bytes p s = taken_by_place conn server bytes p s (same_or_not conn server _ refl)

-- ---- events

renewed_by : (b : Bool) (other server : ℕ) (p : List ℕ) (ends : Ends) → server ≢ other
    → cond b (with_end other (new_channel sides.Client) (change (at server) (waiting p) ends)) (change (at server) (waiting p) ends)
    ≡ change (at server) (waiting p) (cond b (with_end other (new_channel sides.Client) ends) ends)
renewed_by true other server p ends differs = set_elsewhere other server (new_channel sides.Client) (waiting p) ends (λ e. differs (sym e))
renewed_by false other server p ends differs = refl

happened_held : (e : ClientEvent) (server : ℕ) (p : List ℕ) (s : BytesState) → IsNoOpening server e
    → happened e (held server p s) ≡ held server p (happened e s)
happened_held (event.Opened other) server p s differs =
    let did = after (Opens other) s.hub in
    ap (λ (ends : Ends). both did.client (obeyed_each did.orders ends))
    (renewed_by (begins_anew (link_of other s.hub)) other server p s.channels differs)
    ∙ ap (both did.client) (each_held did.orders server p _)
happened_held (event.Refused other) server p s apart =
    ap (both (after (Refuses other) s.hub).client) (each_held (after (Refuses other) s.hub).orders server p s.channels)
happened_held (event.Bytes other bytes) server p s apart = taken_held other server bytes p s
happened_held (event.Closed other) server p s apart =
    ap (both (after (Closes other) s.hub).client) (each_held (after (Closes other) s.hub).orders server p s.channels)
happened_held (event.Tick ms) server p s apart =
    ap (both (after (Ticks ms) s.hub).client) (each_held (after (Ticks ms) s.hub).orders server p s.channels)

ended_held : (server : ℕ) (p : List ℕ) (s : BytesState) → ended (held server p s) ≡ held server p (ended s)
ended_held server p s =
    ended_is (held server p s)
    ∙ ap (both (dialled s.hub)) (all_apart (deaf_ears s.hub) (length s.hub.links) server (waiting p) s.channels (λ c. refl))
    ∙ sym (ap (held server p) (ended_is s))

step_by : (b : Bool) (e : ClientEvent) (server : ℕ) (p : List ℕ) (s : BytesState) → IsNoOpening server e
    → cond b (ended (happened e (held server p s))) (held server p s) ≡ held server p (cond b (ended (happened e s)) s)
step_by true e server p s apart = ap ended (happened_held e server p s apart) ∙ ended_held server p (happened e s)
step_by false e server p s apart = refl

step_held : (e : ClientEvent) (server : ℕ) (p : List ℕ) (s : BytesState) → IsNoOpening server e
    → stepped e (held server p s) ≡ held server p (stepped e s)
step_held e server p s apart = step_by (is_of_client e s.hub) e server p s apart

pub step_waiting : (e : ClientEvent) (server : ℕ) (p : List ℕ) (s : BytesState) → IsNoOpening server e
    → stepped e (with_waiting server p s) ≡ with_waiting server p (stepped e s)
step_waiting e server p s apart =
    ap (stepped e) (held_is server p s) ∙ step_held e server p s apart ∙ sym (held_is server p (stepped e s))

-- ---- bytes that are taken

again_by : (o : Option ChannelState) (server : ℕ) (ends : Ends) → end_at server ends ≡ o
    → changed_by o (at server) (λ c. waiting (out_by o) (emptied c)) ends ≡ ends
again_by None server ends e = refl
again_by (Some c) server ends e =
    ap (λ (out : List ℕ). with_end server (record c { out = out }) ends) (append-nil c.out)
    ∙ set_value_same (at server) ends c e

pub taken_again : (server : ℕ) (s : BytesState) → with_waiting server (out_of server s) (without_out server s) ≡ s
taken_again server s =
    let p : List ℕ = out_of server s in
    held_is server p (without_out server s)
    ∙ ap (both s.hub)
    (ap (change (at server) (waiting p)) (emptied_is server s.channels)
    ∙ change_twice (at server) (waiting p) emptied s.channels
    ∙ sym (changed_is (at server) (λ c. waiting p (emptied c)) s.channels)
    ∙ again_by (end_at server s.channels) server s.channels refl)

out_mapped : (o : Option ChannelState) (p : List ℕ) → is_some o ≡ true → out_by (mapped (waiting p) o) ≡ p ++ out_by o
out_mapped None p is = absurd cc
out_mapped (Some c) p is = refl

pub out_waiting : (server : ℕ) (p : List ℕ) (s : BytesState) → is_some (end_at server s.channels) ≡ true
    → out_of server (with_waiting server p s) ≡ p ++ out_of server s
out_waiting server p s is =
    ap (λ (r : BytesState). out_of server r) (held_is server p s)
    ∙ ap out_by (found_changed (at server) (waiting p) s.channels)
    ∙ out_mapped (end_at server s.channels) p is

-- bytes that are taken between two events
pub cut_between : (server other : ℕ) (first second : List ℕ) (s : BytesState) → IsAtRest s
    → stepped (event.Bytes server (first ++ second)) s
    ≡ with_waiting other (out_of other (stepped (event.Bytes server first) s))
    (stepped (event.Bytes server second) (without_out other (stepped (event.Bytes server first) s)))
cut_between server other first second s at_rest =
    let middle : BytesState = stepped (event.Bytes server first) s in
    events_cut server first second s at_rest
    ∙ ap (stepped (event.Bytes server second)) (sym (taken_again other middle))
    ∙ step_waiting (event.Bytes server second) other (out_of other middle) (without_out other middle) tt
