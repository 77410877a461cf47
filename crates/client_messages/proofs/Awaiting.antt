-- What a server's end awaits after an event.
use Rattle.std.proofs.Common.{◌≡◌, ◌≢◌, ℕ, ◌==◌, Bool, true, false, cond, List, Option, Some, None, refl, sym, ap, subst, ◌∙◌, arith}
use Rattle.ua_channel.specs.declared.side.Side.TheVariants as sides
use Rattle.ua_channel.specs.State.{ChannelState, blank_end, new_channel}
use Rattle.ua_channel.specs.Node.{NodeState, node_after}
use Rattle.ua_channel.specs.Sharing.{Ends, end_at, own, taken_by, with_end}
use Rattle.link_rules.specs.Opening.{begins_anew}
use Rattle.client_rules.specs.State.{is_server, link_of}
use Rattle.client_rules.specs.Acts.{Closes, Opens, Refuses, Ticks}
use Rattle.client_rules.specs.Step.{after, heard}
use Rattle.ua_client.specs.declared.event.ClientEvent.{ClientEvent}
use Rattle.ua_client.specs.declared.event.ClientEvent.TheVariants as event
use Rattle.ua_client.specs.State.{BytesState}
use Rattle.ua_client.specs.Step.{apart, ended, ends_of, happened, is_of_client, put_ends, rest_answer, rest_ears, stepped, taken}
use Rattle.client_cuts.proofs.Holding.{bytes_hold}
use Rattle.client_cuts.proofs.Ends.{at, found_changed, mapped, set_is}
use Rattle.message_ends.specs.Showing.{ExpectsIn}
use Rattle.message_ends.proofs.Lookups.{end_apart, number_is, other_way, others_obeyed, same_number}
use Rattle.message_ends.proofs.Ordering.{expects_each, expects_in}
use Rattle.client_messages.specs.Showing.{IsBeside}
use Rattle.client_messages.proofs.Ending.{ended_expects}

pub differ_test : (a b : ℕ) → a ≢ b → (a == b) ≡ false
differ_test a b differs = by_test (a == b) refl
  where
    by_test : (t : Bool) → (a == b) ≡ t → t ≡ false
    by_test true e = absurd (differs (number_is a b e))
    by_test false e = refl

-- ---- an end that is set

abbrev pub blank : ChannelState
blank = new_channel sides.Client

abbrev pub anew : Option ChannelState → Option ChannelState
anew found = mapped (λ c. blank) found

pub anew_at : (b : Bool) (number server : ℕ) (ends : Ends) → (number == server) ≡ b
    → end_at number (with_end server blank ends) ≡ cond b (anew (end_at number ends)) (end_at number ends)
anew_at true number server ends e =
    subst (λ n. end_at n (with_end server blank ends) ≡ anew (end_at n ends)) (sym (number_is number server e))
    (ap (end_at server) (set_is (at server) blank ends) ∙ found_changed (at server) (λ c. blank) ends)
anew_at false number server ends e = end_apart number server blank ends (other_way number server e)

anew_expects : (found : Option ChannelState) → ExpectsIn 1 (anew found)
anew_expects None = tt
anew_expects (Some c) = record { number = refl; chunks = refl; body = refl; fault = refl; between = (omega arith, refl, refl) }

set_expects : (next number server : ℕ) (c : ChannelState) (ends : Ends) → server ≢ number → ExpectsIn next (end_at number ends)
    → ExpectsIn next (end_at number (with_end server c ends))
set_expects next number server c ends differs x =
    subst (ExpectsIn next) (sym (end_apart number server c ends (differ_test server number differs))) x

-- ---- bytes of another server

others_expect : (found : Option ChannelState) (next number server : ℕ) (bytes : List ℕ) (r : BytesState) → server ≢ number
    → ExpectsIn next (end_at number r.channels)
    → ExpectsIn next (end_at number (taken_by (rest_ears server) (rest_answer server) ends_of put_ends found server bytes r).channels)
others_expect None next number server bytes r differs x = x
others_expect (Some c) next number server bytes r differs x =
    let n : NodeState BytesState = node_after (rest_ears server) (rest_answer server) bytes (apart server c r) in
    set_expects next number server n.channel n.core.channels differs
    (bytes_hold (rest_ears server) (rest_answer server) (λ (core : BytesState). ExpectsIn next (end_at number core.channels))
    (λ h core p. subst (ExpectsIn next)
    (sym (others_obeyed server number (heard server h core.hub).orders core.channels (other_way server number (differ_test server number differs))))
    (expects_in (own number (heard server h core.hub).orders) next (end_at number core.channels) p))
    bytes (apart server c r) (set_expects next number server blank_end r.channels differs x))

taken_expects : (next number server : ℕ) (bytes : List ℕ) (r : BytesState) → server ≢ number → ExpectsIn next (end_at number r.channels)
    → ExpectsIn next (end_at number (taken server bytes r).channels)
unfolding taken
taken_expects next number server bytes r differs x = others_expect (end_at server r.channels) next number server bytes r differs x

-- ---- events beside a server

renewed_expects : (b : Bool) (next number server : ℕ) (ends : Ends) → server ≢ number → ExpectsIn next (end_at number ends)
    → ExpectsIn next (end_at number (cond b (with_end server blank ends) ends))
renewed_expects true next number server ends differs x = set_expects next number server blank ends differs x
renewed_expects false next number server ends differs x = x

happened_expects : (e : ClientEvent) (next number : ℕ) (r : BytesState) → IsBeside number e → ExpectsIn next (end_at number r.channels)
    → ExpectsIn next (end_at number (happened e r).channels)
happened_expects (event.Opened server) next number r differs x =
    expects_each number next (after (Opens server) r.hub).orders _
    (renewed_expects (begins_anew (link_of server r.hub)) next number server r.channels differs x)
happened_expects (event.Refused server) next number r beside x = expects_each number next (after (Refuses server) r.hub).orders r.channels x
happened_expects (event.Bytes server bytes) next number r differs x = taken_expects next number server bytes r differs x
happened_expects (event.Closed server) next number r beside x = expects_each number next (after (Closes server) r.hub).orders r.channels x
happened_expects (event.Tick ms) next number r beside x = expects_each number next (after (Ticks ms) r.hub).orders r.channels x

event_by : (b : Bool) (next number : ℕ) (r d : BytesState) → ExpectsIn next (end_at number r.channels) → ExpectsIn next (end_at number d.channels)
    → ExpectsIn next (end_at number (cond b (ended d) r).channels)
event_by true next number r d x y = ended_expects next number d (λ e. y)
event_by false next number r d x y = x

pub beside_expects : (e : ClientEvent) (next number : ℕ) (r : BytesState) → IsBeside number e → ExpectsIn next (end_at number r.channels)
    → ExpectsIn next (end_at number (stepped e r).channels)
beside_expects e next number r beside x =
    event_by (is_of_client e r.hub) next number r (happened e r) x (happened_expects e next number r beside x)

-- ---- a connection that is opened

stays_expects : (b : Bool) (next server : ℕ) (ends : Ends) → b ≡ false → ExpectsIn next (end_at server ends)
    → ExpectsIn next (end_at server (cond b (with_end server blank ends) ends))
stays_expects true next server ends e x = absurd cc
stays_expects false next server ends e x = x

-- where one stood its stream goes on
pub standing_expects : (next server : ℕ) (r : BytesState) → begins_anew (link_of server r.hub) ≡ false → ExpectsIn next (end_at server r.channels)
    → ExpectsIn next (end_at server (stepped (event.Opened server) r).channels)
standing_expects next server r e x =
    event_by (is_server server r.hub) next server r (happened (event.Opened server) r) x
    (expects_each server next (after (Opens server) r.hub).orders _
    (stays_expects (begins_anew (link_of server r.hub)) next server r.channels e x))

fresh_expects : (server : ℕ) (ends : Ends) → ExpectsIn 1 (end_at server (with_end server blank ends))
fresh_expects server ends = subst (ExpectsIn 1) (sym (anew_at true server server ends (same_number server))) (anew_expects (end_at server ends))

renews_expects : (b : Bool) (server : ℕ) (ends : Ends) → b ≡ true → ExpectsIn 1 (end_at server (cond b (with_end server blank ends) ends))
renews_expects true server ends e = fresh_expects server ends
renews_expects false server ends e = absurd cc

first_by : (b : Bool) (server : ℕ) (r d : BytesState) → b ≡ true → ExpectsIn 1 (end_at server d.channels)
    → ExpectsIn 1 (end_at server (cond b (ended d) r).channels)
first_by true server r d e y = ended_expects 1 server d (λ e. y)
first_by false server r d e y = absurd cc

-- where none stood a stream begins
pub opened_expects : (server : ℕ) (r : BytesState) → is_server server r.hub ≡ true → begins_anew (link_of server r.hub) ≡ true
    → ExpectsIn 1 (end_at server (stepped (event.Opened server) r).channels)
opened_expects server r known e =
    first_by (is_server server r.hub) server r (happened (event.Opened server) r) known
    (expects_each server 1 (after (Opens server) r.hub).orders _
    (renews_expects (begins_anew (link_of server r.hub)) server r.channels e))
