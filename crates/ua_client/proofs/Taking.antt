-- Bytes that come from a server: in pieces, and as messages.
use Rattle.std.proofs.Common.{◌≡◌, ℕ, List, ◌++◌, Option, Some, None, refl, sym, ap, ◌∙◌, ◌&&◌, Bool, true, false, cond, nat_le, length}
use Rattle.ua_channel.specs.State.{ChannelState, blank_end}
use Rattle.ua_channel.specs.Arriving.{Arrive, Sent, bytes_of}
use Rattle.ua_channel.specs.Node.{NodeState, node_after, node_of}
use Rattle.ua_channel.specs.Sharing.{Ends, end_at, put_back, taken_by}
use Rattle.ua_channel.proofs.Cutting.{cut_node}
use Rattle.ua_channel.proofs.Coming.{all_heard}
use Rattle.client_rules.specs.Step.{heard}
use Rattle.ua_client.specs.State.{BytesState}
use Rattle.client_rules.specs.State.{is_server}
use Rattle.ua_client.specs.declared.event.ClientEvent.TheVariants as event
use Rattle.ua_client.specs.Step.{apart, ends_of, heard_on, put_ends, rest_answer, rest_ears, taken, ended, stepped}
use Rattle.ua_client.proofs.Staying.{heard_count}
use Rattle.ua_client.proofs.Strangers.{no_event}
use Rattle.ua_channel.proofs.OneEnd.{back_again, end_set, others_apart}
use Rattle.ua_client.proofs.Keeping.{bytes_keep}
use Rattle.ua_client.proofs.Deafening.{deafens}

abbrev end_in : ℕ → BytesState → Option ChannelState
end_in server s = end_at server s.channels

abbrev node_then : ℕ → List ℕ → NodeState BytesState → NodeState BytesState
node_then server bytes n = node_after (rest_ears server) (rest_answer server) bytes n

abbrev back : ℕ → NodeState BytesState → BytesState
back server n = put_back (rest_ears server) (rest_answer server) ends_of put_ends server n

abbrev took : Option ChannelState → ℕ → List ℕ → BytesState → BytesState
took o server bytes s = taken_by (rest_ears server) (rest_answer server) ends_of put_ends o server bytes s

-- the blank end that stands in the place of one stays
blank_stays : (server : ℕ) (bytes : List ℕ) (c : ChannelState) (s : BytesState) → end_in server s ≡ Some c
    → end_in server (node_then server bytes (apart server c s)).core ≡ Some blank_end
blank_stays server bytes c s e =
    bytes_keep (rest_ears server) (rest_answer server) (end_in server)
    (λ h core. others_apart server ((heard server h core.hub).orders) core.channels) bytes (apart server c s)
    ∙ end_set server blank_end c s.channels e

-- taken out once more, what was put back is as it was
apart_back : (server : ℕ) (n : NodeState BytesState) → end_in server n.core ≡ Some blank_end → apart server n.channel (back server n) ≡ n
apart_back server n e =
    ap (λ (ends : Ends). node_of (put_ends ends n.core) n.channel) (back_again server blank_end n.channel n.core.channels e)

found_back : (server : ℕ) (n : NodeState BytesState) → end_in server n.core ≡ Some blank_end → end_in server (back server n) ≡ Some n.channel
found_back server n e = end_set server n.channel blank_end n.core.channels e

then_took : (server : ℕ) (bytes : List ℕ) (n : NodeState BytesState) → end_in server n.core ≡ Some blank_end
    → took (end_in server (back server n)) server bytes (back server n) ≡ back server (node_then server bytes n)
then_took server bytes n e =
    ap (λ (o : Option ChannelState). took o server bytes (back server n)) (found_back server n e)
    ∙ ap (λ (m : NodeState BytesState). back server (node_then server bytes m)) (apart_back server n e)

cut_by : (o : Option ChannelState) (server : ℕ) (first second : List ℕ) (s : BytesState) → end_in server s ≡ o
    → took o server (first ++ second) s ≡ took (end_in server (took o server first s)) server second (took o server first s)
cut_by None server first second s e = sym (ap (λ (o : Option ChannelState). took o server second s) e)
cut_by (Some c) server first second s e =
    ap (back server) (cut_node (rest_ears server) (rest_answer server) first second (apart server c s) (deafens server))
    ∙ sym (then_took server second (node_then server first (apart server c s)) (blank_stays server first c s e))

pub taken_cut : (server : ℕ) (first second : List ℕ) (s : BytesState)
    → taken server (first ++ second) s ≡ taken server second (taken server first s)
unfolding taken
taken_cut server first second s = cut_by (end_in server s) server first second s refl

pub messages_taken : (server : ℕ) (sent : List Sent) (c : ChannelState) (s : BytesState) → end_at server s.channels ≡ Some c
    → Arrive (rest_ears server) (rest_answer server) sent (apart server c s)
    → taken server (bytes_of sent) s ≡ heard_on server sent c s
unfolding taken
messages_taken server sent c s e arrive =
    ap (λ (o : Option ChannelState). took o server (bytes_of sent) s) e
    ∙ ap (back server) (all_heard (rest_ears server) (rest_answer server) sent (apart server c s) (deafens server) arrive)

-- ---- events

took_count : (o : Option ChannelState) (server : ℕ) (bytes : List ℕ) (s : BytesState) → length (took o server bytes s).hub.links ≡ length s.hub.links
took_count None server bytes s = refl
took_count (Some c) server bytes s =
    bytes_keep (rest_ears server) (rest_answer server) (λ (r : BytesState). length r.hub.links)
    (λ h core. heard_count server h core.hub) bytes (apart server c s)

taken_count : (server : ℕ) (bytes : List ℕ) (s : BytesState) → length (taken server bytes s).hub.links ≡ length s.hub.links
unfolding taken
taken_count server bytes s = took_count (end_in server s) server bytes s

cut_step : (b : Bool) (server : ℕ) (first second : List ℕ) (s : BytesState) → is_server server s.hub ≡ b
    → ended (taken server first s) ≡ taken server first s
    → stepped (event.Bytes server (first ++ second)) s ≡ stepped (event.Bytes server second) (stepped (event.Bytes server first) s)
cut_step true server first second s known still =
    let mid : BytesState = taken server first s in
    let there : is_server server mid.hub ≡ true = ap (λ n. nat_le 1 server && nat_le server n) (taken_count server first s) ∙ known in
    ap (λ b. cond b (ended (taken server (first ++ second) s)) s) known
    ∙ ap ended (taken_cut server first second s)
    ∙ sym (ap (λ b. cond b (ended (taken server second mid)) mid) there)
    ∙ sym (ap (λ (r : BytesState). stepped (event.Bytes server second) r)
    (ap (λ b. cond b (ended (taken server first s)) s) known ∙ still))
cut_step false server first second s known still =
    no_event (event.Bytes server (first ++ second)) s known
    ∙ sym (no_event (event.Bytes server second) s known)
    ∙ sym (ap (λ (r : BytesState). stepped (event.Bytes server second) r) (no_event (event.Bytes server first) s known))

pub events_cut : (server : ℕ) (first second : List ℕ) (s : BytesState) → ended (taken server first s) ≡ taken server first s
    → stepped (event.Bytes server (first ++ second)) s ≡ stepped (event.Bytes server second) (stepped (event.Bytes server first) s)
events_cut server first second s still = cut_step (is_server server s.hub) server first second s refl still
