-- Bytes that come for a connection: in pieces, none at all, and as messages.
use Rattle.std.proofs.Common.{◌≡◌, ℕ, List, [], ◌++◌, Option, Some, None, refl, sym, ap, ◌∙◌}
use Rattle.ua_channel.specs.State.{ChannelState, blank_end}
use Rattle.ua_channel.specs.Arriving.{Arrive, Sent, bytes_of}
use Rattle.ua_channel.specs.Node.{NodeState, node_after, node_of}
use Rattle.ua_channel.specs.Sharing.{Ends, end_at, put_back, taken_by}
use Rattle.ua_channel.proofs.Cutting.{cut_node}
use Rattle.ua_channel.proofs.Coming.{all_heard}
use Rattle.server_rules.specs.Said.{orders_of}
use Rattle.server_rules.specs.Step.{heard}
use Rattle.ua_server.specs.State.{BytesState}
use Rattle.ua_server.specs.Step.{apart, ends_of, heard_on, put_ends, rest_answer, rest_ears, taken}
use Rattle.ua_channel.proofs.OneEnd.{back_again, end_set, others_apart}
use Rattle.ua_server.proofs.Keeping.{bytes_keep}
use Rattle.ua_server.proofs.Deafening.{deafens}

abbrev end_in : ℕ → BytesState → Option ChannelState
end_in conn s = end_at conn s.channels

abbrev node_then : ℕ → List ℕ → NodeState BytesState → NodeState BytesState
node_then conn bytes n = node_after (rest_ears conn) (rest_answer conn) bytes n

abbrev back : ℕ → NodeState BytesState → BytesState
back conn n = put_back (rest_ears conn) (rest_answer conn) ends_of put_ends conn n

abbrev took : Option ChannelState → ℕ → List ℕ → BytesState → BytesState
took o conn bytes s = taken_by (rest_ears conn) (rest_answer conn) ends_of put_ends o conn bytes s

-- the blank end that stands in the place of one stays
blank_stays : (conn : ℕ) (bytes : List ℕ) (c : ChannelState) (s : BytesState) → end_in conn s ≡ Some c
    → end_in conn (node_then conn bytes (apart conn c s)).core ≡ Some blank_end
blank_stays conn bytes c s e =
    bytes_keep (rest_ears conn) (rest_answer conn) (end_in conn)
    (λ h core. others_apart conn (orders_of (heard conn h core.hub).said) core.channels) bytes (apart conn c s)
    ∙ end_set conn blank_end c s.channels e

-- taken out once more, what was put back is as it was
apart_back : (conn : ℕ) (n : NodeState BytesState) → end_in conn n.core ≡ Some blank_end → apart conn n.channel (back conn n) ≡ n
apart_back conn n e =
    ap (λ (ends : Ends). node_of (put_ends ends n.core) n.channel) (back_again conn blank_end n.channel n.core.channels e)

found_back : (conn : ℕ) (n : NodeState BytesState) → end_in conn n.core ≡ Some blank_end → end_in conn (back conn n) ≡ Some n.channel
found_back conn n e = end_set conn n.channel blank_end n.core.channels e

then_took : (conn : ℕ) (bytes : List ℕ) (n : NodeState BytesState) → end_in conn n.core ≡ Some blank_end
    → took (end_in conn (back conn n)) conn bytes (back conn n) ≡ back conn (node_then conn bytes n)
then_took conn bytes n e =
    ap (λ (o : Option ChannelState). took o conn bytes (back conn n)) (found_back conn n e)
    ∙ ap (λ (m : NodeState BytesState). back conn (node_then conn bytes m)) (apart_back conn n e)

cut_by : (o : Option ChannelState) (conn : ℕ) (first second : List ℕ) (s : BytesState) → end_in conn s ≡ o
    → took o conn (first ++ second) s ≡ took (end_in conn (took o conn first s)) conn second (took o conn first s)
cut_by None conn first second s e = sym (ap (λ (o : Option ChannelState). took o conn second s) e)
cut_by (Some c) conn first second s e =
    ap (back conn) (cut_node (rest_ears conn) (rest_answer conn) first second (apart conn c s) (deafens conn))
    ∙ sym (then_took conn second (node_then conn first (apart conn c s)) (blank_stays conn first c s e))

pub taken_cut : (conn : ℕ) (first second : List ℕ) (s : BytesState)
    → taken conn (first ++ second) s ≡ taken conn second (taken conn first s)
unfolding taken
taken_cut conn first second s = cut_by (end_in conn s) conn first second s refl

none_by : (o : Option ChannelState) (conn : ℕ) (s : BytesState) → end_in conn s ≡ o → took o conn [] s ≡ s
unfolding node_after
none_by None conn s e = refl
none_by (Some c) conn s e = ap (λ (ends : Ends). put_ends ends s) (back_again conn c blank_end s.channels e)

pub none_taken : (conn : ℕ) (s : BytesState) → taken conn [] s ≡ s
unfolding taken
none_taken conn s = none_by (end_in conn s) conn s refl

pub nobody_takes : (conn : ℕ) (bytes : List ℕ) (s : BytesState) → end_at conn s.channels ≡ None → taken conn bytes s ≡ s
unfolding taken
nobody_takes conn bytes s e = ap (λ (o : Option ChannelState). took o conn bytes s) e

pub messages_taken : (conn : ℕ) (sent : List Sent) (c : ChannelState) (s : BytesState) → end_at conn s.channels ≡ Some c
    → Arrive (rest_ears conn) (rest_answer conn) sent (apart conn c s)
    → taken conn (bytes_of sent) s ≡ heard_on conn sent c s
unfolding taken
messages_taken conn sent c s e arrive =
    ap (λ (o : Option ChannelState). took o conn (bytes_of sent) s) e
    ∙ ap (back conn) (all_heard (rest_ears conn) (rest_answer conn) sent (apart conn c s) (deafens conn) arrive)
