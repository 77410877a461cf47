-- Two events of bytes are one, where nothing is left to be done at the end of the event before them.
use Rattle.std.proofs.Common.{◌≡◌, ℕ, zero, suc, ◌+◌, ◌&&◌, ◌++◌, Bool, true, false, cond, nat_le, List, length, Option, Some, None, refl, sym, ap, ap₂, subst, ◌∙◌}
use Rattle.ua_channel.specs.declared.heard.Heard.{Heard}
use Rattle.ua_channel.specs.declared.wire.Order.{Order}
use Rattle.ua_channel.specs.State.{ChannelState, is_deaf, blank_end, shut}
use Rattle.ua_channel.specs.Node.{NodeState, node_after}
use Rattle.ua_channel.specs.Sharing.{Ends, end_at, others, put_back, shut_by, taken_by, with_end}
use Rattle.ua_channel.proofs.Cutting.{deaf_after}
use Rattle.client_rules.specs.State.{ClientState, is_server}
use Rattle.client_rules.specs.Dialling.{dialled}
use Rattle.client_rules.specs.Step.{ears, heard}
use Rattle.ua_client.specs.declared.event.ClientEvent.{ClientEvent}
use Rattle.ua_client.specs.declared.event.ClientEvent.TheVariants as event
use Rattle.ua_client.specs.State.{BytesState}
use Rattle.ua_client.specs.Step.{apart, ended, ends_of, happened, put_ends, is_of_client, rest_answer, rest_ears, shut_among, shut_at, stepped, taken}
use Rattle.ua_channel.proofs.OneEnd.{back_again}
use Rattle.ua_client.proofs.Strangers.{no_event}
use Rattle.ua_client.proofs.Taking.{taken_cut}
use Rattle.client_cuts.proofs.Alike.{Alike, bytes_alike}
use Rattle.client_cuts.proofs.Dialling.{are_dialled, deaf_before, deaf_stays, dialled_still, dialled_twice}
use Rattle.client_cuts.proofs.Ends.{Implies, all_fewer, all_found, all_more, all_others, all_set, at, changed_by, changed_is, shut_all, shut_if}
use Rattle.client_cuts.proofs.Following.{Follows, ears_follow, follows_same, follows_then, heard_follows}
use Rattle.client_cuts.proofs.Holding.{bytes_hold}

abbrev end_in : ℕ → BytesState → Option ChannelState
end_in server s = end_at server s.channels

abbrev node_then : ℕ → List ℕ → NodeState BytesState → NodeState BytesState
node_then server bytes n = node_after (rest_ears server) (rest_answer server) bytes n

abbrev back : ℕ → NodeState BytesState → BytesState
back server n = put_back (rest_ears server) (rest_answer server) ends_of put_ends server n

abbrev took : Option ChannelState → ℕ → List ℕ → BytesState → BytesState
took o server bytes s = taken_by (rest_ears server) (rest_answer server) ends_of put_ends o server bytes s

-- ---- the end of an event

abbrev pub deaf_ears : ClientState → ℕ → Bool
deaf_ears c i = is_deaf (ears i c)

-- with the ends shut of which nothing is heard
abbrev pub shut_for : ClientState → Ends → Ends
shut_for c ends = shut_all (deaf_ears c) (length c.links) ends

abbrev pub both : ClientState → Ends → BytesState
both hub ends = record { hub = hub; channels = ends }

-- what counts of a client over bytes
abbrev pub part : BytesState → BytesState
part s = both s.hub (shut_for s.hub s.channels)

shut_as : (o : Option ChannelState) (server : ℕ) (ends : Ends) → shut_by o server ends ≡ changed_by o (at server) shut ends
shut_as None server ends = refl
shut_as (Some c) server ends = refl

shut_at_is : (server : ℕ) (c : ClientState) (ends : Ends) → shut_at server c ends ≡ shut_if (deaf_ears c server) server ends
shut_at_is server c ends =
    ap (λ (l : Ends). cond (is_deaf (ears server c)) l ends)
    (shut_as (end_at server ends) server ends ∙ changed_is (at server) shut ends)

among_is : (count : ℕ) (c : ClientState) (ends : Ends) → shut_among count c ends ≡ shut_all (deaf_ears c) count ends
unfolding shut_among
among_is zero c ends = refl
among_is (suc count) c ends =
    shut_at_is (count + 1) c (shut_among count c ends)
    ∙ ap (shut_if (deaf_ears c (count + 1)) (count + 1)) (among_is count c ends)

pub ended_is : (s : BytesState) → ended s ≡ both (dialled s.hub) (shut_for s.hub s.channels)
ended_is s = ap (both (dialled s.hub)) (among_is (length s.hub.links) s.hub s.channels)

ended_part : (s : BytesState) → ended (part s) ≡ ended s
ended_part s =
    ended_is (part s)
    ∙ ap (both (dialled s.hub)) (all_more (deaf_ears s.hub) (deaf_ears s.hub) (length s.hub.links) s.channels (λ i e. e))
    ∙ sym (ended_is s)

-- an event ends once
pub ended_twice : (s : BytesState) → ended (ended s) ≡ ended s
ended_twice s =
    let next : ClientState = dialled s.hub in
    ap ended (ended_is s)
    ∙ ended_is (both next (shut_for s.hub s.channels))
    ∙ ap₂ both (dialled_twice s.hub)
    (ap (λ n. shut_all (deaf_ears next) n (shut_for s.hub s.channels)) (are_dialled s.hub).count
    ∙ all_fewer (deaf_ears s.hub) (deaf_ears next) (length s.hub.links) s.channels (λ i. deaf_before i s.hub))
    ∙ sym (ended_is s)

-- ---- what is heard

moved_same : (d e : ℕ → Bool) (count conn : ℕ) (orders : List (ℕ × Order)) (ends other : Ends) → Implies d e
    → shut_all d count ends ≡ shut_all d count other
    → shut_all e count (others conn orders ends) ≡ shut_all e count (others conn orders other)
moved_same d e count conn orders ends other implies same =
    sym (all_more d e count (others conn orders ends) implies)
    ∙ ap (shut_all e count)
    (sym (all_others d count conn orders ends) ∙ ap (λ (l : Ends). shut_all d count (others conn orders l)) same
    ∙ all_others d count conn orders other)
    ∙ all_more d e count (others conn orders other) implies

answer_same : (server : ℕ) (h : Heard) (c : ClientState) (ends other : Ends) → shut_for c ends ≡ shut_for c other
    → shut_for (heard server h c).client (others server (heard server h c).orders ends)
    ≡ shut_for (heard server h c).client (others server (heard server h c).orders other)
answer_same server h c ends other same =
    let next : ClientState = (heard server h c).client in
    let follows : Follows c next = heard_follows server h c in
    subst (λ n. shut_all (deaf_ears next) n (others server (heard server h c).orders ends)
    ≡ shut_all (deaf_ears next) n (others server (heard server h c).orders other)) (sym follows.count)
    (moved_same (deaf_ears c) (deaf_ears next) (length c.links) server (heard server h c).orders ends other
    (λ i. ears_follow i c next follows) same)

same_part : (server : ℕ) (h : Heard) (c d : BytesState) → part c ≡ part d
    → part (rest_answer server h c).0 ≡ part (rest_answer server h d).0
same_part server h c d e =
    subst (λ (hub : ClientState). shut_for c.hub c.channels ≡ shut_for hub d.channels
    → part (rest_answer server h c).0 ≡ part (rest_answer server h (both hub d.channels)).0) (ap (λ (r : BytesState). r.hub) e)
    (λ same. ap (both (heard server h c.hub).client) (answer_same server h c.hub c.channels d.channels same))
    (ap (λ (r : BytesState). r.channels) e)

-- ---- bytes of a server that is heard

ended_back : (server : ℕ) (n : NodeState BytesState)
    → ended (back server n) ≡ both (dialled n.core.hub) (shut_for n.core.hub (with_end server n.channel (shut_for n.core.hub n.core.channels)))
ended_back server n =
    ended_is (back server n)
    ∙ ap (both (dialled n.core.hub))
    (sym (all_set (deaf_ears n.core.hub) (length n.core.hub.links) server n.channel n.core.channels))

back_same : (server : ℕ) (n k : NodeState BytesState) → Alike part n k → ended (back server n) ≡ ended (back server k)
back_same server n k alike =
    ended_back server n
    ∙ ap₂ (λ (q : BytesState) (c : ChannelState). both (dialled q.hub) (shut_for q.hub (with_end server c q.channels))) alike.core alike.channel
    ∙ sym (ended_back server k)

took_same : (o : Option ChannelState) (server : ℕ) (bytes : List ℕ) (s : BytesState)
    → ended (took o server bytes s) ≡ ended (took o server bytes (part s))
took_same None server bytes s = sym (ended_part s)
took_same (Some c) server bytes s =
    back_same server (node_then server bytes (apart server c s)) (node_then server bytes (apart server c (part s)))
    (bytes_alike (rest_ears server) (rest_answer server) part
    (λ c d e. ap (λ (r : BytesState). ears server r.hub) e)
    (λ h c d e. ap (λ (r : BytesState). (rest_answer server h r).1) e)
    (λ h c d e. same_part server h c d e)
    bytes (apart server c s) (apart server c (part s))
    (record {
      core = ap (both s.hub) (sym (all_set (deaf_ears s.hub) (length s.hub.links) server blank_end s.channels));
      channel = refl;
    }))

-- it doesn't matter whether the ends of others were shut before
taken_same : (server : ℕ) (bytes : List ℕ) (s : BytesState) → is_deaf (ears server s.hub) ≡ false
    → ended (taken server bytes s) ≡ ended (taken server bytes (part s))
unfolding taken
taken_same server bytes s hears =
    took_same (end_in server s) server bytes s
    ∙ ap (λ (o : Option ChannelState). ended (took o server bytes (part s)))
    (sym (all_found (deaf_ears s.hub) (length s.hub.links) server s.channels hears))

-- ---- bytes of a server that is deaf

took_nothing : (o : Option ChannelState) (server : ℕ) (bytes : List ℕ) (s : BytesState) → end_in server s ≡ o
    → is_deaf (ears server s.hub) ≡ true → took o server bytes s ≡ s
took_nothing None server bytes s e deaf = refl
took_nothing (Some c) server bytes s e deaf =
    ap (back server) (deaf_after (rest_ears server) (rest_answer server) bytes (apart server c s) deaf)
    ∙ ap (both s.hub) (back_again server c blank_end s.channels e)

taken_nothing : (server : ℕ) (bytes : List ℕ) (s : BytesState) → is_deaf (ears server s.hub) ≡ true → taken server bytes s ≡ s
unfolding taken
taken_nothing server bytes s deaf = took_nothing (end_in server s) server bytes s refl deaf

-- ---- what becomes of the links

took_follows : (o : Option ChannelState) (server : ℕ) (bytes : List ℕ) (s : BytesState) → Follows s.hub (took o server bytes s).hub
took_follows None server bytes s = follows_same s.hub
took_follows (Some c) server bytes s =
    bytes_hold (rest_ears server) (rest_answer server) (λ (r : BytesState). Follows s.hub r.hub)
    (λ h core follows. follows_then s.hub core.hub (heard server h core.hub).client follows (heard_follows server h core.hub))
    bytes (apart server c s) (follows_same s.hub)

pub taken_follows : (server : ℕ) (bytes : List ℕ) (s : BytesState) → Follows s.hub (taken server bytes s).hub
unfolding taken
taken_follows server bytes s = took_follows (end_in server s) server bytes s

-- ---- two events

end_between : (d : Bool) (server : ℕ) (second : List ℕ) (s m : BytesState) → is_deaf (ears server m.hub) ≡ d → dialled s.hub ≡ s.hub
    → Follows s.hub m.hub → is_deaf (ears server s.hub) ≡ false
    → ended (taken server second m) ≡ ended (taken server second (ended m))
end_between true server second s m deaf at_rest follows heard_before =
    ap ended (taken_nothing server second m deaf)
    ∙ sym (ended_twice m)
    ∙ ap ended (sym (taken_nothing server second (ended m) (deaf_stays server s.hub m.hub follows heard_before deaf)))
end_between false server second s m hears at_rest follows heard_before =
    let still : dialled m.hub ≡ m.hub = dialled_still server s.hub m.hub follows at_rest hears in
    taken_same server second m hears
    ∙ ap (λ (r : BytesState). ended (taken server second r))
    (sym (ended_is m ∙ ap (λ (hub : ClientState). both hub (shut_for m.hub m.channels)) still))

between : (b : Bool) (server : ℕ) (first second : List ℕ) (s : BytesState) → is_deaf (ears server s.hub) ≡ b → ended s ≡ s
    → ended (taken server second (taken server first s)) ≡ ended (taken server second (ended (taken server first s)))
between true server first second s deaf at_rest =
    let same : taken server first s ≡ s = taken_nothing server first s deaf in
    ap (λ (r : BytesState). ended (taken server second r)) (same ∙ sym at_rest ∙ ap ended (sym same))
between false server first second s hears at_rest =
    end_between (is_deaf (ears server (taken server first s).hub)) server second s (taken server first s) refl
    (ap (λ (r : BytesState). r.hub) at_rest) (taken_follows server first s) hears

cut_step : (b : Bool) (server : ℕ) (first second : List ℕ) (s : BytesState) → is_server server s.hub ≡ b → ended s ≡ s
    → stepped (event.Bytes server (first ++ second)) s ≡ stepped (event.Bytes server second) (stepped (event.Bytes server first) s)
cut_step true server first second s known at_rest =
    let mid : BytesState = ended (taken server first s) in
    let count : length mid.hub.links ≡ length s.hub.links =
    (are_dialled (taken server first s).hub).count ∙ (taken_follows server first s).count in
    let there : is_server server mid.hub ≡ true = ap (λ n. nat_le 1 server && nat_le server n) count ∙ known in
    ap (λ b. cond b (ended (taken server (first ++ second) s)) s) known
    ∙ ap ended (taken_cut server first second s)
    ∙ between (is_deaf (ears server s.hub)) server first second s refl at_rest
    ∙ sym (ap (λ b. cond b (ended (taken server second mid)) mid) there)
    ∙ sym (ap (λ (r : BytesState). stepped (event.Bytes server second) r) (ap (λ b. cond b (ended (taken server first s)) s) known))
cut_step false server first second s known at_rest =
    no_event (event.Bytes server (first ++ second)) s known
    ∙ sym (no_event (event.Bytes server second) s known)
    ∙ sym (ap (λ (r : BytesState). stepped (event.Bytes server second) r) (no_event (event.Bytes server first) s known))

pub events_cut : (server : ℕ) (first second : List ℕ) (s : BytesState) → ended s ≡ s
    → stepped (event.Bytes server (first ++ second)) s ≡ stepped (event.Bytes server second) (stepped (event.Bytes server first) s)
events_cut server first second s at_rest = cut_step (is_server server s.hub) server first second s refl at_rest

-- ---- what each event leaves

step_by : (b : Bool) (e : ClientEvent) (s : BytesState) → ended s ≡ s
    → ended (cond b (ended (happened e s)) s) ≡ cond b (ended (happened e s)) s
step_by true e s at_rest = ended_twice (happened e s)
step_by false e s at_rest = at_rest

pub step_rests : (e : ClientEvent) (s : BytesState) → ended s ≡ s → ended (stepped e s) ≡ stepped e s
step_rests e s at_rest = step_by (is_of_client e s.hub) e s at_rest
