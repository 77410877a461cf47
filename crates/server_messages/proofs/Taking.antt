-- Bytes that come on a connection leave what other ends await; and bytes that are taken.
use Rattle.std.proofs.Common.{◌≡◌, ◌≢◌, ℕ, ◌==◌, Bool, true, false, cond, ◌&&◌, is_some, List, [], ◌∷◌, Option, Some, None, refl, sym, ap, subst, ◌∙◌}
use Rattle.std.specs.Ordering.{nat_cmp}
use Rattle.std.specs.BTreeMap.{is_at}
use Rattle.std.specs.Map.{keys_of, set_value}
use Rattle.ua_channel.specs.declared.heard.Heard.{Heard}
use Rattle.ua_channel.specs.State.{ChannelState, blank_end, is_deaf}
use Rattle.ua_channel.specs.Arriving.{Chain}
use Rattle.ua_channel.specs.Node.{NodeState, node_after}
use Rattle.ua_channel.specs.Sharing.{Ends, emptied_by, end_at, out_by as bytes_out_by, taken_by}
use Rattle.message_ends.specs.Ends.{MessageEnd, out_by}
use Rattle.message_ends.specs.Talk.{Talk, out_of, without_out}
use Rattle.message_ends.specs.Showing.{AllBring, ExpectsIn, ShowsEnd, firsts_with, next_in}
use Rattle.message_ends.proofs.Lookups.{end_apart, other_way, others_obeyed}
use Rattle.message_ends.proofs.Ordering.{expects_emptied, expects_in, taken as emptied}
use Rattle.server_rules.specs.State.{ServerState}
use Rattle.server_rules.specs.Said.{orders_of}
use Rattle.server_rules.specs.Step.{ears, heard}
use Rattle.server_keeps.specs.Fitting.{FitsServer}
use Rattle.server_keeps.specs.Lawful.{HasLimit}
use Rattle.ua_server.specs.State.{BytesState, is_closing as bytes_is_closing, out_of as bytes_out_of, without_out as bytes_without_out}
use Rattle.ua_server.specs.Step.{apart, ends_of, put_ends, rest_answer, rest_ears, taken}
use Rattle.server_ends.specs.Matching.{Matches}
use Rattle.ua_channel.specs.Sharing.{own}
use Rattle.server_messages.specs.Fitting.{Brings}
use Rattle.server_messages.specs.Showing.{ArePut, ServerStands}
use Rattle.server_messages.specs.Messages.{is_closing}
use Rattle.server_messages.proofs.Events.{both_there, is_other}
use Rattle.server_messages.proofs.Holding.{bytes_hold}

-- ---- what other ends await

answers_leave : (conn k next : ℕ) (h : Heard) (core : BytesState) → (k == conn) ≡ false → ExpectsIn next (end_at k core.channels)
    → ExpectsIn next (end_at k (rest_answer conn h core).0.channels)
answers_leave conn k next h core differ x =
    let orders = orders_of (heard conn h core.hub).said in
    subst (ExpectsIn next) (sym (others_obeyed conn k orders core.channels differ)) (expects_in (own k orders) next (end_at k core.channels) x)

taken_leaves : (found : Option ChannelState) (conn k next : ℕ) (bytes : List ℕ) (r : BytesState) → (k == conn) ≡ false
    → ExpectsIn next (end_at k r.channels)
    → ExpectsIn next (end_at k (taken_by (rest_ears conn) (rest_answer conn) ends_of put_ends found conn bytes r).channels)
taken_leaves None conn k next bytes r differ x = x
taken_leaves (Some c) conn k next bytes r differ x =
    let before : NodeState BytesState = apart conn c r in
    let now : NodeState BytesState = node_after (rest_ears conn) (rest_answer conn) bytes before in
    let first : ExpectsIn next (end_at k before.core.channels) =
    subst (ExpectsIn next) (sym (end_apart k conn blank_end r.channels (other_way k conn differ))) x in
    subst (ExpectsIn next) (sym (end_apart k conn now.channel now.core.channels (other_way k conn differ)))
    (bytes_hold (rest_ears conn) (rest_answer conn) (λ (core : BytesState). ExpectsIn next (end_at k core.channels))
    (λ h core. answers_leave conn k next h core differ) bytes before first)

pub bytes_other : (conn other next : ℕ) (bytes : List ℕ) (r : BytesState) → other ≢ conn → ExpectsIn next (end_at other r.channels)
    → ExpectsIn next (end_at other (taken conn bytes r).channels)
unfolding taken
bytes_other conn other next bytes r differ x = taken_leaves (end_at conn r.channels) conn other next bytes r (is_other other conn differ) x

pub emptied_other : (conn other next : ℕ) (r : BytesState) → ExpectsIn next (end_at other r.channels)
    → ExpectsIn next (end_at other (bytes_without_out conn r).channels)
emptied_other conn other next r x = expects_emptied conn other next r.channels x

-- ---- bytes that are taken

set_by : (b : Bool) (e : ℕ × ChannelState) (w : ChannelState) (es rest : Ends) → keys_of rest ≡ keys_of es
    → keys_of (cond b ((e.0, w) ∷ es) (e ∷ rest)) ≡ e.0 ∷ keys_of es
set_by true e w es rest h = refl
set_by false e w es rest h = ap (λ l. e.0 ∷ l) h

set_keys : (test : ℕ → Bool) (es : Ends) (w : ChannelState) → keys_of (set_value test es w) ≡ keys_of es
set_keys test [] w = refl
set_keys test (e ∷ es) w = set_by (test e.0) e w es (set_value test es w) (set_keys test es w)

emptied_keys : (found : Option ChannelState) (conn : ℕ) (ends : Ends) → keys_of (emptied_by found conn ends) ≡ keys_of ends
emptied_keys None conn ends = refl
emptied_keys (Some c) conn ends = set_keys (is_at (nat_cmp conn)) ends (record c { out = [] })

emptied_matches : (conn : ℕ) (r : BytesState) → Matches r → Matches (bytes_without_out conn r)
emptied_matches conn r m = record { same = emptied_keys (end_at conn r.channels) conn r.channels ∙ m.same; rise = m.rise }

pub shows_taken : (firsts : ℕ → ℕ) (conn : ℕ) (r : BytesState) (t : Talk ServerState) → ServerStands firsts r t
    → ServerStands (firsts_with conn (next_in (end_at conn r.channels)) firsts) (bytes_without_out conn r) (without_out conn t)
shows_taken firsts conn r t s = record {
  stands = emptied FitsServer HasLimit Brings firsts conn r t s.stands;
  matches = emptied_matches conn r s.matches;
}

-- ---- bytes that were put

end_puts : (first : ℕ) (c : ChannelState) (end : Option ChannelState) (e : Option MessageEnd) → end ≡ Some c → ShowsEnd first end e
    → AllBring Brings (out_by e) → ArePut first c.sending.next (bytes_out_by end) (out_by e)
end_puts first c None e is s all = absurd cc
end_puts first c (Some d) None is s all = absurd s
end_puts first c (Some d) (Some e) is s all =
    let same : d ≡ c = cc in
    record {
      sent = s.sent;
      wires_are = s.wires;
      bytes_are = s.bytes;
      chain = subst (λ (x : ChannelState). Chain first s.sent x.sending.next) same s.chain;
      brings = all;
    }

pub was_put : (firsts : ℕ → ℕ) (conn : ℕ) (c : ChannelState) (r : BytesState) (t : Talk ServerState) → end_at conn r.channels ≡ Some c
    → ServerStands firsts r t → ArePut (firsts conn) c.sending.next (bytes_out_of conn r) (out_of conn t)
was_put firsts conn c r t is s =
    end_puts (firsts conn) c (end_at conn r.channels) (t.ends conn) is (s.stands.shows.ends conn) (s.stands.brings conn)

-- ---- what is to be closed

pub same_closing : (firsts : ℕ → ℕ) (conn : ℕ) (r : BytesState) (t : Talk ServerState) → ServerStands firsts r t
    → bytes_is_closing conn r ≡ is_closing conn t
same_closing firsts conn r t s =
    ap (λ b. b && is_deaf (ears conn r.hub)) (both_there (firsts conn) (end_at conn r.channels) (t.ends conn) (s.stands.shows.ends conn))
    ∙ ap (λ (hub : ServerState). is_some (t.ends conn) && is_deaf (ears conn hub)) s.stands.shows.hub
