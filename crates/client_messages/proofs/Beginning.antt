-- A client that begins.
use Rattle.std.proofs.Common.{◌≡◌, ℕ, zero, suc, ◌+◌, ◌-◌, ◌==◌, Bool, true, false, cond, nat_lt, [], ◌∷◌, is_some, Option, Some, None, replicate, slice_index_or, refl, sym, ap, subst, ◌∙◌, arith}
use Rattle.std.proofs.lemmas.Bool.Decides.{nat_tests}
use Rattle.std.specs.Cmp.{unsigned_tied}
use Rattle.std.specs.Ordering.{match_ordering, nat_cmp}
use Rattle.std.specs.BTreeMap.{insert_entry, is_at}
use Rattle.ua_chunks.specs.Sending.{IsSending}
use Rattle.ua_channel.specs.declared.side.Side.TheVariants as sides
use Rattle.ua_channel.specs.State.{ChannelState, first_sending, new_channel}
use Rattle.ua_channel.specs.Sharing.{Ends, end_at}
use Rattle.link_rules.specs.State.{LinkState, new_link}
use Rattle.client_rules.specs.declared.config.ClientConfig.{ClientConfig}
use Rattle.client_rules.specs.State.{idle_client, link_config, link_of, servers_of}
use Rattle.client_rules.specs.Step.{new_client}
use Rattle.client_keeps.specs.Fitting.{FitsConfig}
use Rattle.client_keeps.proofs.Rules.{new_fits}
use Rattle.ua_client.specs.State.{first_ends, new_bytes}
use Rattle.message_ends.specs.Ends.{new_end, out_by}
use Rattle.message_ends.specs.Showing.{AllBring, EndShows, LimitIn, ShowsEnd}
use Rattle.client_messages.specs.Messages as messages
use Rattle.client_messages.specs.Showing.{Brings, KnowsLimit, Limits, Stands}
use Rattle.client_messages.proofs.Dialling.{dialled_knows}
use Rattle.client_messages.proofs.Shutting.{is_among, last_among, more_among, next_among, none_among, same_number}

-- ---- an end that is put in

abbrev placed : ℕ → ℕ → ChannelState → Option ChannelState → Option ChannelState
placed k number c found = cond (k == number) (Some c) found

here_by : (b : Bool) (k number : ℕ) (c d : ChannelState) (es : Ends) → (k == number) ≡ b
    → end_at k ((number, c) ∷ es) ≡ placed k number c (end_at k ((number, d) ∷ es))
here_by true k number c d es e =
    ap (λ b. cond b (Some c) (end_at k es)) (unsigned_tied k number ∙ e)
    ∙ sym (ap (λ b. cond b (Some c) (end_at k ((number, d) ∷ es))) e)
here_by false k number c d es e =
    ap (λ b. cond b (Some c) (end_at k es)) (unsigned_tied k number ∙ e)
    ∙ sym (ap (λ b. cond b (Some d) (end_at k es)) (unsigned_tied k number ∙ e))
    ∙ sym (ap (λ b. cond b (Some c) (end_at k ((number, d) ∷ es))) e)

apart_numbers : (k number other : ℕ) → (k == number) ≡ true → (number == other) ≡ false → (k == other) ≡ false
apart_numbers k number other same differ = grind (arith, nat_tests)

past_by : (b : Bool) (k number : ℕ) (c : ChannelState) (e : ℕ × ChannelState) (found : Option ChannelState) → (k == number) ≡ b
    → (number == e.0) ≡ false
    → cond (is_at (nat_cmp k) e.0) (Some e.1) (placed k number c found) ≡ placed k number c (cond (is_at (nat_cmp k) e.0) (Some e.1) found)
past_by true k number c e found same differ =
    ap (λ b. cond b (Some e.1) (placed k number c found)) (unsigned_tied k e.0 ∙ apart_numbers k number e.0 same differ)
    ∙ ap (λ b. cond b (Some c) found) same
    ∙ sym (ap (λ b. cond b (Some c) (cond (is_at (nat_cmp k) e.0) (Some e.1) found)) same)
past_by false k number c e found same differ =
    ap (λ b. cond (is_at (nat_cmp k) e.0) (Some e.1) (cond b (Some c) found)) same
    ∙ sym (ap (λ b. cond b (Some c) (cond (is_at (nat_cmp k) e.0) (Some e.1) found)) same)

abbrev ordered : ℕ → ChannelState → ℕ × ChannelState → Ends → Ends → Ends
ordered number c e es more = match_ordering (nat_cmp number e.0) ((number, c) ∷ e ∷ es) ((e.0, c) ∷ es) (e ∷ more)

goes_before : (number other : ℕ) (one two three : Ends) → nat_lt number other ≡ true → match_ordering (nat_cmp number other) one two three ≡ one
goes_before number other one two three low = rw (low) refl

goes_there : (number other : ℕ) (one two three : Ends) → nat_lt number other ≡ false → (number == other) ≡ true
    → match_ordering (nat_cmp number other) one two three ≡ two
goes_there number other one two three low is = rw (low, is) refl

goes_behind : (number other : ℕ) (one two three : Ends) → nat_lt number other ≡ false → (number == other) ≡ false
    → match_ordering (nat_cmp number other) one two three ≡ three
goes_behind number other one two three low is = rw (low, is) refl

insert_by : (lower same : Bool) (k number : ℕ) (c : ChannelState) (e : ℕ × ChannelState) (es more : Ends) → nat_lt number e.0 ≡ lower
    → (number == e.0) ≡ same → end_at k more ≡ placed k number c (end_at k es)
    → end_at k (ordered number c e es more) ≡ placed k number c (end_at k (e ∷ es))
insert_by true same k number c e es more low is before =
    ap (end_at k) (goes_before number e.0 ((number, c) ∷ e ∷ es) ((e.0, c) ∷ es) (e ∷ more) low)
    ∙ ap (λ b. cond b (Some c) (end_at k (e ∷ es))) (unsigned_tied k number)
insert_by false true k number c e es more low is before =
    ap (end_at k) (goes_there number e.0 ((number, c) ∷ e ∷ es) ((e.0, c) ∷ es) (e ∷ more) low is)
    ∙ subst (λ n. end_at k ((e.0, c) ∷ es) ≡ placed k n c (end_at k (e ∷ es))) (sym (same_number number e.0 is))
    (here_by (k == e.0) k e.0 c e.1 es refl)
insert_by false false k number c e es more low is before =
    ap (end_at k) (goes_behind number e.0 ((number, c) ∷ e ∷ es) ((e.0, c) ∷ es) (e ∷ more) low is)
    ∙ ap (λ (o : Option ChannelState). cond (is_at (nat_cmp k) e.0) (Some e.1) o) before
    ∙ past_by (k == number) k number c e (end_at k es) refl is

inserted : (k number : ℕ) (c : ChannelState) (es : Ends) → end_at k (insert_entry nat_cmp es number c) ≡ placed k number c (end_at k es)
inserted k number c [] = ap (λ b. cond b (Some c) None) (unsigned_tied k number)
inserted k number c (e ∷ es) =
    insert_by (nat_lt number e.0) (number == e.0) k number c e es (insert_entry nat_cmp es number c) refl refl (inserted k number c es)

-- ---- the first ends

abbrev blank : ChannelState
blank = new_channel sides.Client

abbrev first_at : ℕ → ℕ → Option ChannelState
first_at k count = cond (is_among k count) (Some blank) None

placed_by : (b : Bool) (k count : ℕ) → (k == count + 1) ≡ b → placed k (count + 1) blank (first_at k count) ≡ first_at k (suc count)
placed_by true k count e =
    ap (λ b. cond b (Some blank) (first_at k count)) e
    ∙ subst (λ n. Some blank ≡ first_at n (suc count)) (sym (same_number k (count + 1) e)) (ap (λ b. cond b (Some blank) None) (sym (last_among count)))
placed_by false k count e =
    ap (λ b. cond b (Some blank) (first_at k count)) e ∙ ap (λ b. cond b (Some blank) None) (sym (more_among k count e))

pub first_found : (count k : ℕ) → end_at k (first_ends count) ≡ first_at k count
unfolding first_ends
first_found zero k = ap (λ b. cond b (Some blank) None) (sym (none_among k))
first_found (suc count) k =
    let none : end_at (count + 1) (first_ends count) ≡ None = first_found count (count + 1) ∙ ap (λ b. cond b (Some blank) None) (next_among count) in
    ap (λ (found : Option ChannelState). end_at k (cond (is_some found) (first_ends count) (insert_entry nat_cmp (first_ends count) (count + 1) blank))) none
    ∙ inserted k (count + 1) blank (first_ends count)
    ∙ ap (placed k (count + 1) blank) (first_found count k)
    ∙ placed_by (k == count + 1) k count refl

-- ---- shown

first_sends : IsSending first_sending
first_sends = record { channel = omega arith; token = omega arith; least = omega arith; most = omega arith; next = omega arith }

pub new_shows : EndShows 1 blank new_end
new_shows = record { tokens = refl; sending = first_sends; sent = []; wires = refl; bytes = refl; chain = refl }

first_shows : (b : Bool) → ShowsEnd 1 (cond b (Some blank) None) (cond b (Some new_end) None)
first_shows true = new_shows
first_shows false = tt

first_brings : (b : Bool) → AllBring Brings (out_by (cond b (Some new_end) None))
first_brings true = tt
first_brings false = tt

-- ---- limits

same_at : (count place : ℕ) (l : LinkState) → slice_index_or (replicate count l) place l ≡ l
same_at zero place l = refl
same_at (suc count) zero l = refl
same_at (suc count) (suc place) l = same_at count place l

new_knows : (limit : ℕ) (config : ClientConfig) → KnowsLimit (new_link (link_config config)) limit
new_knows limit config = λ stands. absurd cc

idle_knows : (limit number : ℕ) (config : ClientConfig) → KnowsLimit (link_of number (idle_client config)) limit
idle_knows limit number config =
    subst (λ (l : LinkState). KnowsLimit l limit) (sym (same_at (servers_of config) (number - 1) (new_link (link_config config)))) (new_knows limit config)

first_limits : (number : ℕ) (config : ClientConfig) (end : Option ChannelState) → LimitIn Limits end number (new_client config)
first_limits number config None = tt
first_limits number config (Some c) = λ is. dialled_knows _ number (idle_client config) (idle_knows _ number config)

pub begins : (config : ClientConfig) → FitsConfig config → Stands (λ server. 1) (new_bytes config) (messages.new_talk config)
begins config fits = record {
  shows = record {
    hub = refl;
    ends = λ k. subst (λ (x : Option ChannelState). ShowsEnd 1 x (messages.first_ends (servers_of config) k)) (sym (first_found (servers_of config) k))
        (first_shows (is_among k (servers_of config)));
  };
  keeps = new_fits config fits;
  limits = λ k. first_limits k config (end_at k (first_ends (servers_of config)));
  brings = λ k. first_brings (is_among k (servers_of config));
}
