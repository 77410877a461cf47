-- Each event leaves an end for each connection.
use Rattle.std.proofs.Common.{◌≡◌, ℕ, ◌==◌, ◌<◌, ◌≤◌, List, [], ◌∷◌, ◌++◌, Bool, true, false, cond, not, nat_lt, map, filter, is_some, Option, Some, None, refl, sym, ap, ◌∙◌, subst, arith}
use Rattle.std.proofs.lemmas.Bool.Decides.{nat_tests}
use Rattle.std.specs.Cmp.{unsigned_tied}
use Rattle.std.specs.Ordering.{match_ordering, nat_cmp}
use Rattle.std.specs.BTreeMap.{insert_entry, is_at}
use Rattle.std.specs.Map.{keys_of, remove_entry, set_value}
use Rattle.set_model.specs.declared.source.Change.{Change}
use Rattle.ua_channel.specs.declared.wire.Order.{Order}
use Rattle.ua_channel.specs.declared.side.Side.TheVariants as sides
use Rattle.ua_channel.specs.State.{ChannelState, blank_end, new_channel}
use Rattle.ua_channel.specs.Node.{NodeState, node_after}
use Rattle.ua_channel.specs.Sharing.{Ends, end_at, obeyed_at, obeyed_by, obeyed_each, others, taken_by}
use Rattle.server_rules.specs.declared.config.ServerConfig.{ServerConfig}
use Rattle.server_rules.specs.declared.conn.Conn.{Conn}
use Rattle.server_rules.specs.State.{ServerState, conn_at, is_conn}
use Rattle.server_rules.specs.Said.{orders_of}
use Rattle.server_rules.specs.Connecting.{is_above}
use Rattle.server_rules.specs.Step.{Closes, Feeds, Happening, Hears, Levels, Opens, Ticks, after, heard}
use Rattle.server_laws.specs.Numbers.{AreAbove, RiseTo, conn_numbers, highest_after, numbers_after}
use Rattle.ua_server.specs.declared.event.ServerEvent.{ServerEvent}
use Rattle.ua_server.specs.declared.event.ServerEvent.TheVariants as event_as
use Rattle.ua_server.specs.State.{BytesState, new_bytes}
use Rattle.ua_server.specs.Step.{apart, end_closed, end_opened, ends_of, put_ends, rest_answer, rest_ears, stepped, taken, with_ends}
use Rattle.ua_server.proofs.Keeping.{bytes_keep}
use Rattle.server_ends.specs.Matching.{Matches, bytes_after, end_numbers}

-- what the laws of the server say of its connections
pub record Knows : Type 0 where
  pub numbers : (happening : Happening) (s : ServerState) → conn_numbers (after happening s).state ≡ numbers_after happening s
  pub highest : (happening : Happening) (s : ServerState) → (after happening s).state.highest ≡ highest_after happening s
  pub rise : (happening : Happening) (s : ServerState) → RiseTo s.highest (conn_numbers s)
      → RiseTo (after happening s).state.highest (conn_numbers (after happening s).state)

-- ---- orders leave which ends are there

set_by : (b : Bool) (e : ℕ × ChannelState) (w : ChannelState) (es rest : Ends) → keys_of rest ≡ keys_of es
    → keys_of (cond b ((e.0, w) ∷ es) (e ∷ rest)) ≡ e.0 ∷ keys_of es
set_by true e w es rest h = refl
set_by false e w es rest h = ap (λ l. e.0 ∷ l) h

set_keys : (test : ℕ → Bool) (es : Ends) (w : ChannelState) → keys_of (set_value test es w) ≡ keys_of es
set_keys test [] w = refl
set_keys test (e ∷ es) w = set_by (test e.0) e w es (set_value test es w) (set_keys test es w)

obeyed_keys : (found : Option ChannelState) (number : ℕ) (o : Order) (ends : Ends) → keys_of (obeyed_by found number o ends) ≡ keys_of ends
obeyed_keys None number o ends = refl
obeyed_keys (Some c) number o ends = set_keys (is_at (nat_cmp number)) ends _

other_keys : (b : Bool) (number : ℕ) (o : Order) (ends : Ends) → keys_of (cond b ends (obeyed_at number o ends)) ≡ keys_of ends
other_keys true number o ends = refl
other_keys false number o ends = obeyed_keys (end_at number ends) number o ends

others_keys : (conn : ℕ) (orders : List (ℕ × Order)) (ends : Ends) → keys_of (others conn orders ends) ≡ keys_of ends
others_keys conn [] ends = refl
others_keys conn (o ∷ orders) ends =
    others_keys conn orders (cond (o.0 == conn) ends (obeyed_at o.0 o.1 ends)) ∙ other_keys (o.0 == conn) o.0 o.1 ends

each_keys : (orders : List (ℕ × Order)) (ends : Ends) → keys_of (obeyed_each orders ends) ≡ keys_of ends
each_keys [] ends = refl
each_keys (o ∷ orders) ends = each_keys orders (obeyed_at o.0 o.1 ends) ∙ obeyed_keys (end_at o.0 ends) o.0 o.1 ends

-- ---- what happens, with its orders obeyed

-- the ends are those of the connections after it
obeys : Knows → (happening : Happening) (ends : Ends) (s : ServerState) → RiseTo s.highest (conn_numbers s) → keys_of ends ≡ numbers_after happening s
    → Matches (with_ends ends (after happening s))
obeys law happening ends s rise are = record {
  same = each_keys (orders_of (after happening s).said) ends ∙ are ∙ sym (law.numbers happening s);
  rise = law.rise happening s rise;
}

-- ---- an end more

abbrev pub AllUnder : ℕ → List ℕ → Type 0
AllUnder number [] = Unit {0}
AllUnder number (other ∷ numbers) = (other < number) × AllUnder number numbers

under_by : (highest number : ℕ) (numbers : List ℕ) → highest < number → RiseTo (Some highest) numbers → AllUnder number numbers
under_by highest number [] above h = tt
under_by highest number (other ∷ numbers) above h =
    let below : other ≤ highest = h.0 in (omega (arith, below, above), under_by highest number numbers above h.2)

above_is : (highest number : ℕ) → nat_lt highest number ≡ true → highest < number
above_is highest number test = grind (arith, nat_tests)

all_under : (highest : Option ℕ) (number : ℕ) (numbers : List ℕ) → is_above highest number ≡ true → RiseTo highest numbers → AllUnder number numbers
all_under None number [] test h = tt
all_under None number (other ∷ numbers) test h = absurd h
all_under (Some highest) number numbers test h = under_by highest number numbers (above_is highest number test) h

greater_by : (lower same : Bool) (number other : ℕ) (one two three : Ends) → nat_lt number other ≡ lower → (number == other) ≡ same → other < number
    → match_ordering (nat_cmp number other) one two three ≡ three
greater_by true same number other one two three low is above = absurd (grind (arith, nat_tests))
greater_by false true number other one two three low is above = absurd (grind (arith, nat_tests))
greater_by false false number other one two three low is above = rw (low, is) refl

new_keys : (number : ℕ) (es : Ends) (w : ChannelState) → AllUnder number (keys_of es) → keys_of (insert_entry nat_cmp es number w) ≡ keys_of es ++ number ∷ []
new_keys number [] w h = refl
new_keys number (e ∷ es) w h =
    ap keys_of (greater_by _ _ number e.0 ((number, w) ∷ e ∷ es) ((e.0, w) ∷ es) (e ∷ insert_entry nat_cmp es number w) refl refl h.0)
    ∙ ap (λ l. e.0 ∷ l) (new_keys number es w h.1)

differ_under : (number other : ℕ) → other < number → (number == other) ≡ false
differ_under number other above = grind (arith, nat_tests)

none_under : (number : ℕ) (es : Ends) → AllUnder number (keys_of es) → end_at number es ≡ None
none_under number [] h = refl
none_under number (e ∷ es) h =
    ap (λ b. cond b (Some e.1) (end_at number es)) (unsigned_tied number e.0 ∙ differ_under number e.0 h.0) ∙ none_under number es h.1

opened_keys : (number : ℕ) (es : Ends) → AllUnder number (keys_of es) → keys_of (end_opened number es) ≡ keys_of es ++ number ∷ []
opened_keys number es h =
    ap (λ (found : Option ChannelState). keys_of (cond (is_some found) es (insert_entry nat_cmp es number (new_channel sides.Server)))) (none_under number es h)
    ∙ new_keys number es (new_channel sides.Server) h

opened_by : Knows → (b : Bool) (number : ℕ) (s : BytesState) → is_above s.hub.highest number ≡ b → Matches s
    → Matches (cond b (with_ends (end_opened number s.channels) (after (Opens number) s.hub)) s)
opened_by law true number s test h =
    let under : AllUnder number (keys_of s.channels) =
    subst (AllUnder number) (sym h.same) (all_under s.hub.highest number (conn_numbers s.hub) test h.rise) in
    obeys law (Opens number) (end_opened number s.channels) s.hub h.rise
    (opened_keys number s.channels under ∙ ap (λ l. l ++ number ∷ []) h.same
    ∙ sym (ap (λ b. cond b (conn_numbers s.hub ++ number ∷ []) (conn_numbers s.hub)) test))
opened_by law false number s test h = h

-- ---- an end less

differ_above : (number other : ℕ) → number < other → (other == number) ≡ false
differ_above number other above = grind (arith, nat_tests)

all_above : (number : ℕ) (numbers : List ℕ) → AreAbove number numbers → filter (λ other. not (other == number)) numbers ≡ numbers
all_above number [] h = refl
all_above number (other ∷ numbers) h =
    ap (λ b. cond (not b) (other ∷ filter (λ other. not (other == number)) numbers) (filter (λ other. not (other == number)) numbers)) (differ_above number other h.0)
    ∙ ap (λ l. other ∷ l) (all_above number numbers h.1)

turned : (number other : ℕ) (b : Bool) → (number == other) ≡ b → (other == number) ≡ b
turned number other true is = grind (arith, nat_tests)
turned number other false is = grind (arith, nat_tests)

removed_by : (b : Bool) (number : ℕ) (e : ℕ × ChannelState) (es rest : Ends) → (e.0 == number) ≡ b → AreAbove e.0 (keys_of es)
    → keys_of rest ≡ filter (λ other. not (other == number)) (keys_of es)
    → keys_of (cond b es (e ∷ rest)) ≡ cond (not b) (e.0 ∷ filter (λ other. not (other == number)) (keys_of es)) (filter (λ other. not (other == number)) (keys_of es))
removed_by true number e es rest is above h =
    let own : e.0 ≡ number = grind (arith, nat_tests) in
    sym (all_above number (keys_of es) (subst (λ n. AreAbove n (keys_of es)) own above))
removed_by false number e es rest is above h = ap (λ l. e.0 ∷ l) h

-- all are apart
abbrev pub AreApart : List ℕ → Type 0
AreApart [] = Unit {0}
AreApart (number ∷ numbers) = AreAbove number numbers × AreApart numbers

apart_by : (highest : Option ℕ) (numbers : List ℕ) → RiseTo highest numbers → AreApart numbers
apart_by highest [] h = tt
apart_by None (number ∷ numbers) h = absurd h
apart_by (Some highest) (number ∷ numbers) h = (h.1, apart_by (Some highest) numbers h.2)

removed_keys : (number : ℕ) (es : Ends) → AreApart (keys_of es) → keys_of (remove_entry (is_at (nat_cmp number)) es) ≡ filter (λ other. not (other == number)) (keys_of es)
removed_keys number [] h = refl
removed_keys number (e ∷ es) h =
    ap (λ b. keys_of (cond b es (e ∷ remove_entry (is_at (nat_cmp number)) es))) (unsigned_tied number e.0 ∙ sym (turned number e.0 (number == e.0) refl))
    ∙ removed_by (e.0 == number) number e es (remove_entry (is_at (nat_cmp number)) es) refl h.0 (removed_keys number es h.1)

closed_by : Knows → (b : Bool) (number : ℕ) (s : BytesState) → Matches s → Matches (cond b (with_ends (end_closed number s.channels) (after (Closes number) s.hub)) s)
closed_by law true number s h =
    obeys law (Closes number) (end_closed number s.channels) s.hub h.rise
    (removed_keys number s.channels (subst AreApart (sym h.same) (apart_by s.hub.highest (conn_numbers s.hub) h.rise))
    ∙ ap (filter (λ other. not (other == number))) h.same)
closed_by law false number s h = h

-- ---- bytes

-- what is heard leaves which connections and ends are there
core_keys : (conn : ℕ) (bytes : List ℕ) (n : NodeState BytesState) → end_numbers (node_after (rest_ears conn) (rest_answer conn) bytes n).core ≡ end_numbers n.core
core_keys conn bytes n =
    bytes_keep (rest_ears conn) (rest_answer conn) end_numbers (λ h core. others_keys conn (orders_of (heard conn h core.hub).said) core.channels) bytes n

core_numbers : Knows → (conn : ℕ) (bytes : List ℕ) (n : NodeState BytesState)
    → conn_numbers (node_after (rest_ears conn) (rest_answer conn) bytes n).core.hub ≡ conn_numbers n.core.hub
core_numbers law conn bytes n =
    bytes_keep (rest_ears conn) (rest_answer conn) (λ (s : BytesState). conn_numbers s.hub) (λ h core. law.numbers (Hears conn h) core.hub) bytes n

core_highest : Knows → (conn : ℕ) (bytes : List ℕ) (n : NodeState BytesState)
    → (node_after (rest_ears conn) (rest_answer conn) bytes n).core.hub.highest ≡ n.core.hub.highest
core_highest law conn bytes n =
    bytes_keep (rest_ears conn) (rest_answer conn) (λ (s : BytesState). s.hub.highest) (λ h core. law.highest (Hears conn h) core.hub) bytes n

bytes_by : Knows → (found : Option ChannelState) (conn : ℕ) (bytes : List ℕ) (s : BytesState) → Matches s
    → Matches (taken_by (rest_ears conn) (rest_answer conn) ends_of put_ends found conn bytes s)
bytes_by law None conn bytes s h = h
bytes_by law (Some c) conn bytes s h =
    let before : NodeState BytesState = apart conn c s in
    let now : NodeState BytesState = node_after (rest_ears conn) (rest_answer conn) bytes before in
    let numbers : conn_numbers now.core.hub ≡ conn_numbers s.hub = core_numbers law conn bytes before in
    record {
      same = set_keys (is_at (nat_cmp conn)) now.core.channels now.channel ∙ core_keys conn bytes before
          ∙ set_keys (is_at (nat_cmp conn)) s.channels blank_end ∙ h.same ∙ sym numbers;
      rise = subst (λ highest. RiseTo highest (conn_numbers now.core.hub)) (sym (core_highest law conn bytes before))
          (subst (RiseTo s.hub.highest) (sym numbers) h.rise);
    }

bytes_match : Knows → (conn : ℕ) (bytes : List ℕ) (s : BytesState) → Matches s → Matches (taken conn bytes s)
unfolding taken
bytes_match law conn bytes s h = bytes_by law (end_at conn s.channels) conn bytes s h

-- ---- any event

pub step_matches : Knows → (event : ServerEvent) (s : BytesState) → Matches s → Matches (stepped event s)
step_matches law (event_as.Opened conn) s h = opened_by law (is_above s.hub.highest conn) conn s refl h
step_matches law (event_as.Bytes conn bytes) s h = bytes_match law conn bytes s h
step_matches law (event_as.Closed conn) s h = closed_by law (is_some (end_at conn s.channels)) conn s h
step_matches law (event_as.Feed change) s h = obeys law (Feeds change) s.channels s.hub h.rise h.same
step_matches law (event_as.Tick ms) s h = obeys law (Ticks ms) s.channels s.hub h.rise h.same
step_matches law (event_as.Level level) s h = obeys law (Levels level) s.channels s.hub h.rise h.same

pub first_matches : (config : ServerConfig) (current : List Change) → Matches (new_bytes config current)
first_matches config current = record { same = refl; rise = tt }

all_match : Knows → (config : ServerConfig) (current : List Change) (events : List ServerEvent) → Matches (bytes_after events (new_bytes config current))
all_match law config current [] = first_matches config current
all_match law config current (event ∷ earlier) = step_matches law event (bytes_after earlier (new_bytes config current)) (all_match law config current earlier)

pub ends_match : Knows → (config : ServerConfig) (current : List Change) (events : List ServerEvent)
    → end_numbers (bytes_after events (new_bytes config current)) ≡ conn_numbers (bytes_after events (new_bytes config current)).hub
ends_match law config current events = (all_match law config current events).same

-- ---- the end of a connection

there_by : (b : Bool) (number : ℕ) (e : ℕ × ChannelState) (x : Conn) (found : Option ChannelState) (rest : Option Conn) → (number == e.0) ≡ b → e.0 ≡ x.number
    → is_some found ≡ is_some rest → is_some (cond b (Some e.1) found) ≡ is_some (cond (is_conn number x) (Some x) rest)
there_by true number e x found rest test same h =
    let own : (x.number == number) ≡ true = grind (arith, nat_tests) in
    sym (ap (λ b. is_some (cond b (Some x) rest)) own)
there_by false number e x found rest test same h =
    let own : (x.number == number) ≡ false = grind (arith, nat_tests) in
    h ∙ sym (ap (λ b. is_some (cond b (Some x) rest)) own)

there : (number : ℕ) (es : Ends) (conns : List Conn) → keys_of es ≡ map (λ (conn : Conn). conn.number) conns → is_some (end_at number es) ≡ is_some (conn_at number conns)
there number [] [] same = refl
there number [] (x ∷ conns) same = absurd cc
there number (e ∷ es) [] same = absurd cc
there number (e ∷ es) (x ∷ conns) same =
    let head : e.0 ≡ x.number = cc in
    let tail : keys_of es ≡ map (λ (conn : Conn). conn.number) conns = cc in
    ap (λ b. is_some (cond b (Some e.1) (end_at number es))) (unsigned_tied number e.0)
    ∙ there_by (number == e.0) number e x (end_at number es) (conn_at number conns) refl head (there number es conns tail)

pub ends_there : Knows → (config : ServerConfig) (current : List Change) (events : List ServerEvent) (conn : ℕ)
    → is_some (end_at conn (bytes_after events (new_bytes config current)).channels) ≡ is_some (conn_at conn (bytes_after events (new_bytes config current)).hub.conns)
ends_there law config current events conn =
    there conn (bytes_after events (new_bytes config current)).channels (bytes_after events (new_bytes config current)).hub.conns (ends_match law config current events)
