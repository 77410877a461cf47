-- All that happens to the client fits, where what comes to it does.
use Rattle.std.proofs.Common.{ℕ, ◌&&◌, nat_le, Bool, true, false, cond, List, [], ◌∷◌, ◌++◌, Option, Some, None}
use Rattle.std.specs.List.{AllByRecursion}
use Rattle.ua_channel.specs.declared.heard.Heard.{Heard}
use Rattle.ua_channel.specs.State.{WireState, is_deaf}
use Rattle.ua_channel.specs.Messages.{hearing_of}
use Rattle.message_ends.specs.Ends.{MessageEnd, MessageEnds, new_end, set_end}
use Rattle.message_ends.specs.Talk.{heard_one, settled_by}
use Rattle.message_ends.specs.Showing.{AllBring, OrdersBring}
use Rattle.link_rules.specs.Opening.{begins_anew}
use Rattle.link_keeps.specs.Fitting.{FitsHeard}
use Rattle.client_rules.specs.declared.config.ClientConfig.{ClientConfig}
use Rattle.client_rules.specs.State.{ClientState, is_server, link_of, servers_of}
use Rattle.client_rules.specs.Acts.{Closes, Happening, Hears, Opens, Refuses, Ticks}
use Rattle.client_rules.specs.Step.{Ends, Goes, Moment, after, ears}
use Rattle.client_keeps.specs.Fitting.{FitsClient, FitsConfig, FitsHappening, FitsMoment}
use Rattle.client_keeps.proofs.Rules.{after_client, dialled_fits, new_fits, wish_fits}
use Rattle.client_messages.specs.Messages as learning
use Rattle.client_messages.specs.Showing.{Brings, ComesFit}
use Rattle.client_messages.proofs.Ordering.{client_orders}
use Rattle.set_histories.specs.Below.{Client, NotedClient}
use Rattle.set_histories.specs.Recording.{RecordedClient, event_of, learned_here, learned_in}
use Rattle.set_fitting.proofs.Talking.{EndBrings, TalkKeeps, all_keep, obeyed, set_brings}

abbrev pub Keeps : Client → Type 0
Keeps t = TalkKeeps FitsClient Brings t

-- ---- it begins

pub begins : (config : ClientConfig) → FitsConfig config → Keeps (learning.new_talk config)
begins config fits = record { hub = new_fits config fits; puts = λ k. first_brings (nat_le 1 k && nat_le k (servers_of config)) }
  where
    first_brings : (b : Bool) → EndBrings Brings (cond b (Some new_end) None)
    first_brings true = tt
    first_brings false = tt

-- ---- an event, and its end

happened : (h : Happening) (ends : MessageEnds) (c : ClientState) → FitsClient c → FitsHappening h → ((k : ℕ) → EndBrings Brings (ends k))
    → Keeps (learning.with_ends ends (after h c))
happened h ends c fits is puts =
    obeyed FitsClient Brings (after h c).orders (after h c).client ends (after_client h c is fits) (client_orders.brings h c is fits) puts

shut_brings : (b : Bool) (o : Option MessageEnd) → EndBrings Brings o → EndBrings Brings (cond b (settled_by ears learning.answers o) o)
shut_brings true None x = x
shut_brings true (Some e) x = x
shut_brings false o x = x

ended : (t : Client) → Keeps t → Keeps (learning.ended t)
ended t x = record { hub = dialled_fits t.hub x.hub; puts = λ k. shut_brings (is_server k t.hub && is_deaf (ears k t.hub)) (t.ends k) (x.puts k) }

-- what is no event leaves it alone
event : (b : Bool) (t u : Client) → Keeps t → Keeps u → Keeps (cond b (learning.ended u) t)
event true t u x y = ended u y
event false t u x y = x

-- ---- connections

renewed_brings : (o : Option MessageEnd) → EndBrings Brings (learning.renewed_by o)
renewed_brings None = tt
renewed_brings (Some e) = tt

renewed_by : (b : Bool) (number k : ℕ) (ends : MessageEnds) → EndBrings Brings (ends k)
    → EndBrings Brings ((cond b (set_end number (learning.renewed_by (ends number)) ends) ends) k)
renewed_by true number k ends x = set_brings Brings number k (learning.renewed_by (ends number)) ends (renewed_brings (ends number)) x
renewed_by false number k ends x = x

pub connects : (number : ℕ) (t : Client) → Keeps t → Keeps (learning.connects number t)
connects number t x =
    event (is_server number t.hub) t (learning.opened number t) x
    (happened (Opens number) (learning.end_renewed number t) t.hub x.hub tt (λ k. renewed_by (begins_anew (link_of number t.hub)) number k t.ends (x.puts k)))

pub is_refused : (number : ℕ) (t : Client) → Keeps t → Keeps (learning.is_refused number t)
is_refused number t x = event (is_server number t.hub) t (learning.refused number t) x (happened (Refuses number) t.ends t.hub x.hub tt x.puts)

pub closes : (number : ℕ) (t : Client) → Keeps t → Keeps (learning.closes number t)
closes number t x = event (is_server number t.hub) t (learning.closed number t) x (happened (Closes number) t.ends t.hub x.hub tt x.puts)

-- ---- messages, time and wishes

answers_keep : (number : ℕ) (h : Heard) (c : ClientState) → FitsClient c → FitsHeard h → FitsClient (learning.answers number h c).0
answers_keep number h c fits is = after_client (Hears number h) c is fits

answers_bring : (number : ℕ) (h : Heard) (c : ClientState) → FitsClient c → FitsHeard h → OrdersBring Brings (learning.answers number h c).1
answers_bring number h c fits is = client_orders.brings (Hears number h) c is fits

pub hears : (number : ℕ) (wires : List WireState) (t : Client) → AllBring ComesFit wires → Keeps t → Keeps (learning.hears number wires t)
hears number wires t fits x =
    event (is_server number t.hub) t (learning.heard_of number wires t) x
    (all_keep ears learning.answers FitsClient FitsHeard Brings answers_keep answers_bring number wires t fits x)

pub waits : (ms : ℕ) (t : Client) → Keeps t → Keeps (learning.waits ms t)
waits ms t x = ended (learning.waited ms t) (happened (Ticks ms) t.ends t.hub x.hub tt x.puts)

pub wish_taken : (number : ℕ) (t : Client) → Keeps t → Keeps (learning.without_wish_of number t)
wish_taken number t x = record { hub = wish_fits (is_server number t.hub) number t.hub x.hub; puts = x.puts }

-- ---- its moments

pub join_fits : (moments more : List Moment) → AllByRecursion FitsMoment moments → AllByRecursion FitsMoment more → AllByRecursion FitsMoment (moments ++ more)
join_fits [] more one other = other
join_fits (m ∷ moments) more one other = (one.0, join_fits moments more one.1 other)

event_fits : (number : ℕ) (t : Client) (moments : List Moment) → AllByRecursion FitsMoment moments → AllByRecursion FitsMoment (event_of number t moments)
event_fits number t moments all = by_test (is_server number t.hub)
  where
    by_test : (b : Bool) → AllByRecursion FitsMoment (cond b (moments ++ Ends ∷ []) [])
    by_test true = join_fits moments (Ends ∷ []) all (tt, tt)
    by_test false = tt

here_fits : (o : Option MessageEnd) (number : ℕ) (wire : WireState) (t : Client) → ComesFit wire → AllByRecursion FitsMoment (learned_here o number wire t)
here_fits None number wire t fits = tt
here_fits (Some e) number wire t fits = by_test (is_deaf (ears number t.hub))
  where
    by_test : (b : Bool) → AllByRecursion FitsMoment (cond b [] (Goes (Hears number (hearing_of (ears number t.hub) wire e.tokens).heard) ∷ []))
    by_test true = tt
    by_test false = (fits (ears number t.hub) e.tokens, tt)

learned_fit : (number : ℕ) (wires : List WireState) (t : Client) → AllBring ComesFit wires → AllByRecursion FitsMoment (learned_in number wires t)
learned_fit number [] t fits = tt
learned_fit number (wire ∷ wires) t fits =
    join_fits (learned_here (t.ends number) number wire t) (learned_in number wires (heard_one ears learning.answers number wire t))
    (here_fits (t.ends number) number wire t fits.0) (learned_fit number wires (heard_one ears learning.answers number wire t) fits.1)

-- ---- a client with all that happened to it

pub record ClientKeeps (c : NotedClient RecordedClient WireState) : Type 0 where
  pub moments : AllByRecursion FitsMoment c.node.moments
  pub talk : Keeps c.node.talk

pub event_moments : (number : ℕ) (c : NotedClient RecordedClient WireState) (moments : List Moment) → AllByRecursion FitsMoment moments → ClientKeeps c
    → AllByRecursion FitsMoment (c.node.moments ++ event_of number c.node.talk moments)
event_moments number c moments all x =
    join_fits c.node.moments (event_of number c.node.talk moments) x.moments (event_fits number c.node.talk moments all)

pub learned_moments : (number : ℕ) (wires : List WireState) (c : NotedClient RecordedClient WireState) → AllBring ComesFit wires → ClientKeeps c
    → AllByRecursion FitsMoment (c.node.moments ++ event_of number c.node.talk (learned_in number wires c.node.talk))
learned_moments number wires c fits x = event_moments number c (learned_in number wires c.node.talk) (learned_fit number wires c.node.talk fits) x

pub waited_moments : (ms : ℕ) (c : NotedClient RecordedClient WireState) → ClientKeeps c → AllByRecursion FitsMoment (c.node.moments ++ Goes (Ticks ms) ∷ Ends ∷ [])
waited_moments ms c x = join_fits c.node.moments (Goes (Ticks ms) ∷ Ends ∷ []) x.moments (tt, (tt, tt))
