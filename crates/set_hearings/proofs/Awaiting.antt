-- What happens at a moment of the client is awaited by the link.
use Rattle.std.proofs.Common.{◌≡◌, ◌≢◌, ℕ, ◌-◌, ◌||◌, Bool, true, false, cond, List, [], ◌∷◌, ◌++◌, Option, Some, None, refl, sym, ap, subst, ◌∙◌}
use Rattle.ua_channel.specs.declared.ear.Ear.{Ear}
use Rattle.ua_channel.specs.declared.ear.Ear.TheVariants as ear
use Rattle.ua_channel.specs.State.{WireState, is_deaf}
use Rattle.ua_channel.specs.Messages.{hearing_of}
use Rattle.message_ends.specs.Ends.{MessageEnd}
use Rattle.message_ends.specs.Talk as talks
use Rattle.link_rules.specs.declared.notice.Wish.TheVariants as wish
use Rattle.link_rules.specs.declared.phase.Phase.{Phase}
use Rattle.link_rules.specs.declared.phase.Phase.TheVariants as phase
use Rattle.link_rules.specs.Closing.{stands_in}
use Rattle.link_rules.specs.State.{LinkState, new_link}
use Rattle.link_rules.specs.Step.{ear_in, ear_of, taken_in, wish_in, wish_of, wish_taken}
use Rattle.client_rules.specs.State.{ClientState, is_server, link_config, link_of, with_link}
use Rattle.client_rules.specs.Acts as acts
use Rattle.client_rules.specs.Step.{Ends, Goes, Moment, after, after_all, at_moment, ears, without_wish}
use Rattle.client_links.specs.Awaited.{AreAwaited, IsDialling}
use Rattle.client_orders.specs.Holding.{HoldsConnection}
use Rattle.client_orders.proofs.Whole.{client_holds, servers_stay}
use Rattle.client_messages.specs.Messages as learning
use Rattle.client_messages.proofs.Dialling.{at_set}
use Rattle.ua_client.specs.State as client
use Rattle.set_histories.specs.Below.{Client}
use Rattle.set_histories.specs.Recording.{learned_here, learned_in}
use Rattle.set_histories.proofs.Dialled.{same_servers}
use Rattle.set_histories.proofs.Ends.{has_heard}
use Rattle.set_histories.proofs.Learning.{hears_one}

-- ---- moments one after another

pub awaited_append : (server : ℕ) (some more : List Moment) (c : ClientState) → AreAwaited server some c → AreAwaited server more (after_all some c).client
    → AreAwaited server (some ++ more) c
unfolding after_all
awaited_append server [] more c x y = y
awaited_append server (m ∷ some) more c x y = (x.0, awaited_append server some more (at_moment m c).client x.1 y)

-- an event of a server, which the client may have or not
pub event_awaited : (here : Bool) (server : ℕ) (some : List Moment) (c : ClientState) → AreAwaited server some c → AreAwaited server (cond here (some ++ Ends ∷ []) []) c
event_awaited true server some c x = awaited_append server some (Ends ∷ []) c x (tt, tt)
event_awaited false server some c x = tt

-- ---- a wish to dial that is taken

wish_at : (P : LinkState → Type 0) (b : Bool) (server number : ℕ) (c : ClientState) → (server - 1 ≡ number - 1 → P (wish_taken (link_of server c))) → P (link_of number c)
    → P (link_of number (cond b (with_link server (wish_taken (link_of server c)) c) c))
wish_at P true server number c own p = at_set P c.links (server - 1) (number - 1) (wish_taken (link_of server c)) (new_link (link_config c.config)) own p
wish_at P false server number c own p = p

dialling_now : (p : Phase) → wish_in p ≡ wish.Dial → IsDialling p
dialling_now (phase.Dialing taken) e = tt
dialling_now other e = absurd cc

dialling_then : (p : Phase) → wish_in p ≡ wish.Dial → IsDialling (taken_in p)
dialling_then (phase.Dialing taken) e = tt
dialling_then other e = absurd cc

wishes_now : (b : Bool) (l : LinkState) → cond b wish.Close (wish_in l.phase) ≡ wish.Dial → IsDialling l.phase
wishes_now true l e = absurd cc
wishes_now false l e = dialling_now l.phase e

wishes_then : (b : Bool) (l : LinkState) → cond b wish.Close (wish_in l.phase) ≡ wish.Dial
    → IsDialling (cond b (record l { closes = false }) (record l { phase = taken_in l.phase })).phase
wishes_then true l e = absurd cc
wishes_then false l e = dialling_then l.phase e

pub dials_then : (number : ℕ) (c : ClientState) → is_server number c ≡ true → client.wished number c ≡ wish.Dial → IsDialling (link_of number (without_wish number c)).phase
dials_then number c is wishes =
    let l = link_of number c in
    let e : wish_of l ≡ wish.Dial = sym (ap (λ b. cond b (wish_of l) wish.None) is) ∙ wishes in
    wish_at (λ (x : LinkState). IsDialling x.phase) (is_server number c) number number c (λ same. wishes_then l.closes l e) (wishes_now l.closes l e)

-- ---- messages of another server

other_here : (found : Option MessageEnd) (number server : ℕ) (wire : WireState) (t : Client) (c : ClientState) → server ≢ number
    → AreAwaited number (learned_here found server wire t) c
other_here None number server wire t c differ = tt
other_here (Some e) number server wire t c differ = by_test (is_deaf (ears server t.hub))
  where
    by_test : (deaf : Bool) → AreAwaited number (cond deaf [] (Goes (acts.Hears server (hearing_of (ears server t.hub) wire e.tokens).heard) ∷ [])) c
    by_test true = tt
    by_test false = (λ same. absurd (differ same), tt)

pub other_awaited : (number server : ℕ) (wires : List WireState) (t : Client) (c : ClientState) → server ≢ number → AreAwaited number (learned_in server wires t) c
other_awaited number server [] t c differ = tt
other_awaited number server (wire ∷ wires) t c differ =
    let here = learned_here (t.ends server) server wire t in
    let more = learned_in server wires (talks.heard_one ears learning.answers server wire t) in
    awaited_append number here more c (other_here (t.ends server) number server wire t c differ)
    (other_awaited number server wires (talks.heard_one ears learning.answers server wire t) (after_all here c).client differ)

-- ---- messages of this one, on the connection that its link has

-- a link that has a connection, and hears, doesn't wish that it be closed
hears_stands : (closes stands : Bool) (e : Ear) → (stands || closes) ≡ true → is_deaf (cond closes ear.Deaf e) ≡ false → stands ≡ true
hears_stands closes true e holds hears = refl
hears_stands true false e holds hears = absurd cc
hears_stands false false e holds hears = absurd cc

ears_of : (number : ℕ) (c : ClientState) → is_server number c ≡ true → is_deaf (ears number c) ≡ is_deaf (ear_of (link_of number c))
ears_of number c is = ap (λ b. is_deaf (cond b (ear_of (link_of number c)) ear.Deaf)) is

-- the client has the server, and its link a connection
pub record Holds (number : ℕ) (c : ClientState) : Type 0 where
  pub is : is_server number c ≡ true
  pub holds : HoldsConnection (link_of number c)

own_if : (deaf : Bool) (number : ℕ) (wire : WireState) (e : MessageEnd) (t : Client) → is_deaf (ears number t.hub) ≡ deaf → t.ends number ≡ Some e → Holds number t.hub
    → Holds number (cond deaf t (talks.judged ears learning.answers number (hearing_of (ears number t.hub) wire e.tokens) e t)).hub
    × AreAwaited number (cond deaf [] (Goes (acts.Hears number (hearing_of (ears number t.hub) wire e.tokens).heard) ∷ [])) t.hub
own_if true number wire e t deaf there x = (x, tt)
own_if false number wire e t hears there x =
    let l = link_of number t.hub in
    let h = (hearing_of (ears number t.hub) wire e.tokens).heard in
    let heeds : is_deaf (ear_of l) ≡ false = sym (ears_of number t.hub x.is) ∙ hears in (
      subst (λ (c : ClientState). Holds number c) (sym (has_heard ears learning.answers number wire e t there).hub) (record {
        is = same_servers number t.hub (after (acts.Hears number h) t.hub).client (servers_stay (acts.Hears number h) t.hub) x.is;
        holds = client_holds number (acts.Hears number h) t.hub x.is tt x.holds;
      }),
      (λ same. (heeds, hears_stands l.closes (stands_in l.phase) (ear_in l.phase) x.holds heeds), tt),
    )

own_by : (found : Option MessageEnd) (number : ℕ) (wire : WireState) (t : Client) → t.ends number ≡ found → Holds number t.hub
    → Holds number (talks.heard_by ears learning.answers found number wire t).hub × AreAwaited number (learned_here found number wire t) t.hub
own_by None number wire t there x = (x, tt)
own_by (Some e) number wire t there x = own_if (is_deaf (ears number t.hub)) number wire e t refl there x

own_one : (number : ℕ) (wire : WireState) (t : Client) → Holds number t.hub
    → Holds number (talks.heard_one ears learning.answers number wire t).hub × AreAwaited number (learned_here (t.ends number) number wire t) t.hub
unfolding talks.heard_one
own_one number wire t x = own_by (t.ends number) number wire t refl x

pub own_awaited : (number : ℕ) (wires : List WireState) (t : Client) → Holds number t.hub → AreAwaited number (learned_in number wires t) t.hub
own_awaited number [] t x = tt
own_awaited number (wire ∷ wires) t x =
    let here = learned_here (t.ends number) number wire t in
    let u = talks.heard_one ears learning.answers number wire t in
    let step = own_one number wire t x in
    awaited_append number here (learned_in number wires u) t.hub step.1
    (subst (λ (c : ClientState). AreAwaited number (learned_in number wires u) c) (hears_one number wire t) (own_awaited number wires u step.0))
