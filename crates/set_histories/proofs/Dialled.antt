-- What is heard and put on the connections of a client's link.
use Rattle.std.proofs.Common.{◌≡◌, ℕ, ◌-◌, ◌==◌, ◌≤◌, ◌&&◌, ◌||◌, nat_le, Bool, true, false, cond, List, [], ◌∷◌, ◌++◌, length, Option, Some, None, is_some, refl, sym, ap, subst, ◌∙◌, append_assoc}
use Rattle.std.proofs.lemmas.List.{append-nil, length-set}
use Rattle.ua_channel.specs.declared.ear.Ear.TheVariants as ear
use Rattle.ua_channel.specs.declared.heard.Heard.{Heard}
use Rattle.ua_channel.specs.declared.wire.Order.{Order}
use Rattle.ua_channel.specs.State.{WireState, is_deaf}
use Rattle.ua_channel.specs.Messages.{hearing_of}
use Rattle.ua_channel.specs.Sharing.{own}
use Rattle.ua_channel.specs.Orders.{puts_of}
use Rattle.message_ends.specs.Ends.{MessageEnd, MessageEnds, emptied_by, out_by, set_end}
use Rattle.message_ends.specs.Talk as talks
use Rattle.message_ends.specs.Talk.{out_of, without_out}
use Rattle.link_rules.specs.declared.phase.Phase.{Phase}
use Rattle.link_rules.specs.declared.phase.Phase.TheVariants as phase
use Rattle.link_rules.specs.Closing.{stands_in}
use Rattle.link_rules.specs.Opening.{begins_anew}
use Rattle.link_rules.specs.State.{LinkState}
use Rattle.link_rules.specs.Step.{ear_in, ear_of, wish_taken}
use Rattle.client_rules.specs.State.{ClientState, is_server, link_of, with_link}
use Rattle.client_rules.specs.Acts as acts
use Rattle.client_rules.specs.Step.{Ends, Goes, Moment, Takes, after, after_all, at_moment, ears}
use Rattle.client_orders.specs.Holding.{HoldsConnection, IsBeside}
use Rattle.client_orders.proofs.Clients.{dialled_long}
use Rattle.client_orders.proofs.Whole.{client_holds, client_opens, dialled_holds, servers_stay}
use Rattle.client_messages.specs.Messages as learning
use Rattle.set_fronts.specs.Below.{Client}
use Rattle.set_fronts.specs.Noting.{Talked, nothing_talked, on_last as on_talked, puts, takes}
use Rattle.set_talks.specs.Heard.{AreHeardOf, IsHeardOf}
use Rattle.set_histories.specs.Histories.{AreDialled}
use Rattle.set_talks.specs.Lives.{Dial, dialled_at, dialled_by, dials_after, dials_with, new_dial, on_last}
use Rattle.set_histories.specs.Recording.{learned_here, learned_in}
use Rattle.set_histories.proofs.Closing.{Closes, after_closes, closes_deaf, dialled_closes}
use Rattle.set_histories.proofs.Ends.{grown, has_heard, obeyed_outs, outs, set_other, set_same, settled_out}
use Rattle.set_histories.proofs.Learning.{hears_one as one_moment}
use Rattle.set_histories.proofs.Serving.{PutIs, emptied_put, emptied_some, grown_some, heard_longer, heard_next, next_long, not_both, put_front, put_more, same_is}

-- ---- servers, by their numbers

wish_long : (b : Bool) (number : ℕ) (l : LinkState) (c : ClientState) → length (cond b (with_link number l c) c).links ≡ length c.links
wish_long true number l c = length-set c.links (number - 1) l
wish_long false number l c = refl

moment_long : (m : Moment) (c : ClientState) → length (at_moment m c).client.links ≡ length c.links
moment_long (Goes h) c = servers_stay h c
moment_long Ends c = dialled_long c
moment_long (Takes server) c = wish_long (is_server server c) server (wish_taken (link_of server c)) c

pub all_long : (moments : List Moment) (c : ClientState) → length (after_all moments c).client.links ≡ length c.links
unfolding after_all
all_long [] c = refl
all_long (m ∷ moments) c = all_long moments (at_moment m c).client ∙ moment_long m c

pub same_servers : (number : ℕ) (c d : ClientState) → length d.links ≡ length c.links → is_server number c ≡ true → is_server number d ≡ true
same_servers number c d same is = ap (λ n. nat_le 1 number && nat_le number n) same ∙ is

-- ---- all dials

pub dials_append : (number : ℕ) (some more : List Moment) (c : ClientState) (dials : List Dial)
    → dials_after number (some ++ more) c dials ≡ dials_after number more (after_all some c).client (dials_after number some c dials)
unfolding after_all
dials_append number [] more c dials = refl
dials_append number (m ∷ some) more c dials = dials_append number some more (at_moment m c).client (dials_with number m c dials)

-- ---- what stands of a link's dials

pub record Newest (b : Bool) (number : ℕ) (t : Client) (d : Dial) (talked : Talked WireState) : Type 0 where
  pub heard : AreHeardOf d.heard talked.taken
  -- as long as the connection stands and isn't deaf, each that came was heard
  pub even : b ≡ true → is_some (outs (t.ends number)) ≡ true → (link_of number t.hub).closes ≡ false → length d.heard ≡ length talked.taken
  pub put : PutIs (outs (t.ends number)) talked.put d.put

abbrev pub DialsAre : Bool → ℕ → Client → List Dial → List (Talked WireState) → Type 0
DialsAre b number t [] [] = Unit {0}
DialsAre b number t [] (k ∷ talked) = ⊥
DialsAre b number t (d ∷ dials) [] = ⊥
DialsAre b number t (d ∷ dials) (k ∷ talked) = Newest b number t d k × AreDialled dials talked

pub record IsLinked (b : Bool) (number : ℕ) (t : Client) (dials : List Dial) (talked : List (Talked WireState)) : Type 0 where
  pub is : is_server number t.hub ≡ true
  pub holds : b ≡ true → HoldsConnection (link_of number t.hub)
  pub dials_are : DialsAre b number t dials talked

dials_over : (b : Bool) (number : ℕ) (t : Client) (dials : List Dial) (talked : List (Talked WireState)) → DialsAre b number t dials talked → AreDialled dials talked
dials_over b number t [] [] x = tt
dials_over b number t [] (k ∷ talked) x = absurd x
dials_over b number t (d ∷ dials) [] x = absurd x
dials_over b number t (d ∷ dials) (k ∷ talked) x = (x.0.heard, put_front (outs (t.ends number)) k.put d.put x.0.put, x.1)

pub are_dialled : (b : Bool) (number : ℕ) (t : Client) (dials : List Dial) (talked : List (Talked WireState)) → IsLinked b number t dials talked → AreDialled dials talked
are_dialled b number t dials talked x = dials_over b number t dials talked x.dials_are

-- that it stands no more
weaker : (b : Bool) (number : ℕ) (t : Client) (dials : List Dial) (talked : List (Talked WireState)) → DialsAre b number t dials talked → DialsAre false number t dials talked
weaker b number t [] [] x = tt
weaker b number t [] (k ∷ talked) x = absurd x
weaker b number t (d ∷ dials) [] x = absurd x
weaker b number t (d ∷ dials) (k ∷ talked) x = (record { heard = x.0.heard; even = λ stands. absurd cc; put = x.0.put }, x.1)

pub gone : (b : Bool) (number : ℕ) (t : Client) (dials : List Dial) (talked : List (Talked WireState)) → IsLinked b number t dials talked → IsLinked false number t dials talked
gone b number t dials talked x = record { is = x.is; holds = λ stands. absurd cc; dials_are = weaker b number t dials talked x.dials_are }

-- ---- moments

-- a moment of the client, after which the end of this link's connection put what was ordered
pub record Moves (number : ℕ) (m : Moment) (t u : Client) : Type 0 where
  pub hub : u.hub ≡ (at_moment m t.hub).client
  pub outs : outs (u.ends number) ≡ grown (puts_of (own number (at_moment m t.hub).orders)) (outs (t.ends number))

-- one at which no connection of the link is opened, heard or ended
pub record IsCalm (b : Bool) (number : ℕ) (m : Moment) (c : ClientState) : Type 0 where
  pub dials : (dials : List Dial) → dialled_at number m c dials ≡ dials
  pub holds : b ≡ true → HoldsConnection (link_of number c) → HoldsConnection (link_of number (at_moment m c).client)
  pub closes : b ≡ true → Closes (link_of number c) → Closes (link_of number (at_moment m c).client)

open_before : (b c : Bool) → (c ≡ true → b ≡ true) → b ≡ false → c ≡ false
open_before b true keeps is = absurd (not_both b (keeps refl) is)
open_before b false keeps is = refl

newest_on : (b then : Bool) (number : ℕ) (m : Moment) (t u : Client) (d : Dial) (talked : Talked WireState) → (then ≡ true → b ≡ true) → IsCalm then number m t.hub → Moves number m t u
    → Newest b number t d talked → Newest then number u (record d { put = d.put ++ puts_of (own number (at_moment m t.hub).orders) }) talked
newest_on b then number m t u d talked stands calm moves x = record {
  heard = x.heard;
  even = λ now there hears. x.even (stands now) (sym (ap (λ (o : Option (List WireState)). is_some o) moves.outs ∙ grown_some _ (outs (t.ends number))) ∙ there)
      (open_before (link_of number u.hub).closes (link_of number t.hub).closes
      (λ closes. subst (λ (c : ClientState). Closes (link_of number c)) (sym moves.hub) (calm.closes now closes)) hears);
  put = subst (λ (o : Option (List WireState)). PutIs o talked.put (d.put ++ puts_of (own number (at_moment m t.hub).orders))) (sym moves.outs)
      (put_more (outs (t.ends number)) talked.put d.put (puts_of (own number (at_moment m t.hub).orders)) x.put);
}

dials_on : (b then : Bool) (number : ℕ) (m : Moment) (t u : Client) (dials : List Dial) (talked : List (Talked WireState)) → (then ≡ true → b ≡ true) → IsCalm then number m t.hub
    → Moves number m t u → DialsAre b number t dials talked
    → DialsAre then number u (on_last (λ d. record d { put = d.put ++ puts_of (own number (at_moment m t.hub).orders) }) dials) talked
dials_on b then number m t u [] [] stands calm moves x = tt
dials_on b then number m t u [] (k ∷ talked) stands calm moves x = absurd x
dials_on b then number m t u (d ∷ dials) [] stands calm moves x = absurd x
dials_on b then number m t u (d ∷ dials) (k ∷ talked) stands calm moves x = (newest_on b then number m t u d k stands calm moves x.0, x.1)

pub calmly : (b then : Bool) (number : ℕ) (m : Moment) (t u : Client) (dials : List Dial) (talked : List (Talked WireState)) → (then ≡ true → b ≡ true) → IsCalm then number m t.hub
    → Moves number m t u → IsLinked b number t dials talked → IsLinked then number u (dials_with number m t.hub dials) talked
calmly b then number m t u dials talked stands calm moves x = record {
  is = subst (λ (c : ClientState). is_server number c ≡ true) (sym moves.hub) (same_servers number t.hub (at_moment m t.hub).client (moment_long m t.hub) x.is);
  holds = λ now. subst (λ (c : ClientState). HoldsConnection (link_of number c)) (sym moves.hub) (calm.holds now (x.holds (stands now)));
  dials_are = subst (λ (l : List Dial). DialsAre then number u (on_last (λ d. record d { put = d.put ++ puts_of (own number (at_moment m t.hub).orders) }) l) talked)
      (sym (calm.dials dials)) (dials_on b then number m t u dials talked stands calm moves x.dials_are);
}

-- ---- the end of an event

shut_outs : (b : Bool) (o : Option MessageEnd) → outs (cond b (talks.settled_by ears learning.answers o) o) ≡ outs o
shut_outs true o = settled_out ears learning.answers o
shut_outs false o = refl

pub grown_nothing : (o : Option (List WireState)) → grown [] o ≡ o
grown_nothing None = refl
grown_nothing (Some out) = ap (λ (l : List WireState). Some l) (append-nil out)

ends_moves : (number : ℕ) (t : Client) → Moves number Ends t (learning.ended t)
ends_moves number t = record {
  hub = refl;
  outs = shut_outs (is_server number t.hub && is_deaf (ears number t.hub)) (t.ends number) ∙ sym (grown_nothing (outs (t.ends number)));
}

ends_calm : (b : Bool) (number : ℕ) (c : ClientState) → IsCalm b number Ends c
ends_calm b number c = record { dials = λ dials. refl; holds = λ now holds. dialled_holds number c holds; closes = λ now closes. dialled_closes number c closes }

pub ends_on : (b : Bool) (number : ℕ) (t : Client) (dials : List Dial) (talked : List (Talked WireState)) → IsLinked b number t dials talked
    → IsLinked b number (learning.ended t) (dials_with number Ends t.hub dials) talked
ends_on b number t dials talked x = calmly b b number Ends t (learning.ended t) dials talked (λ now. now) (ends_calm b number t.hub) (ends_moves number t) x

-- an event of a server that the client has
pub event_on : (here then : Bool) (number : ℕ) (some : List Moment) (t u : Client) (dials : List Dial) (talked : List (Talked WireState)) → here ≡ true
    → u.hub ≡ (after_all some t.hub).client → IsLinked then number u (dials_after number some t.hub dials) talked
    → IsLinked then number (cond here (learning.ended u) t) (dials_after number (cond here (some ++ Ends ∷ []) []) t.hub dials) talked
event_on true then number some t u dials talked here same x =
    subst (λ (l : List Dial). IsLinked then number (learning.ended u) l talked)
    (ap (λ (c : ClientState). dials_with number Ends c (dials_after number some t.hub dials)) same ∙ sym (dials_append number some (Ends ∷ []) t.hub dials))
    (ends_on then number u (dials_after number some t.hub dials) talked x)
event_on false then number some t u dials talked here same x = absurd cc

-- ---- events that are calm

-- nothing is heard or opened
abbrev pub IsAside : ℕ → acts.Happening → Type 0
IsAside number h = (c : ClientState) (dials : List Dial) → dialled_by number h c dials ≡ dials

goes_calm : (b : Bool) (number : ℕ) (h : acts.Happening) (c : ClientState) → 1 ≤ number → is_server number c ≡ true → IsAside number h → (b ≡ true → IsBeside number h)
    → IsCalm b number (Goes h) c
goes_calm b number h c own is aside beside = record {
  dials = λ dials. aside c dials;
  holds = λ now holds. client_holds number h c is (beside now) holds;
  closes = λ now closes. after_closes number h c own (beside now) closes;
}

goes_moves : (number : ℕ) (h : acts.Happening) (ends : MessageEnds) (t : Client) → outs (ends number) ≡ outs (t.ends number)
    → Moves number (Goes h) t (learning.with_ends ends (after h t.hub))
goes_moves number h ends t same = record {
  hub = refl;
  outs = obeyed_outs (own number (after h t.hub).orders) (ends number) ∙ ap (grown (puts_of (own number (after h t.hub).orders))) same;
}

pub goes_on : (b then : Bool) (number : ℕ) (h : acts.Happening) (ends : MessageEnds) (t : Client) (dials : List Dial) (talked : List (Talked WireState)) → 1 ≤ number
    → (then ≡ true → b ≡ true) → outs (ends number) ≡ outs (t.ends number) → IsAside number h → (then ≡ true → IsBeside number h)
    → IsLinked b number t dials talked → IsLinked then number (learning.with_ends ends (after h t.hub)) (dials_after number (Goes h ∷ []) t.hub dials) talked
goes_on b then number h ends t dials talked own stands same aside beside x =
    calmly b then number (Goes h) t (learning.with_ends ends (after h t.hub)) dials talked stands (goes_calm then number h t.hub own x.is aside beside) (goes_moves number h ends t same) x

-- ---- messages of another server

aside_hears : (number server : ℕ) (h : Heard) → (server == number) ≡ false → IsAside number (acts.Hears server h)
aside_hears number server h differ c dials = ap (λ b. cond b (on_last (λ d. record d { heard = d.heard ++ h ∷ [] }) dials) dials) differ

other_if : (deaf b : Bool) (number server : ℕ) (wire : WireState) (e : MessageEnd) (t : Client) (dials : List Dial) (talked : List (Talked WireState)) → 1 ≤ number
    → (server == number) ≡ false → t.ends server ≡ Some e → IsLinked b number t dials talked
    → IsLinked b number (cond deaf t (talks.judged ears learning.answers server (hearing_of (ears server t.hub) wire e.tokens) e t))
    (dials_after number (cond deaf [] (Goes (acts.Hears server (hearing_of (ears server t.hub) wire e.tokens).heard) ∷ [])) t.hub dials) talked
other_if true b number server wire e t dials talked own differ there x = x
other_if false b number server wire e t dials talked own differ there x =
    let h = (hearing_of (ears server t.hub) wire e.tokens).heard in
    let has = has_heard ears learning.answers server wire e t there in
    calmly b b number (Goes (acts.Hears server h)) t (talks.judged ears learning.answers server (hearing_of (ears server t.hub) wire e.tokens) e t) dials talked (λ now. now)
    (goes_calm b number (acts.Hears server h) t.hub own x.is (aside_hears number server h differ) (λ now. tt)) (record { hub = has.hub; outs = has.outs number }) x

other_by : (found : Option MessageEnd) (b : Bool) (number server : ℕ) (wire : WireState) (t : Client) (dials : List Dial) (talked : List (Talked WireState)) → 1 ≤ number
    → (server == number) ≡ false → t.ends server ≡ found → IsLinked b number t dials talked
    → IsLinked b number (talks.heard_by ears learning.answers found server wire t) (dials_after number (learned_here found server wire t) t.hub dials) talked
other_by None b number server wire t dials talked own differ there x = x
other_by (Some e) b number server wire t dials talked own differ there x =
    other_if (is_deaf (ears server t.hub)) b number server wire e t dials talked own differ there x

other_one : (b : Bool) (number server : ℕ) (wire : WireState) (t : Client) (dials : List Dial) (talked : List (Talked WireState)) → 1 ≤ number
    → (server == number) ≡ false → IsLinked b number t dials talked
    → IsLinked b number (talks.heard_one ears learning.answers server wire t) (dials_after number (learned_here (t.ends server) server wire t) t.hub dials) talked
unfolding talks.heard_one
other_one b number server wire t dials talked own differ x = other_by (t.ends server) b number server wire t dials talked own differ refl x

-- the moments of the first message, and those of the others
then_dials : (number server : ℕ) (wire : WireState) (wires : List WireState) (t : Client) (dials : List Dial)
    → dials_after number (learned_in server wires (talks.heard_one ears learning.answers server wire t)) (talks.heard_one ears learning.answers server wire t).hub
    (dials_after number (learned_here (t.ends server) server wire t) t.hub dials)
    ≡ dials_after number (learned_in server (wire ∷ wires) t) t.hub dials
then_dials number server wire wires t dials =
    let here = learned_here (t.ends server) server wire t in
    let more = learned_in server wires (talks.heard_one ears learning.answers server wire t) in
    ap (λ (c : ClientState). dials_after number more c (dials_after number here t.hub dials)) (one_moment server wire t)
    ∙ sym (dials_append number here more t.hub dials)

pub other_hears : (b : Bool) (number server : ℕ) (wires : List WireState) (t : Client) (dials : List Dial) (talked : List (Talked WireState)) → 1 ≤ number
    → (server == number) ≡ false → IsLinked b number t dials talked
    → IsLinked b number (talks.heard_all ears learning.answers server wires t) (dials_after number (learned_in server wires t) t.hub dials) talked
other_hears b number server [] t dials talked own differ x = x
other_hears b number server (wire ∷ wires) t dials talked own differ x =
    subst (λ (l : List Dial). IsLinked b number (talks.heard_all ears learning.answers server (wire ∷ wires) t) l talked) (then_dials number server wire wires t dials)
    (other_hears b number server wires (talks.heard_one ears learning.answers server wire t) (dials_after number (learned_here (t.ends server) server wire t) t.hub dials) talked own differ
    (other_one b number server wire t dials talked own differ x))

-- ---- messages of this one

-- one that comes where nothing is heard
longer : (number : ℕ) (wire : WireState) (t : Client) (dials : List Dial) (talked : List (Talked WireState))
    → (is_some (outs (t.ends number)) ≡ true → (link_of number t.hub).closes ≡ false → ⊥) → DialsAre true number t dials talked
    → DialsAre true number t dials (on_talked (takes (wire ∷ [])) talked)
longer number wire t [] [] deaf x = tt
longer number wire t [] (k ∷ talked) deaf x = absurd x
longer number wire t (d ∷ dials) [] deaf x = absurd x
longer number wire t (d ∷ dials) (k ∷ talked) deaf x = (
  record {
    heard = heard_longer d.heard k.taken (wire ∷ []) x.0.heard;
    even = λ now there hears. absurd (deaf there hears);
    put = x.0.put;
  },
  x.1,
)

-- a link that has its connection and doesn't wish that it be closed hears
phase_hears : (p : Phase) → stands_in p ≡ true → is_deaf (ear_in p) ≡ false
phase_hears phase.Idle stands = absurd cc
phase_hears (phase.Dialing taken) stands = absurd cc
phase_hears phase.Hello stands = refl
phase_hears phase.Opening stands = refl
phase_hears other stands = refl

holds_open : (closes stands : Bool) → (stands || closes) ≡ true → closes ≡ false → stands ≡ true
holds_open closes true holds is = refl
holds_open true false holds is = absurd cc
holds_open false false holds is = absurd cc

link_hears : (l : LinkState) → HoldsConnection l → l.closes ≡ false → is_deaf (ear_of l) ≡ false
link_hears l holds is =
    ap (λ b. is_deaf (cond b ear.Deaf (ear_in l.phase))) is
    ∙ phase_hears l.phase (holds_open l.closes (stands_in l.phase) holds is)

ears_of : (number : ℕ) (c : ClientState) → is_server number c ≡ true → is_deaf (ears number c) ≡ is_deaf (ear_of (link_of number c))
ears_of number c is = ap (λ b. is_deaf (cond b (ear_of (link_of number c)) ear.Deaf)) is

hears_open : (b : Bool) (l : LinkState) → l.closes ≡ b → is_deaf (ear_of l) ≡ false → l.closes ≡ false
hears_open true l is hears = absurd (not_both (is_deaf (ear_of l)) (closes_deaf l is) hears)
hears_open false l is hears = is

own_newest : (number : ℕ) (wire : WireState) (h : Heard) (more : List WireState) (t u : Client) (dials : List Dial) (talked : List (Talked WireState)) → IsHeardOf h wire
    → is_some (outs (t.ends number)) ≡ true → (link_of number t.hub).closes ≡ false → outs (u.ends number) ≡ grown more (outs (t.ends number)) → DialsAre true number t dials talked
    → DialsAre true number u (on_last (λ d. record d { put = d.put ++ more }) (on_last (λ d. record d { heard = d.heard ++ h ∷ [] }) dials)) (on_talked (takes (wire ∷ [])) talked)
own_newest number wire h more t u [] [] is there hears out x = tt
own_newest number wire h more t u [] (k ∷ talked) is there hears out x = absurd x
own_newest number wire h more t u (d ∷ dials) [] is there hears out x = absurd x
own_newest number wire h more t u (d ∷ dials) (k ∷ talked) is there hears out x =
    let long = x.0.even refl there hears in (
      record {
        heard = heard_next d.heard k.taken h wire long is x.0.heard;
        even = λ now there hears. next_long d.heard k.taken h wire long;
        put = subst (λ (o : Option (List WireState)). PutIs o k.put (d.put ++ more)) (sym out) (put_more (outs (t.ends number)) k.put d.put more x.0.put);
      },
      x.1,
    )

own_if : (deaf : Bool) (number : ℕ) (wire : WireState) (e : MessageEnd) (t : Client) (dials : List Dial) (talked : List (Talked WireState)) → 1 ≤ number
    → is_deaf (ears number t.hub) ≡ deaf → t.ends number ≡ Some e → IsLinked true number t dials talked
    → IsLinked true number (cond deaf t (talks.judged ears learning.answers number (hearing_of (ears number t.hub) wire e.tokens) e t))
    (dials_after number (cond deaf [] (Goes (acts.Hears number (hearing_of (ears number t.hub) wire e.tokens).heard) ∷ [])) t.hub dials) (on_talked (takes (wire ∷ [])) talked)
own_if true number wire e t dials talked start deaf there x = record {
  is = x.is;
  holds = x.holds;
  dials_are = longer number wire t dials talked
      (λ is hears. not_both (is_deaf (ears number t.hub)) deaf (ears_of number t.hub x.is ∙ link_hears (link_of number t.hub) (x.holds refl) hears)) x.dials_are;
}
own_if false number wire e t dials talked start hears there x =
    let h = (hearing_of (ears number t.hub) wire e.tokens).heard in
    let u = talks.judged ears learning.answers number (hearing_of (ears number t.hub) wire e.tokens) e t in
    let has = has_heard ears learning.answers number wire e t there in
    let m = Goes (acts.Hears number h) in record {
      is = subst (λ (c : ClientState). is_server number c ≡ true) (sym has.hub) (same_servers number t.hub (at_moment m t.hub).client (moment_long m t.hub) x.is);
      holds = λ now. subst (λ (c : ClientState). HoldsConnection (link_of number c)) (sym has.hub) (client_holds number (acts.Hears number h) t.hub x.is tt (x.holds refl));
      dials_are = subst (λ b. DialsAre true number u (on_last (λ d. record d { put = d.put ++ puts_of (own_orders m) })
          (cond b (on_last (λ d. record d { heard = d.heard ++ h ∷ [] }) dials) dials)) (on_talked (takes (wire ∷ [])) talked)) (sym (same_is number))
          (own_newest number wire h (puts_of (own_orders m)) t u dials talked (ears number t.hub, e.tokens, refl) (ap (λ (o : Option MessageEnd). is_some (outs o)) there)
          (hears_open (link_of number t.hub).closes (link_of number t.hub) refl (sym (ears_of number t.hub x.is) ∙ hears)) (has.outs number) x.dials_are);
    }
  where
    own_orders : Moment → List Order
    own_orders m = own number (at_moment m t.hub).orders

own_by : (found : Option MessageEnd) (number : ℕ) (wire : WireState) (t : Client) (dials : List Dial) (talked : List (Talked WireState)) → 1 ≤ number → t.ends number ≡ found
    → IsLinked true number t dials talked
    → IsLinked true number (talks.heard_by ears learning.answers found number wire t) (dials_after number (learned_here found number wire t) t.hub dials) (on_talked (takes (wire ∷ [])) talked)
own_by None number wire t dials talked own there x = record {
  is = x.is;
  holds = x.holds;
  dials_are = longer number wire t dials talked (λ is hears. not_both false (sym (ap (λ (o : Option MessageEnd). is_some (outs o)) there) ∙ is) refl) x.dials_are;
}
own_by (Some e) number wire t dials talked own there x = own_if (is_deaf (ears number t.hub)) number wire e t dials talked own refl there x

own_one : (number : ℕ) (wire : WireState) (t : Client) (dials : List Dial) (talked : List (Talked WireState)) → 1 ≤ number → IsLinked true number t dials talked
    → IsLinked true number (talks.heard_one ears learning.answers number wire t) (dials_after number (learned_here (t.ends number) number wire t) t.hub dials)
    (on_talked (takes (wire ∷ [])) talked)
unfolding talks.heard_one
own_one number wire t dials talked own x = own_by (t.ends number) number wire t dials talked own refl x

takes_more : (wire : WireState) (wires : List WireState) (talked : List (Talked WireState))
    → on_talked (takes wires) (on_talked (takes (wire ∷ [])) talked) ≡ on_talked (takes (wire ∷ wires)) talked
takes_more wire wires [] = refl
takes_more wire wires (k ∷ talked) = ap (λ (l : List WireState). record k { taken = l } ∷ talked) (append_assoc k.taken (wire ∷ []) wires)

takes_none : (talked : List (Talked WireState)) → on_talked (takes []) talked ≡ talked
takes_none [] = refl
takes_none (k ∷ talked) = ap (λ (l : List WireState). record k { taken = l } ∷ talked) (append-nil k.taken)

pub own_hears : (number : ℕ) (wires : List WireState) (t : Client) (dials : List Dial) (talked : List (Talked WireState)) → 1 ≤ number → IsLinked true number t dials talked
    → IsLinked true number (talks.heard_all ears learning.answers number wires t) (dials_after number (learned_in number wires t) t.hub dials) (on_talked (takes wires) talked)
own_hears number [] t dials talked own x = subst (λ (l : List (Talked WireState)). IsLinked true number t dials l) (sym (takes_none talked)) x
own_hears number (wire ∷ wires) t dials talked own x =
    subst (λ (l : List Dial). IsLinked true number (talks.heard_all ears learning.answers number (wire ∷ wires) t) l (on_talked (takes (wire ∷ wires)) talked))
    (then_dials number number wire wires t dials)
    (subst (λ (l : List (Talked WireState)). IsLinked true number (talks.heard_all ears learning.answers number (wire ∷ wires) t)
    (dials_after number (learned_in number wires (talks.heard_one ears learning.answers number wire t)) (talks.heard_one ears learning.answers number wire t).hub
    (dials_after number (learned_here (t.ends number) number wire t) t.hub dials)) l) (takes_more wire wires talked)
    (own_hears number wires (talks.heard_one ears learning.answers number wire t) (dials_after number (learned_here (t.ends number) number wire t) t.hub dials)
    (on_talked (takes (wire ∷ [])) talked) own (own_one number wire t dials talked own x)))

-- ---- a connection is opened

renewed_put : (more : List WireState) (o : Option MessageEnd) → PutIs (grown more (outs (learning.renewed_by o))) [] ([] ++ more)
renewed_put more None = (more, refl)
renewed_put more (Some e) = refl

anew_ends : (b : Bool) (number : ℕ) (t : Client) → b ≡ true → (cond b (set_end number (learning.renewed_by (t.ends number)) t.ends) t.ends) number ≡ learning.renewed_by (t.ends number)
anew_ends true number t is = set_same number (learning.renewed_by (t.ends number)) t.ends
anew_ends false number t is = absurd cc

pub opens_on : (b : Bool) (number : ℕ) (t : Client) (dials : List Dial) (talked : List (Talked WireState)) → begins_anew (link_of number t.hub) ≡ true
    → IsLinked b number t dials talked
    → IsLinked true number (learning.opened number t) (dials_after number (Goes (acts.Opens number) ∷ []) t.hub dials) (nothing_talked ∷ talked)
opens_on b number t dials talked anew x =
    let m = Goes (acts.Opens number) in
    let orders = own number (at_moment m t.hub).orders in record {
      is = same_servers number t.hub (at_moment m t.hub).client (moment_long m t.hub) x.is;
      holds = λ now. client_opens number t.hub x.is anew;
      dials_are = subst (λ c. DialsAre true number (learning.opened number t) (on_last (λ d. record d { put = d.put ++ puts_of orders }) (cond c (new_dial ∷ dials) dials)) (nothing_talked ∷ talked))
          (sym (same_is number)) (
            record {
              heard = tt;
              even = λ now there hears. refl;
              put = subst (λ (o : Option (List WireState)). PutIs o [] ([] ++ puts_of orders))
                  (sym (obeyed_outs orders (learning.end_renewed number t number)
                  ∙ ap (λ (o : Option MessageEnd). grown (puts_of orders) (outs o)) (anew_ends (begins_anew (link_of number t.hub)) number t anew)))
                  (renewed_put (puts_of orders) (t.ends number));
            },
            dials_over b number t dials talked x.dials_are,
          );
    }

-- one to another server
pub renewed_other : (b : Bool) (number server : ℕ) (end : Option MessageEnd) (t : Client) → (number == server) ≡ false
    → (cond b (set_end server end t.ends) t.ends) number ≡ t.ends number
renewed_other true number server end t differ = set_other number server end t.ends differ
renewed_other false number server end t differ = refl

-- ---- what was put is taken

cleared_dials : (b : Bool) (number : ℕ) (t : Client) (dials : List Dial) (talked : List (Talked WireState)) → DialsAre b number t dials talked
    → DialsAre b number (without_out number t) dials (on_talked (puts (out_of number t)) talked)
cleared_dials b number t [] [] x = tt
cleared_dials b number t [] (k ∷ talked) x = absurd x
cleared_dials b number t (d ∷ dials) [] x = absurd x
cleared_dials b number t (d ∷ dials) (k ∷ talked) x =
    let at = ap (λ (o : Option MessageEnd). outs o) (set_same number (emptied_by (t.ends number)) t.ends) in (
      record {
        heard = x.0.heard;
        even = λ now there hears. x.0.even now (sym (ap (λ (o : Option (List WireState)). is_some o) at ∙ emptied_some (t.ends number)) ∙ there) hears;
        put = subst (λ (o : Option (List WireState)). PutIs o (k.put ++ out_by (t.ends number)) d.put) (sym at) (emptied_put (t.ends number) k.put d.put x.0.put);
      },
      x.1,
    )

pub cleared_on : (b : Bool) (number : ℕ) (t : Client) (dials : List Dial) (talked : List (Talked WireState)) → IsLinked b number t dials talked
    → IsLinked b number (without_out number t) dials (on_talked (puts (out_of number t)) talked)
cleared_on b number t dials talked x = record { is = x.is; holds = x.holds; dials_are = cleared_dials b number t dials talked x.dials_are }

-- the same hub, and the same end
same_dials : (b : Bool) (number : ℕ) (t u : Client) (dials : List Dial) (talked : List (Talked WireState)) → u.hub ≡ t.hub → outs (u.ends number) ≡ outs (t.ends number)
    → DialsAre b number t dials talked → DialsAre b number u dials talked
same_dials b number t u [] [] hub same x = tt
same_dials b number t u [] (k ∷ talked) hub same x = absurd x
same_dials b number t u (d ∷ dials) [] hub same x = absurd x
same_dials b number t u (d ∷ dials) (k ∷ talked) hub same x = (
  record {
    heard = x.0.heard;
    even = λ now there hears. x.0.even now (sym (ap (λ (o : Option (List WireState)). is_some o) same) ∙ there) (sym (ap (λ (c : ClientState). (link_of number c).closes) hub) ∙ hears);
    put = subst (λ (o : Option (List WireState)). PutIs o k.put d.put) (sym same) x.0.put;
  },
  x.1,
)

pub other_cleared : (b : Bool) (number server : ℕ) (t : Client) (dials : List Dial) (talked : List (Talked WireState)) → (number == server) ≡ false → IsLinked b number t dials talked
    → IsLinked b number (without_out server t) dials talked
other_cleared b number server t dials talked differ x = record {
  is = x.is;
  holds = x.holds;
  dials_are = same_dials b number t (without_out server t) dials talked refl
      (ap (λ (o : Option MessageEnd). outs o) (set_other number server (emptied_by (t.ends server)) t.ends differ)) x.dials_are;
}
