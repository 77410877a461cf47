-- What the connections of a link tell, at each event of a client in a set.
use Rattle.std.proofs.Common.{◌≡◌, ◌≢◌, ℕ, ◌+◌, ◌-◌, ◌==◌, ◌≤◌, ◌&&◌, ◌||◌, nat_le, Bool, true, false, cond, List, [], ◌∷◌, ◌++◌, length, Option, refl, sym, ap, subst, ◌∙◌, arith}
use Rattle.std.proofs.lemmas.Bool.Decides.{nat_tests}
use Rattle.ua_channel.specs.State.{WireState}
use Rattle.message_ends.specs.Ends.{MessageEnd, MessageEnds}
use Rattle.message_ends.specs.Talk.{out_of, without_out}
use Rattle.link_rules.specs.declared.notice.Wish.TheVariants as wish
use Rattle.link_rules.specs.declared.phase.Phase.{Phase}
use Rattle.link_rules.specs.declared.phase.Phase.TheVariants as phase
use Rattle.link_rules.specs.Closing.{stands_in}
use Rattle.link_rules.specs.Opening.{begins_anew, is_apart}
use Rattle.link_rules.specs.State.{LinkState, new_link}
use Rattle.link_rules.specs.Step.{taken_in, wish_in, wish_of, wish_taken}
use Rattle.client_rules.specs.State.{ClientState, is_server, link_config, link_of, with_link}
use Rattle.client_rules.specs.Acts as acts
use Rattle.client_rules.specs.Step.{Ends, Goes, Moment, Takes, after, after_all, without_wish}
use Rattle.client_orders.specs.Holding.{HoldsConnection, IsBeside}
use Rattle.client_orders.proofs.Whole.{wish_opens}
use Rattle.client_messages.specs.Messages as learning
use Rattle.client_messages.proofs.Dialling.{at_set}
use Rattle.ua_client.specs.State as client
use Rattle.set_fronts.specs.Below.{Client}
use Rattle.set_fronts.specs.Noting.{NotedClient, Talked, noting, nothing_talked, of_link, on_last as on_talked, puts, takes}
use Rattle.set_talks.specs.Lives.{Dial, dials_after, new_dial}
use Rattle.set_histories.specs.Recording.{RecordedClient, event_of, learned_in, recording}
use Rattle.set_histories.proofs.Closing.{Closes}
use Rattle.set_histories.proofs.Dialled.{IsAside, IsCalm, IsLinked, Moves, all_long, calmly, cleared_on, dials_append, event_on, goes_on, gone, grown_nothing, opens_on, other_cleared, other_hears, own_hears, renewed_other, same_servers}
use Rattle.set_histories.proofs.Ends.{outs}
use Rattle.set_histories.proofs.Learning.{IsStated, at_one, hears_all, moments_append}
use Rattle.set_histories.proofs.Linking.{LinkKept}

abbrev Noted : Type 0
Noted = NotedClient RecordedClient WireState

-- ---- numbers

pub within_is : (number count : ℕ) → 1 ≤ number → number ≤ count → (nat_le 1 number && nat_le number count) ≡ true
within_is number count first last = both_true (nat_le 1 number) (nat_le number count) (grind (arith, nat_tests)) (grind (arith, nat_tests))
  where
    both_true : (a b : Bool) → a ≡ true → b ≡ true → (a && b) ≡ true
    both_true a b one other = ap (λ c. c && b) one ∙ other

same_number : (place : ℕ) → (place + 1 == place + 1) ≡ true
same_number place = grind (arith, nat_tests)

other_number : (place q : ℕ) → q ≢ place → (q + 1 == place + 1) ≡ false
other_number place q differ = by_test (q + 1 == place + 1) refl
  where
    by_test : (b : Bool) → (q + 1 == place + 1) ≡ b → b ≡ false
    by_test true is = let same : q ≡ place = grind (arith, nat_tests) in absurd (differ same)
    by_test false is = refl

other_way : (place q : ℕ) → (q + 1 == place + 1) ≡ false → (place + 1 == q + 1) ≡ false
other_way place q differ = grind (arith, nat_tests)

differs : (place q : ℕ) → q ≢ place → place + 1 ≢ q + 1
differs place q differ = λ same. absurd (differ (equal place q same))
  where
    equal : (place q : ℕ) → place + 1 ≡ q + 1 → q ≡ place
    equal place q same = omega (arith, same)

first_is : (place : ℕ) → 1 ≤ place + 1
first_is place = omega arith

-- ---- wishes

-- a wish that is taken changes this link alone
wish_at : (P : LinkState → Type 0) (b : Bool) (server number : ℕ) (c : ClientState) → (server - 1 ≡ number - 1 → P (wish_taken (link_of server c))) → P (link_of number c)
    → P (link_of number (cond b (with_link server (wish_taken (link_of server c)) c) c))
wish_at P true server number c own p = at_set P c.links (server - 1) (number - 1) (wish_taken (link_of server c)) (new_link (link_config c.config)) own p
wish_at P false server number c own p = p

apart : (server number : ℕ) → 1 ≤ server → 1 ≤ number → server ≢ number → server - 1 ≡ number - 1 → ⊥
apart server number first own differ same = absurd (differ (equal server number first own same))
  where
    equal : (server number : ℕ) → 1 ≤ server → 1 ≤ number → server - 1 ≡ number - 1 → server ≡ number
    equal server number first own same = omega (arith, first, own, same)

takes_moves : (number server : ℕ) (t : Client) → Moves number (Takes server) t (learning.without_wish_of server t)
takes_moves number server t = record { hub = refl; outs = sym (grown_nothing (outs (t.ends number))) }

takes_other : (b : Bool) (number server : ℕ) (c : ClientState) → 1 ≤ server → 1 ≤ number → server ≢ number → IsCalm b number (Takes server) c
takes_other b number server c first own differ = record {
  dials = λ dials. refl;
  holds = λ now holds. wish_at HoldsConnection (is_server server c) server number c (λ same. absurd (apart server number first own differ same)) holds;
  closes = λ now closes. wish_at Closes (is_server server c) server number c (λ same. absurd (apart server number first own differ same)) closes;
}

-- where no connection stands, nothing is asked of it
takes_none : (number server : ℕ) (c : ClientState) → IsCalm false number (Takes server) c
takes_none number server c = record { dials = λ dials. refl; holds = λ now. absurd cc; closes = λ now. absurd cc }

wished_is : (number : ℕ) (c : ClientState) → is_server number c ≡ true → client.wished number c ≡ wish_of (link_of number c)
wished_is number c is = ap (λ b. cond b (wish_of (link_of number c)) wish.None) is

stands_taken : (p : Phase) → stands_in (taken_in p) ≡ stands_in p
stands_taken (phase.Dialing taken) = refl
stands_taken other = refl

none_by : (b : Bool) (l : LinkState) → l.closes ≡ b → cond b wish.Close (wish_in l.phase) ≡ wish.None → HoldsConnection l → HoldsConnection (cond b (record l { closes = false }) (record l { phase = taken_in l.phase }))
none_by true l is e holds = absurd cc
none_by false l is e holds = ap (λ s. s || l.closes) (stands_taken l.phase) ∙ holds

none_closes : (b : Bool) (l : LinkState) → cond b wish.Close (wish_in l.phase) ≡ wish.None → Closes l → Closes (cond b (record l { closes = false }) (record l { phase = taken_in l.phase }))
none_closes true l e closes = absurd cc
none_closes false l e closes = closes

takes_own : (b : Bool) (number : ℕ) (c : ClientState) → is_server number c ≡ true → client.wished number c ≡ wish.None → IsCalm b number (Takes number) c
takes_own b number c is wishes =
    let l = link_of number c in
    let e : wish_of l ≡ wish.None = sym (wished_is number c is) ∙ wishes in record {
      dials = λ dials. refl;
      holds = λ now holds. wish_at HoldsConnection (is_server number c) number number c (λ same. none_by l.closes l refl e holds) holds;
      closes = λ now closes. wish_at Closes (is_server number c) number number c (λ same. none_closes l.closes l e closes) closes;
    }

dial_apart : (p : Phase) → wish_in p ≡ wish.Dial → is_apart (taken_in p) ≡ true
dial_apart (phase.Dialing false) e = refl
dial_apart (phase.Dialing true) e = refl
dial_apart phase.Idle e = refl
dial_apart other e = absurd cc

dial_by : (b : Bool) (l : LinkState) → cond b wish.Close (wish_in l.phase) ≡ wish.Dial → begins_anew (cond b (record l { closes = false }) (record l { phase = taken_in l.phase })) ≡ true
dial_by true l e = absurd cc
dial_by false l e = dial_apart l.phase e

dials_anew : (number : ℕ) (c : ClientState) → is_server number c ≡ true → client.wished number c ≡ wish.Dial → begins_anew (link_of number (without_wish number c)) ≡ true
dials_anew number c is wishes =
    let l = link_of number c in
    let e : wish_of l ≡ wish.Dial = sym (wished_is number c is) ∙ wishes in
    wish_at (λ (x : LinkState). begins_anew x ≡ true) (is_server number c) number number c (λ same. dial_by l.closes l e) (wish_opens l e).0

-- a link that wishes to dial has no connection
apart_stands : (p : Phase) → is_apart p ≡ true → stands_in p ≡ false
apart_stands phase.Idle e = refl
apart_stands (phase.Dialing taken) e = refl
apart_stands other e = absurd cc

holds_not : (a b : Bool) → a ≡ false → b ≡ false → (a || b) ≡ true → ⊥
holds_not true b none closes holds = absurd cc
holds_not false true none closes holds = absurd cc
holds_not false false none closes holds = absurd cc

dials_alone : (number : ℕ) (c : ClientState) → is_server number c ≡ true → client.wished number c ≡ wish.Dial → HoldsConnection (link_of number c) → ⊥
dials_alone number c is wishes holds =
    let l = link_of number c in
    let e : wish_of l ≡ wish.Dial = sym (wished_is number c is) ∙ wishes in
    let opens = wish_opens l e in holds_not (stands_in l.phase) l.closes (apart_stands l.phase opens.0) opens.1 holds

-- ---- the client of a set

module _ (count : ℕ) (first : ClientState) (long : length first.links ≡ count) where
  abbrev pub Told : ℕ → Bool → Noted → Type 0
  Told place b c = IsLinked b (place + 1) c.node.talk (dials_after (place + 1) c.node.moments first []) (c.dials (place + 1))

  -- it has the server
  has_server : (place : ℕ) (c : Noted) → place + 1 ≤ count → IsStated first c → is_server (place + 1) c.node.talk.hub ≡ true
  has_server place c within is =
      same_servers (place + 1) first c.node.talk.hub (ap (λ (s : ClientState). length s.links) is ∙ all_long c.node.moments first)
      (within_is (place + 1) (length first.links) (first_is place) (subst (λ n. place + 1 ≤ n) (sym long) within))

  -- with the moments of an event behind the others
  with_moments : (place : ℕ) (b : Bool) (moments more : List Moment) (t u : Client) (talked : List (Talked WireState)) → t.hub ≡ (after_all moments first).client
      → IsLinked b (place + 1) u (dials_after (place + 1) more t.hub (dials_after (place + 1) moments first [])) talked
      → IsLinked b (place + 1) u (dials_after (place + 1) (moments ++ more) first []) talked
  with_moments place b moments more t u talked is x =
      subst (λ (l : List Dial). IsLinked b (place + 1) u l talked)
      (ap (λ (c : ClientState). dials_after (place + 1) more c (dials_after (place + 1) moments first [])) is ∙ sym (dials_append (place + 1) moments more first [])) x

  talked_own : (place : ℕ) (b : Bool) (change : List (Talked WireState) → List (Talked WireState)) (t : Client) (l : List Dial) (dials : ℕ → List (Talked WireState))
      → IsLinked b (place + 1) t l (change (dials (place + 1))) → IsLinked b (place + 1) t l (of_link (place + 1) change dials (place + 1))
  talked_own place b change t l dials x =
      subst (λ c. IsLinked b (place + 1) t l (cond c (change (dials (place + 1))) (dials (place + 1)))) (sym (same_number place)) x

  talked_other : (place q : ℕ) (b : Bool) (change : List (Talked WireState) → List (Talked WireState)) (t : Client) (l : List Dial) (dials : ℕ → List (Talked WireState)) → q ≢ place
      → IsLinked b (q + 1) t l (dials (q + 1)) → IsLinked b (q + 1) t l (of_link (place + 1) change dials (q + 1))
  talked_other place q b change t l dials differ x =
      subst (λ c. IsLinked b (q + 1) t l (cond c (change (dials (q + 1))) (dials (q + 1)))) (sym (other_number place q differ)) x

  -- ---- wishes that are taken

  taken : (place q : ℕ) (b then : Bool) (c : Noted) → (then ≡ true → b ≡ true) → IsCalm then (q + 1) (Takes (place + 1)) c.node.talk.hub → IsStated first c → Told q b c
      → Told q then ((noting recording).wish_taken (place + 1) c)
  taken place q b then c stands calm is x =
      with_moments q then c.node.moments (Takes (place + 1) ∷ []) c.node.talk (learning.without_wish_of (place + 1) c.node.talk) (c.dials (q + 1)) is
      (calmly b then (q + 1) (Takes (place + 1)) c.node.talk (learning.without_wish_of (place + 1) c.node.talk) (dials_after (q + 1) c.node.moments first []) (c.dials (q + 1))
      stands calm (takes_moves (q + 1) (place + 1) c.node.talk) x)

  -- ---- events

  -- an event of any server that opens and hears nothing of this one
  aside_event : (here : Bool) (q : ℕ) (b then : Bool) (h : acts.Happening) (ends : MessageEnds) (c : Noted) → here ≡ true → (then ≡ true → b ≡ true)
      → outs (ends (q + 1)) ≡ outs (c.node.talk.ends (q + 1)) → IsAside (q + 1) h → (then ≡ true → IsBeside (q + 1) h) → IsStated first c → Told q b c
      → IsLinked then (q + 1) (cond here (learning.ended (learning.with_ends ends (after h c.node.talk.hub))) c.node.talk)
      (dials_after (q + 1) (c.node.moments ++ cond here (Goes h ∷ Ends ∷ []) []) first []) (c.dials (q + 1))
  aside_event here q b then h ends c has stands same aside beside is x =
      with_moments q then c.node.moments (cond here (Goes h ∷ Ends ∷ []) []) c.node.talk (cond here (learning.ended (learning.with_ends ends (after h c.node.talk.hub))) c.node.talk) (c.dials (q + 1)) is
      (event_on here then (q + 1) (Goes h ∷ []) c.node.talk (learning.with_ends ends (after h c.node.talk.hub)) (dials_after (q + 1) c.node.moments first []) (c.dials (q + 1)) has
      (sym (at_one (Goes h) c.node.talk.hub))
      (goes_on b then (q + 1) h ends c.node.talk (dials_after (q + 1) c.node.moments first []) (c.dials (q + 1)) (first_is q) stands same aside beside x))

  aside_opens : (place q : ℕ) → q ≢ place → IsAside (q + 1) (acts.Opens (place + 1))
  aside_opens place q differ c dials = ap (λ b. cond b (new_dial ∷ dials) dials) (other_way place q (other_number place q differ))

  opened_stated : (place : ℕ) (c : Noted) → IsStated first c → IsStated first ((noting recording).wish_taken (place + 1) c)
  opened_stated place c is =
      ap (λ (s : ClientState). without_wish (place + 1) s) is
      ∙ sym (moments_append c.node.moments (Takes (place + 1) ∷ []) first ∙ at_one (Takes (place + 1)) (after_all c.node.moments first).client)

  connects_own : (place : ℕ) (b : Bool) (c : Noted) → place + 1 ≤ count → IsStated first c → client.wished (place + 1) c.node.talk.hub ≡ wish.Dial → Told place b c
      → Told place true ((noting recording).connects (place + 1) ((noting recording).wish_taken (place + 1) c))
  connects_own place b c within is wishes x =
      let d = (noting recording).wish_taken (place + 1) c in
      let stated = opened_stated place c is in
      let ready : Told place false d = taken place place b false c (λ now. absurd cc) (takes_none (place + 1) (place + 1) c.node.talk.hub) is x in
      let old = dials_after (place + 1) d.node.moments first [] in
      talked_own place true (λ earlier. nothing_talked ∷ earlier) (learning.connects (place + 1) d.node.talk)
      (dials_after (place + 1) (d.node.moments ++ event_of (place + 1) d.node.talk (Goes (acts.Opens (place + 1)) ∷ [])) first []) d.dials
      (with_moments place true d.node.moments (event_of (place + 1) d.node.talk (Goes (acts.Opens (place + 1)) ∷ [])) d.node.talk (learning.connects (place + 1) d.node.talk)
      (nothing_talked ∷ d.dials (place + 1)) stated
      (event_on (is_server (place + 1) d.node.talk.hub) true (place + 1) (Goes (acts.Opens (place + 1)) ∷ []) d.node.talk (learning.opened (place + 1) d.node.talk) old
      (nothing_talked ∷ d.dials (place + 1)) (has_server place d within stated) (sym (at_one (Goes (acts.Opens (place + 1))) d.node.talk.hub))
      (opens_on false (place + 1) d.node.talk old (d.dials (place + 1)) (dials_anew (place + 1) c.node.talk.hub (has_server place c within is) wishes) ready)))

  refused_own : (place : ℕ) (b : Bool) (c : Noted) → place + 1 ≤ count → IsStated first c → client.wished (place + 1) c.node.talk.hub ≡ wish.Dial → Told place b c
      → Told place b ((noting recording).is_refused (place + 1) ((noting recording).wish_taken (place + 1) c))
  refused_own place true c within is wishes x = absurd (dials_alone (place + 1) c.node.talk.hub (has_server place c within is) wishes (x.holds refl))
  refused_own place false c within is wishes x =
      let d = (noting recording).wish_taken (place + 1) c in
      let stated = opened_stated place c is in
      aside_event (is_server (place + 1) d.node.talk.hub) place false false (acts.Refuses (place + 1)) d.node.talk.ends d (has_server place d within stated) (λ now. now) refl
      (λ s dials. refl) (λ now. absurd cc) stated
      (taken place place false false c (λ now. now) (takes_none (place + 1) (place + 1) c.node.talk.hub) is x)

  learns_own : (place : ℕ) (wires : List WireState) (c : Noted) → place + 1 ≤ count → IsStated first c → Told place true c
      → Told place true ((noting recording).learns (place + 1) wires c)
  learns_own place wires c within is x =
      let some = learned_in (place + 1) wires c.node.talk in
      let old = dials_after (place + 1) c.node.moments first [] in
      talked_own place true (on_talked (takes wires)) (learning.hears (place + 1) wires c.node.talk) (dials_after (place + 1) (c.node.moments ++ event_of (place + 1) c.node.talk some) first []) c.dials
      (with_moments place true c.node.moments (event_of (place + 1) c.node.talk some) c.node.talk (learning.hears (place + 1) wires c.node.talk) (on_talked (takes wires) (c.dials (place + 1))) is
      (event_on (is_server (place + 1) c.node.talk.hub) true (place + 1) some c.node.talk (learning.heard_of (place + 1) wires c.node.talk) old (on_talked (takes wires) (c.dials (place + 1)))
      (has_server place c within is) (hears_all (place + 1) wires c.node.talk)
      (own_hears (place + 1) wires c.node.talk old (c.dials (place + 1)) (first_is place) x)))

  learns_other : (place q : ℕ) (b : Bool) (wires : List WireState) (c : Noted) → place + 1 ≤ count → q ≢ place → IsStated first c → Told q b c
      → Told q b ((noting recording).learns (place + 1) wires c)
  learns_other place q b wires c within differ is x =
      let some = learned_in (place + 1) wires c.node.talk in
      let old = dials_after (q + 1) c.node.moments first [] in
      talked_other place q b (on_talked (takes wires)) (learning.hears (place + 1) wires c.node.talk) (dials_after (q + 1) (c.node.moments ++ event_of (place + 1) c.node.talk some) first []) c.dials differ
      (with_moments q b c.node.moments (event_of (place + 1) c.node.talk some) c.node.talk (learning.hears (place + 1) wires c.node.talk) (c.dials (q + 1)) is
      (event_on (is_server (place + 1) c.node.talk.hub) b (q + 1) some c.node.talk (learning.heard_of (place + 1) wires c.node.talk) old (c.dials (q + 1))
      (has_server place c within is) (hears_all (place + 1) wires c.node.talk)
      (other_hears b (q + 1) (place + 1) wires c.node.talk old (c.dials (q + 1)) (first_is q) (other_way place q (other_number place q differ)) x)))

  waits_on : (q : ℕ) (b : Bool) (ms : ℕ) (c : Noted) → IsStated first c → Told q b c → Told q b ((noting recording).waits ms c)
  waits_on q b ms c is x = aside_event true q b b (acts.Ticks ms) c.node.talk.ends c refl (λ now. now) refl (λ s dials. refl) (λ now. tt) is x

  cleared_by : (here : Bool) (place q : ℕ) (b : Bool) (c : Noted) → (q + 1 == place + 1) ≡ here → Told q b c
      → IsLinked b (q + 1) (without_out (place + 1) c.node.talk) (dials_after (q + 1) c.node.moments first [])
      (cond here (on_talked (puts (out_of (place + 1) c.node.talk)) (c.dials (q + 1))) (c.dials (q + 1)))
  cleared_by true place q b c same x =
      let e : q + 1 ≡ place + 1 = grind (arith, nat_tests) in
      subst (λ n. IsLinked b (q + 1) (without_out n c.node.talk) (dials_after (q + 1) c.node.moments first []) (on_talked (puts (out_of n c.node.talk)) (c.dials (q + 1)))) e
      (cleared_on b (q + 1) c.node.talk (dials_after (q + 1) c.node.moments first []) (c.dials (q + 1)) x)
  cleared_by false place q b c differ x = other_cleared b (q + 1) (place + 1) c.node.talk (dials_after (q + 1) c.node.moments first []) (c.dials (q + 1)) differ x

  pub links_kept : LinkKept (noting recording) (IsStated first) Told count
  links_kept = record {
    connects = λ place b c within is wishes x. connects_own place b c within is wishes x;
    is_refused = λ place b c within is wishes x. refused_own place b c within is wishes x;
    loses = λ place c within is x. aside_event (is_server (place + 1) c.node.talk.hub) place true false (acts.Closes (place + 1)) c.node.talk.ends c (has_server place c within is)
        (λ now. absurd cc) refl (λ s dials. refl) (λ now. absurd cc) is x;
    learns = λ place wires c within is x. learns_own place wires c within is x;
    none = λ place b c within is wishes x. taken place place b b c (λ now. now) (takes_own b (place + 1) c.node.talk.hub (has_server place c within is) wishes) is x;
    closes = λ place b c within is wishes x. taken place place b false c (λ now. absurd cc) (takes_none (place + 1) (place + 1) c.node.talk.hub) is x;
    gone = λ place b c within is x. gone b (place + 1) c.node.talk (dials_after (place + 1) c.node.moments first []) (c.dials (place + 1)) x;
    waits = λ place b ms c within is x. waits_on place b ms c is x;
    cleared = λ place q b c within also is x. cleared_by (q + 1 == place + 1) place q b c refl x;
    other_connects = λ place q b c within also differ is x.
        talked_other place q b (λ earlier. nothing_talked ∷ earlier) (learning.connects (place + 1) c.node.talk)
        (dials_after (q + 1) (c.node.moments ++ event_of (place + 1) c.node.talk (Goes (acts.Opens (place + 1)) ∷ [])) first []) c.dials differ
        (aside_event (is_server (place + 1) c.node.talk.hub) q b b (acts.Opens (place + 1)) (learning.end_renewed (place + 1) c.node.talk) c (has_server place c within is) (λ now. now)
        (ap (λ (o : Option MessageEnd). outs o) (renewed_other (begins_anew (link_of (place + 1) c.node.talk.hub)) (q + 1) (place + 1) (learning.renewed_by (c.node.talk.ends (place + 1))) c.node.talk
        (other_number place q differ))) (aside_opens place q differ) (λ now. differs place q differ) is x);
    other_refused = λ place q b c within also differ is x. aside_event (is_server (place + 1) c.node.talk.hub) q b b (acts.Refuses (place + 1)) c.node.talk.ends c (has_server place c within is)
        (λ now. now) refl (λ s dials. refl) (λ now. differs place q differ) is x;
    other_loses = λ place q b c within also differ is x. aside_event (is_server (place + 1) c.node.talk.hub) q b b (acts.Closes (place + 1)) c.node.talk.ends c (has_server place c within is)
        (λ now. now) refl (λ s dials. refl) (λ now. differs place q differ) is x;
    other_learns = λ place q b wires c within also differ is x. learns_other place q b wires c within differ is x;
    other_taken = λ place q b c within also differ is x. taken place q b b c (λ now. now)
        (takes_other b (q + 1) (place + 1) c.node.talk.hub (first_is place) (first_is q) (differs place q differ)) is x;
  }
