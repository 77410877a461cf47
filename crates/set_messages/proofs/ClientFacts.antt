-- What is known of the client, from the lemmas of the crates below.
use Rattle.std.proofs.Common.{◌≡◌, ◌≢◌, inr, ℕ, ◌==◌, ◌≤◌, ◌-◌, ◌&&◌, ◌||◌, nat_le, Bool, true, false, cond, List, [], ◌∷◌, length, Option, Some, None, refl, sym, ap, subst, ◌∙◌, arith}
use Rattle.std.proofs.lemmas.Bool.Decides.{nat_tests}
use Rattle.std.specs.List.{AllByRecursion}
use Rattle.ua_channel.specs.State.{ChannelState, WireState}
use Rattle.ua_channel.specs.Arriving.{Sent, bytes_of}
use Rattle.ua_channel.specs.Sharing.{emptied_by, end_at, taken_by}
use Rattle.ua_channel.specs.declared.heard.Heard.{Heard}
use Rattle.message_ends.specs.Ends.{MessageEnd}
use Rattle.message_ends.specs.Talk.{out_of, without_out}
use Rattle.message_ends.specs.Showing.{ShowsEnd, firsts_with}
use Rattle.message_ends.proofs.Lookups.{number_is}
use Rattle.message_ends.proofs.Ordering.{taken as emptied}
use Rattle.link_rules.specs.declared.notice.Wish.TheVariants as wish
use Rattle.link_rules.specs.declared.phase.Phase.{Phase}
use Rattle.link_rules.specs.declared.phase.Phase.TheVariants as phase
use Rattle.link_rules.specs.Closing.{stands_in}
use Rattle.link_rules.specs.Opening.{begins_anew, is_apart}
use Rattle.link_rules.specs.State.{LinkState, new_link}
use Rattle.link_rules.specs.Step.{taken_in, wish_in, wish_of, wish_taken}
use Rattle.client_rules.specs.State.{ClientState, is_server, link_config, link_of, with_link}
use Rattle.client_rules.specs.Acts.{Closes, Hears, Opens, Refuses, Ticks}
use Rattle.client_keeps.specs.Fitting.{FitsClient}
use Rattle.client_orders.specs.Holding.{HoldsConnection}
use Rattle.client_orders.proofs.Clients.{dialled_long, first_within}
use Rattle.client_orders.proofs.Whole.{client_holds, client_opens, dialled_holds, servers_stay, wish_opens}
use Rattle.client_cuts.proofs.Cutting.{taken_follows}
use Rattle.client_cuts.proofs.Holding.{bytes_hold}
use Rattle.client_cuts.proofs.Wishing.{wish_count}
use Rattle.ua_client.specs.declared.event.ClientEvent.{ClientEvent}
use Rattle.ua_client.specs.declared.event.ClientEvent.TheVariants as learned
use Rattle.ua_client.specs.State as client
use Rattle.ua_client.specs.State.{BytesState}
use Rattle.ua_client.specs.Step as learning
use Rattle.client_messages.specs.Messages as messages
use Rattle.client_messages.specs.Messages.{MessagesState}
use Rattle.client_messages.specs.Showing.{AllComeFit, Brings, ComesFit, IsBeside, Limits, Puts, PutsFrom, Stands, renewed_firsts, taken_firsts}
use Rattle.client_messages.proofs.Awaiting.{beside_expects, opened_expects}
use Rattle.client_messages.proofs.Dialling.{at_set}
use Rattle.client_messages.proofs.Events as events
use Rattle.client_messages.proofs.Hearing as hearing
use Rattle.client_messages.proofs.Ordering.{client_orders}
use Rattle.client_messages.proofs.Taking.{out_expects, out_put, out_taken, wish_stands}
use Rattle.set_messages.proofs.Facts.{ClientLaws, LinkHolds, OthersStay, SameServers}
use Rattle.set_messages.proofs.Flights.{IsMore}

-- ---- its servers

-- an event leaves as many links as there were
happened_long : (e : ClientEvent) (r : BytesState) → length (learning.happened e r).hub.links ≡ length r.hub.links
happened_long (learned.Opened number) r = servers_stay (Opens number) r.hub
happened_long (learned.Refused number) r = servers_stay (Refuses number) r.hub
happened_long (learned.Bytes number bytes) r = (taken_follows number bytes r).count
happened_long (learned.Closed number) r = servers_stay (Closes number) r.hub
happened_long (learned.Tick ms) r = servers_stay (Ticks ms) r.hub

stepped_long : (b : Bool) (r d : BytesState) → length d.hub.links ≡ length r.hub.links → length (cond b (learning.ended d) r).hub.links ≡ length r.hub.links
stepped_long true r d same = dialled_long d.hub ∙ same
stepped_long false r d same = refl

same_servers : (e : ClientEvent) (r : BytesState) → SameServers r (learning.stepped e r)
same_servers e r = λ k. ap (λ n. nat_le 1 k && nat_le k n)
    (stepped_long (learning.is_of_client e r.hub) r (learning.happened e r) (happened_long e r))

-- ---- connections that stand

-- a server whose link holds its connection
abbrev Held : ℕ → BytesState → Type 0
Held k r = (is_server k r.hub ≡ true) × LinkHolds k r

hears_held : (k number : ℕ) (h : Heard) (r : BytesState) → Held k r → Held k (learning.rest_answer number h r).0
hears_held k number h r held = (
  ap (λ n. nat_le 1 k && nat_le k n) (servers_stay (Hears number h) r.hub) ∙ held.0,
  client_holds k (Hears number h) r.hub held.0 tt held.1,
)

-- bytes end no connection
came_held : (found : Option ChannelState) (k number : ℕ) (bytes : List ℕ) (r : BytesState) → Held k r
    → Held k (taken_by (learning.rest_ears number) (learning.rest_answer number) learning.ends_of learning.put_ends found number bytes r)
came_held None k number bytes r held = held
came_held (Some c) k number bytes r held =
    bytes_hold (learning.rest_ears number) (learning.rest_answer number) (λ (core : BytesState). Held k core)
    (λ h core p. hears_held k number h core p) bytes (learning.apart number c r) held

taken_held : (k number : ℕ) (bytes : List ℕ) (r : BytesState) → Held k r → Held k (learning.taken number bytes r)
unfolding learning.taken
taken_held k number bytes r held = came_held (end_at number r.channels) k number bytes r held

-- the event opens, refuses and closes nothing of this server
abbrev EndsOther : ℕ → ClientEvent → Type 0
EndsOther k (learned.Opened number) = number ≢ k
EndsOther k (learned.Refused number) = number ≢ k
EndsOther k (learned.Bytes number bytes) = Unit {0}
EndsOther k (learned.Closed number) = number ≢ k
EndsOther k (learned.Tick ms) = Unit {0}

happened_holds : (e : ClientEvent) (k : ℕ) (r : BytesState) → is_server k r.hub ≡ true → EndsOther k e → LinkHolds k r → LinkHolds k (learning.happened e r)
happened_holds (learned.Opened number) k r is other holds = client_holds k (Opens number) r.hub is other holds
happened_holds (learned.Refused number) k r is other holds = client_holds k (Refuses number) r.hub is other holds
happened_holds (learned.Bytes number bytes) k r is other holds = (taken_held k number bytes r (is, holds)).1
happened_holds (learned.Closed number) k r is other holds = client_holds k (Closes number) r.hub is other holds
happened_holds (learned.Tick ms) k r is other holds = client_holds k (Ticks ms) r.hub is tt holds

stepped_by : (b : Bool) (k : ℕ) (r d : BytesState) → LinkHolds k r → LinkHolds k d → LinkHolds k (cond b (learning.ended d) r)
stepped_by true k r d before now = dialled_holds k d.hub now
stepped_by false k r d before now = before

stepped_holds : (e : ClientEvent) (k : ℕ) (r : BytesState) → is_server k r.hub ≡ true → EndsOther k e → LinkHolds k r → LinkHolds k (learning.stepped e r)
stepped_holds e k r is other holds =
    stepped_by (learning.is_of_client e r.hub) k r (learning.happened e r) holds (happened_holds e k r is other holds)

number_differs : (k number : ℕ) → (k == number) ≡ false → number ≡ k → ⊥
number_differs k number differ same = grind (arith, nat_tests)

differs : (k number : ℕ) → (k == number) ≡ false → number ≢ k
differs k number differ = λ same. number_differs k number differ same

others_stay : (number : ℕ) (e : ClientEvent) (r : BytesState) → ((k : ℕ) → (k == number) ≡ false → EndsOther k e) → ((k : ℕ) → (k == number) ≡ false → IsBeside k e)
    → OthersStay number r (learning.stepped e r)
others_stay number e r ends beside = λ k differ is holds. (
  stepped_holds e k r is (ends k differ) holds,
  λ next x. beside_expects e next k r (beside k differ) x,
)

-- ---- a connection that is opened

-- the numbers with which messages begin matter where there is an end
renumbered : (one other : ℕ → ℕ) (r : BytesState) (t : MessagesState)
    → ((k : ℕ) → ShowsEnd (one k) (end_at k r.channels) (t.ends k) → ShowsEnd (other k) (end_at k r.channels) (t.ends k))
    → Stands one r t → Stands other r t
renumbered one other r t still s = record {
  shows = record { hub = s.shows.hub; ends = λ k. still k (s.shows.ends k) };
  keeps = s.keeps;
  limits = s.limits;
  brings = s.brings;
}

and_true : (b : Bool) (first : ℕ) → cond (b && true) 1 first ≡ cond b 1 first
and_true true first = refl
and_true false first = refl

both_true : (a b : Bool) → a ≡ true → b ≡ true → (a && b) ≡ true
both_true a b first second = ap (λ c. c && b) first ∙ second

renewed_is : (number : ℕ) (c : ClientState) (firsts : ℕ → ℕ) (k : ℕ) → is_server number c ≡ true → begins_anew (link_of number c) ≡ true
    → renewed_firsts number c firsts k ≡ firsts_with number 1 firsts k
renewed_is number c firsts k is anew =
    ap (λ b. cond ((k == number) && b) 1 (firsts k)) (both_true (is_server number c) (begins_anew (link_of number c)) is anew)
    ∙ and_true (k == number) (firsts k)

connects : (number : ℕ) (firsts : ℕ → ℕ) (r : BytesState) (t : MessagesState) → is_server number r.hub ≡ true → begins_anew (link_of number r.hub) ≡ true
    → Stands firsts r t → Stands (firsts_with number 1 firsts) (learning.stepped (learned.Opened number) r) (messages.connects number t)
connects number firsts r t is anew s =
    renumbered (renewed_firsts number r.hub firsts) (firsts_with number 1 firsts) (learning.stepped (learned.Opened number) r) (messages.connects number t)
    (λ k shown. subst (λ n. ShowsEnd n (end_at k (learning.stepped (learned.Opened number) r).channels) ((messages.connects number t).ends k))
    (renewed_is number r.hub firsts k is anew) shown)
    (events.opened client_orders firsts number r t s)

opens_by : (b : Bool) (k : ℕ) (r d : BytesState) → b ≡ true → LinkHolds k d → LinkHolds k (cond b (learning.ended d) r)
opens_by true k r d is holds = dialled_holds k d.hub holds
opens_by false k r d is holds = absurd cc

opens_holds : (number : ℕ) (r : BytesState) → is_server number r.hub ≡ true → begins_anew (link_of number r.hub) ≡ true
    → LinkHolds number (learning.stepped (learned.Opened number) r)
opens_holds number r is anew =
    opens_by (is_server number r.hub) number r (learning.happened (learned.Opened number) r) is (client_opens number r.hub is anew)

-- ---- messages

all_fit : (sent : List Sent) → AllByRecursion (λ (m : Sent). ComesFit m.wire) sent → AllComeFit sent
all_fit [] fits = tt
all_fit (m ∷ sent) fits = (fits.0, all_fit sent fits.1)

more_is : (first : ℕ) (c : ChannelState) (bytes : List ℕ) (wires : List WireState) → PutsFrom first c bytes wires
    → IsMore Brings first c.sending.next bytes wires
more_is first c bytes wires put = record { sent = put.sent; wires_are = put.wires; bytes_are = put.bytes; chain = put.chain; fits = put.brings }

was_put : (firsts : ℕ → ℕ) (number : ℕ) (c : ChannelState) (r : BytesState) (t : MessagesState) → end_at number r.channels ≡ Some c → Stands firsts r t
    → IsMore Brings (firsts number) c.sending.next (client.out_of number r) (out_of number t)
was_put firsts number c r t is s =
    more_is (firsts number) c (client.out_of number r) (out_of number t)
    (subst (λ (x : Option ChannelState). Puts (firsts number) x (client.out_of number r) (out_of number t)) is (out_put firsts number r t s))

-- where no end stands, no number counts
anywhere : (m n : ℕ) (o : Option ChannelState) (e : Option MessageEnd) → o ≡ None → ShowsEnd m o e → ShowsEnd n o e
anywhere m n None None none s = tt
anywhere m n None (Some e) none s = s
anywhere m n (Some c) e none s = absurd cc

nowhere_by : (b : Bool) (number k : ℕ) (firsts : ℕ → ℕ) (next : ℕ) (o : Option ChannelState) (e : Option MessageEnd) → (b ≡ true → o ≡ None)
    → ShowsEnd (cond b next (firsts k)) o e → ShowsEnd (firsts k) o e
nowhere_by true number k firsts next o e none s = anywhere next (firsts k) o e (none refl) s
nowhere_by false number k firsts next o e none s = s

put_nowhere : (firsts : ℕ → ℕ) (number : ℕ) (r : BytesState) (t : MessagesState) → end_at number r.channels ≡ None → Stands firsts r t
    → (client.out_of number r ≡ []) × (out_of number t ≡ []) × Stands firsts (client.without_out number r) (without_out number t)
put_nowhere firsts number r t none s =
    let after : BytesState = client.without_out number r in
    let put : Puts (firsts number) None (client.out_of number r) (out_of number t) =
    subst (λ (x : Option ChannelState). Puts (firsts number) x (client.out_of number r) (out_of number t)) none (out_put firsts number r t s) in
    let still : end_at number after.channels ≡ None =
    ap (λ (o : Option ChannelState). end_at number (emptied_by o number r.channels)) none ∙ none in (
      put.0,
      put.1,
      renumbered (taken_firsts number r firsts) firsts after (without_out number t)
          (λ k shown. nowhere_by (k == number) number k firsts _ (end_at k after.channels) ((without_out number t).ends k)
          (λ is. ap (λ n. end_at n after.channels) (number_is k number is) ∙ still) shown)
          (out_taken firsts number r t s),
    )

-- ---- wishes

-- a wish that is taken changes this link alone
wish_at : (P : LinkState → Type 0) (b : Bool) (number k : ℕ) (c : ClientState) → (number - 1 ≡ k - 1 → P (wish_taken (link_of number c)))
    → P (link_of k c) → P (link_of k (cond b (with_link number (wish_taken (link_of number c)) c) c))
wish_at P true number k c own p =
    at_set P c.links (number - 1) (k - 1) (wish_taken (link_of number c)) (new_link (link_config c.config)) own p
wish_at P false number k c own p = p

places_differ : (k number : ℕ) → (k == number) ≡ false → 1 ≤ k → 1 ≤ number → number - 1 ≡ k - 1 → ⊥
places_differ k number differ first also same = let differs : k ≢ number = λ e. number_differs k number differ (sym e) in grind (arith, nat_tests)

wish_others : (number : ℕ) (r : BytesState) → is_server number r.hub ≡ true → OthersStay number r (record r { hub = client.without_wish number r.hub })
wish_others number r known = λ k differ is holds. (
  wish_at HoldsConnection (is_server number r.hub) number k r.hub
      (λ same. absurd (places_differ k number differ (first_within k (length r.hub.links) is) (first_within number (length r.hub.links) known) same)) holds,
  λ next x. x,
)

wish_servers : (number : ℕ) (r : BytesState) → SameServers r (record r { hub = client.without_wish number r.hub })
wish_servers number r = λ k. ap (λ n. nat_le 1 k && nat_le k n) (wish_count number r.hub)

wished_is : (number : ℕ) (c : ClientState) → is_server number c ≡ true → client.wished number c ≡ wish_of (link_of number c)
wished_is number c is = ap (λ b. cond b (wish_of (link_of number c)) wish.None) is

dial_apart : (p : Phase) → wish_in p ≡ wish.Dial → is_apart (taken_in p) ≡ true
dial_apart (phase.Dialing false) e = refl
dial_apart (phase.Dialing true) e = refl
dial_apart phase.Idle e = refl
dial_apart other e = absurd cc

dial_by : (b : Bool) (l : LinkState) → cond b wish.Close (wish_in l.phase) ≡ wish.Dial
    → begins_anew (cond b (record l { closes = false }) (record l { phase = taken_in l.phase })) ≡ true
dial_by true l e = absurd cc
dial_by false l e = dial_apart l.phase e

dials : (number : ℕ) (r : BytesState) → is_server number r.hub ≡ true → client.wished number r.hub ≡ wish.Dial
    → begins_anew (link_of number (client.without_wish number r.hub)) ≡ true
dials number r is e =
    let l : LinkState = link_of number r.hub in
    let wishes : wish_of l ≡ wish.Dial = sym (wished_is number r.hub is) ∙ e in
    wish_at (λ (x : LinkState). begins_anew x ≡ true) (is_server number r.hub) number number r.hub (λ same. dial_by l.closes l wishes) (wish_opens l wishes).0

-- a link that wishes to dial has no connection
apart_stands : (p : Phase) → is_apart p ≡ true → stands_in p ≡ false
apart_stands phase.Idle e = refl
apart_stands (phase.Dialing taken) e = refl
apart_stands other e = absurd cc

holds_not : (a b : Bool) → a ≡ false → b ≡ false → (a || b) ≡ true → ⊥
holds_not a b none closes holds = absurd (false_true (sym (ap (λ x. x || b) none ∙ closes) ∙ holds))
  where
    false_true : false ≡ true → ⊥
    false_true e = absurd cc

dials_alone : (number : ℕ) (r : BytesState) → is_server number r.hub ≡ true → client.wished number r.hub ≡ wish.Dial → LinkHolds number r → ⊥
dials_alone number r is e holds =
    let l : LinkState = link_of number r.hub in
    let wishes : wish_of l ≡ wish.Dial = sym (wished_is number r.hub is) ∙ e in
    let opens = wish_opens l wishes in
    holds_not (stands_in l.phase) l.closes (apart_stands l.phase opens.0) opens.1 holds

stands_taken : (p : Phase) → stands_in (taken_in p) ≡ stands_in p
stands_taken (phase.Dialing taken) = refl
stands_taken other = refl

none_by : (b : Bool) (l : LinkState) → cond b wish.Close (wish_in l.phase) ≡ wish.None → HoldsConnection l
    → HoldsConnection (cond b (record l { closes = false }) (record l { phase = taken_in l.phase }))
none_by true l e holds = absurd cc
none_by false l e holds = ap (λ s. s || l.closes) (stands_taken l.phase) ∙ holds

wishes_none : (number : ℕ) (r : BytesState) → is_server number r.hub ≡ true → client.wished number r.hub ≡ wish.None → LinkHolds number r
    → LinkHolds number (record r { hub = client.without_wish number r.hub })
wishes_none number r is e holds =
    let l : LinkState = link_of number r.hub in
    let wishes : wish_of l ≡ wish.None = sym (wished_is number r.hub is) ∙ e in
    wish_at HoldsConnection (is_server number r.hub) number number r.hub (λ same. none_by l.closes l wishes holds) holds

-- ---- all of it

pub client_laws : ClientLaws Stands
client_laws = record {
  hub = λ firsts r t s. s.shows.hub;
  connects = λ number firsts r t is anew s. (
    connects number firsts r t is anew s,
    opened_expects number r is anew,
    opens_holds number r is anew,
    others_stay number (learned.Opened number) r (λ k differ. differs k number differ) (λ k differ. differs k number differ),
    same_servers (learned.Opened number) r,
  );
  refused = λ number firsts r t is s. (
    events.refused client_orders firsts number r t s,
    others_stay number (learned.Refused number) r (λ k differ. differs k number differ) (λ k differ. tt),
    same_servers (learned.Refused number) r,
  );
  closed = λ number firsts r t is s. (
    events.closed client_orders firsts number r t s,
    others_stay number (learned.Closed number) r (λ k differ. differs k number differ) (λ k differ. tt),
    same_servers (learned.Closed number) r,
  );
  waited = λ ms firsts r t s. (
    events.waited client_orders firsts ms r t s,
    others_stay 0 (learned.Tick ms) r (λ k differ. tt) (λ k differ. tt),
    same_servers (learned.Tick ms) r,
  );
  heard = λ number first next firsts sent r t is fits chain awaits s. (
    hearing.hears client_orders firsts number first next sent r t (all_fit sent fits) chain (inr awaits) s,
    hearing.heard_expects client_orders firsts number first next sent r t (all_fit sent fits) chain (inr awaits) is s,
    λ holds. stepped_holds (learned.Bytes number (bytes_of sent)) number r is tt holds,
    others_stay number (learned.Bytes number (bytes_of sent)) r (λ k differ. tt) (λ k differ. differs k number differ),
    same_servers (learned.Bytes number (bytes_of sent)) r,
  );
  put = was_put;
  put_nowhere = put_nowhere;
  taken = λ firsts number r t s. emptied FitsClient Limits Brings firsts number r t s;
  still = λ number other next r x. out_expects number other next r x;
  wish_taken = λ number firsts r t is s. (wish_stands firsts number r t s, wish_others number r is, wish_servers number r);
  dials = dials;
  dials_alone = dials_alone;
  wishes_none = wishes_none;
}
