-- Orders that all ends of a node obey.
use Rattle.std.proofs.Common.{◌≡◌, ℕ, ◌==◌, Bool, true, false, cond, List, [], ◌∷◌, ◌++◌, Option, Some, None, is_some, refl, sym, ap, subst, ◌∙◌}
use Rattle.ua_chunks.specs.Sending.{Sending, limit_of}
use Rattle.ua_channel.specs.declared.ear.Ear.{Ear}
use Rattle.ua_channel.specs.declared.ear.Ear.TheVariants as ear
use Rattle.ua_channel.specs.declared.heard.Heard.{Heard}
use Rattle.ua_channel.specs.declared.hub.Rest.{Rest}
use Rattle.ua_channel.specs.declared.wire.Order.{Order}
use Rattle.ua_channel.specs.declared.wire.Order.TheVariants as order
use Rattle.ua_channel.specs.State.{ChannelState, WireState}
use Rattle.ua_channel.specs.Orders as bytes
use Rattle.ua_channel.specs.Messages.{MessageState, obeyed_message, obeyed_messages}
use Rattle.ua_channel.specs.Node.{node_of}
use Rattle.ua_channel.specs.Arriving.{AreLawful, Mirrors, after_order, after_orders}
use Rattle.ua_channel.specs.Sharing.{Ends, end_at, emptied_by as bytes_emptied_by, obeyed_each as bytes_obeyed_each, own}
use Rattle.ua_channel.proofs.Showing.{expects_obeyed, shows_ordered}
use Rattle.message_ends.specs.Ends.{MessageEnd, MessageEnds, emptied, emptied_by, obeyed, obeyed_all, obeyed_by, obeyed_each, out_by, set_end}
use Rattle.message_ends.specs.Talk.{Talk, without_out}
use Rattle.message_ends.specs.Showing.{AllBring, EndShows, ExpectsIn, LimitIn, OrderBrings, OrdersBring, ShowsEnd, Stands, firsts_with, next_in}
use Rattle.message_ends.proofs.Lookups.{each_obeyed, end_apart, end_found, number_is, obeyed_in, other_way, same_number}

-- ---- an end is no node with a core

-- orders change nothing of what is awaited
pub expects_in : (orders : List Order) (next : ℕ) (end : Option ChannelState) → ExpectsIn next end → ExpectsIn next (obeyed_in orders end)
expects_in orders next None x = tt
expects_in orders next (Some c) x = expects_obeyed orders next c x

-- what puts on it then
done_sends : (o : Order) (c : ChannelState) → (bytes.done o c).sending ≡ after_order o c.sending
unfolding bytes.put_on
done_sends (order.Put w) c = refl
done_sends (order.Limit l) c = refl
done_sends (order.Renew channel token) c = refl

lawful_fits : (o : Order) (orders : List Order) (s : Sending) → AreLawful (o ∷ orders) s → bytes.fits_in o s ≡ true
lawful_fits (order.Put w) orders s lawful = lawful.0.4
lawful_fits (order.Limit l) orders s lawful = refl
lawful_fits (order.Renew channel token) orders s lawful = refl

obeyed_sends : (o : Order) (orders : List Order) (c : ChannelState) → AreLawful (o ∷ orders) c.sending → (bytes.obeyed o c).sending ≡ after_order o c.sending
obeyed_sends o orders c lawful =
    ap (λ b. (cond b (bytes.done o c) (bytes.undone o c)).sending) (lawful_fits o orders c.sending lawful) ∙ done_sends o c

pub sends_after : (orders : List Order) (c : ChannelState) → AreLawful orders c.sending → (bytes.obeyed_all orders c).sending ≡ after_orders orders c.sending
sends_after [] c lawful = refl
sends_after (o ∷ orders) c lawful =
    let e = obeyed_sends o orders c lawful in
    sends_after orders (bytes.obeyed o c) (subst (AreLawful orders) (sym e) lawful.1) ∙ ap (after_orders orders) e

-- ---- an end that obeys is shown

same_one : {C : Type 0} (o : Order) (core : C) (e : MessageEnd)
    → obeyed_message o (record { core = core; tokens = e.tokens; out = e.out }) ≡ record { core = core; tokens = (obeyed o e).tokens; out = (obeyed o e).out }
same_one (order.Put w) core e = refl
same_one (order.Limit l) core e = refl
same_one (order.Renew channel token) core e = refl

pub same_messages : {C : Type 0} (orders : List Order) (core : C) (e : MessageEnd)
    → obeyed_messages orders (record { core = core; tokens = e.tokens; out = e.out })
    ≡ record { core = core; tokens = (obeyed_all orders e).tokens; out = (obeyed_all orders e).out }
same_messages [] core e = refl
same_messages (o ∷ orders) core e = ap (obeyed_messages orders) (same_one o core e) ∙ same_messages orders core (obeyed o e)

no_ears : Bool → Ear
no_ears b = ear.Deaf

no_answer : Heard → Bool → Bool × List Order
no_answer h b = (b, [])

pub end_obeys : (first : ℕ) (orders : List Order) (c : ChannelState) (e : MessageEnd) → AreLawful orders c.sending → EndShows first c e
    → EndShows first (bytes.obeyed_all orders c) (obeyed_all orders e)
end_obeys first orders c e lawful s =
    let k : MessageState Bool = record { core = true; tokens = e.tokens; out = e.out } in
    let before : Mirrors first (node_of true c) k = record {
      core = refl;
      tokens = s.tokens;
      sending = s.sending;
      sent = s.sent;
      wires = s.wires;
      bytes = s.bytes;
      chain = s.chain;
    } in
    let after = subst (Mirrors first (node_of true (bytes.obeyed_all orders c))) (same_messages orders true e)
    (shows_ordered no_ears no_answer first orders (node_of true c) k lawful before) in
    record { tokens = after.tokens; sending = after.sending; sent = after.sent; wires = after.wires; bytes = after.bytes; chain = after.chain }

-- ---- what is put

module _ (Brings : WireState → Type 0) where
  abbrev pub AllOrdersBring : List Order → Type 0
  AllOrdersBring [] = Unit {0}
  AllOrdersBring (o ∷ orders) = OrderBrings Brings o × AllOrdersBring orders

  own_by : (b : Bool) (o : Order) (rest : List Order) → OrderBrings Brings o → AllOrdersBring rest → AllOrdersBring (cond b (o ∷ []) [] ++ rest)
  own_by true o rest one all = (one, all)
  own_by false o rest one all = all

  own_bring : (k : ℕ) (orders : List (ℕ × Order)) → OrdersBring Brings orders → AllOrdersBring (own k orders)
  own_bring k [] all = tt
  own_bring k (o ∷ orders) all = own_by (o.0 == k) o.1 (own k orders) all.0 (own_bring k orders all.1)

  brings_more : (out : List WireState) (w : WireState) → AllBring Brings out → Brings w → AllBring Brings (out ++ w ∷ [])
  brings_more [] w all one = (one, tt)
  brings_more (x ∷ out) w all one = (all.0, brings_more out w all.1 one)

  brings_one : (o : Order) (e : MessageEnd) → OrderBrings Brings o → AllBring Brings e.out → AllBring Brings (obeyed o e).out
  brings_one (order.Put w) e one all = brings_more e.out w all one
  brings_one (order.Limit l) e one all = all
  brings_one (order.Renew channel token) e one all = all

  brings_all : (orders : List Order) (e : MessageEnd) → AllOrdersBring orders → AllBring Brings e.out → AllBring Brings (obeyed_all orders e).out
  brings_all [] e ones all = all
  brings_all (o ∷ orders) e ones all = brings_all orders (obeyed o e) ones.1 (brings_one o e ones.0 all)

  brings_in : (orders : List Order) (e : Option MessageEnd) → AllOrdersBring orders → AllBring Brings (out_by e) → AllBring Brings (out_by (obeyed_by orders e))
  brings_in orders None ones all = tt
  brings_in orders (Some e) ones all = brings_all orders e ones all

  -- what all ends put then
  pub bring_each : (k : ℕ) (orders : List (ℕ × Order)) (e : Option MessageEnd) → OrdersBring Brings orders → AllBring Brings (out_by e)
      → AllBring Brings (out_by (obeyed_by (own k orders) e))
  bring_each k orders e ones all = brings_in (own k orders) e (own_bring k orders ones) all

-- ---- the rules of a hub

-- what it orders of a connection is lawful where it knows the end's limits, and it knows them then
abbrev pub IsLawfulFor : {H : Type 0} → (ℕ → ℕ → H → Type 0) → ℕ → List (ℕ × Order) → H → H → Type 0
IsLawfulFor Limits number orders before after =
    (s : Sending) → Limits number (limit_of s) before
    → AreLawful (own number orders) s × Limits number (limit_of (after_orders (own number orders) s)) after

module _ {H : Type 0} (Limits : ℕ → ℕ → H → Type 0) where
  -- an end that obeys is shown, and its limits are known
  pub obeys_in : (number first : ℕ) (orders : List (ℕ × Order)) (before after : H) (end : Option ChannelState) (e : Option MessageEnd)
      → IsLawfulFor Limits number orders before after → LimitIn Limits end number before → ShowsEnd first end e
      → ShowsEnd first (obeyed_in (own number orders) end) (obeyed_by (own number orders) e)
      × LimitIn Limits (obeyed_in (own number orders) end) number after
  obeys_in number first orders before after None None lawful limit s = (tt, tt)
  obeys_in number first orders before after None (Some e) lawful limit s = absurd s
  obeys_in number first orders before after (Some c) None lawful limit s = absurd s
  obeys_in number first orders before after (Some c) (Some e) lawful limit s =
      let is = lawful c.sending limit in (
        end_obeys first (own number orders) c e is.0 s,
        subst (λ (x : Sending). Limits number (limit_of x) after) (sym (sends_after (own number orders) c is.0)) is.1,
      )

module _ {H : Type 0} (Keeps : H → Type 0) (Limits : ℕ → ℕ → H → Type 0) (Brings : WireState → Type 0) where
  -- a hub that became another one, and all ends obey its orders
  pub ordered : (firsts : ℕ → ℕ) (orders : List (ℕ × Order)) (after : H) (r : Rest H) (t : Talk H)
      → ((number : ℕ) → IsLawfulFor Limits number orders r.hub after) → Keeps after → OrdersBring Brings orders → Stands Keeps Limits Brings firsts r t
      → Stands Keeps Limits Brings firsts (record { hub = after; channels = bytes_obeyed_each orders r.channels })
      (record { hub = after; ends = obeyed_each orders t.ends })
  ordered firsts orders after r t lawful keeps brings s =
      let ends = λ (k : ℕ). obeys_in Limits k (firsts k) orders r.hub after (end_at k r.channels) (t.ends k) (lawful k) (s.limits k) (s.shows.ends k) in
      record {
        shows = record {
          hub = refl;
          ends = λ k. subst (λ (x : Option ChannelState). ShowsEnd (firsts k) x (obeyed_by (own k orders) (t.ends k))) (sym (each_obeyed k orders r.channels)) (ends k).0;
        };
        keeps = keeps;
        limits = λ k. subst (λ (x : Option ChannelState). LimitIn Limits x k after) (sym (each_obeyed k orders r.channels)) (ends k).1;
        brings = λ k. bring_each Brings k orders (t.ends k) brings (s.brings k);
      }

-- orders change nothing of what is awaited, at any end
pub expects_each : (k next : ℕ) (orders : List (ℕ × Order)) (ends : Ends) → ExpectsIn next (end_at k ends) → ExpectsIn next (end_at k (bytes_obeyed_each orders ends))
expects_each k next orders ends x =
    subst (ExpectsIn next) (sym (each_obeyed k orders ends)) (expects_in (own k orders) next (end_at k ends) x)

-- ---- what was put is taken

set_by : (b : Bool) (e f : Option MessageEnd) → b ≡ true → cond b e f ≡ e
set_by b e f is = ap (λ x. cond x e f) is

pub set_same : (conn : ℕ) (e : Option MessageEnd) (ends : MessageEnds) → set_end conn e ends conn ≡ e
set_same conn e ends = set_by (conn == conn) e (ends conn) (same_number conn)

pub set_apart : (conn k : ℕ) (e : Option MessageEnd) (ends : MessageEnds) → (k == conn) ≡ false → set_end conn e ends k ≡ ends k
set_apart conn k e ends differ = ap (λ x. cond x e (ends k)) differ

abbrev emptied_end : Option ChannelState → Option ChannelState
emptied_end None = None
emptied_end (Some c) = Some (record c { out = [] })

emptied_same_by : (found : Option ChannelState) (conn : ℕ) (ends : Ends) → end_at conn ends ≡ found → end_at conn (bytes_emptied_by found conn ends) ≡ emptied_end found
emptied_same_by None conn ends e = e
emptied_same_by (Some c) conn ends e = end_found conn (record c { out = [] }) ends (ap (λ (o : Option ChannelState). is_some o) e)

emptied_apart_by : (found : Option ChannelState) (conn k : ℕ) (ends : Ends) → (k == conn) ≡ false → end_at k (bytes_emptied_by found conn ends) ≡ end_at k ends
emptied_apart_by None conn k ends differ = refl
emptied_apart_by (Some c) conn k ends differ = end_apart k conn (record c { out = [] }) ends (other_way k conn differ)

emptied_shows : (first : ℕ) (end : Option ChannelState) (e : Option MessageEnd) → ShowsEnd first end e → ShowsEnd (next_in end) (emptied_end end) (emptied_by e)
emptied_shows first None None s = tt
emptied_shows first None (Some e) s = s
emptied_shows first (Some c) None s = s
emptied_shows first (Some c) (Some e) s = record { tokens = s.tokens; sending = s.sending; sent = []; wires = refl; bytes = refl; chain = refl }

nothing_put : (Brings : WireState → Type 0) (e : Option MessageEnd) → AllBring Brings (out_by (emptied_by e))
nothing_put Brings None = tt
nothing_put Brings (Some e) = tt

awaits_emptied : (next : ℕ) (end : Option ChannelState) → ExpectsIn next end → ExpectsIn next (emptied_end end)
awaits_emptied next None x = tt
awaits_emptied next (Some c) x = record { number = x.number; chunks = x.chunks; body = x.body; fault = x.fault; between = x.between }

limit_emptied : {H : Type 0} (Limits : ℕ → ℕ → H → Type 0) (end : Option ChannelState) (k : ℕ) (hub : H) → LimitIn Limits end k hub → LimitIn Limits (emptied_end end) k hub
limit_emptied Limits None k hub l = tt
limit_emptied Limits (Some c) k hub l = l

-- what is there then, at each end
emptied_at : (b : Bool) (conn k : ℕ) (ends : Ends) → (k == conn) ≡ b
    → end_at k (bytes_emptied_by (end_at conn ends) conn ends) ≡ cond b (emptied_end (end_at k ends)) (end_at k ends)
emptied_at true conn k ends e =
    subst (λ (x : ℕ). end_at x (bytes_emptied_by (end_at conn ends) conn ends) ≡ emptied_end (end_at x ends)) (sym (number_is k conn e))
    (emptied_same_by (end_at conn ends) conn ends refl)
emptied_at false conn k ends e = emptied_apart_by (end_at conn ends) conn k ends e

left_at : (b : Bool) (conn k : ℕ) (ends : MessageEnds) → (k == conn) ≡ b → emptied conn ends k ≡ cond b (emptied_by (ends k)) (ends k)
left_at true conn k ends e =
    subst (λ (x : ℕ). emptied conn ends x ≡ emptied_by (ends x)) (sym (number_is k conn e)) (set_same conn (emptied_by (ends conn)) ends)
left_at false conn k ends e = set_apart conn k (emptied_by (ends conn)) ends e

first_at : (b : Bool) (conn k : ℕ) (firsts : ℕ → ℕ) (ends : Ends) → (k == conn) ≡ b
    → firsts_with conn (next_in (end_at conn ends)) firsts k ≡ cond b (next_in (end_at k ends)) (firsts k)
first_at true conn k firsts ends e =
    subst (λ (x : ℕ). firsts_with conn (next_in (end_at conn ends)) firsts x ≡ next_in (end_at x ends)) (sym (number_is k conn e))
    (ap (λ x. cond x (next_in (end_at conn ends)) (firsts conn)) (same_number conn))
first_at false conn k firsts ends e = ap (λ x. cond x (next_in (end_at conn ends)) (firsts k)) e

shows_by : (b : Bool) (first : ℕ) (end : Option ChannelState) (e : Option MessageEnd) → ShowsEnd first end e
    → ShowsEnd (cond b (next_in end) first) (cond b (emptied_end end) end) (cond b (emptied_by e) e)
shows_by true first end e s = emptied_shows first end e s
shows_by false first end e s = s

shows_left : (firsts : ℕ → ℕ) (conn k : ℕ) (ends : Ends) (shown : MessageEnds) → ShowsEnd (firsts k) (end_at k ends) (shown k)
    → ShowsEnd (firsts_with conn (next_in (end_at conn ends)) firsts k) (end_at k (bytes_emptied_by (end_at conn ends) conn ends)) (emptied conn shown k)
shows_left firsts conn k ends shown s =
    let b = k == conn in
    subst (λ (n : ℕ). ShowsEnd n (end_at k (bytes_emptied_by (end_at conn ends) conn ends)) (emptied conn shown k)) (sym (first_at b conn k firsts ends refl))
    (subst (λ (c : Option ChannelState). ShowsEnd (cond b (next_in (end_at k ends)) (firsts k)) c (emptied conn shown k)) (sym (emptied_at b conn k ends refl))
    (subst (λ (e : Option MessageEnd). ShowsEnd (cond b (next_in (end_at k ends)) (firsts k)) (cond b (emptied_end (end_at k ends)) (end_at k ends)) e)
    (sym (left_at b conn k shown refl))
    (shows_by b (firsts k) (end_at k ends) (shown k) s)))

awaits_by : (b : Bool) (next : ℕ) (end : Option ChannelState) → ExpectsIn next end → ExpectsIn next (cond b (emptied_end end) end)
awaits_by true next end x = awaits_emptied next end x
awaits_by false next end x = x

-- that what was put is taken changes nothing of what is awaited
pub expects_emptied : (conn k next : ℕ) (ends : Ends) → ExpectsIn next (end_at k ends)
    → ExpectsIn next (end_at k (bytes_emptied_by (end_at conn ends) conn ends))
expects_emptied conn k next ends x =
    subst (ExpectsIn next) (sym (emptied_at (k == conn) conn k ends refl)) (awaits_by (k == conn) next (end_at k ends) x)

module _ {H : Type 0} (Keeps : H → Type 0) (Limits : ℕ → ℕ → H → Type 0) (Brings : WireState → Type 0) where
  limit_by : (b : Bool) (end : Option ChannelState) (k : ℕ) (hub : H) → LimitIn Limits end k hub → LimitIn Limits (cond b (emptied_end end) end) k hub
  limit_by true end k hub l = limit_emptied Limits end k hub l
  limit_by false end k hub l = l

  bring_by : (b : Bool) (e : Option MessageEnd) → AllBring Brings (out_by e) → AllBring Brings (out_by (cond b (emptied_by e) e))
  bring_by true e all = nothing_put Brings e
  bring_by false e all = all

  -- what was put on a connection is taken
  pub taken : (firsts : ℕ → ℕ) (conn : ℕ) (r : Rest H) (t : Talk H) → Stands Keeps Limits Brings firsts r t
      → Stands Keeps Limits Brings (firsts_with conn (next_in (end_at conn r.channels)) firsts)
      (record r { channels = bytes_emptied_by (end_at conn r.channels) conn r.channels }) (without_out conn t)
  taken firsts conn r t s = record {
    shows = record { hub = s.shows.hub; ends = λ k. shows_left firsts conn k r.channels t.ends (s.shows.ends k) };
    keeps = s.keeps;
    limits = λ k. subst (λ (x : Option ChannelState). LimitIn Limits x k r.hub) (sym (emptied_at (k == conn) conn k r.channels refl))
        (limit_by (k == conn) (end_at k r.channels) k r.hub (s.limits k));
    brings = λ k. subst (λ (x : Option MessageEnd). AllBring Brings (out_by x)) (sym (left_at (k == conn) conn k t.ends refl))
        (bring_by (k == conn) (t.ends k) (s.brings k));
  }
