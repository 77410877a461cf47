-- What is heard and put on the connections of a server's life.
use Rattle.std.proofs.Common.{◌≡◌, ◌≢◌, ℕ, ◌+◌, ◌==◌, ◌<◌, Bool, true, false, cond, List, [], ◌∷◌, ◌++◌, length, Option, Some, None, is_some, refl, sym, ap, ap₂, subst, ◌∙◌, append_assoc, arith}
use Rattle.std.proofs.lemmas.Bool.Decides.{nat_tests}
use Rattle.std.proofs.lemmas.List.{append-nil, length-append}
use Rattle.ua_channel.specs.declared.heard.Heard.{Heard}
use Rattle.ua_channel.specs.declared.wire.Order.{Order}
use Rattle.ua_channel.specs.State.{WireState, is_deaf}
use Rattle.ua_channel.specs.Messages.{hearing_of}
use Rattle.ua_channel.specs.Sharing.{own}
use Rattle.ua_channel.specs.Orders.{puts_of}
use Rattle.message_ends.specs.Ends.{MessageEnd, emptied_by, out_by, new_end, set_end}
use Rattle.message_ends.specs.Talk.{heard_all, heard_by, heard_one, judged, out_of, without_out}
use Rattle.server_rules.specs.Connecting as connecting
use Rattle.server_rules.specs.Connecting.{is_above}
use Rattle.server_rules.specs.State.{ServerState}
use Rattle.server_rules.specs.Said.{Said, nothing, order_of, orders_of}
use Rattle.server_rules.specs.Step.{Closes, Happening, Hears, Opens, after, ears}
use Rattle.server_rules.specs.Acts.{state_after}
use Rattle.server_laws.specs.Course.{said_after}
use Rattle.server_laws.specs.Lockstep as lockstep
use Rattle.server_laws.specs.Lockstep.{IsQuiet, MayHear, Other, SaysOn}
use Rattle.server_keeps.specs.Lawful.{OpensOther}
use Rattle.server_messages.specs.Messages.{answers, closed, end_closed, end_opened, opened, with_ends}
use Rattle.server_messages.proofs.Deafness.{stays_deaf}
use Rattle.set_fronts.specs.Noting.{Accepted, Talked, nothing_talked, puts, takes}
use Rattle.set_talks.specs.Heard.{AreHeardOf, IsHeardOf}
use Rattle.set_talks.specs.Lives.{heard_by as heard_then, heard_on, put_on}
use Rattle.set_fronts.specs.Below.{Server}
use Rattle.set_fronts.specs.Fronts.{IsFront}
use Rattle.set_histories.specs.Recording.{closes_in, heard_here, heard_in, opens_in}
use Rattle.set_histories.proofs.Ends.{HasHeard, grown, has_heard, map_append, obeyed_outs, outs, own_append, puts_append, set_other, set_same}

-- ---- fronts, and what is heard

abbrev Front : List WireState → List WireState → Type 0
Front put all = IsFront put all

front_more : (put all more : List WireState) → Front put all → Front put (all ++ more)
front_more put all more x = (x.0 ++ more, ap (λ (l : List WireState). l ++ more) x.1 ∙ append_assoc put x.0 more)

pub heard_longer : (hs : List Heard) (wires more : List WireState) → AreHeardOf hs wires → AreHeardOf hs (wires ++ more)
heard_longer [] wires more x = tt
heard_longer (h ∷ hs) [] more x = absurd x
heard_longer (h ∷ hs) (wire ∷ wires) more x = (x.0, heard_longer hs wires more x.1)

pub heard_next : (hs : List Heard) (wires : List WireState) (h : Heard) (wire : WireState) → length hs ≡ length wires → IsHeardOf h wire → AreHeardOf hs wires
    → AreHeardOf (hs ++ h ∷ []) (wires ++ wire ∷ [])
heard_next [] [] h wire long is x = (is, tt)
heard_next [] (other ∷ wires) h wire long is x = absurd (omega (arith, long))
heard_next (one ∷ hs) [] h wire long is x = absurd x
heard_next (one ∷ hs) (other ∷ wires) h wire long is x =
    let less : length hs ≡ length wires = omega (arith, long) in (x.0, heard_next hs wires h wire less is x.1)

pub next_long : (hs : List Heard) (wires : List WireState) (h : Heard) (wire : WireState) → length hs ≡ length wires → length (hs ++ h ∷ []) ≡ length (wires ++ wire ∷ [])
next_long hs wires h wire long =
    let one = length-append hs (h ∷ []) in let other = length-append wires (wire ∷ []) in omega (arith, one, other, long)

-- ---- one that put and still holds what wasn't taken, or none

abbrev pub PutIs : Option (List WireState) → List WireState → List WireState → Type 0
PutIs None put all = Front put all
PutIs (Some out) put all = put ++ out ≡ all

pub put_more : (o : Option (List WireState)) (put all more : List WireState) → PutIs o put all → PutIs (grown more o) put (all ++ more)
put_more None put all more x = front_more put all more x
put_more (Some out) put all more x = sym (append_assoc put out more) ∙ ap (λ (l : List WireState). l ++ more) x

pub put_front : (o : Option (List WireState)) (put all : List WireState) → PutIs o put all → Front put all
put_front None put all x = x
put_front (Some out) put all x = (out, sym x)

pub grown_some : (more : List WireState) (o : Option (List WireState)) → is_some (grown more o) ≡ is_some o
grown_some more None = refl
grown_some more (Some out) = refl

grown_none : (more : List WireState) (o p : Option (List WireState)) → p ≡ grown more o → o ≡ None → p ≡ None
grown_none more o p is none = is ∙ ap (grown more) none

pub emptied_put : (o : Option MessageEnd) (put all : List WireState) → PutIs (outs o) put all → PutIs (outs (emptied_by o)) (put ++ out_by o) all
emptied_put None put all x = subst (λ (l : List WireState). Front l all) (sym (append-nil put)) x
emptied_put (Some e) put all x = append-nil (put ++ e.out) ∙ x

pub emptied_some : (o : Option MessageEnd) → is_some (outs (emptied_by o)) ≡ is_some (outs o)
emptied_some None = refl
emptied_some (Some e) = refl

-- ---- numbers

below_differs : (k number : ℕ) → k < number → (number == k) ≡ false
below_differs k number less = grind (arith, nat_tests)

below_other : (k number : ℕ) → number < k → number ≢ k
below_other k number less = λ same. absurd (below_not k number less same)
  where
    below_not : (k number : ℕ) → number < k → number ≡ k → ⊥
    below_not k number less same = grind (arith, nat_tests)

above_differs : (k number : ℕ) → number < k → (k == number) ≡ false
above_differs k number less = grind (arith, nat_tests)

pub same_is : (k : ℕ) → (k == k) ≡ true
same_is k = grind (arith, nat_tests)

pub not_both : (b : Bool) → b ≡ true → b ≡ false → ⊥
not_both true t f = absurd cc
not_both false t f = absurd cc

differs_by : (b : Bool) (n k : ℕ) → (n == k) ≡ b → n ≢ k → b ≡ false
differs_by true n k is differ = let same : n ≡ k = grind (arith, nat_tests) in absurd (differ same)
differs_by false n k is differ = refl

abbrev pub AllBelow : ℕ → List (Accepted WireState) → Type 0
AllBelow number [] = Unit {0}
AllBelow number (a ∷ earlier) = (a.number < number) × AllBelow number earlier

pub below_next : (number : ℕ) (earlier : List (Accepted WireState)) → AllBelow number earlier → AllBelow (number + 1) earlier
below_next number [] x = tt
below_next number (a ∷ earlier) x = let less : a.number < number = x.0 in (omega (arith, less), below_next number earlier x.1)

-- nothing is heard on these
abbrev Aside : Happening → List (Accepted WireState) → Type 0
Aside h [] = Unit {0}
Aside h (a ∷ earlier) = (heard_then a.number h ≡ []) × Aside h earlier

aside_quiet : (h : Happening) (earlier : List (Accepted WireState)) → ((k : ℕ) → heard_then k h ≡ []) → Aside h earlier
aside_quiet h [] none = tt
aside_quiet h (a ∷ earlier) none = (none a.number, aside_quiet h earlier none)

aside_below : (number : ℕ) (h : Heard) (earlier : List (Accepted WireState)) → AllBelow number earlier → Aside (Hears number h) earlier
aside_below number h [] x = tt
aside_below number h (a ∷ earlier) x = (ap (λ b. cond b (h ∷ []) []) (below_differs a.number number x.0), aside_below number h earlier x.1)

-- ---- what is said for nobody

none_said : (k : ℕ) (said : List Said) → SaysOn (Other k) said → own k (orders_of said) ≡ []
none_said k [] x = refl
none_said k (one ∷ said) x =
    ap₂ (λ (b : Bool) (l : List Order). cond b ((order_of one).1 ∷ []) [] ++ l) (differs_by (one.conn == k) one.conn k refl x.0) (none_said k said x.1)

-- `still` is what is known of a connection on which no Publish waits; the life began so
module _ (still : (conn : ℕ) (happening : Happening) (s : ServerState) → MayHear (Other conn) happening → IsQuiet conn s
    → lockstep.IsTold (Other conn) (after happening s)) (first : ServerState) where
  put_after : (k : ℕ) (h : Happening) (past : List Happening)
      → put_on k (h ∷ past) first ≡ put_on k past first ++ puts_of (own k (orders_of (after h (state_after past first)).said))
  put_after k h past =
      let more = (after h (state_after past first)).said in
      ap (λ (l : List (ℕ × Order)). puts_of (own k l)) (map_append order_of (said_after past first) more)
      ∙ ap (λ (l : List Order). puts_of l) (own_append k (orders_of (said_after past first)) (orders_of more))
      ∙ puts_append (own k (orders_of (said_after past first))) (own k (orders_of more))

  put_then : (k : ℕ) (h : Happening) (past : List Happening) (s : ServerState) → s ≡ state_after past first
      → put_on k (h ∷ past) first ≡ put_on k past first ++ puts_of (own k (orders_of (after h s).said))
  put_then k h past s is = put_after k h past ∙ ap (λ (t : ServerState). put_on k past first ++ puts_of (own k (orders_of (after h t).said))) (sym is)

  heard_after : (k : ℕ) (h : Happening) (past : List Happening) → heard_then k h ≡ [] → heard_on k (h ∷ past) ≡ heard_on k past
  heard_after k h past none = ap (λ (l : List Heard). heard_on k past ++ l) none ∙ append-nil (heard_on k past)

  -- ---- connections that are over

  pub record ToldIn (past : List Happening) (a : Accepted WireState) : Type 0 where
    pub heard : AreHeardOf (heard_on a.number past) a.talked.taken
    pub put : Front a.talked.put (put_on a.number past first)

  abbrev pub AllToldIn : List Happening → List (Accepted WireState) → Type 0
  AllToldIn past [] = Unit {0}
  AllToldIn past (a ∷ earlier) = ToldIn past a × AllToldIn past earlier

  told_more : (h : Happening) (past : List Happening) (a : Accepted WireState) → heard_then a.number h ≡ [] → ToldIn past a → ToldIn (h ∷ past) a
  told_more h past a none x = record {
    heard = subst (λ (l : List Heard). AreHeardOf l a.talked.taken) (sym (heard_after a.number h past none)) x.heard;
    put = subst (λ (l : List WireState). Front a.talked.put l) (sym (put_after a.number h past)) (front_more a.talked.put (put_on a.number past first) _ x.put);
  }

  all_more : (h : Happening) (past : List Happening) (earlier : List (Accepted WireState)) → Aside h earlier → AllToldIn past earlier → AllToldIn (h ∷ past) earlier
  all_more h past [] aside x = tt
  all_more h past (a ∷ earlier) aside x = (told_more h past a aside.0 x.0, all_more h past earlier aside.1 x.1)

  -- ---- connections to come

  pub record IsFresh (k : ℕ) (s : ServerState) (past : List Happening) : Type 0 where
    pub heard : heard_on k past ≡ []
    pub put : put_on k past first ≡ []
    pub quiet : IsQuiet k s

  fresh_more : (k : ℕ) (h : Happening) (s t : ServerState) (past : List Happening) → MayHear (Other k) h → heard_then k h ≡ [] → s ≡ state_after past first → t ≡ (after h s).state
      → IsFresh k s past → IsFresh k t (h ∷ past)
  fresh_more k h s t past may none state step x =
      let told = still k h s may x.quiet in
      record {
        heard = heard_after k h past none ∙ x.heard;
        put = put_then k h past s state ∙ ap₂ (λ (l : List WireState) (o : List Order). l ++ puts_of o) x.put (none_said k (after h s).said told.on);
        quiet = subst (λ (u : ServerState). IsQuiet k u) (sym step) told.waits;
      }

  -- ---- a step

  -- it is what happens to the server, and these are its ends before they obey
  pub record Goes (h : Happening) (ends : ℕ → Option (List WireState)) (t u : Server) : Type 0 where
    pub hub : u.hub ≡ (after h t.hub).state
    pub outs : (k : ℕ) → outs (u.ends k) ≡ grown (puts_of (own k (orders_of (after h t.hub).said))) (ends k)

  state_more : (h : Happening) (past : List Happening) (s t : ServerState) → s ≡ state_after past first → t ≡ (after h s).state → t ≡ state_after (h ∷ past) first
  unfolding state_after
  state_more h past s t state step = step ∙ ap (λ (u : ServerState). (after h u).state) state

  -- ---- no connection stands

  pub record Rests (given : ℕ) (t : Server) (past : List Happening) (all : List (Accepted WireState)) : Type 0 where
    pub state : t.hub ≡ state_after past first
    pub none : (k : ℕ) → outs (t.ends k) ≡ None
    pub fresh : (k : ℕ) → given < k → IsFresh k t.hub past
    pub told : AllToldIn past all
    pub below : AllBelow (given + 1) all

  -- ---- one does, and all others are over

  pub record Stands (number : ℕ) (t : Server) (past : List Happening) (talked : Talked WireState) (earlier : List (Accepted WireState)) : Type 0 where
    pub state : t.hub ≡ state_after past first
    pub heard : AreHeardOf (heard_on number past) talked.taken
    -- as long as it isn't deaf, each that came was heard
    pub even : is_some (outs (t.ends number)) ≡ true → is_deaf (ears number t.hub) ≡ false → length (heard_on number past) ≡ length talked.taken
    pub put : PutIs (outs (t.ends number)) talked.put (put_on number past first)
    pub apart : (k : ℕ) → (k == number) ≡ false → outs (t.ends k) ≡ None
    pub fresh : (k : ℕ) → number < k → IsFresh k t.hub past
    pub told : AllToldIn past earlier
    pub below : AllBelow number earlier

  -- ---- what is heard on none

  pub record IsQuietly (h : Happening) : Type 0 where
    pub heard : (k : ℕ) → heard_then k h ≡ []
    pub may : (k : ℕ) → MayHear (Other k) h
    pub opens : (k : ℕ) → OpensOther k h

  pub rests_more : (given : ℕ) (h : Happening) (t u : Server) (past : List Happening) (all : List (Accepted WireState)) → IsQuietly h
      → Goes h (λ k. outs (t.ends k)) t u → Rests given t past all → Rests given u (h ∷ past) all
  rests_more given h t u past all is goes x = record {
    state = state_more h past t.hub u.hub x.state goes.hub;
    none = λ k. grown_none _ (outs (t.ends k)) (outs (u.ends k)) (goes.outs k) (x.none k);
    fresh = λ k above. fresh_more k h t.hub u.hub past (is.may k) (is.heard k) x.state goes.hub (x.fresh k above);
    told = all_more h past all (aside_quiet h all is.heard) x.told;
    below = x.below;
  }

  still_hears : (b : Bool) (number : ℕ) (h : Happening) (s t : ServerState) → OpensOther number h → t ≡ (after h s).state → is_deaf (ears number s) ≡ b
      → is_deaf (ears number t) ≡ false → is_deaf (ears number s) ≡ false
  still_hears true number h s t opens step is hears =
      absurd (not_both (is_deaf (ears number t)) (ap (λ (u : ServerState). is_deaf (ears number u)) step ∙ stays_deaf number h s opens is) hears)
  still_hears false number h s t opens step is hears = is

  pub stands_more : (number : ℕ) (h : Happening) (t u : Server) (past : List Happening) (talked : Talked WireState) (earlier : List (Accepted WireState)) → IsQuietly h
      → Goes h (λ k. outs (t.ends k)) t u → Stands number t past talked earlier → Stands number u (h ∷ past) talked earlier
  stands_more number h t u past talked earlier is goes x = record {
    state = state_more h past t.hub u.hub x.state goes.hub;
    heard = subst (λ (l : List Heard). AreHeardOf l talked.taken) (sym (heard_after number h past (is.heard number))) x.heard;
    even = λ there hears. ap (λ (l : List Heard). length l) (heard_after number h past (is.heard number))
        ∙ x.even (sym (ap (λ (o : Option (List WireState)). is_some o) (goes.outs number) ∙ grown_some _ (outs (t.ends number))) ∙ there)
        (still_hears (is_deaf (ears number t.hub)) number h t.hub u.hub (is.opens number) goes.hub refl hears);
    put = subst (λ (o : Option (List WireState)). PutIs o talked.put (put_on number (h ∷ past) first)) (sym (goes.outs number))
        (subst (λ (l : List WireState). PutIs (grown (puts_of (own number (orders_of (after h t.hub).said))) (outs (t.ends number))) talked.put l)
        (sym (put_then number h past t.hub x.state))
        (put_more (outs (t.ends number)) talked.put (put_on number past first) (puts_of (own number (orders_of (after h t.hub).said))) x.put));
    apart = λ k differ. grown_none _ (outs (t.ends k)) (outs (u.ends k)) (goes.outs k) (x.apart k differ);
    fresh = λ k above. fresh_more k h t.hub u.hub past (is.may k) (is.heard k) x.state goes.hub (x.fresh k above);
    told = all_more h past earlier (aside_quiet h earlier is.heard) x.told;
    below = x.below;
  }

  -- ---- messages come

  longer : (number : ℕ) (wire : WireState) (t : Server) (past : List Happening) (talked : Talked WireState) (earlier : List (Accepted WireState))
      → (is_some (outs (t.ends number)) ≡ true → is_deaf (ears number t.hub) ≡ false → ⊥) → Stands number t past talked earlier
      → Stands number t past (takes (wire ∷ []) talked) earlier
  longer number wire t past talked earlier deaf x = record {
    state = x.state;
    heard = heard_longer (heard_on number past) talked.taken (wire ∷ []) x.heard;
    even = λ there hears. absurd (deaf there hears);
    put = x.put;
    apart = x.apart;
    fresh = x.fresh;
    told = x.told;
    below = x.below;
  }

  heard_more : (number : ℕ) (one : Heard) (wire : WireState) (t u : Server) (past : List Happening) (talked : Talked WireState) (earlier : List (Accepted WireState))
      → is_some (outs (t.ends number)) ≡ true → is_deaf (ears number t.hub) ≡ false → IsHeardOf one wire
      → HasHeard ears answers number one t u → Stands number t past talked earlier → Stands number u (Hears number one ∷ past) (takes (wire ∷ []) talked) earlier
  heard_more number one wire t u past talked earlier there hears is goes x =
      let h : Happening = Hears number one in
      let own_heard : heard_on number (h ∷ past) ≡ heard_on number past ++ one ∷ [] = ap (λ b. heard_on number past ++ cond b (one ∷ []) []) (same_is number) in
      let long = x.even there hears in record {
        state = state_more h past t.hub u.hub x.state goes.hub;
        heard = subst (λ (l : List Heard). AreHeardOf l (talked.taken ++ wire ∷ [])) (sym own_heard) (heard_next (heard_on number past) talked.taken one wire long is x.heard);
        even = λ there hears. ap (λ (l : List Heard). length l) own_heard ∙ next_long (heard_on number past) talked.taken one wire long;
        put = subst (λ (o : Option (List WireState)). PutIs o talked.put (put_on number (h ∷ past) first)) (sym (goes.outs number))
            (subst (λ (l : List WireState). PutIs (grown (puts_of (own number (orders_of (after h t.hub).said))) (outs (t.ends number))) talked.put l)
            (sym (put_then number h past t.hub x.state))
            (put_more (outs (t.ends number)) talked.put (put_on number past first) (puts_of (own number (orders_of (after h t.hub).said))) x.put));
        apart = λ k differ. grown_none _ (outs (t.ends k)) (outs (u.ends k)) (goes.outs k) (x.apart k differ);
        fresh = λ k above. fresh_more k h t.hub u.hub past (below_other k number above) (ap (λ b. cond b (one ∷ []) []) (differs_by (number == k) number k refl (below_other k number above)))
            x.state goes.hub (x.fresh k above);
        told = all_more h past earlier (aside_below number one earlier x.below) x.told;
        below = x.below;
      }

  hears_if : (b : Bool) (number : ℕ) (wire : WireState) (e : MessageEnd) (t : Server) (past : List Happening) (talked : Talked WireState) (earlier : List (Accepted WireState))
      → t.ends number ≡ Some e → is_deaf (ears number t.hub) ≡ b → Stands number t past talked earlier
      → Stands number (cond b t (judged ears answers number (hearing_of (ears number t.hub) wire e.tokens) e t))
      (cond b past (Hears number (hearing_of (ears number t.hub) wire e.tokens).heard ∷ past)) (takes (wire ∷ []) talked) earlier
  hears_if true number wire e t past talked earlier there deaf x =
      longer number wire t past talked earlier (λ is hears. not_both (is_deaf (ears number t.hub)) deaf hears) x
  hears_if false number wire e t past talked earlier there hears x =
      heard_more number (hearing_of (ears number t.hub) wire e.tokens).heard wire t
      (judged ears answers number (hearing_of (ears number t.hub) wire e.tokens) e t) past talked earlier
      (ap (λ (o : Option MessageEnd). is_some (outs o)) there) hears (ears number t.hub, e.tokens, refl) (has_heard ears answers number wire e t there) x

  hears_by : (found : Option MessageEnd) (number : ℕ) (wire : WireState) (t : Server) (past : List Happening) (talked : Talked WireState) (earlier : List (Accepted WireState))
      → t.ends number ≡ found → Stands number t past talked earlier
      → Stands number (heard_by ears answers found number wire t) (heard_here found number wire t past) (takes (wire ∷ []) talked) earlier
  hears_by None number wire t past talked earlier is x =
      longer number wire t past talked earlier (λ there hears. not_both false (sym (ap (λ (o : Option MessageEnd). is_some (outs o)) is) ∙ there) refl) x
  hears_by (Some e) number wire t past talked earlier is x = hears_if (is_deaf (ears number t.hub)) number wire e t past talked earlier is refl x

  hears_one : (number : ℕ) (wire : WireState) (t : Server) (past : List Happening) (talked : Talked WireState) (earlier : List (Accepted WireState))
      → Stands number t past talked earlier
      → Stands number (heard_one ears answers number wire t) (heard_here (t.ends number) number wire t past) (takes (wire ∷ []) talked) earlier
  unfolding heard_one
  hears_one number wire t past talked earlier x = hears_by (t.ends number) number wire t past talked earlier refl x

  pub hears_all : (number : ℕ) (wires : List WireState) (t : Server) (past : List Happening) (talked : Talked WireState) (earlier : List (Accepted WireState))
      → Stands number t past talked earlier
      → Stands number (heard_all ears answers number wires t) (heard_in number wires t past) (takes wires talked) earlier
  hears_all number [] t past talked earlier x =
      subst (λ (l : List WireState). Stands number t past (record talked { taken = l }) earlier) (sym (append-nil talked.taken)) x
  hears_all number (wire ∷ wires) t past talked earlier x =
      subst (λ (l : List WireState). Stands number (heard_all ears answers number (wire ∷ wires) t) (heard_in number (wire ∷ wires) t past) (record talked { taken = l }) earlier)
      (append_assoc talked.taken (wire ∷ []) wires)
      (hears_all number wires (heard_one ears answers number wire t) (heard_here (t.ends number) number wire t past) (takes (wire ∷ []) talked) earlier
      (hears_one number wire t past talked earlier x))

  -- ---- what was put is taken

  pub empties : (number : ℕ) (t : Server) (past : List Happening) (talked : Talked WireState) (earlier : List (Accepted WireState)) → Stands number t past talked earlier
      → Stands number (without_out number t) past (puts (out_of number t) talked) earlier
  empties number t past talked earlier x =
      let at = ap (λ (o : Option MessageEnd). outs o) (set_same number (emptied_by (t.ends number)) t.ends) in record {
        state = x.state;
        heard = x.heard;
        even = λ there hears. x.even (sym (ap (λ (o : Option (List WireState)). is_some o) at ∙ emptied_some (t.ends number)) ∙ there) hears;
        put = subst (λ (o : Option (List WireState)). PutIs o (talked.put ++ out_by (t.ends number)) (put_on number past first)) (sym at)
            (emptied_put (t.ends number) talked.put (put_on number past first) x.put);
        apart = λ k differ. ap (λ (o : Option MessageEnd). outs o) (set_other k number (emptied_by (t.ends number)) t.ends differ) ∙ x.apart k differ;
        fresh = x.fresh;
        told = x.told;
        below = x.below;
      }

  -- ---- a connection ends

  none_is : (o : Option MessageEnd) → is_some o ≡ false → outs o ≡ None
  none_is None is = refl
  none_is (Some e) is = absurd cc

  ends_by : (b : Bool) (k number : ℕ) (o : Option MessageEnd) → (k == number) ≡ b → ((k == number) ≡ false → outs o ≡ None) → outs (cond b None o) ≡ None
  ends_by true k number o is none = refl
  ends_by false k number o is none = none is

  ended_told : (number : ℕ) (t : Server) (past : List Happening) (talked : Talked WireState) (earlier : List (Accepted WireState)) → Stands number t past talked earlier
      → ToldIn past (record { number = number; talked = talked })
  ended_told number t past talked earlier x = record { heard = x.heard; put = put_front (outs (t.ends number)) talked.put (put_on number past first) x.put }

  below_all : (number : ℕ) (talked : Talked WireState) (earlier : List (Accepted WireState)) → AllBelow number earlier → AllBelow (number + 1) (record { number = number; talked = talked } ∷ earlier)
  below_all number talked earlier x = (omega arith, below_next number earlier x)

  closes_quietly : (number : ℕ) → IsQuietly (Closes number)
  closes_quietly number = record { heard = λ k. refl; may = λ k. tt; opens = λ k. tt }

  ends_if : (b : Bool) (number : ℕ) (t : Server) (past : List Happening) (talked : Talked WireState) (earlier : List (Accepted WireState)) → is_some (t.ends number) ≡ b
      → Stands number t past talked earlier
      → Rests number (cond b (with_ends (end_closed number t.ends) (after (Closes number) t.hub)) t) (cond b (Closes number ∷ past) past) (record { number = number; talked = talked } ∷ earlier)
  ends_if true number t past talked earlier is x =
      let h : Happening = Closes number in
      let q = closes_quietly number in record {
        state = state_more h past t.hub (after h t.hub).state x.state refl;
        none = λ k. grown_none _ (outs (end_closed number t.ends k)) _ (obeyed_outs (own k (orders_of (after h t.hub).said)) (end_closed number t.ends k))
            (ends_by (k == number) k number (t.ends k) refl (x.apart k));
        fresh = λ k above. fresh_more k h t.hub (after h t.hub).state past tt refl x.state refl (x.fresh k above);
        told = all_more h past (record { number = number; talked = talked } ∷ earlier) (aside_quiet h (record { number = number; talked = talked } ∷ earlier) q.heard)
            (ended_told number t past talked earlier x, x.told);
        below = below_all number talked earlier x.below;
      }
  ends_if false number t past talked earlier is x = record {
    state = x.state;
    none = λ k. none_by (k == number) k refl;
    fresh = x.fresh;
    told = (ended_told number t past talked earlier x, x.told);
    below = below_all number talked earlier x.below;
  }
    where
      none_by : (c : Bool) (k : ℕ) → (k == number) ≡ c → outs (t.ends k) ≡ None
      none_by true k same = let e : k ≡ number = grind (arith, nat_tests) in ap (λ n. outs (t.ends n)) e ∙ none_is (t.ends number) is
      none_by false k differ = x.apart k differ

  pub ends_one : (number : ℕ) (t : Server) (past : List Happening) (talked : Talked WireState) (earlier : List (Accepted WireState)) → Stands number t past talked earlier
      → Rests number (closed number t) (closes_in number t past) (record { number = number; talked = talked } ∷ earlier)
  ends_one number t past talked earlier x = ends_if (is_some (t.ends number)) number t past talked earlier refl x

  -- ---- a connection begins

  none_opened : (number : ℕ) (s : ServerState) → (after (Opens number) s).said ≡ []
  unfolding connecting.opened
  none_opened number s = none_if (is_above s.highest number)
    where
      none_if : (b : Bool) → (cond b (nothing (connecting.with_new_conn number s)) (nothing s)).said ≡ []
      none_if true = refl
      none_if false = refl

  not_there : (o : Option MessageEnd) → outs o ≡ None → is_some o ≡ false
  not_there None is = refl
  not_there (Some e) is = absurd cc

  opens_quietly : (number : ℕ) (k : ℕ) → heard_then k (Opens number) ≡ []
  opens_quietly number k = refl

  begins_if : (b : Bool) (number given : ℕ) (t : Server) (past : List Happening) (all : List (Accepted WireState)) → number ≡ given + 1 → is_above t.hub.highest number ≡ b
      → Rests given t past all
      → Stands number (cond b (with_ends (end_opened number t.ends) (after (Opens number) t.hub)) t) (cond b (Opens number ∷ past) past) nothing_talked all
  begins_if true number given t past all same is x =
      let h : Happening = Opens number in
      let own_fresh = x.fresh number (subst (λ n. given < n) (sym same) (omega arith)) in
      let said : (k : ℕ) → puts_of (own k (orders_of (after h t.hub).said)) ≡ [] = λ k. ap (λ (l : List Said). puts_of (own k (orders_of l))) (none_opened number t.hub) in
      let before : (k : ℕ) → end_opened number t.ends k ≡ set_end number (Some new_end) t.ends k =
      λ k. ap (λ (b : Bool). (cond b t.ends (set_end number (Some new_end) t.ends)) k) (not_there (t.ends number) (x.none number)) in
      let grows : (k : ℕ) → outs ((with_ends (end_opened number t.ends) (after h t.hub)).ends k) ≡ grown [] (outs (set_end number (Some new_end) t.ends k)) =
      λ k. obeyed_outs (own k (orders_of (after h t.hub).said)) (end_opened number t.ends k)
      ∙ ap₂ (λ (l : List WireState) (o : Option MessageEnd). grown l (outs o)) (said k) (before k) in
      let put : put_on number (h ∷ past) first ≡ [] = put_then number h past t.hub x.state ∙ ap₂ (λ (l m : List WireState). l ++ m) own_fresh.put (said number) in
      let heard : heard_on number (h ∷ past) ≡ [] = heard_after number h past refl ∙ own_fresh.heard in record {
        state = state_more h past t.hub (after h t.hub).state x.state refl;
        heard = subst (λ (l : List Heard). AreHeardOf l []) (sym heard) tt;
        even = λ there hears. ap (λ (l : List Heard). length l) heard;
        put = subst (λ (o : Option (List WireState)). PutIs o [] (put_on number (h ∷ past) first))
            (sym (grows number ∙ ap (λ (o : Option MessageEnd). grown [] (outs o)) (set_same number (Some new_end) t.ends))) (sym put);
        apart = λ k differ. grown_none [] (outs (set_end number (Some new_end) t.ends k)) _ (grows k)
            (ap (λ (o : Option MessageEnd). outs o) (set_other k number (Some new_end) t.ends differ) ∙ x.none k);
        fresh = λ k above. fresh_more k h t.hub (after h t.hub).state past tt refl x.state refl (x.fresh k (later k above));
        told = all_more h past all (aside_quiet h all (opens_quietly number)) x.told;
        below = subst (λ n. AllBelow n all) (sym same) x.below;
      }
    where
      later : (k : ℕ) → number < k → given < k
      later k above = omega (arith, above, same)
  begins_if false number given t past all same is x =
      let own_fresh = x.fresh number (subst (λ n. given < n) (sym same) (omega arith)) in record {
        state = x.state;
        heard = subst (λ (l : List Heard). AreHeardOf l []) (sym own_fresh.heard) tt;
        even = λ there hears. ap (λ (l : List Heard). length l) own_fresh.heard;
        put = subst (λ (o : Option (List WireState)). PutIs o [] (put_on number past first)) (sym (x.none number)) (put_on number past first, refl);
        apart = λ k differ. x.none k;
        fresh = λ k above. x.fresh k (later k above);
        told = x.told;
        below = subst (λ n. AllBelow n all) (sym same) x.below;
      }
    where
      later : (k : ℕ) → number < k → given < k
      later k above = omega (arith, above, same)

  pub begins_one : (number given : ℕ) (t : Server) (past : List Happening) (all : List (Accepted WireState)) → number ≡ given + 1 → Rests given t past all
      → Stands number (opened number t) (opens_in number t past) nothing_talked all
  begins_one number given t past all same x = begins_if (is_above t.hub.highest number) number given t past all same refl x
