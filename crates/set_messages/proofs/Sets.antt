-- A set over bytes is shown by one over messages: servers, the client, and what is in flight between them.
use Rattle.std.proofs.Common.{◌≡◌, ◌≢◌, ◌⊎◌, inl, inr, ℕ, zero, suc, ◌+◌, ◌==◌, ◌≤◌, true, cond, List, [], ◌++◌, length, Option, Some, None, is_some, refl, sym, ap, subst, ◌∙◌, arith}
use Rattle.std.proofs.lemmas.List.{append-nil, length-set}
use Rattle.std.specs.List.{AllByRecursion}
use Rattle.ua_channel.specs.State.{ChannelState, WireState}
use Rattle.ua_channel.specs.Sharing.{end_at}
use Rattle.message_ends.specs.Talk.{out_of, without_out}
use Rattle.message_ends.proofs.Lookups.{same_number}
use Rattle.message_ends.specs.Showing.{firsts_with, next_in}
use Rattle.client_rules.specs.State.{is_server}
use Rattle.client_messages.specs.Showing.{Brings as ClientBrings}
use Rattle.server_keeps.specs.Fitting.{FitsChange}
use Rattle.server_messages.specs.Showing.{Awaits}
use Rattle.set_rules.specs.State.{Connection}
use Rattle.set_rules.specs.Moves.{asked_by, cleared_by, client_does, gathered_among, gathered_at, slot_at, with_slot}
use Rattle.set_rules.proofs.Places.{here_or_not, other_server, slot_here, slot_other}
use Rattle.set_world.specs.Bytes as bytes
use Rattle.set_world.specs.State.{ByteSet}
use Rattle.ua_client.specs.State as client
use Rattle.ua_server.specs.State as server
use Rattle.set_messages.specs.Nodes.{Client, Server, nodes}
use Rattle.set_messages.specs.World.{MessageSet}
use Rattle.set_messages.proofs.Flights.{Flight, IsMore, longer}
use Rattle.set_messages.proofs.Facts.{ClientLaws, LinkExpects, LinkHolds, OthersStay, SameServers}
use Rattle.set_messages.proofs.Slots.{MessageSlot, ServesOn, Shown, SlotShows, connection_none, slot_changes}

module _ (Shows : (ℕ → ℕ) → client.BytesState → Client → Type 0) where
  abbrev pub ShowsAt : (ℕ → ℕ) → client.BytesState → ℕ → bytes.ByteSlot → MessageSlot → Type 0
  ShowsAt firsts rc place s z = SlotShows (LinkExpects (place + 1) rc) (LinkHolds (place + 1) rc) (firsts (place + 1)) s z

  -- of so many servers; `firsts` says of each link with which number the messages begin that it put and weren't taken
  pub record SetShows (count : ℕ) (firsts : ℕ → ℕ) (b : ByteSet) (m : MessageSet) : Type 0 where
    pub source : b.source ≡ m.source
    pub fits : AllByRecursion FitsChange b.source
    pub slots : length b.slots ≡ count
    pub talks : length m.slots ≡ count
    pub known : (place : ℕ) → place + 1 ≤ count → is_server (place + 1) b.client.hub ≡ true
    pub client : Shows firsts b.client m.client
    pub each : (place : ℕ) → place + 1 ≤ count → ShowsAt firsts b.client place (slot_at place b) (slot_at place m)

  pub record IsShown (count : ℕ) (b : ByteSet) (m : MessageSet) : Type 0 where
    pub firsts : ℕ → ℕ
    pub set : SetShows count firsts b m

  -- ---- one server and the client change

  -- the others are as they were
  pub record Changes (place : ℕ) (firsts after : ℕ → ℕ) (rc rd : client.BytesState) : Type 0 where
    pub numbers : (q : ℕ) → q ≢ place → after (q + 1) ≡ firsts (q + 1)
    pub others : OthersStay (place + 1) rc rd
    pub servers : SameServers rc rd

  others_at : (place q count : ℕ) (firsts after : ℕ → ℕ) (b : ByteSet) (m : MessageSet) (rd : client.BytesState) → q ≢ place → q + 1 ≤ count
      → SetShows count firsts b m → Changes place firsts after b.client rd → ShowsAt after rd q (slot_at q b) (slot_at q m)
  others_at place q count firsts after b m rd differ within x is =
      subst (λ n. SlotShows (LinkExpects (q + 1) rd) (LinkHolds (q + 1) rd) n (slot_at q b) (slot_at q m)) (sym (is.numbers q differ))
      (slot_changes (LinkExpects (q + 1) b.client) (LinkExpects (q + 1) rd) (LinkHolds (q + 1) b.client) (LinkHolds (q + 1) rd) (firsts (q + 1))
      (slot_at q b) (slot_at q m)
      (λ holds. (is.others (q + 1) (other_server q place differ) (x.known q within) holds).0)
      (λ holds. (is.others (q + 1) (other_server q place differ) (x.known q within) holds).1)
      (x.each q within))

  both_by : (place q count : ℕ) (firsts after : ℕ → ℕ) (b : ByteSet) (m : MessageSet) (s : bytes.ByteSlot) (z : MessageSlot) (rd : client.BytesState) (td : Client)
      → (q ≡ place) ⊎ (q ≢ place) → place + 1 ≤ count → q + 1 ≤ count → SetShows count firsts b m → Changes place firsts after b.client rd
      → ShowsAt after rd place s z
      → ShowsAt after rd q (slot_at q (record (with_slot place s b) { client = rd })) (slot_at q (record (with_slot place z m) { client = td }))
  both_by place q count firsts after b m s z rd td (inl same) here within x is own =
      subst (λ n. ShowsAt after rd n (slot_at n (record (with_slot place s b) { client = rd })) (slot_at n (record (with_slot place z m) { client = td }))) (sym same)
      (subst (λ y. ShowsAt after rd place y (slot_at place (record (with_slot place z m) { client = td })))
      (sym (slot_here b.slots place s (subst (λ n. place + 1 ≤ n) (sym x.slots) here)))
      (subst (λ y. ShowsAt after rd place s y) (sym (slot_here m.slots place z (subst (λ n. place + 1 ≤ n) (sym x.talks) here))) own))
  both_by place q count firsts after b m s z rd td (inr differ) here within x is own =
      subst (λ y. ShowsAt after rd q y (slot_at q (record (with_slot place z m) { client = td }))) (sym (slot_other b.slots place q s differ))
      (subst (λ y. ShowsAt after rd q (slot_at q b) y) (sym (slot_other m.slots place q z differ))
      (others_at place q count firsts after b m rd differ within x is))

  pub both_change : (place count : ℕ) (firsts after : ℕ → ℕ) (b : ByteSet) (m : MessageSet) (s : bytes.ByteSlot) (z : MessageSlot) (rd : client.BytesState) (td : Client)
      → place + 1 ≤ count → SetShows count firsts b m → Changes place firsts after b.client rd → Shows after rd td → ShowsAt after rd place s z
      → SetShows count after (record (with_slot place s b) { client = rd }) (record (with_slot place z m) { client = td })
  both_change place count firsts after b m s z rd td here x is client own = record {
    source = x.source;
    fits = x.fits;
    slots = length-set b.slots place s ∙ x.slots;
    talks = length-set m.slots place z ∙ x.talks;
    known = λ q within. is.servers (q + 1) ∙ x.known q within;
    client = client;
    each = λ q within. both_by place q count firsts after b m s z rd td (here_or_not (q == place) q place refl) here within x is own;
  }

  no_change : (place : ℕ) (firsts : ℕ → ℕ) (rc : client.BytesState) → Changes place firsts firsts rc rc
  no_change place firsts rc = record { numbers = λ q differ. refl; others = λ k differ known holds. (holds, λ n expects. expects); servers = λ k. refl }

  -- the server alone
  pub slot_changed : (place count : ℕ) (firsts : ℕ → ℕ) (b : ByteSet) (m : MessageSet) (s : bytes.ByteSlot) (z : MessageSlot) → place + 1 ≤ count
      → SetShows count firsts b m → ShowsAt firsts b.client place s z → SetShows count firsts (with_slot place s b) (with_slot place z m)
  slot_changed place count firsts b m s z here x own =
      both_change place count firsts firsts b m s z b.client m.client here x (no_change place firsts b.client) x.client own

  -- the client alone
  client_by : (place q count : ℕ) (firsts after : ℕ → ℕ) (b : ByteSet) (m : MessageSet) (rd : client.BytesState) → (q ≡ place) ⊎ (q ≢ place) → q + 1 ≤ count
      → SetShows count firsts b m → Changes place firsts after b.client rd → ShowsAt after rd place (slot_at place b) (slot_at place m)
      → ShowsAt after rd q (slot_at q b) (slot_at q m)
  client_by place q count firsts after b m rd (inl same) within x is own = subst (λ n. ShowsAt after rd n (slot_at n b) (slot_at n m)) (sym same) own
  client_by place q count firsts after b m rd (inr differ) within x is own = others_at place q count firsts after b m rd differ within x is

  pub client_changed : (place count : ℕ) (firsts after : ℕ → ℕ) (b : ByteSet) (m : MessageSet) (rd : client.BytesState) (td : Client)
      → SetShows count firsts b m → Changes place firsts after b.client rd → Shows after rd td → ShowsAt after rd place (slot_at place b) (slot_at place m)
      → SetShows count after (record b { client = rd }) (record m { client = td })
  client_changed place count firsts after b m rd td x is client own = record {
    source = x.source;
    fits = x.fits;
    slots = x.slots;
    talks = x.talks;
    known = λ q within. is.servers (q + 1) ∙ x.known q within;
    client = client;
    each = λ q within. client_by place q count firsts after b m rd (here_or_not (q == place) q place refl) within x is own;
  }

-- ---- what the client put is in flight

module _ (Shows : (ℕ → ℕ) → client.BytesState → Client → Type 0) (cl : ClientLaws Shows) where
  own_first : (place next : ℕ) (firsts : ℕ → ℕ) → firsts_with (place + 1) next firsts (place + 1) ≡ next
  own_first place next firsts = ap (λ b. cond b next (firsts (place + 1))) (same_number (place + 1))

  emptied_changes : (place next : ℕ) (firsts : ℕ → ℕ) (rc : client.BytesState)
      → Changes Shows place firsts (firsts_with (place + 1) next firsts) rc (client.without_out (place + 1) rc)
  emptied_changes place next firsts rc = record {
    numbers = λ q differ. ap (λ b. cond b next (firsts (q + 1))) (other_server q place differ);
    others = λ k differ known holds. (holds, λ n expects. cl.still (place + 1) k n rc expects);
    servers = λ k. refl;
  }

  nothing_changes : (place : ℕ) (firsts : ℕ → ℕ) (rc : client.BytesState) → Changes Shows place firsts firsts rc (client.without_out (place + 1) rc)
  nothing_changes place firsts rc = record {
    numbers = λ q differ. refl;
    others = λ k differ known holds. (holds, λ n expects. cl.still (place + 1) k n rc expects);
    servers = λ k. refl;
  }

  abbrev with_asked : Connection (List ℕ) → List ℕ → Connection (List ℕ)
  with_asked c l = record c { there = c.there ++ l }

  abbrev with_messages : Connection (List WireState) → List WireState → Connection (List WireState)
  with_messages d l = record d { there = d.there ++ l }

  put_there : (place next : ℕ) (firsts : ℕ → ℕ) (rc : client.BytesState) (r : server.BytesState) (t : Server) (c : Connection (List ℕ)) (d : Connection (List WireState))
      (more : List ℕ) (others : List WireState) → IsMore ClientBrings (firsts (place + 1)) next more others
      → ServesOn (LinkExpects (place + 1) rc) (LinkHolds (place + 1) rc) (firsts (place + 1)) r t c d
      → ServesOn (LinkExpects (place + 1) (client.without_out (place + 1) rc)) (LinkHolds (place + 1) (client.without_out (place + 1) rc))
      (firsts_with (place + 1) next firsts (place + 1)) r t (with_asked c more) (with_messages d others)
  put_there place next firsts rc r t c d more others is s =
      subst (λ n. ServesOn (LinkExpects (place + 1) (client.without_out (place + 1) rc)) (LinkHolds (place + 1) (client.without_out (place + 1) rc)) n r t
      (with_asked c more) (with_messages d others)) (sym (own_first place next firsts))
      (record {
        firsts = s.firsts;
        stands = s.stands;
        only = s.only;
        conn = record {
          number = s.conn.number;
          back = awaited_still s.conn.back;
          there = longer ClientBrings (λ k. Awaits c.number k r) (firsts (place + 1)) next c.there more d.there others s.conn.there is;
          holds = s.conn.holds;
        };
      })
    where
      awaited_still : {F : WireState → Type 0} {n : ℕ} {l : List ℕ} {w : List WireState} → Flight F (LinkExpects (place + 1) rc) n l w
          → Flight F (LinkExpects (place + 1) (client.without_out (place + 1) rc)) n l w
      awaited_still f = record {
        first = f.first;
        sent = f.sent;
        wires_are = f.wires_are;
        bytes_are = f.bytes_are;
        chain = f.chain;
        fits = f.fits;
        awaits = cl.still (place + 1) (place + 1) f.first rc f.awaits;
      }

  nothing_there : (place : ℕ) (firsts : ℕ → ℕ) (rc : client.BytesState) (r : server.BytesState) (t : Server) (c : Connection (List ℕ)) (d : Connection (List WireState))
      (more : List ℕ) (others : List WireState) → more ≡ [] → others ≡ []
      → ServesOn (LinkExpects (place + 1) rc) (LinkHolds (place + 1) rc) (firsts (place + 1)) r t c d
      → ServesOn (LinkExpects (place + 1) (client.without_out (place + 1) rc)) (LinkHolds (place + 1) (client.without_out (place + 1) rc)) (firsts (place + 1))
      r t (with_asked c more) (with_messages d others)
  nothing_there place firsts rc r t c d more others none nobody s =
      subst (λ (x : List ℕ). ServesOn (LinkExpects (place + 1) (client.without_out (place + 1) rc)) (LinkHolds (place + 1) (client.without_out (place + 1) rc))
      (firsts (place + 1)) r t (record c { there = x }) (with_messages d others)) (sym (ap (λ (x : List ℕ). c.there ++ x) none ∙ append-nil c.there))
      (subst (λ (x : List WireState). ServesOn (LinkExpects (place + 1) (client.without_out (place + 1) rc)) (LinkHolds (place + 1) (client.without_out (place + 1) rc))
      (firsts (place + 1)) r t c (record d { there = x })) (sym (ap (λ (x : List WireState). d.there ++ x) nobody ∙ append-nil d.there))
      (record {
        firsts = s.firsts;
        stands = s.stands;
        only = s.only;
        conn = record {
          number = s.conn.number;
          back = record {
            first = s.conn.back.first;
            sent = s.conn.back.sent;
            wires_are = s.conn.back.wires_are;
            bytes_are = s.conn.back.bytes_are;
            chain = s.conn.back.chain;
            fits = s.conn.back.fits;
            awaits = cl.still (place + 1) (place + 1) s.conn.back.first rc s.conn.back.awaits;
          };
          there = s.conn.there;
          holds = s.conn.holds;
        };
      }))

  -- a slot whose messages to the server are joined by what the client put for it
  abbrev asked_slot : bytes.ByteSlot → Connection (List ℕ) → List ℕ → bytes.ByteSlot
  asked_slot s c l = record s { connection = Some (with_asked c l) }

  abbrev asked_talk : MessageSlot → Connection (List WireState) → List WireState → MessageSlot
  asked_talk z d l = record z { connection = Some (with_messages d l) }

  asked_shown : (place : ℕ) (life : Option server.BytesState) (talk : Option Server) (E F : ℕ → Type 0) (H I : Type 0) (last next : ℕ)
      (c c' : Connection (List ℕ)) (d d' : Connection (List WireState))
      → ((r : server.BytesState) (t : Server) → ServesOn E H last r t c d → ServesOn F I next r t c' d')
      → Shown E H last life talk (Some c) (Some d) → Shown F I next life talk (Some c') (Some d')
  asked_shown place None None E F H I last next c c' d d' step s = absurd s
  asked_shown place None (Some t) E F H I last next c c' d d' step s = absurd s
  asked_shown place (Some r) None E F H I last next c c' d d' step s = absurd s
  asked_shown place (Some r) (Some t) E F H I last next c c' d d' step s = step r t s

  gather_some : (found : Option ChannelState) (place count : ℕ) (firsts : ℕ → ℕ) (b : ByteSet) (m : MessageSet) (c : Connection (List ℕ)) (d : Connection (List WireState))
      → end_at (place + 1) b.client.channels ≡ found → place + 1 ≤ count → (slot_at place b).connection ≡ Some c → (slot_at place m).connection ≡ Some d
      → SetShows Shows count firsts b m
      → IsShown Shows count
      (record (with_slot place (asked_slot (slot_at place b) c (client.out_of (place + 1) b.client)) b) { client = client.without_out (place + 1) b.client })
      (record (with_slot place (asked_talk (slot_at place m) d (out_of (place + 1) m.client)) m) { client = without_out (place + 1) m.client })
  gather_some (Some e) place count firsts b m c d is here there thus x =
      let next = next_in (end_at (place + 1) b.client.channels) in
      let old = x.each place here in
      let more = cl.put firsts (place + 1) e b.client m.client is x.client in
      record {
        firsts = firsts_with (place + 1) next firsts;
        set = both_change Shows place count firsts (firsts_with (place + 1) next firsts) b m
            (asked_slot (slot_at place b) c (client.out_of (place + 1) b.client)) (asked_talk (slot_at place m) d (out_of (place + 1) m.client))
            (client.without_out (place + 1) b.client) (without_out (place + 1) m.client) here x (emptied_changes place next firsts b.client)
            (cl.taken firsts (place + 1) b.client m.client x.client)
            (record {
              boot = old.boot;
              position = old.position;
              held = old.held;
              given = old.given;
              shown = asked_shown place (slot_at place b).life (slot_at place m).life (LinkExpects (place + 1) b.client)
                  (LinkExpects (place + 1) (client.without_out (place + 1) b.client)) (LinkHolds (place + 1) b.client)
                  (LinkHolds (place + 1) (client.without_out (place + 1) b.client)) (firsts (place + 1)) (firsts_with (place + 1) next firsts (place + 1))
                  c (with_asked c (client.out_of (place + 1) b.client)) d (with_messages d (out_of (place + 1) m.client))
                  (λ r t s. put_there place next firsts b.client r t c d (client.out_of (place + 1) b.client) (out_of (place + 1) m.client)
                  (subst (λ n. IsMore ClientBrings (firsts (place + 1)) n (client.out_of (place + 1) b.client) (out_of (place + 1) m.client)) (sym (ap next_in is)) more) s)
                  (subst (λ o. Shown (LinkExpects (place + 1) b.client) (LinkHolds (place + 1) b.client) (firsts (place + 1)) (slot_at place b).life (slot_at place m).life (Some c) o) thus
                  (subst (λ o. Shown (LinkExpects (place + 1) b.client) (LinkHolds (place + 1) b.client) (firsts (place + 1)) (slot_at place b).life (slot_at place m).life o (slot_at place m).connection) there old.shown));
            });
      }
  gather_some None place count firsts b m c d is here there thus x =
      let old = x.each place here in
      let none = cl.put_nowhere firsts (place + 1) b.client m.client is x.client in
      record {
        firsts = firsts;
        set = both_change Shows place count firsts firsts b m
            (asked_slot (slot_at place b) c (client.out_of (place + 1) b.client)) (asked_talk (slot_at place m) d (out_of (place + 1) m.client))
            (client.without_out (place + 1) b.client) (without_out (place + 1) m.client) here x (nothing_changes place firsts b.client) none.2
            (record {
              boot = old.boot;
              position = old.position;
              held = old.held;
              given = old.given;
              shown = asked_shown place (slot_at place b).life (slot_at place m).life (LinkExpects (place + 1) b.client)
                  (LinkExpects (place + 1) (client.without_out (place + 1) b.client)) (LinkHolds (place + 1) b.client)
                  (LinkHolds (place + 1) (client.without_out (place + 1) b.client)) (firsts (place + 1)) (firsts (place + 1))
                  c (with_asked c (client.out_of (place + 1) b.client)) d (with_messages d (out_of (place + 1) m.client))
                  (λ r t s. nothing_there place firsts b.client r t c d (client.out_of (place + 1) b.client) (out_of (place + 1) m.client) none.0 none.1 s)
                  (subst (λ o. Shown (LinkExpects (place + 1) b.client) (LinkHolds (place + 1) b.client) (firsts (place + 1)) (slot_at place b).life (slot_at place m).life (Some c) o) thus
                  (subst (λ o. Shown (LinkExpects (place + 1) b.client) (LinkHolds (place + 1) b.client) (firsts (place + 1)) (slot_at place b).life (slot_at place m).life o (slot_at place m).connection) there old.shown));
            });
      }

  some_not_none : {A B : Type 0} (o : Option A) (p : Option B) (a : A) → o ≡ Some a → p ≡ None → is_some o ≡ is_some p → ⊥
  some_not_none None p a is none same = absurd cc
  some_not_none (Some x) None a is none same = absurd cc
  some_not_none (Some x) (Some y) a is none same = absurd cc

  gather_by : (oc : Option (Connection (List ℕ))) (od : Option (Connection (List WireState))) (place count : ℕ) (firsts : ℕ → ℕ) (b : ByteSet) (m : MessageSet)
      → (slot_at place b).connection ≡ oc → (slot_at place m).connection ≡ od → is_some oc ≡ is_some od → place + 1 ≤ count → SetShows Shows count firsts b m
      → IsShown Shows count
      (record (with_slot place (asked_by bytes.nodes oc (bytes.nodes.asked (place + 1) b.client) (slot_at place b)) b) { client = cleared_by bytes.nodes oc (place + 1) b.client })
      (record (with_slot place (asked_by nodes od (nodes.asked (place + 1) m.client) (slot_at place m)) m) { client = cleared_by nodes od (place + 1) m.client })
  gather_by None None place count firsts b m there thus same here x =
      record { firsts = firsts; set = slot_changed Shows place count firsts b m (slot_at place b) (slot_at place m) here x (x.each place here) }
  gather_by None (Some d) place count firsts b m there thus same here x = absurd cc
  gather_by (Some c) None place count firsts b m there thus same here x = absurd cc
  gather_by (Some c) (Some d) place count firsts b m there thus same here x =
      gather_some (end_at (place + 1) b.client.channels) place count firsts b m c d refl here there thus x

  pub same_connection : (place count : ℕ) (firsts : ℕ → ℕ) (b : ByteSet) (m : MessageSet) → place + 1 ≤ count → SetShows Shows count firsts b m
      → is_some (slot_at place b).connection ≡ is_some (slot_at place m).connection
  same_connection place count firsts b m here x =
      connection_none (LinkExpects (place + 1) b.client) (LinkHolds (place + 1) b.client) (firsts (place + 1))
      (slot_at place b).life (slot_at place m).life (slot_at place b).connection (slot_at place m).connection (x.each place here).shown

  gathered_one : (place count : ℕ) (b : ByteSet) (m : MessageSet) → place + 1 ≤ count → IsShown Shows count b m
      → IsShown Shows count (gathered_at bytes.nodes place b) (gathered_at nodes place m)
  gathered_one place count b m here x =
      gather_by (slot_at place b).connection (slot_at place m).connection place count x.firsts b m refl refl (same_connection place count x.firsts b m here x.set) here x.set

  gathered : (some count : ℕ) (b : ByteSet) (m : MessageSet) → some ≤ count → IsShown Shows count b m
      → IsShown Shows count (gathered_among bytes.nodes some b) (gathered_among nodes some m)
  unfolding gathered_among
  gathered zero count b m less x = x
  gathered (suc some) count b m less x =
      gathered_one some count (gathered_among bytes.nodes some b) (gathered_among nodes some m) (omega (arith, less)) (gathered some count b m (omega (arith, less)) x)

  -- an event of the client that changed it so
  pub does : (count : ℕ) (f : client.BytesState → client.BytesState) (g : Client → Client) (b : ByteSet) (m : MessageSet) → length b.slots ≡ count → length m.slots ≡ count
      → IsShown Shows count (record b { client = f b.client }) (record m { client = g m.client })
      → IsShown Shows count (client_does bytes.nodes f b) (client_does nodes g m)
  does count f g b m slots talks x =
      subst (λ n. IsShown Shows count (gathered_among bytes.nodes n (record b { client = f b.client })) (client_does nodes g m)) (sym slots)
      (subst (λ n. IsShown Shows count (gathered_among bytes.nodes count (record b { client = f b.client })) (gathered_among nodes n (record m { client = g m.client }))) (sym talks)
      (gathered count count (record b { client = f b.client }) (record m { client = g m.client }) (omega arith) x))
