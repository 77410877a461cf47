-- What happens between the client and one of the servers: over messages it shows what it is over bytes.
use Rattle.std.proofs.Common.{◌≡◌, ℕ, ◌+◌, ◌≤◌, Bool, true, cond, List, length, Option, Some, None, is_some, refl, sym, ap, subst, ◌∙◌}
use Rattle.std.proofs.lemmas.List.{length-set}
use Rattle.ua_channel.specs.State.{WireState}
use Rattle.message_ends.proofs.Lookups.{same_number}
use Rattle.message_ends.specs.Showing.{firsts_with}
use Rattle.link_rules.specs.Opening.{begins_anew}
use Rattle.link_rules.specs.declared.notice.Wish.{Wish}
use Rattle.link_rules.specs.declared.notice.Wish.TheVariants as wish
use Rattle.client_rules.specs.State.{ClientState, link_of}
use Rattle.set_rules.specs.State.{Connection}
use Rattle.set_rules.specs.Slots.{accepted, parted, served, stopped}
use Rattle.set_rules.specs.Moves.{after_close, client_does, closed, dialled, dialled_by, ended, ended_by, halved, in_slot, lost, lost_by, slot_at, wish_taken, wished, wished_by, with_slot}
use Rattle.set_rules.proofs.Places.{other_server, slot_here}
use Rattle.set_world.specs.Bytes as bytes
use Rattle.set_world.specs.State.{ByteSet}
use Rattle.ua_client.specs.State as client
use Rattle.ua_server.specs.State as server
use Rattle.set_messages.specs.Nodes.{Client, Server, nodes}
use Rattle.set_messages.specs.World.{MessageSet}
use Rattle.set_messages.proofs.Facts.{ClientLaws, LinkExpects, LinkHolds, OthersStay, SameServers, ServerLaws}
use Rattle.set_messages.proofs.Slots.{MessageSlot, Shown, accepted_shows, parted_shows, served_shows, slot_alone, slot_changes, stopped_shows}
use Rattle.set_messages.proofs.Sets.{Changes, IsShown, SetShows, ShowsAt, both_change, client_changed, does, same_connection, slot_changed}

-- ---- connections and lives by themselves

parted_by_connection : (boot position given : ℕ) (held : Bool) (life : Option server.BytesState) (c : Option (Connection (List ℕ)))
    → (parted bytes.nodes (record { boot = boot; life = life; position = position; held = held; given = given; connection = c })).connection ≡ None
parted_by_connection boot position given held life None = refl
parted_by_connection boot position given held None (Some c) = refl
parted_by_connection boot position given held (Some r) (Some c) = refl

parted_none : (s : bytes.ByteSlot) → (parted bytes.nodes s).connection ≡ None
parted_none s = parted_by_connection s.boot s.position s.given s.held s.life s.connection

parted_by_life : (boot position given : ℕ) (held : Bool) (life : Option server.BytesState) (c : Option (Connection (List ℕ)))
    → is_some (parted bytes.nodes (record { boot = boot; life = life; position = position; held = held; given = given; connection = c })).life ≡ is_some life
parted_by_life boot position given held life None = refl
parted_by_life boot position given held None (Some c) = refl
parted_by_life boot position given held (Some r) (Some c) = refl

parted_lives : (s : bytes.ByteSlot) → is_some (parted bytes.nodes s).life ≡ is_some s.life
parted_lives s = parted_by_life s.boot s.position s.given s.held s.life s.connection

module _ (E : ℕ → Type 0) (H : Type 0) (last : ℕ) where
  same_life : (life : Option server.BytesState) (talk : Option Server) (c : Option (Connection (List ℕ))) (d : Option (Connection (List WireState)))
      → Shown E H last life talk c d → is_some life ≡ is_some talk
  same_life None None c d s = refl
  same_life None (Some t) c d s = absurd s
  same_life (Some r) None c d s = absurd s
  same_life (Some r) (Some t) c d s = refl

  lifeless : (life : Option server.BytesState) (talk : Option Server) (c : Option (Connection (List ℕ))) (d : Option (Connection (List WireState)))
      → life ≡ None → Shown E H last life talk c d → c ≡ None
  lifeless None None None d none s = refl
  lifeless None None (Some c) d none s = absurd s
  lifeless None (Some t) c d none s = absurd s
  lifeless (Some r) talk c d none s = absurd cc

  -- where a connection stands its link holds it
  holds_there : (life : Option server.BytesState) (talk : Option Server) (c : Option (Connection (List ℕ))) (d : Option (Connection (List WireState)))
      → (H → ⊥) → Shown E H last life talk c d → c ≡ None
  holds_there None None None d never s = refl
  holds_there None None (Some c) d never s = absurd s
  holds_there None (Some t) c d never s = absurd s
  holds_there (Some r) None c d never s = absurd s
  holds_there (Some r) (Some t) None d never s = refl
  holds_there (Some r) (Some t) (Some c) None never s = absurd s
  holds_there (Some r) (Some t) (Some c) (Some d) never s = absurd (never s.conn.holds)

module _ (Shows : (ℕ → ℕ) → client.BytesState → Client → Type 0) (sl : ServerLaws) (cl : ClientLaws Shows) where
  Is : ℕ → ByteSet → MessageSet → Type 0
  Is count b m = IsShown Shows count b m

  -- ---- a slot alone

  pub in_one : (place count : ℕ) (f : bytes.ByteSlot → bytes.ByteSlot) (g : MessageSlot → MessageSlot) (b : ByteSet) (m : MessageSet) → place + 1 ≤ count
      → ((firsts : ℕ → ℕ) (s : bytes.ByteSlot) (z : MessageSlot) → ShowsAt Shows firsts b.client place s z → ShowsAt Shows firsts b.client place (f s) (g z))
      → IsShown Shows count b m → IsShown Shows count (in_slot place f b) (in_slot place g m)
  in_one place count f g b m here step x = record {
    firsts = x.firsts;
    set = slot_changed Shows place count x.firsts b m (f (slot_at place b)) (g (slot_at place m)) here x.set
        (step x.firsts (slot_at place b) (slot_at place m) (x.set.each place here));
  }

  pub serves_one : (place count : ℕ) (b : ByteSet) (m : MessageSet) → place + 1 ≤ count → IsShown Shows count b m
      → IsShown Shows count (in_slot place (served bytes.nodes) b) (in_slot place (served nodes) m)
  serves_one place count b m here x =
      in_one place count (served bytes.nodes) (served nodes) b m here
      (λ firsts s z. served_shows sl (LinkExpects (place + 1) b.client) (LinkHolds (place + 1) b.client) (firsts (place + 1)) s z) x

  -- ---- the client alone, whose connection to this server doesn't stand

  changes_by : (place : ℕ) (firsts : ℕ → ℕ) (rc rd : client.BytesState) → OthersStay (place + 1) rc rd → SameServers rc rd → Changes Shows place firsts firsts rc rd
  changes_by place firsts rc rd others servers = record { numbers = λ q differ. refl; others = others; servers = servers }

  client_apart : (place count : ℕ) (firsts : ℕ → ℕ) (b : ByteSet) (m : MessageSet) (rd : client.BytesState) (td : Client) → place + 1 ≤ count
      → (slot_at place b).connection ≡ None → SetShows Shows count firsts b m → Shows firsts rd td → OthersStay (place + 1) b.client rd → SameServers b.client rd
      → SetShows Shows count firsts (record b { client = rd }) (record m { client = td })
  client_apart place count firsts b m rd td here none x client others servers =
      client_changed Shows place count firsts firsts b m rd td x (changes_by place firsts b.client rd others servers) client
      (slot_alone (LinkExpects (place + 1) b.client) (LinkExpects (place + 1) rd) (LinkHolds (place + 1) b.client) (LinkHolds (place + 1) rd)
      (firsts (place + 1)) (firsts (place + 1)) (slot_at place b) (slot_at place m) none (x.each place here))

  loses_apart : (place count : ℕ) (b : ByteSet) (m : MessageSet) → place + 1 ≤ count → (slot_at place b).connection ≡ None → IsShown Shows count b m
      → IsShown Shows count (client_does bytes.nodes (bytes.nodes.loses (place + 1)) b) (client_does nodes (nodes.loses (place + 1)) m)
  loses_apart place count b m here none x =
      let is = cl.closed (place + 1) x.firsts b.client m.client (x.set.known place here) x.set.client in
      does Shows cl count (bytes.nodes.loses (place + 1)) (nodes.loses (place + 1)) b m x.set.slots x.set.talks
      (record {
        firsts = x.firsts;
        set = client_apart place count x.firsts b m (bytes.nodes.loses (place + 1) b.client) (nodes.loses (place + 1) m.client) here none x.set is.0 is.1 is.2;
      })

  refused_apart : (place count : ℕ) (b : ByteSet) (m : MessageSet) → place + 1 ≤ count → (slot_at place b).connection ≡ None → IsShown Shows count b m
      → IsShown Shows count (client_does bytes.nodes (bytes.nodes.is_refused (place + 1)) b) (client_does nodes (nodes.is_refused (place + 1)) m)
  refused_apart place count b m here none x =
      let is = cl.refused (place + 1) x.firsts b.client m.client (x.set.known place here) x.set.client in
      does Shows cl count (bytes.nodes.is_refused (place + 1)) (nodes.is_refused (place + 1)) b m x.set.slots x.set.talks
      (record {
        firsts = x.firsts;
        set = client_apart place count x.firsts b m (bytes.nodes.is_refused (place + 1) b.client) (nodes.is_refused (place + 1) m.client) here none x.set is.0 is.1 is.2;
      })

  -- ---- a connection ends

  parts_one : (place count : ℕ) (b : ByteSet) (m : MessageSet) → place + 1 ≤ count → IsShown Shows count b m
      → IsShown Shows count (in_slot place (parted bytes.nodes) b) (in_slot place (parted nodes) m)
  parts_one place count b m here x =
      in_one place count (parted bytes.nodes) (parted nodes) b m here
      (λ firsts s z. parted_shows sl (LinkExpects (place + 1) b.client) (LinkHolds (place + 1) b.client) (firsts (place + 1)) s z) x

  set_at : (place count : ℕ) (b : ByteSet) (s : bytes.ByteSlot) → length b.slots ≡ count → place + 1 ≤ count → slot_at place (with_slot place s b) ≡ s
  set_at place count b s slots here = slot_here b.slots place s (subst (λ n. place + 1 ≤ n) (sym slots) here)

  lost_cases : (oc : Option (Connection (List ℕ))) (od : Option (Connection (List WireState))) (place count : ℕ) (b : ByteSet) (m : MessageSet)
      → is_some oc ≡ is_some od → place + 1 ≤ count → IsShown Shows count b m → IsShown Shows count (lost_by bytes.nodes oc place b) (lost_by nodes od place m)
  lost_cases None None place count b m same here x = x
  lost_cases None (Some d) place count b m same here x = absurd cc
  lost_cases (Some c) None place count b m same here x = absurd cc
  lost_cases (Some c) (Some d) place count b m same here x =
      loses_apart place count (in_slot place (parted bytes.nodes) b) (in_slot place (parted nodes) m) here
      (ap (λ (s : bytes.ByteSlot). s.connection) (set_at place count b (parted bytes.nodes (slot_at place b)) x.set.slots here) ∙ parted_none (slot_at place b))
      (parts_one place count b m here x)

  pub lost_shows : (place count : ℕ) (b : ByteSet) (m : MessageSet) → place + 1 ≤ count → IsShown Shows count b m
      → IsShown Shows count (lost bytes.nodes place b) (lost nodes place m)
  lost_shows place count b m here x =
      lost_cases (slot_at place b).connection (slot_at place m).connection place count b m (same_connection Shows cl place count x.firsts b m here x.set) here x

  pub halved_shows : (place count : ℕ) (b : ByteSet) (m : MessageSet) → place + 1 ≤ count → IsShown Shows count b m
      → IsShown Shows count (halved bytes.nodes place b) (halved nodes place m)
  halved_shows place count b m here x =
      lost_shows place count (in_slot place (served bytes.nodes) b) (in_slot place (served nodes) m) here (serves_one place count b m here x)

  stops_one : (place count : ℕ) (b : ByteSet) (m : MessageSet) → place + 1 ≤ count → IsShown Shows count b m
      → IsShown Shows count (in_slot place stopped b) (in_slot place stopped m)
  stops_one place count b m here x =
      in_one place count stopped stopped b m here
      (λ firsts s z. stopped_shows sl (LinkExpects (place + 1) b.client) (LinkHolds (place + 1) b.client) (firsts (place + 1)) s z) x

  ended_cases : (oc : Option (Connection (List ℕ))) (od : Option (Connection (List WireState))) (place count : ℕ) (b : ByteSet) (m : MessageSet)
      → is_some oc ≡ is_some od → place + 1 ≤ count → IsShown Shows count b m → IsShown Shows count (ended_by bytes.nodes oc place b) (ended_by nodes od place m)
  ended_cases None None place count b m same here x = stops_one place count b m here x
  ended_cases None (Some d) place count b m same here x = absurd cc
  ended_cases (Some c) None place count b m same here x = absurd cc
  ended_cases (Some c) (Some d) place count b m same here x =
      loses_apart place count (in_slot place stopped b) (in_slot place stopped m) here
      (ap (λ (s : bytes.ByteSlot). s.connection) (set_at place count b (stopped (slot_at place b)) x.set.slots here))
      (stops_one place count b m here x)

  pub ended_shows : (place count : ℕ) (b : ByteSet) (m : MessageSet) → place + 1 ≤ count → IsShown Shows count b m
      → IsShown Shows count (ended bytes.nodes place b) (ended nodes place m)
  ended_shows place count b m here x =
      ended_cases (slot_at place b).connection (slot_at place m).connection place count b m (same_connection Shows cl place count x.firsts b m here x.set) here x

  -- ---- a connection begins

  begun_changes : (place : ℕ) (firsts : ℕ → ℕ) (rc rd : client.BytesState) → OthersStay (place + 1) rc rd → SameServers rc rd
      → Changes Shows place firsts (firsts_with (place + 1) 1 firsts) rc rd
  begun_changes place firsts rc rd others servers = record {
    numbers = λ q differ. ap (λ b. cond b 1 (firsts (q + 1))) (other_server q place differ);
    others = others;
    servers = servers;
  }

  dialled_cases : (life : Option server.BytesState) (talk : Option Server) (place count : ℕ) (b : ByteSet) (m : MessageSet) → (slot_at place b).life ≡ life
      → is_some life ≡ is_some talk → place + 1 ≤ count → begins_anew (link_of (place + 1) b.client.hub) ≡ true → IsShown Shows count b m
      → IsShown Shows count (dialled_by bytes.nodes life place b) (dialled_by nodes talk place m)
  dialled_cases None None place count b m is same here anew x =
      refused_apart place count b m here
      (lifeless (LinkExpects (place + 1) b.client) (LinkHolds (place + 1) b.client) (x.firsts (place + 1)) (slot_at place b).life (slot_at place m).life
      (slot_at place b).connection (slot_at place m).connection is (x.set.each place here).shown) x
  dialled_cases None (Some t) place count b m is same here anew x = absurd cc
  dialled_cases (Some r) None place count b m is same here anew x = absurd cc
  dialled_cases (Some r) (Some t) place count b m is same here anew x =
      let rd = bytes.nodes.connects (place + 1) b.client in
      let step = cl.connects (place + 1) x.firsts b.client m.client (x.set.known place here) anew x.set.client in
      let after = firsts_with (place + 1) 1 x.firsts in
      let one : after (place + 1) ≡ 1 = ap (λ y. cond y 1 (x.firsts (place + 1))) (same_number (place + 1)) in
      let s = parted bytes.nodes (slot_at place b) in
      let z = parted nodes (slot_at place m) in
      let old = parted_shows sl (LinkExpects (place + 1) b.client) (LinkHolds (place + 1) b.client) (x.firsts (place + 1)) (slot_at place b) (slot_at place m) (x.set.each place here) in
      does Shows cl count (bytes.nodes.connects (place + 1)) (nodes.connects (place + 1))
      (with_slot place (accepted bytes.nodes s) b) (with_slot place (accepted nodes z) m)
      (length-set b.slots place (accepted bytes.nodes s) ∙ x.set.slots) (length-set m.slots place (accepted nodes z) ∙ x.set.talks)
      (record {
        firsts = after;
        set = both_change Shows place count x.firsts after b m (accepted bytes.nodes s) (accepted nodes z) rd (nodes.connects (place + 1) m.client) here x.set
            (begun_changes place x.firsts b.client rd step.3 step.4) step.0
            (accepted_shows sl (LinkExpects (place + 1) rd) (LinkHolds (place + 1) rd) (after (place + 1)) s z one step.1 step.2
            (parted_none (slot_at place b)) (parted_lives (slot_at place b) ∙ ap (λ (o : Option server.BytesState). is_some o) is)
            (slot_alone (LinkExpects (place + 1) b.client) (LinkExpects (place + 1) rd) (LinkHolds (place + 1) b.client) (LinkHolds (place + 1) rd)
            (x.firsts (place + 1)) (after (place + 1)) s z (parted_none (slot_at place b)) old));
      })

  dialled_shows : (place count : ℕ) (b : ByteSet) (m : MessageSet) → place + 1 ≤ count → begins_anew (link_of (place + 1) b.client.hub) ≡ true → IsShown Shows count b m
      → IsShown Shows count (dialled bytes.nodes place b) (dialled nodes place m)
  dialled_shows place count b m here anew x =
      dialled_cases (slot_at place b).life (slot_at place m).life place count b m refl
      (same_life (LinkExpects (place + 1) b.client) (LinkHolds (place + 1) b.client) (x.firsts (place + 1)) (slot_at place b).life (slot_at place m).life
      (slot_at place b).connection (slot_at place m).connection (x.set.each place here).shown) here anew x

  -- ---- wishes

  taken_apart : (place count : ℕ) (b : ByteSet) (m : MessageSet) → place + 1 ≤ count → (slot_at place b).connection ≡ None → IsShown Shows count b m
      → IsShown Shows count (wish_taken bytes.nodes place b) (wish_taken nodes place m)
  taken_apart place count b m here none x =
      let is = cl.wish_taken (place + 1) x.firsts b.client m.client (x.set.known place here) x.set.client in
      record {
        firsts = x.firsts;
        set = client_apart place count x.firsts b m (bytes.nodes.wish_taken (place + 1) b.client) (nodes.wish_taken (place + 1) m.client) here none x.set is.0 is.1 is.2;
      }

  -- a wish to dial is of a link without a connection
  dial_apart : (place count : ℕ) (b : ByteSet) (m : MessageSet) → place + 1 ≤ count → client.wished (place + 1) b.client.hub ≡ wish.Dial → IsShown Shows count b m
      → (slot_at place b).connection ≡ None
  dial_apart place count b m here is x =
      holds_there (LinkExpects (place + 1) b.client) (LinkHolds (place + 1) b.client) (x.firsts (place + 1)) (slot_at place b).life (slot_at place m).life
      (slot_at place b).connection (slot_at place m).connection (λ holds. cl.dials_alone (place + 1) b.client (x.set.known place here) is holds) (x.set.each place here).shown

  dials_shows : (place count : ℕ) (b : ByteSet) (m : MessageSet) → place + 1 ≤ count → client.wished (place + 1) b.client.hub ≡ wish.Dial → IsShown Shows count b m
      → IsShown Shows count (dialled bytes.nodes place (wish_taken bytes.nodes place b)) (dialled nodes place (wish_taken nodes place m))
  dials_shows place count b m here is x =
      dialled_shows place count (wish_taken bytes.nodes place b) (wish_taken nodes place m) here
      (cl.dials (place + 1) b.client (x.set.known place here) is)
      (taken_apart place count b m here (dial_apart place count b m here is x) x)

  closed_cases : (w : Wish) (place count : ℕ) (b : ByteSet) (m : MessageSet) → client.wished (place + 1) b.client.hub ≡ w → place + 1 ≤ count
      → (slot_at place b).connection ≡ None → IsShown Shows count b m → IsShown Shows count (after_close bytes.nodes w place b) (after_close nodes w place m)
  closed_cases wish.Dial place count b m is here none x = dials_shows place count b m here is x
  closed_cases wish.None place count b m is here none x = taken_apart place count b m here none x
  closed_cases wish.Close place count b m is here none x = taken_apart place count b m here none x

  -- both sides wish the same
  same_wish : (place count : ℕ) (b : ByteSet) (m : MessageSet) → IsShown Shows count b m → client.wished (place + 1) b.client.hub ≡ client.wished (place + 1) m.client.hub
  same_wish place count b m x = ap (λ (h : ClientState). client.wished (place + 1) h) (cl.hub x.firsts b.client m.client x.set.client)

  closed_shows : (place count : ℕ) (b : ByteSet) (m : MessageSet) → place + 1 ≤ count → (slot_at place b).connection ≡ None → IsShown Shows count b m
      → IsShown Shows count (closed bytes.nodes place b) (closed nodes place m)
  closed_shows place count b m here none x =
      subst (λ w. IsShown Shows count (closed bytes.nodes place b) (after_close nodes w place m)) (same_wish place count b m x)
      (closed_cases (client.wished (place + 1) b.client.hub) place count b m refl here none x)

  wished_cases : (w : Wish) (place count : ℕ) (b : ByteSet) (m : MessageSet) → client.wished (place + 1) b.client.hub ≡ w → place + 1 ≤ count
      → IsShown Shows count b m → IsShown Shows count (wished_by bytes.nodes w place b) (wished_by nodes w place m)
  wished_cases wish.None place count b m is here x =
      let taken = cl.wish_taken (place + 1) x.firsts b.client m.client (x.set.known place here) x.set.client in
      let rd = bytes.nodes.wish_taken (place + 1) b.client in
      record {
        firsts = x.firsts;
        set = client_changed Shows place count x.firsts x.firsts b m rd (nodes.wish_taken (place + 1) m.client) x.set
            (changes_by place x.firsts b.client rd taken.1 taken.2) taken.0
            (slot_changes (LinkExpects (place + 1) b.client) (LinkExpects (place + 1) rd) (LinkHolds (place + 1) b.client) (LinkHolds (place + 1) rd) (x.firsts (place + 1))
            (slot_at place b) (slot_at place m) (cl.wishes_none (place + 1) b.client (x.set.known place here) is) (λ holds n expects. expects) (x.set.each place here));
      }
  wished_cases wish.Dial place count b m is here x = dials_shows place count b m here is x
  wished_cases wish.Close place count b m is here x =
      let taken = cl.wish_taken (place + 1) x.firsts b.client m.client (x.set.known place here) x.set.client in
      let rd = bytes.nodes.wish_taken (place + 1) b.client in
      let td = nodes.wish_taken (place + 1) m.client in
      let s = parted bytes.nodes (slot_at place b) in
      let z = parted nodes (slot_at place m) in
      closed_shows place count (in_slot place (parted bytes.nodes) (wish_taken bytes.nodes place b)) (in_slot place (parted nodes) (wish_taken nodes place m)) here
      (ap (λ (y : bytes.ByteSlot). y.connection) (set_at place count b s x.set.slots here) ∙ parted_none (slot_at place b))
      (record {
        firsts = x.firsts;
        set = both_change Shows place count x.firsts x.firsts b m s z rd td here x.set (changes_by place x.firsts b.client rd taken.1 taken.2) taken.0
            (slot_alone (LinkExpects (place + 1) b.client) (LinkExpects (place + 1) rd) (LinkHolds (place + 1) b.client) (LinkHolds (place + 1) rd)
            (x.firsts (place + 1)) (x.firsts (place + 1)) s z (parted_none (slot_at place b))
            (parted_shows sl (LinkExpects (place + 1) b.client) (LinkHolds (place + 1) b.client) (x.firsts (place + 1)) (slot_at place b) (slot_at place m) (x.set.each place here)));
      })

  pub wished_shows : (place count : ℕ) (b : ByteSet) (m : MessageSet) → place + 1 ≤ count → IsShown Shows count b m
      → IsShown Shows count (wished bytes.nodes place b) (wished nodes place m)
  wished_shows place count b m here x =
      subst (λ w. IsShown Shows count (wished bytes.nodes place b) (wished_by nodes w place m)) (same_wish place count b m x)
      (wished_cases (client.wished (place + 1) b.client.hub) place count b m refl here x)
