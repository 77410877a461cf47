-- Turns, rounds and time: over messages they show what they are over bytes.
use Rattle.std.proofs.Common.{◌≡◌, ℕ, zero, suc, ◌+◌, ◌==◌, ◌≤◌, Bool, true, false, cond, List, [], map, length, Option, Some, None, is_some, refl, sym, subst, ◌∙◌, arith}
use Rattle.std.proofs.lemmas.Bool.Decides.{nat_tests}
use Rattle.std.proofs.lemmas.List.{length-set}
use Rattle.ua_channel.specs.State.{WireState}
use Rattle.ua_channel.specs.Arriving.{Sent, bytes_of}
use Rattle.server_messages.specs.Fitting.{Brings as ServerBrings}
use Rattle.set_rules.specs.State.{Connection}
use Rattle.set_rules.specs.Slots.{happens, served}
use Rattle.set_rules.specs.Moves.{client_does, in_slot, is_left, learned, learned_by, lost, slot_at, wished, with_slot}
use Rattle.set_rules.specs.Rounds.{left, round, rounds, ticked, ticked_among, turn, turn_if_free, turns_among}
use Rattle.set_world.specs.Bytes as bytes
use Rattle.set_world.specs.State.{ByteSet}
use Rattle.ua_client.specs.State as client
use Rattle.ua_server.specs.State as server
use Rattle.set_messages.specs.Nodes.{Client, Server, nodes}
use Rattle.set_messages.specs.World.{MessageSet}
use Rattle.set_messages.proofs.Flights.{each_fits, no_flight}
use Rattle.set_messages.proofs.Facts.{ClientLaws, LinkExpects, LinkHolds, OthersStay, SameServers, ServerLaws}
use Rattle.set_messages.proofs.Slots.{MessageSlot, ServesOn, Shown, happens_shows, left_same, slot_changes}
use Rattle.set_messages.proofs.Sets.{IsShown, SetShows, both_change, does, same_connection}
use Rattle.set_messages.proofs.Moves.{in_one, lost_shows, serves_one, wished_shows}

module _ (Shows : (ℕ → ℕ) → client.BytesState → Client → Type 0) (sl : ServerLaws) (cl : ClientLaws Shows) where
  -- ---- what is in flight from a server comes

  abbrev without_back : Connection (List ℕ) → Connection (List ℕ)
  without_back c = record c { back = [] }

  abbrev without_messages : Connection (List WireState) → Connection (List WireState)
  without_messages d = record d { back = [] }

  -- a life that serves the connection of the client
  record Standing (place : ℕ) (rc : client.BytesState) (last : ℕ) (life : Option server.BytesState) (talk : Option Server)
      (c : Connection (List ℕ)) (d : Connection (List WireState)) : Type 0 where
    r : server.BytesState
    t : Server
    runs : life ≡ Some r
    talks : talk ≡ Some t
    serves : ServesOn (LinkExpects (place + 1) rc) (LinkHolds (place + 1) rc) last r t c d

  standing : (place : ℕ) (rc : client.BytesState) (last : ℕ) (life : Option server.BytesState) (talk : Option Server) (c : Connection (List ℕ)) (d : Connection (List WireState))
      → Shown (LinkExpects (place + 1) rc) (LinkHolds (place + 1) rc) last life talk (Some c) (Some d) → Standing place rc last life talk c d
  standing place rc last None None c d s = absurd s
  standing place rc last None (Some t) c d s = absurd s
  standing place rc last (Some r) None c d s = absurd s
  standing place rc last (Some r) (Some t) c d s = record { r = r; t = t; runs = refl; talks = refl; serves = s }

  came_back : (place : ℕ) (rc rd : client.BytesState) (last : ℕ) (life : Option server.BytesState) (talk : Option Server) (c : Connection (List ℕ)) (d : Connection (List WireState))
      → (s : Standing place rc last life talk c d) → LinkExpects (place + 1) rd (s.serves.firsts c.number) → LinkHolds (place + 1) rd
      → Shown (LinkExpects (place + 1) rd) (LinkHolds (place + 1) rd) last life talk (Some (without_back c)) (Some (without_messages d))
  came_back place rc rd last life talk c d s expects holds =
      subst (λ o. Shown (LinkExpects (place + 1) rd) (LinkHolds (place + 1) rd) last o talk (Some (without_back c)) (Some (without_messages d))) (sym s.runs)
      (subst (λ o. Shown (LinkExpects (place + 1) rd) (LinkHolds (place + 1) rd) last (Some s.r) o (Some (without_back c)) (Some (without_messages d))) (sym s.talks)
      (record {
        firsts = s.serves.firsts;
        stands = s.serves.stands;
        only = s.serves.only;
        conn = record {
          number = s.serves.conn.number;
          back = no_flight ServerBrings (LinkExpects (place + 1) rd) (s.serves.firsts c.number) expects;
          there = s.serves.conn.there;
          holds = holds;
        };
      }))

  abbrev emptied_slot : bytes.ByteSlot → Connection (List ℕ) → bytes.ByteSlot
  emptied_slot s c = record s { connection = Some (without_back c) }

  abbrev emptied_talk : MessageSlot → Connection (List WireState) → MessageSlot
  emptied_talk z d = record z { connection = Some (without_messages d) }

  learns_some : (place count : ℕ) (b : ByteSet) (m : MessageSet) (c : Connection (List ℕ)) (d : Connection (List WireState)) → place + 1 ≤ count
      → (slot_at place b).connection ≡ Some c → (slot_at place m).connection ≡ Some d → (x : IsShown Shows count b m)
      → IsShown Shows count
      (record (with_slot place (emptied_slot (slot_at place b) c) b) { client = bytes.nodes.learns (place + 1) c.back b.client })
      (record (with_slot place (emptied_talk (slot_at place m) d) m) { client = nodes.learns (place + 1) d.back m.client })
  learns_some place count b m c d here there thus x =
      let old = x.set.each place here in
      let known = x.set.known place here in
      let s = standing place b.client (x.firsts (place + 1)) (slot_at place b).life (slot_at place m).life c d
      (subst (λ o. Shown (LinkExpects (place + 1) b.client) (LinkHolds (place + 1) b.client) (x.firsts (place + 1)) (slot_at place b).life (slot_at place m).life (Some c) o) thus
      (subst (λ o. Shown (LinkExpects (place + 1) b.client) (LinkHolds (place + 1) b.client) (x.firsts (place + 1)) (slot_at place b).life (slot_at place m).life o (slot_at place m).connection) there old.shown)) in
      let f = s.serves.conn.back in
      let n = s.serves.firsts c.number in
      let step = cl.heard (place + 1) f.first n x.firsts f.sent b.client m.client known (each_fits ServerBrings f.sent d.back f.wires_are f.fits) f.chain f.awaits x.set.client in
      let rd = bytes.nodes.learns (place + 1) (bytes_of f.sent) b.client in
      let td = nodes.learns (place + 1) (map (λ (k : Sent). k.wire) f.sent) m.client in
      subst (λ (l : List ℕ). IsShown Shows count
      (record (with_slot place (emptied_slot (slot_at place b) c) b) { client = bytes.nodes.learns (place + 1) l b.client })
      (record (with_slot place (emptied_talk (slot_at place m) d) m) { client = nodes.learns (place + 1) d.back m.client })) (sym f.bytes_are)
      (subst (λ (w : List WireState). IsShown Shows count
      (record (with_slot place (emptied_slot (slot_at place b) c) b) { client = rd })
      (record (with_slot place (emptied_talk (slot_at place m) d) m) { client = nodes.learns (place + 1) w m.client })) f.wires_are
      (record {
        firsts = x.firsts;
        set = both_change Shows place count x.firsts x.firsts b m (emptied_slot (slot_at place b) c) (emptied_talk (slot_at place m) d) rd td here x.set
            (record { numbers = λ q differ. refl; others = step.3; servers = step.4 }) step.0
            (record {
              boot = old.boot;
              position = old.position;
              held = old.held;
              given = old.given;
              shown = came_back place b.client rd (x.firsts (place + 1)) (slot_at place b).life (slot_at place m).life c d s step.1 (step.2 s.serves.conn.holds);
            });
      }))

  learned_cases : (oc : Option (Connection (List ℕ))) (od : Option (Connection (List WireState))) (place count : ℕ) (b : ByteSet) (m : MessageSet)
      → (slot_at place b).connection ≡ oc → (slot_at place m).connection ≡ od → is_some oc ≡ is_some od → place + 1 ≤ count → IsShown Shows count b m
      → IsShown Shows count (learned_by bytes.nodes oc place b) (learned_by nodes od place m)
  learned_cases None None place count b m there thus same here x = x
  learned_cases None (Some d) place count b m there thus same here x = absurd cc
  learned_cases (Some c) None place count b m there thus same here x = absurd cc
  learned_cases (Some c) (Some d) place count b m there thus same here x =
      does Shows cl count (bytes.nodes.learns (place + 1) c.back) (nodes.learns (place + 1) d.back)
      (with_slot place (emptied_slot (slot_at place b) c) b) (with_slot place (emptied_talk (slot_at place m) d) m)
      (length-set b.slots place (emptied_slot (slot_at place b) c) ∙ x.set.slots) (length-set m.slots place (emptied_talk (slot_at place m) d) ∙ x.set.talks)
      (learns_some place count b m c d here there thus x)

  pub learned_shows : (place count : ℕ) (b : ByteSet) (m : MessageSet) → place + 1 ≤ count → IsShown Shows count b m
      → IsShown Shows count (learned bytes.nodes place b) (learned nodes place m)
  learned_shows place count b m here x =
      learned_cases (slot_at place b).connection (slot_at place m).connection place count b m refl refl (same_connection Shows cl place count x.firsts b m here x.set) here x

  -- ---- turns

  left_cases : (is : Bool) (place count : ℕ) (b : ByteSet) (m : MessageSet) → place + 1 ≤ count → IsShown Shows count b m
      → IsShown Shows count (cond is (lost bytes.nodes place b) b) (cond is (lost nodes place m) m)
  left_cases true place count b m here x = lost_shows Shows sl cl place count b m here x
  left_cases false place count b m here x = x

  left_shows : (place count : ℕ) (b : ByteSet) (m : MessageSet) → place + 1 ≤ count → IsShown Shows count b m
      → IsShown Shows count (left bytes.nodes place b) (left nodes place m)
  left_shows place count b m here x =
      subst (λ is. IsShown Shows count (left bytes.nodes place b) (cond is (lost nodes place m) m))
      (left_same (LinkExpects (place + 1) b.client) (LinkHolds (place + 1) b.client) (x.firsts (place + 1)) (slot_at place b).life (slot_at place m).life
      (slot_at place b).connection (slot_at place m).connection (x.set.each place here).shown)
      (left_cases (is_left bytes.nodes (slot_at place b)) place count b m here x)

  turn_shows : (place count : ℕ) (b : ByteSet) (m : MessageSet) → place + 1 ≤ count → IsShown Shows count b m
      → IsShown Shows count (turn bytes.nodes place b) (turn nodes place m)
  turn_shows place count b m here x =
      let b1 = wished bytes.nodes place b in
      let m1 = wished nodes place m in
      let b2 = in_slot place (served bytes.nodes) b1 in
      let m2 = in_slot place (served nodes) m1 in
      left_shows place count (learned bytes.nodes place b2) (learned nodes place m2) here
      (learned_shows place count b2 m2 here
      (serves_one Shows sl cl place count b1 m1 here
      (wished_shows Shows sl cl place count b m here x)))

  free_cases : (held : Bool) (place count : ℕ) (b : ByteSet) (m : MessageSet) → place + 1 ≤ count → IsShown Shows count b m
      → IsShown Shows count (cond held b (turn bytes.nodes place b)) (cond held m (turn nodes place m))
  free_cases true place count b m here x = x
  free_cases false place count b m here x = turn_shows place count b m here x

  free_shows : (place count : ℕ) (b : ByteSet) (m : MessageSet) → place + 1 ≤ count → IsShown Shows count b m
      → IsShown Shows count (turn_if_free bytes.nodes place b) (turn_if_free nodes place m)
  free_shows place count b m here x =
      subst (λ held. IsShown Shows count (turn_if_free bytes.nodes place b) (cond held m (turn nodes place m))) (x.set.each place here).held
      (free_cases (slot_at place b).held place count b m here x)

  turns_show : (some count : ℕ) (b : ByteSet) (m : MessageSet) → some ≤ count → IsShown Shows count b m
      → IsShown Shows count (turns_among bytes.nodes some b) (turns_among nodes some m)
  unfolding turns_among
  turns_show zero count b m less x = x
  turns_show (suc some) count b m less x =
      free_shows some count (turns_among bytes.nodes some b) (turns_among nodes some m) (omega (arith, less)) (turns_show some count b m (omega (arith, less)) x)

  round_shows : (count : ℕ) (b : ByteSet) (m : MessageSet) → IsShown Shows count b m → IsShown Shows count (round bytes.nodes b) (round nodes m)
  round_shows count b m x =
      subst (λ n. IsShown Shows count (turns_among bytes.nodes n b) (round nodes m)) (sym x.set.slots)
      (subst (λ n. IsShown Shows count (turns_among bytes.nodes count b) (turns_among nodes n m)) (sym x.set.talks)
      (turns_show count count b m (omega arith) x))

  pub rounds_show : (some count : ℕ) (b : ByteSet) (m : MessageSet) → IsShown Shows count b m → IsShown Shows count (rounds bytes.nodes some b) (rounds nodes some m)
  unfolding rounds
  rounds_show zero count b m x = x
  rounds_show (suc some) count b m x = round_shows count (rounds bytes.nodes some b) (rounds nodes some m) (rounds_show some count b m x)

  -- ---- time

  tick_one : (ms place count : ℕ) (b : ByteSet) (m : MessageSet) → place + 1 ≤ count → IsShown Shows count b m
      → IsShown Shows count (in_slot place (happens bytes.nodes (bytes.nodes.ticks ms)) b) (in_slot place (happens nodes (nodes.ticks ms)) m)
  tick_one ms place count b m here x =
      in_one Shows sl cl place count (happens bytes.nodes (bytes.nodes.ticks ms)) (happens nodes (nodes.ticks ms)) b m here
      (λ firsts s z. happens_shows sl (LinkExpects (place + 1) b.client) (LinkHolds (place + 1) b.client) (firsts (place + 1)) (bytes.nodes.ticks ms) (nodes.ticks ms) s z (sl.ticked ms)) x

  ticks_show : (ms some count : ℕ) (b : ByteSet) (m : MessageSet) → some ≤ count → IsShown Shows count b m
      → IsShown Shows count (ticked_among bytes.nodes ms some b) (ticked_among nodes ms some m)
  unfolding ticked_among
  ticks_show ms zero count b m less x = x
  ticks_show ms (suc some) count b m less x =
      tick_one ms some count (ticked_among bytes.nodes ms some b) (ticked_among nodes ms some m) (omega (arith, less)) (ticks_show ms some count b m (omega (arith, less)) x)

  no_server : (k : ℕ) → (k + 1 == 0) ≡ false
  no_server k = grind (arith, nat_tests)

  -- all links stay but for what time does
  all_changed : (count : ℕ) (firsts : ℕ → ℕ) (b : ByteSet) (m : MessageSet) (rd : client.BytesState) (td : Client) → SetShows Shows count firsts b m → Shows firsts rd td
      → OthersStay 0 b.client rd → SameServers b.client rd → SetShows Shows count firsts (record b { client = rd }) (record m { client = td })
  all_changed count firsts b m rd td x client others servers = record {
    source = x.source;
    fits = x.fits;
    slots = x.slots;
    talks = x.talks;
    known = λ q within. servers (q + 1) ∙ x.known q within;
    client = client;
    each = λ q within. slot_changes (LinkExpects (q + 1) b.client) (LinkExpects (q + 1) rd) (LinkHolds (q + 1) b.client) (LinkHolds (q + 1) rd) (firsts (q + 1))
        (slot_at q b) (slot_at q m)
        (λ holds. (others (q + 1) (no_server q) (x.known q within) holds).0)
        (λ holds. (others (q + 1) (no_server q) (x.known q within) holds).1)
        (x.each q within);
  }

  waits_show : (ms count : ℕ) (b : ByteSet) (m : MessageSet) → IsShown Shows count b m
      → IsShown Shows count (client_does bytes.nodes (bytes.nodes.waits ms) b) (client_does nodes (nodes.waits ms) m)
  waits_show ms count b m x =
      let is = cl.waited ms x.firsts b.client m.client x.set.client in
      does Shows cl count (bytes.nodes.waits ms) (nodes.waits ms) b m x.set.slots x.set.talks
      (record { firsts = x.firsts; set = all_changed count x.firsts b m (bytes.nodes.waits ms b.client) (nodes.waits ms m.client) x.set is.0 is.1 is.2 })

  pub ticked_shows : (ms count : ℕ) (b : ByteSet) (m : MessageSet) → IsShown Shows count b m → IsShown Shows count (ticked bytes.nodes ms b) (ticked nodes ms m)
  ticked_shows ms count b m x =
      waits_show ms count (ticked_among bytes.nodes ms (length b.slots) b) (ticked_among nodes ms (length m.slots) m)
      (subst (λ n. IsShown Shows count (ticked_among bytes.nodes ms n b) (ticked_among nodes ms (length m.slots) m)) (sym x.set.slots)
      (subst (λ n. IsShown Shows count (ticked_among bytes.nodes ms count b) (ticked_among nodes ms n m)) (sym x.set.talks)
      (ticks_show ms count count b m (omega arith) x)))
