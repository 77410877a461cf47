-- A set whose nodes note what they take and put does what the set does without these notes, move by move.
use Rattle.std.proofs.Common.{◌≡◌, ℕ, zero, suc, ◌+◌, ◌-◌, ◌^◌, min, Bool, true, false, cond, List, [], ◌∷◌, length, map, Option, Some, None, slice_index_or, slice_set, refl, sym, ap, ap₂, ◌∙◌}
use Rattle.std.proofs.lemmas.List.{length-map}
use Rattle.set_model.specs.declared.source.Change.{Change}
use Rattle.link_rules.specs.declared.notice.Wish.{Wish}
use Rattle.link_rules.specs.declared.notice.Wish.TheVariants as wish
use Rattle.set_rules.specs.State.{Connection, SetState, Slot}
use Rattle.set_rules.specs.Nodes.{Nodes}
use Rattle.set_rules.specs.Slots.{accepted, fed_all, happens, parted, served, stopped}
use Rattle.set_rules.specs.Moves.{after_close, asked_by, cleared_by, client_does, closed, dialled, dialled_by, ended, ended_by, gathered_among, gathered_at, halved, in_slot, is_left, is_left_by, learned, learned_by, lost, lost_by, no_slot, slot_at, wish_taken, wished, wished_by, with_slot}
use Rattle.set_rules.specs.Rounds.{left, round, rounds, ticked, ticked_among, turn, turn_if_free, turns_among}
use Rattle.set_fronts.specs.Noting.{NotedClient, NotedLife, noting}

-- ---- without the notes

abbrev pub plain_life : {S A : Type 0} → Option (NotedLife S A) → Option S
plain_life None = None
plain_life (Some t) = Some t.node

abbrev pub plain_slot : {S A : Type 0} → Slot (NotedLife S A) (List A) → Slot S (List A)
plain_slot z = record { boot = z.boot; life = plain_life z.life; position = z.position; held = z.held; given = z.given; connection = z.connection }

abbrev pub plain : {S C A : Type 0} → SetState (NotedLife S A) (NotedClient C A) (List A) → SetState S C (List A)
plain v = record { source = v.source; slots = map plain_slot v.slots; client = v.client.node }

-- ---- lists

get_mapped : {X Y : Type 0} (f : X → Y) (xs : List X) (i : ℕ) (d : X) → slice_index_or (map f xs) i (f d) ≡ f (slice_index_or xs i d)
get_mapped f [] i d = refl
get_mapped f (x ∷ xs) zero d = refl
get_mapped f (x ∷ xs) (suc i) d = get_mapped f xs i d

set_mapped : {X Y : Type 0} (f : X → Y) (xs : List X) (i : ℕ) (x : X) → map f (slice_set xs i x) ≡ slice_set (map f xs) i (f x)
set_mapped f [] i y = refl
set_mapped f (x ∷ xs) zero y = refl
set_mapped f (x ∷ xs) (suc i) y = ap (λ l. f x ∷ l) (set_mapped f xs i y)

module _ {S C A : Type 0} where
  pub long_plain : (v : SetState (NotedLife S A) (NotedClient C A) (List A)) → length (plain v).slots ≡ length v.slots
  long_plain v = length-map v.slots plain_slot

  pub slot_plain : (place : ℕ) (v : SetState (NotedLife S A) (NotedClient C A) (List A)) → slot_at place (plain v) ≡ plain_slot (slot_at place v)
  slot_plain place v = get_mapped plain_slot v.slots place no_slot

  with_plain : (place : ℕ) (z : Slot (NotedLife S A) (List A)) (v : SetState (NotedLife S A) (NotedClient C A) (List A))
      → plain (with_slot place z v) ≡ with_slot place (plain_slot z) (plain v)
  with_plain place z v =
      ap (λ (l : List (Slot S (List A))). record { source = v.source; slots = l; client = v.client.node }) (set_mapped plain_slot v.slots place z)

module _ {S C A : Type 0} (n : Nodes S C (List A)) where
  abbrev pub Life : Type 0
  Life = NotedLife S A

  abbrev pub Noting : Type 0
  Noting = SetState (NotedLife S A) (NotedClient C A) (List A)

  -- ---- one server

  happens_in : (f : S → S) (g : Life → Life) → ((t : Life) → (g t).node ≡ f t.node)
      → (boot position given : ℕ) (held : Bool) (life : Option Life) (c : Option (Connection (List A)))
      → plain_slot (happens (noting n) g (record { boot = boot; life = life; position = position; held = held; given = given; connection = c }))
      ≡ happens n f (record { boot = boot; life = plain_life life; position = position; held = held; given = given; connection = c })
  happens_in f g is boot position given held None c = refl
  happens_in f g is boot position given held (Some t) None =
      ap (λ (k : S). record { boot = boot; life = Some k; position = position; held = held; given = given; connection = None }) (is t)
  happens_in f g is boot position given held (Some t) (Some c) =
      ap (λ (k : S). record {
        boot = boot;
        life = Some (n.emptied c.number k);
        position = position;
        held = held;
        given = given;
        connection = Some (record c { back = n.joined c.back (n.answered c.number k) });
      }) (is t)

  happens_same : (f : S → S) (g : Life → Life) → ((t : Life) → (g t).node ≡ f t.node) → (z : Slot Life (List A))
      → plain_slot (happens (noting n) g z) ≡ happens n f (plain_slot z)
  happens_same f g is z = happens_in f g is z.boot z.position z.given z.held z.life z.connection

  pub fed_same : (changes : List Change) (z : Slot Life (List A)) → plain_slot (fed_all (noting n) changes z) ≡ fed_all n changes (plain_slot z)
  fed_same [] z = refl
  fed_same (change ∷ changes) z =
      fed_same changes (happens (noting n) ((noting n).feeds change) z)
      ∙ ap (λ (s : Slot S (List A)). fed_all n changes s) (happens_same (n.feeds change) ((noting n).feeds change) (λ t. refl) z)

  pub leveled_same : (level : ℕ) (z : Slot Life (List A)) → plain_slot (happens (noting n) ((noting n).levels level) z) ≡ happens n (n.levels level) (plain_slot z)
  leveled_same level z = happens_same (n.levels level) ((noting n).levels level) (λ t. refl) z

  served_in : (boot position given : ℕ) (held : Bool) (life : Option Life) (c : Option (Connection (List A)))
      → plain_slot (served (noting n) (record { boot = boot; life = life; position = position; held = held; given = given; connection = c }))
      ≡ served n (record { boot = boot; life = plain_life life; position = position; held = held; given = given; connection = c })
  served_in boot position given held life None = refl
  served_in boot position given held life (Some c) =
      happens_in (n.hears c.number c.there) ((noting n).hears c.number c.there) (λ t. refl) boot position given held life (Some (record c { there = n.nothing }))

  served_same : (z : Slot Life (List A)) → plain_slot (served (noting n) z) ≡ served n (plain_slot z)
  served_same z = served_in z.boot z.position z.given z.held z.life z.connection

  parted_in : (boot position given : ℕ) (held : Bool) (life : Option Life) (c : Option (Connection (List A)))
      → plain_slot (parted (noting n) (record { boot = boot; life = life; position = position; held = held; given = given; connection = c }))
      ≡ parted n (record { boot = boot; life = plain_life life; position = position; held = held; given = given; connection = c })
  parted_in boot position given held life None = refl
  parted_in boot position given held life (Some c) =
      happens_in (n.ends c.number) ((noting n).ends c.number) (λ t. refl) boot position given held life None

  parted_same : (z : Slot Life (List A)) → plain_slot (parted (noting n) z) ≡ parted n (plain_slot z)
  parted_same z = parted_in z.boot z.position z.given z.held z.life z.connection

  accepted_same : (z : Slot Life (List A)) → plain_slot (accepted (noting n) z) ≡ accepted n (plain_slot z)
  accepted_same z = let k = min (z.given + 1) (2 ^ 32 - 1) in
      happens_in (n.accepts k) ((noting n).accepts k) (λ t. refl) z.boot z.position k z.held z.life (Some (record { number = k; there = n.nothing; back = n.nothing }))

  -- ---- one server of the set

  pub in_one : (place : ℕ) (f : Slot S (List A) → Slot S (List A)) (g : Slot Life (List A) → Slot Life (List A))
      → ((z : Slot Life (List A)) → plain_slot (g z) ≡ f (plain_slot z)) → (v : Noting) → plain (in_slot place g v) ≡ in_slot place f (plain v)
  in_one place f g is v =
      with_plain place (g (slot_at place v)) v
      ∙ ap (λ (s : Slot S (List A)). with_slot place s (plain v)) (is (slot_at place v) ∙ ap f (sym (slot_plain place v)))

  same_connection : (place : ℕ) (v : Noting) → (slot_at place v).connection ≡ (slot_at place (plain v)).connection
  same_connection place v = ap (λ (s : Slot S (List A)). s.connection) (sym (slot_plain place v))

  -- ---- what the client puts

  gathered_by : (oc : Option (Connection (List A))) (place : ℕ) (z : Slot Life (List A)) (v : Noting)
      → plain (record (with_slot place (asked_by (noting n) oc (n.asked (place + 1) v.client.node) z) v) { client = cleared_by (noting n) oc (place + 1) v.client })
      ≡ record (with_slot place (asked_by n oc (n.asked (place + 1) v.client.node) (plain_slot z)) (plain v)) { client = cleared_by n oc (place + 1) v.client.node }
  gathered_by None place z v = with_plain place z v
  gathered_by (Some c) place z v =
      ap (λ (w : SetState S C (List A)). record w { client = n.cleared (place + 1) v.client.node })
      (with_plain place (record z { connection = Some (record c { there = n.joined c.there (n.asked (place + 1) v.client.node) }) }) v)

  gathered_one : (place : ℕ) (v : Noting) → plain (gathered_at (noting n) place v) ≡ gathered_at n place (plain v)
  gathered_one place v =
      gathered_by (slot_at place v).connection place (slot_at place v) v
      ∙ ap (λ (s : Slot S (List A)). record (with_slot place (asked_by n s.connection (n.asked (place + 1) v.client.node) s) (plain v)) {
        client = cleared_by n s.connection (place + 1) v.client.node;
      }) (sym (slot_plain place v))

  gathered_same : (count : ℕ) (v : Noting) → plain (gathered_among (noting n) count v) ≡ gathered_among n count (plain v)
  unfolding gathered_among
  gathered_same zero v = refl
  gathered_same (suc place) v =
      gathered_one place (gathered_among (noting n) place v) ∙ ap (λ (w : SetState S C (List A)). gathered_at n place w) (gathered_same place v)

  does_same : (f : C → C) (g : NotedClient C A → NotedClient C A) → ((c : NotedClient C A) → (g c).node ≡ f c.node) → (v : Noting)
      → plain (client_does (noting n) g v) ≡ client_does n f (plain v)
  does_same f g is v =
      gathered_same (length v.slots) (record v { client = g v.client })
      ∙ ap₂ (λ (k : ℕ) (e : C). gathered_among n k (record (plain v) { client = e })) (sym (long_plain v)) (is v.client)

  -- ---- connections and lives

  lost_by_same : (oc : Option (Connection (List A))) (place : ℕ) (v : Noting) → plain (lost_by (noting n) oc place v) ≡ lost_by n oc place (plain v)
  lost_by_same None place v = refl
  lost_by_same (Some c) place v =
      does_same (n.loses (place + 1)) ((noting n).loses (place + 1)) (λ e. refl) (in_slot place (parted (noting n)) v)
      ∙ ap (client_does n (n.loses (place + 1))) (in_one place (parted n) (parted (noting n)) parted_same v)

  pub lost_same : (place : ℕ) (v : Noting) → plain (lost (noting n) place v) ≡ lost n place (plain v)
  lost_same place v =
      lost_by_same (slot_at place v).connection place v ∙ ap (λ (o : Option (Connection (List A))). lost_by n o place (plain v)) (same_connection place v)

  serves_one : (place : ℕ) (v : Noting) → plain (in_slot place (served (noting n)) v) ≡ in_slot place (served n) (plain v)
  serves_one place v = in_one place (served n) (served (noting n)) served_same v

  pub halved_same : (place : ℕ) (v : Noting) → plain (halved (noting n) place v) ≡ halved n place (plain v)
  halved_same place v =
      lost_same place (in_slot place (served (noting n)) v) ∙ ap (λ (w : SetState S C (List A)). lost n place w) (serves_one place v)

  stops_one : (place : ℕ) (v : Noting) → plain (in_slot place stopped v) ≡ in_slot place stopped (plain v)
  stops_one place v = in_one place stopped stopped (λ z. refl) v

  ended_by_same : (oc : Option (Connection (List A))) (place : ℕ) (v : Noting) → plain (ended_by (noting n) oc place v) ≡ ended_by n oc place (plain v)
  ended_by_same None place v = stops_one place v
  ended_by_same (Some c) place v =
      does_same (n.loses (place + 1)) ((noting n).loses (place + 1)) (λ e. refl) (in_slot place stopped v)
      ∙ ap (client_does n (n.loses (place + 1))) (stops_one place v)

  pub ended_same : (place : ℕ) (v : Noting) → plain (ended (noting n) place v) ≡ ended n place (plain v)
  ended_same place v =
      ended_by_same (slot_at place v).connection place v ∙ ap (λ (o : Option (Connection (List A))). ended_by n o place (plain v)) (same_connection place v)

  dialled_by_same : (life : Option Life) (place : ℕ) (v : Noting) → plain (dialled_by (noting n) life place v) ≡ dialled_by n (plain_life life) place (plain v)
  dialled_by_same None place v = does_same (n.is_refused (place + 1)) ((noting n).is_refused (place + 1)) (λ e. refl) v
  dialled_by_same (Some t) place v =
      does_same (n.connects (place + 1)) ((noting n).connects (place + 1)) (λ e. refl) (in_slot place (λ z. accepted (noting n) (parted (noting n) z)) v)
      ∙ ap (client_does n (n.connects (place + 1)))
      (in_one place (λ s. accepted n (parted n s)) (λ z. accepted (noting n) (parted (noting n) z))
      (λ z. accepted_same (parted (noting n) z) ∙ ap (λ (s : Slot S (List A)). accepted n s) (parted_same z)) v)

  dialled_same : (place : ℕ) (v : Noting) → plain (dialled (noting n) place v) ≡ dialled n place (plain v)
  dialled_same place v =
      dialled_by_same (slot_at place v).life place v
      ∙ ap (λ (s : Slot S (List A)). dialled_by n s.life place (plain v)) (sym (slot_plain place v))

  -- ---- wishes

  taken_same : (place : ℕ) (v : Noting) → plain (wish_taken (noting n) place v) ≡ wish_taken n place (plain v)
  taken_same place v = refl

  after_close_same : (w : Wish) (place : ℕ) (v : Noting) → plain (after_close (noting n) w place v) ≡ after_close n w place (plain v)
  after_close_same wish.Dial place v = dialled_same place (wish_taken (noting n) place v)
  after_close_same wish.None place v = refl
  after_close_same wish.Close place v = refl

  closed_same : (place : ℕ) (v : Noting) → plain (closed (noting n) place v) ≡ closed n place (plain v)
  closed_same place v = after_close_same (n.wish (place + 1) v.client.node) place v

  wished_by_same : (w : Wish) (place : ℕ) (v : Noting) → plain (wished_by (noting n) w place v) ≡ wished_by n w place (plain v)
  wished_by_same wish.None place v = refl
  wished_by_same wish.Dial place v = dialled_same place (wish_taken (noting n) place v)
  wished_by_same wish.Close place v =
      closed_same place (in_slot place (parted (noting n)) (wish_taken (noting n) place v))
      ∙ ap (λ (w : SetState S C (List A)). closed n place w) (in_one place (parted n) (parted (noting n)) parted_same (wish_taken (noting n) place v))

  wished_same : (place : ℕ) (v : Noting) → plain (wished (noting n) place v) ≡ wished n place (plain v)
  wished_same place v = wished_by_same (n.wish (place + 1) v.client.node) place v

  -- ---- what is in flight from a server comes

  learned_by_same : (oc : Option (Connection (List A))) (place : ℕ) (v : Noting) → plain (learned_by (noting n) oc place v) ≡ learned_by n oc place (plain v)
  learned_by_same None place v = refl
  learned_by_same (Some c) place v = let k : Option (Connection (List A)) = Some (record c { back = n.nothing }) in
      does_same (n.learns (place + 1) c.back) ((noting n).learns (place + 1) c.back) (λ e. refl) (with_slot place (record (slot_at place v) { connection = k }) v)
      ∙ ap (client_does n (n.learns (place + 1) c.back))
      (with_plain place (record (slot_at place v) { connection = k }) v
      ∙ ap (λ (s : Slot S (List A)). with_slot place (record s { connection = k }) (plain v)) (sym (slot_plain place v)))

  learned_same : (place : ℕ) (v : Noting) → plain (learned (noting n) place v) ≡ learned n place (plain v)
  learned_same place v =
      learned_by_same (slot_at place v).connection place v ∙ ap (λ (o : Option (Connection (List A))). learned_by n o place (plain v)) (same_connection place v)

  -- ---- turns, rounds and time

  is_left_same : (life : Option Life) (c : Option (Connection (List A))) → is_left_by (noting n) life c ≡ is_left_by n (plain_life life) c
  is_left_same None c = refl
  is_left_same (Some t) None = refl
  is_left_same (Some t) (Some c) = refl

  left_by_same : (is : Bool) (place : ℕ) (v : Noting) → plain (cond is (lost (noting n) place v) v) ≡ cond is (lost n place (plain v)) (plain v)
  left_by_same true place v = lost_same place v
  left_by_same false place v = refl

  left_same : (place : ℕ) (v : Noting) → plain (left (noting n) place v) ≡ left n place (plain v)
  left_same place v = let z = slot_at place v in
      left_by_same (is_left (noting n) z) place v
      ∙ ap (λ (b : Bool). cond b (lost n place (plain v)) (plain v))
      (is_left_same z.life z.connection ∙ ap (λ (s : Slot S (List A)). is_left n s) (sym (slot_plain place v)))

  turn_same : (place : ℕ) (v : Noting) → plain (turn (noting n) place v) ≡ turn n place (plain v)
  turn_same place v =
      let v1 = wished (noting n) place v in
      let v2 = in_slot place (served (noting n)) v1 in
      left_same place (learned (noting n) place v2)
      ∙ ap (λ (w : SetState S C (List A)). left n place w) (learned_same place v2)
      ∙ ap (λ (w : SetState S C (List A)). left n place (learned n place w)) (serves_one place v1)
      ∙ ap (λ (w : SetState S C (List A)). left n place (learned n place (in_slot place (served n) w))) (wished_same place v)

  turn_by_same : (held : Bool) (place : ℕ) (v : Noting) → plain (cond held v (turn (noting n) place v)) ≡ cond held (plain v) (turn n place (plain v))
  turn_by_same true place v = refl
  turn_by_same false place v = turn_same place v

  free_same : (place : ℕ) (v : Noting) → plain (turn_if_free (noting n) place v) ≡ turn_if_free n place (plain v)
  free_same place v =
      turn_by_same (slot_at place v).held place v
      ∙ ap (λ (s : Slot S (List A)). cond s.held (plain v) (turn n place (plain v))) (sym (slot_plain place v))

  turns_same : (count : ℕ) (v : Noting) → plain (turns_among (noting n) count v) ≡ turns_among n count (plain v)
  unfolding turns_among
  turns_same zero v = refl
  turns_same (suc place) v =
      free_same place (turns_among (noting n) place v) ∙ ap (λ (w : SetState S C (List A)). turn_if_free n place w) (turns_same place v)

  round_same : (v : Noting) → plain (round (noting n) v) ≡ round n (plain v)
  round_same v = turns_same (length v.slots) v ∙ ap (λ (k : ℕ). turns_among n k (plain v)) (sym (long_plain v))

  pub rounds_same : (count : ℕ) (v : Noting) → plain (rounds (noting n) count v) ≡ rounds n count (plain v)
  unfolding rounds
  rounds_same zero v = refl
  rounds_same (suc count) v =
      round_same (rounds (noting n) count v) ∙ ap (λ (w : SetState S C (List A)). round n w) (rounds_same count v)

  ticks_same : (ms count : ℕ) (v : Noting) → plain (ticked_among (noting n) ms count v) ≡ ticked_among n ms count (plain v)
  unfolding ticked_among
  ticks_same ms zero v = refl
  ticks_same ms (suc place) v =
      in_one place (happens n (n.ticks ms)) (happens (noting n) ((noting n).ticks ms)) (happens_same (n.ticks ms) ((noting n).ticks ms) (λ t. refl))
      (ticked_among (noting n) ms place v)
      ∙ ap (λ (w : SetState S C (List A)). in_slot place (happens n (n.ticks ms)) w) (ticks_same ms place v)

  pub ticked_same : (ms : ℕ) (v : Noting) → plain (ticked (noting n) ms v) ≡ ticked n ms (plain v)
  ticked_same ms v =
      does_same (n.waits ms) ((noting n).waits ms) (λ e. refl) (ticked_among (noting n) ms (length v.slots) v)
      ∙ ap (client_does n (n.waits ms)) (ticks_same ms (length v.slots) v ∙ ap (λ (k : ℕ). ticked_among n ms k (plain v)) (sym (long_plain v)))
