-- What a client keeps of its links, by whether a connection to the server stands, it keeps in a set, after any lines.
use Rattle.std.proofs.Common.{◌≡◌, ◌≢◌, ◌⊎◌, inl, inr, ℕ, zero, suc, ◌+◌, ◌==◌, ◌≤◌, Bool, true, false, cond, List, [], ◌∷◌, length, take, drop, Option, Some, None, is_some, refl, sym, ap, subst, ◌∙◌, arith}
use Rattle.std.proofs.lemmas.List.{length-set}
use Rattle.set_model.specs.declared.source.Change.{Change}
use Rattle.direct_world.specs.Server.{place_in}
use Rattle.scenario.specs.declared.line.Line.{Line}
use Rattle.scenario.specs.declared.line.Line.TheVariants as line
use Rattle.link_rules.specs.declared.notice.Wish.{Wish}
use Rattle.link_rules.specs.declared.notice.Wish.TheVariants as wish
use Rattle.set_rules.specs.State.{Connection, SetState, Slot}
use Rattle.set_rules.specs.Nodes.{Nodes}
use Rattle.set_rules.specs.Slots.{accepted, connected, currents, fed, fed_all, happens, next_boot, next_number, parted, parted_by, served, served_by, started, stopped}
use Rattle.set_rules.specs.Moves.{after_close, asked_by, cleared_by, client_does, closed, dialled, dialled_by, ended, ended_by, gathered_among, halved, in_slot, is_left, learned, learned_by, lost, lost_by, slot_at, wish_taken, wished, wished_by, with_slot}
use Rattle.set_rules.specs.Rounds.{rounds, ticked, ticked_among, turn, turns_among}
use Rattle.set_rules.specs.World.{Beginning, after, after_all, at_place, begun, new_set}
use Rattle.set_rules.proofs.Places.{here_or_not, place_within, slot_here, slot_new, slot_other, slots_long}

abbrev pub stands : {S W : Type 0} → Slot S W → Bool
stands s = is_some s.connection

-- what is kept of a client; and of its link to the server at a place, where a connection stands or none does
module _ {S C W : Type 0} (n : Nodes S C W) (K : C → Type 0) (J : ℕ → Bool → C → Type 0) where
  pub record ClientKept (count : ℕ) : Type 0 where
    pub connects : (place : ℕ) (c : C) → place + 1 ≤ count → K c → K (n.connects (place + 1) c)
    pub is_refused : (place : ℕ) (c : C) → place + 1 ≤ count → K c → K (n.is_refused (place + 1) c)
    pub loses : (place : ℕ) (c : C) → place + 1 ≤ count → K c → K (n.loses (place + 1) c)
    pub learns : (place : ℕ) (wires : W) (c : C) → place + 1 ≤ count → K c → K (n.learns (place + 1) wires c)
    pub waits : (ms : ℕ) (c : C) → K c → K (n.waits ms c)
    pub cleared : (place : ℕ) (c : C) → place + 1 ≤ count → K c → K (n.cleared (place + 1) c)
    pub wish_taken : (place : ℕ) (c : C) → place + 1 ≤ count → K c → K (n.wish_taken (place + 1) c)

  pub record LinkKept (count : ℕ) : Type 0 where
    pub connects : (place : ℕ) (b : Bool) (c : C) → place + 1 ≤ count → K c → n.wish (place + 1) c ≡ wish.Dial → J place b c
        → J place true (n.connects (place + 1) (n.wish_taken (place + 1) c))
    pub is_refused : (place : ℕ) (b : Bool) (c : C) → place + 1 ≤ count → K c → n.wish (place + 1) c ≡ wish.Dial → J place b c
        → J place b (n.is_refused (place + 1) (n.wish_taken (place + 1) c))
    pub loses : (place : ℕ) (c : C) → place + 1 ≤ count → K c → J place true c → J place false (n.loses (place + 1) c)
    pub learns : (place : ℕ) (wires : W) (c : C) → place + 1 ≤ count → K c → J place true c → J place true (n.learns (place + 1) wires c)
    pub none : (place : ℕ) (b : Bool) (c : C) → place + 1 ≤ count → K c → n.wish (place + 1) c ≡ wish.None → J place b c → J place b (n.wish_taken (place + 1) c)
    pub closes : (place : ℕ) (b : Bool) (c : C) → place + 1 ≤ count → K c → n.wish (place + 1) c ≡ wish.Close → J place b c → J place false (n.wish_taken (place + 1) c)
    -- that it stands no more
    pub gone : (place : ℕ) (b : Bool) (c : C) → place + 1 ≤ count → K c → J place b c → J place false c
    pub waits : (place : ℕ) (b : Bool) (ms : ℕ) (c : C) → place + 1 ≤ count → K c → J place b c → J place b (n.waits ms c)
    pub cleared : (place q : ℕ) (b : Bool) (c : C) → place + 1 ≤ count → q + 1 ≤ count → K c → J q b c → J q b (n.cleared (place + 1) c)
    -- of the other links
    pub other_connects : (place q : ℕ) (b : Bool) (c : C) → place + 1 ≤ count → q + 1 ≤ count → q ≢ place → K c → J q b c → J q b (n.connects (place + 1) c)
    pub other_refused : (place q : ℕ) (b : Bool) (c : C) → place + 1 ≤ count → q + 1 ≤ count → q ≢ place → K c → J q b c → J q b (n.is_refused (place + 1) c)
    pub other_loses : (place q : ℕ) (b : Bool) (c : C) → place + 1 ≤ count → q + 1 ≤ count → q ≢ place → K c → J q b c → J q b (n.loses (place + 1) c)
    pub other_learns : (place q : ℕ) (b : Bool) (wires : W) (c : C) → place + 1 ≤ count → q + 1 ≤ count → q ≢ place → K c → J q b c → J q b (n.learns (place + 1) wires c)
    pub other_taken : (place q : ℕ) (b : Bool) (c : C) → place + 1 ≤ count → q + 1 ≤ count → q ≢ place → K c → J q b c → J q b (n.wish_taken (place + 1) c)

  abbrev pub LinksKept : ℕ → SetState S C W → C → Type 0
  LinksKept count w c = (q : ℕ) → q + 1 ≤ count → J q (stands (slot_at q w)) c

  pub record AreLinked (count : ℕ) (w : SetState S C W) : Type 0 where
    pub long : length w.slots ≡ count
    pub client : K w.client
    pub links : LinksKept count w w.client

  -- ---- whether a connection stands

  happens_in : (event : S → S) (boot position given : ℕ) (held : Bool) (life : Option S) (o : Option (Connection W))
      → stands (happens n event (record { boot = boot; life = life; position = position; held = held; given = given; connection = o })) ≡ is_some o
  happens_in event boot position given held None o = refl
  happens_in event boot position given held (Some life) None = refl
  happens_in event boot position given held (Some life) (Some c) = refl

  happens_stands : (event : S → S) (s : Slot S W) → stands (happens n event s) ≡ stands s
  happens_stands event s = happens_in event s.boot s.position s.given s.held s.life s.connection

  fed_stands : (changes : List Change) (s : Slot S W) → stands (fed_all n changes s) ≡ stands s
  fed_stands [] s = refl
  fed_stands (change ∷ changes) s = fed_stands changes (happens n (n.feeds change) s) ∙ happens_stands (n.feeds change) s

  served_in : (o : Option (Connection W)) (s : Slot S W) → s.connection ≡ o → stands (served_by n o s) ≡ stands s
  served_in None s is = refl
  served_in (Some c) s is =
      happens_stands (n.hears c.number c.there) (record s { connection = Some (record c { there = n.nothing }) }) ∙ sym (ap (λ (o : Option (Connection W)). is_some o) is)

  served_stands : (s : Slot S W) → stands (served n s) ≡ stands s
  served_stands s = served_in s.connection s refl

  parted_in : (o : Option (Connection W)) (s : Slot S W) → s.connection ≡ o → stands (parted_by n o s) ≡ false
  parted_in None s is = ap (λ (o : Option (Connection W)). is_some o) is
  parted_in (Some c) s is = happens_stands (n.ends c.number) (record s { connection = None })

  parted_stands : (s : Slot S W) → stands (parted n s) ≡ false
  parted_stands s = parted_in s.connection s refl

  accepted_stands : (s : Slot S W) → stands (accepted n s) ≡ true
  accepted_stands s = happens_stands (n.accepts (next_number n s)) (connected n (next_number n s) s)

  module _ (count : ℕ) (keeps : ClientKept count) (are : LinkKept count) where
    -- ---- a slot and the client

    slot_by : (place q : ℕ) (s : Slot S W) (c : C) (w : SetState S C W) → (q ≡ place) ⊎ (q ≢ place) → place + 1 ≤ length w.slots → q + 1 ≤ count → J place (stands s) c
        → (q ≢ place → J q (stands (slot_at q w)) c) → J q (stands (slot_at q (with_slot place s w))) c
    slot_by place q s c w (inl same) here within own others =
        subst (λ k. J k (stands (slot_at k (with_slot place s w))) c) (sym same)
        (subst (λ y. J place (stands y) c) (sym (slot_here w.slots place s here)) own)
    slot_by place q s c w (inr differ) here within own others = subst (λ y. J q (stands y) c) (sym (slot_other w.slots place q s differ)) (others differ)

    both_changed : (place : ℕ) (s : Slot S W) (c : C) (w : SetState S C W) → place + 1 ≤ count → length w.slots ≡ count → K c → J place (stands s) c
        → ((q : ℕ) → q + 1 ≤ count → q ≢ place → J q (stands (slot_at q w)) c) → AreLinked count (record (with_slot place s w) { client = c })
    both_changed place s c w here long known own others = record {
      long = length-set w.slots place s ∙ long;
      client = known;
      links = λ q within. slot_by place q s c w (here_or_not (q == place) q place refl) (subst (λ k. place + 1 ≤ k) (sym long) here) within own (others q within);
    }

    client_changed : (c : C) (w : SetState S C W) → AreLinked count w → K c → LinksKept count w c → AreLinked count (record w { client = c })
    client_changed c w x known links = record { long = x.long; client = known; links = links }

    -- a slot that keeps its connection, or lacks one
    slot_changed : (place : ℕ) (s : Slot S W) (w : SetState S C W) → place + 1 ≤ count → AreLinked count w → stands s ≡ stands (slot_at place w) → AreLinked count (with_slot place s w)
    slot_changed place s w here x same =
        both_changed place s w.client w here x.long x.client (subst (λ b. J place b w.client) (sym same) (x.links place here)) (λ q within differ. x.links q within)

    in_one : (place : ℕ) (f : Slot S W → Slot S W) (w : SetState S C W) → place + 1 ≤ count → AreLinked count w → ((s : Slot S W) → stands (f s) ≡ stands s) → AreLinked count (in_slot place f w)
    in_one place f w here x same = slot_changed place (f (slot_at place w)) w here x (same (slot_at place w))

    frees_one : (place : ℕ) (f : Slot S W → Slot S W) (w : SetState S C W) → place + 1 ≤ count → AreLinked count w → ((s : Slot S W) → stands (f s) ≡ false) → AreLinked count (in_slot place f w)
    frees_one place f w here x free =
        both_changed place (f (slot_at place w)) w.client w here x.long x.client
        (subst (λ b. J place b w.client) (sym (free (slot_at place w))) (are.gone place (stands (slot_at place w)) w.client here x.client (x.links place here))) (λ q within differ. x.links q within)

    -- ---- what the client put

    gather_by : (o : Option (Connection W)) (place : ℕ) (w : SetState S C W) → (slot_at place w).connection ≡ o → place + 1 ≤ count → AreLinked count w
        → AreLinked count (record (with_slot place (asked_by n o (n.asked (place + 1) w.client) (slot_at place w)) w) { client = cleared_by n o (place + 1) w.client })
    gather_by None place w is here x = slot_changed place (slot_at place w) w here x refl
    gather_by (Some c) place w is here x =
        both_changed place (record (slot_at place w) { connection = Some (record c { there = n.joined c.there (n.asked (place + 1) w.client) }) }) (n.cleared (place + 1) w.client) w here x.long
        (keeps.cleared place w.client here x.client)
        (are.cleared place place true w.client here here x.client (subst (λ (o : Option (Connection W)). J place (is_some o) w.client) is (x.links place here)))
        (λ q within differ. are.cleared place q (stands (slot_at q w)) w.client here within x.client (x.links q within))

    gathered : (some : ℕ) (w : SetState S C W) → some ≤ count → AreLinked count w → AreLinked count (gathered_among n some w)
    unfolding gathered_among
    gathered zero w less x = x
    gathered (suc some) w less x =
        let here : some + 1 ≤ count = omega (arith, less) in
        gather_by (slot_at some (gathered_among n some w)).connection some (gathered_among n some w) refl here (gathered some w (omega (arith, less)) x)

    does : (event : C → C) (w : SetState S C W) → length w.slots ≡ count → AreLinked count (record w { client = event w.client }) → AreLinked count (client_does n event w)
    does event w long x = gathered (length w.slots) (record w { client = event w.client }) (subst (λ k. k ≤ count) (sym long) (omega arith)) x

    long_with : (place : ℕ) (s : Slot S W) (w : SetState S C W) → length w.slots ≡ count → length (with_slot place s w).slots ≡ count
    long_with place s w long = length-set w.slots place s ∙ long

    -- ---- connections and lives

    -- the client loses one that is gone
    loses_one : (place : ℕ) (f : Slot S W → Slot S W) (w : SetState S C W) (c : Connection W) → place + 1 ≤ count → (slot_at place w).connection ≡ Some c
        → ((s : Slot S W) → stands (f s) ≡ false) → AreLinked count w → AreLinked count (client_does n (n.loses (place + 1)) (in_slot place f w))
    loses_one place f w c here is free x =
        does (n.loses (place + 1)) (in_slot place f w) (long_with place (f (slot_at place w)) w x.long)
        (both_changed place (f (slot_at place w)) (n.loses (place + 1) w.client) w here x.long (keeps.loses place w.client here x.client)
        (subst (λ b. J place b (n.loses (place + 1) w.client)) (sym (free (slot_at place w)))
        (are.loses place w.client here x.client (subst (λ (o : Option (Connection W)). J place (is_some o) w.client) is (x.links place here))))
        (λ q within differ. are.other_loses place q (stands (slot_at q w)) w.client here within differ x.client (x.links q within)))

    lost_cases : (o : Option (Connection W)) (place : ℕ) (w : SetState S C W) → (slot_at place w).connection ≡ o → place + 1 ≤ count → AreLinked count w → AreLinked count (lost_by n o place w)
    lost_cases None place w is here x = x
    lost_cases (Some c) place w is here x = loses_one place (parted n) w c here is parted_stands x

    lost_kept : (place : ℕ) (w : SetState S C W) → place + 1 ≤ count → AreLinked count w → AreLinked count (lost n place w)
    lost_kept place w here x = lost_cases (slot_at place w).connection place w refl here x

    halved_kept : (place : ℕ) (w : SetState S C W) → place + 1 ≤ count → AreLinked count w → AreLinked count (halved n place w)
    halved_kept place w here x = lost_kept place (in_slot place (served n) w) here (in_one place (served n) w here x served_stands)

    ended_cases : (o : Option (Connection W)) (place : ℕ) (w : SetState S C W) → (slot_at place w).connection ≡ o → place + 1 ≤ count → AreLinked count w → AreLinked count (ended_by n o place w)
    ended_cases None place w is here x = frees_one place stopped w here x (λ s. refl)
    ended_cases (Some c) place w is here x = loses_one place stopped w c here is (λ s. refl) x

    ended_kept : (place : ℕ) (w : SetState S C W) → place + 1 ≤ count → AreLinked count w → AreLinked count (ended n place w)
    ended_kept place w here x = ended_cases (slot_at place w).connection place w refl here x

    dialled_cases : (life : Option S) (place : ℕ) (w : SetState S C W) → place + 1 ≤ count → n.wish (place + 1) w.client ≡ wish.Dial → AreLinked count w
        → AreLinked count (dialled_by n life place (wish_taken n place w))
    dialled_cases None place w here wishes x =
        let known = keeps.wish_taken place w.client here x.client in
        does (n.is_refused (place + 1)) (wish_taken n place w) x.long
        (record {
          long = x.long;
          client = keeps.is_refused place (n.wish_taken (place + 1) w.client) here known;
          links = λ q within. refused_by q (here_or_not (q == place) q place refl) within known;
        })
      where
        refused_by : (q : ℕ) → (q ≡ place) ⊎ (q ≢ place) → q + 1 ≤ count → K (n.wish_taken (place + 1) w.client)
            → J q (stands (slot_at q w)) (n.is_refused (place + 1) (n.wish_taken (place + 1) w.client))
        refused_by q (inl same) within known =
            subst (λ k. J k (stands (slot_at k w)) (n.is_refused (place + 1) (n.wish_taken (place + 1) w.client))) (sym same)
            (are.is_refused place (stands (slot_at place w)) w.client here x.client wishes (x.links place here))
        refused_by q (inr differ) within known =
            are.other_refused place q (stands (slot_at q w)) (n.wish_taken (place + 1) w.client) here within differ known
            (are.other_taken place q (stands (slot_at q w)) w.client here within differ x.client (x.links q within))
    dialled_cases (Some life) place w here wishes x =
        let known = keeps.wish_taken place w.client here x.client in
        let s = accepted n (parted n (slot_at place w)) in
        does (n.connects (place + 1)) (in_slot place (λ s. accepted n (parted n s)) (wish_taken n place w)) (long_with place s w x.long)
        (both_changed place s (n.connects (place + 1) (n.wish_taken (place + 1) w.client)) w here x.long (keeps.connects place (n.wish_taken (place + 1) w.client) here known)
        (subst (λ b. J place b (n.connects (place + 1) (n.wish_taken (place + 1) w.client))) (sym (accepted_stands (parted n (slot_at place w))))
        (are.connects place (stands (slot_at place w)) w.client here x.client wishes (x.links place here)))
        (λ q within differ. are.other_connects place q (stands (slot_at q w)) (n.wish_taken (place + 1) w.client) here within differ known
        (are.other_taken place q (stands (slot_at q w)) w.client here within differ x.client (x.links q within))))

    dialled_kept : (place : ℕ) (w : SetState S C W) → place + 1 ≤ count → n.wish (place + 1) w.client ≡ wish.Dial → AreLinked count w
        → AreLinked count (dialled n place (wish_taken n place w))
    dialled_kept place w here wishes x = dialled_cases (slot_at place w).life place w here wishes x

    -- a wish that is taken, and what stands then
    takes_one : (place : ℕ) (s : Slot S W) (w : SetState S C W) → place + 1 ≤ count → AreLinked count w → J place (stands s) (n.wish_taken (place + 1) w.client)
        → AreLinked count (with_slot place s (wish_taken n place w))
    takes_one place s w here x own =
        both_changed place s (n.wish_taken (place + 1) w.client) w here x.long (keeps.wish_taken place w.client here x.client) own
        (λ q within differ. are.other_taken place q (stands (slot_at q w)) w.client here within differ x.client (x.links q within))

    wish_kept : (place : ℕ) (w : SetState S C W) → place + 1 ≤ count → AreLinked count w → J place (stands (slot_at place w)) (n.wish_taken (place + 1) w.client)
        → AreLinked count (wish_taken n place w)
    wish_kept place w here x own = record {
      long = x.long;
      client = keeps.wish_taken place w.client here x.client;
      links = λ q within. taken_by q (here_or_not (q == place) q place refl) within;
    }
      where
        taken_by : (q : ℕ) → (q ≡ place) ⊎ (q ≢ place) → q + 1 ≤ count → J q (stands (slot_at q w)) (n.wish_taken (place + 1) w.client)
        taken_by q (inl same) within = subst (λ k. J k (stands (slot_at k w)) (n.wish_taken (place + 1) w.client)) (sym same) own
        taken_by q (inr differ) within = are.other_taken place q (stands (slot_at q w)) w.client here within differ x.client (x.links q within)

    none_kept : (place : ℕ) (w : SetState S C W) → n.wish (place + 1) w.client ≡ wish.None → place + 1 ≤ count → AreLinked count w → AreLinked count (wish_taken n place w)
    none_kept place w is here x = wish_kept place w here x (are.none place (stands (slot_at place w)) w.client here x.client is (x.links place here))

    close_cases : (k : Wish) (place : ℕ) (w : SetState S C W) → n.wish (place + 1) w.client ≡ k → stands (slot_at place w) ≡ false → place + 1 ≤ count → AreLinked count w
        → AreLinked count (after_close n k place w)
    close_cases wish.Dial place w is free here x = dialled_kept place w here is x
    close_cases wish.None place w is free here x = none_kept place w is here x
    close_cases wish.Close place w is free here x =
        wish_kept place w here x (subst (λ b. J place b (n.wish_taken (place + 1) w.client)) (sym free)
        (are.closes place (stands (slot_at place w)) w.client here x.client is (x.links place here)))

    closed_kept : (place : ℕ) (w : SetState S C W) → stands (slot_at place w) ≡ false → place + 1 ≤ count → AreLinked count w → AreLinked count (closed n place w)
    closed_kept place w free here x = close_cases (n.wish (place + 1) w.client) place w refl free here x

    wished_cases : (k : Wish) (place : ℕ) (w : SetState S C W) → n.wish (place + 1) w.client ≡ k → place + 1 ≤ count → AreLinked count w → AreLinked count (wished_by n k place w)
    wished_cases wish.None place w is here x = none_kept place w is here x
    wished_cases wish.Dial place w is here x = dialled_kept place w here is x
    wished_cases wish.Close place w is here x =
        let s = parted n (slot_at place w) in
        closed_kept place (in_slot place (parted n) (wish_taken n place w))
        (ap (λ (y : Slot S W). stands y) (slot_here w.slots place s (subst (λ k. place + 1 ≤ k) (sym x.long) here)) ∙ parted_stands (slot_at place w)) here
        (takes_one place s w here x (subst (λ b. J place b (n.wish_taken (place + 1) w.client)) (sym (parted_stands (slot_at place w)))
        (are.closes place (stands (slot_at place w)) w.client here x.client is (x.links place here))))

    wished_kept : (place : ℕ) (w : SetState S C W) → place + 1 ≤ count → AreLinked count w → AreLinked count (wished n place w)
    wished_kept place w here x = wished_cases (n.wish (place + 1) w.client) place w refl here x

    learned_cases : (o : Option (Connection W)) (place : ℕ) (w : SetState S C W) → (slot_at place w).connection ≡ o → place + 1 ≤ count → AreLinked count w → AreLinked count (learned_by n o place w)
    learned_cases None place w is here x = x
    learned_cases (Some c) place w is here x =
        let s = record (slot_at place w) { connection = Some (record c { back = n.nothing }) } in
        does (n.learns (place + 1) c.back) (with_slot place s w) (long_with place s w x.long)
        (both_changed place s (n.learns (place + 1) c.back w.client) w here x.long (keeps.learns place c.back w.client here x.client)
        (are.learns place c.back w.client here x.client (subst (λ (o : Option (Connection W)). J place (is_some o) w.client) is (x.links place here)))
        (λ q within differ. are.other_learns place q (stands (slot_at q w)) c.back w.client here within differ x.client (x.links q within)))

    learned_kept : (place : ℕ) (w : SetState S C W) → place + 1 ≤ count → AreLinked count w → AreLinked count (learned n place w)
    learned_kept place w here x = learned_cases (slot_at place w).connection place w refl here x

    -- ---- rounds, and time

    left_cases : (b : Bool) (place : ℕ) (w : SetState S C W) → place + 1 ≤ count → AreLinked count w → AreLinked count (cond b (lost n place w) w)
    left_cases true place w here x = lost_kept place w here x
    left_cases false place w here x = x

    turn_kept : (place : ℕ) (w : SetState S C W) → place + 1 ≤ count → AreLinked count w → AreLinked count (turn n place w)
    turn_kept place w here x =
        let heard = learned n place (in_slot place (served n) (wished n place w)) in
        left_cases (is_left n (slot_at place heard)) place heard here
        (learned_kept place (in_slot place (served n) (wished n place w)) here (in_one place (served n) (wished n place w) here (wished_kept place w here x) served_stands))

    free_cases : (b : Bool) (place : ℕ) (w : SetState S C W) → place + 1 ≤ count → AreLinked count w → AreLinked count (cond b w (turn n place w))
    free_cases true place w here x = x
    free_cases false place w here x = turn_kept place w here x

    turns_kept : (some : ℕ) (w : SetState S C W) → some ≤ count → AreLinked count w → AreLinked count (turns_among n some w)
    unfolding turns_among
    turns_kept zero w less x = x
    turns_kept (suc some) w less x =
        free_cases (slot_at some (turns_among n some w)).held some (turns_among n some w) (omega (arith, less)) (turns_kept some w (omega (arith, less)) x)

    rounds_kept : (amount : ℕ) (w : SetState S C W) → AreLinked count w → AreLinked count (rounds n amount w)
    unfolding rounds
    rounds_kept zero w x = x
    rounds_kept (suc amount) w x =
        let y = rounds_kept amount w x in
        turns_kept (length (rounds n amount w).slots) (rounds n amount w) (subst (λ k. k ≤ count) (sym y.long) (omega arith)) y

    among_kept : (ms some : ℕ) (w : SetState S C W) → some ≤ count → AreLinked count w → AreLinked count (ticked_among n ms some w)
    unfolding ticked_among
    among_kept ms zero w less x = x
    among_kept ms (suc some) w less x =
        in_one some (happens n (n.ticks ms)) (ticked_among n ms some w) (omega (arith, less)) (among_kept ms some w (omega (arith, less)) x) (happens_stands (n.ticks ms))

    ticked_kept : (ms : ℕ) (w : SetState S C W) → AreLinked count w → AreLinked count (ticked n ms w)
    ticked_kept ms w x =
        let other = ticked_among n ms (length w.slots) w in
        let y = among_kept ms (length w.slots) w (subst (λ k. k ≤ count) (sym x.long) (omega arith)) x in
        does (n.waits ms) other y.long
        (client_changed (n.waits ms other.client) other y (keeps.waits ms other.client y.client)
        (λ q within. are.waits q (stands (slot_at q other)) ms other.client within y.client (y.links q within)))

    -- ---- lines

    module _ (begins : Beginning S) where
      at_cases : (items : ℕ) (o : Option ℕ) (act : ℕ → SetState S C W → SetState S C W) (w : SetState S C W) → ((place : ℕ) → o ≡ Some place → AreLinked count (act place w)) → AreLinked count w
          → AreLinked count (at_place n begins items o act w)
      at_cases items None act w step x = x
      at_cases items (Some place) act w step x = step place refl

      at_kept : (items server : ℕ) (act : ℕ → SetState S C W → SetState S C W) (w : SetState S C W) → ((place : ℕ) → place + 1 ≤ count → AreLinked count (act place w)) → AreLinked count w
          → AreLinked count (at_place n begins items (place_in server (length w.slots)) act w)
      at_kept items server act w step x =
          at_cases items (place_in server (length w.slots)) act w
          (λ place found. step place (subst (λ k. place + 1 ≤ k) x.long (place_within server (length w.slots) place found))) x

      line_kept : (items : ℕ) (l : Line) (w : SetState S C W) → AreLinked count w → AreLinked count (after n begins items l w)
      line_kept items (line.Change change) w x = record { long = x.long; client = x.client; links = x.links }
      line_kept items (line.Feed server amount) w x =
          at_kept items server (λ place. in_slot place (fed n amount w.source)) w
          (λ place here. in_one place (fed n amount w.source) w here x (λ s. fed_stands (take amount (drop s.position w.source)) s)) x
      line_kept items (line.Take server amount) w x = x
      line_kept items (line.Tick ms) w x = ticked_kept ms w x
      line_kept items (line.Pass amount) w x = rounds_kept amount w x
      line_kept items (line.Level server level) w x =
          at_kept items server (λ place. in_slot place (happens n (n.levels level))) w
          (λ place here. in_one place (happens n (n.levels level)) w here x (happens_stands (n.levels level))) x
      line_kept items (line.Stop server) w x = at_kept items server (ended n) w (λ place here. ended_kept place w here x) x
      line_kept items (line.Start server) w x =
          at_kept items server (begun n begins items) w
          (λ place here. frees_one place (started (begins (place + 1) (next_boot (slot_at place w)) (currents items w.source)) (length w.source)) w here x (λ s. refl)) x
      line_kept items (line.Cut server) w x = at_kept items server (lost n) w (λ place here. lost_kept place w here x) x
      line_kept items (line.Half server) w x = at_kept items server (halved n) w (λ place here. halved_kept place w here x) x
      line_kept items (line.Hold server) w x =
          at_kept items server (λ place. in_slot place (λ s. record s { held = true })) w (λ place here. in_one place (λ s. record s { held = true }) w here x (λ s. refl)) x
      line_kept items (line.Free server) w x =
          at_kept items server (λ place. in_slot place (λ s. record s { held = false })) w (λ place here. in_one place (λ s. record s { held = false }) w here x (λ s. refl)) x
      line_kept items other w x = x

      lines_kept : (items : ℕ) (lines : List Line) (w : SetState S C W) → AreLinked count w → AreLinked count (after_all n begins items lines w)
      lines_kept items [] w x = x
      lines_kept items (l ∷ lines) w x = lines_kept items lines (after n begins items l w) (line_kept items l w x)

      -- after any lines, of a set that begins
      pub links_keep : (items : ℕ) (lines : List Line) (c : C) → K c → ((q : ℕ) → q + 1 ≤ count → J q false c)
          → AreLinked count (after_all n begins items lines (new_set begins count c))
      links_keep items lines c known links = lines_kept items lines (new_set begins count c) (record {
        long = slots_long W begins count;
        client = known;
        links = λ q within. subst (λ s. J q (stands s) c) (sym (slot_new W begins count q within)) (links q within);
      })
