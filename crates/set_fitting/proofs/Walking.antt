-- What a set keeps of its lives, of its client and of all that is in flight between them, after any lines.
use Rattle.std.proofs.Common.{◌≡◌, ◌≢◌, ◌⊎◌, inl, inr, ℕ, zero, suc, ◌+◌, ◌-◌, ◌^◌, ◌==◌, ◌≤◌, ◌<◌, ◌&&◌, min, nat_le, Bool, true, false, cond, List, [], ◌∷◌, length, take, drop, Option, Some, None, refl, sym, subst, ◌∙◌, arith}
use Rattle.std.proofs.lemmas.Bool.Decides.{nat_tests}
use Rattle.std.proofs.lemmas.List.{length-set}
use Rattle.std.specs.List.{AllByRecursion}
use Rattle.set_model.specs.declared.source.Change.{Change}
use Rattle.direct_world.specs.Server.{place_in}
use Rattle.scenario.specs.Past.{starts}
use Rattle.scenario.specs.declared.line.Line.{Line}
use Rattle.scenario.specs.declared.line.Line.TheVariants as line
use Rattle.link_rules.specs.declared.notice.Wish.{Wish}
use Rattle.link_rules.specs.declared.notice.Wish.TheVariants as wish
use Rattle.set_rules.specs.State.{Connection, SetState, Slot}
use Rattle.set_rules.specs.Nodes.{Nodes}
use Rattle.set_rules.specs.Slots.{accepted, currents, fed, fed_all, happens, next_boot, next_number, parted, served, started, stopped}
use Rattle.set_rules.specs.Moves.{after_close, asked_by, cleared_by, client_does, closed, dialled, dialled_by, ended, ended_by, gathered_among, halved, in_slot, is_left, learned, learned_by, lost, lost_by, slot_at, wish_taken, wished, wished_by, with_slot}
use Rattle.set_rules.specs.Rounds.{round, rounds, ticked, ticked_among, turn, turns_among}
use Rattle.set_rules.specs.World.{Beginning, after, after_all, at_place, begun, new_set}
use Rattle.set_rules.proofs.Places.{here_or_not, place_within, slot_here, slot_new, slot_other, slots_long}
use Rattle.set_histories.specs.Below.{before, over_after, over_at, over_by}
use Rattle.set_fitting.proofs.Changes.{appended_all, currents_all, drop_all, take_all}

-- ---- numbers of servers

place_by : (b : Bool) (number count place : ℕ) → (nat_le 1 number && nat_le number count) ≡ b → cond b (Some (number - 1)) None ≡ Some place → number ≡ place + 1
place_by true number count place is found = within number count place is (some_same (number - 1) place found)
  where
    some_same : (n k : ℕ) → Some n ≡ Some k → n ≡ k
    some_same n k e = cc

    within : (number count place : ℕ) → (nat_le 1 number && nat_le number count) ≡ true → number - 1 ≡ place → number ≡ place + 1
    within number count place is same = grind (arith, nat_tests)
place_by false number count place is found = absurd cc

-- the server at a place has the next number
pub place_is : (number count place : ℕ) → place_in number count ≡ Some place → number ≡ place + 1
place_is number count place found = place_by (nat_le 1 number && nat_le number count) number count place refl found

same_is : (n k : ℕ) → n ≡ k → (n == k) ≡ true
same_is n k same = grind (arith, nat_tests)

small_boot : (n : ℕ) → min (n + 1) (2 ^ 16 - 1) < 2 ^ 16
small_boot n = omega arith

-- nothing is asked of it
abbrev pub Any : {A : Type 0} → A → Type 0
Any x = Unit {0}

-- `Of` says which changes and levels come, `There` and `Back` what is in flight to a server and to the client, `P` what is
-- kept of a life at a place, and `K` of the client, when so many lines went by
module _ {S C A : Type 0} (n : Nodes S C (List A)) (begins : Beginning S) (items : ℕ) (Of : Change → Type 0) (Levels : ℕ → Type 0)
    (There Back : List A → Type 0) (P : ℕ → S → Type 0) (K : ℕ → C → Type 0) where
  pub record AreKept : Type 0 where
    pub there_none : There n.nothing
    pub back_none : Back n.nothing
    pub there_joined : (wires more : List A) → There wires → There more → There (n.joined wires more)
    pub back_joined : (wires more : List A) → Back wires → Back more → Back (n.joined wires more)
    -- a life
    pub accepts : (place number : ℕ) (life : S) → P place life → P place (n.accepts number life)
    pub ends : (place number : ℕ) (life : S) → P place life → P place (n.ends number life)
    pub hears : (place number : ℕ) (wires : List A) (life : S) → There wires → P place life → P place (n.hears number wires life)
    pub feeds : (place : ℕ) (change : Change) (life : S) → Of change → P place life → P place (n.feeds change life)
    pub ticks : (place ms : ℕ) (life : S) → P place life → P place (n.ticks ms life)
    pub levels : (place level : ℕ) (life : S) → Levels level → P place life → P place (n.levels level life)
    pub answered : (place number : ℕ) (life : S) → P place life → Back (n.answered number life)
    pub emptied : (place number : ℕ) (life : S) → P place life → P place (n.emptied number life)
    -- the client
    pub connects : (age number : ℕ) (c : C) → K age c → K age (n.connects number c)
    pub is_refused : (age number : ℕ) (c : C) → K age c → K age (n.is_refused number c)
    pub loses : (age number : ℕ) (c : C) → K age c → K age (n.loses number c)
    pub learns : (age number : ℕ) (wires : List A) (c : C) → Back wires → K age c → K age (n.learns number wires c)
    pub waits : (age ms : ℕ) (c : C) → K age c → K (suc age) (n.waits ms c)
    pub later : (age : ℕ) (c : C) → K age c → K (suc age) c
    pub asked : (age number : ℕ) (c : C) → K age c → There (n.asked number c)
    pub cleared : (age number : ℕ) (c : C) → K age c → K age (n.cleared number c)
    pub wish_taken : (age number : ℕ) (c : C) → K age c → K age (n.wish_taken number c)

  -- a life that begins where it may
  abbrev pub AreBegun : ℕ → (ℕ → Type 0) → Type 0
  AreBegun count May =
      (place boot : ℕ) (current : List Change) → place + 1 ≤ count → May place → boot < 2 ^ 16 → AllByRecursion Of current
      → P place (begins (place + 1) boot current)

  abbrev pub LineIs : Line → Type 0
  LineIs (line.Change change) = Of change
  LineIs (line.Level server level) = Levels level
  LineIs other = Unit {0}

  -- ---- a slot

  pub record FlightKept (c : Connection (List A)) : Type 0 where
    pub there : There c.there
    pub back : Back c.back

  abbrev pub LifeKept : ℕ → Option S → Type 0
  LifeKept place None = Unit {0}
  LifeKept place (Some life) = P place life

  abbrev pub ConnectionKept : Option (Connection (List A)) → Type 0
  ConnectionKept None = Unit {0}
  ConnectionKept (Some c) = FlightKept c

  abbrev pub SlotKept : ℕ → Slot S (List A) → Type 0
  SlotKept place s = LifeKept place s.life × ConnectionKept s.connection

  pub record SetKept (count age : ℕ) (w : SetState S C (List A)) : Type 0 where
    pub long : length w.slots ≡ count
    pub source : AllByRecursion Of w.source
    pub client : K age w.client
    pub each : (place : ℕ) → place + 1 ≤ count → SlotKept place (slot_at place w)

  -- of all these lives of the server at a place
  abbrev pub AllKept : ℕ → List S → Type 0
  AllKept place [] = Unit {0}
  AllKept place (life ∷ earlier) = P place life × AllKept place earlier

  module _ (count : ℕ) (are : AreKept) where
    happens_in : (place boot position given : ℕ) (held : Bool) (event : S → S) (life : Option S) (o : Option (Connection (List A)))
        → ((life : S) → P place life → P place (event life)) → LifeKept place life → ConnectionKept o
        → SlotKept place (happens n event (record { boot = boot; life = life; position = position; held = held; given = given; connection = o }))
    happens_in place boot position given held event None o step x y = (tt, y)
    happens_in place boot position given held event (Some life) None step x y = (step life x, tt)
    happens_in place boot position given held event (Some life) (Some c) step x y =
        let own = step life x in (
          are.emptied place c.number (event life) own,
          record { there = y.there; back = are.back_joined c.back (n.answered c.number (event life)) y.back (are.answered place c.number (event life) own) },
        )

    pub happens_kept : (place : ℕ) (event : S → S) (s : Slot S (List A)) → ((life : S) → P place life → P place (event life)) → SlotKept place s
        → SlotKept place (happens n event s)
    happens_kept place event s step x = happens_in place s.boot s.position s.given s.held event s.life s.connection step x.0 x.1

    fed_all_kept : (place : ℕ) (changes : List Change) (s : Slot S (List A)) → AllByRecursion Of changes → SlotKept place s → SlotKept place (fed_all n changes s)
    fed_all_kept place [] s all x = x
    fed_all_kept place (change ∷ changes) s all x =
        fed_all_kept place changes (happens n (n.feeds change) s) all.1
        (happens_kept place (n.feeds change) s (λ life. are.feeds place change life all.0) x)

    fed_kept : (place amount : ℕ) (source : List Change) (s : Slot S (List A)) → AllByRecursion Of source → SlotKept place s → SlotKept place (fed n amount source s)
    fed_kept place amount source s all x =
        fed_all_kept place (take amount (drop s.position source)) s (take_all Of amount (drop s.position source) (drop_all Of s.position source all)) x

    parted_in : (place boot position given : ℕ) (held : Bool) (life : Option S) (o : Option (Connection (List A))) → LifeKept place life → ConnectionKept o
        → SlotKept place (parted n (record { boot = boot; life = life; position = position; held = held; given = given; connection = o }))
    parted_in place boot position given held life None x y = (x, tt)
    parted_in place boot position given held life (Some c) x y =
        happens_in place boot position given held (n.ends c.number) life None (λ life. are.ends place c.number life) x tt

    pub parted_kept : (place : ℕ) (s : Slot S (List A)) → SlotKept place s → SlotKept place (parted n s)
    parted_kept place s x = parted_in place s.boot s.position s.given s.held s.life s.connection x.0 x.1

    served_in : (place boot position given : ℕ) (held : Bool) (life : Option S) (o : Option (Connection (List A))) → LifeKept place life → ConnectionKept o
        → SlotKept place (served n (record { boot = boot; life = life; position = position; held = held; given = given; connection = o }))
    served_in place boot position given held life None x y = (x, tt)
    served_in place boot position given held life (Some c) x y =
        happens_in place boot position given held (n.hears c.number c.there) life (Some (record c { there = n.nothing }))
        (λ life. are.hears place c.number c.there life y.there) x (record { there = are.there_none; back = y.back })

    pub served_kept : (place : ℕ) (s : Slot S (List A)) → SlotKept place s → SlotKept place (served n s)
    served_kept place s x = served_in place s.boot s.position s.given s.held s.life s.connection x.0 x.1

    accepted_kept : (place : ℕ) (s : Slot S (List A)) → SlotKept place s → SlotKept place (accepted n s)
    accepted_kept place s x =
        happens_in place s.boot s.position (next_number n s) s.held (n.accepts (next_number n s)) s.life
        (Some (record { number = next_number n s; there = n.nothing; back = n.nothing })) (λ life. are.accepts place (next_number n s) life) x.0
        (record { there = are.there_none; back = are.back_none })

    pub redialled_kept : (place : ℕ) (s : Slot S (List A)) → SlotKept place s → SlotKept place (accepted n (parted n s))
    redialled_kept place s x = accepted_kept place (parted n s) (parted_kept place s x)

    -- ---- a set

    slot_by : (age place q : ℕ) (s : Slot S (List A)) (w : SetState S C (List A)) → (q ≡ place) ⊎ (q ≢ place) → place + 1 ≤ count → q + 1 ≤ count
        → SetKept count age w → SlotKept place s → SlotKept q (slot_at q (with_slot place s w))
    slot_by age place q s w (inl same) here within x own =
        subst (λ k. SlotKept k (slot_at k (with_slot place s w))) (sym same)
        (subst (λ (y : Slot S (List A)). SlotKept place y) (sym (slot_here w.slots place s (subst (λ k. place + 1 ≤ k) (sym x.long) here))) own)
    slot_by age place q s w (inr differ) here within x own =
        subst (λ (y : Slot S (List A)). SlotKept q y) (sym (slot_other w.slots place q s differ)) (x.each q within)

    pub slot_changed : (age place : ℕ) (s : Slot S (List A)) (w : SetState S C (List A)) → place + 1 ≤ count → SetKept count age w → SlotKept place s
        → SetKept count age (with_slot place s w)
    slot_changed age place s w here x own = record {
      long = length-set w.slots place s ∙ x.long;
      source = x.source;
      client = x.client;
      each = λ q within. slot_by age place q s w (here_or_not (q == place) q place refl) here within x own;
    }

    pub in_one : (age place : ℕ) (f : Slot S (List A) → Slot S (List A)) (w : SetState S C (List A)) → place + 1 ≤ count
        → ((s : Slot S (List A)) → SlotKept place s → SlotKept place (f s)) → SetKept count age w → SetKept count age (in_slot place f w)
    in_one age place f w here step x = slot_changed age place (f (slot_at place w)) w here x (step (slot_at place w) (x.each place here))

    client_changed : (age later : ℕ) (c : C) (w : SetState S C (List A)) → K later c → SetKept count age w → SetKept count later (record w { client = c })
    client_changed age later c w own x = record { long = x.long; source = x.source; client = own; each = x.each }

    gather_by : (o : Option (Connection (List A))) (age place : ℕ) (w : SetState S C (List A))
        → (slot_at place w).connection ≡ o → place + 1 ≤ count → SetKept count age w
        → SetKept count age (record (with_slot place (asked_by n o (n.asked (place + 1) w.client) (slot_at place w)) w) { client = cleared_by n o (place + 1) w.client })
    gather_by None age place w is here x = slot_changed age place (slot_at place w) w here x (x.each place here)
    gather_by (Some c) age place w is here x =
        let put = n.asked (place + 1) w.client in
        let s = record (slot_at place w) { connection = Some (record c { there = n.joined c.there put }) } in
        let flight : FlightKept c = subst (λ (o : Option (Connection (List A))). ConnectionKept o) is (x.each place here).1 in
        client_changed age age (n.cleared (place + 1) w.client) (with_slot place s w) (are.cleared age (place + 1) w.client x.client)
        (slot_changed age place s w here x (
          (x.each place here).0,
          record { there = are.there_joined c.there put flight.there (are.asked age (place + 1) w.client x.client); back = flight.back },
        ))

    gathered : (age some : ℕ) (w : SetState S C (List A)) → some ≤ count → SetKept count age w → SetKept count age (gathered_among n some w)
    unfolding gathered_among
    gathered age zero w less x = x
    gathered age (suc some) w less x =
        let here : some + 1 ≤ count = omega (arith, less) in
        gather_by (slot_at some (gathered_among n some w)).connection age some (gathered_among n some w) refl here (gathered age some w (omega (arith, less)) x)

    pub does : (age later : ℕ) (event : C → C) (w : SetState S C (List A)) → ((c : C) → K age c → K later (event c)) → SetKept count age w
        → SetKept count later (client_does n event w)
    does age later event w step x =
        gathered later (length w.slots) (record w { client = event w.client }) (subst (λ k. k ≤ count) (sym x.long) (omega arith))
        (client_changed age later (event w.client) w (step w.client x.client) x)

    lost_cases : (o : Option (Connection (List A))) (age place : ℕ) (w : SetState S C (List A)) → place + 1 ≤ count → SetKept count age w
        → SetKept count age (lost_by n o place w)
    lost_cases None age place w here x = x
    lost_cases (Some c) age place w here x =
        does age age (n.loses (place + 1)) (in_slot place (parted n) w) (are.loses age (place + 1)) (in_one age place (parted n) w here (parted_kept place) x)

    pub lost_kept : (age place : ℕ) (w : SetState S C (List A)) → place + 1 ≤ count → SetKept count age w → SetKept count age (lost n place w)
    lost_kept age place w here x = lost_cases (slot_at place w).connection age place w here x

    serves_one : (age place : ℕ) (w : SetState S C (List A)) → place + 1 ≤ count → SetKept count age w → SetKept count age (in_slot place (served n) w)
    serves_one age place w here x = in_one age place (served n) w here (served_kept place) x

    halved_kept : (age place : ℕ) (w : SetState S C (List A)) → place + 1 ≤ count → SetKept count age w → SetKept count age (halved n place w)
    halved_kept age place w here x = lost_kept age place (in_slot place (served n) w) here (serves_one age place w here x)

    ended_cases : (o : Option (Connection (List A))) (age place : ℕ) (w : SetState S C (List A)) → SetKept count age (in_slot place stopped w)
        → SetKept count age (ended_by n o place w)
    ended_cases None age place w x = x
    ended_cases (Some c) age place w x = does age age (n.loses (place + 1)) (in_slot place stopped w) (are.loses age (place + 1)) x

    -- where it is kept without the life, whatever was kept of that
    pub ended_of : (age place : ℕ) (w : SetState S C (List A)) → SetKept count age (in_slot place stopped w) → SetKept count age (ended n place w)
    ended_of age place w x = ended_cases (slot_at place w).connection age place w x

    ended_kept : (age place : ℕ) (w : SetState S C (List A)) → place + 1 ≤ count → SetKept count age w → SetKept count age (ended n place w)
    ended_kept age place w here x = ended_of age place w (in_one age place stopped w here (λ s y. (tt, tt)) x)

    wish_kept : (age place : ℕ) (w : SetState S C (List A)) → SetKept count age w → SetKept count age (wish_taken n place w)
    wish_kept age place w x = client_changed age age (n.wish_taken (place + 1) w.client) w (are.wish_taken age (place + 1) w.client x.client) x

    dialled_cases : (life : Option S) (age place : ℕ) (w : SetState S C (List A)) → place + 1 ≤ count → SetKept count age w
        → SetKept count age (dialled_by n life place w)
    dialled_cases None age place w here x = does age age (n.is_refused (place + 1)) w (are.is_refused age (place + 1)) x
    dialled_cases (Some life) age place w here x =
        does age age (n.connects (place + 1)) (in_slot place (λ s. accepted n (parted n s)) w) (are.connects age (place + 1))
        (in_one age place (λ s. accepted n (parted n s)) w here (redialled_kept place) x)

    dialled_kept : (age place : ℕ) (w : SetState S C (List A)) → place + 1 ≤ count → SetKept count age w → SetKept count age (dialled n place w)
    dialled_kept age place w here x = dialled_cases (slot_at place w).life age place w here x

    close_cases : (k : Wish) (age place : ℕ) (w : SetState S C (List A)) → place + 1 ≤ count → SetKept count age w → SetKept count age (after_close n k place w)
    close_cases wish.Dial age place w here x = dialled_kept age place (wish_taken n place w) here (wish_kept age place w x)
    close_cases wish.None age place w here x = wish_kept age place w x
    close_cases wish.Close age place w here x = wish_kept age place w x

    closed_kept : (age place : ℕ) (w : SetState S C (List A)) → place + 1 ≤ count → SetKept count age w → SetKept count age (closed n place w)
    closed_kept age place w here x = close_cases (n.wish (place + 1) w.client) age place w here x

    wished_cases : (k : Wish) (age place : ℕ) (w : SetState S C (List A)) → place + 1 ≤ count → SetKept count age w → SetKept count age (wished_by n k place w)
    wished_cases wish.None age place w here x = wish_kept age place w x
    wished_cases wish.Dial age place w here x = dialled_kept age place (wish_taken n place w) here (wish_kept age place w x)
    wished_cases wish.Close age place w here x =
        closed_kept age place (in_slot place (parted n) (wish_taken n place w)) here
        (in_one age place (parted n) (wish_taken n place w) here (parted_kept place) (wish_kept age place w x))

    wished_kept : (age place : ℕ) (w : SetState S C (List A)) → place + 1 ≤ count → SetKept count age w → SetKept count age (wished n place w)
    wished_kept age place w here x = wished_cases (n.wish (place + 1) w.client) age place w here x

    learned_cases : (o : Option (Connection (List A))) (age place : ℕ) (w : SetState S C (List A)) → (slot_at place w).connection ≡ o → place + 1 ≤ count
        → SetKept count age w → SetKept count age (learned_by n o place w)
    learned_cases None age place w is here x = x
    learned_cases (Some c) age place w is here x =
        let s = record (slot_at place w) { connection = Some (record c { back = n.nothing }) } in
        let flight : FlightKept c = subst (λ (o : Option (Connection (List A))). ConnectionKept o) is (x.each place here).1 in
        does age age (n.learns (place + 1) c.back) (with_slot place s w) (λ d. are.learns age (place + 1) c.back d flight.back)
        (slot_changed age place s w here x ((x.each place here).0, record { there = flight.there; back = are.back_none }))

    learned_kept : (age place : ℕ) (w : SetState S C (List A)) → place + 1 ≤ count → SetKept count age w → SetKept count age (learned n place w)
    learned_kept age place w here x = learned_cases (slot_at place w).connection age place w refl here x

    -- ---- rounds, and time

    left_cases : (b : Bool) (age place : ℕ) (w : SetState S C (List A)) → place + 1 ≤ count → SetKept count age w → SetKept count age (cond b (lost n place w) w)
    left_cases true age place w here x = lost_kept age place w here x
    left_cases false age place w here x = x

    turn_kept : (age place : ℕ) (w : SetState S C (List A)) → place + 1 ≤ count → SetKept count age w → SetKept count age (turn n place w)
    turn_kept age place w here x =
        let heard = learned n place (in_slot place (served n) (wished n place w)) in
        left_cases (is_left n (slot_at place heard)) age place heard here
        (learned_kept age place (in_slot place (served n) (wished n place w)) here (serves_one age place (wished n place w) here (wished_kept age place w here x)))

    free_cases : (b : Bool) (age place : ℕ) (w : SetState S C (List A)) → place + 1 ≤ count → SetKept count age w → SetKept count age (cond b w (turn n place w))
    free_cases true age place w here x = x
    free_cases false age place w here x = turn_kept age place w here x

    turns_kept : (age some : ℕ) (w : SetState S C (List A)) → some ≤ count → SetKept count age w → SetKept count age (turns_among n some w)
    unfolding turns_among
    turns_kept age zero w less x = x
    turns_kept age (suc some) w less x =
        free_cases (slot_at some (turns_among n some w)).held age some (turns_among n some w) (omega (arith, less)) (turns_kept age some w (omega (arith, less)) x)

    round_kept : (age : ℕ) (w : SetState S C (List A)) → SetKept count age w → SetKept count age (round n w)
    round_kept age w x = turns_kept age (length w.slots) w (subst (λ k. k ≤ count) (sym x.long) (omega arith)) x

    rounds_kept : (age amount : ℕ) (w : SetState S C (List A)) → SetKept count age w → SetKept count age (rounds n amount w)
    unfolding rounds
    rounds_kept age zero w x = x
    rounds_kept age (suc amount) w x = round_kept age (rounds n amount w) (rounds_kept age amount w x)

    among_kept : (age ms some : ℕ) (w : SetState S C (List A)) → some ≤ count → SetKept count age w → SetKept count age (ticked_among n ms some w)
    unfolding ticked_among
    among_kept age ms zero w less x = x
    among_kept age ms (suc some) w less x =
        in_one age some (happens n (n.ticks ms)) (ticked_among n ms some w) (omega (arith, less))
        (λ s. happens_kept some (n.ticks ms) s (are.ticks some ms)) (among_kept age ms some w (omega (arith, less)) x)

    ticked_kept : (age ms : ℕ) (w : SetState S C (List A)) → SetKept count age w → SetKept count (suc age) (ticked n ms w)
    ticked_kept age ms w x =
        does age (suc age) (n.waits ms) (ticked_among n ms (length w.slots) w) (are.waits age ms)
        (among_kept age ms (length w.slots) w (subst (λ k. k ≤ count) (sym x.long) (omega arith)) x)

    -- ---- a line

    begun_kept : (age place : ℕ) (May : ℕ → Type 0) (w : SetState S C (List A)) → AreBegun count May → May place → place + 1 ≤ count → SetKept count age w
        → SetKept count age (begun n begins items place w)
    begun_kept age place May w does_begin may here x =
        let boot = next_boot (slot_at place w) in
        in_one age place (started (begins (place + 1) boot (currents items w.source)) (length w.source)) w here
        (λ s y. (does_begin place boot (currents items w.source) here may (small_boot (slot_at place w).boot) (currents_all Of items w.source x.source), tt)) x

    at_cases : (o : Option ℕ) (age : ℕ) (act : ℕ → SetState S C (List A) → SetState S C (List A)) (w : SetState S C (List A))
        → ((place : ℕ) → o ≡ Some place → SetKept count age (act place w)) → SetKept count age w → SetKept count age (at_place n begins items o act w)
    at_cases None age act w step x = x
    at_cases (Some place) age act w step x = step place refl

    pub at_kept : (age server : ℕ) (act : ℕ → SetState S C (List A) → SetState S C (List A)) (w : SetState S C (List A))
        → ((place : ℕ) → place + 1 ≤ count → server ≡ place + 1 → SetKept count age (act place w)) → SetKept count age w
        → SetKept count age (at_place n begins items (place_in server (length w.slots)) act w)
    at_kept age server act w step x =
        at_cases (place_in server (length w.slots)) age act w
        (λ place found. step place (subst (λ k. place + 1 ≤ k) x.long (place_within server (length w.slots) place found)) (place_is server (length w.slots) place found)) x

    pub aged : (age : ℕ) (w : SetState S C (List A)) → SetKept count age w → SetKept count (suc age) w
    aged age w x = client_changed age (suc age) w.client w (are.later age w.client x.client) x

    -- a line begins no life but that of a server that it starts
    abbrev pub Starts : Line → ℕ → Type 0
    Starts l place = starts (place + 1) l ≡ true

    pub line_kept : (age : ℕ) (l : Line) (w : SetState S C (List A)) → AreBegun count (Starts l) → LineIs l → SetKept count age w
        → SetKept count (suc age) (after n begins items l w)
    line_kept age (line.Change change) w may is x = record {
      long = x.long;
      source = appended_all Of change w.source x.source is;
      client = are.later age w.client x.client;
      each = x.each;
    }
    line_kept age (line.Feed server amount) w may is x =
        at_kept (suc age) server (λ place. in_slot place (fed n amount w.source)) w
        (λ place here same. in_one (suc age) place (fed n amount w.source) w here (λ s y. fed_kept place amount w.source s x.source y) (aged age w x)) (aged age w x)
    line_kept age (line.Tick ms) w may is x = ticked_kept age ms w x
    line_kept age (line.Pass amount) w may is x = rounds_kept (suc age) amount w (aged age w x)
    line_kept age (line.Level server level) w may is x =
        at_kept (suc age) server (λ place. in_slot place (happens n (n.levels level))) w
        (λ place here same. in_one (suc age) place (happens n (n.levels level)) w here
        (λ s y. happens_kept place (n.levels level) s (λ life. are.levels place level life is) y) (aged age w x)) (aged age w x)
    line_kept age (line.Stop server) w may is x = at_kept (suc age) server (ended n) w (λ place here same. ended_kept (suc age) place w here (aged age w x)) (aged age w x)
    line_kept age (line.Start server) w may is x =
        at_kept (suc age) server (begun n begins items) w
        (λ place here same. begun_kept (suc age) place (Starts (line.Start server)) w may (same_is server (place + 1) same) here (aged age w x)) (aged age w x)
    line_kept age (line.Cut server) w may is x = at_kept (suc age) server (lost n) w (λ place here same. lost_kept (suc age) place w here (aged age w x)) (aged age w x)
    line_kept age (line.Half server) w may is x = at_kept (suc age) server (halved n) w (λ place here same. halved_kept (suc age) place w here (aged age w x)) (aged age w x)
    line_kept age (line.Hold server) w may is x =
        at_kept (suc age) server (λ place. in_slot place (λ s. record s { held = true })) w
        (λ place here same. in_one (suc age) place (λ s. record s { held = true }) w here (λ s y. y) (aged age w x)) (aged age w x)
    line_kept age (line.Free server) w may is x =
        at_kept (suc age) server (λ place. in_slot place (λ s. record s { held = false })) w
        (λ place here same. in_one (suc age) place (λ s. record s { held = false }) w here (λ s y. y) (aged age w x)) (aged age w x)
    line_kept age other w may is x = aged age w x

    -- ---- lives that are over too

    before_kept : (place : ℕ) (life : Option S) (lives : List S) → LifeKept place life → AllKept place lives → AllKept place (before life lives)
    before_kept place None lives x all = all
    before_kept place (Some life) lives x all = (x, all)

    here_by : (b : Bool) (age here place : ℕ) (w : SetState S C (List A)) (lives : ℕ → List S) → (place == here) ≡ b → here + 1 ≤ count → SetKept count age w
        → AllKept place (lives place) → AllKept place (cond b (before (slot_at here w).life (lives place)) (lives place))
    here_by false age here place w lives is within x all = all
    here_by true age here place w lives is within x all =
        let same : place ≡ here = same_place place here is in
        subst (λ k. AllKept place (before (slot_at k w).life (lives place))) same
        (before_kept place (slot_at place w).life (lives place) (x.each place (subst (λ k. k + 1 ≤ count) (sym same) within)).0 all)
      where
        same_place : (place here : ℕ) → (place == here) ≡ true → place ≡ here
        same_place place here is = grind (arith, nat_tests)

    at_over : (o : Option ℕ) (age place : ℕ) (w : SetState S C (List A)) (lives : ℕ → List S) → ((here : ℕ) → o ≡ Some here → here + 1 ≤ count)
        → SetKept count age w → AllKept place (lives place) → AllKept place (over_at o w lives place)
    at_over None age place w lives within x all = all
    at_over (Some here) age place w lives within x all = here_by (place == here) age here place w lives refl (within here refl) x all

    server_over : (age server place : ℕ) (w : SetState S C (List A)) (lives : ℕ → List S) → SetKept count age w → AllKept place (lives place)
        → AllKept place (over_at (place_in server (length w.slots)) w lives place)
    server_over age server place w lives x all =
        at_over (place_in server (length w.slots)) age place w lives
        (λ here found. subst (λ k. here + 1 ≤ k) x.long (place_within server (length w.slots) here found)) x all

    line_over : (age : ℕ) (l : Line) (place : ℕ) (w : SetState S C (List A)) (lives : ℕ → List S) → SetKept count age w → AllKept place (lives place)
        → AllKept place (over_by l w lives place)
    line_over age (line.Stop server) place w lives x all = server_over age server place w lives x all
    line_over age (line.Start server) place w lives x all = server_over age server place w lives x all
    line_over age other place w lives x all = all

    -- ---- lines

    abbrev pub later_by : List Line → ℕ → ℕ
    later_by [] age = age
    later_by (l ∷ lines) age = later_by lines (suc age)

    pub all_later : (lines : List Line) (age : ℕ) → later_by lines age ≡ length lines + age
    all_later [] age = omega arith
    all_later (l ∷ lines) age = let rest = all_later lines (suc age) in omega (arith, rest)

    abbrev pub LinesAre : List Line → Type 0
    LinesAre [] = Unit {0}
    LinesAre (l ∷ lines) = LineIs l × LinesAre lines

    module _ (are_begun : AreBegun count (λ place. Unit {0})) where
      any_line : (l : Line) → AreBegun count (Starts l)
      any_line l = λ place boot current here may small all. are_begun place boot current here tt small all

      pub lines_kept : (age : ℕ) (lines : List Line) (w : SetState S C (List A)) → LinesAre lines → SetKept count age w
          → SetKept count (later_by lines age) (after_all n begins items lines w)
      lines_kept age [] w is x = x
      lines_kept age (l ∷ lines) w is x = lines_kept (suc age) lines (after n begins items l w) is.1 (line_kept age l w (any_line l) is.0 x)

      pub lines_over : (age : ℕ) (lines : List Line) (place : ℕ) (w : SetState S C (List A)) (lives : ℕ → List S) → place + 1 ≤ count → LinesAre lines
          → SetKept count age w → AllKept place (lives place)
          → AllKept place (before (slot_at place (after_all n begins items lines w)).life (over_after n begins items lines w lives place))
      lines_over age [] place w lives within is x all = before_kept place (slot_at place w).life (lives place) (x.each place within).0 all
      lines_over age (l ∷ lines) place w lives within is x all =
          lines_over (suc age) lines place (after n begins items l w) (over_by l w lives) within is.1 (line_kept age l w (any_line l) is.0 x)
          (line_over age l place w lives x all)

      pub new_kept : (c : C) → K 0 c → SetKept count 0 (new_set begins count c)
      new_kept c own = record {
        long = slots_long (List A) begins count;
        source = tt;
        client = own;
        each = λ place here. subst (λ (s : Slot S (List A)). SlotKept place s) (sym (slot_new (List A) begins count place here))
            (are_begun place 1 [] here tt (omega arith) tt, tt);
      }

      -- all lives of a server, and the client, after any lines, of a set that begins
      pub lives_keep : (lines : List Line) (c : C) (place : ℕ) → place + 1 ≤ count → LinesAre lines → K 0 c
          → AllKept place (before (slot_at place (after_all n begins items lines (new_set begins count c))).life
          (over_after n begins items lines (new_set begins count c) (λ other. []) place))
      lives_keep lines c place within is own = lines_over 0 lines place (new_set begins count c) (λ other. []) within is (new_kept c own) tt

      pub client_keeps : (lines : List Line) (c : C) → LinesAre lines → K 0 c
          → K (later_by lines 0) (after_all n begins items lines (new_set begins count c)).client
      client_keeps lines c is own = (lines_kept 0 lines (new_set begins count c) is (new_kept c own)).client
