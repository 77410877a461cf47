-- A set whose nodes note what they take and put, move by move: each of its servers fits its connections and lives.
use Rattle.std.proofs.Common.{◌≡◌, ◌≢◌, ◌⊎◌, inl, inr, ℕ, zero, suc, ◌+◌, ◌==◌, ◌≤◌, Bool, true, false, cond, List, [], ◌∷◌, ◌++◌, length, Option, Some, None, is_some, refl, sym, ap, subst, ◌∙◌, arith}
use Rattle.std.proofs.lemmas.Bool.Decides.{nat_tests}
use Rattle.std.proofs.lemmas.List.{length-set}
use Rattle.link_rules.specs.declared.notice.Wish.{Wish}
use Rattle.link_rules.specs.declared.notice.Wish.TheVariants as wish
use Rattle.set_rules.specs.State.{Connection, SetState, Slot}
use Rattle.set_rules.specs.Nodes.{Nodes}
use Rattle.set_rules.specs.Slots.{accepted, happens, parted, served, stopped}
use Rattle.set_rules.specs.Moves.{after_close, asked_by, cleared_by, client_does, closed, dialled, dialled_by, ended, ended_by, gathered_among, halved, in_slot, is_left, learned, learned_by, lost, lost_by, slot_at, wish_taken, wished, wished_by, with_slot}
use Rattle.set_rules.specs.Rounds.{round, rounds, ticked, ticked_among, turn, turns_among}
use Rattle.set_rules.proofs.Places.{here_or_not, other_server, slot_here, slot_other}
use Rattle.set_fronts.specs.Lives.{before, over_at}
use Rattle.set_fronts.specs.Noting.{NotedClient, NotedLife, Talked, nothing_talked, noting, of_link, on_last, puts, takes}
use Rattle.set_fronts.proofs.Slots.{Fits, FitsSlot, asked_fits, dialled_fits, happens_fits, learned_fits, parted_fits, same_number, served_fits, stopped_fits}

-- ---- links

link_here : {A : Type 0} (k : ℕ) (change : List (Talked A) → List (Talked A)) (dials : ℕ → List (Talked A)) → of_link k change dials k ≡ change (dials k)
link_here k change dials = ap (λ b. cond b (change (dials k)) (dials k)) (same_number k)

link_other : {A : Type 0} (place q : ℕ) (change : List (Talked A) → List (Talked A)) (dials : ℕ → List (Talked A)) → q ≢ place
    → of_link (place + 1) change dials (q + 1) ≡ dials (q + 1)
link_other place q change dials differ = ap (λ b. cond b (change (dials (q + 1))) (dials (q + 1))) (other_server q place differ)

apart : (q place : ℕ) → q ≢ place → (q == place) ≡ false
apart q place differ = apart_by (q == place) refl
  where
    same : (q place : ℕ) → (q == place) ≡ true → q ≡ place
    same q place e = grind (arith, nat_tests)

    apart_by : (b : Bool) → (q == place) ≡ b → (q == place) ≡ false
    apart_by true e = absurd (differ (same q place e))
    apart_by false e = e

-- so many servers, and the lives of each that are over
pub record Keeps {S C A : Type 0} (count : ℕ) (over : ℕ → List (NotedLife S A)) (v : SetState (NotedLife S A) (NotedClient C A) (List A)) : Type 0 where
  pub slots : length v.slots ≡ count
  pub each : (place : ℕ) → place + 1 ≤ count → FitsSlot (slot_at place v) (v.client.dials (place + 1)) (over place)

module _ {S C A : Type 0} (n : Nodes S C (List A)) (none : n.nothing ≡ []) (joins : (x y : List A) → n.joined x y ≡ x ++ y) where
  abbrev pub Life : Type 0
  Life = NotedLife S A

  abbrev pub Client : Type 0
  Client = NotedClient C A

  abbrev pub Noting : Type 0
  Noting = SetState (NotedLife S A) (NotedClient C A) (List A)

  -- ---- one server, its link and its lives change

  one_by : (place q count : ℕ) (over after : ℕ → List Life) (v : Noting) (z : Slot Life (List A)) (d : Client) → (q ≡ place) ⊎ (q ≢ place) → place + 1 ≤ count
      → q + 1 ≤ count → Keeps count over v → ((k : ℕ) → k ≢ place → d.dials (k + 1) ≡ v.client.dials (k + 1)) → ((k : ℕ) → k ≢ place → after k ≡ over k)
      → FitsSlot z (d.dials (place + 1)) (after place) → FitsSlot (slot_at q (record (with_slot place z v) { client = d })) (d.dials (q + 1)) (after q)
  one_by place q count over after v z d (inl same) here within x links lives own =
      subst (λ k. FitsSlot (slot_at k (record (with_slot place z v) { client = d })) (d.dials (k + 1)) (after k)) (sym same)
      (subst (λ (s : Slot Life (List A)). FitsSlot s (d.dials (place + 1)) (after place)) (sym (slot_here v.slots place z (subst (λ k. place + 1 ≤ k) (sym x.slots) here))) own)
  one_by place q count over after v z d (inr differ) here within x links lives own =
      subst (λ (s : Slot Life (List A)). FitsSlot s (d.dials (q + 1)) (after q)) (sym (slot_other v.slots place q z differ))
      (subst (λ (l : List (Talked A)). FitsSlot (slot_at q v) l (after q)) (sym (links q differ))
      (subst (λ (l : List Life). FitsSlot (slot_at q v) (v.client.dials (q + 1)) l) (sym (lives q differ)) (x.each q within)))

  one_changes : (place count : ℕ) (over after : ℕ → List Life) (v : Noting) (z : Slot Life (List A)) (d : Client) → place + 1 ≤ count → Keeps count over v
      → ((k : ℕ) → k ≢ place → d.dials (k + 1) ≡ v.client.dials (k + 1)) → ((k : ℕ) → k ≢ place → after k ≡ over k)
      → FitsSlot z (d.dials (place + 1)) (after place) → Keeps count after (record (with_slot place z v) { client = d })
  one_changes place count over after v z d here x links lives own = record {
    slots = length-set v.slots place z ∙ x.slots;
    each = λ q within. one_by place q count over after v z d (here_or_not (q == place) q place refl) here within x links lives own;
  }

  -- the life at a place is over
  pub life_over : (place count : ℕ) (over : ℕ → List Life) (v : Noting) (z : Slot Life (List A)) → place + 1 ≤ count → Keeps count over v
      → FitsSlot z (v.client.dials (place + 1)) (before (slot_at place v).life (over place)) → Keeps count (over_at (Some place) v over) (with_slot place z v)
  life_over place count over v z here x own =
      one_changes place count over (over_at (Some place) v over) v z v.client here x (λ k differ. refl)
      (λ k differ. ap (λ b. cond b (before (slot_at place v).life (over k)) (over k)) (apart k place differ))
      (subst (λ (l : List Life). FitsSlot z (v.client.dials (place + 1)) l)
      (sym (ap (λ b. cond b (before (slot_at place v).life (over place)) (over place)) (same_number place))) own)

  module _ (count : ℕ) (over : ℕ → List Life) where
    slot_changes : (place : ℕ) (v : Noting) (z : Slot Life (List A)) → place + 1 ≤ count → Keeps count over v
        → FitsSlot z (v.client.dials (place + 1)) (over place) → Keeps count over (with_slot place z v)
    slot_changes place v z here x own = one_changes place count over over v z v.client here x (λ k differ. refl) (λ k differ. refl) own

    pub in_one : (place : ℕ) (g : Slot Life (List A) → Slot Life (List A)) (v : Noting) → place + 1 ≤ count
        → ((dials : List (Talked A)) (lives : List Life) (z : Slot Life (List A)) → FitsSlot z dials lives → FitsSlot (g z) dials lives) → Keeps count over v
        → Keeps count over (in_slot place g v)
    in_one place g v here step x =
        slot_changes place v (g (slot_at place v)) here x (step (v.client.dials (place + 1)) (over place) (slot_at place v) (x.each place here))

    -- the client puts and takes nothing
    quiet : (d : Client) (v : Noting) → d.dials ≡ v.client.dials → Keeps count over v → Keeps count over (record v { client = d })
    quiet d v same x = record {
      slots = x.slots;
      each = λ q within. subst (λ (k : ℕ → List (Talked A)). FitsSlot (slot_at q v) (k (q + 1)) (over q)) (sym same) (x.each q within);
    }

    -- ---- what the client put is in flight

    gather_by : (oc : Option (Connection (List A))) (place : ℕ) (v : Noting) → (slot_at place v).connection ≡ oc → place + 1 ≤ count → Keeps count over v
        → Keeps count over (record (with_slot place (asked_by (noting n) oc (n.asked (place + 1) v.client.node) (slot_at place v)) v) {
          client = cleared_by (noting n) oc (place + 1) v.client;
        })
    gather_by None place v there here x = slot_changes place v (slot_at place v) here x (x.each place here)
    gather_by (Some c) place v there here x =
        let z = slot_at place v in
        let more = n.asked (place + 1) v.client.node in
        let dials = v.client.dials (place + 1) in
        one_changes place count over over v (record z { connection = Some (record c { there = n.joined c.there more }) }) ((noting n).cleared (place + 1) v.client) here x
        (λ k differ. link_other place k (on_last (puts more)) v.client.dials differ) (λ k differ. refl)
        (subst (λ (l : List (Talked A)). Fits z.boot z.given z.life (Some (record c { there = n.joined c.there more })) l (over place))
        (sym (link_here (place + 1) (on_last (puts more)) v.client.dials))
        (asked_fits n none joins more z.boot z.given z.life c dials (over place)
        (subst (λ (o : Option (Connection (List A))). Fits z.boot z.given z.life o dials (over place)) there (x.each place here))))

    gathered : (some : ℕ) (v : Noting) → some ≤ count → Keeps count over v → Keeps count over (gathered_among (noting n) some v)
    unfolding gathered_among
    gathered zero v less x = x
    gathered (suc some) v less x =
        gather_by (slot_at some (gathered_among (noting n) some v)).connection some (gathered_among (noting n) some v) refl (omega (arith, less))
        (gathered some v (omega (arith, less)) x)

    does : (g : Client → Client) (v : Noting) → length v.slots ≡ count → Keeps count over (record v { client = g v.client }) → Keeps count over (client_does (noting n) g v)
    does g v slots x =
        subst (λ k. Keeps count over (gathered_among (noting n) k (record v { client = g v.client }))) (sym slots)
        (gathered count (record v { client = g v.client }) (omega arith) x)

    pub does_quiet : (g : Client → Client) (v : Noting) → (g v.client).dials ≡ v.client.dials → Keeps count over v → Keeps count over (client_does (noting n) g v)
    does_quiet g v same x = does g v x.slots (quiet (g v.client) v same x)

    -- ---- connections

    parts_one : (place : ℕ) (v : Noting) → place + 1 ≤ count → Keeps count over v → Keeps count over (in_slot place (parted (noting n)) v)
    parts_one place v here x = in_one place (parted (noting n)) v here (λ dials lives z. parted_fits n none joins dials lives z) x

    serves_one : (place : ℕ) (v : Noting) → place + 1 ≤ count → Keeps count over v → Keeps count over (in_slot place (served (noting n)) v)
    serves_one place v here x = in_one place (served (noting n)) v here (λ dials lives z. served_fits n none joins dials lives z) x

    lost_cases : (oc : Option (Connection (List A))) (place : ℕ) (v : Noting) → place + 1 ≤ count → Keeps count over v → Keeps count over (lost_by (noting n) oc place v)
    lost_cases None place v here x = x
    lost_cases (Some c) place v here x = does_quiet ((noting n).loses (place + 1)) (in_slot place (parted (noting n)) v) refl (parts_one place v here x)

    pub lost_keeps : (place : ℕ) (v : Noting) → place + 1 ≤ count → Keeps count over v → Keeps count over (lost (noting n) place v)
    lost_keeps place v here x = lost_cases (slot_at place v).connection place v here x

    pub halved_keeps : (place : ℕ) (v : Noting) → place + 1 ≤ count → Keeps count over v → Keeps count over (halved (noting n) place v)
    halved_keeps place v here x = lost_keeps place (in_slot place (served (noting n)) v) here (serves_one place v here x)

    dialled_cases : (life : Option Life) (place : ℕ) (v : Noting) → (slot_at place v).life ≡ life → place + 1 ≤ count → Keeps count over v
        → Keeps count over (dialled_by (noting n) life place v)
    dialled_cases None place v is here x = does_quiet ((noting n).is_refused (place + 1)) v refl x
    dialled_cases (Some t) place v is here x =
        let z = accepted (noting n) (parted (noting n) (slot_at place v)) in
        let began = λ (earlier : List (Talked A)). nothing_talked ∷ earlier in
        does ((noting n).connects (place + 1)) (with_slot place z v) (length-set v.slots place z ∙ x.slots)
        (one_changes place count over over v z ((noting n).connects (place + 1) v.client) here x
        (λ k differ. link_other place k began v.client.dials differ) (λ k differ. refl)
        (subst (λ (l : List (Talked A)). FitsSlot z l (over place)) (sym (link_here (place + 1) began v.client.dials))
        (dialled_fits n none joins (v.client.dials (place + 1)) (over place) (slot_at place v) (ap (λ (o : Option Life). is_some o) is) (x.each place here))))

    dialled_keeps : (place : ℕ) (v : Noting) → place + 1 ≤ count → Keeps count over v → Keeps count over (dialled (noting n) place v)
    dialled_keeps place v here x = dialled_cases (slot_at place v).life place v refl here x

    -- ---- wishes

    taken_keeps : (place : ℕ) (v : Noting) → Keeps count over v → Keeps count over (wish_taken (noting n) place v)
    taken_keeps place v x = quiet ((noting n).wish_taken (place + 1) v.client) v refl x

    closed_cases : (w : Wish) (place : ℕ) (v : Noting) → place + 1 ≤ count → Keeps count over v → Keeps count over (after_close (noting n) w place v)
    closed_cases wish.Dial place v here x = dialled_keeps place (wish_taken (noting n) place v) here (taken_keeps place v x)
    closed_cases wish.None place v here x = taken_keeps place v x
    closed_cases wish.Close place v here x = taken_keeps place v x

    closed_keeps : (place : ℕ) (v : Noting) → place + 1 ≤ count → Keeps count over v → Keeps count over (closed (noting n) place v)
    closed_keeps place v here x = closed_cases (n.wish (place + 1) v.client.node) place v here x

    wished_cases : (w : Wish) (place : ℕ) (v : Noting) → place + 1 ≤ count → Keeps count over v → Keeps count over (wished_by (noting n) w place v)
    wished_cases wish.None place v here x = taken_keeps place v x
    wished_cases wish.Dial place v here x = dialled_keeps place (wish_taken (noting n) place v) here (taken_keeps place v x)
    wished_cases wish.Close place v here x =
        closed_keeps place (in_slot place (parted (noting n)) (wish_taken (noting n) place v)) here (parts_one place (wish_taken (noting n) place v) here (taken_keeps place v x))

    wished_keeps : (place : ℕ) (v : Noting) → place + 1 ≤ count → Keeps count over v → Keeps count over (wished (noting n) place v)
    wished_keeps place v here x = wished_cases (n.wish (place + 1) v.client.node) place v here x

    -- ---- what is in flight from a server comes

    learned_cases : (oc : Option (Connection (List A))) (place : ℕ) (v : Noting) → (slot_at place v).connection ≡ oc → place + 1 ≤ count → Keeps count over v
        → Keeps count over (learned_by (noting n) oc place v)
    learned_cases None place v there here x = x
    learned_cases (Some c) place v there here x =
        let z = slot_at place v in
        let y = record z { connection = Some (record c { back = n.nothing }) } in
        let dials = v.client.dials (place + 1) in
        does ((noting n).learns (place + 1) c.back) (with_slot place y v) (length-set v.slots place y ∙ x.slots)
        (one_changes place count over over v y ((noting n).learns (place + 1) c.back v.client) here x
        (λ k differ. link_other place k (on_last (takes c.back)) v.client.dials differ) (λ k differ. refl)
        (subst (λ (l : List (Talked A)). Fits z.boot z.given z.life (Some (record c { back = n.nothing })) l (over place))
        (sym (link_here (place + 1) (on_last (takes c.back)) v.client.dials))
        (learned_fits n none joins z.boot z.given z.life c dials (over place)
        (subst (λ (o : Option (Connection (List A))). Fits z.boot z.given z.life o dials (over place)) there (x.each place here)))))

    learned_keeps : (place : ℕ) (v : Noting) → place + 1 ≤ count → Keeps count over v → Keeps count over (learned (noting n) place v)
    learned_keeps place v here x = learned_cases (slot_at place v).connection place v refl here x

    -- ---- turns, rounds and time

    left_cases : (is : Bool) (place : ℕ) (v : Noting) → place + 1 ≤ count → Keeps count over v → Keeps count over (cond is (lost (noting n) place v) v)
    left_cases true place v here x = lost_keeps place v here x
    left_cases false place v here x = x

    turn_keeps : (place : ℕ) (v : Noting) → place + 1 ≤ count → Keeps count over v → Keeps count over (turn (noting n) place v)
    turn_keeps place v here x =
        let v1 = wished (noting n) place v in
        let v2 = in_slot place (served (noting n)) v1 in
        let v3 = learned (noting n) place v2 in
        left_cases (is_left (noting n) (slot_at place v3)) place v3 here (learned_keeps place v2 here (serves_one place v1 here (wished_keeps place v here x)))

    free_cases : (held : Bool) (place : ℕ) (v : Noting) → place + 1 ≤ count → Keeps count over v → Keeps count over (cond held v (turn (noting n) place v))
    free_cases true place v here x = x
    free_cases false place v here x = turn_keeps place v here x

    turns_keep : (some : ℕ) (v : Noting) → some ≤ count → Keeps count over v → Keeps count over (turns_among (noting n) some v)
    unfolding turns_among
    turns_keep zero v less x = x
    turns_keep (suc some) v less x =
        free_cases (slot_at some (turns_among (noting n) some v)).held some (turns_among (noting n) some v) (omega (arith, less)) (turns_keep some v (omega (arith, less)) x)

    round_keeps : (v : Noting) → Keeps count over v → Keeps count over (round (noting n) v)
    round_keeps v x = subst (λ k. Keeps count over (turns_among (noting n) k v)) (sym x.slots) (turns_keep count v (omega arith) x)

    pub rounds_keep : (some : ℕ) (v : Noting) → Keeps count over v → Keeps count over (rounds (noting n) some v)
    unfolding rounds
    rounds_keep zero v x = x
    rounds_keep (suc some) v x = round_keeps (rounds (noting n) some v) (rounds_keep some v x)

    ticks_keep : (ms some : ℕ) (v : Noting) → some ≤ count → Keeps count over v → Keeps count over (ticked_among (noting n) ms some v)
    unfolding ticked_among
    ticks_keep ms zero v less x = x
    ticks_keep ms (suc some) v less x =
        in_one some (happens (noting n) ((noting n).ticks ms)) (ticked_among (noting n) ms some v) (omega (arith, less))
        (λ dials lives z. happens_fits n none joins dials lives ((noting n).ticks ms) (record { boot = λ t. refl; connections = λ t. refl }) z)
        (ticks_keep ms some v (omega (arith, less)) x)

    pub ticked_keeps : (ms : ℕ) (v : Noting) → Keeps count over v → Keeps count over (ticked (noting n) ms v)
    ticked_keeps ms v x =
        does_quiet ((noting n).waits ms) (ticked_among (noting n) ms (length v.slots) v) refl
        (subst (λ k. Keeps count over (ticked_among (noting n) ms k v)) (sym x.slots) (ticks_keep ms count v (omega arith) x))

  -- ---- a life ends

  stops_one : (place count : ℕ) (over : ℕ → List Life) (v : Noting) → place + 1 ≤ count → Keeps count over v → Keeps count (over_at (Some place) v over) (in_slot place stopped v)
  stops_one place count over v here x =
      life_over place count over v (stopped (slot_at place v)) here x (stopped_fits (slot_at place v) (v.client.dials (place + 1)) (over place) (x.each place here))

  ended_cases : (oc : Option (Connection (List A))) (place count : ℕ) (over : ℕ → List Life) (v : Noting) → place + 1 ≤ count → Keeps count over v
      → Keeps count (over_at (Some place) v over) (ended_by (noting n) oc place v)
  ended_cases None place count over v here x = stops_one place count over v here x
  ended_cases (Some c) place count over v here x =
      does_quiet count (over_at (Some place) v over) ((noting n).loses (place + 1)) (in_slot place stopped v) refl (stops_one place count over v here x)

  pub ended_keeps : (place count : ℕ) (over : ℕ → List Life) (v : Noting) → place + 1 ≤ count → Keeps count over v
      → Keeps count (over_at (Some place) v over) (ended (noting n) place v)
  ended_keeps place count over v here x = ended_cases (slot_at place v).connection place count over v here x
