-- What a set keeps of each life by the source and by how far it was fed, after any lines.
use Rattle.std.proofs.Common.{◌≡◌, ◌≢◌, ◌⊎◌, inl, inr, ℕ, zero, suc, ◌+◌, ◌==◌, ◌≤◌, Bool, true, false, cond, List, [], ◌∷◌, ◌++◌, length, take, drop, Option, Some, None, refl, sym, ap, subst, ◌∙◌, arith}
use Rattle.std.proofs.lemmas.Bool.Decides.{nat_tests}
use Rattle.std.proofs.lemmas.List.{length-set}
use Rattle.set_model.specs.declared.source.Change.{Change}
use Rattle.direct_world.specs.Server.{place_in}
use Rattle.direct_world.specs.World.{appended}
use Rattle.scenario.specs.Past.{change_of, changes_in}
use Rattle.scenario.specs.declared.line.Line.{Line}
use Rattle.scenario.specs.declared.line.Line.TheVariants as line
use Rattle.link_rules.specs.declared.notice.Wish.{Wish}
use Rattle.link_rules.specs.declared.notice.Wish.TheVariants as wish
use Rattle.set_rules.specs.State.{Connection, SetState, Slot}
use Rattle.set_rules.specs.Nodes.{Nodes}
use Rattle.set_rules.specs.Slots.{accepted, currents, fed, fed_all, happens, next_boot, next_number, parted, served, started, stopped}
use Rattle.set_rules.specs.Moves.{after_close, asked_by, cleared_by, client_does, closed, dialled, dialled_by, ended, ended_by, gathered_among, halved, in_slot, is_left, learned, learned_by, lost, lost_by, slot_at, wish_taken, wished, wished_by, with_slot}
use Rattle.set_rules.specs.Rounds.{round, rounds, ticked, ticked_among, turn, turns_among}
use Rattle.set_rules.specs.World.{Beginning, after, after_all, at_place, begun, new_set}
use Rattle.set_rules.proofs.Places.{here_or_not, place_within, slot_here, slot_new, slot_other, slots_long}
use Rattle.set_histories.specs.Below.{before, over_after, over_at, over_by}
use Rattle.set_feeds.specs.Feeds.{sourced}
use Rattle.set_feeds.proofs.Known.{halves}

tail_same : (x y : Change) (xs ys : List Change) → x ∷ xs ≡ y ∷ ys → xs ≡ ys
tail_same x y xs ys is = cc

no_tail : (change : Change) (rest : List Change) → [] ≡ change ∷ rest → ⊥
no_tail change rest is = cc

drop_suc : (n : ℕ) (xs : List Change) (change : Change) (rest : List Change) → drop n xs ≡ change ∷ rest → drop (suc n) xs ≡ rest
drop_suc zero [] change rest is = absurd (no_tail change rest is)
drop_suc zero (x ∷ xs) change rest is = tail_same x change xs rest is
drop_suc (suc n) [] change rest is = absurd (no_tail change rest is)
drop_suc (suc n) (x ∷ xs) change rest is = drop_suc n xs change rest is

one_more : (n : ℕ) → n + 1 ≡ suc n
one_more n = omega arith

drop_next : (n : ℕ) (xs : List Change) (change : Change) (rest : List Change) → drop n xs ≡ change ∷ rest → drop (n + 1) xs ≡ rest
drop_next n xs change rest is = ap (λ k. drop k xs) (one_more n) ∙ drop_suc n xs change rest is

next_place : (n k : ℕ) → n + 1 + k ≡ n + suc k
next_place n k = omega arith

-- what is kept of a life that runs, by the source and the place in it up to which the life was fed or behind which it began
module _ {S C A : Type 0} (n : Nodes S C (List A)) (begins : Beginning S) (items : ℕ) (P : List Change → ℕ → S → Type 0) where
  pub record AreKept : Type 0 where
    pub first : (number : ℕ) → P [] 0 (begins number 1 [])
    pub begun : (source : List Change) (number boot : ℕ) → P source (length source) (begins number boot (currents items source))
    pub grows : (source : List Change) (position : ℕ) (change : Change) (life : S) → P source position life → P (appended change source) position life
    pub feeds : (source rest : List Change) (position : ℕ) (change : Change) (life : S) → drop position source ≡ change ∷ rest → P source position life
        → P source (position + 1) (n.feeds change life)
    pub accepts : (source : List Change) (position number : ℕ) (life : S) → P source position life → P source position (n.accepts number life)
    pub ends : (source : List Change) (position number : ℕ) (life : S) → P source position life → P source position (n.ends number life)
    pub hears : (source : List Change) (position number : ℕ) (wires : List A) (life : S) → P source position life → P source position (n.hears number wires life)
    pub ticks : (source : List Change) (position ms : ℕ) (life : S) → P source position life → P source position (n.ticks ms life)
    pub levels : (source : List Change) (position level : ℕ) (life : S) → P source position life → P source position (n.levels level life)
    pub emptied : (source : List Change) (position number : ℕ) (life : S) → P source position life → P source position (n.emptied number life)

  -- ---- a slot

  abbrev pub LifeKept : List Change → ℕ → Option S → Type 0
  LifeKept source position None = Unit {0}
  LifeKept source position (Some life) = P source position life

  abbrev pub SlotKept : List Change → Slot S (List A) → Type 0
  SlotKept source s = LifeKept source s.position s.life

  pub record SetKept (count : ℕ) (source : List Change) (w : SetState S C (List A)) : Type 0 where
    pub long : length w.slots ≡ count
    pub same : w.source ≡ source
    pub each : (place : ℕ) → place + 1 ≤ count → SlotKept source (slot_at place w)

  -- of all these lives, as far as each was fed
  abbrev pub AllKept : List Change → List S → Type 0
  AllKept known [] = Unit {0}
  AllKept known (life ∷ earlier) = ((position : ℕ) × P known position life) × AllKept known earlier

  module _ (count : ℕ) (source : List Change) (are : AreKept) where
    happens_in : (from to boot position given : ℕ) (held : Bool) (event : S → S) (life : Option S) (o : Option (Connection (List A)))
        → ((life : S) → P source from life → P source to (event life)) → LifeKept source from life
        → LifeKept source to (happens n event (record { boot = boot; life = life; position = position; held = held; given = given; connection = o })).life
    happens_in from to boot position given held event None o step x = tt
    happens_in from to boot position given held event (Some life) None step x = step life x
    happens_in from to boot position given held event (Some life) (Some c) step x = are.emptied source to c.number (event life) (step life x)

    happens_at : (from to : ℕ) (event : S → S) (s : Slot S (List A)) → ((life : S) → P source from life → P source to (event life)) → LifeKept source from s.life
        → LifeKept source to (happens n event s).life
    happens_at from to event s step x = happens_in from to s.boot s.position s.given s.held event s.life s.connection step x

    stays_in : (boot position given : ℕ) (held : Bool) (event : S → S) (life : Option S) (o : Option (Connection (List A)))
        → (happens n event (record { boot = boot; life = life; position = position; held = held; given = given; connection = o })).position ≡ position
    stays_in boot position given held event None o = refl
    stays_in boot position given held event (Some life) None = refl
    stays_in boot position given held event (Some life) (Some c) = refl

    happens_stays : (event : S → S) (s : Slot S (List A)) → (happens n event s).position ≡ s.position
    happens_stays event s = stays_in s.boot s.position s.given s.held event s.life s.connection

    pub happens_kept : (event : S → S) (s : Slot S (List A)) → ((position : ℕ) (life : S) → P source position life → P source position (event life)) → SlotKept source s
        → SlotKept source (happens n event s)
    happens_kept event s step x =
        subst (λ k. LifeKept source k (happens n event s).life) (sym (happens_stays event s)) (happens_at s.position s.position event s (step s.position) x)

    fed_all_at : (changes rest : List Change) (from : ℕ) (s : Slot S (List A)) → drop from source ≡ changes ++ rest → LifeKept source from s.life
        → LifeKept source (from + length changes) (fed_all n changes s).life
    fed_all_at [] rest from s is x = subst (λ k. LifeKept source k s.life) (none_more from) x
      where
        none_more : (k : ℕ) → k ≡ k + 0
        none_more k = omega arith
    fed_all_at (change ∷ changes) rest from s is x =
        subst (λ k. LifeKept source k (fed_all n changes (happens n (n.feeds change) s)).life) (next_place from (length changes))
        (fed_all_at changes rest (from + 1) (happens n (n.feeds change) s) (drop_next from source change (changes ++ rest) is)
        (happens_at from (from + 1) (n.feeds change) s (λ life. are.feeds source (changes ++ rest) from change life is) x))

    fed_kept : (amount : ℕ) (s : Slot S (List A)) → SlotKept source s → SlotKept source (fed n amount source s)
    fed_kept amount s x =
        fed_all_at (take amount (drop s.position source)) (drop amount (drop s.position source)) s.position s (sym (halves amount (drop s.position source))) x

    parted_in : (boot position given : ℕ) (held : Bool) (life : Option S) (o : Option (Connection (List A))) → LifeKept source position life
        → SlotKept source (parted n (record { boot = boot; life = life; position = position; held = held; given = given; connection = o }))
    parted_in boot position given held life None x = x
    parted_in boot position given held None (Some c) x = tt
    parted_in boot position given held (Some life) (Some c) x = are.ends source position c.number life x

    pub parted_kept : (s : Slot S (List A)) → SlotKept source s → SlotKept source (parted n s)
    parted_kept s x = parted_in s.boot s.position s.given s.held s.life s.connection x

    served_by_one : (o : Option (Connection (List A))) (s : Slot S (List A)) → s.connection ≡ o → SlotKept source s → SlotKept source (served n s)
    served_by_one o s is x = served_in s.boot s.position s.given s.held s.life s.connection x
      where
        served_in : (boot position given : ℕ) (held : Bool) (life : Option S) (o : Option (Connection (List A))) → LifeKept source position life
            → SlotKept source (served n (record { boot = boot; life = life; position = position; held = held; given = given; connection = o }))
        served_in boot position given held life None x = x
        served_in boot position given held None (Some c) x = tt
        served_in boot position given held (Some life) (Some c) x =
            are.emptied source position c.number (n.hears c.number c.there life) (are.hears source position c.number c.there life x)

    pub served_kept : (s : Slot S (List A)) → SlotKept source s → SlotKept source (served n s)
    served_kept s x = served_by_one s.connection s refl x

    accepted_kept : (s : Slot S (List A)) → SlotKept source s → SlotKept source (accepted n s)
    accepted_kept s x =
        happens_kept (n.accepts (next_number n s)) (record s { given = next_number n s; connection = Some (record { number = next_number n s; there = n.nothing; back = n.nothing }) })
        (λ position life. are.accepts source position (next_number n s) life) x

    pub redialled_kept : (s : Slot S (List A)) → SlotKept source s → SlotKept source (accepted n (parted n s))
    redialled_kept s x = accepted_kept (parted n s) (parted_kept s x)

    -- ---- a set

    slot_by : (place q : ℕ) (s : Slot S (List A)) (w : SetState S C (List A)) → (q ≡ place) ⊎ (q ≢ place) → place + 1 ≤ count → q + 1 ≤ count → SetKept count source w
        → SlotKept source s → SlotKept source (slot_at q (with_slot place s w))
    slot_by place q s w (inl same) here within x own =
        subst (λ k. SlotKept source (slot_at k (with_slot place s w))) (sym same)
        (subst (λ (y : Slot S (List A)). SlotKept source y) (sym (slot_here w.slots place s (subst (λ k. place + 1 ≤ k) (sym x.long) here))) own)
    slot_by place q s w (inr differ) here within x own =
        subst (λ (y : Slot S (List A)). SlotKept source y) (sym (slot_other w.slots place q s differ)) (x.each q within)

    pub slot_changed : (place : ℕ) (s : Slot S (List A)) (w : SetState S C (List A)) → place + 1 ≤ count → SetKept count source w → SlotKept source s
        → SetKept count source (with_slot place s w)
    slot_changed place s w here x own = record {
      long = length-set w.slots place s ∙ x.long;
      same = x.same;
      each = λ q within. slot_by place q s w (here_or_not (q == place) q place refl) here within x own;
    }

    pub in_one : (place : ℕ) (f : Slot S (List A) → Slot S (List A)) (w : SetState S C (List A)) → place + 1 ≤ count
        → ((s : Slot S (List A)) → SlotKept source s → SlotKept source (f s)) → SetKept count source w → SetKept count source (in_slot place f w)
    in_one place f w here step x = slot_changed place (f (slot_at place w)) w here x (step (slot_at place w) (x.each place here))

    client_changed : (c : C) (w : SetState S C (List A)) → SetKept count source w → SetKept count source (record w { client = c })
    client_changed c w x = record { long = x.long; same = x.same; each = x.each }

    asked_kept : (o : Option (Connection (List A))) (put : List A) (s : Slot S (List A)) → SlotKept source s → SlotKept source (asked_by n o put s)
    asked_kept None put s x = x
    asked_kept (Some c) put s x = x

    gather_by : (o : Option (Connection (List A))) (place : ℕ) (w : SetState S C (List A)) → place + 1 ≤ count → SetKept count source w
        → SetKept count source (record (with_slot place (asked_by n o (n.asked (place + 1) w.client) (slot_at place w)) w) { client = cleared_by n o (place + 1) w.client })
    gather_by o place w here x =
        let s = asked_by n o (n.asked (place + 1) w.client) (slot_at place w) in
        client_changed (cleared_by n o (place + 1) w.client) (with_slot place s w)
        (slot_changed place s w here x (asked_kept o (n.asked (place + 1) w.client) (slot_at place w) (x.each place here)))

    gathered : (some : ℕ) (w : SetState S C (List A)) → some ≤ count → SetKept count source w → SetKept count source (gathered_among n some w)
    unfolding gathered_among
    gathered zero w less x = x
    gathered (suc some) w less x =
        let here : some + 1 ≤ count = omega (arith, less) in
        gather_by (slot_at some (gathered_among n some w)).connection some (gathered_among n some w) here (gathered some w (omega (arith, less)) x)

    pub does : (event : C → C) (w : SetState S C (List A)) → SetKept count source w → SetKept count source (client_does n event w)
    does event w x =
        gathered (length w.slots) (record w { client = event w.client }) (subst (λ k. k ≤ count) (sym x.long) (omega arith)) (client_changed (event w.client) w x)

    lost_cases : (o : Option (Connection (List A))) (place : ℕ) (w : SetState S C (List A)) → place + 1 ≤ count → SetKept count source w → SetKept count source (lost_by n o place w)
    lost_cases None place w here x = x
    lost_cases (Some c) place w here x =
        does (n.loses (place + 1)) (in_slot place (parted n) w) (in_one place (parted n) w here (λ s. parted_kept s) x)

    pub lost_kept : (place : ℕ) (w : SetState S C (List A)) → place + 1 ≤ count → SetKept count source w → SetKept count source (lost n place w)
    lost_kept place w here x = lost_cases (slot_at place w).connection place w here x

    serves_one : (place : ℕ) (w : SetState S C (List A)) → place + 1 ≤ count → SetKept count source w → SetKept count source (in_slot place (served n) w)
    serves_one place w here x = in_one place (served n) w here (λ s. served_kept s) x

    halved_kept : (place : ℕ) (w : SetState S C (List A)) → place + 1 ≤ count → SetKept count source w → SetKept count source (halved n place w)
    halved_kept place w here x = lost_kept place (in_slot place (served n) w) here (serves_one place w here x)

    ended_cases : (o : Option (Connection (List A))) (place : ℕ) (w : SetState S C (List A)) → place + 1 ≤ count → SetKept count source w → SetKept count source (ended_by n o place w)
    ended_cases None place w here x = in_one place stopped w here (λ s y. tt) x
    ended_cases (Some c) place w here x =
        does (n.loses (place + 1)) (in_slot place stopped w) (in_one place stopped w here (λ s y. tt) x)

    ended_kept : (place : ℕ) (w : SetState S C (List A)) → place + 1 ≤ count → SetKept count source w → SetKept count source (ended n place w)
    ended_kept place w here x = ended_cases (slot_at place w).connection place w here x

    wish_kept : (place : ℕ) (w : SetState S C (List A)) → place + 1 ≤ count → SetKept count source w → SetKept count source (wish_taken n place w)
    wish_kept place w here x = client_changed (n.wish_taken (place + 1) w.client) w x

    dialled_cases : (life : Option S) (place : ℕ) (w : SetState S C (List A)) → place + 1 ≤ count → SetKept count source w
        → SetKept count source (dialled_by n life place (wish_taken n place w))
    dialled_cases None place w here x =
        does (n.is_refused (place + 1)) (wish_taken n place w) (wish_kept place w here x)
    dialled_cases (Some life) place w here x =
        does (n.connects (place + 1)) (in_slot place (λ s. accepted n (parted n s)) (wish_taken n place w))
        (in_one place (λ s. accepted n (parted n s)) (wish_taken n place w) here (λ s. redialled_kept s) (wish_kept place w here x))

    dialled_kept : (place : ℕ) (w : SetState S C (List A)) → place + 1 ≤ count → SetKept count source w → SetKept count source (dialled n place (wish_taken n place w))
    dialled_kept place w here x = dialled_cases (slot_at place (wish_taken n place w)).life place w here x

    close_cases : (k : Wish) (place : ℕ) (w : SetState S C (List A)) → place + 1 ≤ count → SetKept count source w → SetKept count source (after_close n k place w)
    close_cases wish.Dial place w here x = dialled_kept place w here x
    close_cases wish.None place w here x = wish_kept place w here x
    close_cases wish.Close place w here x = wish_kept place w here x

    closed_kept : (place : ℕ) (w : SetState S C (List A)) → place + 1 ≤ count → SetKept count source w → SetKept count source (closed n place w)
    closed_kept place w here x = close_cases (n.wish (place + 1) w.client) place w here x

    wished_cases : (k : Wish) (place : ℕ) (w : SetState S C (List A)) → place + 1 ≤ count → SetKept count source w → SetKept count source (wished_by n k place w)
    wished_cases wish.None place w here x = wish_kept place w here x
    wished_cases wish.Dial place w here x = dialled_kept place w here x
    wished_cases wish.Close place w here x =
        closed_kept place (in_slot place (parted n) (wish_taken n place w)) here (in_one place (parted n) (wish_taken n place w) here (λ s. parted_kept s) (wish_kept place w here x))

    wished_kept : (place : ℕ) (w : SetState S C (List A)) → place + 1 ≤ count → SetKept count source w → SetKept count source (wished n place w)
    wished_kept place w here x = wished_cases (n.wish (place + 1) w.client) place w here x

    learned_cases : (o : Option (Connection (List A))) (place : ℕ) (w : SetState S C (List A)) → (slot_at place w).connection ≡ o → place + 1 ≤ count → SetKept count source w → SetKept count source (learned_by n o place w)
    learned_cases None place w is here x = x
    learned_cases (Some c) place w is here x =
        does (n.learns (place + 1) c.back) (with_slot place (record (slot_at place w) { connection = Some (record c { back = n.nothing }) }) w)
        (slot_changed place (record (slot_at place w) { connection = Some (record c { back = n.nothing }) }) w here x
        (x.each place here))

    learned_kept : (place : ℕ) (w : SetState S C (List A)) → place + 1 ≤ count → SetKept count source w → SetKept count source (learned n place w)
    learned_kept place w here x = learned_cases (slot_at place w).connection place w refl here x

    -- ---- rounds, and time

    left_cases : (b : Bool) (place : ℕ) (w : SetState S C (List A)) → place + 1 ≤ count → SetKept count source w → SetKept count source (cond b (lost n place w) w)
    left_cases true place w here x = lost_kept place w here x
    left_cases false place w here x = x

    turn_kept : (place : ℕ) (w : SetState S C (List A)) → place + 1 ≤ count → SetKept count source w → SetKept count source (turn n place w)
    turn_kept place w here x =
        let heard = learned n place (in_slot place (served n) (wished n place w)) in
        left_cases (is_left n (slot_at place heard)) place heard here
        (learned_kept place (in_slot place (served n) (wished n place w)) here (serves_one place (wished n place w) here (wished_kept place w here x)))

    free_cases : (b : Bool) (place : ℕ) (w : SetState S C (List A)) → place + 1 ≤ count → SetKept count source w → SetKept count source (cond b w (turn n place w))
    free_cases true place w here x = x
    free_cases false place w here x = turn_kept place w here x

    turns_kept : (some : ℕ) (w : SetState S C (List A)) → some ≤ count → SetKept count source w → SetKept count source (turns_among n some w)
    unfolding turns_among
    turns_kept zero w less x = x
    turns_kept (suc some) w less x =
        free_cases (slot_at some (turns_among n some w)).held some (turns_among n some w) (omega (arith, less)) (turns_kept some w (omega (arith, less)) x)

    round_kept : (w : SetState S C (List A)) → SetKept count source w → SetKept count source (round n w)
    round_kept w x = turns_kept (length w.slots) w (subst (λ k. k ≤ count) (sym x.long) (omega arith)) x

    rounds_kept : (amount : ℕ) (w : SetState S C (List A)) → SetKept count source w → SetKept count source (rounds n amount w)
    unfolding rounds
    rounds_kept zero w x = x
    rounds_kept (suc amount) w x = round_kept (rounds n amount w) (rounds_kept amount w x)

    among_kept : (ms some : ℕ) (w : SetState S C (List A)) → some ≤ count → SetKept count source w → SetKept count source (ticked_among n ms some w)
    unfolding ticked_among
    among_kept ms zero w less x = x
    among_kept ms (suc some) w less x =
        in_one some (happens n (n.ticks ms)) (ticked_among n ms some w) (omega (arith, less))
        (λ s. happens_kept (n.ticks ms) s (λ position life. are.ticks source position ms life)) (among_kept ms some w (omega (arith, less)) x)

    ticked_kept : (ms : ℕ) (w : SetState S C (List A)) → SetKept count source w → SetKept count source (ticked n ms w)
    ticked_kept ms w x =
        let y = among_kept ms (length w.slots) w (subst (λ k. k ≤ count) (sym x.long) (omega arith)) x in
        does (n.waits ms) (ticked_among n ms (length w.slots) w) y

    -- ---- a line

    begun_kept : (place : ℕ) (w : SetState S C (List A)) → place + 1 ≤ count → SetKept count source w → SetKept count source (begun n begins items place w)
    begun_kept place w here x =
        let boot = next_boot (slot_at place w) in
        in_one place (started (begins (place + 1) boot (currents items w.source)) (length w.source)) w here
        (λ s y. subst (λ (l : List Change). P source (length l) (begins (place + 1) boot (currents items l))) (sym x.same) (are.begun source (place + 1) boot)) x

    fed_at : (amount place : ℕ) (w : SetState S C (List A)) → place + 1 ≤ count → SetKept count source w → SetKept count source (in_slot place (fed n amount w.source) w)
    fed_at amount place w here x =
        in_one place (fed n amount w.source) w here
        (λ s y. subst (λ (l : List Change). SlotKept source (fed n amount l s)) (sym x.same) (fed_kept amount s y)) x

    at_cases : (o : Option ℕ) (act : ℕ → SetState S C (List A) → SetState S C (List A)) (w : SetState S C (List A)) → ((place : ℕ) → o ≡ Some place → SetKept count source (act place w))
        → SetKept count source w → SetKept count source (at_place n begins items o act w)
    at_cases None act w step x = x
    at_cases (Some place) act w step x = step place refl

    at_kept : (server : ℕ) (act : ℕ → SetState S C (List A) → SetState S C (List A)) (w : SetState S C (List A)) → ((place : ℕ) → place + 1 ≤ count → SetKept count source (act place w))
        → SetKept count source w → SetKept count source (at_place n begins items (place_in server (length w.slots)) act w)
    at_kept server act w step x =
        at_cases (place_in server (length w.slots)) act w
        (λ place found. step place (subst (λ k. place + 1 ≤ k) x.long (place_within server (length w.slots) place found))) x

    life_grows : (change : Change) (position : ℕ) (life : Option S) → LifeKept source position life → LifeKept (appended change source) position life
    life_grows change position None x = tt
    life_grows change position (Some life) x = are.grows source position change life x

    line_kept : (l : Line) (w : SetState S C (List A)) → SetKept count source w → SetKept count (sourced (change_of l) source) (after n begins items l w)
    line_kept (line.Change change) w x = record {
      long = x.long;
      same = ap (appended change) x.same;
      each = λ place here. life_grows change (slot_at place w).position (slot_at place w).life (x.each place here);
    }
    line_kept (line.Feed server amount) w x =
        at_kept server (λ place. in_slot place (fed n amount w.source)) w (λ place here. fed_at amount place w here x) x
    line_kept (line.Tick ms) w x = ticked_kept ms w x
    line_kept (line.Pass amount) w x = rounds_kept amount w x
    line_kept (line.Level server level) w x =
        at_kept server (λ place. in_slot place (happens n (n.levels level))) w
        (λ place here. in_one place (happens n (n.levels level)) w here (λ s. happens_kept (n.levels level) s (λ position life. are.levels source position level life)) x) x
    line_kept (line.Stop server) w x = at_kept server (ended n) w (λ place here. ended_kept place w here x) x
    line_kept (line.Start server) w x = at_kept server (begun n begins items) w (λ place here. begun_kept place w here x) x
    line_kept (line.Cut server) w x = at_kept server (lost n) w (λ place here. lost_kept place w here x) x
    line_kept (line.Half server) w x = at_kept server (halved n) w (λ place here. halved_kept place w here x) x
    line_kept (line.Hold server) w x =
        at_kept server (λ place. in_slot place (λ s. record s { held = true })) w (λ place here. in_one place (λ s. record s { held = true }) w here (λ s y. y) x) x
    line_kept (line.Free server) w x =
        at_kept server (λ place. in_slot place (λ s. record s { held = false })) w (λ place here. in_one place (λ s. record s { held = false }) w here (λ s y. y) x) x
    line_kept other w x = x

    -- ---- lives that are over too

    before_kept : (position : ℕ) (life : Option S) (lives : List S) → LifeKept source position life → AllKept source lives → AllKept source (before life lives)
    before_kept position None lives x all = all
    before_kept position (Some life) lives x all = ((position, x), all)

    all_grow : (change : Change) (lives : List S) → AllKept source lives → AllKept (appended change source) lives
    all_grow change [] all = tt
    all_grow change (life ∷ lives) all = ((all.0.0, are.grows source all.0.0 change life all.0.1), all_grow change lives all.1)

    here_by : (b : Bool) (here place : ℕ) (w : SetState S C (List A)) (lives : ℕ → List S) → here + 1 ≤ count → SetKept count source w → AllKept source (lives place)
        → AllKept source (cond b (before (slot_at here w).life (lives place)) (lives place))
    here_by false here place w lives within x all = all
    here_by true here place w lives within x all = before_kept (slot_at here w).position (slot_at here w).life (lives place) (x.each here within) all

    at_over : (o : Option ℕ) (place : ℕ) (w : SetState S C (List A)) (lives : ℕ → List S) → ((here : ℕ) → o ≡ Some here → here + 1 ≤ count) → SetKept count source w
        → AllKept source (lives place) → AllKept source (over_at o w lives place)
    at_over None place w lives within x all = all
    at_over (Some here) place w lives within x all = here_by (place == here) here place w lives (within here refl) x all

    server_over : (server place : ℕ) (w : SetState S C (List A)) (lives : ℕ → List S) → SetKept count source w → AllKept source (lives place)
        → AllKept source (over_at (place_in server (length w.slots)) w lives place)
    server_over server place w lives x all =
        at_over (place_in server (length w.slots)) place w lives
        (λ here found. subst (λ k. here + 1 ≤ k) x.long (place_within server (length w.slots) here found)) x all

    line_over : (l : Line) (place : ℕ) (w : SetState S C (List A)) (lives : ℕ → List S) → SetKept count source w → AllKept source (lives place)
        → AllKept (sourced (change_of l) source) (over_by l w lives place)
    line_over (line.Change change) place w lives x all = all_grow change (lives place) all
    line_over (line.Stop server) place w lives x all = server_over server place w lives x all
    line_over (line.Start server) place w lives x all = server_over server place w lives x all
    line_over other place w lives x all = all

  -- ---- lines

  sourced_both : (xs ys source : List Change) → sourced (xs ++ ys) source ≡ sourced ys (sourced xs source)
  sourced_both [] ys source = refl
  sourced_both (x ∷ xs) ys source = sourced_both xs ys (appended x source)

  module _ (count : ℕ) (are : AreKept) where
    pub lines_kept : (lines : List Line) (source : List Change) (w : SetState S C (List A)) → SetKept count source w
        → SetKept count (sourced (changes_in lines) source) (after_all n begins items lines w)
    lines_kept [] source w x = x
    lines_kept (l ∷ lines) source w x =
        subst (λ (k : List Change). SetKept count k (after_all n begins items (l ∷ lines) w)) (sym (sourced_both (change_of l) (changes_in lines) source))
        (lines_kept lines (sourced (change_of l) source) (after n begins items l w) (line_kept count source are l w x))

    lines_over : (lines : List Line) (place : ℕ) (source : List Change) (w : SetState S C (List A)) (lives : ℕ → List S) → place + 1 ≤ count → SetKept count source w
        → AllKept source (lives place)
        → (known : List Change) × ((after_all n begins items lines w).source ≡ known)
        × AllKept known (before (slot_at place (after_all n begins items lines w)).life (over_after n begins items lines w lives place))
    lines_over [] place source w lives within x all =
        (source, x.same, before_kept count source are (slot_at place w).position (slot_at place w).life (lives place) (x.each place within) all)
    lines_over (l ∷ lines) place source w lives within x all =
        lines_over lines place (sourced (change_of l) source) (after n begins items l w) (over_by l w lives) within (line_kept count source are l w x)
        (line_over count source are l place w lives x all)

    new_kept : (c : C) → SetKept count [] (new_set begins count c)
    new_kept c = record {
      long = slots_long (List A) begins count;
      same = refl;
      each = λ place here. subst (λ (s : Slot S (List A)). SlotKept [] s) (sym (slot_new (List A) begins count place here)) (are.first (place + 1));
    }

    -- after any lines, of a set that begins
    pub source_is : (lines : List Line) (c : C) → (after_all n begins items lines (new_set begins count c)).source ≡ sourced (changes_in lines) []
    source_is lines c = (lines_kept lines [] (new_set begins count c) (new_kept c)).same

    pub lives_keep : (lines : List Line) (c : C) (place : ℕ) → place + 1 ≤ count
        → (known : List Change) × ((after_all n begins items lines (new_set begins count c)).source ≡ known)
        × AllKept known (before (slot_at place (after_all n begins items lines (new_set begins count c))).life
        (over_after n begins items lines (new_set begins count c) (λ other. []) place))
    lives_keep lines c place within = lines_over lines place [] (new_set begins count c) (λ other. []) within (new_kept c) tt
