-- What the nodes of a set keep, a set keeps, after any lines.
use Rattle.std.proofs.Common.{◌≡◌, ◌≢◌, ◌⊎◌, inl, inr, ℕ, zero, suc, ◌+◌, ◌-◌, ◌^◌, ◌==◌, ◌≤◌, min, Bool, true, false, cond, List, [], ◌∷◌, length, take, drop, Option, Some, None, refl, sym, subst, ◌∙◌, arith}
use Rattle.std.proofs.lemmas.Bool.Decides.{nat_tests}
use Rattle.std.proofs.lemmas.List.{length-set}
use Rattle.set_model.specs.declared.source.Change.{Change}
use Rattle.direct_world.specs.Server.{place_in}
use Rattle.scenario.specs.declared.line.Line.{Line}
use Rattle.scenario.specs.declared.line.Line.TheVariants as line
use Rattle.link_rules.specs.declared.notice.Wish.{Wish}
use Rattle.link_rules.specs.declared.notice.Wish.TheVariants as wish
use Rattle.set_rules.specs.State.{Connection, SetState, Slot}
use Rattle.set_rules.specs.Nodes.{Nodes}
use Rattle.set_rules.specs.Slots.{accepted, currents, fed, fed_all, happens, next_boot, parted, served, started, stopped}
use Rattle.set_rules.specs.Moves.{after_close, asked_by, cleared_by, client_does, closed, dialled, dialled_by, ended, ended_by, gathered_among, halved, in_slot, is_left, learned, learned_by, lost, lost_by, slot_at, wish_taken, wished, wished_by, with_slot}
use Rattle.set_rules.specs.Rounds.{round, rounds, ticked, ticked_among, turn, turns_among}
use Rattle.set_rules.specs.World.{Beginning, after, after_all, at_place, begun, new_set}
use Rattle.set_rules.proofs.Places.{here_or_not, place_within, slot_here, slot_new, slot_other, slots_long}
use Rattle.set_fronts.specs.Lives.{before, over_after, over_at, over_by}

-- the number of a connection, if one stands
abbrev pub number_in : {W : Type 0} → Option (Connection W) → Option ℕ
number_in None = None
number_in (Some c) = Some c.number

abbrev pub next_given : ℕ → ℕ
next_given given = min (given + 1) (2 ^ 32 - 1)

-- what is kept of a life that runs at a place, when so many connections were given to it and the one of this number stands
module _ {S C A : Type 0} (n : Nodes S C (List A)) (begins : Beginning S) (P : ℕ → ℕ → S → Option ℕ → Type 0) where
  pub record AreKept (count : ℕ) : Type 0 where
    pub begun : (place boot : ℕ) (current : List Change) → place + 1 ≤ count → P place 0 (begins (place + 1) boot current) None
    pub accepts : (place given : ℕ) (life : S) → P place given life None → P place (next_given given) (n.accepts (next_given given) life) (Some (next_given given))
    pub ends : (place given number : ℕ) (life : S) → P place given life (Some number) → P place given (n.ends number life) None
    pub hears : (place given number : ℕ) (wires : (List A)) (life : S) → P place given life (Some number) → P place given (n.hears number wires life) (Some number)
    pub feeds : (place given : ℕ) (o : Option ℕ) (change : Change) (life : S) → P place given life o → P place given (n.feeds change life) o
    pub ticks : (place given : ℕ) (o : Option ℕ) (ms : ℕ) (life : S) → P place given life o → P place given (n.ticks ms life) o
    pub levels : (place given : ℕ) (o : Option ℕ) (level : ℕ) (life : S) → P place given life o → P place given (n.levels level life) o
    pub emptied : (place given number : ℕ) (life : S) → P place given life (Some number) → P place given (n.emptied number life) (Some number)

  -- ---- a slot

  abbrev pub LifeKept : ℕ → ℕ → Option S → Option (Connection (List A)) → Type 0
  LifeKept place given None connection = Unit {0}
  LifeKept place given (Some life) connection = P place given life (number_in connection)

  abbrev pub SlotKept : ℕ → Slot S (List A) → Type 0
  SlotKept place s = LifeKept place s.given s.life s.connection

  pub record SetKept (count : ℕ) (w : SetState S C (List A)) : Type 0 where
    pub long : length w.slots ≡ count
    pub each : (place : ℕ) → place + 1 ≤ count → SlotKept place (slot_at place w)

  module _ (count : ℕ) (are : AreKept count) where
    happens_in : (place given boot position : ℕ) (held : Bool) (event : S → S) (life : Option S) (o : Option (Connection (List A)))
        → ((life : S) (o : Option ℕ) → P place given life o → P place given (event life) o)
        → LifeKept place given life o
        → SlotKept place (happens n event (record { boot = boot; life = life; position = position; held = held; given = given; connection = o }))
    happens_in place given boot position held event None o step x = tt
    happens_in place given boot position held event (Some life) None step x = step life None x
    happens_in place given boot position held event (Some life) (Some c) step x = are.emptied place given c.number (event life) (step life (Some c.number) x)

    pub happens_kept : (place : ℕ) (event : S → S) (s : Slot S (List A)) → ((given : ℕ) (life : S) (o : Option ℕ) → P place given life o → P place given (event life) o)
        → SlotKept place s → SlotKept place (happens n event s)
    happens_kept place event s step x = happens_in place s.given s.boot s.position s.held event s.life s.connection (λ life o. step s.given life o) x

    fed_all_kept : (place : ℕ) (changes : List Change) (s : Slot S (List A)) → SlotKept place s → SlotKept place (fed_all n changes s)
    fed_all_kept place [] s x = x
    fed_all_kept place (change ∷ changes) s x =
        fed_all_kept place changes (happens n (n.feeds change) s) (happens_kept place (n.feeds change) s (λ given life o. are.feeds place given o change life) x)

    fed_kept : (place amount : ℕ) (source : List Change) (s : Slot S (List A)) → SlotKept place s → SlotKept place (fed n amount source s)
    fed_kept place amount source s x = fed_all_kept place (take amount (drop s.position source)) s x

    parted_in : (place given boot position : ℕ) (held : Bool) (life : Option S) (o : Option (Connection (List A))) → LifeKept place given life o
        → SlotKept place (parted n (record { boot = boot; life = life; position = position; held = held; given = given; connection = o }))
    parted_in place given boot position held life None x = x
    parted_in place given boot position held None (Some c) x = tt
    parted_in place given boot position held (Some life) (Some c) x = are.ends place given c.number life x

    pub parted_kept : (place : ℕ) (s : Slot S (List A)) → SlotKept place s → SlotKept place (parted n s)
    parted_kept place s x = parted_in place s.given s.boot s.position s.held s.life s.connection x

    served_in : (place given boot position : ℕ) (held : Bool) (life : Option S) (o : Option (Connection (List A))) → LifeKept place given life o
        → SlotKept place (served n (record { boot = boot; life = life; position = position; held = held; given = given; connection = o }))
    served_in place given boot position held life None x = x
    served_in place given boot position held None (Some c) x = tt
    served_in place given boot position held (Some life) (Some c) x =
        are.emptied place given c.number (n.hears c.number c.there life) (are.hears place given c.number c.there life x)

    pub served_kept : (place : ℕ) (s : Slot S (List A)) → SlotKept place s → SlotKept place (served n s)
    served_kept place s x = served_in place s.given s.boot s.position s.held s.life s.connection x

    accepted_in : (place given boot position : ℕ) (held : Bool) (life : Option S) → LifeKept place given life None
        → SlotKept place (accepted n (record { boot = boot; life = life; position = position; held = held; given = given; connection = None }))
    accepted_in place given boot position held None x = tt
    accepted_in place given boot position held (Some life) x =
        are.emptied place (next_given given) (next_given given) (n.accepts (next_given given) life) (are.accepts place given life x)

    redialled_in : (place given boot position : ℕ) (held : Bool) (life : Option S) (o : Option (Connection (List A))) → LifeKept place given life o
        → SlotKept place (accepted n (parted n (record { boot = boot; life = life; position = position; held = held; given = given; connection = o })))
    redialled_in place given boot position held None None x = tt
    redialled_in place given boot position held None (Some c) x = tt
    redialled_in place given boot position held (Some life) None x = accepted_in place given boot position held (Some life) x
    redialled_in place given boot position held (Some life) (Some c) x =
        accepted_in place given boot position held (Some (n.ends c.number life)) (are.ends place given c.number life x)

    pub redialled_kept : (place : ℕ) (s : Slot S (List A)) → SlotKept place s → SlotKept place (accepted n (parted n s))
    redialled_kept place s x = redialled_in place s.given s.boot s.position s.held s.life s.connection x

    -- ---- a set

    slot_by : (place q : ℕ) (s : Slot S (List A)) (w : SetState S C (List A)) → (q ≡ place) ⊎ (q ≢ place) → place + 1 ≤ count → q + 1 ≤ count → SetKept count w → SlotKept place s
        → SlotKept q (slot_at q (with_slot place s w))
    slot_by place q s w (inl same) here within x own =
        subst (λ k. SlotKept k (slot_at k (with_slot place s w))) (sym same)
        (subst (λ y. SlotKept place y) (sym (slot_here w.slots place s (subst (λ k. place + 1 ≤ k) (sym x.long) here))) own)
    slot_by place q s w (inr differ) here within x own =
        subst (λ y. SlotKept q y) (sym (slot_other w.slots place q s differ)) (x.each q within)

    pub slot_changed : (place : ℕ) (s : Slot S (List A)) (w : SetState S C (List A)) → place + 1 ≤ count → SetKept count w → SlotKept place s → SetKept count (with_slot place s w)
    slot_changed place s w here x own = record {
      long = length-set w.slots place s ∙ x.long;
      each = λ q within. slot_by place q s w (here_or_not (q == place) q place refl) here within x own;
    }

    pub in_one : (place : ℕ) (f : Slot S (List A) → Slot S (List A)) (w : SetState S C (List A)) → place + 1 ≤ count → ((s : Slot S (List A)) → SlotKept place s → SlotKept place (f s)) → SetKept count w
        → SetKept count (in_slot place f w)
    in_one place f w here step x = slot_changed place (f (slot_at place w)) w here x (step (slot_at place w) (x.each place here))

    client_changed : (c : C) (w : SetState S C (List A)) → SetKept count w → SetKept count (record w { client = c })
    client_changed c w x = record { long = x.long; each = x.each }

    -- only its connection, of the same number
    same_slot : (place : ℕ) (s : Slot S (List A)) (c d : Connection (List A)) → s.connection ≡ Some c → c.number ≡ d.number → SlotKept place s → SlotKept place (record s { connection = Some d })
    same_slot place s c d is number x =
        same_life s.life (subst (λ o. LifeKept place s.given s.life o) is x)
      where
        same_life : (life : Option S) → LifeKept place s.given life (Some c) → LifeKept place s.given life (Some d)
        same_life None y = tt
        same_life (Some life) y = subst (λ k. P place s.given life (Some k)) number y

    gather_by : (o : Option (Connection (List A))) (place : ℕ) (w : SetState S C (List A)) → (slot_at place w).connection ≡ o → place + 1 ≤ count → SetKept count w
        → SetKept count (record (with_slot place (asked_by n o (n.asked (place + 1) w.client) (slot_at place w)) w) { client = cleared_by n o (place + 1) w.client })
    gather_by None place w is here x = slot_changed place (slot_at place w) w here x (x.each place here)
    gather_by (Some c) place w is here x =
        client_changed (n.cleared (place + 1) w.client)
        (with_slot place (record (slot_at place w) { connection = Some (record c { there = n.joined c.there (n.asked (place + 1) w.client) }) }) w)
        (slot_changed place (record (slot_at place w) { connection = Some (record c { there = n.joined c.there (n.asked (place + 1) w.client) }) }) w here x
        (same_slot place (slot_at place w) c (record c { there = n.joined c.there (n.asked (place + 1) w.client) }) is refl (x.each place here)))

    gathered : (some : ℕ) (w : SetState S C (List A)) → some ≤ count → SetKept count w → SetKept count (gathered_among n some w)
    unfolding gathered_among
    gathered zero w less x = x
    gathered (suc some) w less x =
        let here : some + 1 ≤ count = omega (arith, less) in
        gather_by (slot_at some (gathered_among n some w)).connection some (gathered_among n some w) refl here (gathered some w (omega (arith, less)) x)

    pub does : (event : C → C) (w : SetState S C (List A)) → SetKept count w → SetKept count (client_does n event w)
    does event w x =
        gathered (length w.slots) (record w { client = event w.client }) (subst (λ k. k ≤ count) (sym x.long) (omega arith)) (client_changed (event w.client) w x)

    lost_cases : (o : Option (Connection (List A))) (place : ℕ) (w : SetState S C (List A)) → place + 1 ≤ count → SetKept count w → SetKept count (lost_by n o place w)
    lost_cases None place w here x = x
    lost_cases (Some c) place w here x =
        does (n.loses (place + 1)) (in_slot place (parted n) w) (in_one place (parted n) w here (λ s. parted_kept place s) x)

    pub lost_kept : (place : ℕ) (w : SetState S C (List A)) → place + 1 ≤ count → SetKept count w → SetKept count (lost n place w)
    lost_kept place w here x = lost_cases (slot_at place w).connection place w here x

    serves_one : (place : ℕ) (w : SetState S C (List A)) → place + 1 ≤ count → SetKept count w → SetKept count (in_slot place (served n) w)
    serves_one place w here x = in_one place (served n) w here (λ s. served_kept place s) x

    halved_kept : (place : ℕ) (w : SetState S C (List A)) → place + 1 ≤ count → SetKept count w → SetKept count (halved n place w)
    halved_kept place w here x = lost_kept place (in_slot place (served n) w) here (serves_one place w here x)

    ended_cases : (o : Option (Connection (List A))) (place : ℕ) (w : SetState S C (List A)) → place + 1 ≤ count → SetKept count w → SetKept count (ended_by n o place w)
    ended_cases None place w here x = in_one place stopped w here (λ s y. tt) x
    ended_cases (Some c) place w here x =
        does (n.loses (place + 1)) (in_slot place stopped w) (in_one place stopped w here (λ s y. tt) x)

    ended_kept : (place : ℕ) (w : SetState S C (List A)) → place + 1 ≤ count → SetKept count w → SetKept count (ended n place w)
    ended_kept place w here x = ended_cases (slot_at place w).connection place w here x

    wish_kept : (place : ℕ) (w : SetState S C (List A)) → place + 1 ≤ count → SetKept count w → SetKept count (wish_taken n place w)
    wish_kept place w here x = client_changed (n.wish_taken (place + 1) w.client) w x

    dialled_cases : (life : Option S) (place : ℕ) (w : SetState S C (List A)) → place + 1 ≤ count → SetKept count w
        → SetKept count (dialled_by n life place (wish_taken n place w))
    dialled_cases None place w here x =
        does (n.is_refused (place + 1)) (wish_taken n place w) (wish_kept place w here x)
    dialled_cases (Some life) place w here x =
        does (n.connects (place + 1)) (in_slot place (λ s. accepted n (parted n s)) (wish_taken n place w))
        (in_one place (λ s. accepted n (parted n s)) (wish_taken n place w) here (λ s. redialled_kept place s) (wish_kept place w here x))

    dialled_kept : (place : ℕ) (w : SetState S C (List A)) → place + 1 ≤ count → SetKept count w → SetKept count (dialled n place (wish_taken n place w))
    dialled_kept place w here x = dialled_cases (slot_at place (wish_taken n place w)).life place w here x

    close_cases : (k : Wish) (place : ℕ) (w : SetState S C (List A)) → place + 1 ≤ count → SetKept count w → SetKept count (after_close n k place w)
    close_cases wish.Dial place w here x = dialled_kept place w here x
    close_cases wish.None place w here x = wish_kept place w here x
    close_cases wish.Close place w here x = wish_kept place w here x

    closed_kept : (place : ℕ) (w : SetState S C (List A)) → place + 1 ≤ count → SetKept count w → SetKept count (closed n place w)
    closed_kept place w here x = close_cases (n.wish (place + 1) w.client) place w here x

    wished_cases : (k : Wish) (place : ℕ) (w : SetState S C (List A)) → place + 1 ≤ count → SetKept count w → SetKept count (wished_by n k place w)
    wished_cases wish.None place w here x = wish_kept place w here x
    wished_cases wish.Dial place w here x = dialled_kept place w here x
    wished_cases wish.Close place w here x =
        closed_kept place (in_slot place (parted n) (wish_taken n place w)) here (in_one place (parted n) (wish_taken n place w) here (λ s. parted_kept place s) (wish_kept place w here x))

    wished_kept : (place : ℕ) (w : SetState S C (List A)) → place + 1 ≤ count → SetKept count w → SetKept count (wished n place w)
    wished_kept place w here x = wished_cases (n.wish (place + 1) w.client) place w here x

    learned_cases : (o : Option (Connection (List A))) (place : ℕ) (w : SetState S C (List A)) → (slot_at place w).connection ≡ o → place + 1 ≤ count → SetKept count w → SetKept count (learned_by n o place w)
    learned_cases None place w is here x = x
    learned_cases (Some c) place w is here x =
        does (n.learns (place + 1) c.back) (with_slot place (record (slot_at place w) { connection = Some (record c { back = n.nothing }) }) w)
        (slot_changed place (record (slot_at place w) { connection = Some (record c { back = n.nothing }) }) w here x
        (same_slot place (slot_at place w) c (record c { back = n.nothing }) is refl (x.each place here)))

    learned_kept : (place : ℕ) (w : SetState S C (List A)) → place + 1 ≤ count → SetKept count w → SetKept count (learned n place w)
    learned_kept place w here x = learned_cases (slot_at place w).connection place w refl here x

    -- ---- rounds, and time

    left_cases : (b : Bool) (place : ℕ) (w : SetState S C (List A)) → place + 1 ≤ count → SetKept count w → SetKept count (cond b (lost n place w) w)
    left_cases true place w here x = lost_kept place w here x
    left_cases false place w here x = x

    turn_kept : (place : ℕ) (w : SetState S C (List A)) → place + 1 ≤ count → SetKept count w → SetKept count (turn n place w)
    turn_kept place w here x =
        let heard = learned n place (in_slot place (served n) (wished n place w)) in
        left_cases (is_left n (slot_at place heard)) place heard here
        (learned_kept place (in_slot place (served n) (wished n place w)) here (serves_one place (wished n place w) here (wished_kept place w here x)))

    free_cases : (b : Bool) (place : ℕ) (w : SetState S C (List A)) → place + 1 ≤ count → SetKept count w → SetKept count (cond b w (turn n place w))
    free_cases true place w here x = x
    free_cases false place w here x = turn_kept place w here x

    turns_kept : (some : ℕ) (w : SetState S C (List A)) → some ≤ count → SetKept count w → SetKept count (turns_among n some w)
    unfolding turns_among
    turns_kept zero w less x = x
    turns_kept (suc some) w less x =
        free_cases (slot_at some (turns_among n some w)).held some (turns_among n some w) (omega (arith, less)) (turns_kept some w (omega (arith, less)) x)

    round_kept : (w : SetState S C (List A)) → SetKept count w → SetKept count (round n w)
    round_kept w x = turns_kept (length w.slots) w (subst (λ k. k ≤ count) (sym x.long) (omega arith)) x

    rounds_kept : (amount : ℕ) (w : SetState S C (List A)) → SetKept count w → SetKept count (rounds n amount w)
    unfolding rounds
    rounds_kept zero w x = x
    rounds_kept (suc amount) w x = round_kept (rounds n amount w) (rounds_kept amount w x)

    among_kept : (ms some : ℕ) (w : SetState S C (List A)) → some ≤ count → SetKept count w → SetKept count (ticked_among n ms some w)
    unfolding ticked_among
    among_kept ms zero w less x = x
    among_kept ms (suc some) w less x =
        in_one some (happens n (n.ticks ms)) (ticked_among n ms some w) (omega (arith, less))
        (λ s. happens_kept some (n.ticks ms) s (λ given life o. are.ticks some given o ms life)) (among_kept ms some w (omega (arith, less)) x)

    ticked_kept : (ms : ℕ) (w : SetState S C (List A)) → SetKept count w → SetKept count (ticked n ms w)
    ticked_kept ms w x =
        let y = among_kept ms (length w.slots) w (subst (λ k. k ≤ count) (sym x.long) (omega arith)) x in
        does (n.waits ms) (ticked_among n ms (length w.slots) w) y

    -- ---- lines

    begun_kept : (items place : ℕ) (w : SetState S C (List A)) → place + 1 ≤ count → SetKept count w → SetKept count (begun n begins items place w)
    begun_kept items place w here x =
        in_one place (started (begins (place + 1) (next_boot (slot_at place w)) (currents items w.source)) (length w.source)) w here
        (λ s y. are.begun place (next_boot (slot_at place w)) (currents items w.source) here) x

    at_cases : (o : Option ℕ) (act : ℕ → SetState S C (List A) → SetState S C (List A)) (w : SetState S C (List A)) → ((place : ℕ) → o ≡ Some place → SetKept count (act place w)) → SetKept count w
        → SetKept count (at_place n begins 0 o act w)
    at_cases None act w step x = x
    at_cases (Some place) act w step x = step place refl

    at_kept : (server : ℕ) (act : ℕ → SetState S C (List A) → SetState S C (List A)) (w : SetState S C (List A)) → ((place : ℕ) → place + 1 ≤ count → SetKept count (act place w)) → SetKept count w
        → SetKept count (at_place n begins 0 (place_in server (length w.slots)) act w)
    at_kept server act w step x =
        at_cases (place_in server (length w.slots)) act w
        (λ place found. step place (subst (λ k. place + 1 ≤ k) x.long (place_within server (length w.slots) place found))) x

    line_kept : (items : ℕ) (l : Line) (w : SetState S C (List A)) → SetKept count w → SetKept count (after n begins items l w)
    line_kept items (line.Change change) w x = record { long = x.long; each = x.each }
    line_kept items (line.Feed server amount) w x =
        at_kept server (λ place. in_slot place (fed n amount w.source)) w (λ place here. in_one place (fed n amount w.source) w here (λ s. fed_kept place amount w.source s) x) x
    line_kept items (line.Take server amount) w x = x
    line_kept items (line.Tick ms) w x = ticked_kept ms w x
    line_kept items (line.Pass amount) w x = rounds_kept amount w x
    line_kept items (line.Level server level) w x =
        at_kept server (λ place. in_slot place (happens n (n.levels level))) w
        (λ place here. in_one place (happens n (n.levels level)) w here (λ s. happens_kept place (n.levels level) s (λ given life o. are.levels place given o level life)) x) x
    line_kept items (line.Stop server) w x = at_kept server (ended n) w (λ place here. ended_kept place w here x) x
    line_kept items (line.Start server) w x = at_kept server (begun n begins items) w (λ place here. begun_kept items place w here x) x
    line_kept items (line.Cut server) w x = at_kept server (lost n) w (λ place here. lost_kept place w here x) x
    line_kept items (line.Half server) w x = at_kept server (halved n) w (λ place here. halved_kept place w here x) x
    line_kept items (line.Hold server) w x =
        at_kept server (λ place. in_slot place (λ s. record s { held = true })) w (λ place here. in_one place (λ s. record s { held = true }) w here (λ s y. y) x) x
    line_kept items (line.Free server) w x =
        at_kept server (λ place. in_slot place (λ s. record s { held = false })) w (λ place here. in_one place (λ s. record s { held = false }) w here (λ s y. y) x) x
    line_kept items other w x = x

    pub lines_kept : (items : ℕ) (lines : List Line) (w : SetState S C (List A)) → SetKept count w → SetKept count (after_all n begins items lines w)
    lines_kept items [] w x = x
    lines_kept items (l ∷ lines) w x = lines_kept items lines (after n begins items l w) (line_kept items l w x)

    new_kept : (c : C) → SetKept count (new_set begins count c)
    new_kept c = record {
      long = slots_long (List A) begins count;
      each = λ place here. subst (λ s. SlotKept place s) (sym (slot_new (List A) begins count place here)) (are.begun place 1 [] here);
    }

    -- after any lines, of a set that begins
    pub sets_keep : (items : ℕ) (lines : List Line) (c : C) → SetKept count (after_all n begins items lines (new_set begins count c))
    sets_keep items lines c = lines_kept items lines (new_set begins count c) (new_kept c)

    -- ---- lives that are over too

    module _ (O : ℕ → S → Type 0) (over : (place given : ℕ) (o : Option ℕ) (life : S) → P place given life o → O place life) where
      abbrev pub AllOver : ℕ → List S → Type 0
      AllOver place [] = Unit {0}
      AllOver place (life ∷ earlier) = O place life × AllOver place earlier

      before_by : (place given : ℕ) (life : Option S) (connection : Option (Connection (List A))) (lives : List S) → LifeKept place given life connection → AllOver place lives
          → AllOver place (before life lives)
      before_by place given None connection lives x all = all
      before_by place given (Some life) connection lives x all = (over place given (number_in connection) life x, all)

      pub before_over : (place : ℕ) (s : Slot S (List A)) (lives : List S) → SlotKept place s → AllOver place lives → AllOver place (before s.life lives)
      before_over place s lives x all = before_by place s.given s.life s.connection lives x all

      here_by : (b : Bool) (here place : ℕ) (w : SetState S C (List A)) (lives : ℕ → List S) → (place == here) ≡ b → here + 1 ≤ count → SetKept count w → AllOver place (lives place)
          → AllOver place (cond b (before (slot_at here w).life (lives place)) (lives place))
      here_by false here place w lives is within x all = all
      here_by true here place w lives is within x all =
          let same : place ≡ here = same_place place here is in
          subst (λ k. AllOver place (before (slot_at k w).life (lives place))) same
          (before_over place (slot_at place w) (lives place) (x.each place (subst (λ k. k + 1 ≤ count) (sym same) within)) all)
        where
          same_place : (place here : ℕ) → (place == here) ≡ true → place ≡ here
          same_place place here is = grind (arith, nat_tests)

      at_over : (o : Option ℕ) (place : ℕ) (w : SetState S C (List A)) (lives : ℕ → List S) → ((here : ℕ) → o ≡ Some here → here + 1 ≤ count) → SetKept count w → AllOver place (lives place)
          → AllOver place (over_at o w lives place)
      at_over None place w lives within x all = all
      at_over (Some here) place w lives within x all = here_by (place == here) here place w lives refl (within here refl) x all

      server_over : (server place : ℕ) (w : SetState S C (List A)) (lives : ℕ → List S) → SetKept count w → AllOver place (lives place)
          → AllOver place (over_at (place_in server (length w.slots)) w lives place)
      server_over server place w lives x all =
          at_over (place_in server (length w.slots)) place w lives
          (λ here found. subst (λ k. here + 1 ≤ k) x.long (place_within server (length w.slots) here found)) x all

      line_over : (l : Line) (place : ℕ) (w : SetState S C (List A)) (lives : ℕ → List S) → SetKept count w → AllOver place (lives place) → AllOver place (over_by l w lives place)
      line_over (line.Stop server) place w lives x all = server_over server place w lives x all
      line_over (line.Start server) place w lives x all = server_over server place w lives x all
      line_over other place w lives x all = all

      lines_over : (items : ℕ) (lines : List Line) (place : ℕ) (w : SetState S C (List A)) (lives : ℕ → List S) → place + 1 ≤ count → SetKept count w → AllOver place (lives place)
          → AllOver place (before (slot_at place (after_all n begins items lines w)).life (over_after n begins items lines w lives place))
      lines_over items [] place w lives within x all = before_over place (slot_at place w) (lives place) (x.each place within) all
      lines_over items (l ∷ lines) place w lives within x all =
          lines_over items lines place (after n begins items l w) (over_by l w lives) within (line_kept items l w x) (line_over l place w lives x all)

      -- all lives of a server, after any lines, of a set that begins
      pub lives_keep : (items : ℕ) (lines : List Line) (c : C) (place : ℕ) → place + 1 ≤ count
          → AllOver place (before (slot_at place (after_all n begins items lines (new_set begins count c))).life
          (over_after n begins items lines (new_set begins count c) (λ other. []) place))
      lives_keep items lines c place within = lines_over items lines place (new_set begins count c) (λ other. []) within (new_kept c) tt
