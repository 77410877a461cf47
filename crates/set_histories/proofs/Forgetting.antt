-- Nodes of a set that do what others do, and remember more: so does a set of them.
use Rattle.std.proofs.Common.{◌≡◌, ℕ, zero, suc, ◌+◌, Bool, true, false, cond, List, [], ◌∷◌, ◌++◌, length, map, take, drop, Option, Some, None, refl, sym, ap, ap₂, ◌∙◌}
use Rattle.set_model.specs.declared.source.Change.{Change}
use Rattle.direct_world.specs.Server.{place_in}
use Rattle.scenario.specs.declared.line.Line.{Line}
use Rattle.scenario.specs.declared.line.Line.TheVariants as line
use Rattle.link_rules.specs.declared.notice.Wish.{Wish}
use Rattle.link_rules.specs.declared.notice.Wish.TheVariants as wish
use Rattle.std.specs.Prelude.{slice_index_or, slice_set}
use Rattle.set_rules.specs.State.{Connection, SetState, Slot}
use Rattle.set_rules.specs.Nodes.{Nodes}
use Rattle.set_rules.specs.Slots.{accepted, currents, fed, fed_all, happens, new_slot, next_boot, next_number, parted, parted_by, served, served_by, started, stopped}
use Rattle.set_rules.specs.Moves.{after_close, asked_by, cleared_by, client_does, closed, dialled, dialled_by, ended, ended_by, gathered_among, gathered_at, halved, in_slot, is_left, is_left_by, learned, learned_by, lost, lost_by, no_slot, slot_at, wish_taken, wished, wished_by, with_slot}
use Rattle.set_rules.specs.Rounds.{left, round, rounds, ticked, ticked_among, turn, turn_if_free, turns_among}
use Rattle.set_rules.specs.World.{Beginning, after, after_all, at_place, begun, new_set, new_slots}

length_map : {A B : Type 0} (h : A → B) (xs : List A) → length (map h xs) ≡ length xs
length_map h [] = refl
length_map h (x ∷ xs) = ap suc (length_map h xs)

map_append : {A B : Type 0} (h : A → B) (xs ys : List A) → map h (xs ++ ys) ≡ map h xs ++ map h ys
map_append h [] ys = refl
map_append h (x ∷ xs) ys = ap (λ l. h x ∷ l) (map_append h xs ys)

index_map : {A B : Type 0} (h : A → B) (xs : List A) (i : ℕ) (d : A) → slice_index_or (map h xs) i (h d) ≡ h (slice_index_or xs i d)
index_map h [] i d = refl
index_map h (x ∷ xs) zero d = refl
index_map h (x ∷ xs) (suc i) d = index_map h xs i d

set_map : {A B : Type 0} (h : A → B) (xs : List A) (i : ℕ) (x : A) → slice_set (map h xs) i (h x) ≡ map h (slice_set xs i x)
set_map h [] i y = refl
set_map h (x ∷ xs) zero y = refl
set_map h (x ∷ xs) (suc i) y = ap (λ l. h x ∷ l) (set_map h xs i y)

-- what is forgotten of a life, and of a client
module _ {S C T D W : Type 0} (n : Nodes S C W) (m : Nodes T D W) (f : T → S) (g : D → C) where
  pub record IsForgotten : Type 0 where
    pub nothing : m.nothing ≡ n.nothing
    pub joined : (x y : W) → m.joined x y ≡ n.joined x y
    pub accepts : (k : ℕ) (t : T) → f (m.accepts k t) ≡ n.accepts k (f t)
    pub ends : (k : ℕ) (t : T) → f (m.ends k t) ≡ n.ends k (f t)
    pub hears : (k : ℕ) (wires : W) (t : T) → f (m.hears k wires t) ≡ n.hears k wires (f t)
    pub feeds : (change : Change) (t : T) → f (m.feeds change t) ≡ n.feeds change (f t)
    pub ticks : (ms : ℕ) (t : T) → f (m.ticks ms t) ≡ n.ticks ms (f t)
    pub levels : (level : ℕ) (t : T) → f (m.levels level t) ≡ n.levels level (f t)
    pub answered : (k : ℕ) (t : T) → m.answered k t ≡ n.answered k (f t)
    pub emptied : (k : ℕ) (t : T) → f (m.emptied k t) ≡ n.emptied k (f t)
    pub is_closing : (k : ℕ) (t : T) → m.is_closing k t ≡ n.is_closing k (f t)
    pub connects : (k : ℕ) (d : D) → g (m.connects k d) ≡ n.connects k (g d)
    pub is_refused : (k : ℕ) (d : D) → g (m.is_refused k d) ≡ n.is_refused k (g d)
    pub loses : (k : ℕ) (d : D) → g (m.loses k d) ≡ n.loses k (g d)
    pub learns : (k : ℕ) (wires : W) (d : D) → g (m.learns k wires d) ≡ n.learns k wires (g d)
    pub waits : (ms : ℕ) (d : D) → g (m.waits ms d) ≡ n.waits ms (g d)
    pub asked : (k : ℕ) (d : D) → m.asked k d ≡ n.asked k (g d)
    pub cleared : (k : ℕ) (d : D) → g (m.cleared k d) ≡ n.cleared k (g d)
    pub wish : (k : ℕ) (d : D) → m.wish k d ≡ n.wish k (g d)
    pub wish_taken : (k : ℕ) (d : D) → g (m.wish_taken k d) ≡ n.wish_taken k (g d)

  abbrev pub life_of : Option T → Option S
  life_of None = None
  life_of (Some t) = Some (f t)

  abbrev pub slot_of : Slot T W → Slot S W
  slot_of z = record { boot = z.boot; life = life_of z.life; position = z.position; held = z.held; given = z.given; connection = z.connection }

  abbrev pub set_of : SetState T D W → SetState S C W
  set_of v = record { source = v.source; slots = map slot_of v.slots; client = g v.client }

  module _ (is : IsForgotten) where
    -- ---- a slot

    collect : (life : T) (c : Connection W) (s : Slot S W) → record s { life = Some (f (m.emptied c.number life)); connection = Some (record c { back = m.joined c.back (m.answered c.number life) }) }
        ≡ record s { life = Some (n.emptied c.number (f life)); connection = Some (record c { back = n.joined c.back (n.answered c.number (f life)) }) }
    collect life c s =
        ap₂ (λ (y : S) (back : W). record s { life = Some y; connection = Some (record c { back = back }) }) (is.emptied c.number life)
        (is.joined c.back (m.answered c.number life) ∙ ap (n.joined c.back) (is.answered c.number life))

    happens_in : (F : S → S) (G : T → T) → ((t : T) → f (G t) ≡ F (f t)) → (boot position given : ℕ) (held : Bool) (life : Option T) (o : Option (Connection W))
        → slot_of (happens m G (record { boot = boot; life = life; position = position; held = held; given = given; connection = o }))
        ≡ happens n F (slot_of (record { boot = boot; life = life; position = position; held = held; given = given; connection = o }))
    happens_in F G step boot position given held None o = refl
    happens_in F G step boot position given held (Some life) None =
        ap (λ (y : S). record { boot = boot; life = Some y; position = position; held = held; given = given; connection = None }) (step life)
    happens_in F G step boot position given held (Some life) (Some c) =
        collect (G life) c (record { boot = boot; life = None; position = position; held = held; given = given; connection = None })
        ∙ ap (λ (y : S). record {
          boot = boot;
          life = Some (n.emptied c.number y);
          position = position;
          held = held;
          given = given;
          connection = Some (record c { back = n.joined c.back (n.answered c.number y) });
        }) (step life)

    happens_of : (F : S → S) (G : T → T) → ((t : T) → f (G t) ≡ F (f t)) → (z : Slot T W) → slot_of (happens m G z) ≡ happens n F (slot_of z)
    happens_of F G step z = happens_in F G step z.boot z.position z.given z.held z.life z.connection

    fed_all_of : (changes : List Change) (z : Slot T W) → slot_of (fed_all m changes z) ≡ fed_all n changes (slot_of z)
    fed_all_of [] z = refl
    fed_all_of (change ∷ changes) z =
        fed_all_of changes (happens m (m.feeds change) z) ∙ ap (fed_all n changes) (happens_of (n.feeds change) (m.feeds change) (is.feeds change) z)

    fed_of : (amount : ℕ) (source : List Change) (z : Slot T W) → slot_of (fed m amount source z) ≡ fed n amount source (slot_of z)
    fed_of amount source z =
        let changes = take amount (drop z.position source) in
        ap (λ (y : Slot S W). record y { position = z.position + length changes }) (fed_all_of changes z)

    parted_in : (o : Option (Connection W)) (z : Slot T W) → slot_of (parted_by m o z) ≡ parted_by n o (slot_of z)
    parted_in None z = refl
    parted_in (Some c) z = happens_of (n.ends c.number) (m.ends c.number) (is.ends c.number) (record z { connection = None })

    parted_of : (z : Slot T W) → slot_of (parted m z) ≡ parted n (slot_of z)
    parted_of z = parted_in z.connection z

    emptied_there : (c : Connection W) → ◌≡◌ {A = Connection W} (record c { there = m.nothing }) (record c { there = n.nothing })
    emptied_there c = ap (λ (w : W). record c { there = w }) is.nothing

    served_in : (o : Option (Connection W)) (z : Slot T W) → slot_of (served_by m o z) ≡ served_by n o (slot_of z)
    served_in None z = refl
    served_in (Some c) z =
        happens_of (n.hears c.number c.there) (m.hears c.number c.there) (is.hears c.number c.there) (record z { connection = Some (record c { there = m.nothing }) })
        ∙ ap (λ (d : Connection W). happens n (n.hears c.number c.there) (slot_of (record z { connection = Some d }))) (emptied_there c)

    served_of : (z : Slot T W) → slot_of (served m z) ≡ served n (slot_of z)
    served_of z = served_in z.connection z

    accepted_of : (z : Slot T W) → slot_of (accepted m z) ≡ accepted n (slot_of z)
    accepted_of z =
        let k = next_number n (slot_of z) in
        happens_of (n.accepts k) (m.accepts k) (is.accepts k) (record z { given = k; connection = Some (record { number = k; there = m.nothing; back = m.nothing }) })
        ∙ ap (λ (w : W). happens n (n.accepts k) (slot_of (record z { given = k; connection = Some (record { number = k; there = w; back = w }) }))) is.nothing

    -- ---- a set

    slot_is : (place : ℕ) (v : SetState T D W) → slot_at place (set_of v) ≡ slot_of (slot_at place v)
    slot_is place v = index_map slot_of v.slots place no_slot

    with_of : (place : ℕ) (z : Slot T W) (v : SetState T D W) → set_of (with_slot place z v) ≡ with_slot place (slot_of z) (set_of v)
    with_of place z v = ap (λ (l : List (Slot S W)). record { source = v.source; slots = l; client = g v.client }) (sym (set_map slot_of v.slots place z))

    in_of : (place : ℕ) (F : Slot S W → Slot S W) (G : Slot T W → Slot T W) (v : SetState T D W) → ((z : Slot T W) → slot_of (G z) ≡ F (slot_of z))
        → set_of (in_slot place G v) ≡ in_slot place F (set_of v)
    in_of place F G v step =
        with_of place (G (slot_at place v)) v
        ∙ ap (λ (s : Slot S W). with_slot place s (set_of v)) (step (slot_at place v) ∙ ap F (sym (slot_is place v)))

    gather_by : (o : Option (Connection W)) (place : ℕ) (z : Slot T W) (v : SetState T D W)
        → set_of (record (with_slot place (asked_by m o (m.asked (place + 1) v.client) z) v) { client = cleared_by m o (place + 1) v.client })
        ≡ record (with_slot place (asked_by n o (n.asked (place + 1) (g v.client)) (slot_of z)) (set_of v)) { client = cleared_by n o (place + 1) (g v.client) }
    gather_by None place z v = with_of place z v
    gather_by (Some c) place z v =
        let put = m.asked (place + 1) v.client in
        with_of place (record z { connection = Some (record c { there = m.joined c.there put }) }) (record v { client = m.cleared (place + 1) v.client })
        ∙ ap₂ (λ (there : W) (client : C). record (with_slot place (slot_of (record z { connection = Some (record c { there = there }) })) (set_of v)) { client = client })
        (is.joined c.there put ∙ ap (n.joined c.there) (is.asked (place + 1) v.client)) (is.cleared (place + 1) v.client)

    gathered_is : (place : ℕ) (v : SetState T D W) → set_of (gathered_at m place v) ≡ gathered_at n place (set_of v)
    gathered_is place v =
        gather_by (slot_at place v).connection place (slot_at place v) v
        ∙ ap (λ (s : Slot S W). record (with_slot place (asked_by n s.connection (n.asked (place + 1) (g v.client)) s) (set_of v)) {
          client = cleared_by n s.connection (place + 1) (g v.client);
        }) (sym (slot_is place v))

    gathered_of : (some : ℕ) (v : SetState T D W) → set_of (gathered_among m some v) ≡ gathered_among n some (set_of v)
    unfolding gathered_among
    gathered_of zero v = refl
    gathered_of (suc some) v = gathered_is some (gathered_among m some v) ∙ ap (gathered_at n some) (gathered_of some v)

    does_of : (F : C → C) (G : D → D) (v : SetState T D W) (w : SetState S C W) → ((d : D) → g (G d) ≡ F (g d)) → set_of v ≡ w → set_of (client_does m G v) ≡ client_does n F w
    does_of F G v w step same =
        gathered_of (length v.slots) (record v { client = G v.client })
        ∙ ap (λ (c : C). gathered_among n (length v.slots) (record (set_of v) { client = c })) (step v.client)
        ∙ ap (λ k. gathered_among n k (record (set_of v) { client = F (g v.client) })) (sym (length_map slot_of v.slots))
        ∙ ap (client_does n F) same

    -- ---- connections and lives

    lost_in : (o : Option (Connection W)) (place : ℕ) (v : SetState T D W) → set_of (lost_by m o place v) ≡ lost_by n o place (set_of v)
    lost_in None place v = refl
    lost_in (Some c) place v =
        does_of (n.loses (place + 1)) (m.loses (place + 1)) (in_slot place (parted m) v) (in_slot place (parted n) (set_of v)) (is.loses (place + 1))
        (in_of place (parted n) (parted m) v parted_of)

    lost_of : (place : ℕ) (v : SetState T D W) → set_of (lost m place v) ≡ lost n place (set_of v)
    lost_of place v =
        lost_in (slot_at place v).connection place v ∙ ap (λ (s : Slot S W). lost_by n s.connection place (set_of v)) (sym (slot_is place v))

    serves_of : (place : ℕ) (v : SetState T D W) → set_of (in_slot place (served m) v) ≡ in_slot place (served n) (set_of v)
    serves_of place v = in_of place (served n) (served m) v served_of

    halved_of : (place : ℕ) (v : SetState T D W) → set_of (halved m place v) ≡ halved n place (set_of v)
    halved_of place v = lost_of place (in_slot place (served m) v) ∙ ap (lost n place) (serves_of place v)

    stops_of : (place : ℕ) (v : SetState T D W) → set_of (in_slot place stopped v) ≡ in_slot place stopped (set_of v)
    stops_of place v = in_of place stopped stopped v (λ z. refl)

    ended_in : (o : Option (Connection W)) (place : ℕ) (v : SetState T D W) → set_of (ended_by m o place v) ≡ ended_by n o place (set_of v)
    ended_in None place v = stops_of place v
    ended_in (Some c) place v =
        does_of (n.loses (place + 1)) (m.loses (place + 1)) (in_slot place stopped v) (in_slot place stopped (set_of v)) (is.loses (place + 1)) (stops_of place v)

    ended_of : (place : ℕ) (v : SetState T D W) → set_of (ended m place v) ≡ ended n place (set_of v)
    ended_of place v =
        ended_in (slot_at place v).connection place v ∙ ap (λ (s : Slot S W). ended_by n s.connection place (set_of v)) (sym (slot_is place v))

    dialled_in : (life : Option T) (place : ℕ) (v : SetState T D W) → set_of (dialled_by m life place v) ≡ dialled_by n (life_of life) place (set_of v)
    dialled_in None place v = does_of (n.is_refused (place + 1)) (m.is_refused (place + 1)) v (set_of v) (is.is_refused (place + 1)) refl
    dialled_in (Some life) place v =
        does_of (n.connects (place + 1)) (m.connects (place + 1)) (in_slot place (λ z. accepted m (parted m z)) v) (in_slot place (λ s. accepted n (parted n s)) (set_of v))
        (is.connects (place + 1))
        (in_of place (λ s. accepted n (parted n s)) (λ z. accepted m (parted m z)) v (λ z. accepted_of (parted m z) ∙ ap (accepted n) (parted_of z)))

    dialled_of : (place : ℕ) (v : SetState T D W) → set_of (dialled m place v) ≡ dialled n place (set_of v)
    dialled_of place v =
        dialled_in (slot_at place v).life place v ∙ ap (λ (s : Slot S W). dialled_by n s.life place (set_of v)) (sym (slot_is place v))

    wish_of : (place : ℕ) (v : SetState T D W) → set_of (wish_taken m place v) ≡ wish_taken n place (set_of v)
    wish_of place v = ap (λ (c : C). record (set_of v) { client = c }) (is.wish_taken (place + 1) v.client)

    redials_of : (place : ℕ) (v : SetState T D W) → set_of (dialled m place (wish_taken m place v)) ≡ dialled n place (wish_taken n place (set_of v))
    redials_of place v = dialled_of place (wish_taken m place v) ∙ ap (dialled n place) (wish_of place v)

    close_in : (k : Wish) (place : ℕ) (v : SetState T D W) → set_of (after_close m k place v) ≡ after_close n k place (set_of v)
    close_in wish.Dial place v = redials_of place v
    close_in wish.None place v = wish_of place v
    close_in wish.Close place v = wish_of place v

    closed_of : (place : ℕ) (v : SetState T D W) → set_of (closed m place v) ≡ closed n place (set_of v)
    closed_of place v = close_in (m.wish (place + 1) v.client) place v ∙ ap (λ k. after_close n k place (set_of v)) (is.wish (place + 1) v.client)

    wished_in : (k : Wish) (place : ℕ) (v : SetState T D W) → set_of (wished_by m k place v) ≡ wished_by n k place (set_of v)
    wished_in wish.None place v = wish_of place v
    wished_in wish.Dial place v = redials_of place v
    wished_in wish.Close place v =
        closed_of place (in_slot place (parted m) (wish_taken m place v))
        ∙ ap (closed n place) (in_of place (parted n) (parted m) (wish_taken m place v) parted_of ∙ ap (in_slot place (parted n)) (wish_of place v))

    wished_of : (place : ℕ) (v : SetState T D W) → set_of (wished m place v) ≡ wished n place (set_of v)
    wished_of place v = wished_in (m.wish (place + 1) v.client) place v ∙ ap (λ k. wished_by n k place (set_of v)) (is.wish (place + 1) v.client)

    learned_in : (o : Option (Connection W)) (place : ℕ) (z : Slot T W) (v : SetState T D W) → slot_at place v ≡ z
        → set_of (learned_by m o place v) ≡ learned_by n o place (set_of v)
    learned_in None place z v at = refl
    learned_in (Some c) place z v at =
        does_of (n.learns (place + 1) c.back) (m.learns (place + 1) c.back) (with_slot place (record (slot_at place v) { connection = Some (record c { back = m.nothing }) }) v)
        (with_slot place (record (slot_at place (set_of v)) { connection = Some (record c { back = n.nothing }) }) (set_of v)) (is.learns (place + 1) c.back)
        (with_of place (record (slot_at place v) { connection = Some (record c { back = m.nothing }) }) v
        ∙ ap₂ (λ (s : Slot S W) (w : W). with_slot place (record s { connection = Some (record c { back = w }) }) (set_of v)) (sym (slot_is place v)) is.nothing)

    learned_of : (place : ℕ) (v : SetState T D W) → set_of (learned m place v) ≡ learned n place (set_of v)
    learned_of place v =
        learned_in (slot_at place v).connection place (slot_at place v) v refl ∙ ap (λ (s : Slot S W). learned_by n s.connection place (set_of v)) (sym (slot_is place v))

    -- ---- rounds, and time

    left_in : (life : Option T) (o : Option (Connection W)) → is_left_by m life o ≡ is_left_by n (life_of life) o
    left_in None o = refl
    left_in (Some life) None = refl
    left_in (Some life) (Some c) = is.is_closing c.number life

    set_if : (b : Bool) (x y : SetState T D W) → set_of (cond b x y) ≡ cond b (set_of x) (set_of y)
    set_if true x y = refl
    set_if false x y = refl

    left_of : (place : ℕ) (v : SetState T D W) → set_of (left m place v) ≡ left n place (set_of v)
    left_of place v =
        set_if (is_left m (slot_at place v)) (lost m place v) v
        ∙ ap₂ (λ (b : Bool) (w : SetState S C W). cond b w (set_of v))
        (left_in (slot_at place v).life (slot_at place v).connection ∙ ap (λ (s : Slot S W). is_left n s) (sym (slot_is place v))) (lost_of place v)

    turn_of : (place : ℕ) (v : SetState T D W) → set_of (turn m place v) ≡ turn n place (set_of v)
    turn_of place v =
        left_of place (learned m place (in_slot place (served m) (wished m place v)))
        ∙ ap (left n place) (learned_of place (in_slot place (served m) (wished m place v))
        ∙ ap (learned n place) (serves_of place (wished m place v) ∙ ap (in_slot place (served n)) (wished_of place v)))

    free_of : (place : ℕ) (v : SetState T D W) → set_of (turn_if_free m place v) ≡ turn_if_free n place (set_of v)
    free_of place v =
        set_if (slot_at place v).held v (turn m place v)
        ∙ ap₂ (λ (b : Bool) (w : SetState S C W). cond b (set_of v) w) (ap (λ (s : Slot S W). s.held) (sym (slot_is place v))) (turn_of place v)

    turns_of : (some : ℕ) (v : SetState T D W) → set_of (turns_among m some v) ≡ turns_among n some (set_of v)
    unfolding turns_among
    turns_of zero v = refl
    turns_of (suc some) v = free_of some (turns_among m some v) ∙ ap (turn_if_free n some) (turns_of some v)

    round_of : (v : SetState T D W) → set_of (round m v) ≡ round n (set_of v)
    round_of v = turns_of (length v.slots) v ∙ ap (λ k. turns_among n k (set_of v)) (sym (length_map slot_of v.slots))

    rounds_of : (amount : ℕ) (v : SetState T D W) → set_of (rounds m amount v) ≡ rounds n amount (set_of v)
    unfolding rounds
    rounds_of zero v = refl
    rounds_of (suc amount) v = round_of (rounds m amount v) ∙ ap (round n) (rounds_of amount v)

    among_of : (ms some : ℕ) (v : SetState T D W) → set_of (ticked_among m ms some v) ≡ ticked_among n ms some (set_of v)
    unfolding ticked_among
    among_of ms zero v = refl
    among_of ms (suc some) v =
        in_of some (happens n (n.ticks ms)) (happens m (m.ticks ms)) (ticked_among m ms some v) (happens_of (n.ticks ms) (m.ticks ms) (is.ticks ms))
        ∙ ap (in_slot some (happens n (n.ticks ms))) (among_of ms some v)

    ticked_of : (ms : ℕ) (v : SetState T D W) → set_of (ticked m ms v) ≡ ticked n ms (set_of v)
    ticked_of ms v =
        does_of (n.waits ms) (m.waits ms) (ticked_among m ms (length v.slots) v) (ticked_among n ms (length (set_of v).slots) (set_of v)) (is.waits ms)
        (among_of ms (length v.slots) v ∙ ap (λ k. ticked_among n ms k (set_of v)) (sym (length_map slot_of v.slots)))

    -- ---- lines

    module _ (begins : Beginning S) (starts : Beginning T) (same : (number boot : ℕ) (current : List Change) → f (starts number boot current) ≡ begins number boot current) (items : ℕ) where
      begun_of : (place : ℕ) (v : SetState T D W) → set_of (begun m starts items place v) ≡ begun n begins items place (set_of v)
      begun_of place v =
          let source = v.source in
          with_of place (started (starts (place + 1) (next_boot (slot_at place v)) (currents items source)) (length source) (slot_at place v)) v
          ∙ ap (λ (y : S). with_slot place (started y (length source) (slot_of (slot_at place v))) (set_of v)) (same (place + 1) (next_boot (slot_at place v)) (currents items source))
          ∙ ap (λ (s : Slot S W). with_slot place (started (begins (place + 1) (next_boot s) (currents items source)) (length source) s) (set_of v)) (sym (slot_is place v))

      at_in : (o : Option ℕ) (F : ℕ → SetState S C W → SetState S C W) (G : ℕ → SetState T D W → SetState T D W) (v : SetState T D W)
          → ((place : ℕ) → set_of (G place v) ≡ F place (set_of v)) → set_of (at_place m starts items o G v) ≡ at_place n begins items o F (set_of v)
      at_in None F G v step = refl
      at_in (Some place) F G v step = step place

      at_of : (server : ℕ) (F : ℕ → SetState S C W → SetState S C W) (G : ℕ → SetState T D W → SetState T D W) (v : SetState T D W)
          → ((place : ℕ) → set_of (G place v) ≡ F place (set_of v))
          → set_of (at_place m starts items (place_in server (length v.slots)) G v) ≡ at_place n begins items (place_in server (length (set_of v).slots)) F (set_of v)
      at_of server F G v step =
          at_in (place_in server (length v.slots)) F G v step ∙ ap (λ k. at_place n begins items (place_in server k) F (set_of v)) (sym (length_map slot_of v.slots))

      line_of : (l : Line) (v : SetState T D W) → set_of (after m starts items l v) ≡ after n begins items l (set_of v)
      line_of (line.Change change) v = refl
      line_of (line.Feed server amount) v =
          at_of server (λ place. in_slot place (fed n amount v.source)) (λ place. in_slot place (fed m amount v.source)) v
          (λ place. in_of place (fed n amount v.source) (fed m amount v.source) v (fed_of amount v.source))
      line_of (line.Take server amount) v = refl
      line_of (line.Tick ms) v = ticked_of ms v
      line_of (line.Pass amount) v = rounds_of amount v
      line_of (line.Level server level) v =
          at_of server (λ place. in_slot place (happens n (n.levels level))) (λ place. in_slot place (happens m (m.levels level))) v
          (λ place. in_of place (happens n (n.levels level)) (happens m (m.levels level)) v (happens_of (n.levels level) (m.levels level) (is.levels level)))
      line_of (line.Stop server) v = at_of server (ended n) (ended m) v (λ place. ended_of place v)
      line_of (line.Start server) v = at_of server (begun n begins items) (begun m starts items) v (λ place. begun_of place v)
      line_of (line.Cut server) v = at_of server (lost n) (lost m) v (λ place. lost_of place v)
      line_of (line.Half server) v = at_of server (halved n) (halved m) v (λ place. halved_of place v)
      line_of (line.Hold server) v =
          at_of server (λ place. in_slot place (λ s. record s { held = true })) (λ place. in_slot place (λ s. record s { held = true })) v
          (λ place. in_of place (λ s. record s { held = true }) (λ s. record s { held = true }) v (λ z. refl))
      line_of (line.Free server) v =
          at_of server (λ place. in_slot place (λ s. record s { held = false })) (λ place. in_slot place (λ s. record s { held = false })) v
          (λ place. in_of place (λ s. record s { held = false }) (λ s. record s { held = false }) v (λ z. refl))
      line_of other v = refl

      lines_of : (lines : List Line) (v : SetState T D W) → set_of (after_all m starts items lines v) ≡ after_all n begins items lines (set_of v)
      lines_of [] v = refl
      lines_of (l ∷ lines) v = lines_of lines (after m starts items l v) ∙ ap (after_all n begins items lines) (line_of l v)

      new_of : (servers : ℕ) → map slot_of (new_slots starts servers) ≡ new_slots begins servers
      unfolding new_slots
      new_of zero = refl
      new_of (suc count) =
          map_append slot_of (new_slots starts count) (new_slot (starts (count + 1) 1 []) ∷ [])
          ∙ ap₂ (λ (l : List (Slot S W)) (y : S). l ++ new_slot y ∷ []) (new_of count) (same (count + 1) 1 [])

      -- after any lines, of a set that begins
      pub forgotten : (lines : List Line) (servers : ℕ) (d : D)
          → set_of (after_all m starts items lines (new_set starts servers d)) ≡ after_all n begins items lines (new_set begins servers (g d))
      forgotten lines servers d =
          lines_of lines (new_set starts servers d)
          ∙ ap (λ (l : List (Slot S W)). after_all n begins items lines (record { source = []; slots = l; client = g d })) (new_of servers)
