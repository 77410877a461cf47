-- What the dials at the end of an event leave: nobody who may dial.
use Rattle.std.proofs.Common.{◌≡◌, ◌≢◌, ◌⊎◌, inl, inr, ℕ, zero, suc, ◌+◌, ◌-◌, ◌^◌, ◌≤◌, ◌&&◌, Bool, true, false, cond, nat_le, nat_lt, List, [], ◌∷◌, length, Option, Some, None, slice_index_or, slice_set, refl, sym, ap, subst, ◌∙◌, arith}
use Rattle.std.proofs.lemmas.Bool.Decides.{nat_tests}
use Rattle.std.proofs.lemmas.Grind.{get_or-set_at}
use Rattle.std.proofs.lemmas.List.{length-set, get_or-set_other}
use Rattle.ua_base.specs.declared.modes.SetMode.{SetMode}
use Rattle.ua_base.specs.declared.modes.SetMode.TheVariants.{Direct, Hot, Warm, Cold}
use Rattle.ua_channel.specs.declared.ear.Ear.TheVariants as ear
use Rattle.ua_channel.specs.State.{is_deaf}
use Rattle.link_rules.specs.declared.phase.Phase.{Phase}
use Rattle.link_rules.specs.declared.phase.Phase.TheVariants as phase
use Rattle.link_rules.specs.State.{LinkState, is_idle, new_link, with_phase}
use Rattle.link_rules.specs.Opening.{dials, may_dial}
use Rattle.link_rules.specs.Step as link
use Rattle.client_rules.specs.State.{ClientState, is_server, link_config, link_of, with_link}
use Rattle.client_rules.specs.Dialling.{are_idle, dialled, dialled_by, dials_among, dials_at, dials_if, dials_one, first_to_dial, has_numbers}
use Rattle.client_rules.specs.Step.{ears}
use Rattle.ua_client.proofs.Hushing.{IsDeaf}
use Rattle.client_cuts.proofs.Ends.{same_or_not}
use Rattle.client_cuts.proofs.Following.{Follows, hearing_stands, hearing_still, is_from, is_to}

-- ---- a link

dials_by : (b : Bool) (l : LinkState) → may_dial l ≡ b → may_dial (cond b (with_phase (phase.Dialing false) l) l) ≡ false
dials_by true l e = refl
dials_by false l e = e

pub dials_still : (l : LinkState) → may_dial (dials l) ≡ false
dials_still l = dials_by (may_dial l) l refl

calling_deaf : (b : Bool) (p : Phase) → is_deaf (cond b ear.Deaf ear.Acknowledge) ≡ true → is_deaf (cond b ear.Deaf (link.ear_in p)) ≡ true
calling_deaf true p e = refl
calling_deaf false p e = absurd cc

deaf_by : (b : Bool) (l : LinkState) → IsDeaf (cond b (with_phase (phase.Dialing false) l) l) → IsDeaf l
deaf_by true l deaf = calling_deaf l.closes l.phase deaf
deaf_by false l deaf = deaf

dials_deaf : (l : LinkState) → IsDeaf (dials l) → IsDeaf l
dials_deaf l deaf = deaf_by (may_dial l) l deaf

dials_stands : (l : LinkState) → may_dial l ≡ true → is_idle (dials l) ≡ false
dials_stands l e = ap (λ b. is_idle (cond b (with_phase (phase.Dialing false) l) l)) e

pub no_both : {A : Type 0} (b : Bool) → b ≡ true → b ≡ false → A
no_both b is not_is = let bad : true ≡ false = sym is ∙ not_is in absurd cc

-- ---- one server

-- the link at a place of the list
abbrev pub placed : ℕ → ClientState → LinkState
placed place c = slice_index_or c.links place (new_link (link_config c.config))

-- a link that may not dial stays as it is, and none becomes deaf
pub record Dialled (c d : ClientState) : Type 0 where
  pub config : d.config ≡ c.config
  pub count : length d.links ≡ length c.links
  pub dials : d.dials ≡ c.dials
  pub deaf : (i : ℕ) → 1 ≤ i → i ≤ length c.links → IsDeaf (link_of i d) → IsDeaf (link_of i c)
  pub still : (i : ℕ) → 1 ≤ i → i ≤ length c.links → may_dial (link_of i c) ≡ false → link_of i d ≡ link_of i c

dialled_same : (c : ClientState) → Dialled c c
dialled_same c = record { config = refl; count = refl; dials = refl; deaf = λ i from to deaf. deaf; still = λ i from to e. refl }

dialled_then : (c d e : ClientState) → Dialled c d → Dialled d e → Dialled c e
dialled_then c d e one other = record {
  config = other.config ∙ one.config;
  count = other.count ∙ one.count;
  dials = other.dials ∙ one.dials;
  deaf = λ i from to deaf. one.deaf i from to (other.deaf i from (subst (λ n. i ≤ n) (sym one.count) to) deaf);
  still = λ i from to is.
      other.still i from (subst (λ n. i ≤ n) (sym one.count) to) (ap may_dial (one.still i from to is) ∙ is)
      ∙ one.still i from to is;
}

pub set_here : (place : ℕ) (l : LinkState) (c : ClientState) → place + 1 ≤ length c.links
    → slice_index_or (slice_set c.links place l) place (new_link (link_config c.config)) ≡ l
set_here place l c within =
    get_or-set_at c.links place place l (new_link (link_config c.config)) refl (omega (arith, within))

place_within : (i count : ℕ) → 1 ≤ i → i ≤ count → (i - 1) + 1 ≤ count
place_within i count from to = omega (arith, from, to)

set_deaf : (i place : ℕ) (c : ClientState) → 1 ≤ i → i ≤ length c.links → (i - 1 ≡ place) ⊎ (i - 1 ≢ place)
    → IsDeaf (slice_index_or (slice_set c.links place (dials (placed place c))) (i - 1) (new_link (link_config c.config)))
    → IsDeaf (placed (i - 1) c)
set_deaf i place c from to (inl is) deaf =
    let P : ℕ → Type 0 = λ n. IsDeaf (slice_index_or (slice_set c.links n (dials (placed n c))) (i - 1) (new_link (link_config c.config))) in
    let own : P (i - 1) = subst P (sym is) deaf in
    dials_deaf (placed (i - 1) c)
    (ap (λ (l : LinkState). is_deaf (link.ear_of l)) (sym (set_here (i - 1) (dials (placed (i - 1) c)) c (place_within i (length c.links) from to))) ∙ own)
set_deaf i place c from to (inr differs) deaf =
    ap (λ (l : LinkState). is_deaf (link.ear_of l))
    (sym (get_or-set_other c.links place (i - 1) (dials (placed place c)) (new_link (link_config c.config)) differs))
    ∙ deaf

set_still : (i place : ℕ) (c : ClientState) → may_dial (placed place c) ≡ true → may_dial (placed (i - 1) c) ≡ false
    → (i - 1 ≡ place) ⊎ (i - 1 ≢ place)
    → slice_index_or (slice_set c.links place (dials (placed place c))) (i - 1) (new_link (link_config c.config)) ≡ placed (i - 1) c
set_still i place c may not_may (inl is) = no_both (may_dial (placed place c)) may (ap (λ n. may_dial (placed n c)) (sym is) ∙ not_may)
set_still i place c may not_may (inr differs) =
    get_or-set_other c.links place (i - 1) (dials (placed place c)) (new_link (link_config c.config)) differs

at_by : (b : Bool) (j : ℕ) (c : ClientState) → may_dial (link_of j c) ≡ b → Dialled c (cond b (with_link j (dials (link_of j c)) c) c)
at_by true j c e = record {
  config = refl;
  count = length-set c.links (j - 1) (dials (link_of j c));
  dials = refl;
  deaf = λ i from to deaf. set_deaf i (j - 1) c from to (same_or_not (i - 1) (j - 1) _ refl) deaf;
  still = λ i from to is. set_still i (j - 1) c e is (same_or_not (i - 1) (j - 1) _ refl);
}
at_by false j c e = dialled_same c

at_dialled : (j : ℕ) (c : ClientState) → Dialled c (dials_at j c)
at_dialled j c = at_by (may_dial (link_of j c)) j c refl

-- ---- all of them

among_dialled : (count : ℕ) (c : ClientState) → Dialled c (dials_among count c)
unfolding dials_among
among_dialled zero c = dialled_same c
among_dialled (suc count) c =
    dialled_then c (dials_among count c) (dials_at (count + 1) (dials_among count c)) (among_dialled count c)
    (at_dialled (count + 1) (dials_among count c))

-- none of the first so many may dial
abbrev pub Rests : ℕ → ClientState → Type 0
Rests count c = (i : ℕ) → 1 ≤ i → i ≤ count → may_dial (link_of i c) ≡ false

at_rests : (b : Bool) (count : ℕ) (d : ClientState) → may_dial (link_of (count + 1) d) ≡ b → count + 1 ≤ length d.links → Rests count d
    → (i : ℕ) → 1 ≤ i → (i ≡ count + 1) ⊎ (i ≤ count)
    → may_dial (link_of i (cond b (with_link (count + 1) (dials (link_of (count + 1) d)) d) d)) ≡ false
at_rests true count d e within rests i from (inl is) =
    subst (λ n. may_dial (link_of n (with_link (count + 1) (dials (link_of (count + 1) d)) d)) ≡ false) (sym is)
    (ap may_dial (get_or-set_at d.links (count + 1 - 1) (count + 1 - 1) (dials (link_of (count + 1) d)) (new_link (link_config d.config)) refl (omega (arith, within)))
    ∙ dials_still (link_of (count + 1) d))
at_rests true count d e within rests i from (inr to) =
    ap may_dial (get_or-set_other d.links (count + 1 - 1) (i - 1) (dials (link_of (count + 1) d)) (new_link (link_config d.config)) (λ same. omega (arith, from, to, same)))
    ∙ rests i from to
at_rests false count d e within rests i from (inl is) = ap (λ n. may_dial (link_of n d)) is ∙ e
at_rests false count d e within rests i from (inr to) = rests i from to

last_or_before : (i count : ℕ) → i ≤ suc count → (t : Bool) → nat_le i count ≡ t → (i ≡ count + 1) ⊎ (i ≤ count)
last_or_before i count to true e = inr (grind (arith, nat_tests))
last_or_before i count to false e =
    let above : nat_le i count ≡ false → (i ≡ count + 1) = λ x. grind (arith, nat_tests) in inl (above e)

among_rests : (count : ℕ) (c : ClientState) → count ≤ length c.links → Rests count (dials_among count c)
unfolding dials_among
among_rests zero c within i from to = absurd (omega (arith, from, to))
among_rests (suc count) c within i from to =
    let d : ClientState = dials_among count c in
    let less : count ≤ length c.links = omega (arith, within) in
    let whole : count + 1 ≤ length c.links = omega (arith, within) in
    at_rests (may_dial (link_of (count + 1) d)) count d refl (subst (λ n. count + 1 ≤ n) (sym (among_dialled count c).count) whole)
    (among_rests count c less) i from (last_or_before i count to _ refl)

pub among_none : (count : ℕ) (c : ClientState) → Rests count c → dials_among count c ≡ c
unfolding dials_among
among_none zero c rests = refl
among_none (suc count) c rests =
    ap (dials_at (count + 1)) (among_none count c (λ i from to. rests i from (omega (arith, to))))
    ∙ ap (λ b. cond b (with_link (count + 1) (dials (link_of (count + 1) c)) c) c) (rests (count + 1) (omega arith) (omega arith))

pub all_rest : (c : ClientState) → Rests (length c.links) (dials_among (length c.links) c)
all_rest c = among_rests (length c.links) c (omega arith)

all_twice : (c : ClientState)
    → dials_among (length (dials_among (length c.links) c).links) (dials_among (length c.links) c) ≡ dials_among (length c.links) c
all_twice c =
    among_none (length (dials_among (length c.links) c).links) (dials_among (length c.links) c)
    (λ i from to. all_rest c i from (subst (λ n. i ≤ n) (among_dialled (length c.links) c).count to))

-- ---- one of them

and_false : (b d : Bool) → d ≡ false → (b && d) ≡ false
and_false true d e = e
and_false false d e = refl

idle_by : (count i : ℕ) (c : ClientState) → is_idle (link_of i c) ≡ false → (i ≤ count → are_idle count c ≡ false)
    → (i ≡ count + 1) ⊎ (i ≤ count) → (are_idle count c && is_idle (link_of (count + 1) c)) ≡ false
idle_by count i c e more (inl is) =
    and_false (are_idle count c) (is_idle (link_of (count + 1) c)) (ap (λ n. is_idle (link_of n c)) (sym is) ∙ e)
idle_by count i c e more (inr to) = ap (λ b. b && is_idle (link_of (count + 1) c)) (more to)

idle_some : (count i : ℕ) (c : ClientState) → 1 ≤ i → i ≤ count → is_idle (link_of i c) ≡ false → are_idle count c ≡ false
unfolding are_idle
idle_some zero i c from to e = absurd (omega (arith, from, to))
idle_some (suc count) i c from to e =
    idle_by count i c e (λ less. idle_some count i c from less e) (last_or_before i count to _ refl)

pub one_stands : (c : ClientState) → are_idle (length c.links) c ≡ false → dials_one c ≡ c
one_stands c e = ap (λ b. cond b (dials_if (first_to_dial (length c.links) c.cursor c) c) c) e

pub set_past : (xs : List LinkState) (i : ℕ) (a : LinkState) → length xs ≤ i → slice_set xs i a ≡ xs
set_past [] i a past = refl
set_past (x ∷ xs) zero a past = absurd (omega (arith, past))
set_past (x ∷ xs) (suc i) a past = ap (λ (ys : List LinkState). x ∷ ys) (set_past xs i a (omega (arith, past)))

unmoved : (c d : ClientState) → d ≡ c → dials_one c ≡ d → dials_one d ≡ d
unmoved c d same is = ap dials_one same ∙ is

-- the link that dialled stands now, where there is one
set_stands : (t : Bool) (place : ℕ) (c : ClientState) → nat_lt place (length c.links) ≡ t → may_dial (placed place c) ≡ true
    → dials_one c ≡ record c { links = slice_set c.links place (dials (placed place c)) }
    → dials_one (record c { links = slice_set c.links place (dials (placed place c)) })
    ≡ record c { links = slice_set c.links place (dials (placed place c)) }
set_stands true place c t may is =
    let d : ClientState = record c { links = slice_set c.links place (dials (placed place c)) } in
    let within : place + 1 ≤ length c.links = below place (length c.links) t in
    let count : length d.links ≡ length c.links = length-set c.links place (dials (placed place c)) in
    let to : place + 1 ≤ length d.links = subst (λ n. place + 1 ≤ n) (sym count) within in
    one_stands d (idle_some (length d.links) (place + 1) d (omega arith) to
    (ap is_idle (at_place place d) ∙ ap is_idle (set_here place (dials (placed place c)) c within) ∙ dials_stands (placed place c) may))
  where
    below : (a b : ℕ) → nat_lt a b ≡ true → a + 1 ≤ b
    below a b e = grind (arith, nat_tests)

    at_place : (n : ℕ) (d : ClientState) → link_of (n + 1) d ≡ placed n d
    at_place n d = ap (λ k. placed k d) (let e : n + 1 - 1 ≡ n = omega arith in e)
set_stands false place c t may is =
    unmoved c (record c { links = slice_set c.links place (dials (placed place c)) })
    (ap (λ (ls : List LinkState). record c { links = ls }) (set_past c.links place (dials (placed place c)) (beyond place (length c.links) t))) is
  where
    beyond : (a b : ℕ) → nat_lt a b ≡ false → b ≤ a
    beyond a b e = grind (arith, nat_tests)

at_twice : (b : Bool) (j : ℕ) (c : ClientState) → may_dial (link_of j c) ≡ b
    → dials_one c ≡ cond b (with_link j (dials (link_of j c)) c) c
    → dials_one (cond b (with_link j (dials (link_of j c)) c) c) ≡ cond b (with_link j (dials (link_of j c)) c) c
at_twice true j c e is = set_stands (nat_lt (j - 1) (length c.links)) (j - 1) c refl e is
at_twice false j c e is = is

if_twice : (o : Option ℕ) (c : ClientState) → dials_one c ≡ dials_if o c → dials_one (dials_if o c) ≡ dials_if o c
if_twice None c is = is
if_twice (Some j) c is = at_twice (may_dial (link_of j c)) j c refl is

one_by : (b : Bool) (c : ClientState) → are_idle (length c.links) c ≡ b
    → dials_one (cond b (dials_if (first_to_dial (length c.links) c.cursor c) c) c) ≡ cond b (dials_if (first_to_dial (length c.links) c.cursor c) c) c
one_by true c e =
    if_twice (first_to_dial (length c.links) c.cursor c) c
    (ap (λ b. cond b (dials_if (first_to_dial (length c.links) c.cursor c) c) c) e)
one_by false c e = one_stands c e

one_twice : (c : ClientState) → dials_one (dials_one c) ≡ dials_one c
one_twice c = one_by (are_idle (length c.links) c) c refl

if_dialled : (o : Option ℕ) (c : ClientState) → Dialled c (dials_if o c)
if_dialled None c = dialled_same c
if_dialled (Some j) c = at_dialled j c

one_dialled_by : (b : Bool) (c : ClientState) → Dialled c (cond b (dials_if (first_to_dial (length c.links) c.cursor c) c) c)
one_dialled_by true c = if_dialled (first_to_dial (length c.links) c.cursor c) c
one_dialled_by false c = dialled_same c

-- ---- in any mode

mode_dialled : (mode : SetMode) (c : ClientState) → Dialled c (dialled_by mode c)
mode_dialled Hot c = among_dialled (length c.links) c
mode_dialled Warm c = among_dialled (length c.links) c
mode_dialled Cold c = one_dialled_by (are_idle (length c.links) c) c
mode_dialled Direct c = dialled_same c

numbers_dialled : (b : Bool) (c d : ClientState) → Dialled c d → Dialled c (cond b d c)
numbers_dialled true c d goes = goes
numbers_dialled false c d goes = dialled_same c

pub are_dialled : (c : ClientState) → Dialled c (dialled c)
unfolding dialled
are_dialled c = numbers_dialled (has_numbers c) c (dialled_by c.config.mode c) (mode_dialled c.config.mode c)

mode_twice : (mode : SetMode) (c : ClientState) → dialled_by mode (dialled_by mode c) ≡ dialled_by mode c
mode_twice Hot c = all_twice c
mode_twice Warm c = all_twice c
mode_twice Cold c = one_twice c
mode_twice Direct c = refl

by_mode_twice : (c : ClientState) → dialled_by (dialled_by c.config.mode c).config.mode (dialled_by c.config.mode c) ≡ dialled_by c.config.mode c
by_mode_twice c =
    ap (λ mode. dialled_by mode (dialled_by c.config.mode c)) (ap (λ config. config.mode) (mode_dialled c.config.mode c).config)
    ∙ mode_twice c.config.mode c

-- a client dials as far as its numbers go
abbrev pub numbered : Bool → ClientState → ClientState
numbered b c = cond b (dialled_by c.config.mode c) c

twice_by : (b : Bool) (c : ClientState) → has_numbers c ≡ b → numbered (has_numbers (numbered b c)) (numbered b c) ≡ numbered b c
twice_by true c e =
    ap (λ b. numbered b (dialled_by c.config.mode c))
    (ap (λ n. nat_lt n (2 ^ 32 - 1)) (mode_dialled c.config.mode c).dials ∙ e)
    ∙ by_mode_twice c
twice_by false c e = ap (λ b. numbered b c) e

-- who has dialled has no more to dial
pub dialled_twice : (c : ClientState) → dialled (dialled c) ≡ dialled c
unfolding dialled
dialled_twice c = twice_by (has_numbers c) c refl

-- ---- where something is heard of a server

ear_by : (b : Bool) (i : ℕ) (c : ClientState) → is_server i c ≡ b → is_deaf (ears i c) ≡ false
    → (is_server i c ≡ true) × (is_deaf (link.ear_of (link_of i c)) ≡ false)
ear_by true i c known e = (known, sym (ap (λ b. is_deaf (cond b (link.ear_of (link_of i c)) ear.Deaf)) known) ∙ e)
ear_by false i c known e =
    let bad : true ≡ false = sym (ap (λ b. is_deaf (cond b (link.ear_of (link_of i c)) ear.Deaf)) known) ∙ e in absurd cc

pub ear_open : (i : ℕ) (c : ClientState) → is_deaf (ears i c) ≡ false
    → (is_server i c ≡ true) × (is_deaf (link.ear_of (link_of i c)) ≡ false)
ear_open i c e = ear_by (is_server i c) i c refl e

rests_follow : (c d : ClientState) → Follows c d → Rests (length c.links) c → Rests (length d.links) d
rests_follow c d follows rests i from to =
    let within : i ≤ length c.links = subst (λ n. i ≤ n) follows.count to in
    (follows.each i from within).still (rests i from within)

all_still : (c d : ClientState) → Follows c d → dials_among (length c.links) c ≡ c → dials_among (length d.links) d ≡ d
all_still c d follows at_rest =
    among_none (length d.links) d
    (rests_follow c d follows (subst (λ (x : ClientState). Rests (length c.links) x) at_rest (all_rest c)))

mode_still : (mode : SetMode) (server : ℕ) (c d : ClientState) → Follows c d → dialled_by mode c ≡ c → is_deaf (ears server d) ≡ false
    → dialled_by mode d ≡ d
mode_still Hot server c d follows at_rest hears = all_still c d follows at_rest
mode_still Warm server c d follows at_rest hears = all_still c d follows at_rest
mode_still Cold server c d follows at_rest hears =
    let one = ear_open server d hears in
    one_stands d (idle_some (length d.links) server d (is_from server (length d.links) one.0) (is_to server (length d.links) one.0)
    (hearing_stands (link_of server d) one.1))
mode_still Direct server c d follows at_rest hears = refl

still_by : (b : Bool) (server : ℕ) (c d : ClientState) → has_numbers c ≡ b → Follows c d → numbered b c ≡ c
    → is_deaf (ears server d) ≡ false → numbered b d ≡ d
still_by true server c d e follows at_rest hears =
    ap (λ config. dialled_by config.mode d) follows.config ∙ mode_still c.config.mode server c d follows at_rest hears
still_by false server c d e follows at_rest hears = refl

-- and none could dial before, none may then
pub dialled_still : (server : ℕ) (c d : ClientState) → Follows c d → dialled c ≡ c → is_deaf (ears server d) ≡ false → dialled d ≡ d
unfolding dialled
dialled_still server c d follows at_rest hears =
    ap (λ b. numbered b d) (ap (λ n. nat_lt n (2 ^ 32 - 1)) follows.dials)
    ∙ still_by (has_numbers c) server c d refl follows at_rest hears

-- ---- where nothing is heard any more

deaf_in : (b : Bool) (i : ℕ) (c d : ClientState) → is_server i c ≡ b → Dialled c d
    → (1 ≤ i → i ≤ length c.links → IsDeaf (link_of i c) → IsDeaf (link_of i d))
    → is_deaf (cond b (link.ear_of (link_of i c)) ear.Deaf) ≡ true → is_deaf (cond b (link.ear_of (link_of i d)) ear.Deaf) ≡ true
deaf_in true i c d known goes keeps deaf = keeps (is_from i (length c.links) known) (is_to i (length c.links) known) deaf
deaf_in false i c d known goes keeps deaf = refl

same_servers : (i : ℕ) (c d : ClientState) → length d.links ≡ length c.links
    → is_deaf (ears i d) ≡ is_deaf (cond (is_server i c) (link.ear_of (link_of i d)) ear.Deaf)
same_servers i c d count = ap (λ n. is_deaf (cond (nat_le 1 i && nat_le i n) (link.ear_of (link_of i d)) ear.Deaf)) count

-- a server that was heard before and is deaf now doesn't dial
pub deaf_stays : (server : ℕ) (c d : ClientState) → Follows c d → is_deaf (ears server c) ≡ false → is_deaf (ears server d) ≡ true
    → is_deaf (ears server (dialled d)) ≡ true
deaf_stays server c d follows heard deaf =
    let one = ear_open server c heard in
    let goes = are_dialled d in
    let from : 1 ≤ server = is_from server (length c.links) one.0 in
    let to : server ≤ length c.links = is_to server (length c.links) one.0 in
    let still : may_dial (link_of server d) ≡ false = (follows.each server from to).still (hearing_still (link_of server c) one.1) in
    same_servers server d (dialled d) goes.count
    ∙ deaf_in (is_server server d) server d (dialled d) refl goes
    (λ own within is. ap (λ (l : LinkState). is_deaf (link.ear_of l)) (goes.still server own within still) ∙ is) deaf

deaf_out : (b : Bool) (i : ℕ) (c d : ClientState) → is_server i c ≡ b → Dialled c d
    → is_deaf (cond b (link.ear_of (link_of i d)) ear.Deaf) ≡ true → is_deaf (cond b (link.ear_of (link_of i c)) ear.Deaf) ≡ true
deaf_out true i c d known goes deaf = goes.deaf i (is_from i (length c.links) known) (is_to i (length c.links) known) deaf
deaf_out false i c d known goes deaf = refl

-- who is deaf after the dials was deaf before
pub deaf_before : (i : ℕ) (c : ClientState) → is_deaf (ears i (dialled c)) ≡ true → is_deaf (ears i c) ≡ true
deaf_before i c deaf =
    let goes = are_dialled c in
    deaf_out (is_server i c) i c (dialled c) refl goes (sym (same_servers i c (dialled c) goes.count) ∙ deaf)
