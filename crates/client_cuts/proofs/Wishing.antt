-- A wish that is taken gives nobody the right to dial.
use Rattle.std.proofs.Common.{◌≡◌, ◌≢◌, ◌⊎◌, inl, inr, ℕ, zero, suc, ◌+◌, ◌-◌, ◌^◌, ◌≤◌, ◌==◌, ◌&&◌, not, Bool, true, false, cond, nat_le, nat_lt, List, length, Option, Some, None, slice_index_or, slice_set, refl, sym, ap, ap₂, subst, ◌∙◌, arith}
use Rattle.std.proofs.lemmas.Bool.Decides.{nat_tests}
use Rattle.std.proofs.lemmas.List.{length-set, get_or-set_other}
use Rattle.ua_base.specs.declared.modes.SetMode.{SetMode}
use Rattle.ua_base.specs.declared.modes.SetMode.TheVariants.{Direct, Hot, Warm, Cold}
use Rattle.ua_channel.specs.declared.ear.Ear.{Ear}
use Rattle.ua_channel.specs.declared.ear.Ear.TheVariants as ear
use Rattle.ua_channel.specs.State.{is_deaf}
use Rattle.link_rules.specs.declared.phase.Phase.{Phase}
use Rattle.link_rules.specs.declared.phase.Phase.TheVariants as phase
use Rattle.link_rules.specs.State.{LinkState, is_idle, is_idle_phase, new_link}
use Rattle.link_rules.specs.Opening.{dials, may_dial}
use Rattle.link_rules.specs.Step as link
use Rattle.client_rules.specs.State.{ClientState, is_server, link_config, link_of, with_link}
use Rattle.client_rules.specs.Links.{server_after}
use Rattle.client_rules.specs.Dialling.{are_idle, dialled, dialled_by, dials_among, dials_if, dials_one, first_to_dial, has_numbers}
use Rattle.client_rules.specs.Step.{ears}
use Rattle.ua_client.specs.State.{without_wish}
use Rattle.ua_client.proofs.Hushing.{IsDeaf}
use Rattle.client_cuts.proofs.Ends.{same_or_not}
use Rattle.client_cuts.proofs.Following.{is_from, is_to}
use Rattle.client_cuts.proofs.Dialling.{Rests, all_rest, among_none, dials_still, no_both, numbered, placed, set_here, set_past}

-- ---- a link

abbrev taken_by : Bool → LinkState → LinkState
taken_by b l = cond b (record l { closes = false }) (record l { phase = link.taken_in l.phase })

idle_taken : (p : Phase) → is_idle_phase (link.taken_in p) ≡ is_idle_phase p
idle_taken (phase.Dialing taken) = refl
idle_taken other = refl

ear_taken : (p : Phase) → link.ear_in (link.taken_in p) ≡ link.ear_in p
ear_taken (phase.Dialing taken) = refl
ear_taken other = refl

taken_idle : (b : Bool) (l : LinkState) → is_idle (taken_by b l) ≡ is_idle l
taken_idle true l = refl
taken_idle false l = idle_taken l.phase

taken_dials : (b : Bool) (l : LinkState) → may_dial (taken_by b l) ≡ may_dial l
taken_dials true l = refl
taken_dials false l = ap (λ i. (i && (l.wait == 0)) && not l.unsupported) (idle_taken l.phase)

taken_deaf : (b : Bool) (l : LinkState) → l.closes ≡ b → IsDeaf (taken_by b l) → IsDeaf l
taken_deaf true l e deaf = ap (λ b. is_deaf (cond b ear.Deaf (link.ear_in l.phase))) e
taken_deaf false l e deaf = ap (λ (x : Ear). is_deaf (cond l.closes ear.Deaf x)) (sym (ear_taken l.phase)) ∙ deaf

-- ---- clients whose links may dial alike

record IsLike (c d : ClientState) : Type 0 where
  config : d.config ≡ c.config
  count : length d.links ≡ length c.links
  cursor : d.cursor ≡ c.cursor
  dials : d.dials ≡ c.dials
  dial : (i : ℕ) → may_dial (link_of i d) ≡ may_dial (link_of i c)
  idle : (i : ℕ) → is_idle (link_of i d) ≡ is_idle (link_of i c)
  deaf : (i : ℕ) → IsDeaf (link_of i d) → IsDeaf (link_of i c)

set_like : {A : Type 0} (f : LinkState → A) (place i : ℕ) (l : LinkState) (c : ClientState) → place + 1 ≤ length c.links
    → f l ≡ f (placed place c) → (i - 1 ≡ place) ⊎ (i - 1 ≢ place)
    → f (slice_index_or (slice_set c.links place l) (i - 1) (new_link (link_config c.config))) ≡ f (placed (i - 1) c)
set_like f place i l c within same (inl is) =
    ap (λ n. f (slice_index_or (slice_set c.links place l) n (new_link (link_config c.config)))) is
    ∙ ap f (set_here place l c within) ∙ same ∙ ap (λ n. f (placed n c)) (sym is)
set_like f place i l c within same (inr differs) =
    ap f (get_or-set_other c.links place (i - 1) l (new_link (link_config c.config)) differs)

set_deaf : (place i : ℕ) (l : LinkState) (c : ClientState) → place + 1 ≤ length c.links
    → (IsDeaf l → IsDeaf (placed place c)) → (i - 1 ≡ place) ⊎ (i - 1 ≢ place)
    → IsDeaf (slice_index_or (slice_set c.links place l) (i - 1) (new_link (link_config c.config))) → IsDeaf (placed (i - 1) c)
set_deaf place i l c within same (inl is) deaf =
    ap (λ n. is_deaf (link.ear_of (placed n c))) is
    ∙ same (ap (λ (x : LinkState). is_deaf (link.ear_of x)) (sym (set_here place l c within))
    ∙ ap (λ n. is_deaf (link.ear_of (slice_index_or (slice_set c.links place l) n (new_link (link_config c.config))))) (sym is)
    ∙ deaf)
set_deaf place i l c within same (inr differs) deaf =
    ap (λ (x : LinkState). is_deaf (link.ear_of x))
    (sym (get_or-set_other c.links place (i - 1) l (new_link (link_config c.config)) differs)) ∙ deaf

place_of : (server count : ℕ) → 1 ≤ server → server ≤ count → (server - 1) + 1 ≤ count
place_of server count from to = omega (arith, from, to)

wish_by : (b : Bool) (server : ℕ) (c : ClientState) → is_server server c ≡ b
    → IsLike c (cond b (with_link server (taken_by (link_of server c).closes (link_of server c)) c) c)
wish_by true server c known =
    let l : LinkState = link_of server c in
    let within : (server - 1) + 1 ≤ length c.links =
    place_of server (length c.links) (is_from server (length c.links) known) (is_to server (length c.links) known) in
    record {
      config = refl;
      count = length-set c.links (server - 1) (taken_by l.closes l);
      cursor = refl;
      dials = refl;
      dial = λ i. set_like may_dial (server - 1) i (taken_by l.closes l) c within (taken_dials l.closes l) (same_or_not (i - 1) (server - 1) _ refl);
      idle = λ i. set_like is_idle (server - 1) i (taken_by l.closes l) c within (taken_idle l.closes l) (same_or_not (i - 1) (server - 1) _ refl);
      deaf = λ i deaf. set_deaf (server - 1) i (taken_by l.closes l) c within (taken_deaf l.closes l refl) (same_or_not (i - 1) (server - 1) _ refl) deaf;
    }
wish_by false server c known = record {
  config = refl;
  count = refl;
  cursor = refl;
  dials = refl;
  dial = λ i. refl;
  idle = λ i. refl;
  deaf = λ i deaf. deaf;
}

wish_like : (server : ℕ) (c : ClientState) → IsLike c (without_wish server c)
wish_like server c = wish_by (is_server server c) server c refl

-- ---- they dial alike

all_like : (c d : ClientState) → IsLike c d → dials_among (length c.links) c ≡ c → dials_among (length d.links) d ≡ d
all_like c d like at_rest =
    let rests : Rests (length c.links) c = subst (λ (x : ClientState). Rests (length c.links) x) at_rest (all_rest c) in
    among_none (length d.links) d (λ i from to. like.dial i ∙ rests i from (subst (λ n. i ≤ n) like.count to))

idle_like : (count : ℕ) (c d : ClientState) → IsLike c d → are_idle count d ≡ are_idle count c
unfolding are_idle
idle_like zero c d like = refl
idle_like (suc count) c d like = ap₂ (λ a b. a && b) (idle_like count c d like) (like.idle (count + 1))

first_like : (count server : ℕ) (c d : ClientState) → IsLike c d → first_to_dial count server d ≡ first_to_dial count server c
unfolding first_to_dial
first_like zero server c d like = refl
first_like (suc count) server c d like =
    ap (λ b. cond b (Some server) (first_to_dial count (server_after server d) d)) (like.dial server)
    ∙ ap (λ n. cond (may_dial (link_of server c)) (Some server) (first_to_dial count (cond (server == n) 1 (server + 1)) d)) like.count
    ∙ ap (λ (o : Option ℕ). cond (may_dial (link_of server c)) (Some server) o) (first_like count (server_after server c) c d like)

-- a dial without effect is for a server that isn't there
set_like_past : (t : Bool) (place : ℕ) (c d : ClientState) → nat_lt place (length c.links) ≡ t → IsLike c d
    → may_dial (placed place c) ≡ true → record c { links = slice_set c.links place (dials (placed place c)) } ≡ c
    → record d { links = slice_set d.links place (dials (placed place d)) } ≡ d
set_like_past true place c d t like may same =
    let within : place + 1 ≤ length c.links = below place (length c.links) t in
    no_both (may_dial (placed place c)) may
    (ap (λ (x : ClientState). may_dial (placed place x)) (sym same)
    ∙ ap may_dial (set_here place (dials (placed place c)) c within) ∙ dials_still (placed place c))
  where
    below : (a b : ℕ) → nat_lt a b ≡ true → a + 1 ≤ b
    below a b e = grind (arith, nat_tests)
set_like_past false place c d t like may same =
    ap (λ (ls : List LinkState). record d { links = ls })
    (set_past d.links place (dials (placed place d)) (subst (λ n. n ≤ place) (sym like.count) (beyond place (length c.links) t)))
  where
    beyond : (a b : ℕ) → nat_lt a b ≡ false → b ≤ a
    beyond a b e = grind (arith, nat_tests)

at_like : (b : Bool) (j : ℕ) (c d : ClientState) → may_dial (link_of j c) ≡ b → IsLike c d
    → cond b (with_link j (dials (link_of j c)) c) c ≡ c → cond b (with_link j (dials (link_of j d)) d) d ≡ d
at_like true j c d e like same = set_like_past (nat_lt (j - 1) (length c.links)) (j - 1) c d refl like e same
at_like false j c d e like same = refl

if_like : (o : Option ℕ) (c d : ClientState) → IsLike c d → dials_if o c ≡ c → dials_if o d ≡ d
if_like None c d like same = refl
if_like (Some j) c d like same =
    ap (λ b. cond b (with_link j (dials (link_of j d)) d) d) (like.dial j)
    ∙ at_like (may_dial (link_of j c)) j c d refl like same

one_by : (b : Bool) (c d : ClientState) → IsLike c d → are_idle (length c.links) c ≡ b
    → cond b (dials_if (first_to_dial (length c.links) c.cursor c) c) c ≡ c
    → cond b (dials_if (first_to_dial (length c.links) c.cursor c) d) d ≡ d
one_by true c d like e same = if_like (first_to_dial (length c.links) c.cursor c) c d like same
one_by false c d like e same = refl

one_like : (c d : ClientState) → IsLike c d → dials_one c ≡ c → dials_one d ≡ d
one_like c d like same =
    ap₂ (λ b (o : Option ℕ). cond b (dials_if o d) d)
    (ap (λ n. are_idle n d) like.count ∙ idle_like (length c.links) c d like)
    (ap₂ (λ n k. first_to_dial n k d) like.count like.cursor ∙ first_like (length c.links) c.cursor c d like)
    ∙ one_by (are_idle (length c.links) c) c d like refl same

mode_like : (mode : SetMode) (c d : ClientState) → IsLike c d → dialled_by mode c ≡ c → dialled_by mode d ≡ d
mode_like Hot c d like same = all_like c d like same
mode_like Warm c d like same = all_like c d like same
mode_like Cold c d like same = one_like c d like same
mode_like Direct c d like same = refl

like_by : (b : Bool) (c d : ClientState) → IsLike c d → numbered b c ≡ c → numbered b d ≡ d
like_by true c d like same =
    ap (λ config. dialled_by config.mode d) like.config ∙ mode_like c.config.mode c d like same
like_by false c d like same = refl

dialled_like : (c d : ClientState) → IsLike c d → dialled c ≡ c → dialled d ≡ d
unfolding dialled
dialled_like c d like same =
    ap (λ b. numbered b d) (ap (λ n. nat_lt n (2 ^ 32 - 1)) like.dials) ∙ like_by (has_numbers c) c d like same

pub wish_still : (server : ℕ) (c : ClientState) → dialled c ≡ c → dialled (without_wish server c) ≡ without_wish server c
wish_still server c same = dialled_like c (without_wish server c) (wish_like server c) same

pub wish_count : (server : ℕ) (c : ClientState) → length (without_wish server c).links ≡ length c.links
wish_count server c = (wish_like server c).count

-- ---- and hear no less

deaf_by : (b : Bool) (i : ℕ) (c d : ClientState) → is_server i c ≡ b → IsLike c d
    → is_deaf (cond b (link.ear_of (link_of i d)) ear.Deaf) ≡ true → is_deaf (cond b (link.ear_of (link_of i c)) ear.Deaf) ≡ true
deaf_by true i c d known like deaf = like.deaf i deaf
deaf_by false i c d known like deaf = refl

pub wish_deaf : (server i : ℕ) (c : ClientState) → is_deaf (ears i (without_wish server c)) ≡ true → is_deaf (ears i c) ≡ true
wish_deaf server i c deaf =
    let d : ClientState = without_wish server c in
    deaf_by (is_server i c) i c d refl (wish_like server c)
    (sym (ap (λ n. is_deaf (cond (nat_le 1 i && nat_le i n) (link.ear_of (link_of i d)) ear.Deaf)) (wish_like server c).count) ∙ deaf)
