-- What is heard of a server leaves deaf links deaf, and gives no link the right to dial.
use Rattle.std.proofs.Common.{◌≡◌, ◌≢◌, ◌⊎◌, inl, inr, ℕ, zero, suc, ◌+◌, ◌-◌, ◌≤◌, ◌==◌, ◌&&◌, not, Bool, true, false, cond, nat_le, List, [], ◌∷◌, length, Option, Some, None, slice_index_or, refl, sym, ap, ap₂, subst, ◌∙◌, arith}
use Rattle.std.proofs.lemmas.Bool.Decides.{nat_tests}
use Rattle.std.proofs.lemmas.Grind.{get_or-set_at}
use Rattle.std.proofs.lemmas.List.{length-set, get_or-set_other}
use Rattle.ua_base.specs.declared.modes.Mode.{Mode}
use Rattle.ua_channel.specs.declared.ear.Ear.TheVariants as ear
use Rattle.ua_channel.specs.declared.heard.Heard.{Heard}
use Rattle.ua_channel.specs.State.{is_deaf}
use Rattle.failover_core.specs.declared.choice.Candidate.{Candidate}
use Rattle.failover_core.specs.Choice.{switch_of, wanted}
use Rattle.link_rules.specs.declared.phase.Phase.{Phase}
use Rattle.link_rules.specs.declared.phase.Phase.TheVariants as phase
use Rattle.link_rules.specs.Said.{LinkDid, nothing as link_nothing}
use Rattle.link_rules.specs.State.{LinkState, is_idle_phase, is_ready, new_link, ready_in}
use Rattle.link_rules.specs.Opening.{may_dial}
use Rattle.link_rules.specs.Step as link
use Rattle.client_rules.specs.declared.config.ClientConfig.{ClientConfig}
use Rattle.client_rules.specs.Acts.{Hears}
use Rattle.client_rules.specs.Doing.{ClientDid, and_then, each_server, nothing}
use Rattle.client_rules.specs.Links.{all_told, fell, falls, linked, linked_by, moved, told}
use Rattle.link_rules.specs.declared.notice.Notice.{Notice}
use Rattle.link_rules.specs.declared.notice.Notice.TheVariants as notice
use Rattle.client_rules.specs.Settling.{are_fewer, chosen, ready_of, round, settled, settled_within, switched, told_mode, with_choice}
use Rattle.client_rules.specs.State.{ClientState, is_server, link_config, link_of, with_link}
use Rattle.client_rules.specs.Step.{after, ears, happening, happens}
use Rattle.ua_client.proofs.Hushing.{IsDeaf, wants_deaf}
use Rattle.ua_client.proofs.Deafening.{KeepsLinks, linked_keeps}
use Rattle.client_cuts.proofs.Awake.{Awake, hears_awake, wants_awake}
use Rattle.client_cuts.proofs.Ends.{same_or_not}

-- ---- a link

-- what was deaf is deaf, and what may not dial may not
pub record Leaves (l k : LinkState) : Type 0 where
  pub deaf : IsDeaf l → IsDeaf k
  pub still : may_dial l ≡ false → may_dial k ≡ false

leaves_same : (l k : LinkState) → k ≡ l → Leaves l k
leaves_same l k e = subst (λ (x : LinkState). Leaves l x) (sym e) (record { deaf = λ d. d; still = λ s. s })

leaves_then : (l k m : LinkState) → Leaves l k → Leaves k m → Leaves l m
leaves_then l k m one other = record { deaf = λ d. other.deaf (one.deaf d); still = λ s. other.still (one.still s) }

awake_still : (l : LinkState) → Awake l → may_dial l ≡ false
awake_still l awake = ap (λ b. b && not l.unsupported) awake

not_idle : (b : Bool) (p : Phase) → is_deaf (cond b ear.Deaf (link.ear_in p)) ≡ false → is_idle_phase p ≡ false
not_idle true p e = absurd cc
not_idle false phase.Idle e = absurd cc
not_idle false other e = refl

-- a link of which something is heard is on its way
pub hearing_stands : (l : LinkState) → is_deaf (link.ear_of l) ≡ false → is_idle_phase l.phase ≡ false
hearing_stands l e = not_idle l.closes l.phase e

pub hearing_still : (l : LinkState) → is_deaf (link.ear_of l) ≡ false → may_dial l ≡ false
hearing_still l e = awake_still l (ap (λ b. b && (l.wait == 0)) (hearing_stands l e))

heard_by : (b : Bool) (h : Heard) (l : LinkState) → is_deaf (link.ear_of l) ≡ b
    → Leaves l (cond b (link_nothing l) (link.hears h l)).link
heard_by true h l e = leaves_same l l refl
heard_by false h l e =
    let awake : Awake l = ap (λ b. b && (l.wait == 0)) (hearing_stands l e) in
    record {
      deaf = λ d. clash (sym e ∙ d);
      still = λ s. awake_still (link.hears h l).link (hears_awake h l awake);
    }
  where
    clash : {A : Type 0} → false ≡ true → A
    clash bad = absurd cc

heard_leaves : (h : Heard) (l : LinkState) → Leaves l (link.heard h l).link
unfolding link.heard
heard_leaves h l = heard_by (is_deaf (link.ear_of l)) h l refl

wants_by : (p : Phase) (mode : Mode) (l : LinkState) → may_dial l ≡ false
    → may_dial (link.wants_in (ready_in p) mode l).link ≡ false
wants_by (phase.Ready ready) mode l s = awake_still (link.wants_in (Some ready) mode l).link (wants_awake ready mode l)
wants_by phase.Idle mode l s = s
wants_by other mode l s = s

wants_still : (mode : Mode) (l : LinkState) → may_dial l ≡ false → may_dial (link.wants mode l).link ≡ false
unfolding link.wants
wants_still mode l s = wants_by l.phase mode l s

wants_leaves : (mode : Mode) (l : LinkState) → Leaves l (link.wants mode l).link
wants_leaves mode l = record { deaf = wants_deaf mode l; still = wants_still mode l }

-- ---- all links of a client

pub record Follows (c d : ClientState) : Type 0 where
  pub config : d.config ≡ c.config
  pub count : length d.links ≡ length c.links
  pub dials : d.dials ≡ c.dials
  pub each : (i : ℕ) → 1 ≤ i → i ≤ length c.links → Leaves (link_of i c) (link_of i d)

pub follows_same : (c : ClientState) → Follows c c
follows_same c = record { config = refl; count = refl; dials = refl; each = λ i from to. leaves_same (link_of i c) (link_of i c) refl }

pub follows_then : (c d e : ClientState) → Follows c d → Follows d e → Follows c e
follows_then c d e one other = record {
  config = other.config ∙ one.config;
  count = other.count ∙ one.count;
  dials = other.dials ∙ one.dials;
  each = λ i from to. leaves_then (link_of i c) (link_of i d) (link_of i e) (one.each i from to)
      (other.each i from (subst (λ n. i ≤ n) (sym one.count) to));
}

follows_kept : (c d : ClientState) → KeepsLinks c d → d.dials ≡ c.dials → Follows c d
follows_kept c d keeps dials = record {
  config = keeps.config;
  count = ap (λ (ls : List LinkState). length ls) keeps.links;
  dials = dials;
  each = λ i from to. leaves_same (link_of i c) (link_of i d)
      (ap₂ (λ (ls : List LinkState) (g : ClientConfig). slice_index_or ls (i - 1) (new_link (link_config g))) keeps.links keeps.config);
}

apart : (server other : ℕ) → 1 ≤ server → 1 ≤ other → server ≢ other → server - 1 ≢ other - 1
apart server other from own differs = λ same. differs (omega arith)

set_each : (i other : ℕ) (l : LinkState) (c : ClientState) → 1 ≤ i → i ≤ length c.links → 1 ≤ other → Leaves (link_of other c) l
    → (i ≡ other) ⊎ (i ≢ other) → Leaves (link_of i c) (link_of i (with_link other l c))
set_each i other l c from to own leaves (inl is) =
    let set : link_of i (with_link i l c) ≡ l =
    get_or-set_at c.links (i - 1) (i - 1) l (new_link (link_config c.config)) refl (omega (arith, from, to)) in
    subst (λ n. Leaves (link_of i c) (link_of i (with_link n l c))) is
    (subst (λ (x : LinkState). Leaves (link_of i c) x) (sym set) (subst (λ n. Leaves (link_of n c) l) (sym is) leaves))
set_each i other l c from to own leaves (inr differs) =
    leaves_same (link_of i c) (link_of i (with_link other l c))
    (get_or-set_other c.links (other - 1) (i - 1) l (new_link (link_config c.config)) (apart i other from own differs))

set_follows : (other : ℕ) (l : LinkState) (c : ClientState) → 1 ≤ other → Leaves (link_of other c) l → Follows c (with_link other l c)
set_follows other l c own leaves = record {
  config = refl;
  count = length-set c.links (other - 1) l;
  dials = refl;
  each = λ i from to. set_each i other l c from to own leaves (same_or_not i other _ refl);
}

told_dials : (server : ℕ) (n : Notice) (c : ClientState) → (told server n c).dials ≡ c.dials
unfolding told
told_dials server (notice.Level level) c = refl
told_dials server notice.Ready c = refl
told_dials server notice.Lost c = refl
told_dials server notice.Unsupported c = refl
told_dials server (notice.Stream item) c = refl
told_dials server notice.Jump c = refl
told_dials server (notice.Taken item value) c = refl
told_dials server (notice.Sent mode) c = refl
told_dials server (notice.Confirmed mode) c = refl

all_told_dials : (server : ℕ) (notices : List Notice) (c : ClientState) → (all_told server notices c).dials ≡ c.dials
unfolding all_told
all_told_dials server [] c = refl
all_told_dials server (n ∷ notices) c = all_told_dials server notices (told server n c) ∙ told_dials server n c

fell_dials : (server : ℕ) (b : Bool) (c : ClientState) → (fell server b c).dials ≡ c.dials
fell_dials server true c = refl
fell_dials server false c = refl

-- what a link does opens no connection
linked_dials : (server : ℕ) (did : LinkDid) (c : ClientState) → (linked_by server did c).client.dials ≡ c.dials
unfolding linked_by
linked_dials server did c =
    all_told_dials server did.notices (moved server did.link c)
    ∙ fell_dials server (falls (link_of server c) did.link) (with_link server did.link c)

linked_follows : (other : ℕ) (did : LinkDid) (c : ClientState) → 1 ≤ other → Leaves (link_of other c) did.link
    → Follows c (linked_by other did c).client
linked_follows other did c own leaves =
    follows_then c (with_link other did.link c) (linked_by other did c).client (set_follows other did.link c own leaves)
    (follows_kept (with_link other did.link c) (linked_by other did c).client (linked_keeps other did c) (linked_dials other did c))

-- ---- what follows

abbrev Goes : (ℕ → ClientState → ClientDid) → Type 0
Goes rule = (other : ℕ) (d : ClientState) → 1 ≤ other → Follows d (rule other d).client

each_follows : (rule : ℕ → ClientState → ClientDid) (count : ℕ) (c : ClientState) → Goes rule → Follows c (each_server rule count c).client
unfolding each_server
each_follows rule zero c goes = follows_same c
each_follows rule (suc count) c goes =
    follows_then c (each_server rule count c).client (rule (count + 1) (each_server rule count c).client).client
    (each_follows rule count c goes) (goes (count + 1) (each_server rule count c).client (omega arith))

mode_by : (b : Bool) (did : ClientDid) (c : ClientState) → Follows c did.client → Follows c (cond b did (nothing c)).client
mode_by true did c follows = follows
mode_by false did c follows = follows_same c

mode_goes : Goes told_mode
unfolding told_mode
mode_goes other d own =
    mode_by (is_ready (link_of other d)) (linked other (link.wants (wanted other d.core)) d) d
    (linked_follows other (link.wants (wanted other d.core) (link_of other d)) d own (wants_leaves (wanted other d.core) (link_of other d)))

switched_follows : (both : Option (ℕ × ℕ)) (c : ClientState) → Follows c (switched both c).client
switched_follows None c = follows_same c
switched_follows (Some both) c = follows_kept c (switched (Some both) c).client (record { links = refl; config = refl }) refl

chosen_follows : (ready : List Candidate) (c : ClientState) → Follows c (chosen ready c).client
unfolding chosen
chosen_follows ready c =
    follows_then c (with_choice ready c) (switched (switch_of ready c.core) (with_choice ready c)).client
    (follows_kept c (with_choice ready c) (record { links = refl; config = refl }) refl)
    (switched_follows (switch_of ready c.core) (with_choice ready c))

round_follows : (ready : List Candidate) (c : ClientState) → Follows c (round ready c).client
unfolding round
round_follows ready c =
    follows_then c (chosen ready c).client
    (each_server told_mode (length (chosen ready c).client.links) (chosen ready c).client).client (chosen_follows ready c)
    (each_follows told_mode (length (chosen ready c).client.links) (chosen ready c).client mode_goes)

within_by : (b : Bool) (did : ClientDid) (rule : ClientState → ClientDid) (c : ClientState) → Follows c did.client
    → Follows did.client (rule did.client).client → Follows c (cond b (and_then rule did) did).client
within_by true did rule c first second = follows_then c did.client (rule did.client).client first second
within_by false did rule c first second = first

within_follows : (most : ℕ) (ready : List Candidate) (c : ClientState) → Follows c (settled_within most ready c).client
unfolding settled_within
within_follows zero ready c = follows_same c
within_follows (suc most) ready c =
    within_by (are_fewer (ready_of (round ready c).client) ready) (round ready c)
    (settled_within most (ready_of (round ready c).client)) c (round_follows ready c)
    (within_follows most (ready_of (round ready c).client) (round ready c).client)

settled_follows : (c : ClientState) → Follows c (settled c).client
settled_follows c = within_follows (length c.links + 1) (ready_of c) c

pub is_from : (server count : ℕ) → (nat_le 1 server && nat_le server count) ≡ true → 1 ≤ server
is_from server count e = grind (arith, nat_tests)

pub is_to : (server count : ℕ) → (nat_le 1 server && nat_le server count) ≡ true → server ≤ count
is_to server count e = grind (arith, nat_tests)

after_by : (b : Bool) (server : ℕ) (h : Heard) (c : ClientState) → is_server server c ≡ b
    → Follows c (cond b (and_then settled (and_then (happens (Hears server h)) (happening (Hears server h) c))) (nothing c)).client
after_by true server h c known =
    follows_then c (linked server (link.heard h) c).client (settled (linked server (link.heard h) c).client).client
    (linked_follows server (link.heard h (link_of server c)) c (is_from server (length c.links) known) (heard_leaves h (link_of server c)))
    (settled_follows (linked server (link.heard h) c).client)
after_by false server h c known = follows_same c

pub heard_follows : (server : ℕ) (h : Heard) (c : ClientState) → Follows c (after (Hears server h) c).client
unfolding after
heard_follows server h c = after_by (is_server server c) server h c refl

-- ---- its ears

ears_by : (b : Bool) (i : ℕ) (c d : ClientState) → is_server i c ≡ b → Follows c d
    → is_deaf (cond b (link.ear_of (link_of i c)) ear.Deaf) ≡ true → is_deaf (cond b (link.ear_of (link_of i d)) ear.Deaf) ≡ true
ears_by true i c d known follows deaf = (follows.each i (is_from i (length c.links) known) (is_to i (length c.links) known)).deaf deaf
ears_by false i c d known follows deaf = refl

pub ears_follow : (i : ℕ) (c d : ClientState) → Follows c d → is_deaf (ears i c) ≡ true → is_deaf (ears i d) ≡ true
ears_follow i c d follows deaf =
    ap (λ n. is_deaf (cond (nat_le 1 i && nat_le i n) (link.ear_of (link_of i d)) ear.Deaf)) follows.count
    ∙ ears_by (is_server i c) i c d refl follows deaf
