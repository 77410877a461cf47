-- Of a server that it doesn't have a client tells nothing.
use Rattle.std.proofs.Common.{◌≡◌, ◌⊎◌, inl, inr, ℕ, zero, suc, ◌+◌, ◌-◌, ◌==◌, ◌≤◌, ◌<◌, ◌&&◌, List, [], ◌∷◌, ◌++◌, length, Bool, true, false, nat_le, Option, Some, None, if◌then◌else◌, refl, sym, ◌∙◌, ap, ap₂, subst, arith}
use Rattle.std.proofs.lemmas.Bool.Decides.{nat_tests}
use Rattle.std.proofs.lemmas.List.{length-set, length-replicate}
use Rattle.link_rules.specs.declared.notice.Notice.{Notice}
use Rattle.link_rules.specs.Said.{LinkDid}
use Rattle.link_rules.specs.State.{new_link}
use Rattle.link_rules.specs.Opening as opening
use Rattle.link_rules.specs.Step as alone
use Rattle.ua_base.specs.declared.modes.SetMode.{SetMode}
use Rattle.ua_base.specs.declared.modes.SetMode.TheVariants.{Direct, Hot, Warm, Cold}
use Rattle.failover_core.specs.declared.choice.Candidate.{Candidate}
use Rattle.failover_core.specs.Choice.{switch_of, wanted}
use Rattle.link_rules.specs.State.{is_ready}
use Rattle.client_rules.specs.declared.config.ClientConfig.{ClientConfig}
use Rattle.client_rules.specs.State.{ClientState, idle_client, is_server, link_config, link_of, servers_of, with_link}
use Rattle.client_rules.specs.Acts.{ClientAct, Happening, Opens, Refuses, Hears, Closes, Ticks}
use Rattle.client_rules.specs.Doing.{ClientDid, and_then, each_server, nothing}
use Rattle.client_rules.specs.Links.{linked_by}
use Rattle.client_rules.specs.Settling.{are_fewer, chosen, modes_told, ready_of, round, settled, settled_within, switched, told_mode, with_choice}
use Rattle.client_rules.specs.Dialling.{are_idle, dialled, dialled_by, dials_among, dials_at, dials_if, first_to_dial, has_numbers}
use Rattle.client_rules.specs.Step.{Moment, Goes, Ends, Takes, after, after_all, at_moment, happening, happens, is_known, new_client, without_wish}
use Rattle.client_laws.specs.Life.{acts_of}
use Rattle.client_links.specs.Links.{told_of}
use Rattle.client_links.proofs.Lists.{told_append, told_other}
use Rattle.client_links.proofs.Lives.{IsAlike, linked_alike}

-- a number that is none of so many servers'
abbrev IsBeyond : ℕ → ℕ → Type 0
IsBeyond server count = (server ≡ 0) ⊎ (count < server)

differs : (s server count : ℕ) → IsBeyond server count → 1 ≤ s → s ≤ count → (t : Bool) → (s == server) ≡ t → t ≡ false
differs s server count (inl none) from to true e = let is : s ≡ server = grind (arith, nat_tests) in absurd (omega arith)
differs s server count (inr above) from to true e = let is : s ≡ server = grind (arith, nat_tests) in absurd (omega arith)
differs s server count beyond from to false e = refl

-- these acts tell nothing of it, and the client has as many servers as before
record IsSilent (server : ℕ) (c next : ClientState) (acts : List ClientAct) : Type 0 where
  told : told_of server acts ≡ []
  count : length next.links ≡ length c.links

silent_nothing : (server : ℕ) (c : ClientState) → IsSilent server c c []
silent_nothing server c = record { told = refl; count = refl }

silent_then : (server : ℕ) (c one next : ClientState) (acts more : List ClientAct) → IsSilent server c one acts
    → IsSilent server one next more → IsSilent server c next (acts ++ more)
silent_then server c one next acts more first second = record {
  told = told_append server acts more ∙ ap₂ (λ (a b : List Notice). a ++ b) first.told second.told;
  count = second.count ∙ first.count;
}

silent_if : (server : ℕ) (b : Bool) (c : ClientState) (did : ClientDid) → IsSilent server c did.client did.acts
    → IsSilent server c (if b then did else nothing c).client (if b then did else nothing c).acts
silent_if server true c did silent = silent
silent_if server false c did silent = silent_nothing server c

linked_silent : (s server : ℕ) (did : LinkDid) (c : ClientState) → IsBeyond server (length c.links) → 1 ≤ s → s ≤ length c.links
    → IsSilent server c (linked_by s did c).client (linked_by s did c).acts
unfolding linked_by
linked_silent s server did c beyond from to =
    let same : IsAlike (with_link s did.link c) (linked_by s did c).client = linked_alike s did c in record {
      told = told_other s server did.notices did.said (differs s server (length c.links) beyond from to (s == server) refl);
      count = ap length same.links ∙ length-set c.links (s - 1) did.link;
    }

beyond_still : (server : ℕ) (c one : ClientState) → length one.links ≡ length c.links → IsBeyond server (length c.links) → IsBeyond server (length one.links)
beyond_still server c one same beyond = subst (IsBeyond server) (sym same) beyond

each_silent : (rule : ℕ → ClientState → ClientDid) (most count server : ℕ) (c : ClientState) → count ≤ most → length c.links ≡ most
    → IsBeyond server most
    → ((s : ℕ) (d : ClientState) → length d.links ≡ most → 1 ≤ s → s ≤ most → IsSilent server d (rule s d).client (rule s d).acts)
    → IsSilent server c (each_server rule count c).client (each_server rule count c).acts
unfolding each_server
each_silent rule most zero server c within long beyond each = silent_nothing server c
each_silent rule most (suc count) server c within long beyond each =
    let did : ClientDid = each_server rule count c in
    let first : IsSilent server c did.client did.acts = each_silent rule most count server c (omega (arith, within)) long beyond each in
    silent_then server c did.client (rule (count + 1) did.client).client did.acts (rule (count + 1) did.client).acts first
    (each (count + 1) did.client (first.count ∙ long) (omega arith) (omega (arith, within)))

one_silent : (s server most : ℕ) (did : LinkDid) (d : ClientState) → length d.links ≡ most → IsBeyond server most → 1 ≤ s → s ≤ most
    → IsSilent server d (linked_by s did d).client (linked_by s did d).acts
one_silent s server most did d long beyond from to =
    linked_silent s server did d (subst (IsBeyond server) (sym long) beyond) from (subst (λ k. s ≤ k) (sym long) to)

-- ---- settling

switched_silent : (o : Option (ℕ × ℕ)) (ready : List Candidate) (server : ℕ) (c : ClientState)
    → IsSilent server c (switched o (with_choice ready c)).client (switched o (with_choice ready c)).acts
switched_silent None ready server c = record { told = refl; count = refl }
switched_silent (Some both) ready server c = record { told = refl; count = refl }

chosen_silent : (ready : List Candidate) (server : ℕ) (c : ClientState) → IsSilent server c (chosen ready c).client (chosen ready c).acts
unfolding chosen
chosen_silent ready server c = switched_silent (switch_of ready c.core) ready server c

mode_silent : (s server most : ℕ) (d : ClientState) → IsBeyond server most → length d.links ≡ most → 1 ≤ s → s ≤ most
    → IsSilent server d (told_mode s d).client (told_mode s d).acts
unfolding told_mode
mode_silent s server most d beyond long from to =
    silent_if server (is_ready (link_of s d)) d (linked_by s (alone.after (alone.Wants (wanted s d.core)) (link_of s d)) d)
    (one_silent s server most (alone.after (alone.Wants (wanted s d.core)) (link_of s d)) d long beyond from to)

modes_silent : (server : ℕ) (c : ClientState) → IsBeyond server (length c.links) → IsSilent server c (modes_told c).client (modes_told c).acts
modes_silent server c beyond =
    each_silent told_mode (length c.links) (length c.links) server c (omega arith) refl beyond
    (λ s d long from to. mode_silent s server (length c.links) d beyond long from to)

round_silent : (ready : List Candidate) (server : ℕ) (c : ClientState) → IsBeyond server (length c.links)
    → IsSilent server c (round ready c).client (round ready c).acts
unfolding round
round_silent ready server c beyond =
    let did : ClientDid = chosen ready c in
    let first : IsSilent server c did.client did.acts = chosen_silent ready server c in
    silent_then server c did.client (modes_told did.client).client did.acts (modes_told did.client).acts first
    (modes_silent server did.client (beyond_still server c did.client first.count beyond))

settled_test : (b : Bool) (server : ℕ) (c : ClientState) (did : ClientDid) (rule : ClientState → ClientDid)
    → IsSilent server c did.client did.acts → IsSilent server did.client (rule did.client).client (rule did.client).acts
    → IsSilent server c (if b then and_then rule did else did).client (if b then and_then rule did else did).acts
settled_test true server c did rule first second =
    silent_then server c did.client (rule did.client).client did.acts (rule did.client).acts first second
settled_test false server c did rule first second = first

settled_silent : (most : ℕ) (ready : List Candidate) (server : ℕ) (c : ClientState) → IsBeyond server (length c.links)
    → IsSilent server c (settled_within most ready c).client (settled_within most ready c).acts
unfolding settled_within
settled_silent zero ready server c beyond = silent_nothing server c
settled_silent (suc most) ready server c beyond =
    let did : ClientDid = round ready c in
    let first : IsSilent server c did.client did.acts = round_silent ready server c beyond in
    settled_test (are_fewer (ready_of did.client) ready) server c did (settled_within most (ready_of did.client)) first
    (settled_silent most (ready_of did.client) server did.client (beyond_still server c did.client first.count beyond))

-- ---- dials, which tell nothing

-- it has as many servers
abbrev IsLong : ClientState → ClientState → Type 0
IsLong c next = length next.links ≡ length c.links

long_if : (b : Bool) (c next : ClientState) → IsLong c next → IsLong c (if b then next else c)
long_if true c next same = same
long_if false c next same = refl

at_long : (s : ℕ) (c : ClientState) → IsLong c (dials_at s c)
at_long s c =
    long_if (opening.may_dial (link_of s c)) c (with_link s (opening.dials (link_of s c)) c) (length-set c.links (s - 1) (opening.dials (link_of s c)))

among_long : (count : ℕ) (c : ClientState) → IsLong c (dials_among count c)
unfolding dials_among
among_long zero c = refl
among_long (suc count) c = at_long (count + 1) (dials_among count c) ∙ among_long count c

one_long : (o : Option ℕ) (c : ClientState) → IsLong c (dials_if o c)
one_long None c = refl
one_long (Some s) c = at_long s c

by_long : (set : SetMode) (c : ClientState) → IsLong c (dialled_by set c)
by_long Direct c = refl
by_long Hot c = among_long (length c.links) c
by_long Warm c = among_long (length c.links) c
by_long Cold c =
    long_if (are_idle (length c.links) c) c (dials_if (first_to_dial (length c.links) c.cursor c) c)
    (one_long (first_to_dial (length c.links) c.cursor c) c)

dialled_long : (c : ClientState) → IsLong c (dialled c)
unfolding dialled
dialled_long c = long_if (has_numbers c) c (dialled_by c.config.mode c) (by_long c.config.mode c)

wish_long : (s : ℕ) (c : ClientState) → IsLong c (without_wish s c)
wish_long s c =
    long_if (is_server s c) c (with_link s (alone.wish_taken (link_of s c)) c) (length-set c.links (s - 1) (alone.wish_taken (link_of s c)))

-- ---- events

server_test : (s count : ℕ) (p q : Bool) → nat_le 1 s ≡ p → nat_le s count ≡ q → (p && q) ≡ true → (1 ≤ s) × (s ≤ count)
server_test s count true true e f h = (grind (arith, nat_tests), grind (arith, nat_tests))
server_test s count true false e f h = absurd cc
server_test s count false q e f h = absurd cc

server_is : (s : ℕ) (c : ClientState) → is_server s c ≡ true → (1 ≤ s) × (s ≤ length c.links)
server_is s c h = server_test s (length c.links) _ _ refl refl h

happens_silent : (h : Happening) (server : ℕ) (c : ClientState) → is_known h c ≡ true → IsBeyond server (length c.links)
    → IsSilent server c (happens h c).client (happens h c).acts
happens_silent (Opens s) server c known beyond = let here = server_is s c known in
    let silent = linked_silent s server _ _ beyond here.0 here.1 in record { told = silent.told; count = silent.count }
happens_silent (Refuses s) server c known beyond = let here = server_is s c known in linked_silent s server _ c beyond here.0 here.1
happens_silent (Hears s h) server c known beyond = let here = server_is s c known in linked_silent s server _ c beyond here.0 here.1
happens_silent (Closes s) server c known beyond = let here = server_is s c known in linked_silent s server _ c beyond here.0 here.1
happens_silent (Ticks ms) server c known beyond =
    each_silent (λ s d. linked_by s (alone.after (alone.Ticks ms) (link_of s d)) d) (length c.links) (length c.links) server c (omega arith) refl beyond
    (λ s d long from to. one_silent s server (length c.links) (alone.after (alone.Ticks ms) (link_of s d)) d long beyond from to)

after_test : (b : Bool) (h : Happening) (server : ℕ) (c : ClientState) → is_known h c ≡ b → IsBeyond server (length c.links)
    → IsSilent server c (if b then and_then settled (and_then (happens h) (happening h c)) else nothing c).client
    (if b then and_then settled (and_then (happens h) (happening h c)) else nothing c).acts
after_test false h server c e beyond = silent_nothing server c
after_test true h server c e beyond =
    let did : ClientDid = and_then (happens h) (happening h c) in
    let own : IsSilent server c (happens h c).client (happens h c).acts = happens_silent h server c e beyond in
    let first : IsSilent server c did.client did.acts = record { told = own.told; count = own.count } in
    silent_then server c did.client (settled did.client).client did.acts (settled did.client).acts first
    (settled_silent (length did.client.links + 1) (ready_of did.client) server did.client (beyond_still server c did.client first.count beyond))

moment_silent : (m : Moment) (server : ℕ) (c : ClientState) → IsBeyond server (length c.links)
    → IsSilent server c (at_moment m c).client (at_moment m c).acts
unfolding after
moment_silent (Goes h) server c beyond = after_test (is_known h c) h server c refl beyond
moment_silent Ends server c beyond = record { told = refl; count = dialled_long c }
moment_silent (Takes s) server c beyond = record { told = refl; count = wish_long s c }

all_silent : (moments : List Moment) (server : ℕ) (c : ClientState) → IsBeyond server (length c.links)
    → IsSilent server c (after_all moments c).client (after_all moments c).acts
unfolding after_all
all_silent [] server c beyond = silent_nothing server c
all_silent (m ∷ moments) server c beyond =
    let did : ClientDid = at_moment m c in
    let first : IsSilent server c did.client did.acts = moment_silent m server c beyond in
    silent_then server c did.client (after_all moments did.client).client did.acts (after_all moments did.client).acts first
    (all_silent moments server did.client (beyond_still server c did.client first.count beyond))

pub others_are_silent : (config : ClientConfig) (moments : List Moment) (server : ℕ) → (server ≡ 0) ⊎ (servers_of config < server)
    → told_of server (acts_of config moments) ≡ []
others_are_silent config moments server beyond =
    let count : length (new_client config).links ≡ servers_of config =
    dialled_long (idle_client config) ∙ length-replicate (servers_of config) (new_link (link_config config)) in
    (all_silent moments server (new_client config) (subst (IsBeyond server) (sym count) beyond)).told
