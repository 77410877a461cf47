-- A fault is the last thing that a client hears of a connection.
use Rattle.std.proofs.Common.{◌≡◌, ◌≢◌, ◌⊎◌, inl, inr, ℕ, zero, suc, ◌+◌, ◌-◌, ◌≤◌, ◌==◌, ◌&&◌, Bool, true, false, cond, nat_le, List, [], ◌∷◌, length, Option, Some, None, slice_index_or, refl, sym, ap, ap₂, subst, ◌∙◌, arith}
use Rattle.std.proofs.lemmas.Bool.Decides.{nat_tests}
use Rattle.std.proofs.lemmas.Grind.{get_or-set_at}
use Rattle.std.proofs.lemmas.List.{length-set, get_or-set_other}
use Rattle.ua_channel.specs.declared.ear.Ear.{Ear}
use Rattle.ua_channel.specs.declared.ear.Ear.TheVariants as ear
use Rattle.ua_channel.specs.declared.heard.Heard.TheVariants as said
use Rattle.ua_channel.specs.State.{is_deaf}
use Rattle.ua_channel.specs.Node.{Deafens}
use Rattle.failover_core.specs.declared.choice.Candidate.{Candidate}
use Rattle.failover_core.specs.Choice.{switch_of, wanted}
use Rattle.link_rules.specs.declared.notice.Notice.{Notice}
use Rattle.link_rules.specs.declared.notice.Notice.TheVariants as notice
use Rattle.link_rules.specs.Said.{LinkDid}
use Rattle.link_rules.specs.State.{LinkState, is_ready, new_link}
use Rattle.link_rules.specs.Step as link
use Rattle.client_rules.specs.declared.config.ClientConfig.{ClientConfig}
use Rattle.client_rules.specs.Acts.{Hears}
use Rattle.client_rules.specs.Doing.{ClientDid, and_then, each_server, nothing}
use Rattle.client_rules.specs.Links.{all_told, fell, falls, linked, linked_by, moved, told}
use Rattle.client_rules.specs.Settling.{are_fewer, chosen, ready_of, round, settled, settled_within, switched, told_mode, with_choice}
use Rattle.client_rules.specs.State.{ClientState, is_server, link_config, link_of, with_link}
use Rattle.client_rules.specs.Step.{after, ears, happening, happens, heard}
use Rattle.ua_client.specs.Step.{rest_answer, rest_ears}
use Rattle.ua_client.proofs.Hushing.{IsDeaf, fault_deaf, wants_deaf}

-- a server whose link is deaf
record Hushed (server : ℕ) (c : ClientState) : Type 0 where
  from : 1 ≤ server
  to : server ≤ length c.links
  deaf : IsDeaf (link_of server c)

-- ---- a link does something

pub record KeepsLinks (c d : ClientState) : Type 0 where
  pub links : d.links ≡ c.links
  pub config : d.config ≡ c.config

told_keeps : (server : ℕ) (n : Notice) (c : ClientState) → KeepsLinks c (told server n c)
unfolding told
told_keeps server (notice.Level level) c = record { links = refl; config = refl }
told_keeps server other c = record { links = refl; config = refl }

all_keep : (server : ℕ) (notices : List Notice) (c : ClientState) → KeepsLinks c (all_told server notices c)
unfolding all_told
all_keep server [] c = record { links = refl; config = refl }
all_keep server (n ∷ notices) c =
    let one = told_keeps server n c in
    let more = all_keep server notices (told server n c) in
    record { links = more.links ∙ one.links; config = more.config ∙ one.config }

fell_keeps : (server : ℕ) (b : Bool) (c : ClientState) → KeepsLinks c (fell server b c)
fell_keeps server true c = record { links = refl; config = refl }
fell_keeps server false c = record { links = refl; config = refl }

pub linked_keeps : (server : ℕ) (did : LinkDid) (c : ClientState) → KeepsLinks (with_link server did.link c) (linked_by server did c).client
unfolding linked_by
linked_keeps server did c =
    let moves = fell_keeps server (falls (link_of server c) did.link) (with_link server did.link c) in
    let tells = all_keep server did.notices (moved server did.link c) in
    record { links = tells.links ∙ moves.links; config = tells.config ∙ moves.config }

link_kept : (server : ℕ) (c d : ClientState) → KeepsLinks c d → link_of server d ≡ link_of server c
link_kept server c d keeps =
    ap₂ (λ (ls : List LinkState) (g : ClientConfig). slice_index_or ls (server - 1) (new_link (link_config g))) keeps.links keeps.config

hushed_kept : (server : ℕ) (c d : ClientState) → KeepsLinks c d → Hushed server c → Hushed server d
hushed_kept server c d keeps hushed = record {
  from = hushed.from;
  to = subst (λ (ls : List LinkState). server ≤ length ls) (sym keeps.links) hushed.to;
  deaf = ap (λ l. is_deaf (link.ear_of l)) (link_kept server c d keeps) ∙ hushed.deaf;
}

-- that of the server itself
linked_here : (server : ℕ) (did : LinkDid) (c : ClientState) → 1 ≤ server → server ≤ length c.links → IsDeaf did.link
    → Hushed server (linked_by server did c).client
linked_here server did c from to deaf =
    hushed_kept server (with_link server did.link c) (linked_by server did c).client (linked_keeps server did c) (record {
      from = from;
      to = subst (λ n. server ≤ n) (sym (length-set c.links (server - 1) did.link)) to;
      deaf = ap (λ l. is_deaf (link.ear_of l))
          (get_or-set_at c.links (server - 1) (server - 1) did.link (new_link (link_config c.config)) refl (omega arith))
          ∙ deaf;
    })

apart : (server other : ℕ) → 1 ≤ server → 1 ≤ other → server ≢ other → server - 1 ≢ other - 1
apart server other from own differs = λ same. differs (omega arith)

-- that of another one
linked_there : (server other : ℕ) (did : LinkDid) (c : ClientState) → 1 ≤ other → server ≢ other → Hushed server c
    → Hushed server (linked_by other did c).client
linked_there server other did c own differs hushed =
    hushed_kept server (with_link other did.link c) (linked_by other did c).client (linked_keeps other did c) (record {
      from = hushed.from;
      to = subst (λ n. server ≤ n) (sym (length-set c.links (other - 1) did.link)) hushed.to;
      deaf = ap (λ l. is_deaf (link.ear_of l))
          (get_or-set_other c.links (other - 1) (server - 1) did.link (new_link (link_config c.config))
          (apart server other hushed.from own differs))
          ∙ hushed.deaf;
    })

same_or_not : (a b : ℕ) (t : Bool) → (a == b) ≡ t → (a ≡ b) ⊎ (a ≢ b)
same_or_not a b true e = inl (grind (arith, nat_tests))
same_or_not a b false e = inr (grind (arith, nat_tests))

linked_hushed : (server other : ℕ) (did : LinkDid) (c : ClientState) → 1 ≤ other → Hushed server c
    → (server ≡ other) ⊎ (server ≢ other) → (server ≡ other → IsDeaf did.link)
    → Hushed server (linked_by other did c).client
linked_hushed server other did c own hushed (inl is) deaf =
    subst (λ n. Hushed server (linked_by n did c).client) is (linked_here server did c hushed.from hushed.to (deaf is))
linked_hushed server other did c own hushed (inr differs) deaf = linked_there server other did c own differs hushed

-- ---- what follows

abbrev Leaves : ℕ → (ℕ → ClientState → ClientDid) → Type 0
Leaves server rule = (other : ℕ) (d : ClientState) → 1 ≤ other → Hushed server d → Hushed server (rule other d).client

each_hushed : (server : ℕ) (rule : ℕ → ClientState → ClientDid) (count : ℕ) (c : ClientState) → Leaves server rule
    → Hushed server c → Hushed server (each_server rule count c).client
unfolding each_server
each_hushed server rule zero c leaves hushed = hushed
each_hushed server rule (suc count) c leaves hushed =
    leaves (count + 1) (each_server rule count c).client (omega arith) (each_hushed server rule count c leaves hushed)

mode_by : (b : Bool) (server : ℕ) (did : ClientDid) (c : ClientState) → Hushed server c → Hushed server did.client
    → Hushed server (cond b did (nothing c)).client
mode_by true server did c hushed after = after
mode_by false server did c hushed after = hushed

mode_hushed : (server : ℕ) → Leaves server told_mode
unfolding told_mode
mode_hushed server other d own hushed =
    mode_by (is_ready (link_of other d)) server (linked other (link.wants (wanted other d.core)) d) d hushed
    (linked_hushed server other (link.wants (wanted other d.core) (link_of other d)) d own hushed
    (same_or_not server other _ refl)
    (λ is. wants_deaf (wanted other d.core) (link_of other d) (subst (λ n. IsDeaf (link_of n d)) is hushed.deaf)))

switched_hushed : (both : Option (ℕ × ℕ)) (server : ℕ) (c : ClientState) → Hushed server c → Hushed server (switched both c).client
switched_hushed None server c hushed = hushed
switched_hushed (Some both) server c hushed = record { from = hushed.from; to = hushed.to; deaf = hushed.deaf }

chosen_hushed : (server : ℕ) (ready : List Candidate) (c : ClientState) → Hushed server c → Hushed server (chosen ready c).client
unfolding chosen
chosen_hushed server ready c hushed =
    switched_hushed (switch_of ready c.core) server (with_choice ready c)
    (record { from = hushed.from; to = hushed.to; deaf = hushed.deaf })

round_hushed : (server : ℕ) (ready : List Candidate) (c : ClientState) → Hushed server c → Hushed server (round ready c).client
unfolding round
round_hushed server ready c hushed =
    each_hushed server told_mode (length (chosen ready c).client.links) (chosen ready c).client (mode_hushed server)
    (chosen_hushed server ready c hushed)

within_by : (b : Bool) (server : ℕ) (did : ClientDid) (rule : ClientState → ClientDid) → Hushed server did.client
    → Hushed server (rule did.client).client → Hushed server (cond b (and_then rule did) did).client
within_by true server did rule first second = second
within_by false server did rule first second = first

within_hushed : (server most : ℕ) (ready : List Candidate) (c : ClientState) → Hushed server c
    → Hushed server (settled_within most ready c).client
unfolding settled_within
within_hushed server zero ready c hushed = hushed
within_hushed server (suc most) ready c hushed =
    let first = round_hushed server ready c hushed in
    within_by (are_fewer (ready_of (round ready c).client) ready) server (round ready c)
    (settled_within most (ready_of (round ready c).client)) first
    (within_hushed server most (ready_of (round ready c).client) (round ready c).client first)

settled_hushed : (server : ℕ) (c : ClientState) → Hushed server c → Hushed server (settled c).client
settled_hushed server c hushed = within_hushed server (length c.links + 1) (ready_of c) c hushed

-- ---- a fault

is_from : (server count : ℕ) → (nat_le 1 server && nat_le server count) ≡ true → 1 ≤ server
is_from server count e = grind (arith, nat_tests)

is_to : (server count : ℕ) → (nat_le 1 server && nat_le server count) ≡ true → server ≤ count
is_to server count e = grind (arith, nat_tests)

heard_hushed : (server code : ℕ) (c : ClientState) → is_server server c ≡ true
    → Hushed server (and_then settled (and_then (happens (Hears server (said.Fault code))) (happening (Hears server (said.Fault code)) c))).client
heard_hushed server code c known =
    settled_hushed server (linked server (link.heard (said.Fault code)) c).client
    (linked_here server (link.heard (said.Fault code) (link_of server c)) c
    (is_from server (length c.links) known) (is_to server (length c.links) known) (fault_deaf code (link_of server c)))

ears_by : (b : Bool) (e : Ear) → is_deaf e ≡ true → is_deaf (cond b e ear.Deaf) ≡ true
ears_by true e deaf = deaf
ears_by false e deaf = refl

after_by : (b : Bool) (server code : ℕ) (c : ClientState) → is_server server c ≡ b
    → is_deaf (ears server (cond b
    (and_then settled (and_then (happens (Hears server (said.Fault code))) (happening (Hears server (said.Fault code)) c)))
    (nothing c)).client) ≡ true
after_by true server code c known =
    let hushed = heard_hushed server code c known in ears_by _ _ hushed.deaf
after_by false server code c known = ap (λ b. is_deaf (cond b (link.ear_of (link_of server c)) ear.Deaf)) known

heard_fault : (server code : ℕ) (c : ClientState) → is_deaf (ears server (heard server (said.Fault code) c).client) ≡ true
unfolding after
heard_fault server code c = after_by (is_server server c) server code c refl

pub deafens : (server : ℕ) → Deafens (rest_ears server) (rest_answer server)
deafens server = λ code s. heard_fault server code s.hub
