-- A client has as many links as before, whatever is heard.
use Rattle.std.proofs.Common.{◌≡◌, ℕ, zero, suc, ◌+◌, ◌-◌, Bool, true, false, cond, List, length, Option, Some, None, refl, ap, ◌∙◌}
use Rattle.std.proofs.lemmas.List.{length-set}
use Rattle.ua_channel.specs.declared.heard.Heard.{Heard}
use Rattle.failover_core.specs.declared.choice.Candidate.{Candidate}
use Rattle.failover_core.specs.Choice.{switch_of, wanted}
use Rattle.link_rules.specs.Said.{LinkDid}
use Rattle.link_rules.specs.State.{LinkState, is_ready}
use Rattle.link_rules.specs.Step as link
use Rattle.client_rules.specs.Acts.{Hears}
use Rattle.client_rules.specs.Doing.{ClientDid, and_then, each_server, nothing}
use Rattle.client_rules.specs.Links.{linked, linked_by}
use Rattle.client_rules.specs.Settling.{are_fewer, chosen, ready_of, round, settled, settled_within, switched, told_mode, with_choice}
use Rattle.client_rules.specs.State.{ClientState, is_server, link_of}
use Rattle.client_rules.specs.Step.{after, happening, happens}
use Rattle.ua_client.proofs.Deafening.{linked_keeps}

abbrev count : ClientState → ℕ
count c = length c.links

linked_count : (server : ℕ) (did : LinkDid) (c : ClientState) → count (linked_by server did c).client ≡ count c
linked_count server did c =
    ap (λ (ls : List LinkState). length ls) (linked_keeps server did c).links ∙ length-set c.links (server - 1) did.link

abbrev Stays : (ℕ → ClientState → ClientDid) → Type 0
Stays rule = (server : ℕ) (c : ClientState) → count (rule server c).client ≡ count c

each_count : (rule : ℕ → ClientState → ClientDid) (servers : ℕ) (c : ClientState) → Stays rule
    → count (each_server rule servers c).client ≡ count c
unfolding each_server
each_count rule zero c stays = refl
each_count rule (suc servers) c stays =
    stays (servers + 1) (each_server rule servers c).client ∙ each_count rule servers c stays

mode_by : (b : Bool) (did : ClientDid) (c : ClientState) → count did.client ≡ count c → count (cond b did (nothing c)).client ≡ count c
mode_by true did c same = same
mode_by false did c same = refl

mode_count : Stays told_mode
unfolding told_mode
mode_count server c =
    mode_by (is_ready (link_of server c)) (linked server (link.wants (wanted server c.core)) c) c
    (linked_count server (link.wants (wanted server c.core) (link_of server c)) c)

switched_count : (both : Option (ℕ × ℕ)) (c : ClientState) → count (switched both c).client ≡ count c
switched_count None c = refl
switched_count (Some both) c = refl

chosen_count : (ready : List Candidate) (c : ClientState) → count (chosen ready c).client ≡ count c
unfolding chosen
chosen_count ready c = switched_count (switch_of ready c.core) (with_choice ready c)

round_count : (ready : List Candidate) (c : ClientState) → count (round ready c).client ≡ count c
unfolding round
round_count ready c =
    each_count told_mode (length (chosen ready c).client.links) (chosen ready c).client mode_count ∙ chosen_count ready c

within_by : (b : Bool) (did : ClientDid) (rule : ClientState → ClientDid) (c : ClientState) → count did.client ≡ count c
    → count (rule did.client).client ≡ count did.client → count (cond b (and_then rule did) did).client ≡ count c
within_by true did rule c first second = second ∙ first
within_by false did rule c first second = first

within_count : (most : ℕ) (ready : List Candidate) (c : ClientState) → count (settled_within most ready c).client ≡ count c
unfolding settled_within
within_count zero ready c = refl
within_count (suc most) ready c =
    within_by (are_fewer (ready_of (round ready c).client) ready) (round ready c)
    (settled_within most (ready_of (round ready c).client)) c (round_count ready c)
    (within_count most (ready_of (round ready c).client) (round ready c).client)

settled_count : (c : ClientState) → count (settled c).client ≡ count c
settled_count c = within_count (length c.links + 1) (ready_of c) c

hears_count : (server : ℕ) (h : Heard) (c : ClientState)
    → count (and_then settled (and_then (happens (Hears server h)) (happening (Hears server h) c))).client ≡ count c
hears_count server h c =
    settled_count (linked server (link.heard h) c).client ∙ linked_count server (link.heard h (link_of server c)) c

after_by : (b : Bool) (server : ℕ) (h : Heard) (c : ClientState)
    → count (cond b (and_then settled (and_then (happens (Hears server h)) (happening (Hears server h) c))) (nothing c)).client ≡ count c
after_by true server h c = hears_count server h c
after_by false server h c = refl

pub heard_count : (server : ℕ) (h : Heard) (c : ClientState) → length (after (Hears server h) c).client.links ≡ length c.links
unfolding after
heard_count server h c = after_by (is_server server c) server h c
