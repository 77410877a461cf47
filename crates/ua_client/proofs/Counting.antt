-- What counts servers, or turns: none, and one more.
use Rattle.std.proofs.Common.{◌≡◌, ◌≤◌, ℕ, suc, ◌+◌, ◌-◌, ◌&&◌, ◌++◌, List, [], true, cond, Some, None, refl, ap, arith}
use Rattle.failover_core.specs.declared.choice.Candidate.{Candidate}
use Rattle.ua_channel.specs.Sharing.{Ends}
use Rattle.link_rules.specs.State.{is_idle}
use Rattle.link_rules.specs.Opening.{may_dial}
use Rattle.client_rules.specs.State.{ClientState, link_of}
use Rattle.client_rules.specs.Links.{server_after}
use Rattle.client_rules.specs.Doing.{ClientDid, and_then, each_server, nothing}
use Rattle.client_rules.specs.Settling.{are_fewer, candidate_of, ready_among, ready_of, round, settled_within}
use Rattle.client_rules.specs.Dialling.{are_idle, dials_among, dials_at, first_to_dial}
use Rattle.ua_client.specs.State.{end_opened, first_ends}
use Rattle.ua_client.specs.Step.{shut_among, shut_at}

next : (count : ℕ) → count + 1 ≡ suc count
next count = omega arith

pub each_none : (rule : ℕ → ClientState → ClientDid) (c : ClientState) → each_server rule 0 c ≡ nothing c
unfolding each_server
each_none rule c = refl

pub each_next : (rule : ℕ → ClientState → ClientDid) (count : ℕ) (c : ClientState)
    → each_server rule (count + 1) c ≡ and_then (rule (count + 1)) (each_server rule count c)
unfolding each_server
each_next rule count c = ap (λ n. each_server rule n c) (next count)

pub ready_none : (c : ClientState) → ready_among 0 c ≡ []
unfolding ready_among
ready_none c = refl

pub ready_next : (count : ℕ) (c : ClientState) → ready_among (count + 1) c ≡ ready_among count c ++ candidate_of (count + 1) c
unfolding ready_among
ready_next count c = ap (λ n. ready_among n c) (next count)

pub dials_none : (c : ClientState) → dials_among 0 c ≡ c
unfolding dials_among
dials_none c = refl

pub dials_next : (count : ℕ) (c : ClientState) → dials_among (count + 1) c ≡ dials_at (count + 1) (dials_among count c)
unfolding dials_among
dials_next count c = ap (λ n. dials_among n c) (next count)

pub idle_none : (c : ClientState) → are_idle 0 c ≡ true
unfolding are_idle
idle_none c = refl

pub idle_next : (count : ℕ) (c : ClientState) → are_idle (count + 1) c ≡ (are_idle count c && is_idle (link_of (count + 1) c))
unfolding are_idle
idle_next count c = ap (λ n. are_idle n c) (next count)

pub shut_none : (c : ClientState) (ends : Ends) → shut_among 0 c ends ≡ ends
unfolding shut_among
shut_none c ends = refl

pub shut_next : (count : ℕ) (c : ClientState) (ends : Ends)
    → shut_among (count + 1) c ends ≡ shut_at (count + 1) c (shut_among count c ends)
unfolding shut_among
shut_next count c ends = ap (λ n. shut_among n c ends) (next count)

pub ends_none : first_ends 0 ≡ []
unfolding first_ends
ends_none = refl

pub ends_next : (count : ℕ) → first_ends (count + 1) ≡ end_opened (count + 1) (first_ends count)
unfolding first_ends
ends_next count = ap first_ends (next count)

-- ---- what counts down

last : (count : ℕ) → 1 ≤ count → count ≡ suc (count - 1)
last count some = omega arith

pub first_none : (server : ℕ) (c : ClientState) → first_to_dial 0 server c ≡ None
unfolding first_to_dial
first_none server c = refl

pub first_some : (count server : ℕ) (c : ClientState) → 1 ≤ count
    → first_to_dial count server c ≡ cond (may_dial (link_of server c)) (Some server) (first_to_dial (count - 1) (server_after server c) c)
unfolding first_to_dial
first_some count server c some = ap (λ n. first_to_dial n server c) (last count some)

pub within_none : (ready : List Candidate) (c : ClientState) → settled_within 0 ready c ≡ nothing c
unfolding settled_within
within_none ready c = refl

pub within_some : (most : ℕ) (ready : List Candidate) (c : ClientState) → 1 ≤ most
    → settled_within most ready c ≡ cond (are_fewer (ready_of (round ready c).client) ready)
    (and_then (settled_within (most - 1) (ready_of (round ready c).client)) (round ready c)) (round ready c)
unfolding settled_within
within_some most ready c some = ap (λ n. settled_within n ready c) (last most some)
