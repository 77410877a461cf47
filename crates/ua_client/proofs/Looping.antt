-- What servers do one by one, and rounds one after the other, with the orders that they give.
use Rattle.std.proofs.Common.{◌≡◌, ◌<◌, ◌≤◌, ℕ, ◌+◌, ◌-◌, List, ◌++◌, length, cond, nat_lt, true, refl, sym, ap, ap₂, ◌∙◌, arith}
use Rattle.std.proofs.lemmas.Bool.Decides.{nat_tests}
use Rattle.std.proofs.lemmas.List.{append-nil, append_assoc}
use Rattle.failover_core.specs.declared.choice.Candidate.{Candidate}
use Rattle.ua_channel.specs.declared.wire.Order.{Order}
use Rattle.client_rules.specs.State.{ClientState}
use Rattle.client_rules.specs.Doing.{ClientDid, and_then, each_server}
use Rattle.client_rules.specs.Settling.{are_fewer, ready_of, round, settled_within}
use Rattle.ua_client.proofs.Counting.{each_next, within_none, within_some}

-- ---- servers

pub each_begins : (rule : ℕ → ClientState → ClientDid) (c : ClientState) (to : List (ℕ × Order))
    → (c ≡ (each_server rule 0 c).client) × (to ≡ to ++ (each_server rule 0 c).orders) × (length c.links ≡ length c.links)
unfolding each_server
each_begins rule c to = (refl, sym (append-nil to), refl)

pub each_goes_on : (rule : ℕ → ClientState → ClientDid) (count : ℕ) (first mid after : ClientState) (to between more : List (ℕ × Order))
    → (mid ≡ (each_server rule count first).client) × (between ≡ to ++ (each_server rule count first).orders) × (length mid.links ≡ length first.links)
    → after ≡ (rule (count + 1) mid).client → more ≡ between ++ (rule (count + 1) mid).orders → length after.links ≡ length mid.links
    → (after ≡ (each_server rule (count + 1) first).client) × (more ≡ to ++ (each_server rule (count + 1) first).orders) × (length after.links ≡ length first.links)
each_goes_on rule count first mid after to between more before after_is more_is same =
    let did : ClientDid = each_server rule count first in
    let next = each_next rule count first in (
      after_is ∙ ap (λ (m : ClientState). (rule (count + 1) m).client) before.0 ∙ sym (ap (λ (d : ClientDid). d.client) next),
      more_is ∙ ap₂ (λ (b : List (ℕ × Order)) (m : ClientState). b ++ (rule (count + 1) m).orders) before.1 before.0
          ∙ append_assoc to did.orders (rule (count + 1) did.client).orders ∙ sym (ap (λ (d : ClientDid). to ++ d.orders) next),
      same ∙ before.2,
    )

-- ---- rounds

pub none_left : (most : ℕ) (ready : List Candidate) (c : ClientState) (to : List (ℕ × Order)) → most ≡ 0
    → to ≡ to ++ (settled_within most ready c).orders
none_left most ready c to is =
    sym (append-nil to) ∙ sym (ap (λ (d : ClientDid). to ++ d.orders) (ap (λ n. settled_within n ready c) is ∙ within_none ready c))

fewer_test : (after before : List Candidate) → length after < length before → are_fewer after before ≡ true
fewer_test after before fewer = grind (arith, nat_tests)

pub one_round : (most : ℕ) (ready rest : List Candidate) (c mid : ClientState) (to between more : List (ℕ × Order))
    → 1 ≤ most → mid ≡ (round ready c).client → between ≡ to ++ (round ready c).orders → rest ≡ ready_of mid
    → length rest < length ready → more ≡ between ++ (settled_within (most - 1) rest mid).orders
    → more ≡ to ++ (settled_within most ready c).orders
one_round most ready rest c mid to between more some mid_is between_is rest_is fewer more_is =
    let did : ClientDid = round ready c in
    let same : rest ≡ ready_of did.client = rest_is ∙ ap ready_of mid_is in
    let next : ClientDid = settled_within (most - 1) (ready_of did.client) did.client in
    let test : are_fewer (ready_of did.client) ready ≡ true =
    ap (λ (l : List Candidate). nat_lt (length l) (length ready)) (sym same) ∙ fewer_test rest ready fewer in
    more_is
    ∙ ap₂ (λ (l : List Candidate) (m : ClientState). between ++ (settled_within (most - 1) l m).orders) same mid_is
    ∙ ap (λ (b : List (ℕ × Order)). b ++ next.orders) between_is
    ∙ append_assoc to did.orders next.orders
    ∙ sym (ap (λ (d : ClientDid). to ++ d.orders)
    (within_some most ready c some
    ∙ ap (λ b. cond b (and_then (settled_within (most - 1) (ready_of did.client)) did) did) test))
