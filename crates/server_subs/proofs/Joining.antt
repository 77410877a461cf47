-- What is said by one rule after another, and by a loop of rules.
use Rattle.std.proofs.Common.{◌≡◌, ℕ, suc, ◌+◌, ◌<◌, List, ◌++◌, drop, get_or, length, sym, ◌∙◌, ap, ap₂, arith, subst}
use Rattle.std.proofs.Math.Seq.{drop-cons}
use Rattle.std.proofs.lemmas.List.{append-nil, append_assoc, map-append}
use Rattle.ua_channel.specs.declared.wire.Order.{Order}
use Rattle.server_rules.specs.State.{ServerState}
use Rattle.server_rules.specs.Said.{Did, Said, and_then, each, nothing, order_of, orders_of}
use Rattle.server_subs.specs.Continuing.{Continues}

pub joined : (to : List (ℕ × Order)) (one more : List Said) → to ++ orders_of one ++ orders_of more ≡ to ++ orders_of (one ++ more)
joined to one more = append_assoc to (orders_of one) (orders_of more) ∙ ap (λ all. to ++ all) (sym (map-append order_of one more))

-- a step of it
pub continues : (rule : ServerState → Did) (did rest all : Did) (s : ServerState) (to after before : List (ℕ × Order))
    → rest ≡ and_then rule did → s ≡ did.state → after ≡ to ++ orders_of did.said → Continues rest all to before
    → Continues (rule s) all after before
continues rule did rest all s to after before is stands more h =
    subst (λ x. Continues (rule x) all after before) (sym stands) (record {
      state = sym (ap (λ d. d.state) is) ∙ h.state;
      said = ap (λ x. x ++ orders_of (rule did.state).said) more ∙ joined to did.said (rule did.state).said
          ∙ sym (ap (λ d. to ++ orders_of d.said) is) ∙ h.said;
    })

-- its end
pub ended : (rest all : Did) (s : ServerState) (to before : List (ℕ × Order)) → rest ≡ nothing s → Continues rest all to before
    → (s ≡ all.state) × (to ≡ before ++ orders_of all.said)
ended rest all s to before is h =
    (sym (ap (λ d. d.state) is) ∙ h.state, sym (append-nil to) ∙ sym (ap (λ d. to ++ orders_of d.said) is) ∙ h.said)

-- one of a list of rules, and the others after it
pub each_next : (rule : ℕ → ServerState → Did) (ids : List ℕ) (place id : ℕ) (s : ServerState) → place < length ids → id ≡ get_or ids place id
    → each rule (drop place ids) s ≡ and_then (each rule (drop (place + 1) ids)) (rule id s)
each_next rule ids place id s within reads =
    let next : suc place ≡ place + 1 = omega arith in
    ap (λ (more : List ℕ). each rule more s) (drop-cons ids place id within)
    ∙ ap₂ (λ (first n : ℕ). and_then (each rule (drop n ids)) (rule first s)) (sym reads) next

-- one after another
pub through : (one two all : Did) (to middle before : List (ℕ × Order)) → Continues one two to middle → Continues two all middle before
    → Continues one all to before
through one two all to middle before first then_more =
    record { state = first.state ∙ then_more.state; said = first.said ∙ then_more.said }
