-- Time stands at the last age.
use Rattle.std.proofs.Common.{◌≡◌, ◌<◌, ◌≤◌, ℕ, zero, suc, ◌+◌, ◌-◌, ◌^◌, ◌==◌, ◌∙◌, sym, ap, ◌++◌, Bool, true, false, nat_le, min, refl, arith}
use Rattle.std.proofs.lemmas.Bool.Decides.{nat_tests}
use Rattle.std.proofs.lemmas.List.{append-nil, append_assoc}
use Rattle.server_rules.specs.State.{ServerState}
use Rattle.server_rules.specs.Said.{Did, and_then, nothing}
use Rattle.server_rules.specs.Timer.{millisecond, ticked}
use Rattle.server_subs.proofs.Keeping.{moment_age}

ticked_none : (s : ServerState) → ticked zero s ≡ nothing s
unfolding ticked
ticked_none s = refl

ticked_one : (n : ℕ) (s : ServerState) → ticked (suc n) s ≡ and_then (ticked n) (millisecond s)
unfolding ticked
ticked_one n s = refl

then_then : (first second : ServerState → Did) (did : Did) → and_then second (and_then first did) ≡ and_then (λ s. and_then second (first s)) did
then_then first second did =
    ap (λ said. record { state = (second (first did.state).state).state; said = said })
    (append_assoc did.said (first did.state).said (second (first did.state).state).said)

pub ticked_add : (n more : ℕ) (s : ServerState) → ticked (n + more) s ≡ and_then (ticked more) (ticked n s)
ticked_add zero more s =
    let none : 0 + more ≡ more = omega arith in
    ap (λ k. ticked k s) none ∙ ap (λ did. and_then (ticked more) did) (sym (ticked_none s))
ticked_add (suc n) more s =
    let one : ticked (n + more) (millisecond s).state ≡ and_then (ticked more) (ticked n (millisecond s).state) = ticked_add n more (millisecond s).state in
    let count : suc n + more ≡ suc (n + more) = omega arith in
    ap (λ k. ticked k s) count
    ∙ ticked_one (n + more) s
    ∙ ap (λ did. record { state = did.state; said = (millisecond s).said ++ did.said }) one
    ∙ sym (then_then (ticked n) (ticked more) (millisecond s))
    ∙ ap (λ did. and_then (ticked more) did) (sym (ticked_one n s))

still : (s : ServerState) → (s.age == 2 ^ 64 - 1) ≡ true → millisecond s ≡ nothing s
unfolding millisecond
still s last = rw last refl

ticked_at_last : (n : ℕ) (s : ServerState) → (s.age == 2 ^ 64 - 1) ≡ true → ticked n s ≡ nothing s
ticked_at_last zero s last = ticked_none s
ticked_at_last (suc n) s last =
    ticked_one n s ∙ ap (λ did. and_then (ticked n) did) (still s last) ∙ ticked_at_last n s last

age_after_one : (s : ServerState) → s.age < 2 ^ 64 - 1 → (millisecond s).state.age ≡ s.age + 1
unfolding millisecond
age_after_one s early =
    let test : (s.age == 2 ^ 64 - 1) ≡ false = grind (arith, nat_tests) in
    rw test (moment_age (record s { age = s.age + 1 }))

age_after : (n : ℕ) (s : ServerState) → s.age + n ≤ 2 ^ 64 - 1 → (ticked n s).state.age ≡ s.age + n
age_after zero s early = ap (λ did. did.state.age) (ticked_none s) ∙ omega arith
age_after (suc n) s early =
    let one : (millisecond s).state.age ≡ s.age + 1 = age_after_one s (omega arith) in
    let rest : (ticked n (millisecond s).state).state.age ≡ (millisecond s).state.age + n = age_after n (millisecond s).state (omega arith) in
    ap (λ did. did.state.age) (ticked_one n s) ∙ rest ∙ omega arith

-- beyond the last age no time goes by
pub ticked_up_to : (ms : ℕ) (s : ServerState) → s.age ≤ 2 ^ 64 - 1 → ticked ms s ≡ ticked (min (s.age + ms) (2 ^ 64 - 1) - s.age) s
ticked_up_to ms s within = by (nat_le (s.age + ms) (2 ^ 64 - 1)) refl
  where
    by : (b : Bool) → nat_le (s.age + ms) (2 ^ 64 - 1) ≡ b → ticked ms s ≡ ticked (min (s.age + ms) (2 ^ 64 - 1) - s.age) s
    by true is =
        let count : ms ≡ min (s.age + ms) (2 ^ 64 - 1) - s.age = grind (arith, nat_tests) in
        ap (λ k. ticked k s) count
    by false is =
        let left : ℕ = 2 ^ 64 - 1 - s.age in
        let more : ℕ = ms - left in
        let count : ms ≡ left + more = grind (arith, nat_tests) in
        let same : min (s.age + ms) (2 ^ 64 - 1) - s.age ≡ left = grind (arith, nat_tests) in
        let age : (ticked left s).state.age ≡ s.age + left = age_after left s (omega arith) in
        let last : ((ticked left s).state.age == 2 ^ 64 - 1) ≡ true = grind (arith, nat_tests) in
        let still : ticked more (ticked left s).state ≡ nothing (ticked left s).state = ticked_at_last more (ticked left s).state last in
        ap (λ k. ticked k s) count
        ∙ ticked_add left more s
        ∙ ap (λ did. record { state = did.state; said = (ticked left s).said ++ did.said }) still
        ∙ ap (λ said. record { state = (ticked left s).state; said = said }) (append-nil (ticked left s).said)
        ∙ ap (λ k. ticked k s) (sym same)

pub up_to_end : (ms end : ℕ) (s : ServerState) → s.age ≤ 2 ^ 64 - 1 → end ≡ min (s.age + ms) (2 ^ 64 - 1) → ticked ms s ≡ ticked (end - s.age) s
up_to_end ms end s early is = ticked_up_to ms s early ∙ ap (λ k. ticked (k - s.age) s) (sym is)

-- where none is left
pub no_time : (n : ℕ) (s : ServerState) → n ≡ 0 → ticked n s ≡ nothing s
no_time n s is = ap (λ k. ticked k s) is ∙ ticked_none s
