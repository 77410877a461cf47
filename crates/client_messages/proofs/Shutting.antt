-- The ends of the first so many servers are shut where nothing is heard.
use Rattle.std.proofs.Common.{◌≡◌, ◌≢◌, ℕ, zero, suc, ◌+◌, ◌==◌, ◌&&◌, Bool, true, false, cond, nat_le, Option, refl, sym, ap, subst, ◌∙◌, arith}
use Rattle.std.proofs.lemmas.Bool.Decides.{nat_tests}
use Rattle.ua_channel.specs.State.{ChannelState, is_deaf, shut}
use Rattle.ua_channel.specs.Sharing.{Ends, end_at}
use Rattle.client_rules.specs.State.{ClientState, is_server}
use Rattle.client_rules.specs.Step.{ears}
use Rattle.client_cuts.proofs.Cutting.{deaf_ears, shut_for}
use Rattle.client_cuts.proofs.Ends.{at, found_changed, found_elsewhere, mapped, shut_all, shut_if}

abbrev pub shut_in : Bool → Option ChannelState → Option ChannelState
shut_in b found = cond b (mapped shut found) found

abbrev pub is_among : ℕ → ℕ → Bool
is_among number count = nat_le 1 number && nat_le number count

pub none_among : (number : ℕ) → is_among number zero ≡ false
none_among number = grind (arith, nat_tests)

pub last_among : (count : ℕ) → is_among (count + 1) (suc count) ≡ true
last_among count = grind (arith, nat_tests)

pub next_among : (count : ℕ) → is_among (count + 1) count ≡ false
next_among count = grind (arith, nat_tests)

pub more_among : (number count : ℕ) → (number == count + 1) ≡ false → is_among number (suc count) ≡ is_among number count
more_among number count differs = by_test (is_among number count) refl
  where
    by_test : (b : Bool) → is_among number count ≡ b → is_among number (suc count) ≡ b
    by_test true e = grind (arith, nat_tests)
    by_test false e = grind (arith, nat_tests)

pub same_number : (a b : ℕ) → (a == b) ≡ true → a ≡ b
same_number a b e = grind (arith, nat_tests)

pub other_number : (a b : ℕ) → (a == b) ≡ false → a ≢ b
other_number a b e = grind (arith, nat_tests)

found_own : (b : Bool) (number : ℕ) (ends : Ends) → end_at number (shut_if b number ends) ≡ shut_in b (end_at number ends)
found_own true number ends = found_changed (at number) shut ends
found_own false number ends = refl

found_other : (b : Bool) (number other : ℕ) (ends : Ends) → number ≢ other → end_at number (shut_if b other ends) ≡ end_at number ends
found_other true number other ends differs = found_elsewhere number other shut ends differs
found_other false number other ends differs = refl

step_by : (b : Bool) (d : ℕ → Bool) (count number : ℕ) (ends : Ends) → (number == count + 1) ≡ b
    → end_at number (shut_all d count ends) ≡ shut_in (is_among number count && d number) (end_at number ends)
    → end_at number (shut_if (d (count + 1)) (count + 1) (shut_all d count ends))
    ≡ shut_in (is_among number (suc count) && d number) (end_at number ends)
step_by true d count number ends e before =
    subst (λ n. end_at n (shut_all d count ends) ≡ shut_in (is_among n count && d n) (end_at n ends)
    → end_at n (shut_if (d (count + 1)) (count + 1) (shut_all d count ends)) ≡ shut_in (is_among n (suc count) && d n) (end_at n ends))
    (sym (same_number number (count + 1) e))
    (λ own. found_own (d (count + 1)) (count + 1) (shut_all d count ends)
    ∙ ap (shut_in (d (count + 1))) (own ∙ ap (λ b. shut_in (b && d (count + 1)) (end_at (count + 1) ends)) (next_among count))
    ∙ ap (λ b. shut_in (b && d (count + 1)) (end_at (count + 1) ends)) (sym (last_among count))) before
step_by false d count number ends e before =
    found_other (d (count + 1)) number (count + 1) (shut_all d count ends) (other_number number (count + 1) e) ∙ before
    ∙ ap (λ b. shut_in (b && d number) (end_at number ends)) (sym (more_among number count e))

pub found_shut : (d : ℕ → Bool) (count number : ℕ) (ends : Ends)
    → end_at number (shut_all d count ends) ≡ shut_in (is_among number count && d number) (end_at number ends)
found_shut d zero number ends = ap (λ b. shut_in (b && d number) (end_at number ends)) (sym (none_among number))
found_shut d (suc count) number ends = step_by (number == count + 1) d count number ends refl (found_shut d count number ends)

-- at the end of an event
pub end_shut : (number : ℕ) (c : ClientState) (ends : Ends)
    → end_at number (shut_for c ends) ≡ shut_in (is_server number c && is_deaf (ears number c)) (end_at number ends)
end_shut number c ends = found_shut (deaf_ears c) _ number ends
