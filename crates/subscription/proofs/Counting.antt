-- The counts of cycles are those of the calls.
use Rattle.std.proofs.Common.{◌≡◌, ◌≢◌, ℕ, ℤ, ◌+◌, ◌≤◌, List, [], ◌∷◌, Bool, true, false, cond, refl, sym, ap, ◌∙◌, arith}
use Rattle.std.specs.Prelude.{◌↔◌, ◌||◌, not, nat_le}
use Rattle.std.proofs.lemmas.Bool.Decides.{nat_tests}
use Rattle.subscription.specs.declared.spec.SubSpec.{SubSpec}
use Rattle.subscription.specs.declared.cycle.Cycle.{Cycle}
use Rattle.subscription.specs.declared.cycle.Cycle.TheVariants.{Quiet, Notify, KeepAlive, Late, Expired}
use Rattle.subscription.specs.State.{SubState}
use Rattle.subscription.specs.Items.{Told}
use Rattle.subscription.specs.Calls.{after_sending, entries_told, items_left, published, sent_with}
use Rattle.subscription.specs.Cycle.{after_row, cycled, has_something, is_forgotten, is_silent, life_after, row_of, wants}
use Rattle.subscription.specs.History.{Call, Add, Remove, SetMode, Feed, Timer, Publish, Acknowledge, Modify, SetEnabled, Moved, state_of}
use Rattle.subscription.specs.Counts.{Lasts, has_begun, silent, unserved, with_quiet}

never_ends : (has wanted : Bool) → cond has Notify (cond wanted KeepAlive Quiet) ≡ Expired → ⊥
never_ends true wanted is = absurd cc
never_ends false true is = absurd cc
never_ends false false is = absurd cc

-- a cycle with a Publish request queued never ends it
pub stays : (s : SubState) → row_of true s ≡ Expired → ⊥
stays s is = never_ends (has_something s) (wants s) is

life_on : (queued : Bool) (s : SubState) (row : Cycle) → row ≢ Expired → (after_row row queued s).life ≡ life_after queued s.life
life_on queued s Quiet lasts = refl
life_on queued s Notify lasts = refl
life_on queued s KeepAlive lasts = refl
life_on queued s Late lasts = refl
life_on queued s Expired lasts = absurd (lasts refl)

pub served : (s : SubState) → (cycled true s).life ≡ 0
served s = life_on true s (row_of true s) (stays s)

published_life : (now : ℤ) (s : SubState) → (published now s).life ≡ s.life
published_life now s = by_entries (entries_told s)
  where
    by_entries : (entries : List Told) → (after_sending (sent_with entries now (record s { items = items_left s }))).life ≡ s.life
    by_entries [] = refl
    by_entries (one ∷ more) = refl

life_is : (spec : SubSpec) (start : ℕ) (calls : List Call) → Lasts spec start calls → (state_of spec start calls).life ≡ unserved calls
life_is spec start [] lasts = refl
life_is spec start (Timer true ∷ earlier) lasts = served (state_of spec start earlier)
life_is spec start (Timer false ∷ earlier) lasts =
    life_on false (state_of spec start earlier) (row_of false (state_of spec start earlier)) lasts.0 ∙ ap (λ n. n + 1) (life_is spec start earlier lasts.1)
life_is spec start (Modify changed now ∷ earlier) lasts = refl
life_is spec start (Moved ∷ earlier) lasts = refl
life_is spec start (Add item current ∷ earlier) lasts = life_is spec start earlier lasts.1
life_is spec start (Remove id ∷ earlier) lasts = life_is spec start earlier lasts.1
life_is spec start (SetMode id mode current ∷ earlier) lasts = life_is spec start earlier lasts.1
life_is spec start (Feed change ∷ earlier) lasts = life_is spec start earlier lasts.1
life_is spec start (Publish now ∷ earlier) lasts = published_life now (state_of spec start earlier) ∙ life_is spec start earlier lasts.1
life_is spec start (Acknowledge number ∷ earlier) lasts = life_is spec start earlier lasts.1
life_is spec start (SetEnabled enabled ∷ earlier) lasts = life_is spec start earlier lasts.1

forgotten_of : (forgotten wanted : Bool) → cond forgotten Expired (cond wanted Late Quiet) ≡ Expired → forgotten ≡ true
forgotten_of true wanted is = refl
forgotten_of false true is = absurd cc
forgotten_of false false is = absurd cc

-- without one it ends exactly where the lifetime count is reached
pub ends : (spec : SubSpec) (start : ℕ) (calls : List Call) → Lasts spec start calls
    → (row_of false (state_of spec start calls) ≡ Expired) ↔ ((state_of spec start calls).spec.lifetime ≤ unserved calls + 1)
ends spec start calls lasts =
    let s : SubState = state_of spec start calls in
    let life : s.life ≡ unserved calls = life_is spec start calls lasts in (
      λ is.
          let test : nat_le s.spec.lifetime (s.life + 1) ≡ true = forgotten_of (is_forgotten s) (wants s) is in
          let reached : s.spec.lifetime ≤ s.life + 1 = grind (arith, nat_tests) in
          omega arith,
      λ reached.
          let test : nat_le s.spec.lifetime (s.life + 1) ≡ true = grind (arith, nat_tests) in
          ap (λ b. cond b Expired (cond (wants s) Late Quiet)) test,
    )

quiet_on : (queued : Bool) (s : SubState) (row : Cycle) → (after_row row queued s).quiet ≡ with_quiet row s.quiet
quiet_on queued s Quiet = refl
quiet_on queued s Notify = refl
quiet_on queued s KeepAlive = refl
quiet_on queued s Late = refl
quiet_on queued s Expired = refl

quiet_is : (spec : SubSpec) (start : ℕ) (calls : List Call) → (state_of spec start calls).quiet ≡ silent spec start calls
quiet_is spec start [] = refl
quiet_is spec start (Timer queued ∷ earlier) =
    quiet_on queued (state_of spec start earlier) (row_of queued (state_of spec start earlier))
    ∙ ap (with_quiet (row_of queued (state_of spec start earlier))) (quiet_is spec start earlier)
quiet_is spec start (Modify changed now ∷ earlier) = refl
quiet_is spec start (Moved ∷ earlier) = quiet_is spec start earlier
quiet_is spec start (Add item current ∷ earlier) = quiet_is spec start earlier
quiet_is spec start (Remove id ∷ earlier) = quiet_is spec start earlier
quiet_is spec start (SetMode id mode current ∷ earlier) = quiet_is spec start earlier
quiet_is spec start (Feed change ∷ earlier) = quiet_is spec start earlier
quiet_is spec start (Publish now ∷ earlier) = refl
quiet_is spec start (Acknowledge number ∷ earlier) = quiet_is spec start earlier
quiet_is spec start (SetEnabled enabled ∷ earlier) = quiet_is spec start earlier

begun_on : (queued : Bool) (s : SubState) (row : Cycle) → (after_row row queued s).begun ≡ s.begun
begun_on queued s Quiet = refl
begun_on queued s Notify = refl
begun_on queued s KeepAlive = refl
begun_on queued s Late = refl
begun_on queued s Expired = refl

begun_is : (spec : SubSpec) (start : ℕ) (calls : List Call) → (state_of spec start calls).begun ≡ has_begun calls
begun_is spec start [] = refl
begun_is spec start (Timer queued ∷ earlier) =
    begun_on queued (state_of spec start earlier) (row_of queued (state_of spec start earlier)) ∙ begun_is spec start earlier
begun_is spec start (Modify changed now ∷ earlier) = begun_is spec start earlier
begun_is spec start (Moved ∷ earlier) = begun_is spec start earlier
begun_is spec start (Add item current ∷ earlier) = begun_is spec start earlier
begun_is spec start (Remove id ∷ earlier) = begun_is spec start earlier
begun_is spec start (SetMode id mode current ∷ earlier) = begun_is spec start earlier
begun_is spec start (Feed change ∷ earlier) = begun_is spec start earlier
begun_is spec start (Publish now ∷ earlier) = refl
begun_is spec start (Acknowledge number ∷ earlier) = begun_is spec start earlier
begun_is spec start (SetEnabled enabled ∷ earlier) = begun_is spec start earlier

first_with : (has begun short : Bool) → has ≡ false → begun ≡ false → cond has Notify (cond (has || not begun || short) KeepAlive Quiet) ≡ KeepAlive
first_with true begun short nothing new = absurd cc
first_with false true short nothing new = absurd cc
first_with false false short nothing new = refl

pub first : (spec : SubSpec) (start : ℕ) (calls : List Call) → has_something (state_of spec start calls) ≡ false → has_begun calls ≡ false
    → row_of true (state_of spec start calls) ≡ KeepAlive
first spec start calls nothing new =
    let s : SubState = state_of spec start calls in
    first_with (has_something s) s.begun (is_silent s) nothing (begun_is spec start calls ∙ new)

later_with : (has begun short : Bool) → has ≡ false → begun ≡ true
    → cond has Notify (cond (has || not begun || short) KeepAlive Quiet) ≡ cond short KeepAlive Quiet
later_with true begun short nothing old = absurd cc
later_with false true short nothing old = refl
later_with false false short nothing old = absurd cc

short_of : (short : Bool) → cond short KeepAlive Quiet ≡ KeepAlive → short ≡ true
short_of true is = refl
short_of false is = absurd cc

pub later : (spec : SubSpec) (start : ℕ) (calls : List Call) → has_something (state_of spec start calls) ≡ false → has_begun calls ≡ true
    → (row_of true (state_of spec start calls) ≡ KeepAlive) ↔ ((state_of spec start calls).spec.keep_alive ≤ silent spec start calls + 1)
later spec start calls nothing old =
    let s : SubState = state_of spec start calls in
    let same : row_of true s ≡ cond (is_silent s) KeepAlive Quiet = later_with (has_something s) s.begun (is_silent s) nothing (begun_is spec start calls ∙ old) in
    let count : s.quiet ≡ silent spec start calls = quiet_is spec start calls in (
      λ is.
          let test : nat_le s.spec.keep_alive (s.quiet + 1) ≡ true = short_of (is_silent s) (sym same ∙ is) in
          let reached : s.spec.keep_alive ≤ s.quiet + 1 = grind (arith, nat_tests) in
          omega arith,
      λ reached.
          let test : nat_le s.spec.keep_alive (s.quiet + 1) ≡ true = grind (arith, nat_tests) in
          same ∙ ap (λ b. cond b KeepAlive Quiet) test,
    )
