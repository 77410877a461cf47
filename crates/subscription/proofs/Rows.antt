-- What the rows of a cycle say of the counts.
use Rattle.std.proofs.Common.{◌≡◌, ◌≢◌, ℕ, ◌+◌, ◌<◌, ◌||◌, Bool, true, false, not, nat_le, if◌then◌else◌, refl, arith}
use Rattle.std.proofs.lemmas.Bool.Decides.{nat_tests}
use Rattle.subscription.specs.State.{SubState}
use Rattle.subscription.specs.declared.cycle.Cycle.{Cycle}
use Rattle.subscription.specs.declared.cycle.Cycle.TheVariants.{Quiet, Notify, KeepAlive, Late, Expired}
use Rattle.subscription.specs.Cycle.{has_something, is_forgotten, is_silent, row_of, wants}

silent_with : (has begun silent : Bool) → (if has then Notify else if (has || not begun || silent) then KeepAlive else Quiet) ≡ Quiet → silent ≡ false
silent_with true begun silent e = absurd cc
silent_with false true true e = absurd cc
silent_with false true false e = refl
silent_with false false silent e = absurd cc

silent_without : (has begun silent forgotten : Bool)
    → (if forgotten then Expired else if (has || not begun || silent) then Late else Quiet) ≡ Quiet → silent ≡ false
silent_without has begun silent true e = absurd cc
silent_without true begun silent false e = absurd cc
silent_without false true true false e = absurd cc
silent_without false true false false e = refl
silent_without false false silent false e = absurd cc

-- a quiet cycle doesn't reach the keep-alive count
pub quiet_is_short : (queued : Bool) (s : SubState) → row_of queued s ≡ Quiet → is_silent s ≡ false
quiet_is_short true s e = silent_with (has_something s) s.begun (is_silent s) e
quiet_is_short false s e = silent_without (has_something s) s.begun (is_silent s) (is_forgotten s) e

forgotten_without : (forgotten : Bool) (row : Cycle) → (if forgotten then Expired else row) ≢ Expired → forgotten ≡ false
forgotten_without true row n = absurd (n refl)
forgotten_without false row n = refl

-- where no Publish request is queued, a cycle that doesn't end the subscription doesn't reach the lifetime count
pub lasting_is_short : (s : SubState) → row_of false s ≢ Expired → is_forgotten s ≡ false
lasting_is_short s n = forgotten_without (is_forgotten s) (if wants s then Late else Quiet) n

pub below : (count most : ℕ) → nat_le most (count + 1) ≡ false → count + 1 < most
below count most e = grind (arith, nat_tests)
