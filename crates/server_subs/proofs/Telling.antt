-- What the session that owned a subscription is told.
use Rattle.std.proofs.Common.{◌≡◌, ℕ, Option, Some, None, refl}
use Rattle.subscription.specs.State.{SubState}
use Rattle.server_rules.specs.State.{ServerState}
use Rattle.server_rules.specs.Moves.{told_why}
use Rattle.server_subs.specs.Leaving.{notice_for, told_by}

pub told_as : (owner : Option ℕ) (code : ℕ) (sub : Option SubState) (s : ServerState)
    → told_by owner (notice_for owner code sub) s ≡ told_why owner code sub s
told_as None code sub s = refl
told_as (Some session) code None s = refl
told_as (Some session) code (Some sub) s = refl
