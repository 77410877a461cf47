-- How many cycles went by, said of all calls so far (OPC 10000-4, 5.13.1.2).
use Rattle.std.specs.Prelude.{◌≢◌, ℕ, ◌+◌, List, [], ◌∷◌, Bool, true, false}
use Rattle.subscription.specs.declared.spec.SubSpec.{SubSpec}
use Rattle.subscription.specs.declared.cycle.Cycle.{Cycle}
use Rattle.subscription.specs.declared.cycle.Cycle.TheVariants.{Quiet, Notify, KeepAlive, Late, Expired}
use Rattle.subscription.specs.Cycle.{row_of}
use Rattle.subscription.specs.State.{SubState}
use Rattle.subscription.specs.History.{Call, Add, Remove, SetMode, Feed, Timer, Publish, Acknowledge, Modify, SetEnabled, Moved, state_of}

-- a call doesn't end the subscription
abbrev pub IsLasting : Call → SubState → Type 0
IsLasting (Timer queued) s = row_of queued s ≢ Expired
IsLasting (Add spec current) s = Unit {0}
IsLasting (Remove id) s = Unit {0}
IsLasting (SetMode id mode current) s = Unit {0}
IsLasting (Feed change) s = Unit {0}
IsLasting (Publish now) s = Unit {0}
IsLasting (Acknowledge number) s = Unit {0}
IsLasting (Modify spec now) s = Unit {0}
IsLasting (SetEnabled enabled) s = Unit {0}
IsLasting Moved s = Unit {0}

-- none of these calls, newest first, ended the subscription
abbrev pub Lasts : SubSpec → ℕ → List Call → Type 0
Lasts spec start [] = Unit {0}
Lasts spec start (call ∷ earlier) = IsLasting call (state_of spec start earlier) × Lasts spec start earlier

-- how many cycles went by without a Publish request queued, since the last one with one, since its counts were
-- modified, and since another session took it
abbrev pub unserved : List Call → ℕ
unserved [] = 0
unserved (Timer true ∷ earlier) = 0
unserved (Timer false ∷ earlier) = unserved earlier + 1
unserved (Modify spec now ∷ earlier) = 0
unserved (Moved ∷ earlier) = 0
unserved (Add spec current ∷ earlier) = unserved earlier
unserved (Remove id ∷ earlier) = unserved earlier
unserved (SetMode id mode current ∷ earlier) = unserved earlier
unserved (Feed change ∷ earlier) = unserved earlier
unserved (Publish now ∷ earlier) = unserved earlier
unserved (Acknowledge number ∷ earlier) = unserved earlier
unserved (SetEnabled enabled ∷ earlier) = unserved earlier

abbrev pub with_quiet : Cycle → ℕ → ℕ
with_quiet Quiet count = count + 1
with_quiet Notify count = count
with_quiet KeepAlive count = count
with_quiet Late count = count
with_quiet Expired count = count

-- how many cycles were quiet since the last message, and since its counts were modified
abbrev pub silent : SubSpec → ℕ → List Call → ℕ
silent spec start [] = 0
silent spec start (Timer queued ∷ earlier) =
    with_quiet (row_of queued (state_of spec start earlier)) (silent spec start earlier)
silent spec start (Publish now ∷ earlier) = 0
silent spec start (Modify changed now ∷ earlier) = 0
silent spec start (Add item current ∷ earlier) = silent spec start earlier
silent spec start (Remove id ∷ earlier) = silent spec start earlier
silent spec start (SetMode id mode current ∷ earlier) = silent spec start earlier
silent spec start (Feed change ∷ earlier) = silent spec start earlier
silent spec start (Acknowledge number ∷ earlier) = silent spec start earlier
silent spec start (SetEnabled enabled ∷ earlier) = silent spec start earlier
silent spec start (Moved ∷ earlier) = silent spec start earlier

-- a message was sent, with data or without
abbrev pub has_begun : List Call → Bool
has_begun [] = false
has_begun (Publish now ∷ earlier) = true
has_begun (Timer queued ∷ earlier) = has_begun earlier
has_begun (Add item current ∷ earlier) = has_begun earlier
has_begun (Remove id ∷ earlier) = has_begun earlier
has_begun (SetMode id mode current ∷ earlier) = has_begun earlier
has_begun (Feed change ∷ earlier) = has_begun earlier
has_begun (Acknowledge number ∷ earlier) = has_begun earlier
has_begun (Modify spec now ∷ earlier) = has_begun earlier
has_begun (SetEnabled enabled ∷ earlier) = has_begun earlier
has_begun (Moved ∷ earlier) = has_begun earlier
