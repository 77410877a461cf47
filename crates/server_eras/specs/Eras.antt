-- Eras of a subscription: its data messages between two calls that set an item to Disabled, with which that item's stream ends
-- (OPC 10000-4, 5.12.1.3 and 5.12.4).
use Rattle.std.specs.Prelude.{ℕ, ◌+◌, ◌==◌, List, [], ◌∷◌, ◌++◌, if◌then◌else◌}
use Rattle.subscription.specs.declared.spec.SubSpec.{SubSpec}
use Rattle.subscription.specs.Items.{Told, is_disabled}
use Rattle.subscription.specs.History.{Call, Add, Remove, SetMode, Feed, Timer, Publish, Acknowledge, Modify, SetEnabled, Moved, state_of}
use Rattle.server_chains.specs.Chains.{told_by}

-- ---- which era it is

-- a call that sets an item to Disabled counts
abbrev pub off_by : Call → ℕ
off_by (SetMode id mode current) = if is_disabled mode then 1 else 0
off_by (Add spec current) = 0
off_by (Remove id) = 0
off_by (Feed change) = 0
off_by (Timer queued) = 0
off_by (Publish now) = 0
off_by (Acknowledge number) = 0
off_by (Modify spec now) = 0
off_by (SetEnabled enabled) = 0
off_by Moved = 0

-- how many of these calls, newest first, do
abbrev pub offs_in : List Call → ℕ
offs_in [] = 0
offs_in (call ∷ earlier) = off_by call + offs_in earlier

-- ---- the era of each message

-- a call that tells nothing sends no data message
abbrev pub with_era : List ℕ → List Told → ℕ → List ℕ
with_era eras [] era = eras
with_era eras (one ∷ more) era = eras ++ era ∷ []

-- how many calls had set an item to Disabled when each data message was sent, in order: one number for each list of entries that
-- these calls, newest first, told
abbrev pub eras_told : SubSpec → ℕ → List Call → List ℕ
eras_told spec start [] = []
eras_told spec start (call ∷ earlier) =
    with_era (eras_told spec start earlier) (told_by call (state_of spec start earlier)) (offs_in earlier)

-- the messages of one era
abbrev pub of_era : {A : Type 0} → ℕ → List ℕ → List A → List A
of_era era [] messages = []
of_era era (e ∷ eras) [] = []
of_era era (e ∷ eras) (message ∷ messages) =
    if e == era then message ∷ of_era era eras messages else of_era era eras messages
