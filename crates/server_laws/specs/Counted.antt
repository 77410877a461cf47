-- How many messages a subscription may send: each takes an entry out of a queue, and each entry was put into one once.
use Rattle.std.specs.Prelude.{ℕ, ◌+◌, ◌&&◌, List, [], ◌∷◌, Bool, length, filter, if◌then◌else◌}
use Rattle.subscription.specs.declared.spec.SubSpec.{SubSpec}
use Rattle.subscription.specs.State.{ItemState, SubState}
use Rattle.subscription.specs.Items.{has_id, is_disabled, samples}
use Rattle.subscription.specs.History.{Call, Add, Remove, SetMode, Feed, Timer, Publish, Acknowledge, Modify, SetEnabled, Moved, state_of}

-- how many entries the queues of these items hold
abbrev pub held : List ItemState → ℕ
held [] = 0
held (item ∷ items) = length item.queue.entries + held items

-- an item of this id leaves Disabled
abbrev pub leaves : ℕ → ItemState → Bool
leaves id item = has_id id item && is_disabled item.mode

-- how many entries a call puts into queues, at the most: a new item's first one, that of an item which leaves Disabled,
-- and one for each item that samples a change
abbrev pub put_by : Call → SubState → ℕ
put_by (Add spec current) s = 1
put_by (Remove id) s = 0
put_by (SetMode id mode current) s = if is_disabled mode then 0 else length (filter (leaves id) s.items)
put_by (Feed change) s = length (filter (samples change) s.items)
put_by (Timer queued) s = 0
put_by (Publish now) s = 0
put_by (Acknowledge number) s = 0
put_by (Modify spec now) s = 0
put_by (SetEnabled enabled) s = 0
put_by Moved s = 0

-- the same of all these calls, newest first
abbrev pub entries_put : SubSpec → ℕ → List Call → ℕ
entries_put spec start [] = 0
entries_put spec start (call ∷ earlier) = put_by call (state_of spec start earlier) + entries_put spec start earlier
