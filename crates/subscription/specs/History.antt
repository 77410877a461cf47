-- Any calls on a subscription, told newest first.
use Rattle.std.specs.Prelude.{◌≤◌, ℕ, ℤ, List, [], ◌∷◌, Bool, Option}
use Rattle.ua_base.specs.declared.modes.Mode.{Mode}
use Rattle.set_model.specs.declared.source.Change.{Change}
use Rattle.subscription.specs.declared.spec.SubSpec.{SubSpec}
use Rattle.subscription.specs.declared.spec.ItemSpec.{ItemSpec}
use Rattle.subscription.specs.State.{SubState}
use Rattle.subscription.specs.Cycle.{cycled}
use Rattle.subscription.specs.Calls.{acknowledged, added, fed, modified, moved, new_sub, published, removed, with_enabled, with_mode_of}

-- one call that changes the subscription
pub data Call : Type 0 where
  Add : ItemSpec → Option Change → Call
  Remove : ℕ → Call
  SetMode : ℕ → Mode → Option Change → Call
  Feed : Change → Call
  Timer : Bool → Call
  Publish : ℤ → Call
  Acknowledge : ℕ → Call
  Modify : SubSpec → ℕ → Call
  SetEnabled : Bool → Call
  Moved : Call

abbrev pub after : Call → SubState → SubState
after (Add spec current) s = added spec current s
after (Remove id) s = removed id s
after (SetMode id mode current) s = with_mode_of id mode current s
after (Feed change) s = fed change s
after (Timer queued) s = cycled queued s
after (Publish now) s = published now s
after (Acknowledge number) s = acknowledged number s
after (Modify spec now) s = modified spec now s
after (SetEnabled enabled) s = with_enabled enabled s
after Moved s = moved s

-- each new item has a queue of at least one place
abbrev pub IsAllowed : Call → Type 0
IsAllowed (Add spec current) = 1 ≤ spec.queue
IsAllowed (Remove id) = Unit {0}
IsAllowed (SetMode id mode current) = Unit {0}
IsAllowed (Feed change) = Unit {0}
IsAllowed (Timer queued) = Unit {0}
IsAllowed (Publish now) = Unit {0}
IsAllowed (Acknowledge number) = Unit {0}
IsAllowed (Modify spec now) = Unit {0}
IsAllowed (SetEnabled enabled) = Unit {0}
IsAllowed Moved = Unit {0}

abbrev pub AreAllowed : List Call → Type 0
AreAllowed [] = Unit {0}
AreAllowed (call ∷ earlier) = IsAllowed call × AreAllowed earlier

-- the subscription after these calls, which was made so at that moment
abbrev pub state_of : SubSpec → ℕ → List Call → SubState
state_of spec start [] = new_sub spec start
state_of spec start (call ∷ earlier) = after call (state_of spec start earlier)
