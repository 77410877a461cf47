-- Which changes the stream of an item has, where the server gives each item the last change of its node (OPC 10000-4,
-- 5.12.1).
use Rattle.std.specs.Prelude.{◌≡◌, ℕ, List, [], ◌∷◌, ◌++◌, Bool, true, false, Option, Some, None}
use Rattle.set_model.specs.declared.source.Change.{Change}
use Rattle.set_model.specs.Source.{last_of, of_item}
use Rattle.subscription.specs.declared.spec.SubSpec.{SubSpec}
use Rattle.subscription.specs.State.{ItemState, SubState}
use Rattle.subscription.specs.Items.{item_of}
use Rattle.subscription.specs.History.{Call, Add, Remove, SetMode, Feed, Timer, Publish, Acknowledge, Modify, SetEnabled, Moved, state_of}
use Rattle.subscription.specs.Streams.{ItemStream, no_stream}

abbrev pub known_with : Call → List Change → List Change
known_with (Feed change) known = known ++ change ∷ []
known_with (Add spec current) known = known
known_with (Remove id) known = known
known_with (SetMode id mode current) known = known
known_with (Timer queued) known = known
known_with (Publish now) known = known
known_with (Acknowledge number) known = known
known_with (Modify spec now) known = known
known_with (SetEnabled enabled) known = known
known_with Moved known = known

-- the changes there were: some at first, and then those that were fed by these calls, newest first
abbrev pub known_after : List Change → List Call → List Change
known_after first [] = first
known_after first (call ∷ earlier) = known_with call (known_after first earlier)

abbrev pub IsLastOf : Option ItemState → Option Change → List Change → Type 0
IsLastOf None current known = Unit {0}
IsLastOf (Some item) current known = current ≡ last_of item.node known

-- where a call gives a current value, it is the last change of the item's node that there was
abbrev pub GivesLast : Call → SubState → List Change → Type 0
GivesLast (Add spec current) s known = current ≡ last_of spec.node known
GivesLast (SetMode id mode current) s known = IsLastOf (item_of id s.items) current known
GivesLast (Remove id) s known = Unit {0}
GivesLast (Feed change) s known = Unit {0}
GivesLast (Timer queued) s known = Unit {0}
GivesLast (Publish now) s known = Unit {0}
GivesLast (Acknowledge number) s known = Unit {0}
GivesLast (Modify spec now) s known = Unit {0}
GivesLast (SetEnabled enabled) s known = Unit {0}
GivesLast Moved s known = Unit {0}

abbrev pub GiveLast : SubSpec → ℕ → List Change → List Call → Type 0
GiveLast spec start first [] = Unit {0}
GiveLast spec start first (call ∷ earlier) =
    GivesLast call (state_of spec start earlier) (known_after first earlier) × GiveLast spec start first earlier

-- a stream is a run of neighbours among the node's changes up to the last one; it has one at least where the node has
pub record IsRun (node : ℕ) (pushed known : List Change) : Type 0 where
  pub before : List Change
  pub run : of_item node known ≡ before ++ pushed
  pub none : pushed ≡ [] → of_item node known ≡ []

-- a disabled item has no stream, and its queue is empty
abbrev pub IsFollowed : Bool → ItemState → ItemStream → List Change → Type 0
IsFollowed true item stream known = (item.queue.entries ≡ []) × (stream ≡ no_stream)
IsFollowed false item stream known = IsRun item.node stream.pushed known
