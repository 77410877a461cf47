-- What the lives of a set's servers are fed, and what its source is.
use Rattle.std.specs.Prelude.{◌≡◌, ◌≤◌, ℕ, List, [], ◌∷◌, length, take, drop}
use Rattle.set_model.specs.declared.source.Change.{Change}
use Rattle.ua_channel.specs.State.{WireState}
use Rattle.direct_world.specs.World.{appended}
use Rattle.server_laws.specs.Course.{fed_in}
use Rattle.set_rules.specs.Slots.{currents}
use Rattle.set_histories.specs.Below.{NotedLife}
use Rattle.set_histories.specs.Recording.{RecordedLife}

-- the source after these changes, one after another: one that can't be of it leaves it
abbrev pub sourced : List Change → List Change → List Change
sourced [] source = source
sourced (change ∷ changes) source = sourced changes (appended change source)

-- a life began behind the first changes of the source, with each item's last one of them as its current value, and was fed
-- the changes that follow them
pub record IsFedFrom (items : ℕ) (source : List Change) (life : NotedLife RecordedLife WireState) : Type 0 where
  pub first : ℕ
  pub count : ℕ
  pub begins : life.current ≡ currents items (take first source)
  pub within : first ≤ length source
  pub fed : fed_in life.node.happenings ≡ take count (drop first source)

abbrev pub AllFedFrom : ℕ → List Change → List (NotedLife RecordedLife WireState) → Type 0
AllFedFrom items source [] = Unit {0}
AllFedFrom items source (life ∷ earlier) = IsFedFrom items source life × AllFedFrom items source earlier
