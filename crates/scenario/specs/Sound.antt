-- What holds of a scenario's lines while they are made from a seed.
use Rattle.std.specs.Prelude.{◌≡◌, ℕ, ◌+◌, ◌*◌, ◌≤◌, pos, List, [], ◌∷◌, false, length, reverse}
use Rattle.set_model.specs.declared.source.Change.{Change}
use Rattle.scenario.specs.declared.line.Line.{Line}
use Rattle.scenario.specs.Past.{is_direct_in, servers_in, items_in, changes_in, has_ended}

-- the time and the value are numbers, and no larger than these
pub record IsUpTo (time value : ℕ) (change : Change) : Type 0 where
  pub time_number : ℕ
  pub time_is : change.time ≡ pos time_number
  pub few_time : time_number ≤ time
  pub value_number : ℕ
  pub value_is : change.value ≡ pos value_number
  pub few_value : value_number ≤ value

abbrev pub AllUpTo : ℕ → ℕ → List Change → Type 0
AllUpTo time value [] = Unit {0}
AllUpTo time value (change ∷ changes) = IsUpTo time value change × AllUpTo time value changes

-- the lines of a set over bytes, not yet at the end; times of changes are up to this one, and values up to their count
pub record IsSound (time : ℕ) (lines : List Line) : Type 0 where
  pub long : 2 ≤ length lines
  pub over_bytes : is_direct_in lines ≡ false
  pub some_servers : 1 ≤ servers_in lines
  pub few_servers : servers_in lines ≤ 8
  pub some_items : 1 ≤ items_in lines
  pub few_items : items_in lines ≤ 64
  pub open_still : has_ended lines ≡ false
  pub few_changes : length (changes_in lines) + 2 ≤ length lines
  pub early : time + 20 ≤ 10 * length lines
  pub changes_up : AllUpTo time (length (changes_in lines)) (reverse (changes_in lines))
