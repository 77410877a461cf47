-- How large a set and how long a scenario may be: wider than any scenario that is taken.
use Rattle.std.specs.Prelude.{◌≤◌, ◌<◌, ◌^◌, ℕ, List, length}
use Rattle.std.specs.List.{AllByRecursion}
use Rattle.scenario.specs.declared.line.Line.{Line}
use Rattle.scenario.specs.Past.{boot_of}
use Rattle.set_histories.specs.Below.{FitsLine}

-- at most eight servers and 255 items, a queue of two places or more for each, numbers that fit their types, and no more
-- starts of a server than its boot number goes, which has 16 bits
pub record AreWithin (servers items queue : ℕ) (lines : List Line) : Type 0 where
  pub servers_fit : servers ≤ 8
  pub items_fit : items < 2 ^ 8
  pub queue_least : 2 ≤ queue
  pub queue_fits : queue < 2 ^ 32
  pub lines_fit : AllByRecursion FitsLine lines
  pub few_boots : (server : ℕ) → boot_of server lines ≤ 65535
  pub few_lines : length lines ≤ 2 ^ 31
