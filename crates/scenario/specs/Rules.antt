-- How a command judges a scenario.
use Rattle.std.specs.Prelude.{ℕ, ◌==◌, Bool, true, false, not}
use Rattle.ua_base.specs.declared.modes.SetMode.{SetMode}
use Rattle.ua_base.specs.declared.modes.SetMode.TheVariants.{Hot}
use Rattle.scenario.specs.declared.rules.Sets.{Sets}
use Rattle.scenario.specs.declared.rules.Sets.TheVariants as sets
use Rattle.scenario.specs.declared.rules.Allowed.{Allowed}
use Rattle.scenario.specs.declared.rules.Rules.{Rules}
use Rattle.scenario.specs.declared.table.Group.{Group}
use Rattle.scenario.specs.declared.table.Group.TheVariants as group
use Rattle.scenario.specs.Past.{is_direct}

-- a scenario may begin with this set
abbrev pub allows_set : Sets → SetMode → ℕ → Bool
allows_set sets.Any mode servers = true
allows_set sets.OverBytes mode servers = not (is_direct mode)
allows_set sets.OneHot Hot servers = servers == 1
allows_set sets.OneHot _ servers = false

-- a full queue may drop its oldest entry always, and its newest where the command has such queues
abbrev pub allows_rule : Allowed → Bool → Bool
allows_rule allowed true = true
allows_rule allowed false = allowed.newest

-- a scenario may have lines of this group
abbrev pub allows : Allowed → Group → Bool
allows allowed group.Common = true
allows allowed group.Links = allowed.links
allows allowed group.Servers = allowed.servers
allows allowed group.Listeners = allowed.listeners

-- the whole language; `pool` is how many listeners there are
abbrev pub rules_of_replay : ℕ → Rules
rules_of_replay pool = record {
  sets = sets.Any;
  allowed = record { links = true; servers = true; listeners = true; newest = true };
  lines = 1000000;
  changes = 200000;
  pool = pool;
}
