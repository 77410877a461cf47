-- What the client's log of a redundant set is, by all that happened to the client.
use Rattle.std.specs.Prelude.{◌≡◌, ◌≤◌, ◌+◌, ◌++◌, ◌∷◌, ℕ, true, List}
use Rattle.std.specs.List.{AllByRecursion}
use Rattle.set_model.specs.declared.line.LogLine.{LogLine}
use Rattle.set_model.specs.declared.stamp.Stamp.{Stamp}
use Rattle.set_model.specs.Stamp.{is_before}
use Rattle.scenario.specs.declared.line.Line.{Line}
use Rattle.scenario.specs.Past.{changes_in}
use Rattle.failover_core.specs.Laws.{IsBest}
use Rattle.delivery_log.specs.Caused.{Caused}
use Rattle.delivery_log.specs.Reading.{AreNeighbours}
use Rattle.delivery_log.specs.Safe.{InOrder, Safe}
use Rattle.client_rules.specs.declared.config.ClientConfig.{ClientConfig}
use Rattle.client_rules.specs.State.{servers_of}
use Rattle.client_rules.specs.Acts.{ClientAct, Switches}
use Rattle.client_rules.specs.Step.{Moment}
use Rattle.client_laws.specs.Life.{acts_of, client_after, history_of}
use Rattle.client_laws.specs.Choosing.{AreChoices, candidates_of, nothing_told, told_after}
use Rattle.client_links.specs.Links.{told_of}
use Rattle.client_links.specs.Switching.{switch_lines, switches_of}
use Rattle.set_world.specs.Texts.{client_config}
use Rattle.set_laws.specs.Below.{lives_after, recorded_after, Life, lives_noted, HadLevel}
use Rattle.uaset.specs.Answer.{defined_log, size_of}

abbrev pub config_of : List Line → ClientConfig
config_of lines = let size = size_of lines in client_config size.mode size.servers size.items size.queue size.oldest

-- all that happened to the client in the set over messages: connections that were opened, refused and closed, messages that
-- were heard, and time, in their order
abbrev pub moments_of : List Line → List Moment
moments_of lines = let size = size_of lines in
    (recorded_after size.mode size.servers size.items size.queue size.oldest lines).client.node.moments

-- the lives of the server at a place, newest first
abbrev pub lives_of : ℕ → List Line → List Life
lives_of place lines = let size = size_of lines in
    lives_noted size.mode size.servers size.items (place + 1) (lives_after size.mode size.servers size.items size.queue size.oldest lines place)

-- and what it did and was told then
abbrev pub acts_in : List Line → List ClientAct
acts_in lines = acts_of (config_of lines) (moments_of lines)

-- the log is what the rules of a client make of it. Each gap has the cause that its server's and item's history tells; the
-- stamps of an item's data lines rise; and the switch lines are the client's switches, each of which is the choice among the
-- servers that told to be ready, by the level that was read of each last: to a server of which the level is 2 or more, and no
-- ready one has a higher level (OPC 10000-4, 6.6.2.4.2)
pub record IsOfItsClient (lines : List Line) : Type 0 where
  pub log : defined_log lines ≡ (client_after (config_of lines) (moments_of lines)).log.lines
  pub caused : Caused (history_of (config_of lines) (moments_of lines)) (defined_log lines)
  pub rising : (item : ℕ) (first second : Stamp) (between : List LogLine)
      → AreNeighbours item (defined_log lines) first between second → is_before first second ≡ true
  pub switches : switch_lines (defined_log lines) ≡ switches_of (acts_in lines)
  pub chosen : AreChoices (acts_in lines) (nothing_told (servers_of (config_of lines)))
  pub best : (front back : List ClientAct) (from to : ℕ) → acts_in lines ≡ front ++ Switches from to ∷ back → 1 ≤ to
      → let told = told_after front (nothing_told (servers_of (config_of lines))) in IsBest (candidates_of told) told.active to

-- of a hot or a cold set, with the lines' own changes as the one source: each item's data lines are changes of it, each once, in
-- source order; and wherever a change between two of them is missing, a gap line stands directly before the later one
pub record DeliversTheSource (lines : List Line) : Type 0 where
  pub safe : Safe (changes_in lines) (defined_log lines)
  pub order : InOrder (changes_in lines) (defined_log lines)

-- of any redundant set: each ServiceLevel that the client's link to a server told is one that a life of the server had, when it
-- heard the Read that was answered so
pub record ReadsLevelsHad (lines : List Line) : Type 0 where
  pub had : (place : ℕ) → place + 1 ≤ (size_of lines).servers
      → AllByRecursion (HadLevel (lives_of place lines)) (told_of (place + 1) (acts_in lines))
