-- The log of a redundant set is that of its client, and the laws of clients say what it is.
use Rattle.std.proofs.Common.{◌≡◌, ◌≢◌, ℕ, ◌≤◌, ◌++◌, ◌∷◌, Bool, true, List, refl, sym, ap, subst, ◌∙◌}
use Rattle.ua_base.specs.declared.modes.SetMode.{SetMode}
use Rattle.ua_base.specs.declared.modes.SetMode.TheVariants.{Direct, Hot, Warm, Cold}
use Rattle.set_model.specs.declared.line.LogLine.{LogLine}
use Rattle.set_model.specs.declared.stamp.Stamp.{Stamp}
use Rattle.set_model.specs.Stamp.{is_before}
use Rattle.scenario.specs.declared.line.Line.{Line}
use Rattle.failover_core.specs.Laws.{IsBest}
use Rattle.delivery_log.specs.Caused.{Caused}
use Rattle.delivery_log.specs.Reading.{AreNeighbours}
use Rattle.client_rules.specs.declared.config.ClientConfig.{ClientConfig}
use Rattle.client_rules.specs.State.{servers_of}
use Rattle.client_rules.specs.Acts.{ClientAct, Switches}
use Rattle.client_rules.specs.Step.{Moment}
use Rattle.client_laws.specs.Life.{acts_of, client_after, history_of}
use Rattle.client_laws.specs.Choosing.{AreChoices, candidates_of, nothing_told, told_after}
use Rattle.client_links.specs.Switching.{switch_lines, switches_of}
use Rattle.set_laws.specs.Below.{AreHistories}
use Rattle.uaset.specs.Answer.{defined_in, defined_log, log_over_messages, size_of}
use Rattle.uaset.specs.Client.{IsOfItsClient, config_of, moments_of}

-- ---- what the laws say

abbrev pub HaveHistories : Type 0
HaveHistories = (mode : SetMode) (servers items queue : ℕ) (oldest : Bool) (lines : List Line)
    → AreHistories mode servers items queue oldest lines

-- of clients, whatever happens to them
pub record ClientLaws : Type 0 where
  pub caused : (config : ClientConfig) (moments : List Moment) → Caused (history_of config moments) (client_after config moments).log.lines
  pub rising : (config : ClientConfig) (moments : List Moment) (item : ℕ) (first second : Stamp) (between : List LogLine)
      → AreNeighbours item (client_after config moments).log.lines first between second → is_before first second ≡ true
  pub switches : (config : ClientConfig) (moments : List Moment) → switch_lines (client_after config moments).log.lines ≡ switches_of (acts_of config moments)
  pub chosen : (config : ClientConfig) (moments : List Moment) → AreChoices (acts_of config moments) (nothing_told (servers_of config))
  pub best : (config : ClientConfig) (moments : List Moment) (front back : List ClientAct) (from to : ℕ)
      → acts_of config moments ≡ front ++ Switches from to ∷ back → 1 ≤ to
      → IsBest (candidates_of (told_after front (nothing_told (servers_of config)))) (told_after front (nothing_told (servers_of config))).active to

-- ---- the log of the definition

defined_is : (mode : SetMode) (lines : List Line) → mode ≢ Direct → defined_in mode lines ≡ log_over_messages lines
defined_is Direct lines other = absurd (other refl)
defined_is Hot lines other = refl
defined_is Warm lines other = refl
defined_is Cold lines other = refl

pub log_is : HaveHistories → (lines : List Line) → (size_of lines).mode ≢ Direct
    → defined_log lines ≡ (client_after (config_of lines) (moments_of lines)).log.lines
unfolding log_over_messages
log_is have lines other =
    let size = size_of lines in
    let is = have size.mode size.servers size.items size.queue size.oldest lines in
    defined_is size.mode lines other ∙ ap (λ c. c.hub.log.lines) is.same ∙ ap (λ c. c.log.lines) is.client.state

abbrev pub OfClients : Type 0
OfClients = (lines : List Line) → (size_of lines).mode ≢ Direct → IsOfItsClient lines

pub of_clients : HaveHistories → ClientLaws → OfClients
of_clients have laws lines other =
    let log = log_is have lines other in
    let config = config_of lines in
    let moments = moments_of lines in
    record {
      log = log;
      caused = subst (Caused (history_of config moments)) (sym log) (laws.caused config moments);
      rising = λ item first second between near.
          laws.rising config moments item first second between (subst (λ (l : List LogLine). AreNeighbours item l first between second) log near);
      switches = ap switch_lines log ∙ laws.switches config moments;
      chosen = laws.chosen config moments;
      best = laws.best config moments;
    }
