-- The log of a hot or a cold set delivers the scenario's own changes.
use Rattle.std.proofs.Common.{◌≡◌, ◌≢◌, ℕ, ◌+◌, ◌≤◌, List, [], inl, inr, sym, ap, subst, arith, length}
use Rattle.std.specs.Prelude.{Bool, Ok}
use Rattle.std.specs.List.{AllByRecursion}
use Rattle.ua_base.specs.declared.modes.SetMode.{SetMode}
use Rattle.ua_base.specs.declared.modes.SetMode.TheVariants.{Cold, Direct, Hot}
use Rattle.set_model.specs.declared.line.LogLine.{LogLine}
use Rattle.set_model.specs.declared.source.Change.{Change}
use Rattle.set_model.specs.Source.{IsSource}
use Rattle.delivery_log.specs.Safe.{InOrder, Safe}
use Rattle.scenario.specs.declared.line.Line.{Line}
use Rattle.scenario.specs.Past.{changes_in}
use Rattle.scenario.specs.Rules.{rules_of_replay}
use Rattle.scenario.specs.Scenario.{scenario_of}
use Rattle.scenario.proofs.ValidLemmas.{valid_lines}
use Rattle.client_laws.specs.Life.{acts_of, client_after, history_of}
use Rattle.client_links.specs.Links.{IsHotOrCold, told_of}
use Rattle.set_world.specs.Texts.{client_config}
use Rattle.set_laws.specs.Below.{lives_after, recorded_after, lives_noted, HadLevel}
use Rattle.set_laws.specs.Faithful.{IsFaithful}
use Rattle.set_laws.specs.Limits.{AreWithin}
use Rattle.uaset.specs.Answer.{size_of}
use Rattle.uaset.specs.Client.{DeliversTheSource, ReadsLevelsHad, config_of, moments_of}
use Rattle.uaset.proofs.Client.{HaveHistories, log_is}
use Rattle.uaset.proofs.Messages.{OnlyStanding, lines_fit}

-- what the law of hot and cold sets says
abbrev pub AreFaithful : Type 0
AreFaithful = (mode : SetMode) (servers items queue : ℕ) (oldest : Bool) (lines : List Line) → IsHotOrCold mode → AreWithin servers items queue lines
    → let set = recorded_after mode servers items queue oldest lines in
    let config = client_config mode servers items queue oldest in
    let moments = set.client.node.moments in
    IsFaithful set.source (history_of config moments) (client_after config moments).log.lines

-- and what a set's source is
abbrev pub HaveSource : Type 0
HaveSource = (mode : SetMode) (servers items queue : ℕ) (oldest : Bool) (lines : List Line) → IsSource (changes_in lines) → length (changes_in lines) ≤ 200000
    → (recorded_after mode servers items queue oldest lines).source ≡ changes_in lines

hot_is_other : Hot ≢ Direct
hot_is_other same = cc

cold_is_other : Cold ≢ Direct
cold_is_other same = cc

not_direct : (mode : SetMode) → IsHotOrCold mode → mode ≢ Direct
not_direct mode (inl hot) = subst (λ (m : SetMode). m ≢ Direct) (sym hot) hot_is_other
not_direct mode (inr cold) = subst (λ (m : SetMode). m ≢ Direct) (sym cold) cold_is_other

within : OnlyStanding → (pool : ℕ) (bytes : List ℕ) (lines : List Line) → scenario_of (rules_of_replay pool) bytes ≡ Ok lines
    → let size = size_of lines in AreWithin size.servers size.items size.queue lines
within standing pool bytes lines h =
    let valid = valid_lines (rules_of_replay pool) bytes lines h in
    let servers : (size_of lines).servers ≡ valid.servers = ap (λ (ls : List Line). (size_of ls).servers) valid.lines_are in
    let items : (size_of lines).items ≡ valid.items = ap (λ (ls : List Line). (size_of ls).items) valid.lines_are in
    let queue : (size_of lines).queue ≡ valid.queue = ap (λ (ls : List Line). (size_of ls).queue) valid.lines_are in
    let servers_fit = valid.servers_fit.1 in
    let items_fit = valid.items_fit.1 in
    let queue_fits = valid.queue_fits in
    let few = valid.few_lines in
    record {
      servers_fit = omega (arith, servers, servers_fit);
      items_fit = omega (arith, items, items_fit);
      queue_least = omega (arith, queue, queue_fits.0);
      queue_fits = omega (arith, queue, queue_fits.1);
      lines_fit = lines_fit (rules_of_replay pool) [] lines (standing (rules_of_replay pool) bytes lines h);
      few_boots = valid.few_boots;
      few_lines = omega (arith, few);
    }

abbrev log_of : List Line → List LogLine
log_of lines = (client_after (config_of lines) (moments_of lines)).log.lines

-- of a scenario that is taken
abbrev pub Delivers : Type 0
Delivers = (pool : ℕ) (bytes : List ℕ) (lines : List Line) → scenario_of (rules_of_replay pool) bytes ≡ Ok lines → IsHotOrCold (size_of lines).mode
    → DeliversTheSource lines

pub delivers : OnlyStanding → HaveHistories → AreFaithful → HaveSource → Delivers
delivers standing have faithful sourced pool bytes lines h hot =
    let valid = valid_lines (rules_of_replay pool) bytes lines h in
    let size = size_of lines in
    let log = log_is have lines (not_direct size.mode hot) in
    let source = sourced size.mode size.servers size.items size.queue size.oldest lines valid.source valid.few_changes in
    let law = faithful size.mode size.servers size.items size.queue size.oldest lines hot (within standing pool bytes lines h) in
    record {
      safe = subst (λ (l : List LogLine). Safe (changes_in lines) l) (sym log) (subst (λ (s : List Change). Safe s (log_of lines)) source law.safe);
      order = subst (λ (l : List LogLine). InOrder (changes_in lines) l) (sym log) (subst (λ (s : List Change). InOrder s (log_of lines)) source law.ordered);
    }

-- ---- levels

-- what the law of levels says
abbrev pub HadLevels : Type 0
HadLevels = (mode : SetMode) (servers items queue : ℕ) (oldest : Bool) (lines : List Line) → AreWithin servers items queue lines
    → (place : ℕ) → place + 1 ≤ servers
    → let moments = (recorded_after mode servers items queue oldest lines).client.node.moments in
    AllByRecursion (HadLevel (lives_noted mode servers items (place + 1) (lives_after mode servers items queue oldest lines place)))
    (told_of (place + 1) (acts_of (client_config mode servers items queue oldest) moments))

abbrev pub ReadsHad : Type 0
ReadsHad = (pool : ℕ) (bytes : List ℕ) (lines : List Line) → scenario_of (rules_of_replay pool) bytes ≡ Ok lines → ReadsLevelsHad lines

pub reads_had : OnlyStanding → HadLevels → ReadsHad
reads_had standing had pool bytes lines h =
    let size = size_of lines in
    record { had = had size.mode size.servers size.items size.queue size.oldest lines (within standing pool bytes lines h) }
