-- The log of a scenario's lines can be trusted.
use Rattle.std.proofs.Common.{◌≡◌, ℕ, ◌≤◌, List, Ok, Err, refl, sym, ap, subst, ◌∙◌, arith}
use Rattle.std.specs.Prelude.{Result, All}
use Rattle.ua_base.specs.declared.modes.SetMode.{SetMode}
use Rattle.ua_base.specs.declared.modes.SetMode.TheVariants.{Direct}
use Rattle.set_model.specs.declared.source.Change.{Change}
use Rattle.set_model.specs.declared.line.LogLine.{LogLine}
use Rattle.set_model.specs.Report.{report_text}
use Rattle.delivery_log.specs.Caused.{Caused}
use Rattle.delivery_log.specs.Safe.{InOrder, Safe}
use Rattle.scenario.specs.declared.line.Line.{Line}
use Rattle.scenario.specs.declared.fault.ScenarioFault.{ScenarioFault}
use Rattle.scenario.specs.declared.rules.Rules.{Rules}
use Rattle.scenario.specs.Past.{changes_in}
use Rattle.scenario.specs.Rules.{rules_of_replay}
use Rattle.scenario.specs.Scenario.{scenario_of}
use Rattle.scenario.proofs.ValidLemmas.{valid_lines}
use Rattle.direct_world.specs.Plain.{IsPlain}
use Rattle.direct_world.proofs.Law.{world_changes, world_safe, world_in_order, world_caused}
use Rattle.direct_world.proofs.Plainness.{world_plain}
use Rattle.set_world.specs.Worlds.{all_taken, lines_of, world_of as in_mode}
use Rattle.uaset.specs.Answer.{answer_of, answer_by, client_log, past_of, size_of, world_of}
use Rattle.uaset.specs.declared.words.Command.TheVariants as command
use Rattle.uaset.specs.Commands.{IsTrustworthy, Means}
use Rattle.uaset.proofs.Client.{OfClients}
use Rattle.uaset.proofs.Delivery.{Delivers, ReadsHad}
use Rattle.uaset.proofs.Messages.{OnlyStanding, ShowsBytes, direct_log, same_log}

-- a scenario's queues have from 2 to 1000 places
pub queue_fits : (rules : Rules) (bytes : List ℕ) (lines : List Line) → scenario_of rules bytes ≡ Ok lines
    → (2 ≤ (size_of lines).queue) × ((size_of lines).queue ≤ 1000)
queue_fits rules bytes lines h =
    let valid = valid_lines rules bytes lines h in
    let is : (size_of lines).queue ≡ valid.queue = ap (λ (ls : List Line). (size_of ls).queue) valid.lines_are in
    (omega (arith, valid.queue_fits.0), omega (arith, valid.queue_fits.1))

-- a scenario's set has from 1 to 8 servers
pub servers_fit : (rules : Rules) (bytes : List ℕ) (lines : List Line) → scenario_of rules bytes ≡ Ok lines
    → (1 ≤ (size_of lines).servers) × ((size_of lines).servers ≤ 8)
servers_fit rules bytes lines h =
    let valid = valid_lines rules bytes lines h in
    let is : (size_of lines).servers ≡ valid.servers = ap (λ (ls : List Line). (size_of ls).servers) valid.lines_are in
    (omega (arith, valid.servers_fit.0), omega (arith, valid.servers_fit.1))

-- the log of a direct set is safe for the scenario's changes, and each gap has its true cause
pub trustworthy : (rules : Rules) (bytes : List ℕ) (lines : List Line) → scenario_of rules bytes ≡ Ok lines → (size_of lines).mode ≡ Direct
    → IsTrustworthy lines
trustworthy rules bytes lines h direct =
    let valid = valid_lines rules bytes lines h in
    let size = size_of lines in
    let two : 2 ≤ size.queue = (queue_fits rules bytes lines h).0 in
    let source = world_changes size.servers size.items size.oldest size.queue lines valid.source valid.few_changes in
    let log : List LogLine = (world_of lines).log.lines in
    let same : log ≡ client_log lines =
    sym (direct_log size.servers size.items size.queue size.oldest lines)
    ∙ ap (λ (m : SetMode). lines_of (all_taken lines (in_mode m size.servers size.items size.queue size.oldest))) (sym direct) in
    let P : List Change → Type 0 = λ s. Safe s log in
    let Q : List Change → Type 0 = λ s. InOrder s log in
    let S : List LogLine → Type 0 = λ l. Safe (changes_in lines) l in
    let O : List LogLine → Type 0 = λ l. InOrder (changes_in lines) l in
    let C : List LogLine → Type 0 = λ l. Caused (past_of lines) l in
    let A : List LogLine → Type 0 = λ l. All IsPlain l in
    record {
      safe = subst S same (subst P source (world_safe size.servers size.items size.oldest size.queue lines two));
      order = subst O same (subst Q source (world_in_order size.servers size.items size.oldest size.queue lines two));
      caused = subst C same (world_caused size.servers size.items size.oldest size.queue lines two);
      plain = subst A same (world_plain size.servers size.items size.oldest size.queue lines two);
    }

ok_is : (report text : List ℕ) → ◌≡◌ {A = Result (List ℕ) ScenarioFault} (Ok report) (Ok text) → text ≡ report
ok_is report text e = cc

promised : OnlyStanding → ShowsBytes → OfClients → ReadsHad → Delivers → (pool : ℕ) (bytes text : List ℕ) (scenario : Result (List Line) ScenarioFault) → scenario_of (rules_of_replay pool) bytes ≡ scenario
    → answer_by scenario ≡ Ok text → Means pool command.Replay bytes text
promised standing shows clients levels deliver pool bytes text (Ok lines) is h = (
  lines,
  is,
  ok_is (report_text (client_log lines)) text h ∙ ap report_text (same_log standing shows (rules_of_replay pool) bytes lines is),
  trustworthy (rules_of_replay pool) bytes lines is,
  λ other. (clients lines other, levels pool bytes lines is),
  deliver pool bytes lines is,
)
promised standing shows clients levels deliver pool bytes text (Err fault) is h = absurd cc

-- a report is that of a scenario whose log can be trusted where its set is direct, is of its client where it is redundant, and
-- delivers the source where it is hot or cold
pub report_promised : OnlyStanding → ShowsBytes → OfClients → ReadsHad → Delivers → (pool : ℕ) (bytes text : List ℕ) → answer_of pool bytes ≡ Ok text → Means pool command.Replay bytes text
report_promised standing shows clients levels deliver pool bytes text h = promised standing shows clients levels deliver pool bytes text (scenario_of (rules_of_replay pool) bytes) refl h
