-- What `replay` answers of its input: the report of a world over the scenario's lines, by the set's mode.
use Rattle.std.specs.Prelude.{◌≡◌, ℕ, List, ◌∷◌, Bool, true, Result, Ok, Err}
use Rattle.ua_base.specs.declared.modes.SetMode.{SetMode}
use Rattle.ua_base.specs.declared.modes.SetMode.TheVariants.{Direct, Hot, Warm, Cold}
use Rattle.set_model.specs.declared.line.LogLine.{LogLine}
use Rattle.set_model.specs.Report.{report_text}
use Rattle.delivery_log.specs.History.{Act}
use Rattle.scenario.specs.declared.line.Line.{Line}
use Rattle.scenario.specs.declared.line.Line.TheVariants as line
use Rattle.scenario.specs.declared.fault.ScenarioFault.{ScenarioFault}
use Rattle.scenario.specs.declared.fault.ReadError.{ReadError}
use Rattle.scenario.specs.declared.fault.ReadError.TheVariants as errors
use Rattle.scenario.specs.Rules.{rules_of_replay}
use Rattle.scenario.specs.Scenario.{scenario_of}
use Rattle.direct_world.specs.State.{WorldState}
use Rattle.direct_world.specs.World as world
use Rattle.set_world.specs.Worlds as worlds
use Rattle.set_world.specs.Worlds.{all_taken, lines_of}
use Rattle.set_messages.specs.World.{messages_after}
use Rattle.direct_world.specs.History.{history_of}

-- the set's mode, how wide it is, and whether a full queue of it discards its oldest entry or its newest
pub record Size : Type 0 where
  pub mode : SetMode
  pub servers : ℕ
  pub items : ℕ
  pub queue : ℕ
  pub oldest : Bool

-- of lines that say nothing of a set
abbrev pub no_size : Size
no_size = record { mode = Direct; servers = 0; items = 0; queue = 2; oldest = true }

abbrev pub size_with : SetMode → ℕ → Line → Size
size_with mode servers (line.Items items queue oldest) =
    record { mode = mode; servers = servers; items = items; queue = queue; oldest = oldest }
size_with mode servers _ = no_size

abbrev pub size_after : Line → Line → Size
size_after (line.Set mode servers) second = size_with mode servers second
size_after _ second = no_size

-- what the first two lines say of the set; a scenario has them
abbrev pub size_of : List Line → Size
size_of (first ∷ (second ∷ rest)) = size_after first second
size_of _ = no_size

-- the world of a direct set at the end of a scenario's lines
abbrev pub world_of : List Line → WorldState
world_of lines = let size = size_of lines in world.world_of size.servers size.items size.oldest size.queue lines

-- the client's log at the end of a scenario's lines, which a world of the set takes one after another
abbrev pub client_log : List Line → List LogLine
client_log lines = let size = size_of lines in
    lines_of (all_taken lines (worlds.world_of size.mode size.servers size.items size.queue size.oldest))

-- ---- the same over whole messages, with no bytes, no pieces and no numbers of chunks

-- the client's log at the end of a scenario's lines, where the set is over messages
unfoldable pub log_over_messages : List Line → List LogLine
log_over_messages lines = let size = size_of lines in
    (messages_after size.mode size.servers size.items size.queue size.oldest lines).client.hub.log.lines

abbrev pub defined_in : SetMode → List Line → List LogLine
defined_in Direct lines = (world_of lines).log.lines
defined_in Hot lines = log_over_messages lines
defined_in Warm lines = log_over_messages lines
defined_in Cold lines = log_over_messages lines

-- what the client's log is by definition: that of the world of a direct set, or of a set over messages
abbrev pub defined_log : List Line → List LogLine
defined_log lines = defined_in (size_of lines).mode lines

-- what happened to the log of a direct set
abbrev pub past_of : List Line → List Act
past_of lines = let size = size_of lines in history_of size.servers size.items size.oldest size.queue lines

abbrev pub answer_by : Result (List Line) ScenarioFault → Result (List ℕ) ScenarioFault
answer_by (Ok lines) = Ok (report_text (client_log lines))
answer_by (Err fault) = Err fault

-- what a function gives is this answer, seen as bytes; want of memory is free
abbrev pub Renders : {A : Type 0} → (A → List ℕ) → Result A ReadError → Result (List ℕ) ScenarioFault → Type 0
Renders shown (Ok text) answer = answer ≡ Ok (shown text)
Renders shown (Err (errors.Fault fault)) answer = answer ≡ Err fault
Renders shown (Err errors.OutOfMemory) answer = Unit {0}

-- the report, or the first faulty line, where so many listeners may be attached
abbrev pub answer_of : ℕ → List ℕ → Result (List ℕ) ScenarioFault
answer_of pool bytes = answer_by (scenario_of (rules_of_replay pool) bytes)
