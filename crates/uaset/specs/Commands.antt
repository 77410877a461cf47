-- How much each command reads, what it answers of that, and what the answer means.
use Rattle.std.specs.Prelude.{◌≡◌, ◌≢◌, ℕ, List, All, Option, Some, None, Result, Ok, Err}
use Rattle.ua_base.specs.declared.modes.SetMode.TheVariants.{Direct}
use Rattle.delivery_log.specs.Caused.{Caused}
use Rattle.delivery_log.specs.Safe.{InOrder, Safe}
use Rattle.set_model.specs.Report.{report_text}
use Rattle.scenario.specs.declared.line.Line.{Line}
use Rattle.scenario.specs.declared.fault.ScenarioFault.{ScenarioFault}
use Rattle.scenario.specs.Past.{changes_in}
use Rattle.scenario.specs.Rules.{rules_of_replay}
use Rattle.scenario.specs.Scenario.{scenario_of}
use Rattle.direct_world.specs.Plain.{IsPlain}
use Rattle.client_links.specs.Links.{IsHotOrCold}
use Rattle.ua_variants.specs.declared.variant.Variant.{Variant}
use Rattle.ua_variants.specs.declared.variant.Stamped.{Stamped}
use Rattle.ua_variants.specs.Grammar.{data_value}
use Rattle.show.specs.Text.{value_text}
use Rattle.ua_chunks.specs.Frames.{Split, fault_of}
use Rattle.ua_chunks.specs.Streams.{IsFramed}
use Rattle.show.specs.Answer as shows
use Rattle.show.specs.Value.{shown_value}
use Rattle.show.specs.Stream.{stream_text, shown_stream}
use Rattle.uaset.specs.declared.words.Command.{Command}
use Rattle.uaset.specs.declared.words.Command.TheVariants as command
use Rattle.uaset.specs.declared.answer.Refusal.{Refusal}
use Rattle.uaset.specs.declared.answer.Refusal.TheVariants as refusal
use Rattle.uaset.specs.Answer.{answer_of, client_log, defined_log, past_of, size_of}
use Rattle.uaset.specs.Client.{DeliversTheSource, IsOfItsClient, ReadsLevelsHad}

-- ---- what is read

-- how many bytes of the input a command reads at most, if it reads any: 64 MiB of a scenario, 1 MiB of what is shown
abbrev pub reads : Command → Option ℕ
reads command.Replay = Some 67108864
reads command.ShowValue = Some 1048576
reads command.ShowStream = Some 1048576

-- how many bytes are read at most where the words say this; none where they are no command
abbrev pub reads_of : Result Command ℕ → Option ℕ
reads_of (Ok c) = reads c
reads_of (Err place) = None

-- ---- the answer

abbrev pub replayed : Result (List ℕ) ScenarioFault → Result (List ℕ) Refusal
replayed (Ok text) = Ok text
replayed (Err fault) = Err (refusal.Scenario fault.line fault.kind)

abbrev pub shown : Result (List ℕ) shows.Refusal → Result (List ℕ) Refusal
shown (Ok text) = Ok text
shown (Err fault) = Err (refusal.Show fault.place fault.code)

-- the text that a command makes of what it reads, or the first fault of that; so many listeners may be attached
abbrev pub answer_to : ℕ → Command → List ℕ → Result (List ℕ) Refusal
answer_to pool command.Replay bytes = replayed (answer_of pool bytes)
answer_to pool command.ShowValue bytes = shown (shown_value bytes)
answer_to pool command.ShowStream bytes = shown (shown_stream bytes)

-- what a call answered is this, unless memory was refused
abbrev pub Answered : {A : Type 0} → (A → List ℕ) → Result A Refusal → Result (List ℕ) Refusal → Type 0
Answered view (Ok text) answer = answer ≡ Ok (view text)
Answered view (Err refusal.OutOfMemory) answer = Unit {0}
Answered view (Err (refusal.Scenario line kind)) answer = answer ≡ Err (refusal.Scenario line kind)
Answered view (Err (refusal.Show place code)) answer = answer ≡ Err (refusal.Show place code)

-- ---- what it means

-- what the client's log of a direct set is, with the lines' own changes as the one source
pub record IsTrustworthy (lines : List Line) : Type 0 where
  pub safe : Safe (changes_in lines) (client_log lines)
  pub order : InOrder (changes_in lines) (client_log lines)
  pub caused : Caused (past_of lines) (client_log lines)
  pub plain : All IsPlain (client_log lines)

-- the text is the report of the client's log of a scenario, as the world is defined, in which nothing but whole messages is
-- in flight; where the set is direct the log can be trusted; where it is redundant the log is what its client makes of all
-- that happened to it, by levels that its servers had; and where it is hot or cold the log delivers the one source, and says where it doesn't; or what the one
-- value holds that the whole input spells; or a line for each of the frames that the input begins with, as many as there are,
-- and how many bytes follow
abbrev pub Means : ℕ → Command → List ℕ → List ℕ → Type 0
Means pool command.Replay bytes text =
    (lines : List Line) × (scenario_of (rules_of_replay pool) bytes ≡ Ok lines) × (text ≡ report_text (defined_log lines))
    × ((size_of lines).mode ≡ Direct → IsTrustworthy lines) × ((size_of lines).mode ≢ Direct → IsOfItsClient lines × ReadsLevelsHad lines)
    × (IsHotOrCold (size_of lines).mode → DeliversTheSource lines)
Means pool command.ShowValue bytes text = (d : Stamped Variant) × data_value 101 d bytes × (text ≡ value_text d)
Means pool command.ShowStream bytes text =
    (split : Split) × IsFramed 0 bytes split × (fault_of split.rest ≡ None) × (text ≡ stream_text split)
