-- Whole scenarios: the lines of a text, or its first faulty line.
use Rattle.std.specs.Prelude.{◌≡◌, ℕ, ◌+◌, List, [], ◌∷◌, ◌++◌, Result, Ok, Err, length, if◌then◌else◌}
use Rattle.scenario.specs.declared.line.Line.{Line}
use Rattle.scenario.specs.declared.fault.FaultKind.{FaultKind}
use Rattle.scenario.specs.declared.fault.FaultKind.TheVariants as kind
use Rattle.scenario.specs.declared.fault.ScenarioFault.{ScenarioFault}
use Rattle.scenario.specs.declared.fault.ReadError.{ReadError}
use Rattle.scenario.specs.declared.fault.ReadError.TheVariants as errors
use Rattle.scenario.specs.declared.rules.Rules.{Rules}
use Rattle.scenario.specs.Words.{lines_of}
use Rattle.scenario.specs.Past.{has_ended}
use Rattle.scenario.specs.Faults.{line_or_fault}

-- what is wrong where the lines end without `end`
abbrev pub kind_at_end : List Line → FaultKind
kind_at_end [] = kind.MissingSet
kind_at_end (first ∷ rest) = kind.NoEnd

-- all lines came
abbrev pub ended : List Line → Result (List Line) ScenarioFault
ended before =
    if has_ended before then Ok before
    else Err (record { line = length before + 1; kind = kind_at_end before })

-- the line's fault at its place, or what follows after its line
abbrev pub go_on : List Line → (Line → Result (List Line) ScenarioFault) → Result Line FaultKind
    → Result (List Line) ScenarioFault
go_on before more (Err k) = Err (record { line = length before + 1; kind = k })
go_on before more (Ok l) = more l

-- the lines of a scenario that goes on with these texts, or its first faulty line
abbrev pub valid_from : Rules → List Line → List (List ℕ) → Result (List Line) ScenarioFault
valid_from rules before [] = ended before
valid_from rules before (text ∷ texts) =
    go_on before (λ l. valid_from rules (before ++ l ∷ []) texts) (line_or_fault rules before text)

-- the lines of a scenario's text, or its first faulty line
abbrev pub scenario_of : Rules → List ℕ → Result (List Line) ScenarioFault
scenario_of rules bytes = valid_from rules [] (lines_of bytes)

-- what `read` answers: the lines, or the fault; want of memory is free
abbrev pub Reads : {A : Type 0} → (A → List Line) → Result A ReadError → Result (List Line) ScenarioFault → Type 0
Reads shown (Ok answer) scenario = scenario ≡ Ok (shown answer)
Reads shown (Err (errors.Fault fault)) scenario = scenario ≡ Err fault
Reads shown (Err errors.OutOfMemory) scenario = Unit {0}
