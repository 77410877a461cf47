-- The exact texts of lines and faults.
use Rattle.std.specs.Prelude.{ℕ, List, [], ◌++◌, Bool, true, false, codes}
use Rattle.std.specs.List.{flat_map}
use Rattle.std.specs.Fmt.{decimal, signed_decimal}
use Rattle.ua_base.specs.declared.modes.SetMode.{SetMode}
use Rattle.ua_base.specs.declared.modes.SetMode.TheVariants.{Direct, Hot, Warm, Cold}
use Rattle.set_model.specs.declared.source.Change.{Change}
use Rattle.set_model.specs.Source.{stamp_of}
use Rattle.set_model.specs.Stamp.{stamp_text}
use Rattle.scenario.specs.declared.line.Line.{Line}
use Rattle.scenario.specs.declared.shape.Shape.{Shape}
use Rattle.scenario.specs.declared.shape.Shape.TheVariants as shape
use Rattle.scenario.specs.declared.table.Numbers.{Numbers}
use Rattle.scenario.specs.declared.table.Numbers.TheVariants as numbers
use Rattle.scenario.specs.Table.{shape_of, word_of}
use Rattle.scenario.specs.declared.fault.FaultKind.{FaultKind}
use Rattle.scenario.specs.declared.fault.FaultKind.TheVariants as kind
use Rattle.scenario.specs.declared.fault.ScenarioFault.{ScenarioFault}

abbrev pub mode_text : SetMode → List ℕ
mode_text Direct = codes "direct"
mode_text Hot = codes "hot"
mode_text Warm = codes "warm"
mode_text Cold = codes "cold"

abbrev pub change_text : Change → List ℕ
change_text change =
    codes "change " ++ decimal change.item ++ codes " " ++ stamp_text (stamp_of change) ++ codes " "
    ++ signed_decimal change.value

-- which entry a full queue drops, where it isn't the oldest
abbrev pub rule_text : Bool → List ℕ
rule_text true = []
rule_text false = codes " discard newest"

-- each number after a space
abbrev pub numbers_text : Numbers → List ℕ
numbers_text numbers.Nothing = []
numbers_text (numbers.One first) = codes " " ++ decimal first
numbers_text (numbers.Two first second) = codes " " ++ decimal first ++ codes " " ++ decimal second

abbrev pub shape_text : Shape → List ℕ
shape_text (shape.Set mode servers) = codes "set " ++ mode_text mode ++ codes " " ++ decimal servers
shape_text (shape.Items items queue oldest) =
    codes "items " ++ decimal items ++ codes " queue " ++ decimal queue ++ rule_text oldest
shape_text (shape.Change change) = change_text change
shape_text (shape.Plain name said) = word_of name ++ numbers_text said

-- a line without its line feed
abbrev pub line_text : Line → List ℕ
line_text l = shape_text (shape_of l)

-- lines, each with its line feed
abbrev pub written : List Line → List ℕ
written lines = flat_map (λ l. line_text l ++ codes "\n") lines

abbrev pub kind_text : FaultKind → List ℕ
kind_text kind.MissingSet = codes "missing set"
kind_text kind.TooLong = codes "too long"
kind_text kind.BadLine = codes "bad line"
kind_text kind.OutOfRange = codes "out of range"
kind_text kind.NoSuchServer = codes "no such server"
kind_text kind.NoSuchItem = codes "no such item"
kind_text kind.NotRunning = codes "not running"
kind_text kind.AlreadyRunning = codes "already running"
kind_text kind.TooManyStarts = codes "too many starts"
kind_text kind.TooMany = codes "too many changes"
kind_text kind.TimeNotRising = codes "time not rising"
kind_text kind.SameValue = codes "same value"
kind_text kind.NoListener = codes "no listener"
kind_text kind.NoSuchListener = codes "no such listener"
kind_text kind.NoEnd = codes "no end"

abbrev pub fault_text : ScenarioFault → List ℕ
fault_text fault = codes "line " ++ decimal fault.line ++ codes ": " ++ kind_text fault.kind
