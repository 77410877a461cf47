-- The report that a log becomes: its lines, and how many changes were delivered.
use Rattle.std.specs.Prelude.{ℕ, List, ◌++◌, Bool, true, false, count_by}
use Rattle.std.specs.List.{flat_map}
use Rattle.set_model.specs.declared.line.LogLine.{LogLine}
use Rattle.set_model.specs.declared.line.LogLine.TheVariants as line
use Rattle.set_model.specs.Line.{line_text}

abbrev pub is_data : LogLine → Bool
is_data (line.Delivered item time pico value status) = true
is_data (line.Gap item cause) = false
is_data (line.Switch from to) = false
is_data (line.Ready server) = false
is_data (line.Lost server) = false
is_data (line.Unsupported server) = false
is_data (line.Heard listener changes gaps) = false
is_data (line.Done changes) = false

-- how many data lines there are
abbrev pub data_count : List LogLine → ℕ
data_count log = count_by is_data log

-- each line's text, and last a done line with the number of data lines
abbrev pub report_text : List LogLine → List ℕ
report_text log = flat_map line_text log ++ line_text (line.Done (data_count log))
