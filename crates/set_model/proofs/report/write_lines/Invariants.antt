use Rattle.std.proofs.Common.{◌≡◌, ◌++◌, take}
use Rattle.std.specs.List.{flat_map}
use Rattle.set_model.specs.Line.{line_text}
use Rattle.set_model.proofs.report.write_lines.Given as goal

-- the text of the lines so far is written
abbrev pub invariant-loop-line : goal.invariant-loop-line
invariant-loop-line l = l.text.items ≡ l.fn.text.items ++ flat_map line_text (take l.line-index l.log)
