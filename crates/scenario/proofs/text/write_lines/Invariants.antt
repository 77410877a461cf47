use Rattle.std.proofs.Common.{◌≡◌, ◌++◌}
use Rattle.std.specs.Prelude.{drop}
use Rattle.scenario.specs.Texts.{written}
use Rattle.scenario.proofs.text.write_lines.Given as goal

-- what is written so far and the lines that are left are what all lines give
abbrev pub invariant-loop-line : goal.invariant-loop-line
invariant-loop-line l = l.to.items ++ written (drop l.line-index l.lines) ≡ l.fn.to.items ++ written l.fn.lines
