use Rattle.std.proofs.Common.{◌≡◌, ◌++◌}
use Rattle.show.specs.Text.{diagnostic_lines}
use Rattle.show.proofs.value.put_diagnostic_lines.Given as goal

abbrev pub invariant-loop-i : goal.invariant-loop-i
invariant-loop-i l = l.to.items ≡ l.fn.to.items ++ diagnostic_lines l._i
