use Rattle.std.proofs.Common.{◌≡◌, ◌++◌, take}
use Rattle.show.specs.Text.{written_lines}
use Rattle.show.proofs.text.put_written_lines.Given as goal

abbrev pub invariant-loop-item : goal.invariant-loop-item
invariant-loop-item g l = l.to.items ≡ l.fn.to.items ++ written_lines g.T.Element.written (take l.item-index l.items)
