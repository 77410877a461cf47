use Rattle.std.proofs.Common.{◌≡◌, ◌++◌, take}
use Rattle.show.specs.Text.{status_text, element_lines}
use Rattle.show.proofs.text.put_status_lines.Given as goal

abbrev pub invariant-loop-item : goal.invariant-loop-item
invariant-loop-item l = l.to.items ≡ l.fn.to.items ++ element_lines status_text (take l.item-index l.items)
