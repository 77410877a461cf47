use Rattle.std.proofs.Common.{◌≡◌, ◌++◌, take}
use Rattle.show.specs.Text.{element_lines}
use Rattle.show.proofs.text.put_plain_lines.Given as goal

abbrev pub invariant-loop-item : goal.invariant-loop-item
invariant-loop-item g l = l.to.items ≡ l.fn.to.items ++ element_lines g.T.Plain.text (take l.item-index l.items)
