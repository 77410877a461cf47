use Rattle.std.proofs.Common.{◌≡◌, ◌-◌}
use Rattle.ua_values.specs.Readers.{elements_at}
use Rattle.ua_values.proofs.ArrayLoop.{with_front}
use Rattle.ua_values.proofs.array.elements.Given as goal

abbrev pub invariant-loop-i : goal.invariant-loop-i
invariant-loop-i g l = with_front l.items.items (elements_at (l.count - l._i) g.T.Element.at l.from) ≡ elements_at l.count g.T.Element.at l.fn.from
