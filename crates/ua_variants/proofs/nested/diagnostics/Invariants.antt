use Rattle.std.proofs.Common.{◌≡◌, ◌-◌}
use Rattle.ua_values.specs.Readers.{elements_at}
use Rattle.ua_values.proofs.ArrayLoop.{with_front}
use Rattle.ua_variants.specs.Reader.{diagnostic_at}
use Rattle.ua_variants.proofs.nested.diagnostics.Given as goal

abbrev pub invariant-loop-i : goal.invariant-loop-i
invariant-loop-i l = with_front l.items.items (elements_at (l.count - l._i) (diagnostic_at 101) l.from) ≡ elements_at l.count (diagnostic_at 101) l.fn.from
