use Rattle.std.proofs.Common.{◌≡◌, ◌+◌, ◌-◌, ◌*◌}
use Rattle.ua_values.specs.Readers.{elements_at}
use Rattle.ua_values.proofs.ArrayLoop.{with_front}
use Rattle.ua_variants.specs.Reader.{variant_at, data_value_at}
use Rattle.ua_variants.proofs.nested.+reads.Given as goal

abbrev pub decreases-variant : goal.decreases-variant
decreases-variant l = 5 * l.levels

abbrev pub decreases-data_value : goal.decreases-data_value
decreases-data_value l = 5 * l.levels

abbrev pub decreases-some_variant : goal.decreases-some_variant
decreases-some_variant l = 5 * l.levels + 1

abbrev pub decreases-data_value_in : goal.decreases-data_value_in
decreases-data_value_in l = 5 * l.levels + 2

abbrev pub decreases-variants : goal.decreases-variants
decreases-variants l = 5 * l.levels + 1

abbrev pub decreases-data_values : goal.decreases-data_values
decreases-data_values l = 5 * l.levels + 1

abbrev pub decreases-body : goal.decreases-body
decreases-body l = 5 * l.levels + 2

abbrev pub decreases-variant_in : goal.decreases-variant_in
decreases-variant_in l = 5 * l.levels + 3

abbrev pub invariant-data_values-loop-i : goal.invariant-data_values-loop-i
invariant-data_values-loop-i l = with_front l.items (elements_at (l.count - l._i) (data_value_at l.levels) l.from) ≡ elements_at l.count (data_value_at l.levels) l.fn.from

abbrev pub invariant-variants-loop-i : goal.invariant-variants-loop-i
invariant-variants-loop-i l = with_front l.items (elements_at (l.count - l._i) (variant_at l.levels) l.from) ≡ elements_at l.count (variant_at l.levels) l.fn.from
