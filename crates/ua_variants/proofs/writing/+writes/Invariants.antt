use Rattle.std.proofs.Common.{◌≡◌, ◌+◌, ◌*◌, ◌++◌, take}
use Rattle.std.specs.List.{flat_map}
use Rattle.ua_variants.specs.Spelling.{written_variant, written_data_value}
use Rattle.ua_variants.proofs.writing.+writes.Given as goal

abbrev pub invariant-put_data_values-loop-item : goal.invariant-put_data_values-loop-item
invariant-put_data_values-loop-item l = l.to.items ≡ l.fn.to.items ++ flat_map written_data_value (take l.item-index l.items)

abbrev pub invariant-put_variants-loop-item : goal.invariant-put_variants-loop-item
invariant-put_variants-loop-item l = l.to.items ≡ l.fn.to.items ++ flat_map written_variant (take l.item-index l.items)

abbrev pub decreases-put_variant : goal.decreases-put_variant
decreases-put_variant l = 4 * goal.size-put_variant l

abbrev pub decreases-put_variants : goal.decreases-put_variants
decreases-put_variants l = 4 * goal.size-put_variants l + 1

abbrev pub decreases-put_some_variant : goal.decreases-put_some_variant
decreases-put_some_variant l = 4 * goal.size-put_some_variant l + 1

abbrev pub decreases-put_data_value : goal.decreases-put_data_value
decreases-put_data_value l = 4 * goal.size-put_data_value l + 2

abbrev pub decreases-put_data_values : goal.decreases-put_data_values
decreases-put_data_values l = 4 * goal.size-put_data_values l + 3
