use Rattle.std.proofs.Common.{◌≡◌, ◌-◌, ◌*◌, ◌^◌, ◌≤◌, min, drop}
use Rattle.ua_variants.specs.Grammar.{product}
use Rattle.ua_variants.proofs.dimensions.product.Given as goal

abbrev pub invariant-loop-size : goal.invariant-loop-size
invariant-loop-size l = (l.total ≤ 2 ^ 128 - 1) × (min (l.total * product (drop l.size-index l.sizes)) (2 ^ 128 - 1) ≡ min (product l.sizes) (2 ^ 128 - 1))
