use Rattle.std.proofs.Common.{length}
use Rattle.ua_variants.proofs.dimensions.+none_negative.Given as goal

abbrev pub decreases-none_negative : goal.decreases-none_negative
decreases-none_negative l = length l.sizes.now
