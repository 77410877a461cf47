use Rattle.std.proofs.Common.{◌+◌, ◌*◌}
use Rattle.ua_variants.proofs.diagnostic.+diagnostics.Given as goal

abbrev pub decreases-diagnostic : goal.decreases-diagnostic
decreases-diagnostic l = 2 * l.levels

abbrev pub decreases-diagnostic_in : goal.decreases-diagnostic_in
decreases-diagnostic_in l = 2 * l.levels + 1
