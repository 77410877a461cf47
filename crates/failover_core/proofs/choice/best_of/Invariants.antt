use Rattle.std.proofs.Common.{◌≡◌, drop, None}
use Rattle.failover_core.specs.Choice.{best_from}
use Rattle.failover_core.proofs.choice.best_of.Given as goal

-- the best of what is left, after the best so far, is the best of all
abbrev pub invariant-loop-one : goal.invariant-loop-one
invariant-loop-one l = best_from l.active l.best (drop l.one-index l.ready) ≡ best_from l.active None l.ready
