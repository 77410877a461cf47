use Rattle.std.proofs.Common.{◌≡◌}
use Rattle.ua_client.specs.State.{first_ends}
use Rattle.ua_client.proofs.ends.first_ends.Given as goal

abbrev pub invariant-loop-before : goal.invariant-loop-before
invariant-loop-before l = l.channels ≡ first_ends l.before
