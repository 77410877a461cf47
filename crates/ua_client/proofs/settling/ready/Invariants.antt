use Rattle.std.proofs.Common.{◌≡◌}
use Rattle.client_rules.specs.Settling.{ready_among}
use Rattle.ua_client.proofs.settling.ready.Given as goal

abbrev pub invariant-loop-before : goal.invariant-loop-before
invariant-loop-before l = l.ready.items ≡ ready_among l.before l.client
