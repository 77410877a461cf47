use Rattle.std.proofs.Common.{◌≡◌}
use Rattle.client_rules.specs.Dialling.{are_idle}
use Rattle.ua_client.proofs.dialling.are_idle.Given as goal

abbrev pub invariant-loop-before : goal.invariant-loop-before
invariant-loop-before l = l.idle ≡ are_idle l.before l.client
