use Rattle.std.proofs.Common.{◌≡◌}
use Rattle.ua_client.specs.Step.{shut_among}
use Rattle.ua_client.proofs.step.shut_all.Given as goal

abbrev pub invariant-loop-before : goal.invariant-loop-before
invariant-loop-before l = l.channels ≡ shut_among l.before l.client l.fn.channels
