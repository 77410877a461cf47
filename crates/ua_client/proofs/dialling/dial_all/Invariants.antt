use Rattle.std.proofs.Common.{◌≡◌, length}
use Rattle.client_rules.specs.Dialling.{dials_among}
use Rattle.ua_client.proofs.dialling.dial_all.Given as goal

abbrev pub invariant-loop-before : goal.invariant-loop-before
invariant-loop-before l =
    (l.client ≡ dials_among l.before l.fn.client) × (length l.client.links ≡ length l.fn.client.links)
