use Rattle.std.proofs.Common.{◌≡◌, ◌++◌, map, drop}
use Rattle.link_rules.specs.Requests.{acknowledgement}
use Rattle.link_turn.proofs.requests.acknowledgements.Given as goal

abbrev pub invariant-loop-number : goal.invariant-loop-number
invariant-loop-number l =
    l.acks.items ++ map (acknowledgement l.id) (drop l.number-index l.numbers) ≡ map (acknowledgement l.id) l.numbers
