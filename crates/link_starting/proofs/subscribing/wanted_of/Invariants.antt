use Rattle.std.proofs.Common.{◌≡◌, ◌++◌, drop}
use Rattle.link_rules.specs.Numbers.{wanted_of}
use Rattle.link_starting.proofs.subscribing.wanted_of.Given as goal

abbrev pub invariant-loop-number : goal.invariant-loop-number
invariant-loop-number l =
    l.wanted.items ++ wanted_of l.next (drop l.number-index l.available) ≡ wanted_of l.next l.available
