use Rattle.std.proofs.Common.{◌≡◌, drop}
use Rattle.link_rules.specs.Subscribing.{monitored_after, monitored_of}
use Rattle.link_starting.proofs.subscribing.monitored_of.Given as goal

abbrev pub invariant-loop-one : goal.invariant-loop-one
invariant-loop-one l =
    monitored_after l.items l.item (drop l.one-index l.results) l.monitored.items ≡ monitored_of l.items l.results
