use Rattle.std.proofs.Common.{◌≡◌, ◌++◌, drop, map}
use Rattle.server_rules.specs.Reading.{called}
use Rattle.server_items.proofs.methods.called_each.Given as goal

abbrev pub invariant-loop-one : goal.invariant-loop-one
invariant-loop-one l =
    l.given.items ++ map (called l.session l.server) (drop l.one-index l.calls) ≡ map (called l.session l.server) l.calls
