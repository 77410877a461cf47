use Rattle.std.proofs.Common.{◌≡◌, ◌++◌, drop, map}
use Rattle.server_rules.specs.Reading.{value_read}
use Rattle.server_items.proofs.values.values_read.Given as goal

abbrev pub invariant-loop-one : goal.invariant-loop-one
invariant-loop-one l =
    l.values.items ++ map (value_read l.nodes l.stamps) (drop l.one-index l.asked) ≡ map (value_read l.nodes l.stamps) l.asked
