use Rattle.std.proofs.Common.{◌≡◌, ◌++◌, map, take, drop}
use Rattle.redundancy_nodes.specs.Current.{renewed}
use Rattle.redundancy_nodes.proofs.current.renew_each.Given as goal

abbrev pub invariant-loop-known : goal.invariant-loop-known
invariant-loop-known l =
    take l.known-index l.known-items ++ map (renewed l.change) (drop l.known-index l.known-items) ≡ map (renewed l.change) l.fn.list.items
