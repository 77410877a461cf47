use Rattle.std.proofs.Common.{◌≡◌, ◌++◌, map, take, drop}
use Rattle.sessions.specs.Table.{given_to}
use Rattle.sessions.proofs.ownership.give_to.Given as goal

abbrev pub invariant-loop-ownership : goal.invariant-loop-ownership
invariant-loop-ownership l =
    take l.ownership-index l.ownership-items ++ map (given_to l.id l.to) (drop l.ownership-index l.ownership-items)
    ≡ map (given_to l.id l.to) l.fn.owned.items
