use Rattle.std.proofs.Common.{◌≡◌, ◌++◌, map, take, drop}
use Rattle.sessions.specs.Table.{owned_among}
use Rattle.sessions.proofs.ownership.keep_owners_among.Given as goal

abbrev pub invariant-loop-ownership : goal.invariant-loop-ownership
invariant-loop-ownership l =
    take l.ownership-index l.ownership-items ++ map (owned_among l.sessions) (drop l.ownership-index l.ownership-items)
    ≡ map (owned_among l.sessions) l.fn.owned.items
