use Rattle.std.proofs.Common.{◌≡◌, ◌++◌, map, take, drop}
use Rattle.subscription.specs.Calls.{fed}
use Rattle.server_subs.proofs.subs.feed_all.Given as goal

abbrev pub invariant-loop-sub : goal.invariant-loop-sub
invariant-loop-sub l =
    take l.sub-index l.sub-items ++ map (fed l.change) (drop l.sub-index l.sub-items)
    ≡ map (fed l.change) l.fn.subs.items
