use Rattle.std.proofs.Common.{◌≡◌, ◌+◌, ◌++◌, take, drop, length}
use Rattle.direct_world.specs.Server.{opened_all}
use Rattle.direct_world.specs.Lives.{values_from}
use Rattle.direct_world.proofs.server.open_all.Given as goal

abbrev pub invariant-loop-place : goal.invariant-loop-place
invariant-loop-place l =
    take l.place l.queues ++ opened_all (values_from (l.place + 1) (length (drop l.place l.queues)) l.source) (drop l.place l.queues)
    ≡ opened_all (values_from 1 (length l.fn.queues) l.source) l.fn.queues
