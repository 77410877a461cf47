use Rattle.std.proofs.Common.{◌≡◌, drop}
use Rattle.direct_world.specs.Server.{pushed_all}
use Rattle.direct_world.proofs.server.push_all.Given as goal

-- the queues after what is left are the queues after all
abbrev pub invariant-loop-change : goal.invariant-loop-change
invariant-loop-change l = pushed_all (drop l.change-index l.changes) l.queues ≡ pushed_all l.changes l.fn.queues
