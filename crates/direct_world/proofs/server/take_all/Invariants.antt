use Rattle.std.proofs.Common.{◌≡◌, ◌+◌, ◌++◌, take, drop, length}
use Rattle.direct_world.specs.Server.{left_after}
use Rattle.direct_world.specs.Acts.{after_acts, taking}
use Rattle.direct_world.proofs.server.take_all.Given as goal

-- what is left to be done gives, after what is done, the queues and the log of all
abbrev pub invariant-loop-place : goal.invariant-loop-place
invariant-loop-place l = record {
  queues : take l.place l.queues ++ left_after l.count (drop l.place l.queues) ≡ left_after l.count l.fn.queues;
  log : after_acts (taking l.server (l.place + 1) l.count (drop l.place l.queues)) l.log ≡ after_acts (taking l.server 1 l.count l.fn.queues) l.fn.log;
  items : length l.log.lasts ≡ length l.fn.log.lasts;
  servers : length l.log.joints ≡ length l.fn.log.joints;
}
