use Rattle.std.proofs.Common.{◌≡◌, ◌++◌, drop, map, take}
use Rattle.delivery_log.specs.Judge.{turned}
use Rattle.delivery_log.proofs.client_log.Joints.turn.Given as goal

-- the joints so far are turned, and the others will be
abbrev pub invariant-loop-joint : goal.invariant-loop-joint
invariant-loop-joint l = take l.joint-index l.joint-items ++ map (turned l.turn) (drop l.joint-index l.joint-items) ≡ map (turned l.turn) l.fn.self
