use Rattle.std.proofs.Common.{◌≡◌}
use Rattle.delivery_log.specs.Log.{late_joints}
use Rattle.delivery_log.proofs.client_log.late_joints.Given as goal

-- the servers so far have late joints
abbrev pub invariant-loop-server : goal.invariant-loop-server
invariant-loop-server l = l.joints.items ≡ late_joints l._server l.items
