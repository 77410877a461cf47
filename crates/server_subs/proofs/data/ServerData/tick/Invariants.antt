use Rattle.std.proofs.Common.{◌≤◌, ◌-◌}
use Rattle.server_rules.specs.Timer.{ticked}
use Rattle.server_subs.specs.Continuing.{Continues}
use Rattle.server_subs.proofs.data.ServerData.tick.Given as goal

abbrev pub invariant-loop-self : goal.invariant-loop-self
invariant-loop-self l =
    (l.self.age ≤ l.end) × Continues (ticked (l.end - l.self.age) l.self) (ticked l.ms l.fn.self) l.to.items l.fn.to.items

abbrev pub decreases-loop-self : goal.decreases-loop-self
decreases-loop-self l = l.end - l.self.age
