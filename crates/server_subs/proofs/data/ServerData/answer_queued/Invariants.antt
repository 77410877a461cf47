use Rattle.server_rules.specs.Moves.{answered_queued}
use Rattle.server_rules.specs.Moves.{queued}
use Rattle.server_subs.specs.Continuing.{Continues}
use Rattle.server_subs.proofs.data.ServerData.answer_queued.Given as goal

abbrev pub invariant-loop-waiting : goal.invariant-loop-waiting
invariant-loop-waiting l = Continues (answered_queued l.code l.session l.self) (answered_queued l.code l.session l.fn.self) l.to.items l.fn.to.items

abbrev pub decreases-loop-waiting : goal.decreases-loop-waiting
decreases-loop-waiting l = queued l.session l.self
