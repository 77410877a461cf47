use Rattle.std.proofs.Common.{◌≡◌}
use Rattle.retransmit.specs.Kept.{message_of}
use Rattle.retransmit.proofs.retransmission.Kept.get.Given as goal

abbrev pub invariant-loop-sent : goal.invariant-loop-sent
invariant-loop-sent g l =
    (goal.iterator-loop-sent g).can_next l.sent-iterator ×
    (goal.iterator-loop-sent g).is_finite l.sent-iterator ×
    (message_of l.number l.sent-iterator ≡ message_of l.number l.self)
