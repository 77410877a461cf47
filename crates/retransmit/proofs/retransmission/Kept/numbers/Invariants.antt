use Rattle.std.proofs.Common.{◌≡◌, ◌≤◌, ◌++◌, ◌+◌, length, vec_len, vec_capacity}
use Rattle.retransmit.specs.Kept.{numbers_of}
use Rattle.retransmit.proofs.retransmission.Kept.numbers.Given as goal

abbrev pub invariant-loop-sent : goal.invariant-loop-sent
invariant-loop-sent g l =
    (goal.iterator-loop-sent g).can_next l.sent-iterator ×
    (goal.iterator-loop-sent g).is_finite l.sent-iterator ×
    (l.to.items ++ numbers_of l.sent-iterator ≡ l.fn.to.items ++ numbers_of l.self) ×
    (vec_len l.to + length l.sent-iterator ≤ vec_capacity l.to)
