use Rattle.std.proofs.Common.{◌≡◌, ◌≤◌, ◌++◌, take, drop, length}
use Rattle.retransmit.specs.Kept.{without}
use Rattle.retransmit.proofs.retransmission.take_out.Given as goal

-- the messages that were not turned yet, then those of other numbers among the turned
abbrev pub invariant-loop-i : goal.invariant-loop-i
invariant-loop-i g l =
    (l.ring.items ≡ drop l._i l.fn.ring.items ++ without l.number (take l._i l.fn.ring.items)) ×
    (length l.ring.items ≤ l.ring.capacity) ×
    (l.ring.capacity ≡ l.fn.ring.capacity)
