use Rattle.std.proofs.Common.{◌+◌, ◌-◌, ◌≤◌, vec_len}
use Rattle.uaset.specs.Edges.{HasTaken}
use Rattle.uaset.proofs.reading.read_all.Given as goal

-- what was read so far stood first, and the count has not fallen
abbrev pub invariant-loop-piece : goal.invariant-loop-piece
invariant-loop-piece g l = record {
  taken : HasTaken (g.I.Source.left l.fn.input) (g.I.Source.left l.input) l.bytes.items;
  count : g.I.Source.faults l.fn.input ≤ g.I.Source.faults l.input;
}

abbrev pub decreases-loop-piece : goal.decreases-loop-piece
decreases-loop-piece g l = l.most + 1 - vec_len l.bytes
