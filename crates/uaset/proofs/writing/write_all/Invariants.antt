use Rattle.std.proofs.Common.{◌≤◌, length}
use Rattle.uaset.specs.Edges.{HasAppendedUpTo}
use Rattle.uaset.proofs.writing.write_all.Given as goal

-- all but the rest is written, and the count has not fallen
abbrev pub invariant-loop-rest : goal.invariant-loop-rest
invariant-loop-rest g l = record {
  written : HasAppendedUpTo (g.O.Sink.written l.fn.output) (g.O.Sink.written l.output) l.bytes l.rest;
  count : g.O.Sink.faults l.fn.output ≤ g.O.Sink.faults l.output;
}

abbrev pub decreases-loop-rest : goal.decreases-loop-rest
decreases-loop-rest g l = length l.rest
