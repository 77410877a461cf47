use Rattle.std.proofs.Common.{arith, rules}
use Rattle.uaset.proofs.Pieces.{none_appended, more_appended}
use Rattle.uaset.proofs.writing.write_all.Goals as goal

pub loop-rest-init : goal.loop-rest-init
loop-rest-init g c = record { written = none_appended _ _; count = search rules }

pub loop-rest-preserved : goal.loop-rest-preserved
loop-rest-preserved g c = record {
  written = more_appended _ _ _ _ _ _ _ c.loop-rest.invariant.written c.in-Wrote.ensures.content c.split_at.ensures.back;
  count = omega (arith, c.loop-rest.invariant.count, c.in-Wrote.ensures.count);
}
