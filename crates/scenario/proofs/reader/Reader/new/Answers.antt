use Rattle.std.proofs.Common.{sym}
use Rattle.scenario.proofs.PastLemmas.{recalls_at, recalls_none}
use Rattle.scenario.proofs.reader.Reader.new.Goals as goal

pub invariant_of-result : goal.invariant_of-result
invariant_of-result c =
    recalls_at _ _ _ _ _ _ _ (sym c.new.ensures.items) (sym c.new-3.ensures) (sym c.new-4.ensures.items) (recalls_none _ c.new-2.ensures)
