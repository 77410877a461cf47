use Rattle.set_model.proofs.SourceLemmas.{empty_stands}
use Rattle.set_model.proofs.source.SourceLog.new.Goals as goal

pub invariant_of-result : goal.invariant_of-result
invariant_of-result c = empty_stands _ _ c.new-2.ensures c.new.ensures.items
