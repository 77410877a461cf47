-- The list takes the front of the first part, then what is left of the count of the second.
use Rattle.item_queue.proofs.Parts.{appended}
use Rattle.item_queue.proofs.queue.append_first.Goals as goal

pub returns-clause-ok : goal.returns-clause-ok
returns-clause-ok c =
    appended _ _ _ _ _ _ _ _ c.reserve.ensures.items c.in_ok-extend_from_slice.ensures.items c.in_ok-extend_from_slice-2.ensures.items c.min-split.ensures
