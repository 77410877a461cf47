use Rattle.std.proofs.Common.{arith, refl, true}
use Rattle.item_queue.proofs.Holding.{holds_run, queue_after-takes, taken_single, takes_at_place}
use Rattle.item_queue.proofs.laws.holds_the_places.Goals as goal

pub returns-clause-entries : goal.returns-clause-entries
returns-clause-entries c = λ oldest size calls positive. (holds_run oldest size calls positive).entries

pub returns-clause-is_window : goal.returns-clause-is_window
returns-clause-is_window c = λ size calls positive. (holds_run true size calls positive).is_window refl

pub returns-clause-place : goal.returns-clause-place
returns-clause-place c = λ oldest size calls entry positive is. takes_at_place oldest size _ _ entry (holds_run oldest size calls positive) is

pub returns-clause-single : goal.returns-clause-single
returns-clause-single c = λ oldest calls. taken_single oldest _ _ (holds_run oldest 1 calls (omega arith))

pub returns-clause-several : goal.returns-clause-several
returns-clause-several c = queue_after-takes
