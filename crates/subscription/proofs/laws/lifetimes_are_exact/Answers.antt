use Rattle.subscription.proofs.Counting.{ends, stays, served}
use Rattle.subscription.proofs.laws.lifetimes_are_exact.Goals as goal

pub returns-clause-ends : goal.returns-clause-ends
returns-clause-ends c = ends

pub returns-clause-stays : goal.returns-clause-stays
returns-clause-stays c = stays

pub returns-clause-served : goal.returns-clause-served
returns-clause-served c = served
