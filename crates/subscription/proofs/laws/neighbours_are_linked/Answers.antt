use Rattle.subscription.proofs.Linking.{ends, linked}
use Rattle.subscription.proofs.laws.neighbours_are_linked.Goals as goal

pub returns-clause-linked : goal.returns-clause-linked
returns-clause-linked c = linked

pub returns-clause-ends : goal.returns-clause-ends
returns-clause-ends c = ends
