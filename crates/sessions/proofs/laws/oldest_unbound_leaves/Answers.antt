use Rattle.sessions.proofs.Room.{leaves_oldest, stays}
use Rattle.sessions.proofs.laws.oldest_unbound_leaves.Goals as goal

pub returns-clause-stays : goal.returns-clause-stays
returns-clause-stays c = stays

pub returns-clause-oldest : goal.returns-clause-oldest
returns-clause-oldest c = leaves_oldest
