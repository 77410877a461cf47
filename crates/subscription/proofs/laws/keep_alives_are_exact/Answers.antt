use Rattle.subscription.proofs.Counting.{first, later}
use Rattle.subscription.proofs.laws.keep_alives_are_exact.Goals as goal

pub returns-clause-first : goal.returns-clause-first
returns-clause-first c = first

pub returns-clause-later : goal.returns-clause-later
returns-clause-later c = later
