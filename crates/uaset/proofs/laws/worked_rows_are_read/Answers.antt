-- each by computing the definitions
use Rattle.std.proofs.Common.{refl}
use Rattle.uaset.proofs.laws.worked_rows_are_read.Goals as goal

pub returns-clause-least : goal.returns-clause-least
returns-clause-least c = refl

pub returns-clause-most : goal.returns-clause-most
returns-clause-most c = refl

pub returns-clause-early : goal.returns-clause-early
returns-clause-early c = refl

pub returns-clause-beyond : goal.returns-clause-beyond
returns-clause-beyond c = refl

pub returns-clause-faulty : goal.returns-clause-faulty
returns-clause-faulty c = refl

pub returns-clause-more : goal.returns-clause-more
returns-clause-more c = refl
