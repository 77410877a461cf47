use Rattle.link_keeps.proofs.Again.{message_fits, opening_fits}
use Rattle.link_keeps.proofs.keeping.replies_that_keep_fit.Goals as goal

pub returns-clause-message : goal.returns-clause-message
returns-clause-message c = message_fits c.replies_are_read_again.ensures.again

pub returns-clause-opening : goal.returns-clause-opening
returns-clause-opening c = opening_fits c.replies_are_read_again.ensures.again
