use Rattle.server_keeps.proofs.Taking.{message_fits, opening_fits}
use Rattle.server_keeps.proofs.laws.requests_that_keep_fit.Goals as goal

pub returns-clause-message : goal.returns-clause-message
returns-clause-message c = message_fits c.requests_are_read_again.ensures.again

pub returns-clause-opening : goal.returns-clause-opening
returns-clause-opening c = opening_fits c.session_requests_are_lawful.ensures
