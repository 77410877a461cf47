use Rattle.ua_services.proofs.Said.{asked_said}
use Rattle.ua_services.proofs.request.read_request.Goals as goal

pub returns-clause-asked : goal.returns-clause-asked
returns-clause-asked c = asked_said c.args.body.now c.read_asked.result c.read_asked.ensures
