use Rattle.client_laws.proofs.Logs.{causes}
use Rattle.client_laws.proofs.log.gaps_have_true_causes.Goals as goal

pub returns : goal.returns
returns c = causes
