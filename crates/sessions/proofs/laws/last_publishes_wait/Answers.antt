use Rattle.sessions.proofs.Waiting.{keeps_last}
use Rattle.sessions.proofs.laws.last_publishes_wait.Goals as goal

pub returns : goal.returns
returns c = keeps_last
