use Rattle.server_laws.proofs.Responding.{answers_asked}
use Rattle.server_laws.proofs.lives.responses_answer_their_requests.Goals as goal

pub returns : goal.returns
returns c = answers_asked
