use Rattle.server_laws.proofs.Keeping.{transfers_tell}
use Rattle.server_laws.proofs.lockstep.transfers_answer_the_kept_numbers.Goals as goal

pub returns : goal.returns
returns c = transfers_tell
