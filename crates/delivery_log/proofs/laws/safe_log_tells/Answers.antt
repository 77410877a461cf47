use Rattle.delivery_log.proofs.ReadingLemmas.{tells_from_safe}
use Rattle.delivery_log.proofs.laws.safe_log_tells.Goals as goal

pub returns : goal.returns
returns c = tells_from_safe
