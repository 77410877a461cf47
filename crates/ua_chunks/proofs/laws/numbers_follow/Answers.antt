use Rattle.ua_chunks.proofs.Arriving.{number_follows}
use Rattle.ua_chunks.proofs.Putting.{follows}
use Rattle.ua_chunks.proofs.laws.numbers_follow.Goals as goal

pub returns-clause-rule : goal.returns-clause-rule
returns-clause-rule c = λ number last. ((follows number last).told, (follows number last).tells)

pub returns-clause-next : goal.returns-clause-next
returns-clause-next c = number_follows
