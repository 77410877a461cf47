use Rattle.item_queue.proofs.Holding.{holds_start, holds_step}
use Rattle.item_queue.proofs.laws.keeps_the_places.Goals as goal

pub returns-clause-start : goal.returns-clause-start
returns-clause-start c = holds_start

pub returns-clause-step : goal.returns-clause-step
returns-clause-step c = holds_step
