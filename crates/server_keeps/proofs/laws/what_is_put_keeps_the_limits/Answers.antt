use Rattle.server_keeps.proofs.Living.{after_keeps, first_fits, life_fits, life_keeps}
use Rattle.server_keeps.proofs.laws.what_is_put_keeps_the_limits.Goals as goal

pub returns-clause-first : goal.returns-clause-first
returns-clause-first c = first_fits

pub returns-clause-step : goal.returns-clause-step
returns-clause-step c = after_keeps

pub returns-clause-state : goal.returns-clause-state
returns-clause-state c = life_fits

pub returns-clause-life : goal.returns-clause-life
returns-clause-life c = life_keeps
