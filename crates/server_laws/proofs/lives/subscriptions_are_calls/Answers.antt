use Rattle.server_laws.proofs.Hearing.{after_comes}
use Rattle.server_laws.proofs.Living.{life_stands}
use Rattle.server_laws.proofs.lives.subscriptions_are_calls.Goals as goal

pub returns-clause-step : goal.returns-clause-step
returns-clause-step c = after_comes

pub returns-clause-life : goal.returns-clause-life
returns-clause-life c = life_stands
