use Rattle.subscription.proofs.Sourcing.{runs, stops}
use Rattle.subscription.proofs.laws.streams_are_of_the_source.Goals as goal

pub returns-clause-runs : goal.returns-clause-runs
returns-clause-runs c = runs

pub returns-clause-stops : goal.returns-clause-stops
returns-clause-stops c = stops
