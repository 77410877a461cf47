-- each scenario by computing the definitions
use Rattle.std.proofs.Common.{refl}
use Rattle.std.specs.Fmt.{digits}
use Rattle.scenario.specs.Generate.{drawn, next_state}
use Rattle.scenario.proofs.worked.seeds_have_their_scenarios.Goals as goal

pub returns-clause-first : goal.returns-clause-first
unfolding digits drawn next_state
returns-clause-first c = refl

pub returns-clause-second : goal.returns-clause-second
unfolding digits drawn next_state
returns-clause-second c = refl

pub returns-clause-third : goal.returns-clause-third
unfolding digits drawn next_state
returns-clause-third c = refl
