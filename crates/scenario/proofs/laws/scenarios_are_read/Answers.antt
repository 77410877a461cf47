use Rattle.scenario.proofs.StandLemmas.{standing_read, lines_stand}
use Rattle.scenario.proofs.laws.scenarios_are_read.Goals as goal

pub returns : goal.returns
returns c = record { read = standing_read; no_others = lines_stand }
