use Rattle.level_readings.proofs.Reading as reading
use Rattle.level_readings.proofs.levels.levels_are_those_of_the_server.Goals as goal

pub returns : goal.returns
returns c = reading.levels_were_had
