use Rattle.level_readings.proofs.Linking as linking
use Rattle.level_readings.proofs.levels.levels_are_read_first.Goals as goal

pub returns-clause-told : goal.returns-clause-told
returns-clause-told c = linking.levels_were_read

pub returns-clause-asked : goal.returns-clause-asked
returns-clause-asked c = linking.reads_ask_for_levels
