use Rattle.arriving_entries.proofs.Arriving.{arrives, marks, pico_there}
use Rattle.arriving_entries.proofs.entries.entries_arrive.Goals as goal

pub returns-clause-arrives : goal.returns-clause-arrives
returns-clause-arrives c = arrives

pub returns-clause-of_source : goal.returns-clause-of_source
returns-clause-of_source c = λ now stamps source item place entry timed rises here.
    arrives now stamps entry timed (pico_there item source place entry.change rises.picos here)

pub returns-clause-marks : goal.returns-clause-marks
returns-clause-marks c = marks
