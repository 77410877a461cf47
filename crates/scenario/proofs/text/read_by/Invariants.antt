use Rattle.std.proofs.Common.{◌≡◌, length}
use Rattle.scenario.specs.Words.{lines_of}
use Rattle.scenario.specs.Scenario.{valid_from, scenario_of}
use Rattle.scenario.proofs.text.read_by.Given as goal

-- after the lines read so far, the rest of the text gives what the whole text gives
abbrev pub invariant-loop-rest : goal.invariant-loop-rest
invariant-loop-rest l = valid_from l.rules l.reader (lines_of l.rest) ≡ scenario_of l.fn.rules l.fn.bytes

abbrev pub decreases-loop-rest : goal.decreases-loop-rest
decreases-loop-rest l = length l.rest
