-- Lines whose numbers are those that their types hold.
use Rattle.std.specs.Prelude.{◌<◌, ◌^◌}
use Rattle.scenario.specs.declared.line.Line.{Line}
use Rattle.scenario.specs.declared.line.Line.TheVariants as line
use Rattle.server_keeps.specs.Fitting.{FitsChange}

-- a change of numbers of 64 bits, and a level that is a Byte
abbrev pub FitsLine : Line → Type 0
FitsLine (line.Change change) = FitsChange change
FitsLine (line.Level server level) = level < 2 ^ 8
FitsLine other = Unit {0}
