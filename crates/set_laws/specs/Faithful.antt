-- A log that can be trusted about the source.
use Rattle.std.specs.Prelude.{List}
use Rattle.set_model.specs.declared.line.LogLine.{LogLine}
use Rattle.set_model.specs.declared.source.Change.{Change}
use Rattle.delivery_log.specs.History.{Act}
use Rattle.delivery_log.specs.Safe.{InOrder, Safe}
use Rattle.delivery_log.specs.WellFed.{WellFed}

-- what happened to it fed it with changes of the source; each item's data lines are changes of it, each once, in source order;
-- and where a change between two of them is missing a gap line stands directly before the later one
pub record IsFaithful (source : List Change) (history : List Act) (log : List LogLine) : Type 0 where
  pub fed : WellFed source history
  pub safe : Safe source log
  pub ordered : InOrder source log
