-- What the client's log keeps.
use Rattle.std.specs.Prelude.{List, Option}
use Rattle.set_model.specs.declared.line.LogLine.{LogLine}
use Rattle.set_model.specs.declared.stamp.Stamp.{Stamp}
use Rattle.delivery_log.specs.declared.rule.Joint.{Joint}

-- the stamp last delivered of each item, item 1 first; the joints of each server, server 1 first, with one for each
-- item; and the lines so far
pub record LogState : Type 0 where
  pub lasts : List (Option Stamp)
  pub joints : List (List Joint)
  pub lines : List LogLine
