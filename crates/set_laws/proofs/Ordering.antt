-- A safe log is in order.
use Rattle.std.proofs.Common.{ℕ, ◌+◌, Bool, true, false, List, [], ◌∷◌}
use Rattle.set_model.specs.declared.line.LogLine.{LogLine}
use Rattle.set_model.specs.declared.source.Change.{Change}
use Rattle.set_model.specs.Source.{of_item}
use Rattle.delivery_log.specs.Safe.{DataLine, GapLine, HeardLine, InOrder, InOrderFrom, OtherLine, Part, Safe, SafeFrom, parts_of}

order_from : (changes : List Change) (next : ℕ) (gap : Bool) (parts : List Part) → SafeFrom changes next gap parts → InOrderFrom changes next parts
order_from changes next gap [] safe = tt
order_from changes next gap (DataLine stamp value ∷ rest) safe =
    (safe.0, safe.1.shows, safe.1.forward, order_from changes (safe.0 + 1) false rest safe.2)
order_from changes next gap (GapLine ∷ rest) safe = order_from changes next true rest safe
order_from changes next gap (OtherLine ∷ rest) safe = order_from changes next false rest safe
order_from changes next gap (HeardLine ∷ rest) safe = order_from changes next gap rest safe

pub ordered : (source : List Change) (log : List LogLine) → Safe source log → InOrder source log
ordered source log safe = record { each = λ item. order_from (of_item item source) 0 false (parts_of item log) (safe.each item) }
