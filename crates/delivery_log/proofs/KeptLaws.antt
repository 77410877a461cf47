-- The laws, said of the lines that the log keeps.
use Rattle.std.proofs.Common.{◌≡◌, List, ℕ, false, sym, subst}
use Rattle.set_model.specs.declared.line.LogLine.{LogLine}
use Rattle.set_model.specs.declared.source.Change.{Change}
use Rattle.set_model.specs.Source.{of_item, IsSource}
use Rattle.delivery_log.specs.Caused.{Caused}
use Rattle.delivery_log.specs.History.{Act, AreWithin, lines_of, log_of}
use Rattle.delivery_log.specs.Safe.{InOrder, Safe, parts_of}
use Rattle.delivery_log.specs.WellFed.{AreNotes, IsFed, WellFed}
use Rattle.delivery_log.proofs.Causes.{caused_lines}
use Rattle.delivery_log.proofs.Kept.{log_stands}
use Rattle.delivery_log.proofs.Law.{in_order_from_fed, safe_from_well_fed}
use Rattle.delivery_log.proofs.Steps.{in_order_from_safe}

-- a safe log is in order
pub in_order_safe : (source : List Change) (log : List LogLine) → Safe source log → InOrder source log
in_order_safe source log h = record { each = λ item. in_order_from_safe (of_item item source) 0 false (parts_of item log) (h.each item) }

kept_lines : (servers items : ℕ) (history : List Act) → AreWithin servers items history → (log_of servers items history).lines ≡ lines_of history
kept_lines servers items history w = (log_stands servers items history w).lines

pub safe_kept : (servers items : ℕ) (source : List Change) (history : List Act) → AreWithin servers items history → IsSource source → WellFed source history
    → Safe source (log_of servers items history).lines
safe_kept servers items source history w h fed =
    let P : List LogLine → Type 0 = Safe source in
    subst P (sym (kept_lines servers items history w)) (safe_from_well_fed source history h fed)

pub in_order_kept : (servers items : ℕ) (source : List Change) (history : List Act) → AreWithin servers items history → IsSource source → IsFed source history
    → InOrder source (log_of servers items history).lines
in_order_kept servers items source history w h fed =
    let P : List LogLine → Type 0 = InOrder source in
    subst P (sym (kept_lines servers items history w)) (in_order_from_fed source history h fed)

pub caused_kept : (servers items : ℕ) (history : List Act) → AreWithin servers items history → AreNotes history → Caused history (log_of servers items history).lines
caused_kept servers items history w n =
    let P : List LogLine → Type 0 = Caused history in
    subst P (sym (kept_lines servers items history w)) (caused_lines history n)
