-- An entry of a server's queue, as the client's log takes it.
use Rattle.std.specs.Prelude.{ℕ, List, [], ◌∷◌, Some, if◌then◌else◌}
use Rattle.set_model.specs.declared.line.Arrived.{Arrived}
use Rattle.set_model.specs.declared.line.Seen.TheVariants.{Whole}
use Rattle.set_model.specs.declared.source.Change.{Change}
use Rattle.set_model.specs.Source.{stamp_of}
use Rattle.item_queue.specs.declared.queue.Entry.{Entry}
use Rattle.delivery_log.specs.WellFed.{Linked}

-- the stamp and the value of its change, and the info type DataValue with the bit Overflow where entries before it were
-- dropped (OPC 10000-4, 7.34.1)
abbrev pub arrival_of : Entry → Arrived
arrival_of entry = record {
  time = Some (stamp_of entry.change);
  value = Whole entry.change.value;
  status = if entry.marked then 0x480 else 0;
}

abbrev pub AllLinkedAfter : List Change → ℕ → Entry → List Entry → Type 0
AllLinkedAfter source item former [] = Unit {0}
AllLinkedAfter source item former (entry ∷ entries) =
    Linked source item (arrival_of former) (arrival_of entry) × AllLinkedAfter source item entry entries

-- each entry is linked to the one before it, as the log takes them
abbrev pub AllLinked : List Change → ℕ → List Entry → Type 0
AllLinked source item [] = Unit {0}
AllLinked source item (entry ∷ entries) = AllLinkedAfter source item entry entries
