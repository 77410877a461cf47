-- What is linked in a queue is linked to the log.
use Rattle.std.proofs.Common.{◌≡◌, ◌≤◌, ℕ, List, [], ◌∷◌, Some, refl, sym, ◌∙◌, slice_get}
use Rattle.set_model.specs.declared.source.Change.{Change}
use Rattle.set_model.specs.Source.{of_item, stamp_of}
use Rattle.item_queue.specs.declared.queue.Entry.{Entry}
use Rattle.delivery_log.specs.WellFed.{IsAt, IsFedEntry, Linked}
use Rattle.subscription.specs.Linked.{AreLinked, AreLinkedAfter, IsLinked}
use Rattle.arriving_entries.specs.Arrivals.{AllLinked, AllLinkedAfter, arrival_of}
use Rattle.arriving_entries.proofs.Arriving.{marks}

stands_at : (source : List Change) (item place : ℕ) (entry : Entry) → slice_get (of_item item source) place ≡ Some entry.change
    → IsAt source item (arrival_of entry) place
stands_at source item place entry here = record {
  stamp = stamp_of entry.change;
  timed = refl;
  shows = record { change = entry.change; here = here; stamp_is = refl; value_is = refl };
}

pub fed_so : (source : List Change) (item place : ℕ) (entry : Entry) → slice_get (of_item item source) place ≡ Some entry.change
    → IsFedEntry source item (arrival_of entry)
fed_so source item place entry here = record {
  fed = λ stamp timed. (place, record { change = entry.change; here = here; stamp_is = cc; value_is = refl });
}

pub linked_so : (source : List Change) (item size : ℕ) (former later : Entry) → 2 ≤ size → IsLinked size (of_item item source) former later
    → Linked source item (arrival_of former) (arrival_of later)
linked_so source item size former later wide h = record {
  from = h.place;
  to = h.next_place;
  former_at = stands_at source item h.place former h.former_at;
  entry_at = stands_at source item h.next_place later h.later_at;
  later = h.rises;
  next = λ clear. h.next wide (sym (marks later) ∙ clear);
}

all_after : (source : List Change) (item size : ℕ) (former : Entry) (entries : List Entry) → 2 ≤ size
    → AreLinkedAfter size (of_item item source) former entries → AllLinkedAfter source item former entries
all_after source item size former [] wide h = tt
all_after source item size former (entry ∷ entries) wide h =
    (linked_so source item size former entry wide h.0, all_after source item size entry entries wide h.1)

pub all_so : (source : List Change) (item size : ℕ) (entries : List Entry) → 2 ≤ size → AreLinked size (of_item item source) entries
    → AllLinked source item entries
all_so source item size [] wide h = tt
all_so source item size (entry ∷ entries) wide h = all_after source item size entry entries wide h
