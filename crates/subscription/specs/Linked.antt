-- Neighbours among the entries that an item tells of its stream, said of places among its node's changes.
use Rattle.std.specs.Prelude.{◌≡◌, ◌<◌, ◌≤◌, ℕ, ◌+◌, List, [], ◌∷◌, false, Option, Some, None, slice_get}
use Rattle.set_model.specs.declared.source.Change.{Change}
use Rattle.item_queue.specs.declared.queue.Entry.{Entry}

-- an entry that follows another one from a queue of this size: both are changes of the list, the later one behind the
-- former, and directly behind it where it isn't marked, in a queue of two places or more
pub record IsLinked (size : ℕ) (changes : List Change) (former later : Entry) : Type 0 where
  pub place : ℕ
  pub next_place : ℕ
  pub former_at : slice_get changes place ≡ Some former.change
  pub later_at : slice_get changes next_place ≡ Some later.change
  pub rises : place < next_place
  pub next : 2 ≤ size → later.marked ≡ false → next_place ≡ place + 1

abbrev pub AreLinkedAfter : ℕ → List Change → Entry → List Entry → Type 0
AreLinkedAfter size changes former [] = Unit {0}
AreLinkedAfter size changes former (entry ∷ entries) =
    IsLinked size changes former entry × AreLinkedAfter size changes entry entries

-- each entry follows the one before it
abbrev pub AreLinked : ℕ → List Change → List Entry → Type 0
AreLinked size changes [] = Unit {0}
AreLinked size changes (entry ∷ entries) = AreLinkedAfter size changes entry entries

abbrev pub last_from : Entry → List Entry → Entry
last_from entry [] = entry
last_from entry (next ∷ entries) = last_from next entries

-- the change of the last entry
abbrev pub last_change : List Entry → Option Change
last_change [] = None
last_change (entry ∷ entries) = Some (last_from entry entries).change
