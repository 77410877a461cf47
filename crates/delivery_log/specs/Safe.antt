-- What makes a log safe: it delivers each item's changes in order, and never skips one without saying so.
use Rattle.std.specs.Prelude.{◌≡◌, ◌==◌, ◌⊎◌, ℕ, ◌+◌, ◌≤◌, List, [], ◌∷◌, map, Bool, true, false, Some, slice_get, if◌then◌else◌}
use Rattle.set_model.specs.declared.line.LogLine.{LogLine}
use Rattle.set_model.specs.declared.line.LogLine.TheVariants as line
use Rattle.set_model.specs.declared.line.Seen.{Seen}
use Rattle.set_model.specs.declared.line.Seen.TheVariants.{Whole}
use Rattle.set_model.specs.declared.source.Change.{Change}
use Rattle.set_model.specs.declared.stamp.Stamp.{Stamp}
use Rattle.set_model.specs.Source.{of_item, stamp_of}

-- what a line of the log is to one item: its data line, its gap line, another line, or what a listener heard
pub data Part : Type 0 where
  DataLine : (stamp : Stamp) → (value : Seen) → Part
  GapLine : Part
  OtherLine : Part
  HeardLine : Part

-- what a line of the log is to an item
abbrev pub part_of : ℕ → LogLine → Part
part_of item (line.Delivered i time pico value status) =
    if i == item then DataLine (record { time = time; pico = pico }) value else OtherLine
part_of item (line.Gap i cause) = if i == item then GapLine else OtherLine
part_of item (line.Switch from to) = OtherLine
part_of item (line.Ready server) = OtherLine
part_of item (line.Lost server) = OtherLine
part_of item (line.Unsupported server) = OtherLine
part_of item (line.Heard listener changes gaps) = HeardLine
part_of item (line.Done changes) = OtherLine

-- what the lines of a log are to an item
abbrev pub parts_of : ℕ → List LogLine → List Part
parts_of item log = map (part_of item) log

-- a data line of this stamp and value shows the change at a place
pub record IsChangeAt (changes : List Change) (place : ℕ) (stamp : Stamp) (value : Seen) : Type 0 where
  pub change : Change
  pub here : slice_get changes place ≡ Some change
  pub stamp_is : stamp ≡ stamp_of change
  pub value_is : value ≡ Whole change.value

-- A data line may show this place: it is the item's first data line, or it shows the place that comes next, or a gap
-- line of the item stands directly before it. `next` is one more than the place that the data line before shows, and 0
-- where there is none.
abbrev pub MaySkip : ℕ → ℕ → Bool → Type 0
MaySkip next place gap = (next ≡ 0) ⊎ ((next ≡ place) ⊎ (gap ≡ true))

-- a data line of this stamp and value may come next: it shows the change at a place that was not passed, and skips none
-- without a gap line
pub record MayShow (changes : List Change) (next : ℕ) (gap : Bool) (place : ℕ) (stamp : Stamp) (value : Seen) : Type 0
  where
    pub shows : IsChangeAt changes place stamp value
    pub forward : next ≤ place
    pub skip : MaySkip next place gap

-- An item's data lines are changes of the source in their order, no place twice; where places are skipped between two
-- of them, a gap line of the item stands directly before the later one. `next` is as above; `gap` says that a gap line
-- of the item stands directly before what follows. What a listener heard is not counted as a line between.
abbrev pub SafeFrom : List Change → ℕ → Bool → List Part → Type 0
SafeFrom changes next gap [] = Unit {0}
SafeFrom changes next gap (DataLine stamp value ∷ rest) =
    (place : ℕ) × MayShow changes next gap place stamp value × SafeFrom changes (place + 1) false rest
SafeFrom changes next gap (GapLine ∷ rest) = SafeFrom changes next true rest
SafeFrom changes next gap (OtherLine ∷ rest) = SafeFrom changes next false rest
SafeFrom changes next gap (HeardLine ∷ rest) = SafeFrom changes next gap rest

-- the log is safe for a source: of each item it delivers changes in their order, and tells where some may be missing
pub record Safe (source : List Change) (log : List LogLine) : Type 0 where
  pub each : (item : ℕ) → SafeFrom (of_item item source) 0 false (parts_of item log)

-- an item's data lines are changes of the source in order, no place twice
abbrev pub InOrderFrom : List Change → ℕ → List Part → Type 0
InOrderFrom changes next [] = Unit {0}
InOrderFrom changes next (DataLine stamp value ∷ rest) =
    (place : ℕ) × IsChangeAt changes place stamp value × (next ≤ place) × InOrderFrom changes (place + 1) rest
InOrderFrom changes next (GapLine ∷ rest) = InOrderFrom changes next rest
InOrderFrom changes next (OtherLine ∷ rest) = InOrderFrom changes next rest
InOrderFrom changes next (HeardLine ∷ rest) = InOrderFrom changes next rest

-- the log delivers each item's changes in order
pub record InOrder (source : List Change) (log : List LogLine) : Type 0 where
  pub each : (item : ℕ) → InOrderFrom (of_item item source) 0 (parts_of item log)
