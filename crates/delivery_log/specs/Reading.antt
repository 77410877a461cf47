-- What a safe log tells its reader, without places or a walk: said of any data line, and of any two neighbouring ones.
use Rattle.std.specs.Prelude.{◌≡◌, ℕ, List, [], ◌∷◌, ◌++◌, Bool, true, false, Some, slice_get}
use Rattle.set_model.specs.declared.line.LogLine.{LogLine}
use Rattle.set_model.specs.declared.line.Seen.{Seen}
use Rattle.set_model.specs.declared.source.Change.{Change}
use Rattle.set_model.specs.declared.stamp.Stamp.{Stamp}
use Rattle.set_model.specs.Source.{of_item, stamp_of}
use Rattle.set_model.specs.Stamp.{is_before}
use Rattle.delivery_log.specs.Safe.{Part, DataLine, GapLine, OtherLine, HeardLine, IsChangeAt, part_of}

abbrev pub is_data : Part → Bool
is_data (DataLine stamp value) = true
is_data GapLine = false
is_data OtherLine = false
is_data HeardLine = false

-- none of the lines is a data line of the item
abbrev pub HaveNoData : ℕ → List LogLine → Type 0
HaveNoData item [] = Unit {0}
HaveNoData item (line ∷ lines) = (is_data (part_of item line) ≡ false) × HaveNoData item lines

-- the lines tell what listeners heard
abbrev pub AreHeard : ℕ → List LogLine → Type 0
AreHeard item [] = Unit {0}
AreHeard item (line ∷ lines) = (part_of item line ≡ HeardLine) × AreHeard item lines

-- the last of the lines is a gap line of the item, but for what listeners heard
pub record EndInGap (item : ℕ) (lines : List LogLine) : Type 0 where
  pub before : List LogLine
  pub gap : LogLine
  pub heard : List LogLine
  pub are : lines ≡ before ++ gap ∷ heard
  pub gap_is : part_of item gap ≡ GapLine
  pub heard_are : AreHeard item heard

-- a data line of an item stands in the log
pub record IsInLog (item : ℕ) (log : List LogLine) (stamp : Stamp) (value : Seen) : Type 0 where
  pub front : List LogLine
  pub shown : LogLine
  pub back : List LogLine
  pub is : log ≡ front ++ shown ∷ back
  pub shown_is : part_of item shown ≡ DataLine stamp value

-- two data lines of an item, of these stamps, stand in the log with these lines between them, of which none is a data
-- line of the item
pub record AreNeighbours (item : ℕ) (log : List LogLine) (first : Stamp) (between : List LogLine) (second : Stamp) : Type 0 where
  pub front : List LogLine
  pub former : LogLine
  pub latter : LogLine
  pub back : List LogLine
  pub are : log ≡ front ++ former ∷ (between ++ latter ∷ back)
  pub former_value : Seen
  pub latter_value : Seen
  pub former_is : part_of item former ≡ DataLine first former_value
  pub latter_is : part_of item latter ≡ DataLine second latter_value
  pub none : HaveNoData item between

-- each data line is a change of the source; of two neighbouring ones the later has the later stamp; and where a change
-- of the item lies between their stamps, a gap line of the item stands directly before the later one
pub record Tells (source : List Change) (log : List LogLine) : Type 0 where
  pub change : (item : ℕ) (stamp : Stamp) (value : Seen) → IsInLog item log stamp value
      → (place : ℕ) × IsChangeAt (of_item item source) place stamp value
  pub order : (item : ℕ) (first second : Stamp) (between : List LogLine) → AreNeighbours item log first between second
      → is_before first second ≡ true
  pub gap : (item : ℕ) (first second : Stamp) (between : List LogLine) → AreNeighbours item log first between second
      → (place : ℕ) (missing : Change) → slice_get (of_item item source) place ≡ Some missing
      → is_before first (stamp_of missing) ≡ true → is_before (stamp_of missing) second ≡ true → EndInGap item between
