-- The source of a set: what a list of changes must be, and when one more change is refused.
use Rattle.std.specs.Prelude.{◌≡◌, ◌≢◌, ◌==◌, true, ℕ, ◌+◌, ◌<◌, ◌≤◌, List, [], ◌∷◌, Option, Some, None, length, reverse, find, filter, replicate, if◌then◌else◌, nat_le, not, slice_index_or, slice_set}
use Rattle.std.specs.Ordering.{int_eq}
use Rattle.set_model.specs.declared.source.Change.{Change}
use Rattle.set_model.specs.declared.source.SourceFault.{SourceFault}
use Rattle.set_model.specs.declared.source.SourceFault.TheVariants.{Full, TimeNotRising, SameValue}
use Rattle.set_model.specs.declared.stamp.Stamp.{Stamp}
use Rattle.set_model.specs.Stamp.{is_before}

-- the changes of one item, in their order
abbrev pub of_item : ℕ → List Change → List Change
of_item item changes = filter (λ c. c.item == item) changes

-- when the value changed
abbrev pub stamp_of : Change → Stamp
stamp_of change = record { time = change.time; pico = change.pico }

-- d may follow c as the item's next change: it is later, and its value is another one
pub record Follows (c d : Change) : Type 0 where
  pub later : is_before (stamp_of c) (stamp_of d) ≡ true
  pub differs : c.value ≢ d.value

abbrev pub RisesAfter : Change → List Change → Type 0
RisesAfter c [] = Unit {0}
RisesAfter c (d ∷ ds) = Follows c d × RisesAfter d ds

-- each change follows the one before it
abbrev pub Rises : List Change → Type 0
Rises [] = Unit {0}
Rises (c ∷ cs) = RisesAfter c cs

-- all picoseconds are within the 100 ns of a time, in steps of ten
abbrev pub HavePicos : List Change → Type 0
HavePicos [] = Unit {0}
HavePicos (c ∷ cs) = (c.pico ≤ 9999) × HavePicos cs

-- of each item, each change follows the one before it
pub record IsSource (changes : List Change) : Type 0 where
  pub rises : (item : ℕ) → Rises (of_item item changes)
  pub picos : HavePicos changes

-- the item's last change, if it has one
abbrev pub last_of : ℕ → List Change → Option Change
last_of item changes = find (λ c. c.item == item) (reverse changes)

-- why a change is refused after the item's last one
abbrev pub refusal_after : Option Change → Change → Option SourceFault
refusal_after None change = None
refusal_after (Some last) change =
    if not (is_before (stamp_of last) (stamp_of change)) then Some (TimeNotRising (stamp_of last))
    else if int_eq change.value last.value then Some SameValue
    else None

-- why a change is refused after these changes, if it is: a source has 200,000 of them at most
abbrev pub refusal : List Change → Change → Option SourceFault
refusal changes change =
    if nat_le 200000 (length changes) then Some Full
    else refusal_after (last_of change.item changes) change

-- the table of last changes before any came
abbrev pub no_change : List (Option Change)
no_change = replicate 256 None

-- the table has, at each item's number, the item's last change
pub record AreLasts (lasts : List (Option Change)) (changes : List Change) : Type 0 where
  pub each : (item : ℕ) → item < 256 → slice_index_or lasts item None ≡ last_of item changes

-- the end of a source: how many changes it has, and each item's last one
pub record End : Type 0 where
  pub count : ℕ
  pub lasts : List (Option Change)

-- before any change came
abbrev pub no_end : End
no_end = record { count = 0; lasts = no_change }

-- one change more
abbrev pub end_after : End → Change → End
end_after end change = record { count = end.count + 1; lasts = slice_set end.lasts change.item (Some change) }

-- the item's last change, if it has one
abbrev pub last_at : ℕ → End → Option Change
last_at item end = slice_index_or end.lasts item None

-- why a change is refused at this end, if it is
abbrev pub refusal_at : End → Change → Option SourceFault
refusal_at end change =
    if nat_le 200000 end.count then Some Full
    else refusal_after (last_at change.item end) change

-- the end of these changes: how many they are, and a table with a place for each item, where its last change is
pub record IsEndOf (end : End) (changes : List Change) : Type 0 where
  pub count_is : end.count ≡ length changes
  pub wide : length end.lasts ≡ 256
  pub lasts_are : AreLasts end.lasts changes
