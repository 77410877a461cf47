-- What any calls of a fanout come to: which lines each listener was told since it was attached, and that ids are given once.
use Rattle.std.specs.Prelude.{◌≡◌, ◌≢◌, ℕ, ◌+◌, ◌≤◌, ◌<◌, List, [], ◌∷◌, ◌++◌, ◌⊎◌, Option, None, Some, if◌then◌else◌, length}
use Rattle.set_model.specs.declared.line.LogLine.{LogLine}
use Rattle.set_model.specs.declared.line.LogLine.TheVariants as line
use Rattle.fanout.specs.declared.hearing.Stopped.{Stopped}
use Rattle.fanout.specs.Hearing.{Hearing}
use Rattle.fanout.specs.State.{Attached, FanoutState}
use Rattle.fanout.specs.Calls.{Call, Attach, Detach, Tell, Fits, after, is_for, is_full, new_fanout}

-- all calls till now, the newest first
abbrev pub History : Type 0
History = List Call

abbrev pub state_after : History → FanoutState
state_after [] = new_fanout
state_after (call ∷ earlier) = after call (state_after earlier)

-- each line's outcomes are such as may come of it
abbrev pub CanBe : History → Type 0
CanBe [] = Unit {0}
CanBe (call ∷ earlier) = Fits call (state_after earlier) × CanBe earlier

-- how an attached listener began: the id that it was given, its item, and what it had heard before
pub record Beginning : Type 0 where
  pub id : ℕ
  pub item : ℕ
  pub hearing : Hearing

-- what a call gives: the next id, unless it is refused
abbrev pub begins : Call → FanoutState → Option Beginning
begins (Attach item hearing) s = if is_full s then None else Some (record { id = s.last + 1; item = item; hearing = hearing })
begins (Detach id) s = None
begins (Tell told outcomes) s = None

-- the line that a call tells the listeners of an item, if any
abbrev pub line_of : Call → ℕ → List LogLine
line_of (Tell told outcomes) item = if is_for told item then told ∷ [] else []
line_of (Attach other hearing) item = []
line_of (Detach id) item = []

-- a listener began with the newest of these calls, or with an earlier one; since then these lines of its item were told
-- to the fanout, the first one first
abbrev pub BeganWith : History → Beginning → List LogLine → Type 0
BeganWith [] beginning lines = ⊥
BeganWith (call ∷ earlier) beginning lines =
    ((begins call (state_after earlier) ≡ Some beginning) × (lines ≡ []))
    ⊎ ((before : List LogLine) × BeganWith earlier beginning before × (lines ≡ before ++ line_of call beginning.item))

-- so many of these lines are data lines, and so many are gap lines
abbrev pub changes_in : List LogLine → ℕ
changes_in [] = 0
changes_in (line.Delivered item time pico value status ∷ more) = changes_in more + 1
changes_in (line.Gap item cause ∷ more) = changes_in more
changes_in (line.Switch from to ∷ more) = changes_in more
changes_in (line.Ready server ∷ more) = changes_in more
changes_in (line.Lost server ∷ more) = changes_in more
changes_in (line.Unsupported server ∷ more) = changes_in more
changes_in (line.Heard listener changes gaps ∷ more) = changes_in more
changes_in (line.Done changes ∷ more) = changes_in more

abbrev pub gaps_in : List LogLine → ℕ
gaps_in [] = 0
gaps_in (line.Delivered item time pico value status ∷ more) = gaps_in more
gaps_in (line.Gap item cause ∷ more) = gaps_in more + 1
gaps_in (line.Switch from to ∷ more) = gaps_in more
gaps_in (line.Ready server ∷ more) = gaps_in more
gaps_in (line.Lost server ∷ more) = gaps_in more
gaps_in (line.Unsupported server ∷ more) = gaps_in more
gaps_in (line.Heard listener changes gaps ∷ more) = gaps_in more
gaps_in (line.Done changes ∷ more) = gaps_in more

-- the lines of one that tells them, with more behind
abbrev pub with_lines : Option (List LogLine) → List LogLine → Option (List LogLine)
with_lines None more = None
with_lines (Some lines) more = Some (lines ++ more)

-- it was told these lines, each once and in this order, and nothing else
pub record HeardMore (told : List LogLine) (old new : Hearing) : Type 0 where
  pub changes : new.tally.changes ≡ old.tally.changes + changes_in told
  pub gaps : new.tally.gaps ≡ old.tally.gaps + gaps_in told
  pub lines : new.lines ≡ with_lines old.lines told
  pub spare : old.spare ≤ new.spare + length told

-- what it was told are all lines of its item that were told since it began
pub record IsToldItsLines (history : History) (one : Attached) : Type 0 where
  pub beginning : Beginning
  pub lines : List LogLine
  pub id : beginning.id ≡ one.id
  pub item : beginning.item ≡ one.item
  pub began : BeganWith history beginning lines
  pub heard : HeardMore lines beginning.hearing one.hearing

abbrev pub AreToldTheirLines : History → List Attached → Type 0
AreToldTheirLines history [] = Unit {0}
AreToldTheirLines history (one ∷ more) = IsToldItsLines history one × AreToldTheirLines history more

-- ids rise from one that is below all to one that none exceeds
abbrev pub AreRising : ℕ → List Attached → ℕ → Type 0
AreRising below [] most = below ≤ most
AreRising below (one ∷ more) most = (below < one.id) × AreRising one.id more most

-- nobody of this id is attached
abbrev pub IsGone : ℕ → List Attached → Type 0
IsGone id [] = Unit {0}
IsGone id (one ∷ more) = (one.id ≢ id) × IsGone id more

-- none of those that stopped is
abbrev pub AreGone : List Stopped → List Attached → Type 0
AreGone [] attached = Unit {0}
AreGone (stopped ∷ more) attached = IsGone stopped.id attached × AreGone more attached
