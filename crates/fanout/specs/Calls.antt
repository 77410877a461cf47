-- What the calls of a fanout make of those that are attached.
use Rattle.std.specs.Prelude.{◌≡◌, ℕ, ◌+◌, ◌==◌, List, [], ◌∷◌, ◌++◌, Bool, true, false, Option, None, Some, MatchBool, if◌then◌else◌, length, nat_le, ◌||◌}
use Rattle.set_model.specs.declared.line.LogLine.{LogLine}
use Rattle.set_model.specs.declared.line.LogLine.TheVariants as line
use Rattle.fanout.specs.declared.hearing.Tally.{Tally}
use Rattle.fanout.specs.declared.hearing.Stopped.{Stopped}
use Rattle.fanout.specs.Hearing.{Hearing, Hears}
use Rattle.fanout.specs.State.{Attached, FanoutState, attached}

-- data and gap lines are for the listeners of their item, all others for none
abbrev pub is_for : LogLine → ℕ → Bool
is_for (line.Delivered of time pico value status) item = of == item
is_for (line.Gap of cause) item = of == item
is_for (line.Switch from to) item = false
is_for (line.Ready server) item = false
is_for (line.Lost server) item = false
is_for (line.Unsupported server) item = false
is_for (line.Heard listener changes gaps) item = false
is_for (line.Done changes) item = false

-- what becomes of one that is attached when a line is told
pub data Outcome : Type 0 where
  Stays : Attached → Outcome
  Stops : Stopped → Outcome

-- one whose line it isn't stays as it is, and one whose line it is takes it
pub record Remains (told : LogLine) (old new : Attached) : Type 0 where
  pub id : new.id ≡ old.id
  pub item : new.item ≡ old.item
  pub hearing : MatchBool (is_for told old.item) (Hears told old.hearing new.hearing) (new.hearing ≡ old.hearing)

-- or it leaves with its tally, which it does only at a line of its item and without lines to spare
pub record Leaves (told : LogLine) (old : Attached) (stopped : Stopped) : Type 0 where
  pub id : stopped.id ≡ old.id
  pub tally : stopped.tally ≡ old.hearing.tally
  pub is_for : is_for told old.item ≡ true
  pub spare : old.hearing.spare ≡ 0

abbrev pub Becomes : LogLine → Attached → Outcome → Type 0
Becomes told old (Stays new) = Remains told old new
Becomes told old (Stops stopped) = Leaves told old stopped

-- what becomes of each, in their order
abbrev pub Become : LogLine → List Attached → List Outcome → Type 0
Become told [] [] = Unit {0}
Become told (one ∷ more) (outcome ∷ outcomes) = Becomes told one outcome × Become told more outcomes
Become told [] (outcome ∷ outcomes) = ⊥
Become told (one ∷ more) [] = ⊥

-- those that are attached then
abbrev pub staying : List Outcome → List Attached
staying [] = []
staying (Stays one ∷ more) = one ∷ staying more
staying (Stops one ∷ more) = staying more

-- and those that stopped
abbrev pub stopping : List Outcome → List Stopped
stopping [] = []
stopping (Stays one ∷ more) = stopping more
stopping (Stops one ∷ more) = one ∷ stopping more

-- no more than 16 are attached at a time, and no more than 255 ids are given
abbrev pub is_full : FanoutState → Bool
is_full s = nat_le 16 (length s.attached) || s.last == 255

-- without the one of this id
abbrev pub without : ℕ → List Attached → List Attached
without id [] = []
without id (one ∷ more) = if one.id == id then more else one ∷ without id more

-- the tally of the one of this id, if it is attached
abbrev pub tally_of : ℕ → List Attached → Option Tally
tally_of id [] = None
tally_of id (one ∷ more) = if one.id == id then Some one.hearing.tally else tally_of id more

-- one call, with what became of those to whom a line was told
pub data Call : Type 0 where
  Attach : ℕ → Hearing → Call
  Detach : ℕ → Call
  Tell : LogLine → List Outcome → Call

-- what was attached and which id was given last before any call
abbrev pub new_fanout : FanoutState
new_fanout = record { attached = []; last = 0 }

-- a new one comes last, by the next id
abbrev pub with_one_more : ℕ → Hearing → FanoutState → FanoutState
with_one_more item hearing s = record {
  attached = s.attached ++ attached (s.last + 1) item hearing ∷ [];
  last = s.last + 1;
}

-- what is attached and which id was given last after one call
abbrev pub after : Call → FanoutState → FanoutState
after (Attach item hearing) s = if is_full s then s else with_one_more item hearing s
after (Detach id) s = record s { attached = without id s.attached }
after (Tell told outcomes) s = record s { attached = staying outcomes }

-- the outcomes are those that may come of the line
abbrev pub Fits : Call → FanoutState → Type 0
Fits (Attach item hearing) s = Unit {0}
Fits (Detach id) s = Unit {0}
Fits (Tell told outcomes) s = Become told s.attached outcomes

-- a line was told to those that were attached, in their order, and those that stopped at it were appended
pub record Tells (told : LogLine) (old new : FanoutState) (before to : List Stopped) : Type 0 where
  pub outcomes : List Outcome
  pub fits : Fits (Tell told outcomes) old
  pub state : new ≡ after (Tell told outcomes) old
  pub stopped : to ≡ before ++ stopping outcomes
