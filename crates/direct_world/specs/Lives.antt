-- The lives of a server: with what each began, and what it was fed.
use Rattle.std.specs.Prelude.{◌≡◌, ◌==◌, ℕ, zero, suc, ◌+◌, ◌≤◌, List, [], ◌∷◌, ◌++◌, Option, Some, None, length, take, replicate, slice_get, if◌then◌else◌}
use Rattle.set_model.specs.declared.source.Change.{Change}
use Rattle.set_model.specs.Source.{last_of}

-- a life of a server begins, with a boot number and the current value of each item, item 1 first; or a server is fed a
-- change
pub data LifeAct : Type 0 where
  Begins : (server boot : ℕ) → (values : List (Option Change)) → LifeAct
  IsFed : (server : ℕ) → (change : Change) → LifeAct

-- a server is fed these changes, one after another
abbrev pub feeding : ℕ → List Change → List LifeAct
feeding server [] = []
feeding server (change ∷ changes) = IsFed server change ∷ feeding server changes

-- a life: its boot number, the values that it began with, and what it was fed
pub record Life : Type 0 where
  pub boot : ℕ
  pub values : List (Option Change)
  pub fed : List Change

-- the life that begins with the set, before any change
abbrev pub first_life : ℕ → Life
first_life items = record { boot = 1; values = replicate items None; fed = [] }

-- the newest life is fed one change more
abbrev pub fed_more : Change → List Life → List Life
fed_more change [] = []
fed_more change (life ∷ former) = record life { fed = life.fed ++ change ∷ [] } ∷ former

-- the lives of a server, the newest first, after an act
abbrev pub lives_by : ℕ → LifeAct → List Life → List Life
lives_by server (Begins other boot values) lives =
    if other == server then record { boot = boot; values = values; fed = [] } ∷ lives else lives
lives_by server (IsFed other change) lives = if other == server then fed_more change lives else lives

-- the same after these acts, one after another
abbrev pub lives_after : ℕ → List LifeAct → List Life → List Life
lives_after server [] lives = lives
lives_after server (act ∷ acts) lives = lives_after server acts (lives_by server act lives)

-- the current values of so many items, from an item on, after these changes: the last one of each item that has one
abbrev pub values_from : ℕ → ℕ → List Change → List (Option Change)
values_from item zero changes = []
values_from item (suc count) changes = last_of item changes ∷ values_from (item + 1) count changes

-- a life of a server with so many items, as the source has it: it began after the first `first` changes, with the last
-- of these of each item as current values; and its k-th feed, from 0, is the change at place first + k, from 0
pub record IsLifeOf (source : List Change) (items : ℕ) (life : Life) : Type 0 where
  pub first : ℕ
  pub within : first ≤ length source
  pub values : life.values ≡ values_from 1 items (take first source)
  pub fed : (k : ℕ) (change : Change) → slice_get life.fed k ≡ Some change → slice_get source (first + k) ≡ Some change

abbrev pub AreLivesOf : List Change → ℕ → List Life → Type 0
AreLivesOf source items [] = Unit {0}
AreLivesOf source items (life ∷ lives) = IsLifeOf source items life × AreLivesOf source items lives

-- the numbers from one down to 1
abbrev pub down_from : ℕ → List ℕ
down_from zero = []
down_from (suc n) = suc n ∷ down_from n
