-- Each Read that a link puts on one of its connections asks for ServiceLevel first.
use Rattle.std.proofs.Common.{List, [], ◌∷◌, ◌++◌, map}
use Rattle.std.specs.List.{AllByRecursion}
use Rattle.link_rules.specs.State.{LinkState}
use Rattle.link_rules.specs.Said.{Said}
use Rattle.link_rules.specs.Step.{Happening, Opens, Hears, after}
use Rattle.link_laws.specs.Lockstep.{is_put, puts}
use Rattle.link_takings.specs.Exchange.{messages_of}
use Rattle.level_readings.specs.Levels.{AsksForLevel}
use Rattle.client_links.specs.Links.{Passing, Opened, Took, Put, begun_by, passed_by}
use Rattle.client_dials.specs.Spoken.{Spoken, spoken_in, spoken_with}
use Rattle.set_levels.proofs.Places.{all_filter, all_join, all_map}

-- what another crate says
abbrev pub ReadsAskFirst : Type 0
ReadsAskFirst = (h : Happening) (l : LinkState) → AllByRecursion (λ (said : Said). AsksForLevel said.told) (after h l).said

abbrev pub IsFor : Said → Type 0
IsFor said = AsksForLevel said.told

-- on a connection, and in what passes
abbrev pub AreFor : Spoken → Type 0
AreFor spoken = AllByRecursion IsFor spoken.said

abbrev IsPassing : Passing → Type 0
IsPassing (Put said) = IsFor said
IsPassing other = Unit {0}

-- ---- what passes

begun_for : (h : Happening) → AllByRecursion IsPassing (begun_by h)
begun_for (Opens url) = (tt, tt)
begun_for (Hears h) = (tt, tt)
begun_for other = tt

passed_for : ReadsAskFirst → (happenings : List Happening) (l : LinkState) → AllByRecursion IsPassing (passed_by happenings l)
passed_for law [] l = tt
passed_for law (h ∷ more) l =
    all_join IsPassing (begun_by h ++ map Put (after h l).said) (passed_by more (after h l).link)
    (all_join IsPassing (begun_by h) (map Put (after h l).said) (begun_for h) (all_map IsFor IsPassing Put (λ said is. is) (after h l).said (law h l)))
    (passed_for law more (after h l).link)

-- ---- connections

with_for : (passing : Passing) (all : List Spoken) → IsPassing passing → AllByRecursion AreFor all → AllByRecursion AreFor (spoken_with passing all)
with_for Opened all is h = (tt, h)
with_for (Took heard) [] is h = tt
with_for (Took heard) (spoken ∷ earlier) is h = h
with_for (Put said) [] is h = tt
with_for (Put said) (spoken ∷ earlier) is h = (all_join IsFor spoken.said (said ∷ []) h.0 (is, tt), h.1)

spoken_for : (passed : List Passing) (all : List Spoken) → AllByRecursion IsPassing passed → AllByRecursion AreFor all
    → AllByRecursion AreFor (spoken_in passed all)
spoken_for [] all is h = h
spoken_for (passing ∷ more) all is h = spoken_for more (spoken_with passing all) is.1 (with_for passing all is.0 h)

pub reads_are_for_levels : ReadsAskFirst → (happenings : List Happening) (l : LinkState) → AllByRecursion AreFor (spoken_in (passed_by happenings l) [])
reads_are_for_levels law happenings l = spoken_for (passed_by happenings l) [] (passed_for law happenings l) tt

-- of the messages alone
pub messages_for : (said : List Said) → AllByRecursion IsFor said → AllByRecursion AsksForLevel (messages_of said)
messages_for said h =
    all_map IsFor AsksForLevel (λ (one : Said). one.told) (λ one is. is) (puts said) (all_filter IsFor (λ (one : Said). is_put one.told) said h)
