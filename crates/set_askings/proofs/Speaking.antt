-- What is said on a link's connections is among all that it said.
use Rattle.std.proofs.Common.{◌≢◌, List, [], ◌∷◌, ◌++◌, map, pos, Some}
use Rattle.std.specs.List.{AllByRecursion}
use Rattle.ua_base.specs.declared.modes.Mode.TheVariants.{Disabled}
use Rattle.ua_base.specs.Modes.{mode_number}
use Rattle.server_keeps.proofs.Lists.{all_join}
use Rattle.link_rules.specs.Said.{Said}
use Rattle.link_rules.specs.State.{LinkState}
use Rattle.link_rules.specs.Step.{Happening, Opens, Hears, after, after_all}
use Rattle.link_laws.specs.Asked.{NeverAsks, mode_asked}
use Rattle.client_links.specs.Links.{Passing, Opened, Took, Put, begun_by, passed_by}
use Rattle.client_dials.specs.Spoken.{Spoken, spoken_in, spoken_with}

-- ---- lists of what is said

never_front : (one other : List Said) → NeverAsks Disabled (one ++ other) → NeverAsks Disabled one
never_front [] other never = tt
never_front (said ∷ one) other never = (never.0, never_front one other never.1)

never_back : (one other : List Said) → NeverAsks Disabled (one ++ other) → NeverAsks Disabled other
never_back [] other never = never
never_back (said ∷ one) other never = never_back one other never.1

never_join : (one other : List Said) → NeverAsks Disabled one → NeverAsks Disabled other → NeverAsks Disabled (one ++ other)
never_join [] other first second = second
never_join (said ∷ one) other first second = (first.0, never_join one other first.1 second)

-- ---- what passes

abbrev IsOnPassing : Passing → Type 0
IsOnPassing (Put said) = mode_asked said.told ≢ Some (pos (mode_number Disabled))
IsOnPassing other = Unit {0}

puts_on : (said : List Said) → NeverAsks Disabled said → AllByRecursion IsOnPassing (map Put said)
puts_on [] never = tt
puts_on (one ∷ more) never = (never.0, puts_on more never.1)

begun_on : (h : Happening) → AllByRecursion IsOnPassing (begun_by h)
begun_on (Opens url) = (tt, tt)
begun_on (Hears h) = (tt, tt)
begun_on other = tt

passed_on : (happenings : List Happening) (l : LinkState) → NeverAsks Disabled (after_all happenings l).said
    → AllByRecursion IsOnPassing (passed_by happenings l)
passed_on [] l never = tt
passed_on (h ∷ more) l never =
    let now : List Said = (after h l).said in
    let later : List Said = (after_all more (after h l).link).said in
    all_join IsOnPassing (begun_by h ++ map Put now) (passed_by more (after h l).link)
    (all_join IsOnPassing (begun_by h) (map Put now) (begun_on h) (puts_on now (never_front now later never)))
    (passed_on more (after h l).link (never_back now later never))

-- ---- on each connection

abbrev pub IsOnSpoken : Spoken → Type 0
IsOnSpoken spoken = NeverAsks Disabled spoken.said

with_on : (passing : Passing) (all : List Spoken) → IsOnPassing passing → AllByRecursion IsOnSpoken all → AllByRecursion IsOnSpoken (spoken_with passing all)
with_on Opened all on rest = (tt, rest)
with_on (Took h) [] on rest = tt
with_on (Took h) (newest ∷ earlier) on rest = rest
with_on (Put said) [] on rest = tt
with_on (Put said) (newest ∷ earlier) on rest = (never_join newest.said (said ∷ []) rest.0 (on, tt), rest.1)

spoken_on : (passed : List Passing) (all : List Spoken) → AllByRecursion IsOnPassing passed → AllByRecursion IsOnSpoken all
    → AllByRecursion IsOnSpoken (spoken_in passed all)
spoken_on [] all on rest = rest
spoken_on (passing ∷ more) all on rest = spoken_on more (spoken_with passing all) on.1 (with_on passing all on.0 rest)

pub each_on : (happenings : List Happening) (l : LinkState) → NeverAsks Disabled (after_all happenings l).said
    → AllByRecursion IsOnSpoken (spoken_in (passed_by happenings l) [])
each_on happenings l never = spoken_on (passed_by happenings l) [] (passed_on happenings l never) tt
