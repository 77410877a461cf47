-- What a client says keeps the limits of the wire, connection by connection.
use Rattle.std.proofs.Common.{ℕ, ◌==◌, Bool, true, false, cond, List, [], ◌∷◌}
use Rattle.std.specs.List.{AllByRecursion}
use Rattle.link_keeps.specs.Fitting.{KeepsSaid}
use Rattle.client_rules.specs.Acts.{ClientAct, Closes, Happened, Happening, Hears, Opens, Refuses, Says, Switches, Tells, Ticks}
use Rattle.client_keeps.specs.Fitting.{KeepsAct}
use Rattle.client_links.specs.Links.{Opened, Passing, Put, Took, begun_with, passed_in, passing_in}
use Rattle.client_dials.specs.Spoken.{Spoken, spoken_in, spoken_with}
use Rattle.set_askings.specs.Once.{AllKept}
use Rattle.set_laws.proofs.Lists.{both_all}

abbrev KeepsPassing : Passing → Type 0
KeepsPassing (Put said) = KeepsSaid said
KeepsPassing Opened = Unit {0}
KeepsPassing (Took h) = Unit {0}

begun_keeps : (server : ℕ) (h : Happening) → AllByRecursion KeepsPassing (begun_with server h)
begun_keeps server (Opens s) = by_test (s == server)
  where
    by_test : (b : Bool) → AllByRecursion KeepsPassing (cond b (Opened ∷ []) [])
    by_test true = (tt, tt)
    by_test false = tt
begun_keeps server (Hears s h) = by_test (s == server)
  where
    by_test : (b : Bool) → AllByRecursion KeepsPassing (cond b (Took h ∷ []) [])
    by_test true = (tt, tt)
    by_test false = tt
begun_keeps server (Refuses s) = tt
begun_keeps server (Closes s) = tt
begun_keeps server (Ticks ms) = tt

passing_keeps : (server : ℕ) (act : ClientAct) → KeepsAct act → AllByRecursion KeepsPassing (passing_in server act)
passing_keeps server (Happened h) keeps = begun_keeps server h
passing_keeps server (Tells s n) keeps = tt
passing_keeps server (Switches from to) keeps = tt
passing_keeps server (Says s said) keeps = by_test (s == server)
  where
    by_test : (b : Bool) → AllByRecursion KeepsPassing (cond b (Put said ∷ []) [])
    by_test true = (keeps, tt)
    by_test false = tt

passed_keeps : (server : ℕ) (acts : List ClientAct) → AllByRecursion KeepsAct acts → AllByRecursion KeepsPassing (passed_in server acts)
passed_keeps server [] keeps = tt
passed_keeps server (act ∷ acts) keeps =
    both_all KeepsPassing (passing_in server act) (passed_in server acts) (passing_keeps server act keeps.0) (passed_keeps server acts keeps.1)

with_keeps : (passing : Passing) (all : List Spoken) → KeepsPassing passing → AllKept all → AllKept (spoken_with passing all)
with_keeps Opened all keeps kept = (tt, kept)
with_keeps (Took h) [] keeps kept = tt
with_keeps (Took h) (s ∷ all) keeps kept = (kept.0, kept.1)
with_keeps (Put said) [] keeps kept = tt
with_keeps (Put said) (s ∷ all) keeps kept = (both_all KeepsSaid s.said (said ∷ []) kept.0 (keeps, tt), kept.1)

spoken_keeps : (passings : List Passing) (all : List Spoken) → AllByRecursion KeepsPassing passings → AllKept all → AllKept (spoken_in passings all)
spoken_keeps [] all keeps kept = kept
spoken_keeps (passing ∷ more) all keeps kept = spoken_keeps more (spoken_with passing all) keeps.1 (with_keeps passing all keeps.0 kept)

pub all_kept : (server : ℕ) (acts : List ClientAct) → AllByRecursion KeepsAct acts → AllKept (spoken_in (passed_in server acts) [])
all_kept server acts keeps = spoken_keeps (passed_in server acts) [] (passed_keeps server acts keeps) tt
