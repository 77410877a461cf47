-- The source of a set is a source, and it isn't too long.
use Rattle.std.proofs.Common.{◌≡◌, ℕ, ◌+◌, ◌≤◌, nat_le, Bool, true, false, cond, List, [], ◌∷◌, ◌++◌, length, Option, Some, None, refl, subst, arith}
use Rattle.std.proofs.lemmas.Bool.Decides.{nat_tests}
use Rattle.std.proofs.lemmas.List.{length-append}
use Rattle.set_model.specs.declared.source.Change.{Change}
use Rattle.set_model.specs.declared.source.SourceFault.{SourceFault}
use Rattle.set_model.specs.declared.source.SourceFault.TheVariants.{Full}
use Rattle.set_model.specs.Source.{IsSource, last_of, refusal, refusal_after}
use Rattle.direct_world.specs.State.{WorldState}
use Rattle.direct_world.specs.World as direct
use Rattle.direct_world.specs.World.{appended, appended_unless}
use Rattle.scenario.specs.declared.line.Line.{Line}
use Rattle.scenario.specs.declared.line.Line.TheVariants as line
use Rattle.set_feeds.specs.Feeds.{sourced}

-- ---- its length

room_left : (source : List Change) (change : Change) → nat_le 200000 (length source) ≡ false → length (source ++ change ∷ []) ≤ 200000
room_left source change room =
    let long = length-append source (change ∷ []) in
    let less : length source + 1 ≤ 200000 = one_fits (length source) room in omega (arith, long, less)
  where
    one_fits : (n : ℕ) → nat_le 200000 n ≡ false → n + 1 ≤ 200000
    one_fits n room = grind (arith, nat_tests)

unless_short : (b : Bool) (o : Option SourceFault) (change : Change) (source : List Change) → nat_le 200000 (length source) ≡ b → length source ≤ 200000
    → length (appended_unless (cond b (Some Full) o) change source) ≤ 200000
unless_short true o change source room less = less
unless_short false None change source room less = room_left source change room
unless_short false (Some fault) change source room less = less

appended_short : (change : Change) (source : List Change) → length source ≤ 200000 → length (appended change source) ≤ 200000
appended_short change source less =
    by_test (nat_le change.pico 9999)
    (unless_short (nat_le 200000 (length source)) (refusal_after (last_of change.item source) change) change source refl less)
  where
    by_test : (b : Bool) → length (appended_unless (refusal source change) change source) ≤ 200000
        → length (cond b (appended_unless (refusal source change) change source) source) ≤ 200000
    by_test true more = more
    by_test false more = less

pub sourced_short : (changes source : List Change) → length source ≤ 200000 → length (sourced changes source) ≤ 200000
sourced_short [] source less = less
sourced_short (change ∷ changes) source less = sourced_short changes (appended change source) (appended_short change source less)

-- ---- a scenario that says these changes alone

abbrev lines_of : List Change → List Line
lines_of [] = []
lines_of (change ∷ changes) = line.Change change ∷ lines_of changes

come_to : (changes : List Change) (w : WorldState) → (direct.after_all (lines_of changes) w).source ≡ sourced changes w.source
come_to [] w = refl
come_to (change ∷ changes) w = come_to changes (direct.after (line.Change change) w)

pub sourced_is : ((servers items : ℕ) (oldest : Bool) (queue : ℕ) (lines : List Line) → IsSource (direct.world_of servers items oldest queue lines).source)
    → (changes : List Change) → IsSource (sourced changes [])
sourced_is law changes =
    subst (λ (source : List Change). IsSource source) (come_to changes (direct.new_world 1 1 true 2)) (law 1 1 true 2 (lines_of changes))
