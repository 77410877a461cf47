-- What each change of a list is stays so in parts of it, in a longer one, and of each item's last change.
use Rattle.std.proofs.Common.{◌==◌, nat_le, reverse, ℕ, zero, suc, ◌+◌, Bool, true, false, cond, List, [], ◌∷◌, ◌++◌, take, drop, Option, Some, None, IfSome, sym, subst}
use Rattle.std.proofs.lemmas.List.{reverse-append}
use Rattle.std.specs.List.{AllByRecursion, find}
use Rattle.set_model.specs.declared.source.Change.{Change}
use Rattle.set_model.specs.declared.source.SourceFault.{SourceFault}
use Rattle.set_model.specs.Source.{last_of, refusal}
use Rattle.direct_world.specs.World.{appended, appended_unless}
use Rattle.set_rules.specs.Slots.{current_of, currents}

module _ (Of : Change → Type 0) where
  pub take_all : (amount : ℕ) (changes : List Change) → AllByRecursion Of changes → AllByRecursion Of (take amount changes)
  take_all zero changes all = tt
  take_all (suc amount) [] all = tt
  take_all (suc amount) (change ∷ changes) all = (all.0, take_all amount changes all.1)

  pub drop_all : (amount : ℕ) (changes : List Change) → AllByRecursion Of changes → AllByRecursion Of (drop amount changes)
  drop_all zero changes all = all
  drop_all (suc amount) [] all = tt
  drop_all (suc amount) (change ∷ changes) all = drop_all amount changes all.1

  both_all : (first more : List Change) → AllByRecursion Of first → AllByRecursion Of more → AllByRecursion Of (first ++ more)
  both_all [] more one other = other
  both_all (change ∷ first) more one other = (one.0, both_all first more one.1 other)

  -- ---- the source

  unless_all : (fault : Option SourceFault) (change : Change) (source : List Change) → AllByRecursion Of source → Of change
      → AllByRecursion Of (appended_unless fault change source)
  unless_all None change source all one = both_all source (change ∷ []) all (one, tt)
  unless_all (Some fault) change source all one = all

  pub appended_all : (change : Change) (source : List Change) → AllByRecursion Of source → Of change → AllByRecursion Of (appended change source)
  appended_all change source all one = by_test (nat_le change.pico 9999) (unless_all (refusal source change) change source all one)
    where
      by_test : (b : Bool) → AllByRecursion Of (appended_unless (refusal source change) change source)
          → AllByRecursion Of (cond b (appended_unless (refusal source change) change source) source)
      by_test true more = more
      by_test false more = all

  -- ---- current values

  current_all : (o : Option Change) → IfSome o Of → AllByRecursion Of (current_of o)
  current_all None one = tt
  current_all (Some change) one = (one, tt)

  found_all : (test : Change → Bool) (changes : List Change) → AllByRecursion Of changes → IfSome (find test changes) Of
  found_all test [] all = tt
  found_all test (change ∷ changes) all = by_test (test change) (found_all test changes all.1)
    where
      by_test : (b : Bool) → IfSome (find test changes) Of → IfSome (cond b (Some change) (find test changes)) Of
      by_test true later = all.0
      by_test false later = later

  reversed_all : (changes : List Change) → AllByRecursion Of changes → AllByRecursion Of (reverse changes)
  reversed_all [] all = tt
  reversed_all (change ∷ changes) all =
      subst (AllByRecursion Of) (sym (reverse-append (change ∷ []) changes))
      (both_all (reverse changes) (change ∷ []) (reversed_all changes all.1) (all.0, tt))

  last_all : (item : ℕ) (source : List Change) → AllByRecursion Of source → AllByRecursion Of (current_of (last_of item source))
  last_all item source all = current_all (last_of item source) (found_all (λ c. c.item == item) (reverse source) (reversed_all source all))

  pub currents_all : (count : ℕ) (source : List Change) → AllByRecursion Of source → AllByRecursion Of (currents count source)
  unfolding currents
  currents_all zero source all = tt
  currents_all (suc count) source all =
      both_all (currents count source) (current_of (last_of (count + 1) source)) (currents_all count source all) (last_all (count + 1) source all)
