-- Changes of a node stay where they are while more come.
use Rattle.std.proofs.Common.{◌≡◌, ℕ, zero, suc, ◌==◌, List, [], ◌∷◌, ◌++◌, Bool, true, false, cond, length, reverse, Option, Some, None, refl, sym, ap, ◌∙◌, arith, slice_get}
use Rattle.std.specs.List.{find}
use Rattle.std.proofs.lemmas.Bool.Decides.{nat_tests}
use Rattle.std.proofs.lemmas.List.Elements.{filter-append}
use Rattle.set_model.specs.declared.source.Change.{Change}
use Rattle.set_model.specs.Source.{last_of, of_item}
use Rattle.set_model.proofs.SourceLemmas.{last_of-newest, newest, newest_from, of_item-more}

pub get_front : (changes more : List Change) (place : ℕ) (change : Change) → slice_get changes place ≡ Some change → slice_get (changes ++ more) place ≡ Some change
get_front [] more place change is = absurd cc
get_front (c ∷ changes) more zero change is = is
get_front (c ∷ changes) more (suc place) change is = get_front changes more place change is

get_last : (changes : List Change) (change : Change) → slice_get (changes ++ change ∷ []) (length changes) ≡ Some change
get_last [] change = refl
get_last (c ∷ changes) change = get_last changes change

-- a change of a node, among those that there were
pub record IsChangeIn (node : ℕ) (known : List Change) (change : Change) : Type 0 where
  pub own : change.item ≡ node
  pub place : ℕ
  pub at : slice_get (of_item node known) place ≡ Some change

pub in_more : (node : ℕ) (known more : List Change) (change : Change) → IsChangeIn node known change → IsChangeIn node (known ++ more) change
in_more node known more change h = record {
  own = h.own;
  place = h.place;
  at = ap (λ changes. slice_get changes h.place) (filter-append (λ (c : Change). c.item == node) known more)
      ∙ get_front (of_item node known) (of_item node more) h.place change h.at;
}

-- what is fed is one
pub fed_is_in : (node : ℕ) (known : List Change) (change : Change) → change.item ≡ node → IsChangeIn node (known ++ change ∷ []) change
fed_is_in node known change own =
    let hit : (change.item == node) ≡ true = grind (arith, nat_tests) in
    record {
      own = own;
      place = length (of_item node known);
      at = ap (λ changes. slice_get changes (length (of_item node known)))
          (of_item-more node known change ∙ ap (λ b. of_item node known ++ cond b (change ∷ []) []) hit)
          ∙ get_last (of_item node known) change;
    }

-- ---- a current value is one

abbrev pub IsOf : ℕ → List Change → Option Change → Type 0
IsOf node known None = Unit {0}
IsOf node known (Some change) = IsChangeIn node known change

abbrev IsOwn : ℕ → Option Change → Type 0
IsOwn node None = Unit {0}
IsOwn node (Some change) = change.item ≡ node

found_own : (node : ℕ) (changes : List Change) → IsOwn node (find (λ (c : Change). c.item == node) changes)
found_own node [] = tt
found_own node (change ∷ changes) = by_test (change.item == node) refl (found_own node changes)
  where
    by_test : (b : Bool) → (change.item == node) ≡ b → IsOwn node (find (λ (c : Change). c.item == node) changes)
        → IsOwn node (cond b (Some change) (find (λ (c : Change). c.item == node) changes))
    by_test true test more = grind (arith, nat_tests)
    by_test false test more = more

newest_at : (c : Change) (cs : List Change) → slice_get (c ∷ cs) (length cs) ≡ Some (newest_from c cs)
newest_at c [] = refl
newest_at c (d ∷ ds) = newest_at d ds

newest_in : (changes : List Change) (change : Change) → newest changes ≡ Some change → (place : ℕ) × (slice_get changes place ≡ Some change)
newest_in [] change is = absurd cc
newest_in (c ∷ cs) change is = (length cs, newest_at c cs ∙ is)

last_by : (node : ℕ) (known : List Change) (found : Option Change) → last_of node known ≡ found → IsOwn node found → IsOf node known found
last_by node known None is own = tt
last_by node known (Some change) is own =
    let here = newest_in (of_item node known) change (sym (last_of-newest node known) ∙ is) in
    record { own = own; place = here.0; at = here.1 }

pub last_in : (node : ℕ) (known : List Change) → IsOf node known (last_of node known)
last_in node known = last_by node known (last_of node known) refl (found_own node (reverse known))
