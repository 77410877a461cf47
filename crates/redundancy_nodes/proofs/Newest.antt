-- What an item's newest change makes of the changes that are current.
use Rattle.std.proofs.Common.{◌≡◌, ◌≢◌, ℕ, ◌==◌, List, [], ◌∷◌, ◌++◌, Bool, true, false, cond, Option, Some, is_some, length, map, reverse, refl, sym, ◌∙◌, ap}
use Rattle.std.specs.List.{find}
use Rattle.std.proofs.lemmas.Bool.Decides.{Decides-eqb}
use Rattle.std.proofs.lemmas.List.{length-map, map-append, reverse-append}
use Rattle.set_model.specs.declared.source.Change.{Change}
use Rattle.set_model.specs.Source.{last_of}
use Rattle.set_model.proofs.SourceLemmas.{last_of-more}
use Rattle.redundancy_nodes.specs.Current.{renewed, with_newest}

reverse_map : (f : Change → Change) (changes : List Change) → reverse (map f changes) ≡ map f (reverse changes)
reverse_map f [] = refl
reverse_map f (change ∷ changes) =
    reverse-append (f change ∷ []) (map f changes)
    ∙ ap (λ more. more ++ f change ∷ []) (reverse_map f changes)
    ∙ sym (map-append f (reverse changes) (change ∷ []))
    ∙ ap (map f) (sym (reverse-append (change ∷ []) changes))

itself : (n : ℕ) → (n == n) ≡ true
itself n = (Decides-eqb n n).1 refl

never : (test : Bool) → (test ≡ true → ⊥) → test ≡ false
never true fails = absurd (fails refl)
never false fails = refl

apart : (first second : ℕ) → first ≢ second → (first == second) ≡ false
apart first second other = never (first == second) (λ same. other ((Decides-eqb first second).0 same))

-- a change of an item is found where one of its item was
newest_test : (change known : Change) (found before : Option Change) (b : Bool) → (known.item == change.item) ≡ b
    → is_some (cond b (Some known) before) ≡ true → (is_some before ≡ true → found ≡ Some change)
    → cond ((cond b change known).item == change.item) (Some (cond b change known)) found ≡ Some change
newest_test change known found before true is some rest = ap (λ b. cond b (Some change) found) (itself change.item)
newest_test change known found before false is some rest = rw is (rest some)

newest_found : (change : Change) (changes : List Change) → is_some (find (λ c. c.item == change.item) changes) ≡ true
    → find (λ c. c.item == change.item) (map (renewed change) changes) ≡ Some change
newest_found change [] some = absurd cc
newest_found change (known ∷ changes) some =
    newest_test change known (find (λ c. c.item == change.item) (map (renewed change) changes)) (find (λ c. c.item == change.item) changes) _
    refl some (newest_found change changes)

newest_by : (change : Change) (changes : List Change) (b : Bool) → is_some (last_of change.item changes) ≡ b
    → last_of change.item (cond b (map (renewed change) changes) (changes ++ change ∷ [])) ≡ Some change
newest_by change changes true some =
    ap (find (λ c. c.item == change.item)) (reverse_map (renewed change) changes) ∙ newest_found change (reverse changes) some
newest_by change changes false none =
    last_of-more change.item changes change ∙ ap (λ b. cond b (Some change) (last_of change.item changes)) (itself change.item)

pub newest : (change : Change) (changes : List Change) → last_of change.item (with_newest change changes) ≡ Some change
newest change changes = newest_by change changes _ refl

-- a change of another item is found as before
other_test : (item : ℕ) (change known : Change) (after before : Option Change) (b : Bool) → item ≢ change.item → (known.item == change.item) ≡ b
    → after ≡ before
    → cond ((cond b change known).item == item) (Some (cond b change known)) after ≡ cond (known.item == item) (Some known) before
other_test item change known after before true other is rest =
    let same : known.item ≡ change.item = (Decides-eqb known.item change.item).0 is in
    ap (λ b. cond b (Some change) after) (apart change.item item (λ e. other (sym e)))
    ∙ rest
    ∙ sym (ap (λ b. cond b (Some known) before) (apart known.item item (λ e. other (sym e ∙ same))))
other_test item change known after before false other is rest = ap (λ more. cond (known.item == item) (Some known) more) rest

other_found : (item : ℕ) (change : Change) (changes : List Change) → item ≢ change.item
    → find (λ c. c.item == item) (map (renewed change) changes) ≡ find (λ c. c.item == item) changes
other_found item change [] other = refl
other_found item change (known ∷ changes) other =
    other_test item change known (find (λ c. c.item == item) (map (renewed change) changes)) (find (λ c. c.item == item) changes) _ other
    refl (other_found item change changes other)

other_by : (item : ℕ) (change : Change) (changes : List Change) (b : Bool) → item ≢ change.item
    → last_of item (cond b (map (renewed change) changes) (changes ++ change ∷ [])) ≡ last_of item changes
other_by item change changes true other =
    ap (find (λ c. c.item == item)) (reverse_map (renewed change) changes) ∙ other_found item change (reverse changes) other
other_by item change changes false other =
    last_of-more item changes change ∙ ap (λ b. cond b (Some change) (last_of item changes)) (apart change.item item (λ e. other (sym e)))

pub others : (item : ℕ) (change : Change) (changes : List Change) → item ≢ change.item
    → last_of item (with_newest change changes) ≡ last_of item changes
others item change changes other = other_by item change changes (is_some (last_of change.item changes)) other

pub as_many : (change : Change) (changes : List Change) → is_some (last_of change.item changes) ≡ true
    → length (with_newest change changes) ≡ length changes
as_many change changes some =
    ap (λ b. length (cond b (map (renewed change) changes) (changes ++ change ∷ []))) some ∙ length-map changes (renewed change)
