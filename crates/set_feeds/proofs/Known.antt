-- The known changes of an item are neighbours of the source's.
use Rattle.std.proofs.Common.{◌≡◌, ℕ, zero, suc, ◌+◌, ◌==◌, ◌≤◌, ◌<◌, Bool, true, false, cond, List, [], ◌∷◌, ◌++◌, length, take, drop, Option, Some, None, refl, sym, ap, subst, ◌∙◌, arith}
use Rattle.std.specs.Prelude.{find, nat_le, reverse, slice_get}
use Rattle.std.proofs.lemmas.Bool.Decides.{nat_tests}
use Rattle.std.proofs.lemmas.List.{append-nil, append_assoc}
use Rattle.std.proofs.lemmas.List.Elements.{filter-append}
use Rattle.set_model.specs.declared.source.Change.{Change}
use Rattle.set_model.specs.Source.{last_of, of_item}
use Rattle.set_model.proofs.SourceLemmas.{last_of-newest, newest, newest_from}
use Rattle.item_queue.specs.declared.queue.Entry.{Entry}
use Rattle.subscription.specs.Linked.{AreLinked, AreLinkedAfter, IsLinked}
use Rattle.set_rules.specs.Slots.{current_of, currents}
use Rattle.set_feeds.specs.Known.{AreNeighbours, known_of}

-- ---- a part of a list

pub record IsPart (known source : List Change) : Type 0 where
  pub front : List Change
  pub later : List Change
  pub is : source ≡ front ++ (known ++ later)

pub take_front : (xs ys : List Change) → take (length xs) (xs ++ ys) ≡ xs
take_front [] ys = refl
take_front (x ∷ xs) ys = ap (λ l. x ∷ l) (take_front xs ys)

pub drop_front : (xs ys : List Change) → drop (length xs) (xs ++ ys) ≡ ys
drop_front [] ys = refl
drop_front (x ∷ xs) ys = drop_front xs ys

pub halves : (n : ℕ) (xs : List Change) → take n xs ++ drop n xs ≡ xs
halves zero xs = refl
halves (suc n) [] = refl
halves (suc n) (x ∷ xs) = ap (λ l. x ∷ l) (halves n xs)

get_left : (known later : List Change) (place : ℕ) (change : Change) → slice_get known place ≡ Some change → slice_get (known ++ later) place ≡ Some change
get_left [] later zero change is = absurd cc
get_left [] later (suc place) change is = absurd cc
get_left (c ∷ known) later zero change is = is
get_left (c ∷ known) later (suc place) change is = get_left known later place change is

get_behind : (front rest : List Change) (place : ℕ) (change : Change) → slice_get rest place ≡ Some change → slice_get (front ++ rest) (length front + place) ≡ Some change
get_behind [] rest place change is = ap (λ k. slice_get rest k) (none_more place) ∙ is
  where
    none_more : (k : ℕ) → 0 + k ≡ k
    none_more k = omega arith
get_behind (c ∷ front) rest place change is = ap (λ k. slice_get (c ∷ (front ++ rest)) k) (one_more (length front) place) ∙ get_behind front rest place change is
  where
    one_more : (m k : ℕ) → suc m + k ≡ suc (m + k)
    one_more m k = omega arith

pub get_part : (known source : List Change) (x : IsPart known source) (place : ℕ) (change : Change) → slice_get known place ≡ Some change
    → slice_get source (length x.front + place) ≡ Some change
get_part known source x place change is =
    ap (λ l. slice_get l (length x.front + place)) x.is
    ∙ get_behind x.front (known ++ x.later) place change (get_left known x.later place change is)

-- ---- linked entries

linked_part : (size : ℕ) (known source : List Change) (former later : Entry) → IsPart known source → IsLinked size known former later → IsLinked size source former later
linked_part size known source former later x l = record {
  place = length x.front + l.place;
  next_place = length x.front + l.next_place;
  former_at = get_part known source x l.place former.change l.former_at;
  later_at = get_part known source x l.next_place later.change l.later_at;
  rises = let less = l.rises in omega (arith, less);
  next = λ two plain. let same = l.next two plain in omega (arith, same);
}

after_part : (size : ℕ) (known source : List Change) (former : Entry) (entries : List Entry) → IsPart known source → AreLinkedAfter size known former entries
    → AreLinkedAfter size source former entries
after_part size known source former [] x l = tt
after_part size known source former (entry ∷ entries) x l =
    (linked_part size known source former entry x l.0, after_part size known source entry entries x l.1)

pub are_linked : (size : ℕ) (known source : List Change) (entries : List Entry) → IsPart known source → AreLinked size known entries → AreLinked size source entries
are_linked size known source [] x l = tt
are_linked size known source (entry ∷ entries) x l = after_part size known source entry entries x l

-- ---- the last change of an item

abbrev front_of : Change → List Change → List Change
front_of c [] = []
front_of c (d ∷ ds) = c ∷ front_of d ds

ends_with : (c : Change) (cs : List Change) → c ∷ cs ≡ front_of c cs ++ newest_from c cs ∷ []
ends_with c [] = refl
ends_with c (d ∷ ds) = ap (λ l. c ∷ l) (ends_with d ds)

newest_ends : (cs : List Change) → (front : List Change) × (cs ≡ front ++ current_of (newest cs))
newest_ends [] = ([], refl)
newest_ends (c ∷ cs) = (front_of c cs, ends_with c cs)

last_ends : (item : ℕ) (start : List Change) → (front : List Change) × (of_item item start ≡ front ++ current_of (last_of item start))
last_ends item start =
    let x = newest_ends (of_item item start) in (x.0, x.1 ∙ ap (λ o. x.0 ++ current_of o) (sym (last_of-newest item start)))

-- ---- the current value of an item

abbrev IsOwn : ℕ → Option Change → Type 0
IsOwn item None = Unit {0}
IsOwn item (Some change) = change.item ≡ item

found_own : (item : ℕ) (changes : List Change) → IsOwn item (find (λ (c : Change). c.item == item) changes)
found_own item [] = tt
found_own item (change ∷ changes) = by_test (change.item == item) refl (found_own item changes)
  where
    by_test : (b : Bool) → (change.item == item) ≡ b → IsOwn item (find (λ (c : Change). c.item == item) changes)
        → IsOwn item (cond b (Some change) (find (λ (c : Change). c.item == item) changes))
    by_test true test more = grind (arith, nat_tests)
    by_test false test more = more

same_number : (n k : ℕ) → n ≡ k → (n == k) ≡ true
same_number n k same = grind (arith, nat_tests)

other_number : (n k item : ℕ) → n ≡ k → k < item → (n == item) ≡ false
other_number n k item same less = grind (arith, nat_tests)

above_number : (n k item : ℕ) → n ≡ k → item < k → (n == item) ≡ false
above_number n k item same less = grind (arith, nat_tests)

of_own : (item : ℕ) (o : Option Change) → IsOwn item o → of_item item (current_of o) ≡ current_of o
of_own item None own = refl
of_own item (Some c) own = ap (λ b. cond b (c ∷ []) []) (same_number c.item item own)

of_lower : (k item : ℕ) (o : Option Change) → IsOwn k o → k < item → of_item item (current_of o) ≡ []
of_lower k item None own less = refl
of_lower k item (Some c) own less = ap (λ b. cond b (c ∷ []) []) (other_number c.item k item own less)

of_higher : (k item : ℕ) (o : Option Change) → IsOwn k o → item < k → of_item item (current_of o) ≡ []
of_higher k item None own less = refl
of_higher k item (Some c) own less = ap (λ b. cond b (c ∷ []) []) (above_number c.item k item own less)

of_both : (item : ℕ) (xs ys : List Change) → of_item item (xs ++ ys) ≡ of_item item xs ++ of_item item ys
of_both item xs ys = filter-append (λ (c : Change). c.item == item) xs ys

none_below : (item count : ℕ) (start : List Change) → count < item → of_item item (currents count start) ≡ []
unfolding currents
none_below item zero start less = refl
none_below item (suc count) start less =
    of_both item (currents count start) (current_of (last_of (count + 1) start))
    ∙ ap (λ l. l ++ of_item item (current_of (last_of (count + 1) start))) (none_below item count start (omega (arith, less)))
    ∙ of_lower (count + 1) item (last_of (count + 1) start) (found_own (count + 1) (reverse start)) (omega (arith, less))

is_or_below : (b : Bool) (item count : ℕ) → (item == suc count) ≡ b → item ≤ suc count → cond b (item ≡ count + 1) (item ≤ count)
is_or_below true item count test least = grind (arith, nat_tests)
is_or_below false item count test least = grind (arith, nat_tests)

one_current : (item count : ℕ) (start : List Change) → 1 ≤ item → item ≤ count → of_item item (currents count start) ≡ current_of (last_of item start)
unfolding currents
one_current item zero start first least = absurd (omega (arith, first, least))
one_current item (suc count) start first least =
    of_both item (currents count start) (current_of (last_of (count + 1) start))
    ∙ by_test (item == suc count) (is_or_below (item == suc count) item count refl least) (λ less. one_current item count start first less)
  where
    by_test : (b : Bool) → cond b (item ≡ count + 1) (item ≤ count) → (item ≤ count → of_item item (currents count start) ≡ current_of (last_of item start))
        → of_item item (currents count start) ++ of_item item (current_of (last_of (count + 1) start)) ≡ current_of (last_of item start)
    by_test true same more =
        ap (λ l. l ++ of_item item (current_of (last_of (count + 1) start))) (none_below item count start (omega (arith, same)))
        ∙ ap (λ k. of_item item (current_of (last_of k start))) (sym same)
        ∙ of_own item (last_of item start) (found_own item (reverse start))
    by_test false less more =
        ap (λ l. of_item item (currents count start) ++ l)
        (of_higher (count + 1) item (last_of (count + 1) start) (found_own (count + 1) (reverse start)) (omega (arith, less)))
        ∙ append-nil (of_item item (currents count start)) ∙ more less

-- ---- what is known

thirds : (first count : ℕ) (source : List Change) → source ≡ take first source ++ (take count (drop first source) ++ drop count (drop first source))
thirds first count source = sym (ap (λ l. take first source ++ l) (halves count (drop first source)) ∙ halves first source)

joined : (front own fed later : List Change) → (front ++ own) ++ (fed ++ later) ≡ front ++ ((own ++ fed) ++ later)
joined front own fed later = append_assoc front own (fed ++ later) ∙ ap (λ l. front ++ l) (sym (append_assoc own fed later))

none_of_zero : (count : ℕ) (start : List Change) → of_item 0 (currents count start) ≡ []
unfolding currents
none_of_zero zero start = refl
none_of_zero (suc count) start =
    of_both 0 (currents count start) (current_of (last_of (count + 1) start))
    ∙ ap (λ l. l ++ of_item 0 (current_of (last_of (count + 1) start))) (none_of_zero count start)
    ∙ of_higher (count + 1) 0 (last_of (count + 1) start) (found_own (count + 1) (reverse start)) (omega arith)

-- what begins with the current values of an item that has one among them, and of any other one
record IsOwnPart (item items : ℕ) (start : List Change) : Type 0 where
  front : List Change
  own : List Change
  is : of_item item start ≡ front ++ own
  known : of_item item (currents items start) ≡ own

own_of : (item items : ℕ) (start : List Change) → IsOwnPart item items start
own_of zero items start = record {
  front = of_item 0 start;
  own = [];
  is = sym (append-nil (of_item 0 start));
  known = none_of_zero items start;
}
own_of (suc k) items start = by_test (nat_le (suc k) items) refl
  where
    by_test : (b : Bool) → nat_le (suc k) items ≡ b → IsOwnPart (suc k) items start
    by_test true test = let x = last_ends (suc k) start in record {
      front = x.0;
      own = current_of (last_of (suc k) start);
      is = x.1;
      known = one_current (suc k) items start (omega arith) (grind (arith, nat_tests));
    }
    by_test false test = record {
      front = of_item (suc k) start;
      own = [];
      is = sym (append-nil (of_item (suc k) start));
      known = none_below (suc k) items start (grind (arith, nat_tests));
    }

pub known_part : (items : ℕ) (source : List Change) (first count item : ℕ)
    → IsPart (of_item item (known_of items source first count)) (of_item item source)
known_part items source first count item =
    let start = take first source in
    let fed = take count (drop first source) in
    let later = drop count (drop first source) in
    let x = own_of item items start in
    record {
      front = x.front;
      later = of_item item later;
      is = ap (of_item item) (thirds first count source)
          ∙ of_both item start (fed ++ later)
          ∙ ap (λ l. of_item item start ++ l) (of_both item fed later)
          ∙ ap (λ l. l ++ (of_item item fed ++ of_item item later)) x.is
          ∙ joined x.front x.own (of_item item fed) (of_item item later)
          ∙ ap (λ l. x.front ++ ((l ++ of_item item fed) ++ of_item item later)) (sym x.known)
          ∙ ap (λ l. x.front ++ (l ++ of_item item later)) (sym (of_both item (currents items start) fed));
    }

pub are_neighbours : (item : ℕ) (source known : List Change) → IsPart (of_item item known) (of_item item source) → AreNeighbours item source known
are_neighbours item source known x = record {
  place = length x.front;
  are = sym (ap (λ l. take (length (of_item item known)) (drop (length x.front) l)) x.is
      ∙ ap (take (length (of_item item known))) (drop_front x.front (of_item item known ++ x.later))
      ∙ take_front (of_item item known) x.later);
}
