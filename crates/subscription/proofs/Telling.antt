-- What is told of items, one entry and one item after another.
use Rattle.std.proofs.Common.{◌≡◌, ℕ, ◌+◌, ◌-◌, ◌≤◌, List, [], ◌∷◌, ◌++◌, take, drop, map, length, refl, sym, ap, ap₂, ◌∙◌, append_assoc, Result, Ok, Err, OnErr, if◌then◌else◌, arith, suc, Bool, true, false, slice_set}
use Rattle.std.proofs.lemmas.List.{drop-drop, append-nil, take-append-drop, take-append-le, map-append, length-take-le, take-take, set-get_or}
use Rattle.std.proofs.Math.Seq.{take-add, take-length, drop-length}
use Rattle.std.proofs.Math.ListN.{drop_of_length-le, get_or}
use Rattle.item_queue.specs.Queue.{without_oldest}
use Rattle.subscription.specs.State.{ItemState, SubState}
use Rattle.subscription.specs.Items.{IsPart, Told, count_told, left, telling, told}
use Rattle.subscription.specs.Calls.{IsInterrupted, items_left}

-- what holds anyway, holds on an error
pub on_err : {A E : Type 0} (result : Result A E) (holds : Type 0) → holds → OnErr result holds
on_err (Ok value) holds h = tt
on_err (Err fault) holds h = h

-- an item after one entry more was taken
pub item_on : (count : ℕ) (first now after : ItemState) → now ≡ record first { queue = without_oldest count first.queue }
    → after ≡ record now { queue = without_oldest 1 now.queue }
    → after ≡ record first { queue = without_oldest (count + 1) first.queue }
item_on count first now after so_far one =
    one ∙ ap (λ (item : ItemState). record item { queue = without_oldest 1 item.queue }) so_far
    ∙ ap (λ entries. record first { queue = record first.queue { entries = entries } }) (drop-drop 1 count first.queue.entries)

-- a list after one entry more was told
pub list_on : {A : Type 0} (f : Told → A) (count : ℕ) (first now : ItemState) (list before after : List A)
    → now ≡ record first { queue = without_oldest count first.queue }
    → before ≡ list ++ map f (map (telling first) (take count first.queue.entries))
    → after ≡ before ++ map f (map (telling now) (take 1 now.queue.entries))
    → after ≡ list ++ map f (map (telling first) (take (count + 1) first.queue.entries))
list_on f count first now list before after is former one =
    one
    ∙ ap₂ (λ xs (item : ItemState). xs ++ map f (map (telling item) (take 1 item.queue.entries))) former is
    ∙ append_assoc list _ _
    ∙ ap (λ xs. list ++ xs) (sym (map-append f (map (telling first) (take count first.queue.entries)) _)
    ∙ ap (map f) (sym (map-append (telling first) (take count first.queue.entries) _)
    ∙ ap (map (telling first)) (sym (take-add count 1 first.queue.entries))))

-- after the last item nothing is left to be told
pub all_told : {A : Type 0} (f : Told → A) (room place : ℕ) (items : List ItemState) (list done : List A) → length items ≤ place
    → list ++ map f (told room (drop place items)) ≡ done → list ≡ done
all_told f room place items list done past is =
    sym (append-nil list) ∙ ap (λ rest. list ++ map f (told room rest)) (sym (drop_of_length-le items past)) ∙ is

take_of_take : (n : ℕ) (xs ys : List ItemState) → n ≤ length xs → take n (take n xs ++ ys) ≡ take n xs
take_of_take n xs ys h = take-append-le n (take n xs) ys (rw (length-take-le n xs h) (omega arith)) ∙ take-take n n xs (omega arith)

-- items of which the first so many are told
pub part_of : (place : ℕ) (items all_left before rest : List ItemState) → place ≤ length items
    → take place items ++ rest ≡ all_left → drop place items ≡ drop place before → IsPart items all_left before
part_of place items all_left before rest within are others = (
  place,
  sym (take-append-drop place items)
      ∙ ap₂ (λ first more. first ++ more) (sym (take_of_take place items rest within) ∙ ap (take place) are) others,
)

pub left_length : (room : ℕ) (items : List ItemState) → length (left room items) ≡ length items
left_length room [] = refl
left_length room (item ∷ items) = ap (λ n. suc n) (left_length (room - count_told room item) items)

-- all that was to be told was told, and the message was not formed
pub all_gone : (s : SubState) → IsInterrupted s (record s { items = items_left s })
all_gone s = (
  refl,
  (
    length (items_left s),
    sym (
        ap₂ (λ first rest. first ++ rest) (take-length (items_left s))
        (ap (λ n. drop n s.items) (items_left_length s.spec.enabled) ∙ drop-length s.items)
        ∙ append-nil (items_left s)),
  ),
)
  where
    items_left_length : (enabled : Bool) → length (if enabled then left s.spec.most s.items else s.items) ≡ length s.items
    items_left_length true = left_length s.spec.most s.items
    items_left_length false = refl

-- what is put back where it stood changes nothing
pub put_back : (place : ℕ) (items : List ItemState) (item other : ItemState) → item ≡ get_or items place other → slice_set items place item ≡ items
put_back place items item other is = ap (slice_set items place) is ∙ set-get_or items place other
