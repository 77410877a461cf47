-- The first ones of a list that lies in two parts.
use Rattle.std.proofs.Common.{◌≡◌, ℕ, ◌+◌, ◌-◌, ◌≤◌, ◌<◌, List, ◌++◌, length, take, min, sym, ◌∙◌, ap, ap₂, append_assoc, arith, ◌⊎◌, inl, inr}
use Rattle.std.proofs.lemmas.List.{take-append-le, take_all, append-nil}
use Rattle.std.proofs.lemmas.Bool.{cases_lt}
use Rattle.std.proofs.Math.Seq.{take-append-add}
use Rattle.item_queue.specs.declared.queue.Entry.{Entry}

-- all are in the first part, or the first part is whole
parts_taken : (xs ys : List Entry) (count split : ℕ) → split ≡ min count (length xs) → (count < length xs) ⊎ (length xs ≤ count)
    → take split xs ++ take (count - split) ys ≡ take count (xs ++ ys)
parts_taken xs ys count split s (inl h) =
    let all : split ≡ count = omega arith in
    let none : count - split ≡ 0 = omega arith in
    ap₂ (λ n m. take n xs ++ take m ys) all none ∙ append-nil (take count xs) ∙ sym (take-append-le count xs ys (omega arith))
parts_taken xs ys count split s (inr h) =
    let more : count ≡ length xs + (count - split) = omega arith in
    ap (λ l. l ++ take (count - split) ys) (take_all split xs (omega arith))
    ∙ sym (take-append-add xs ys (count - split))
    ∙ ap (λ n. take n (xs ++ ys)) (sym more)

-- a list that took the first ones of one part and then of the other took the first ones of both
pub appended : (old start middle new xs ys : List Entry) (count split : ℕ) → start ≡ old → middle ≡ start ++ take split xs
    → new ≡ middle ++ take (count - split) ys → split ≡ min count (length xs) → new ≡ old ++ take count (xs ++ ys)
appended old start middle new xs ys count split begins first second s =
    second
    ∙ ap (λ l. l ++ take (count - split) ys) (first ∙ ap (λ l. l ++ take split xs) begins)
    ∙ append_assoc old (take split xs) (take (count - split) ys)
    ∙ ap (λ l. old ++ l) (parts_taken xs ys count split s (cases_lt count (length xs)))
