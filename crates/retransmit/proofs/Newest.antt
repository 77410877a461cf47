-- The kept messages with the newest first, where a recursion over the calls has the newest message at hand.
use Rattle.std.proofs.Common.{◌≡◌, ℕ, zero, suc, ◌-◌, ◌≤◌, min, List, [], ◌∷◌, ◌++◌, Bool, true, false, not, ◌==◌, filter, length, take, drop, refl, sym, ◌∙◌, ap, arith, ⊎_elim}
use Rattle.std.specs.Prelude.{reverse}
use Rattle.std.proofs.lemmas.List.{append-nil, reverse-append, length-reverse, length-take, length-drop, take-append-drop, drop_at, take_all, take-take}
use Rattle.std.proofs.lemmas.List.Elements.{filter-append}
use Rattle.retransmit.specs.declared.retransmission.Sent.{Sent}
use Rattle.retransmit.specs.Kept.{last_ones, without}
use Rattle.retransmit.specs.History.{Call, Send, Acknowledge, kept_after, unacknowledged, AreNewest}

abbrev pub newest : {M : Type 0} → List (Call M) → List (Sent M)
newest [] = []
newest (Send number message ∷ earlier) = take 64 (record { number = number; message = message } ∷ without number (newest earlier))
newest (Acknowledge number ∷ earlier) = without number (newest earlier)

reverse_first : {A : Type 0} (x : A) (xs : List A) → reverse (x ∷ xs) ≡ reverse xs ++ x ∷ []
reverse_first x xs = reverse-append (x ∷ []) xs

filter-reverse_by : {A : Type 0} (b : Bool) (p : A → Bool) (x : A) (xs : List A) → p x ≡ b
    → reverse (filter p xs) ++ filter p (x ∷ []) ≡ reverse (filter p (x ∷ xs))
filter-reverse_by true p x xs is = rw is (sym (reverse_first x (filter p xs)))
filter-reverse_by false p x xs is = rw is (append-nil (reverse (filter p xs)))

pub filter-reverse : {A : Type 0} (p : A → Bool) (xs : List A) → filter p (reverse xs) ≡ reverse (filter p xs)
filter-reverse p [] = refl
filter-reverse p (x ∷ xs) =
    ap (filter p) (reverse_first x xs)
    ∙ filter-append p (reverse xs) (x ∷ [])
    ∙ ap (λ ys. ys ++ filter p (x ∷ [])) (filter-reverse p xs)
    ∙ filter-reverse_by _ p x xs refl

without-reverse : {M : Type 0} (number : ℕ) (kept : List (Sent M)) → without number (reverse kept) ≡ reverse (without number kept)
without-reverse number kept = filter-reverse (λ sent. not (sent.number == number)) kept

-- the last ones are the first ones of the reverse
last-reverse : {M : Type 0} (count : ℕ) (kept : List (Sent M)) → last_ones count (reverse kept) ≡ reverse (take count kept)
last-reverse count kept =
    let parts : reverse kept ≡ reverse (drop count kept) ++ reverse (take count kept) =
    ap reverse (sym (take-append-drop count kept)) ∙ reverse-append (take count kept) (drop count kept) in
    let long : length (reverse (drop count kept)) ≡ length (reverse kept) - count =
    length-reverse (drop count kept) ∙ length-drop count kept ∙ ap (λ n. n - count) (sym (length-reverse kept)) in
    ap (drop (length (reverse kept) - count)) parts ∙ drop_at _ (reverse (take count kept)) _ long

pub kept-newest : {M : Type 0} (history : List (Call M)) → kept_after history ≡ reverse (newest history)
kept-newest [] = refl
kept-newest (Send number message ∷ earlier) =
    let sent : Sent _ = record { number = number; message = message } in
    ap (λ kept. last_ones 64 (without number kept ++ sent ∷ [])) (kept-newest earlier)
    ∙ ap (λ kept. last_ones 64 (kept ++ sent ∷ [])) (without-reverse number (newest earlier))
    ∙ ap (last_ones 64) (sym (reverse_first sent (without number (newest earlier))))
    ∙ last-reverse 64 (sent ∷ without number (newest earlier))
kept-newest (Acknowledge number ∷ earlier) = ap (without number) (kept-newest earlier) ∙ without-reverse number (newest earlier)

-- the first ones of a list, one number taken out, are the first ones of the list with the number taken out
pub record IsFront {M : Type 0} (most : ℕ) (front whole : List (Sent M)) : Type 0 where
  pub count : ℕ
  pub within : count ≤ most
  pub is : front ≡ take count whole

without-take_by : {M : Type 0} (b : Bool) (number : ℕ) (sent : Sent M) (front whole : List (Sent M)) (most : ℕ) → (sent.number == number) ≡ b
    → IsFront most (without number front) (without number whole) → IsFront (suc most) (without number (sent ∷ front)) (without number (sent ∷ whole))
without-take_by true number sent front whole most is h = record { count = h.count; within = omega (arith, h.within); is = rw is h.is }
without-take_by false number sent front whole most is h =
    record { count = suc h.count; within = omega (arith, h.within); is = rw is (ap (λ xs. sent ∷ xs) h.is) }

without-take : {M : Type 0} (number count : ℕ) (kept : List (Sent M)) → IsFront count (without number (take count kept)) (without number kept)
without-take number zero kept = record { count = 0; within = omega arith; is = refl }
without-take number (suc count) [] = record { count = 0; within = omega arith; is = refl }
without-take number (suc count) (sent ∷ kept) = without-take_by _ number sent (take count kept) kept count refl (without-take number count kept)

-- the first ones of the first ones
take_both : {A : Type 0} (m n : ℕ) (xs : List A) → take m (take n xs) ≡ take (min m n) xs
take_both m n xs =
    ⊎_elim
    (λ (below : m ≤ n). take-take m n xs below ∙ ap (λ k. take k xs) (grind arith))
    (λ (above : n ≤ m).
    let short : length (take n xs) ≤ m = let long = length-take n xs in omega arith in
    take_all m (take n xs) short ∙ ap (λ k. take k xs) (grind arith))
    (grind arith)

cut_front : {M : Type 0} (sent : Sent M) (front whole : List (Sent M)) (most : ℕ) → IsFront most front whole → IsFront 64 (take 64 (sent ∷ front)) (sent ∷ whole)
cut_front sent front whole most h =
    record {
      count = suc (min 63 h.count);
      within = omega arith;
      is = ap (λ xs. sent ∷ xs) (ap (take 63) h.is ∙ take_both 63 h.count whole);
    }

-- a number taken out of the first ones, by the equation that they are that
without_front : {M : Type 0} (number : ℕ) (front whole : List (Sent M)) → IsFront 64 front whole → IsFront 64 (without number front) (without number whole)
without_front number front whole h =
    let out = without-take number h.count whole in
    record { count = out.count; within = omega (arith, out.within, h.within); is = ap (without number) h.is ∙ out.is }

pub newest_front : {M : Type 0} (history : List (Call M)) → IsFront 64 (newest history) (unacknowledged history)
newest_front [] = record { count = 0; within = omega arith; is = refl }
newest_front (Send number message ∷ earlier) =
    cut_front (record { number = number; message = message }) _ _ 64 (without_front number _ _ (newest_front earlier))
newest_front (Acknowledge number ∷ earlier) = without_front number _ _ (newest_front earlier)

pub are_newest : {M : Type 0} (history : List (Call M)) → AreNewest (kept_after history) (unacknowledged history)
are_newest history =
    let h = newest_front history in
    (h.count, h.within, kept-newest history ∙ ap reverse h.is)
