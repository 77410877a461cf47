-- A message that is turned goes behind those that were turned before it, or out.
use Rattle.std.proofs.Common.{◌≡◌, ℕ, zero, suc, ◌+◌, ◌<◌, List, [], ◌∷◌, ◌++◌, Bool, true, false, ◌==◌, length, take, drop, refl, sym, ◌∙◌, ap, arith}
use Rattle.std.proofs.lemmas.List.{append_assoc, append-nil}
use Rattle.retransmit.specs.declared.retransmission.Sent.{Sent}
use Rattle.retransmit.specs.Kept.{without}
use Rattle.retransmit.specs.Turn.{turned}

-- the first of a list, and a list behind it
turned_first : {M : Type 0} (b : Bool) (number : ℕ) (sent : Sent M) (kept behind : List (Sent M)) → (sent.number == number) ≡ b
    → turned number (sent ∷ kept ++ (behind ++ [])) ≡ kept ++ (behind ++ without number (sent ∷ []))
turned_first true number sent kept behind is = rw is refl
turned_first false number sent kept behind is = rw (is, append-nil behind) (append_assoc kept behind (sent ∷ []))

-- the first of a list that was turned before stands behind, where it was not taken out
turned_past : {M : Type 0} (b : Bool) (number : ℕ) (sent : Sent M) (before after : List (Sent M)) (rest more behind : List (Sent M)) → (sent.number == number) ≡ b
    → ((behind : List (Sent M)) → turned number (rest ++ (behind ++ without number before)) ≡ more ++ (behind ++ without number after))
    → turned number (rest ++ (behind ++ without number (sent ∷ before))) ≡ more ++ (behind ++ without number (sent ∷ after))
turned_past true number sent before after rest more behind is each = rw is (each behind)
turned_past false number sent before after rest more behind is each =
    let front : behind ++ sent ∷ without number before ≡ (behind ++ sent ∷ []) ++ without number before = sym (append_assoc behind (sent ∷ []) (without number before)) in
    let back : (behind ++ sent ∷ []) ++ without number after ≡ behind ++ sent ∷ without number after = append_assoc behind (sent ∷ []) (without number after) in
    rw is (ap (λ xs. turned number (rest ++ xs)) front ∙ each (behind ++ sent ∷ []) ∙ ap (λ xs. more ++ xs) back)

turned_from : {M : Type 0} (number : ℕ) (kept : List (Sent M)) (i : ℕ) (behind : List (Sent M)) → i < length kept
    → turned number (drop i kept ++ (behind ++ without number (take i kept))) ≡ drop (suc i) kept ++ (behind ++ without number (take (suc i) kept))
turned_from number [] i behind within = absurd (omega arith)
turned_from number (sent ∷ kept) zero behind within = turned_first _ number sent kept behind refl
turned_from number (sent ∷ kept) (suc i) behind within =
    turned_past _ number sent (take i kept) (take (suc i) kept) (drop i kept) (drop (suc i) kept) behind refl (λ more. turned_from number kept i more (omega arith))

-- one turn more of a list that is being turned round
pub turned_more : {M : Type 0} (number : ℕ) (kept : List (Sent M)) (i : ℕ) → i < length kept
    → turned number (drop i kept ++ without number (take i kept)) ≡ drop (i + 1) kept ++ without number (take (i + 1) kept)
turned_more number kept i within =
    let next : i + 1 ≡ suc i = omega arith in
    rw next (turned_from number kept i [] within)
