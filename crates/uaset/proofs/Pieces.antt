-- Writing bytes piece by piece.
use Rattle.std.proofs.Common.{◌≡◌, ℕ, List, [], ◌++◌, Option, Some, None, take, drop, refl, sym, ap, ◌∙◌}
use Rattle.std.proofs.lemmas.List.{append_assoc, append-nil, take-append-drop}
use Rattle.ua_edge.specs.declared.sink.Put.TheVariants.{Wrote}
use Rattle.ua_edge.specs.Bytes.{Puts}
use Rattle.uaset.specs.Edges.{HasAppended, HasAppendedUpTo}

nothing : (told : Option (List ℕ)) → HasAppended told told []
nothing None = tt
nothing (Some bytes) = ap Some (sym (append-nil bytes))

-- nothing was written yet
pub none_appended : (told : Option (List ℕ)) (bytes : List ℕ) → HasAppendedUpTo told told bytes bytes
none_appended told bytes = record { front = []; split = refl; appended = nothing told }

more : (before between after : Option (List ℕ)) (front rest : List ℕ) (count : ℕ) → HasAppended before between front
    → Puts between after (Wrote count) rest → HasAppended before after (front ++ take count rest)
more None between after front rest count h p = tt
more (Some w) None after front rest count h p = absurd cc
more (Some w) (Some v) after front rest count h p =
    let is : v ≡ w ++ front = cc in
    p ∙ ap Some (ap (λ x. x ++ take count rest) is ∙ append_assoc w front (take count rest))

-- one more piece was written
pub more_appended : (before between after : Option (List ℕ)) (bytes rest left : List ℕ) (count : ℕ) → HasAppendedUpTo before between bytes rest
    → Puts between after (Wrote count) rest → left ≡ drop count rest → HasAppendedUpTo before after bytes left
more_appended before between after bytes rest left count h p is = record {
  front = h.front ++ take count rest;
  split = h.split ∙ ap (λ x. h.front ++ x) (sym (take-append-drop count rest)) ∙ sym (append_assoc h.front (take count rest) (drop count rest))
      ∙ ap (λ x. h.front ++ take count rest ++ x) (sym is);
  appended = more before between after h.front rest count h.appended p;
}

-- all is written where nothing is left
pub all_appended : (before after : Option (List ℕ)) (bytes rest : List ℕ) → HasAppendedUpTo before after bytes rest → rest ≡ [] → HasAppended before after bytes
all_appended None after bytes rest h e = tt
all_appended (Some w) after bytes rest h e = h.appended ∙ ap (λ x. Some (w ++ x)) (sym (h.split ∙ ap (λ x. h.front ++ x) e ∙ append-nil h.front))
