-- Which Publishes are queued after several came.
use Rattle.std.proofs.Common.{◌≡◌, ◌+◌, ◌-◌, ◌<◌, ◌≤◌, List, [], ◌∷◌, ◌++◌, Bool, true, false, cond, nat_lt, length, drop, refl, sym, ◌∙◌, ap, append_assoc, arith, length-append, length-drop}
use Rattle.std.proofs.lemmas.Bool.Decides.{nat_tests}
use Rattle.std.proofs.lemmas.List.{append-nil, drop-append-le, drop-drop}
use Rattle.sessions.specs.declared.session.Parked.{Parked}
use Rattle.sessions.specs.Calls.{last_publishes, with_publishes}

one_step : (publish : Parked) (before : List Parked) (room : Bool) → nat_lt (length (last_publishes before)) 16 ≡ room
    → cond room (last_publishes before ++ publish ∷ []) (drop 1 (last_publishes before) ++ publish ∷ []) ≡ last_publishes (before ++ publish ∷ [])
one_step publish before true test =
    let left = length-drop (length before - 16) before in
    let long = length-append before (publish ∷ []) in
    let room : length (last_publishes before) < 16 = grind (arith, nat_tests) in
    let few : length before - 16 ≡ 0 = omega arith in
    let few_more : length (before ++ publish ∷ []) - 16 ≡ 0 = omega arith in
    ap (λ n. drop n before ++ publish ∷ []) few ∙ ap (λ n. drop n (before ++ publish ∷ [])) (sym few_more)
one_step publish before false test =
    let left = length-drop (length before - 16) before in
    let long = length-append before (publish ∷ []) in
    let full : 16 ≤ length (last_publishes before) = grind (arith, nat_tests) in
    let one_more : length before - 16 + 1 ≡ length (before ++ publish ∷ []) - 16 = omega arith in
    ap (λ queued. queued ++ publish ∷ []) (drop-drop 1 (length before - 16) before)
    ∙ sym (drop-append-le (length before - 16 + 1) before (publish ∷ []) (omega arith))
    ∙ ap (λ n. drop n (before ++ publish ∷ [])) one_more

keeps_from : (publishes before : List Parked) → with_publishes publishes (last_publishes before) ≡ last_publishes (before ++ publishes)
keeps_from [] before = ap last_publishes (sym (append-nil before))
keeps_from (publish ∷ publishes) before =
    ap (with_publishes publishes) (one_step publish before _ refl)
    ∙ keeps_from publishes (before ++ publish ∷ [])
    ∙ ap last_publishes (append_assoc before (publish ∷ []) publishes)

pub keeps_last : (publishes : List Parked) → with_publishes publishes [] ≡ last_publishes publishes
keeps_last publishes = keeps_from publishes []
