-- Elements read one after the other, as a loop does.
use Rattle.std.proofs.Common.{◌≡◌, ℕ, suc, ◌-◌, ◌+◌, ◌≤◌, ◌<◌, List, [], ◌∷◌, ◌++◌, Result, Ok, Err, refl, sym, ap, ◌∙◌, append_assoc, arith}
use Rattle.std.proofs.lemmas.List.{append-nil}
use Rattle.ua_values.specs.declared.fault.ValueFault.{ValueFault}
use Rattle.ua_values.specs.declared.fault.ValueFault.TheVariants as faults
use Rattle.ua_values.specs.Reading.{Input, Reader, Fault, Fails, passed, give}
use Rattle.ua_values.specs.Readers.{elements_at}

-- what was read before, and what is still read
abbrev pub with_front : {A : Type 0} → List A → Result (List A × Input) Fault → Result (List A × Input) Fault
with_front front (Ok x) = Ok (front ++ x.0, x.1)
with_front front (Err e) = Err e

regroup : {A : Type 0} (front : List A) (a : A) (read : Result (List A × Input) Fault) → with_front front (passed read (λ more. give (a ∷ more))) ≡ with_front (front ++ a ∷ []) read
regroup {A = A} front a (Ok x) = ap (λ (l : List A). Ok (l, x.1)) (sym (append_assoc front (a ∷ []) x.0))
regroup front a (Err e) = refl

pub goes_on : {A : Type 0} (at : Reader A) (front : List A) (count i : ℕ) (from : Input) (a : A) (after : Input) (total : Result (List A × Input) Fault) → i < count → at from ≡ Ok (a, after)
    → with_front front (elements_at (count - i) at from) ≡ total → with_front (front ++ a ∷ []) (elements_at (count - (i + 1)) at after) ≡ total
goes_on at front count i from a after total lt h so_far =
    let k : count - i ≡ suc (count - (i + 1)) = omega arith in
    let one : with_front front (elements_at (count - i) at from) ≡ with_front (front ++ a ∷ []) (elements_at (count - (i + 1)) at after) = rw (k, h) (regroup front a (elements_at (count - (i + 1)) at after)) in
    sym one ∙ so_far

pub stops : {A : Type 0} (e : ValueFault) (at : Reader A) (front : List A) (count i : ℕ) (from : Input) (total : Result (List A × Input) Fault) → i < count → Fails e (at from)
    → with_front front (elements_at (count - i) at from) ≡ total → Fails e total
stops faults.OutOfMemory at front count i from total lt h so_far = tt
stops faults.Short at front count i from total lt h so_far =
    let k : count - i ≡ suc (count - (i + 1)) = omega arith in
    sym so_far ∙ rw (k, h) refl
stops (faults.Bad place code) at front count i from total lt h so_far =
    let k : count - i ≡ suc (count - (i + 1)) = omega arith in
    sym so_far ∙ rw (k, h) refl

pub is_done : {A : Type 0} (at : Reader A) (front : List A) (count i : ℕ) (from : Input) (total : Result (List A × Input) Fault) → count ≤ i → with_front front (elements_at (count - i) at from) ≡ total → total ≡ Ok (front, from)
is_done {A = A} at front count i from total le so_far =
    let k : count - i ≡ 0 = omega arith in
    sym so_far ∙ rw k (ap (λ (l : List A). Ok (l, from)) (append-nil front))
