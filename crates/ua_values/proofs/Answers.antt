-- From a codec to what a read answers.
use Rattle.std.proofs.Common.{◌≡◌, ℕ, ◌+◌, ◌≤◌, List, [], ◌++◌, length, take, drop, Result, Ok, Err, refl, sym, ap, subst, ◌∙◌, arith, length-append}
use Rattle.std.proofs.lemmas.List.{take-append-drop, append-nil}
use Rattle.std.proofs.Math.Seq.{take-append_seam}
use Rattle.ua_values.specs.declared.fault.ValueFault.{ValueFault}
use Rattle.ua_values.specs.declared.fault.ValueFault.TheVariants as faults
use Rattle.ua_values.specs.Reading.{Input, input, Reader, Fault, Short, Bad, Gives, Moves, with_place, sized}
use Rattle.ua_values.specs.Codec.{Reads, IsCodec}
use Rattle.ua_values.specs.Parts.{Begun}
use Rattle.ua_values.specs.Answer.{HasNone, IsFault, IsReadOr, IsRead}
use Rattle.ua_values.proofs.Chain.{ok_is, reads}

abbrev Sized : Type 0 → Type 0
Sized A = Result (A × ℕ) Fault

err_is : {A : Type 0} (g f : Fault) → ◌≡◌ {A = Result A Fault} (Err g) (Err f) → g ≡ f
err_is g f e = cc

sized_err : {A : Type 0} (r : Result (A × Input) Fault) (f : Fault) → sized r ≡ Err f → r ≡ Err f
sized_err (Ok x) f e = absurd cc
sized_err (Err g) f e = ap (λ h. Err h) (err_is g f e)

ok_not_err : {A : Type 0} (x : A) (f : Fault) → ◌≡◌ {A = Result A Fault} (Ok x) (Err f) → ⊥
ok_not_err x f e = cc

-- a fault leaves no spelling in front
has_none : {A : Type 0} (S : A → List ℕ → Type 0) (C : List ℕ → Type 0) (at : Reader A) → Reads S C at → (bytes : List ℕ) (f : Fault) → at (input 0 bytes) ≡ Err f → HasNone S bytes
has_none S C at codec bytes f e a n spelled =
    ok_not_err _ f (sym (codec.again 0 (take n bytes) (drop n bytes) a spelled) ∙ ap (λ (l : List ℕ). at (input 0 l)) (take-append-drop n bytes) ∙ e)

read_ok : {A : Type 0} (S : A → List ℕ → Type 0) (C : List ℕ → Type 0) (at : Reader A) → Reads S C at → (bytes : List ℕ) (x : A × ℕ) (r : Result (A × Input) Fault) → at (input 0 bytes) ≡ r → sized r ≡ Ok x
    → (x.1 ≤ length bytes) × S x.0 (take x.1 bytes)
read_ok {A = A} S C at codec bytes x (Ok y) e h =
    let t = codec.found 0 bytes y.0 y.1 e in
    let is : (y.0, y.1.place) ≡ x = ok_is (y.0, y.1.place) x h in
    let value : y.0 ≡ x.0 = ap (λ (z : A × ℕ). z.0) is in
    let size : x.1 ≡ length t.text = sym (ap (λ (z : A × ℕ). z.1) is) ∙ ap (λ (i : Input). i.place) t.after_is ∙ omega arith in
    let front : take x.1 bytes ≡ t.text = ap (λ (k : ℕ). take k bytes) size ∙ ap (λ (l : List ℕ). take (length t.text) l) t.whole ∙ take-append_seam t.text t.rest in
    (omega (arith, size, ap length t.whole, length-append t.text t.rest), subst (λ (l : List ℕ). S x.0 l) (sym front) (subst (λ (a : A). S a t.text) value t.spelled))
read_ok S C at codec bytes x (Err f) e h = absurd cc

read_bad : {A : Type 0} (S : A → List ℕ → Type 0) (C : List ℕ → Type 0) (at : Reader A) → Reads S C at → (bytes : List ℕ) (place code : ℕ) → at (input 0 bytes) ≡ Err (Bad place code) → IsFault S C bytes place code
read_bad {A = A} S C at codec bytes place code e =
    let f = codec.faulty 0 bytes place code e in
    let ends : place + f.width ≡ f.start + f.width = omega (arith, f.where_is) in
    record {
      width = f.width;
      refused = f.refused;
      within = omega (arith, f.within, ends);
      before = λ n lt. codec.short 0 (take n bytes) (f.begins n (omega (arith, ends)));
      after = λ a more spelled.
          let whole = take (place + f.width) bytes ++ more in
          let read : at (input 0 (whole ++ [])) ≡ Ok (a, input (0 + length whole) []) = codec.again 0 whole [] a spelled in
          let fails : at (input 0 whole) ≡ Err (Bad place code) = ap (λ (k : ℕ). at (input 0 (take k bytes ++ more))) ends ∙ f.breaks more in
          ok_not_err {A = A × Input} _ (Bad place code) (sym read ∙ ap (λ (l : List ℕ). at (input 0 l)) (append-nil whole) ∙ fails);
      none = has_none S C at codec bytes (Bad place code) e;
    }

pub is_read : {A : Type 0} (S : A → List ℕ → Type 0) (C : List ℕ → Type 0) (at : Reader A) → Reads S C at → (bytes : List ℕ) (r : Result (A × ℕ) ValueFault) → Gives r (sized (at (input 0 bytes))) → IsReadOr S C bytes r
is_read S C at codec bytes (Ok x) given = read_ok S C at codec bytes x (at (input 0 bytes)) refl given
is_read S C at codec bytes (Err faults.Short) given =
    let e = sized_err (at (input 0 bytes)) Short given in
    record { begun = codec.short 0 bytes e; none = has_none S C at codec bytes Short e }
is_read S C at codec bytes (Err (faults.Bad place code)) given = read_bad S C at codec bytes place code (sized_err (at (input 0 bytes)) (Bad place code) given)
is_read S C at codec bytes (Err faults.OutOfMemory) given = tt

-- what a cursor's call answered, with its place
pub gives : {A : Type 0} (r : Result A ValueFault) (after : Input) (read : Result (A × Input) Fault) → Moves (λ a. a) r after read → Gives (with_place r after.place) (sized read)
gives (Ok a) after read moved = ap sized moved
gives (Err faults.Short) after read moved = ap sized moved
gives (Err (faults.Bad place code)) after read moved = ap sized moved
gives (Err faults.OutOfMemory) after read moved = tt

-- the two clauses of a read
pub exact_by : {A : Type 0} (at : Reader A) (bytes : List ℕ) (from : Input) (r : Result A ValueFault) (after : Input) (result : Result (A × ℕ) ValueFault)
    → from ≡ input 0 bytes → Moves (λ a. a) r after (at from) → result ≡ with_place r after.place → Gives result (sized (at (input 0 bytes)))
exact_by at bytes from r after result begins moved is =
    subst (λ q. Gives q (sized (at (input 0 bytes)))) (sym is) (gives r after (at (input 0 bytes)) (subst (λ (i : Input). Moves (λ a. a) r after (at i)) begins moved))

pub reads_by : {A : Type 0} (S : A → List ℕ → Type 0) (C : List ℕ → Type 0) (at : Reader A) → Reads S C at → (bytes : List ℕ) (from : Input) (r : Result A ValueFault) (after : Input) (result : Result (A × ℕ) ValueFault)
    → from ≡ input 0 bytes → Moves (λ a. a) r after (at from) → result ≡ with_place r after.place → IsReadOr S C bytes result
reads_by S C at codec bytes from r after result begins moved is = is_read S C at codec bytes result (exact_by at bytes from r after result begins moved is)

pub spelled_by : {A : Type 0} (S : A → List ℕ → Type 0) (at : Reader A) → IsCodec S at → (bytes : List ℕ) (from : Input) (r : Result A ValueFault) (after : Input) (result : Result (A × ℕ) ValueFault)
    → from ≡ input 0 bytes → Moves (λ a. a) r after (at from) → result ≡ with_place r after.place → IsRead S bytes result
spelled_by S at codec bytes from r after result begins moved is = reads_by S (Begun S) at (reads S at codec) bytes from r after result begins moved is
