-- What is shown of an input, in the words of the grammar.
use Rattle.std.proofs.Common.{◌≡◌, ◌==◌, ◌<◌, ◌≤◌, ℕ, ◌+◌, Bool, true, false, cond, List, [], length, take, Result, Ok, Err, inl, inr, refl, sym, ap, subst, ◌∙◌, arith}
use Rattle.std.proofs.lemmas.List.{append-nil, take_all}
use Rattle.std.proofs.lemmas.Bool.Decides.{nat_tests}
use Rattle.ua_base.specs.Status.{bad_decoding_error}
use Rattle.ua_values.specs.declared.fault.ValueFault.TheVariants as values
use Rattle.ua_values.specs.Reading.{Fault, Short, Bad, input, sized}
use Rattle.ua_values.specs.Answer.{IsFault}
use Rattle.ua_values.proofs.Answers.{is_read}
use Rattle.ua_variants.specs.declared.variant.Variant.{Variant}
use Rattle.ua_variants.specs.declared.variant.Stamped.{Stamped}
use Rattle.ua_variants.specs.Grammar.{data_value, data_value_cut}
use Rattle.ua_variants.specs.Reader.{data_value_at}
use Rattle.ua_variants.proofs.Codecs.{reads_both}
use Rattle.show.specs.declared.fault.ShowFault.{ShowFault}
use Rattle.show.specs.declared.fault.ShowFault.TheVariants as faults
use Rattle.show.specs.Text.{value_text}
use Rattle.show.specs.Answer.{Refusal, refusal, Shows}
use Rattle.show.specs.Value.{shown_of, shown_value, IsShown}

abbrev Shown : Type 0
Shown = Result (List ℕ) Refusal

ok_is : (a b : List ℕ) → ◌≡◌ {A = Shown} (Ok a) (Ok b) → a ≡ b
ok_is a b e = cc

err_is : (a b : Refusal) → ◌≡◌ {A = Shown} (Err a) (Err b) → a ≡ b
err_is a b e = cc

ok_not_err : {C : Type 0} (a : List ℕ) (b : Refusal) → ◌≡◌ {A = Shown} (Ok a) (Err b) → C
ok_not_err a b e = absurd cc

place_is : (a b p q : ℕ) → refusal a b ≡ refusal p q → a ≡ p
place_is a b p q e = ap (λ (r : Refusal). r.place) e

code_is : (a b p q : ℕ) → refusal a b ≡ refusal p q → b ≡ q
code_is a b p q e = ap (λ (r : Refusal). r.code) e

-- a value that was read, and whether it takes the whole input
whole_or_more : {X : Type 0} (view : X → List ℕ) (bytes : List ℕ) (result : Result X ShowFault) (y : Stamped Variant × ℕ)
    → y.1 ≤ length bytes → data_value 101 y.0 (take y.1 bytes) → (b : Bool) → (y.1 == length bytes) ≡ b
    → Shows view result (cond b (Ok (value_text y.0)) (Err (refusal y.1 bad_decoding_error))) → IsShown view bytes result
whole_or_more view bytes (Ok x) y within spelled true is shown =
    let all : y.1 ≡ length bytes = grind (arith, nat_tests) in
    let whole : take y.1 bytes ≡ bytes = take_all y.1 bytes (omega (arith, all)) in
    (y.0, subst (λ (l : List ℕ). data_value 101 y.0 l) whole spelled, sym (ok_is (value_text y.0) (view x) shown))
whole_or_more view bytes (Ok x) y within spelled false is shown = ok_not_err (view x) (refusal y.1 bad_decoding_error) (sym shown)
whole_or_more view bytes (Err (faults.Bad place code)) y within spelled true is shown = ok_not_err (value_text y.0) (refusal place code) shown
whole_or_more view bytes (Err (faults.Bad place code)) y within spelled false is shown =
    let same = err_is (refusal y.1 bad_decoding_error) (refusal place code) shown in
    let at : y.1 ≡ place = place_is y.1 bad_decoding_error place code same in
    let lt : y.1 < length bytes = grind (arith, nat_tests) in
    inr (inl (record {
      value = y.0;
      spelled = subst (λ (n : ℕ). data_value 101 y.0 (take n bytes)) at spelled;
      within = subst (λ (n : ℕ). n < length bytes) at lt;
      code_is = sym (code_is y.1 bad_decoding_error place code same);
    }))
whole_or_more view bytes (Err faults.OutOfMemory) y within spelled b is shown = tt

-- whatever was read
pub is_shown : {X : Type 0} (view : X → List ℕ) (bytes : List ℕ) (result : Result X ShowFault) (read : Result (Stamped Variant × ℕ) Fault)
    → sized (data_value_at 101 (input 0 bytes)) ≡ read → Shows view result (shown_of (length bytes) read) → IsShown view bytes result
is_shown view bytes result (Ok y) e shown =
    let t = is_read (data_value 101) (data_value_cut 101) (data_value_at 101) (reads_both 101).stamped bytes (Ok y) e in
    whole_or_more view bytes result y t.0 t.1 (y.1 == length bytes) refl shown
is_shown view bytes (Ok x) (Err Short) e shown = ok_not_err (view x) (refusal (length bytes) bad_decoding_error) (sym shown)
is_shown view bytes (Ok x) (Err (Bad p k)) e shown = ok_not_err (view x) (refusal p k) (sym shown)
is_shown view bytes (Err (faults.Bad place code)) (Err Short) e shown =
    let same = err_is (refusal (length bytes) bad_decoding_error) (refusal place code) shown in
    inl (
      sym (place_is (length bytes) bad_decoding_error place code same),
      sym (code_is (length bytes) bad_decoding_error place code same),
      is_read (data_value 101) (data_value_cut 101) (data_value_at 101) (reads_both 101).stamped bytes (Err values.Short) e,
    )
is_shown view bytes (Err (faults.Bad place code)) (Err (Bad p k)) e shown =
    let same = err_is (refusal p k) (refusal place code) shown in
    let fault = is_read (data_value 101) (data_value_cut 101) (data_value_at 101) (reads_both 101).stamped bytes (Err (values.Bad p k)) e in
    inr (inr (subst (λ (n : ℕ). IsFault (data_value 101) (data_value_cut 101) bytes place n) (code_is p k place code same)
    (subst (λ (n : ℕ). IsFault (data_value 101) (data_value_cut 101) bytes n k) (place_is p k place code same) fault)))
is_shown view bytes (Err faults.OutOfMemory) (Err f) e shown = tt

is_itself : (n : ℕ) → (n == n) ≡ true
is_itself n = grind (arith, nat_tests)

chosen : (b : Bool) (x y : Shown) → b ≡ true → cond b x y ≡ x
chosen true x y e = refl
chosen false x y e = absurd cc

-- what is a spelling is shown
pub shown_spelling : (bytes : List ℕ) (d : Stamped Variant) → data_value 101 d bytes → shown_value bytes ≡ Ok (value_text d)
shown_spelling bytes d spelled =
    let all : 0 + length bytes ≡ length bytes = omega arith in
    let read : data_value_at 101 (input 0 bytes) ≡ Ok (d, input (0 + length bytes) []) = rw (append-nil) at ((reads_both 101).stamped.again 0 bytes [] d spelled) in
    let whole : data_value_at 101 (input 0 bytes) ≡ Ok (d, input (length bytes) []) = read ∙ ap (λ (n : ℕ). Ok (d, input n [])) all in
    ap (λ r. shown_of (length bytes) (sized r)) whole
    ∙ chosen (length bytes == length bytes) (Ok (value_text d)) (Err (refusal (length bytes) bad_decoding_error)) (is_itself (length bytes))
