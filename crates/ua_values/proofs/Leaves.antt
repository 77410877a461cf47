-- Codecs of a value's single fields.
use Rattle.std.proofs.Common.{◌≡◌, ℕ, zero, ◌+◌, ◌-◌, ◌≤◌, ◌<◌, List, [], ◌++◌, length, take, drop, replicate, Result, Ok, Err, refl, sym, ap, subst, ◌∙◌, arith, inl, inr}
use Rattle.std.proofs.lemmas.Bool.{cases_lt, lt-ltb, le-ltb}
use Rattle.std.proofs.lemmas.List.{take-append-drop, length-append, length-take, length-replicate, take_at, drop_at}
use Rattle.byteorder.specs.Endian.{little_number}
use Rattle.ua_values.specs.Reading.{Input, input, Fault, Short, Bad, give, run_at, judged, field_at, any, number_at}
use Rattle.ua_values.specs.Parts.{number, exactly, nothing, Begun, IsRefused}
use Rattle.ua_values.specs.Codec.{Took, Faulty, Reads, IsCodec}
use Rattle.ua_values.proofs.Chain.{ok_is, same}

pub no_ok : {A : Type 0} (f : Fault) (x : A) → ◌≡◌ {A = Result A Fault} (Ok x) (Err f) → ⊥
no_ok f x e = cc

pub short_not_bad : {A : Type 0} (q c : ℕ) → ◌≡◌ {A = Result A Fault} (Err Short) (Err (Bad q c)) → ⊥
short_not_bad q c e = cc

ok_nat : (n m : ℕ) → ◌≡◌ {A = Result ℕ ℕ} (Ok n) (Ok m) → n ≡ m
ok_nat n m e = cc

-- ---- nothing

abbrev pub given : {A : Type 0} → A → A → List ℕ → Type 0
given a b bytes = (b ≡ a) × nothing bytes

give_again : {A : Type 0} (a : A) (p : ℕ) (text more : List ℕ) (b : A) → b ≡ a → text ≡ [] → give a (input p (text ++ more)) ≡ Ok (b, input (p + length text) more)
give_again a p text more b same none =
    let places : p ≡ p + length text = omega (arith, ap length none) in
    ap (λ (l : List ℕ). give a (input p (l ++ more))) none ∙ ap (λ (n : ℕ). Ok (a, input n more)) places ∙ ap (λ z. Ok (z, input (p + length text) more)) (sym same)

pub give_codec : {A : Type 0} (a : A) → IsCodec (given a) (give a)
give_codec a = record {
  one = a;
  one_text = [];
  one_spelled = (refl, refl);
  found = λ p bytes b after e.
      let is = ok_is _ _ e in
      record {
        text = [];
        rest = bytes;
        spelled = (sym (ap (λ z. z.0) is), refl);
        whole = refl;
        after_is = sym (ap (λ z. z.1) is) ∙ ap (λ (n : ℕ). input n bytes) (omega arith);
      };
  again = λ p text more b spelled. give_again a p text more b spelled.0 spelled.1;
  short = λ p bytes e. absurd cc;
  faulty = λ p bytes q c e. absurd cc;
}

-- ---- so many bytes

abbrev pub run : ℕ → List ℕ → List ℕ → Type 0
run n v bytes = (length v ≡ n) × exactly v bytes

run_short : (n p : ℕ) (bytes : List ℕ) → length bytes < n → run_at n (input p bytes) ≡ Err Short
run_short n p bytes lt = rw (lt-ltb (length bytes) n lt) refl

run_whole : (n p : ℕ) (bytes : List ℕ) → n ≤ length bytes → run_at n (input p bytes) ≡ Ok (take n bytes, input (p + n) (drop n bytes))
run_whole n p bytes le = rw (le-ltb (length bytes) n le) refl

run_again : (n p : ℕ) (v more : List ℕ) → length v ≡ n → run_at n (input p (v ++ more)) ≡ Ok (v, input (p + length v) more)
run_again n p v more is =
    run_whole n p (v ++ more) (omega (arith, length-append v more)) ∙ rw (take_at v more n is, drop_at v more n is) (ap (λ (k : ℕ). Ok (v, input (p + k) more)) (sym is))

run_found : (n p : ℕ) (bytes v : List ℕ) (after : Input) → run_at n (input p bytes) ≡ Ok (v, after) → Took (run n) p bytes v after
run_found n p bytes v after e = elim (cases_lt (length bytes) n) [
  | inl lt ↦ absurd (no_ok _ (v, after) (sym e ∙ run_short n p bytes lt))
  | inr le ↦
      let is = ok_is _ _ (sym (run_whole n p bytes le) ∙ e) in
      let front : take n bytes ≡ v = ap (λ (z : List ℕ × Input). z.0) is in
      let long : length (take n bytes) ≡ n = omega (arith, length-take n bytes) in
      record {
        text = take n bytes;
        rest = drop n bytes;
        spelled = (ap length (sym front) ∙ long, front);
        whole = sym (take-append-drop n bytes);
        after_is = sym (ap (λ (z : List ℕ × Input). z.1) is) ∙ ap (λ (k : ℕ). input (p + k) (drop n bytes)) (sym long);
      }
]

run_short_is : (n p : ℕ) (bytes : List ℕ) → run_at n (input p bytes) ≡ Err Short → Begun (run n) bytes
run_short_is n p bytes e = record {
  value = bytes ++ replicate (n - length bytes) 0;
  more = replicate (n - length bytes) 0;
  whole = (
    elim (cases_lt (length bytes) n) [
      | inl lt ↦ omega (arith, length-append bytes (replicate (n - length bytes) 0), length-replicate {A = ℕ} (n - length bytes) 0)
      | inr le ↦ absurd (no_ok Short _ (sym (run_whole n p bytes le) ∙ e))
    ],
    refl,
  );
}

run_no_fault : (n p : ℕ) (bytes : List ℕ) (q c : ℕ) → run_at n (input p bytes) ≡ Err (Bad q c) → Faulty (run_at n) p bytes q c
run_no_fault n p bytes q c e = elim (cases_lt (length bytes) n) [
  | inl lt ↦ absurd (short_not_bad q c (sym (run_short n p bytes lt) ∙ e))
  | inr le ↦ absurd (no_ok (Bad q c) _ (sym (run_whole n p bytes le) ∙ e))
]

pub run_codec : (n : ℕ) → IsCodec (run n) (run_at n)
run_codec n = record {
  one = replicate n 0;
  one_text = replicate n 0;
  one_spelled = (length-replicate {A = ℕ} n 0, refl);
  found = run_found n;
  again = λ p text more v spelled. subst (λ (l : List ℕ). run_at n (input p (l ++ more)) ≡ Ok (v, input (p + length l) more)) (sym spelled.1) (run_again n p v more spelled.0);
  short = run_short_is n;
  faulty = run_no_fault n;
}

-- ---- a number, and what it says

abbrev pub field : {A : Type 0} → ℕ → (ℕ → Result A ℕ) → A → List ℕ → Type 0
field w meaning a bytes = (n : ℕ) × (meaning n ≡ Ok a) × number w n bytes

-- how a field that is cut off may go on
pub record Completed {A : Type 0} (w : ℕ) (meaning : ℕ → Result A ℕ) (front : List ℕ) : Type 0 where
  pub more : List ℕ
  pub long : length (front ++ more) ≡ w
  pub value : A
  pub means : meaning (little_number w (front ++ more)) ≡ Ok value

pub record IsField {A : Type 0} (w : ℕ) (meaning : ℕ → Result A ℕ) : Type 0 where
  pub some : zero < w
  pub completes : (front : List ℕ) → length front < w → Completed w meaning front
  pub refuses : (n code : ℕ) → meaning n ≡ Err code → IsRefused code w

field_short : {A : Type 0} (w : ℕ) (meaning : ℕ → Result A ℕ) (p : ℕ) (bytes : List ℕ) → length bytes < w → field_at w meaning (input p bytes) ≡ Err Short
field_short w meaning p bytes lt = rw (run_short w p bytes lt) refl

field_whole : {A : Type 0} (w : ℕ) (meaning : ℕ → Result A ℕ) (p : ℕ) (bytes : List ℕ) → w ≤ length bytes
    → field_at w meaning (input p bytes) ≡ judged (meaning (little_number w (take w bytes))) p (input (p + w) (drop w bytes))
field_whole w meaning p bytes le = rw (run_whole w p bytes le) refl

pub judged_ok : {A : Type 0} (m : Result A ℕ) (p : ℕ) (i : Input) (a : A) (after : Input) → judged m p i ≡ Ok (a, after) → (m ≡ Ok a) × (i ≡ after)
judged_ok {A = A} (Ok b) p i a after e =
    let is = ok_is (b, i) (a, after) e in
    (ap (λ (z : A × Input). Ok z.0) is, ap (λ (z : A × Input). z.1) is)
judged_ok (Err c) p i a after e = absurd cc

pub judged_bad : {A : Type 0} (m : Result A ℕ) (p : ℕ) (i : Input) (q c : ℕ) → judged m p i ≡ Err (Bad q c) → (m ≡ Err c) × (p ≡ q)
judged_bad (Ok b) p i q c e = absurd cc
judged_bad (Err d) p i q c e = (cc, cc)

pub judged_not_short : {A : Type 0} (m : Result A ℕ) (p : ℕ) (i : Input) → judged m p i ≡ Err Short → ⊥
judged_not_short (Ok b) p i e = cc
judged_not_short (Err d) p i e = cc

field_again : {A : Type 0} (w : ℕ) (meaning : ℕ → Result A ℕ) (p n : ℕ) (text more : List ℕ) (a : A) → meaning n ≡ Ok a → number w n text
    → field_at w meaning (input p (text ++ more)) ≡ Ok (a, input (p + length text) more)
field_again w meaning p n text more a means is =
    let said : meaning (little_number w text) ≡ Ok a = ap meaning is.1 ∙ means in
    rw (run_again w p text more is.0, said) refl

field_found : {A : Type 0} (w : ℕ) (meaning : ℕ → Result A ℕ) (p : ℕ) (bytes : List ℕ) (a : A) (after : Input) → field_at w meaning (input p bytes) ≡ Ok (a, after) → Took (field w meaning) p bytes a after
field_found w meaning p bytes a after e = elim (cases_lt (length bytes) w) [
  | inl lt ↦ absurd (no_ok _ (a, after) (sym e ∙ field_short w meaning p bytes lt))
  | inr le ↦
      let j = judged_ok (meaning (little_number w (take w bytes))) p (input (p + w) (drop w bytes)) a after (sym (field_whole w meaning p bytes le) ∙ e) in
      let long : length (take w bytes) ≡ w = omega (arith, length-take w bytes) in
      record {
        text = take w bytes;
        rest = drop w bytes;
        spelled = (little_number w (take w bytes), j.0, (long, refl));
        whole = sym (take-append-drop w bytes);
        after_is = sym j.1 ∙ ap (λ (k : ℕ). input (p + k) (drop w bytes)) (sym long);
      }
]

field_short_is : {A : Type 0} (w : ℕ) (meaning : ℕ → Result A ℕ) → IsField w meaning → (p : ℕ) (bytes : List ℕ) → field_at w meaning (input p bytes) ≡ Err Short → Begun (field w meaning) bytes
field_short_is w meaning rules p bytes e = elim (cases_lt (length bytes) w) [
  | inl lt ↦
      let c = rules.completes bytes lt in
      record { value = c.value; more = c.more; whole = (little_number w (bytes ++ c.more), c.means, (c.long, refl)) }
  | inr le ↦ absurd (judged_not_short _ p _ (sym (field_whole w meaning p bytes le) ∙ e))
]

field_breaks : {A : Type 0} (w : ℕ) (meaning : ℕ → Result A ℕ) (p : ℕ) (bytes more : List ℕ) (q c : ℕ) → w ≤ length bytes → meaning (little_number w (take w bytes)) ≡ Err c → p ≡ q
    → field_at w meaning (input p (take (0 + w) bytes ++ more)) ≡ Err (Bad q c)
field_breaks w meaning p bytes more q c le means is =
    let zero_more : 0 + w ≡ w = omega arith in
    let long : length (take w bytes) ≡ w = omega (arith, length-take w bytes) in
    ap (λ (k : ℕ). field_at w meaning (input p (take k bytes ++ more))) zero_more ∙ rw (run_again w p (take w bytes) more long, means) (ap (λ (k : ℕ). Err (Bad k c)) is)

field_faulty : {A : Type 0} (w : ℕ) (meaning : ℕ → Result A ℕ) → IsField w meaning → (p : ℕ) (bytes : List ℕ) (q c : ℕ) → field_at w meaning (input p bytes) ≡ Err (Bad q c) → Faulty (field_at w meaning) p bytes q c
field_faulty w meaning rules p bytes q c e = elim (cases_lt (length bytes) w) [
  | inl lt ↦ absurd (short_not_bad q c (sym (field_short w meaning p bytes lt) ∙ e))
  | inr le ↦
      let j = judged_bad (meaning (little_number w (take w bytes))) p (input (p + w) (drop w bytes)) q c (sym (field_whole w meaning p bytes le) ∙ e) in
      record {
        start = 0;
        width = w;
        where_is = sym j.1 ∙ omega arith;
        refused = rules.refuses (little_number w (take w bytes)) c j.0;
        within = omega arith;
        begins = λ n lt. field_short w meaning p (take n bytes) (omega (arith, length-take n bytes));
        breaks = λ more. field_breaks w meaning p bytes more q c le j.0 j.1;
      }
]

pub field_codec : {A : Type 0} (w : ℕ) (meaning : ℕ → Result A ℕ) → IsField w meaning → IsCodec (field w meaning) (field_at w meaning)
field_codec w meaning rules = record {
  one = (rules.completes [] (omega (arith, rules.some))).value;
  one_text = (rules.completes [] (omega (arith, rules.some))).more;
  one_spelled = let c = rules.completes [] (omega (arith, rules.some)) in (little_number w c.more, c.means, (c.long, refl));
  found = field_found w meaning;
  again = λ p text more a spelled. field_again w meaning p spelled.0 text more a spelled.1 spelled.2;
  short = field_short_is w meaning rules;
  faulty = field_faulty w meaning rules;
}

-- without the way in which a field that is cut off may go on
pub field_reads : {A : Type 0} (w : ℕ) (meaning : ℕ → Result A ℕ) → IsField w meaning → Reads (field w meaning) (λ bytes. length bytes < w) (field_at w meaning)
field_reads w meaning rules = record {
  found = field_found w meaning;
  again = λ p text more a spelled. field_again w meaning p spelled.0 text more a spelled.1 spelled.2;
  short = λ p bytes e. elim (cases_lt (length bytes) w) [
    | inl lt ↦ lt
    | inr le ↦ absurd (judged_not_short _ p _ (sym (field_whole w meaning p bytes le) ∙ e))
  ];
  faulty = field_faulty w meaning rules;
}

-- ---- any number

pub number_field : (w : ℕ) → zero < w → IsField w any
number_field w some = record {
  some = some;
  completes = λ front lt. record {
    more = replicate (w - length front) 0;
    long = omega (arith, length-append front (replicate (w - length front) 0), length-replicate {A = ℕ} (w - length front) 0);
    value = little_number w (front ++ replicate (w - length front) 0);
    means = refl;
  };
  refuses = λ n code e. absurd cc;
}

pub number_codec : (w : ℕ) → zero < w → IsCodec (number w) (number_at w)
number_codec w some = same (field w any) (number w) (number_at w) (λ n bytes s. (s.2.0, s.2.1 ∙ ok_nat s.0 n s.1)) (λ n bytes s. (n, refl, s)) (field_codec w any (number_field w some))
