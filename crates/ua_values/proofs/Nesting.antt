-- Readers of values that hold others: what ends early is said field by field.
use Rattle.std.proofs.Common.{◌≡◌, ℕ, zero, suc, ◌+◌, ◌^◌, ◌≤◌, ◌<◌, Bool, true, false, List, [], ◌∷◌, ◌++◌, length, take, drop, Result, Ok, Err, refl, sym, ap, subst, ◌∙◌, arith, inl, inr}
use Rattle.std.proofs.lemmas.List.{append-nil, length-append, take-append-le}
use Rattle.std.proofs.Math.Seq.{take-append_seam}
use Rattle.ua_values.specs.Limits.{most_items}
use Rattle.ua_values.specs.Reading.{Input, input, Reader, Fault, Short, Bad, passed, ◌>>=◌, give, judged, field_at}
use Rattle.ua_values.specs.Parts.{number, optional, Chained, CutAfter, ChainCut, array_within, array, elements_cut, array_cut, optional_cut, IsRefused}
use Rattle.ua_values.specs.Codec.{Took, Faulty, Reads}
use Rattle.ua_values.specs.Readers.{count_of, elements_at, array_within_at, array_at, optional_at, refused_at, checked_at}
use Rattle.ua_values.proofs.Chain.{reads_on, reads_as, cut_front}
use Rattle.ua_values.proofs.Leaves.{no_ok, short_not_bad, judged_ok, judged_bad, judged_not_short, given, give_codec, field, field_reads}
use Rattle.ua_values.proofs.Fields.{Mapped, MadeOf}
use Rattle.ua_values.proofs.Arrays.{CountSays, count_says, Elements, some_to, some_from, none_from, array_of_chained, array_from, count_field}

-- ---- nothing is read

pub give_reads : {A : Type 0} (a : A) → Reads (given a) (λ bytes. ⊥) (give a)
give_reads a =
    let codec = give_codec a in
    record { found = codec.found; again = codec.again; short = λ p bytes e. absurd cc; faulty = codec.faulty }

-- ---- a value that is refused before its first byte

bad_is : {A : Type 0} (p q c d : ℕ) → ◌≡◌ {A = Result A Fault} (Err (Bad p c)) (Err (Bad q d)) → (p ≡ q) × (c ≡ d)
bad_is p q c d e = (cc, cc)

refused_faulty : {A : Type 0} (code : ℕ) → IsRefused code 0 → (p : ℕ) (bytes : List ℕ) (q c : ℕ) → refused_at {A = A} code (input p bytes) ≡ Err (Bad q c) → Faulty (refused_at {A = A} code) p bytes q c
refused_faulty {A = A} code rule p bytes q c e =
    let is = bad_is {A = A × Input} p q code c e in
    record {
      start = 0;
      width = 0;
      where_is = sym is.0 ∙ omega arith;
      refused = subst (λ (k : ℕ). IsRefused k 0) is.1 rule;
      within = omega arith;
      begins = λ n lt. absurd (omega (arith, lt));
      breaks = λ more. e;
    }

pub refused_reads : {A : Type 0} (code : ℕ) → IsRefused code 0 → Reads (λ (a : A) (bytes : List ℕ). ⊥) (λ bytes. ⊥) (refused_at code)
refused_reads {A = A} code rule = record {
  found = λ p bytes a after e. absurd (no_ok (Bad p code) (a, after) (sym e));
  again = λ p text more a spelled. absurd spelled;
  short = λ p bytes e. absurd (short_not_bad {A = A × Input} p code (sym e));
  faulty = refused_faulty code rule;
}

-- ---- a value that is made of another, or of two

-- nothing follows
alone : (bytes front back : List ℕ) → bytes ≡ front ++ back → back ≡ [] → front ≡ bytes
alone bytes front back whole none = sym (whole ∙ ap (λ (l : List ℕ). front ++ l) none ∙ append-nil front)

mapped_cut : {A : Type 0} (S : A → List ℕ → Type 0) (C : List ℕ → Type 0) (bytes : List ℕ) → ChainCut S C (λ (a : A) rest. ⊥) bytes → C bytes
mapped_cut S C bytes (inl cut) = cut
mapped_cut S C bytes (inr after) = absurd after.second

pub reads_mapped : {A B : Type 0} (S : A → List ℕ → Type 0) (C : List ℕ → Type 0) (at : Reader A) (make : A → B) → Reads S C at → Reads (Mapped S make) C (at >>= λ a. give (make a))
reads_mapped {A = A} S C at make reader =
    reads_as (Chained S (λ a. given (make a))) (Mapped S make) (ChainCut S C (λ (a : A) bytes. ⊥)) C (at >>= λ a. give (make a))
    (λ b bytes c. (c.value, c.parts.second.0, subst (λ (l : List ℕ). S c.value l) (alone bytes c.parts.front c.parts.back c.parts.whole c.parts.second.1) c.parts.first))
    (λ b bytes m. record { value = m.0; parts = record { front = bytes; back = []; first = m.2; second = (m.1, refl); whole = sym (append-nil bytes) } })
    (λ bytes. mapped_cut S C bytes)
    (reads_on S C at (λ a. given (make a)) (λ a bytes. ⊥) (λ a. give (make a)) reader (λ a. give_reads (make a)))

pub reads_made_of : {A B C : Type 0} (S : A → List ℕ → Type 0) (X : List ℕ → Type 0) (at : Reader A) (T : B → List ℕ → Type 0) (Y : List ℕ → Type 0) (next : Reader B) (make : A → B → C)
    → Reads S X at → Reads T Y next → Reads (MadeOf S T make) (ChainCut S X (λ a. Y)) (at >>= λ a. next >>= λ b. give (make a b))
reads_made_of {A = A} S X at T Y next make first second =
    reads_as (Chained S (λ a. Mapped T (make a))) (MadeOf S T make) (ChainCut S X (λ (a : A). Y)) (ChainCut S X (λ (a : A). Y)) (at >>= λ a. next >>= λ b. give (make a b))
    (λ c bytes h. (h.value, h.parts.second.0, h.parts.second.1, record { front = h.parts.front; back = h.parts.back; first = h.parts.first; second = h.parts.second.2; whole = h.parts.whole }))
    (λ c bytes m. record { value = m.0; parts = record { front = m.3.front; back = m.3.back; first = m.3.first; second = (m.1, m.2, m.3.second); whole = m.3.whole } })
    (λ bytes cut. cut)
    (reads_on S X at (λ a. Mapped T (make a)) (λ a. Y) (λ a. next >>= λ b. give (make a b)) first (λ a. reads_mapped T Y next (make a) second))

-- ---- a field that may be left out

pub reads_optional : {A : Type 0} (S : A → List ℕ → Type 0) (C : List ℕ → Type 0) (at : Reader A) (blank : A) (is_there : Bool) → Reads S C at
    → Reads (optional is_there blank S) (optional_cut is_there C) (optional_at is_there blank at)
reads_optional S C at blank true reader = reader
reads_optional S C at blank false reader = give_reads blank

-- ---- arrays

pub elements_reads : {A : Type 0} (S : A → List ℕ → Type 0) (C : List ℕ → Type 0) (at : Reader A) (n : ℕ) → Reads S C at → Reads (Elements S n) (elements_cut S C n) (elements_at n at)
elements_reads {A = A} S C at zero reader =
    reads_as (given []) (Elements S 0) (λ bytes. ⊥) (λ bytes. ⊥) (give []) (λ items bytes g. subst (λ (l : List A). Elements S 0 l bytes) (sym g.0) (refl, g.1)) (none_from S) (λ bytes cut. cut) (give_reads [])
elements_reads {A = A} S C at (suc n) reader =
    reads_as (MadeOf S (Elements S n) ◌∷◌) (Elements S (suc n)) (ChainCut S C (λ (a : A). elements_cut S C n)) (elements_cut S C (suc n)) (elements_at (suc n) at) (some_to S n) (some_from S n) (λ bytes cut. cut)
    (reads_made_of S C at (Elements S n) (elements_cut S C n) (elements_at n at) ◌∷◌ reader (elements_reads S C at n reader))

-- none is read after a negative length
after_count : {A : Type 0} (most : ℕ) (S : A → List ℕ → Type 0) (C : List ℕ → Type 0) (bytes : List ℕ) (after : CutAfter (field 4 (count_of most)) (λ n. elements_cut S C n) bytes)
    → CountSays most after.first.0 after.value → CutAfter (λ n front. (n ≤ most) × number 4 n front) (λ n. elements_cut S C n) bytes
after_count most S C bytes after (inl none) = absurd (subst (λ (n : ℕ). elements_cut S C n after.back) none.0 after.second)
after_count most S C bytes after (inr some) =
    record { value = after.value; front = after.front; back = after.back; first = (some.1, subst (λ (n : ℕ). number 4 n after.front) some.0 after.first.2); second = after.second; whole = after.whole }

counted_cut : {A : Type 0} (most : ℕ) (S : A → List ℕ → Type 0) (C : List ℕ → Type 0) (bytes : List ℕ)
    → ChainCut (field 4 (count_of most)) (λ front. length front < 4) (λ n. elements_cut S C n) bytes → array_cut most S C bytes
counted_cut most S C bytes (inl short) = inl short
counted_cut most S C bytes (inr after) = inr (after_count most S C bytes after (count_says _ _ most after.first.0 after.value refl refl after.first.1))

pub array_reads : {A : Type 0} (most : ℕ) → most < 2 ^ 31 → (S : A → List ℕ → Type 0) (C : List ℕ → Type 0) (at : Reader A) → Reads S C at → Reads (array_within most S) (array_cut most S C) (array_within_at most at)
array_reads most small S C at reader =
    reads_as (Chained (field 4 (count_of most)) (Elements S)) (array_within most S) (ChainCut (field 4 (count_of most)) (λ front. length front < 4) (λ n. elements_cut S C n)) (array_cut most S C) (array_within_at most at)
    (array_of_chained most S)
    (array_from most small S)
    (counted_cut most S C)
    (reads_on (field 4 (count_of most)) (λ front. length front < 4) (field_at 4 (count_of most)) (Elements S) (λ n. elements_cut S C n) (λ n. elements_at n at) (field_reads 4 (count_of most) (count_field most)) (λ n. elements_reads S C at n reader))

-- an array of as many elements as any may have
pub list_reads : {A : Type 0} (S : A → List ℕ → Type 0) (C : List ℕ → Type 0) (at : Reader A) → Reads S C at → Reads (array S) (array_cut most_items S C) (array_at at)
list_reads S C at reader = array_reads most_items (omega arith) S C at reader

-- ---- what is judged as a whole

-- spelled, and taken as what it says
abbrev pub Checked : {A B : Type 0} → (A → List ℕ → Type 0) → (A → Result B ℕ) → B → List ℕ → Type 0
Checked {A = A} S meaning b bytes = (a : A) × (meaning a ≡ Ok b) × S a bytes

checked_ok : {A B : Type 0} (at : Reader A) (meaning : A → Result B ℕ) (p : ℕ) (bytes : List ℕ) (a : A) (after : Input) (b : B) → at (input p bytes) ≡ Ok (a, after) → meaning a ≡ Ok b → checked_at at meaning (input p bytes) ≡ Ok (b, after)
checked_ok at meaning p bytes a after b e m = rw (e, m) refl

checked_bad : {A B : Type 0} (at : Reader A) (meaning : A → Result B ℕ) (p : ℕ) (bytes : List ℕ) (a : A) (after : Input) (c : ℕ) → at (input p bytes) ≡ Ok (a, after) → meaning a ≡ Err c → checked_at at meaning (input p bytes) ≡ Err (Bad p c)
checked_bad at meaning p bytes a after c e m = rw (e, m) refl

checked_err : {A B : Type 0} (at : Reader A) (meaning : A → Result B ℕ) (p : ℕ) (bytes : List ℕ) (f : Fault) → at (input p bytes) ≡ Err f → checked_at at meaning (input p bytes) ≡ Err f
checked_err at meaning p bytes f e = rw e refl

checked_found : {A B : Type 0} (S : A → List ℕ → Type 0) (C : List ℕ → Type 0) (at : Reader A) (meaning : A → Result B ℕ) → Reads S C at → (p : ℕ) (bytes : List ℕ) (b : B) (after : Input) (r : Result (A × Input) Fault)
    → at (input p bytes) ≡ r → passed r (λ a. judged (meaning a) p) ≡ Ok (b, after) → Took (Checked S meaning) p bytes b after
checked_found S C at meaning reader p bytes b after (Ok x) e h =
    let t = reader.found p bytes x.0 x.1 e in
    let j = judged_ok (meaning x.0) p x.1 b after h in
    record { text = t.text; rest = t.rest; spelled = (x.0, j.0, t.spelled); whole = t.whole; after_is = sym j.1 ∙ t.after_is }
checked_found S C at meaning reader p bytes b after (Err f) e h = absurd cc

checked_short : {A B : Type 0} (S : A → List ℕ → Type 0) (C : List ℕ → Type 0) (at : Reader A) (meaning : A → Result B ℕ) → Reads S C at → (p : ℕ) (bytes : List ℕ) (r : Result (A × Input) Fault)
    → at (input p bytes) ≡ r → passed r (λ a. judged (meaning a) p) ≡ Err Short → C bytes
checked_short S C at meaning reader p bytes (Ok x) e h = absurd (judged_not_short (meaning x.0) p x.1 h)
checked_short S C at meaning reader p bytes (Err Short) e h = reader.short p bytes e
checked_short S C at meaning reader p bytes (Err (Bad q c)) e h = absurd cc

-- a proper front of bytes that are spelled and go on
short_front : {A : Type 0} (S : A → List ℕ → Type 0) (C : List ℕ → Type 0) (at : Reader A) → Reads S C at → (a : A) (p n : ℕ) (text rest bytes : List ℕ) → S a text → bytes ≡ text ++ rest → n < length text
    → at (input p (take n bytes)) ≡ Err Short
short_front S C at reader a p n text rest bytes spelled whole lt =
    ap (λ (l : List ℕ). at (input p (take n l))) whole ∙ ap (λ (l : List ℕ). at (input p l)) (take-append-le n text rest (omega arith)) ∙ cut_front S at reader a p n text (drop n text) spelled refl lt

checked_faulty : {A B : Type 0} (S : A → List ℕ → Type 0) (C : List ℕ → Type 0) (at : Reader A) (meaning : A → Result B ℕ) → Reads S C at
    → ((a : A) (text : List ℕ) (code : ℕ) → S a text → meaning a ≡ Err code → IsRefused code (length text))
    → (p : ℕ) (bytes : List ℕ) (q c : ℕ) (r : Result (A × Input) Fault) → at (input p bytes) ≡ r → passed r (λ a. judged (meaning a) p) ≡ Err (Bad q c) → Faulty (checked_at at meaning) p bytes q c
checked_faulty S C at meaning reader rule p bytes q c (Ok x) e h =
    let t = reader.found p bytes x.0 x.1 e in
    let j = judged_bad (meaning x.0) p x.1 q c h in
    let long : length bytes ≡ length t.text + length t.rest = ap length t.whole ∙ length-append t.text t.rest in
    let seam : take (0 + length t.text) bytes ≡ t.text = ap (λ (k : ℕ). take k bytes) (omega arith) ∙ ap (λ (l : List ℕ). take (length t.text) l) t.whole ∙ take-append_seam t.text t.rest in
    record {
      start = 0;
      width = length t.text;
      where_is = sym j.1 ∙ omega arith;
      refused = rule x.0 t.text c t.spelled j.0;
      within = omega (arith, long);
      begins = λ n lt. checked_err at meaning p (take n bytes) Short (short_front S C at reader x.0 p n t.text t.rest bytes t.spelled t.whole (omega (arith, lt)));
      breaks = λ more. checked_bad at meaning p (take (0 + length t.text) bytes ++ more) x.0 (input (p + length t.text) more) c
          (ap (λ (l : List ℕ). at (input p (l ++ more))) seam ∙ reader.again p t.text more x.0 t.spelled) j.0 ∙ ap (λ (k : ℕ). Err (Bad k c)) j.1;
    }
checked_faulty S C at meaning reader rule p bytes q c (Err Short) e h = absurd cc
checked_faulty S C at meaning reader rule p bytes q c (Err (Bad q2 c2)) e h =
    let f = reader.faulty p bytes q c (e ∙ cc) in
    record {
      start = f.start;
      width = f.width;
      where_is = f.where_is;
      refused = f.refused;
      within = f.within;
      begins = λ n lt. checked_err at meaning p (take n bytes) Short (f.begins n lt);
      breaks = λ more. checked_err at meaning p (take (f.start + f.width) bytes ++ more) (Bad q c) (f.breaks more);
    }

pub checked_reads : {A B : Type 0} (S : A → List ℕ → Type 0) (C : List ℕ → Type 0) (at : Reader A) (meaning : A → Result B ℕ) → Reads S C at
    → ((a : A) (text : List ℕ) (code : ℕ) → S a text → meaning a ≡ Err code → IsRefused code (length text)) → Reads (Checked S meaning) C (checked_at at meaning)
checked_reads S C at meaning reader rule = record {
  found = λ p bytes b after e. checked_found S C at meaning reader p bytes b after (at (input p bytes)) refl e;
  again = λ p text more b spelled. checked_ok at meaning p (text ++ more) spelled.0 (input (p + length text) more) b (reader.again p text more spelled.0 spelled.2) spelled.1;
  short = λ p bytes e. checked_short S C at meaning reader p bytes (at (input p bytes)) refl e;
  faulty = λ p bytes q c e. checked_faulty S C at meaning reader rule p bytes q c (at (input p bytes)) refl e;
}
