-- Codecs one after the other.
use Rattle.std.proofs.Common.{◌≡◌, ℕ, ◌+◌, ◌-◌, ◌<◌, List, [], ◌∷◌, ◌++◌, length, take, drop, Result, Ok, Err, refl, sym, ap, subst, ◌∙◌, append_assoc, arith, inl, inr}
use Rattle.std.proofs.lemmas.Bool.{cases_lt}
use Rattle.std.proofs.Math.Seq.{take-append-add}
use Rattle.std.proofs.lemmas.List.{append-nil, take-append-drop, length-append, length-take, take-append-le}
use Rattle.ua_values.specs.Reading.{Input, input, Reader, Fault, Short, Bad, passed, ◌>>=◌}
use Rattle.ua_values.specs.Parts.{Chained, Begun, ChainCut}
use Rattle.ua_values.specs.Codec.{Took, Faulty, Reads, IsCodec}

abbrev done : {A : Type 0} → A → Result A Fault
done x = Ok x

failed : {A : Type 0} (x : A) (f : Fault) → ◌≡◌ {A = Result A Fault} (Ok x) (Err f) → ⊥
failed x f e = absurd cc

pub ok_is : {A : Type 0} (x y : A) → done x ≡ done y → x ≡ y
ok_is x y e = cc

abbrev Answer : Type 0 → Type 0
Answer A = Result (A × Input) Fault

-- ---- what one codec says of fronts

not_empty : (a ys : List ℕ) (y : ℕ) → a ++ y ∷ ys ≡ [] → ⊥
not_empty [] ys y e = absurd cc
not_empty (x ∷ a) ys y e = absurd cc

cut_by : {A : Type 0} {C : List ℕ → Type 0} (S : A → List ℕ → Type 0) (at : Reader A) → Reads S C at → (a : A) (p : ℕ) (x : List ℕ) (y : ℕ) (ys : List ℕ) → S a (x ++ y ∷ ys)
    → (r : Answer A) → at (input p x) ≡ r → at (input p x) ≡ Err Short
cut_by {A = A} S at codec a p x y ys spelled (Ok b) e =
    let t = codec.found p x b.0 b.1 e in
    let first : at (input p (t.text ++ (t.rest ++ y ∷ ys))) ≡ Ok (b.0, input (p + length t.text) (t.rest ++ y ∷ ys)) = codec.again p t.text (t.rest ++ y ∷ ys) b.0 t.spelled in
    let second : at (input p ((x ++ y ∷ ys) ++ [])) ≡ Ok (a, input (p + length (x ++ y ∷ ys)) []) = codec.again p (x ++ y ∷ ys) [] a spelled in
    let joined : t.text ++ (t.rest ++ y ∷ ys) ≡ (x ++ y ∷ ys) ++ [] = sym (append_assoc t.text t.rest (y ∷ ys)) ∙ ap (λ (l : List ℕ). l ++ y ∷ ys) (sym t.whole) ∙ sym (append-nil (x ++ y ∷ ys)) in
    let joins : done (b.0, input (p + length t.text) (t.rest ++ y ∷ ys)) ≡ done (a, input (p + length (x ++ y ∷ ys)) []) = sym first ∙ ap (λ (l : List ℕ). at (input p l)) joined ∙ second in
    let ends : t.rest ++ y ∷ ys ≡ [] = ap (λ (z : A × Input). z.1.rest) (ok_is _ _ joins) in
    absurd (not_empty t.rest ys y ends)
cut_by S at codec a p x y ys spelled (Err Short) e = e
cut_by S at codec a p x y ys spelled (Err (Bad q c)) e =
    let f = codec.faulty p x q c e in
    let n = f.start + f.width in
    let joined : take n x ++ (drop n x ++ y ∷ ys) ≡ (x ++ y ∷ ys) ++ [] = sym (append_assoc (take n x) (drop n x) (y ∷ ys)) ∙ ap (λ (l : List ℕ). l ++ y ∷ ys) (take-append-drop n x) ∙ sym (append-nil (x ++ y ∷ ys)) in
    let wrong : at (input p (take n x ++ (drop n x ++ y ∷ ys))) ≡ Err (Bad q c) = f.breaks (drop n x ++ y ∷ ys) in
    let right : at (input p ((x ++ y ∷ ys) ++ [])) ≡ Ok (a, input (p + length (x ++ y ∷ ys)) []) = codec.again p (x ++ y ∷ ys) [] a spelled in
    absurd (failed _ _ (sym right ∙ ap (λ (l : List ℕ). at (input p l)) (sym joined) ∙ wrong))

-- a proper front of a spelling is short
pub is_cut : {A : Type 0} {C : List ℕ → Type 0} (S : A → List ℕ → Type 0) (at : Reader A) → Reads S C at → (a : A) (p : ℕ) (x : List ℕ) (y : ℕ) (ys : List ℕ) → S a (x ++ y ∷ ys) → at (input p x) ≡ Err Short
is_cut S at codec a p x y ys spelled = cut_by S at codec a p x y ys spelled (at (input p x)) refl

-- no spelling is a proper front of another
pub is_apart : {A : Type 0} {C : List ℕ → Type 0} (S : A → List ℕ → Type 0) (at : Reader A) → Reads S C at → (a b : A) (x y : List ℕ) → S a x → S b (x ++ y) → (y ≡ []) × (a ≡ b)
is_apart {A = A} S at codec a b x y first second =
    let one : at (input 0 (x ++ y)) ≡ Ok (a, input (0 + length x) y) = codec.again 0 x y a first in
    let two : at (input 0 ((x ++ y) ++ [])) ≡ Ok (b, input (0 + length (x ++ y)) []) = codec.again 0 (x ++ y) [] b second in
    let same = ok_is _ _ (sym one ∙ ap (λ (l : List ℕ). at (input 0 l)) (sym (append-nil (x ++ y))) ∙ two) in
    (ap (λ (z : A × Input). z.1.rest) same, ap (λ (z : A × Input). z.0) same)

-- ---- other words for the same spellings

took_as : {A : Type 0} (S T : A → List ℕ → Type 0) → ((a : A) (bytes : List ℕ) → S a bytes → T a bytes) → (p : ℕ) (bytes : List ℕ) (a : A) (after : Input) → Took S p bytes a after → Took T p bytes a after
took_as S T to p bytes a after t = record { text = t.text; rest = t.rest; spelled = to a t.text t.spelled; whole = t.whole; after_is = t.after_is }

pub same : {A : Type 0} (S T : A → List ℕ → Type 0) (at : Reader A) → ((a : A) (bytes : List ℕ) → S a bytes → T a bytes) → ((a : A) (bytes : List ℕ) → T a bytes → S a bytes)
    → IsCodec S at → IsCodec T at
same S T at to from codec = record {
  one = codec.one;
  one_text = codec.one_text;
  one_spelled = to codec.one codec.one_text codec.one_spelled;
  found = λ place bytes a after e. took_as S T to place bytes a after (codec.found place bytes a after e);
  again = λ place text more a spelled. codec.again place text more a (from a text spelled);
  short = λ place bytes e. let b = codec.short place bytes e in record { value = b.value; more = b.more; whole = to b.value (bytes ++ b.more) b.whole };
  faulty = codec.faulty;
}

-- ---- one after the other

pub cut_front : {A : Type 0} {C : List ℕ → Type 0} (S : A → List ℕ → Type 0) (at : Reader A) → Reads S C at → (a : A) (p n : ℕ) (text left : List ℕ) → S a text → drop n text ≡ left → n < length text → at (input p (take n text)) ≡ Err Short
cut_front S at codec a p n text [] spelled is lt =
    let long : length (take n text ++ []) ≡ length text = ap length (ap (λ (l : List ℕ). take n text ++ l) (sym is) ∙ take-append-drop n text) in
    absurd (omega (arith, long, length-append (take n text) [], length-take n text))
cut_front S at codec a p n text (y ∷ ys) spelled is lt =
    is_cut S at codec a p (take n text) y ys (subst (λ (l : List ℕ). S a l) (sym (take-append-drop n text) ∙ ap (λ (l : List ℕ). take n text ++ l) is) spelled)

pub chained : {A B : Type 0} (S : A → List ℕ → Type 0) (T : A → B → List ℕ → Type 0) (a : A) (b : B) (x y : List ℕ) → S a x → T a b y → Chained S T b (x ++ y)
chained S T a b x y first second = record { value = a; parts = record { front = x; back = y; first = first; second = second; whole = refl } }

found_by : {A B : Type 0} {C : List ℕ → Type 0} {D : A → List ℕ → Type 0} (S : A → List ℕ → Type 0) (at : Reader A) (T : A → B → List ℕ → Type 0) (next : A → Reader B) → Reads S C at → ((a : A) → Reads (T a) (D a) (next a))
    → (p : ℕ) (bytes : List ℕ) (b : B) (after : Input) (r : Answer A) → at (input p bytes) ≡ r → passed r next ≡ Ok (b, after) → Took (Chained S T) p bytes b after
found_by {A = A} {B = B} S at T next first second p bytes b after (Ok x) e h =
    let t = first.found p bytes x.0 x.1 e in
    let there : next x.0 (input (p + length t.text) t.rest) ≡ Ok (b, after) = ap (λ (i : Input). next x.0 i) (sym t.after_is) ∙ h in
    let u = (second x.0).found (p + length t.text) t.rest b after there in
    let places : p + length t.text + length u.text ≡ p + length (t.text ++ u.text) = omega (arith, length-append t.text u.text) in
    record {
      text = t.text ++ u.text;
      rest = u.rest;
      spelled = chained S T x.0 b t.text u.text t.spelled u.spelled;
      whole = t.whole ∙ ap (λ (l : List ℕ). t.text ++ l) u.whole ∙ sym (append_assoc t.text u.text u.rest);
      after_is = u.after_is ∙ ap (λ (n : ℕ). input n u.rest) places;
    }
found_by S at T next first second p bytes b after (Err f) e h = absurd cc

again_by : {A B : Type 0} {C : List ℕ → Type 0} {D : A → List ℕ → Type 0} (S : A → List ℕ → Type 0) (at : Reader A) (T : A → B → List ℕ → Type 0) (next : A → Reader B) → Reads S C at → ((a : A) → Reads (T a) (D a) (next a))
    → (p : ℕ) (text more : List ℕ) (b : B) → Chained S T b text → (at >>= next) (input p (text ++ more)) ≡ Ok (b, input (p + length text) more)
again_by S at T next first second p text more b chain =
    let front = chain.parts.front in
    let back = chain.parts.back in
    let joined : text ++ more ≡ front ++ (back ++ more) = ap (λ (l : List ℕ). l ++ more) chain.parts.whole ∙ append_assoc front back more in
    let one : at (input p (front ++ (back ++ more))) ≡ Ok (chain.value, input (p + length front) (back ++ more)) = first.again p front (back ++ more) chain.value chain.parts.first in
    let two : next chain.value (input (p + length front) (back ++ more)) ≡ Ok (b, input (p + length front + length back) more) = (second chain.value).again (p + length front) back more b chain.parts.second in
    let places : p + length front + length back ≡ p + length text = omega (arith, length-append front back, ap length chain.parts.whole) in
    ap (λ (l : List ℕ). (at >>= next) (input p l)) joined ∙ rw one two ∙ ap (λ (n : ℕ). Ok (b, input n more)) places

short_by : {A B : Type 0} (S : A → List ℕ → Type 0) (at : Reader A) (T : A → B → List ℕ → Type 0) (next : A → Reader B) → IsCodec S at → ((a : A) → IsCodec (T a) (next a))
    → (p : ℕ) (bytes : List ℕ) (r : Answer A) → at (input p bytes) ≡ r → passed r next ≡ Err Short → Begun (Chained S T) bytes
short_by S at T next first second p bytes (Ok x) e h =
    let t = first.found p bytes x.0 x.1 e in
    let there : next x.0 (input (p + length t.text) t.rest) ≡ Err Short = ap (λ (i : Input). next x.0 i) (sym t.after_is) ∙ h in
    let u = (second x.0).short (p + length t.text) t.rest there in
    let joined : t.text ++ (t.rest ++ u.more) ≡ bytes ++ u.more = sym (append_assoc t.text t.rest u.more) ∙ ap (λ (l : List ℕ). l ++ u.more) (sym t.whole) in
    record { value = u.value; more = u.more; whole = subst (λ (l : List ℕ). Chained S T u.value l) joined (chained S T x.0 u.value t.text (t.rest ++ u.more) t.spelled u.whole) }
short_by S at T next first second p bytes (Err Short) e h =
    let b = first.short p bytes e in
    let c = second b.value in
    record { value = c.one; more = b.more ++ c.one_text; whole = subst (λ (l : List ℕ). Chained S T c.one l) (append_assoc bytes b.more c.one_text) (chained S T b.value c.one (bytes ++ b.more) c.one_text b.whole c.one_spelled) }
short_by S at T next first second p bytes (Err (Bad q c)) e h = absurd cc

then_short : {A B : Type 0} (at : Reader A) (next : A → Reader B) (i : Input) → at i ≡ Err Short → (at >>= next) i ≡ Err Short
then_short at next i e = rw e refl

then_bad : {A B : Type 0} (at : Reader A) (next : A → Reader B) (i : Input) (q c : ℕ) → at i ≡ Err (Bad q c) → (at >>= next) i ≡ Err (Bad q c)
then_bad at next i q c e = rw e refl

then_ok : {A B : Type 0} (at : Reader A) (next : A → Reader B) (i j : Input) (a : A) (r : Answer B) → at i ≡ Ok (a, j) → next a j ≡ r → (at >>= next) i ≡ r
then_ok at next i j a r e h = rw e h

begins_by : {A B : Type 0} {C : List ℕ → Type 0} (S : A → List ℕ → Type 0) (at : Reader A) (next : A → Reader B) → Reads S C at → (a : A) (p : ℕ) (text rest : List ℕ) → S a text → (k : ℕ)
    → ((n : ℕ) → n < k → next a (input (p + length text) (take n rest)) ≡ Err Short) → (n : ℕ) → n < length text + k → (at >>= next) (input p (take n (text ++ rest))) ≡ Err Short
begins_by S at next codec a p text rest spelled k begins n lt = elim (cases_lt n (length text)) [
  | inl inside ↦
      let fronts : take n (text ++ rest) ≡ take n text = take-append-le n text rest (omega arith) in
      then_short at next (input p (take n (text ++ rest))) (ap (λ (l : List ℕ). at (input p l)) fronts ∙ cut_front S at codec a p n text (drop n text) spelled refl inside)
  | inr past ↦
      let split : n ≡ length text + (n - length text) = omega arith in
      let fronts : take n (text ++ rest) ≡ text ++ take (n - length text) rest = ap (λ (m : ℕ). take m (text ++ rest)) split ∙ take-append-add text rest (n - length text) in
      let one = codec.again p text (take (n - length text) rest) a spelled in
      then_ok at next (input p (take n (text ++ rest))) (input (p + length text) (take (n - length text) rest)) a (Err Short) (ap (λ (l : List ℕ). at (input p l)) fronts ∙ one) (begins (n - length text) (omega arith))
]

faulty_by : {A B : Type 0} {C : List ℕ → Type 0} {D : A → List ℕ → Type 0} (S : A → List ℕ → Type 0) (at : Reader A) (T : A → B → List ℕ → Type 0) (next : A → Reader B) → Reads S C at → ((a : A) → Reads (T a) (D a) (next a))
    → (p : ℕ) (bytes : List ℕ) (q c : ℕ) (r : Answer A) → at (input p bytes) ≡ r → passed r next ≡ Err (Bad q c) → Faulty (at >>= next) p bytes q c
faulty_by S at T next first second p bytes q c (Ok x) e h =
    let t = first.found p bytes x.0 x.1 e in
    let there : next x.0 (input (p + length t.text) t.rest) ≡ Err (Bad q c) = ap (λ (i : Input). next x.0 i) (sym t.after_is) ∙ h in
    let u = (second x.0).faulty (p + length t.text) t.rest q c there in
    let adds : length t.text + u.start + u.width ≡ length t.text + (u.start + u.width) = omega arith in
    let early = λ (n : ℕ) (lt : n < length t.text + (u.start + u.width)). begins_by S at next first x.0 p t.text t.rest t.spelled (u.start + u.width) u.begins n lt in
    record {
      start = length t.text + u.start;
      width = u.width;
      where_is = u.where_is ∙ omega arith;
      refused = u.refused;
      within = omega (arith, u.within, length-append t.text t.rest, ap length t.whole);
      begins = λ n lt. ap (λ (l : List ℕ). (at >>= next) (input p (take n l))) t.whole ∙ early n (omega arith);
      breaks = λ more.
          let fronts : take (length t.text + u.start + u.width) bytes ++ more ≡ t.text ++ (take (u.start + u.width) t.rest ++ more) =
          ap (λ (l : List ℕ). take (length t.text + u.start + u.width) l ++ more) t.whole ∙ ap (λ (m : ℕ). take m (t.text ++ t.rest) ++ more) adds
          ∙ ap (λ (l : List ℕ). l ++ more) (take-append-add t.text t.rest (u.start + u.width)) ∙ append_assoc t.text (take (u.start + u.width) t.rest) more in
          let one = first.again p t.text (take (u.start + u.width) t.rest ++ more) x.0 t.spelled in
          then_ok at next (input p (take (length t.text + u.start + u.width) bytes ++ more)) (input (p + length t.text) (take (u.start + u.width) t.rest ++ more)) x.0 (Err (Bad q c))
          (ap (λ (l : List ℕ). at (input p l)) fronts ∙ one) (u.breaks more);
    }
faulty_by S at T next first second p bytes q c (Err Short) e h = absurd cc
faulty_by S at T next first second p bytes q c (Err (Bad q2 c2)) e h =
    let here : at (input p bytes) ≡ Err (Bad q c) = e ∙ cc in
    let f = first.faulty p bytes q c here in
    record {
      start = f.start;
      width = f.width;
      where_is = f.where_is;
      refused = f.refused;
      within = f.within;
      begins = λ n lt. then_short at next (input p (take n bytes)) (f.begins n lt);
      breaks = λ more. then_bad at next (input p (take (f.start + f.width) bytes ++ more)) q c (f.breaks more);
    }

-- ---- a codec is a reader

pub reads : {A : Type 0} (S : A → List ℕ → Type 0) (at : Reader A) → IsCodec S at → Reads S (Begun S) at
reads S at codec = record { found = codec.found; again = codec.again; short = codec.short; faulty = codec.faulty }

cut_in : {A B : Type 0} (S : A → List ℕ → Type 0) (C : List ℕ → Type 0) (at : Reader A) (D : A → List ℕ → Type 0) (T : A → B → List ℕ → Type 0) (next : A → Reader B)
    → Reads S C at → ((a : A) → Reads (T a) (D a) (next a))
    → (p : ℕ) (bytes : List ℕ) (r : Answer A) → at (input p bytes) ≡ r → passed r next ≡ Err Short → ChainCut S C D bytes
cut_in S C at D T next first second p bytes (Ok x) e h =
    let t = first.found p bytes x.0 x.1 e in
    let there : next x.0 (input (p + length t.text) t.rest) ≡ Err Short = ap (λ (i : Input). next x.0 i) (sym t.after_is) ∙ h in
    inr (record { value = x.0; front = t.text; back = t.rest; first = t.spelled; second = (second x.0).short (p + length t.text) t.rest there; whole = t.whole })
cut_in S C at D T next first second p bytes (Err Short) e h = inl (first.short p bytes e)
cut_in S C at D T next first second p bytes (Err (Bad q c)) e h = absurd cc

-- what is read after a choice
pub reads_on : {A B : Type 0} (S : A → List ℕ → Type 0) (C : List ℕ → Type 0) (at : Reader A) (T : A → B → List ℕ → Type 0) (D : A → List ℕ → Type 0) (next : A → Reader B)
    → Reads S C at → ((a : A) → Reads (T a) (D a) (next a)) → Reads (Chained S T) (ChainCut S C D) (at >>= next)
reads_on S C at T D next first second = record {
  found = λ p bytes b after h. found_by S at T next first second p bytes b after (at (input p bytes)) refl h;
  again = again_by S at T next first second;
  short = λ p bytes h. cut_in S C at D T next first second p bytes (at (input p bytes)) refl h;
  faulty = λ p bytes q c h. faulty_by S at T next first second p bytes q c (at (input p bytes)) refl h;
}

-- the same bytes in other words
pub reads_as : {A : Type 0} (S T : A → List ℕ → Type 0) (C D : List ℕ → Type 0) (at : Reader A) → ((a : A) (bytes : List ℕ) → S a bytes → T a bytes) → ((a : A) (bytes : List ℕ) → T a bytes → S a bytes)
    → ((bytes : List ℕ) → C bytes → D bytes) → Reads S C at → Reads T D at
reads_as S T C D at to from cut reader = record {
  found = λ place bytes a after e. took_as S T to place bytes a after (reader.found place bytes a after e);
  again = λ place text more a spelled. reader.again place text more a (from a text spelled);
  short = λ place bytes e. cut bytes (reader.short place bytes e);
  faulty = reader.faulty;
}

pub chain : {A B : Type 0} (S : A → List ℕ → Type 0) (at : Reader A) (T : A → B → List ℕ → Type 0) (next : A → Reader B) → IsCodec S at → ((a : A) → IsCodec (T a) (next a))
    → IsCodec (Chained S T) (at >>= next)
chain S at T next first second = record {
  one = (second first.one).one;
  one_text = first.one_text ++ (second first.one).one_text;
  one_spelled = chained S T first.one (second first.one).one first.one_text (second first.one).one_text first.one_spelled (second first.one).one_spelled;
  found = λ p bytes b after h. found_by S at T next (reads S at first) (λ a. reads (T a) (next a) (second a)) p bytes b after (at (input p bytes)) refl h;
  again = again_by S at T next (reads S at first) (λ a. reads (T a) (next a) (second a));
  short = λ p bytes h. short_by S at T next first second p bytes (at (input p bytes)) refl h;
  faulty = λ p bytes q c h. faulty_by S at T next (reads S at first) (λ a. reads (T a) (next a) (second a)) p bytes q c (at (input p bytes)) refl h;
}
