-- The bodies of HEL, ACK, ERR and OPN are read exactly as they are spelled.
use Rattle.std.proofs.Common.{◌≡◌, ℕ, List, [], ◌∷◌, ◌++◌, length, take, drop, Option, Result, Ok, Err, inl, inr, refl, sym, ap, subst, ◌∙◌, arith}
use Rattle.std.proofs.lemmas.List.{append-nil, length-append, take_at, drop_at}
use Rattle.ua_values.specs.declared.fault.ValueFault.{ValueFault}
use Rattle.ua_values.specs.declared.fault.ValueFault.TheVariants as faults
use Rattle.ua_values.specs.Reading.{Input, input, Reader, Fault, Short, Bad, Gives, ◌>>=◌, give, number_at, passed, sized}
use Rattle.ua_values.specs.Readers.{text_at}
use Rattle.ua_values.specs.Parts.{number, text, ◌followed_by◌, Begun}
use Rattle.ua_values.specs.Codec.{IsCodec}
use Rattle.ua_values.proofs.Answers.{is_read}
use Rattle.ua_values.proofs.Chain.{same, reads}
use Rattle.ua_values.proofs.Fields.{MadeOf, begins, ends, goes_on, made_of}
use Rattle.ua_values.proofs.TypeCodecs.{number32_codec, text_codec}
use Rattle.ua_chunks.specs.declared.greeting.Greeting.{Greeting}
use Rattle.ua_chunks.specs.declared.opening.OpnHead.{OpnHead}
use Rattle.ua_chunks.specs.declared.opening.OpnChunk.{OpnChunk}
use Rattle.ua_chunks.specs.Bodies.{IsInFront, IsLeftOf, IsOpn, IsWhole, end_at, ended, error, error_at, greeting, greeting_at, hello, hello_at, opn, opn_head, opn_head_at, opn_of, policy, policy_at, value_of, whole_at}

-- ---- each reads its spellings

abbrev four : IsCodec (number 4) (number_at 4)
four = number32_codec

pub greeting_codec : IsCodec greeting greeting_at
greeting_codec =
    begins (number 4) (number_at 4) (λ (g : Greeting). g.version)
    (λ (g : Greeting). number 4 g.receive followed_by number 4 g.send followed_by number 4 g.max_message followed_by number 4 g.max_chunks) _ four
    (λ version. goes_on (λ (g : Greeting). g.version ≡ version) (number 4) (number_at 4) (λ g. g.receive)
    (λ g. number 4 g.send followed_by number 4 g.max_message followed_by number 4 g.max_chunks) _ four
    (λ receive. goes_on (λ (g : Greeting). (g.version ≡ version) × (g.receive ≡ receive)) (number 4) (number_at 4) (λ g. g.send)
    (λ g. number 4 g.max_message followed_by number 4 g.max_chunks) _ four
    (λ send. goes_on (λ (g : Greeting). ((g.version ≡ version) × (g.receive ≡ receive)) × (g.send ≡ send)) (number 4) (number_at 4) (λ g. g.max_message)
    (λ g. number 4 g.max_chunks) _ four
    (λ max_message. ends (λ (g : Greeting). (((g.version ≡ version) × (g.receive ≡ receive)) × (g.send ≡ send)) × (g.max_message ≡ max_message)) (number 4) (number_at 4) (λ g. g.max_chunks)
    (λ max_chunks. record { version = version; receive = receive; send = send; max_message = max_message; max_chunks = max_chunks })
    (λ n. (((refl, refl), refl), refl)) (λ n. refl)
    (λ g known. rw (← known.0.0.0, ← known.0.0.1, ← known.0.1, ← known.1) refl) four))))

pub hello_codec : IsCodec hello hello_at
hello_codec =
    begins greeting greeting_at (λ (h : Greeting × Option (List ℕ)). h.0) (λ (h : Greeting × Option (List ℕ)). text h.1) _ greeting_codec
    (λ g. ends (λ (h : Greeting × Option (List ℕ)). h.0 ≡ g) text text_at (λ h. h.1) (λ url. (g, url)) (λ url. refl) (λ url. refl) (λ h known. ap (λ (g : Greeting). (g, h.1)) known) text_codec)

pub error_codec : IsCodec error error_at
error_codec =
    same (MadeOf (number 4) text (λ code reason. code)) error error_at
    (λ code bytes m. (m.1, subst (λ (n : ℕ). (number 4 n followed_by text m.1) bytes) (sym m.2) m.3))
    (λ code bytes e. (code, e.0, refl, e.1))
    (made_of (number 4) (number_at 4) text text_at (λ code reason. code) four text_codec)

pub policy_codec : IsCodec policy policy_at
policy_codec =
    same (MadeOf (number 4) text (λ channel p. p)) policy policy_at
    (λ p bytes m. (m.0, subst (λ (o : Option (List ℕ)). (number 4 m.0 followed_by text o) bytes) (sym m.2) m.3))
    (λ p bytes e. (e.0, p, refl, e.1))
    (made_of (number 4) (number_at 4) text text_at (λ channel p. p) four text_codec)

pub opn_head_codec : IsCodec opn_head opn_head_at
opn_head_codec =
    begins (number 4) (number_at 4) (λ (h : OpnHead). h.channel)
    (λ (h : OpnHead). text h.policy followed_by text h.certificate followed_by text h.thumbprint followed_by number 4 h.number followed_by number 4 h.request) _ four
    (λ channel. goes_on (λ (h : OpnHead). h.channel ≡ channel) text text_at (λ h. h.policy)
    (λ h. text h.certificate followed_by text h.thumbprint followed_by number 4 h.number followed_by number 4 h.request) _ text_codec
    (λ p. goes_on (λ (h : OpnHead). (h.channel ≡ channel) × (h.policy ≡ p)) text text_at (λ h. h.certificate)
    (λ h. text h.thumbprint followed_by number 4 h.number followed_by number 4 h.request) _ text_codec
    (λ certificate. goes_on (λ (h : OpnHead). ((h.channel ≡ channel) × (h.policy ≡ p)) × (h.certificate ≡ certificate)) text text_at (λ h. h.thumbprint)
    (λ h. number 4 h.number followed_by number 4 h.request) _ text_codec
    (λ thumbprint. goes_on (λ (h : OpnHead). (((h.channel ≡ channel) × (h.policy ≡ p)) × (h.certificate ≡ certificate)) × (h.thumbprint ≡ thumbprint)) (number 4) (number_at 4) (λ h. h.number)
    (λ h. number 4 h.request) _ four
    (λ n. ends (λ (h : OpnHead). ((((h.channel ≡ channel) × (h.policy ≡ p)) × (h.certificate ≡ certificate)) × (h.thumbprint ≡ thumbprint)) × (h.number ≡ n)) (number 4) (number_at 4) (λ h. h.request)
    (λ request. record { channel = channel; policy = p; certificate = certificate; thumbprint = thumbprint; number = n; request = request })
    (λ r. ((((refl, refl), refl), refl), refl)) (λ r. refl)
    (λ h known. rw (← known.0.0.0.0, ← known.0.0.0.1, ← known.0.0.1, ← known.0.1, ← known.1) refl) four)))))

-- ---- what is left after a value

ok_same : {A : Type 0} (x y : A) → ◌≡◌ {A = Result A Fault} (Ok x) (Ok y) → x ≡ y
ok_same x y e = cc

err_same : {A : Type 0} (x y : Fault) → ◌≡◌ {A = Result A Fault} (Err x) (Err y) → x ≡ y
err_same x y e = cc

ok_err : {A : Type 0} (x : A) (f : Fault) → ◌≡◌ {A = Result A Fault} (Ok x) (Err f) → ⊥
ok_err x f e = absurd cc

-- the first bytes are a value's spelling, and the others are left
pub record Taken {A : Type 0} (S : A → List ℕ → Type 0) (bytes : List ℕ) (a : A) (after : Input) : Type 0 where
  pub text : List ℕ
  pub spelled : S a text
  pub whole : bytes ≡ text ++ after.rest
  pub size : after.place ≡ length text

taken : {A : Type 0} (S : A → List ℕ → Type 0) (at : Reader A) → IsCodec S at → (bytes : List ℕ) (a : A) (after : Input) → at (input 0 bytes) ≡ Ok (a, after) → Taken S bytes a after
taken S at codec bytes a after e =
    let t = codec.found 0 bytes a after e in
    record {
      text = t.text;
      spelled = t.spelled;
      whole = t.whole ∙ ap (λ (i : Input). t.text ++ i.rest) (sym t.after_is);
      size = ap (λ (i : Input). i.place) t.after_is ∙ omega arith;
    }

front_of : {A : Type 0} (S : A → List ℕ → Type 0) (bytes : List ℕ) (a : A) (after : Input) → Taken S bytes a after → S a (take after.place bytes)
front_of S bytes a after t =
    subst (λ (l : List ℕ). S a l) (sym (ap (take after.place) t.whole ∙ take_at t.text after.rest after.place (sym t.size))) t.spelled

pub left_of : (bytes : List ℕ) (h : OpnHead) (after : Input) → opn_head_at (input 0 bytes) ≡ Ok (h, after) → IsLeftOf bytes after
left_of bytes h after e =
    let t = taken opn_head opn_head_at opn_head_codec bytes h after e in
    record {
      within = omega (arith, t.size, ap length t.whole, length-append t.text after.rest);
      rest = sym (ap (drop after.place) t.whole ∙ drop_at t.text after.rest after.place (sym t.size));
    }

-- ---- a value in front

pub in_front_by : {A : Type 0} (S : A → List ℕ → Type 0) (at : Reader A) → IsCodec S at → (bytes : List ℕ) (q : Result (A × Input) Fault) → at (input 0 bytes) ≡ q
    → (r : Result A ValueFault) → Gives r (value_of q) → IsInFront S bytes r
in_front_by S at codec bytes (Ok x) e (Ok a) g =
    let t = taken S at codec bytes x.0 x.1 e in
    record {
      size = x.1.place;
      within = omega (arith, t.size, ap length t.whole, length-append t.text x.1.rest);
      spelled = subst (λ z. S z (take x.1.place bytes)) (ok_same x.0 a g) (front_of S bytes x.0 x.1 t);
    }
in_front_by S at codec bytes (Err f) e (Ok a) g = absurd (ok_err a f (sym g))
in_front_by S at codec bytes (Ok x) e (Err faults.Short) g = absurd (ok_err x.0 Short g)
in_front_by S at codec bytes (Err f) e (Err faults.Short) g = is_read S (Begun S) at (reads S at codec) bytes (Err faults.Short) (ap sized e ∙ ap (λ f. Err f) (err_same f Short g))
in_front_by S at codec bytes (Ok x) e (Err (faults.Bad place code)) g = absurd (ok_err x.0 (Bad place code) g)
in_front_by S at codec bytes (Err f) e (Err (faults.Bad place code)) g =
    is_read S (Begun S) at (reads S at codec) bytes (Err (faults.Bad place code)) (ap sized e ∙ ap (λ f. Err f) (err_same f (Bad place code) g))
in_front_by S at codec bytes q e (Err faults.OutOfMemory) g = tt

pub in_front : {A : Type 0} (S : A → List ℕ → Type 0) (at : Reader A) → IsCodec S at → (bytes : List ℕ) (r : Result A ValueFault) → Gives r (value_of (at (input 0 bytes))) → IsInFront S bytes r
in_front S at codec bytes r g = in_front_by S at codec bytes (at (input 0 bytes)) refl r g

-- ---- a value alone

bad_not_short : (place code : ℕ) → Bad place code ≡ Short → ⊥
bad_not_short place code e = absurd cc

bad_place : (p c q d : ℕ) → Bad p c ≡ Bad q d → p ≡ q
bad_place p c q d e = cc

bad_code : (p c q d : ℕ) → Bad p c ≡ Bad q d → c ≡ d
bad_code p c q d e = cc

whole_ok : {A : Type 0} (S : A → List ℕ → Type 0) (bytes : List ℕ) (a : A) (after : Input) → Taken S bytes a after → (rest : List ℕ) → after.rest ≡ rest
    → (r : Result A ValueFault) → Gives r (value_of ((ended rest >>= λ u. give a) after)) → IsWhole S bytes r
whole_ok S bytes a after t [] is (Ok b) g =
    let all : bytes ≡ t.text = t.whole ∙ ap (λ (l : List ℕ). t.text ++ l) is ∙ append-nil t.text in
    subst (λ z. S z bytes) (ok_same a b g) (subst (λ (l : List ℕ). S a l) (sym all) t.spelled)
whole_ok S bytes a after t [] is (Err faults.Short) g = absurd (ok_err a Short g)
whole_ok S bytes a after t [] is (Err (faults.Bad place code)) g = absurd (ok_err a (Bad place code) g)
whole_ok S bytes a after t (b ∷ more) is (Ok z) g = absurd (ok_err z _ (sym g))
whole_ok {A = A} S bytes a after t (b ∷ more) is (Err faults.Short) g = absurd (bad_not_short after.place 0x80070000 (err_same {A = A} _ _ g))
whole_ok {A = A} S bytes a after t (b ∷ more) is (Err (faults.Bad place code)) g =
    let same = err_same {A = A} (Bad after.place 0x80070000) (Bad place code) g in
    let at : after.place ≡ place = bad_place _ _ _ _ same in
    inr (record {
      value = a;
      spelled = subst (λ (n : ℕ). S a (take n bytes)) at (front_of S bytes a after t);
      within = omega (arith, at, t.size, ap length t.whole, length-append t.text after.rest, ap length is);
      code_is = sym (bad_code _ _ _ _ same);
    })
whole_ok S bytes a after t rest is (Err faults.OutOfMemory) g = tt

whole_by : {A : Type 0} (S : A → List ℕ → Type 0) (at : Reader A) → IsCodec S at → (bytes : List ℕ) (q : Result (A × Input) Fault) → at (input 0 bytes) ≡ q
    → (r : Result A ValueFault) → Gives r (value_of (passed q (λ a. end_at >>= λ u. give a))) → IsWhole S bytes r
whole_by S at codec bytes (Ok x) e r g = whole_ok S bytes x.0 x.1 (taken S at codec bytes x.0 x.1 e) x.1.rest refl r g
whole_by S at codec bytes (Err f) e (Ok a) g = absurd (ok_err a f (sym g))
whole_by S at codec bytes (Err f) e (Err faults.Short) g = is_read S (Begun S) at (reads S at codec) bytes (Err faults.Short) (ap sized e ∙ ap (λ f. Err f) (err_same f Short g))
whole_by S at codec bytes (Err f) e (Err (faults.Bad place code)) g =
    inl (is_read S (Begun S) at (reads S at codec) bytes (Err (faults.Bad place code)) (ap sized e ∙ ap (λ f. Err f) (err_same f (Bad place code) g)))
whole_by S at codec bytes (Err f) e (Err faults.OutOfMemory) g = tt

pub whole : {A : Type 0} (S : A → List ℕ → Type 0) (at : Reader A) → IsCodec S at → (bytes : List ℕ) (r : Result A ValueFault) → Gives r (value_of (whole_at at (input 0 bytes))) → IsWhole S bytes r
whole S at codec bytes r g = whole_by S at codec bytes (at (input 0 bytes)) refl r g

-- ---- an OPN

opn_by : (bytes : List ℕ) (q : Result (OpnHead × Input) Fault) → opn_head_at (input 0 bytes) ≡ q → (r : Result OpnChunk ValueFault) → Gives r (opn_of q) → IsOpn bytes r
opn_by bytes (Ok x) e (Ok c) g =
    let t = taken opn_head opn_head_at opn_head_codec bytes x.0 x.1 e in
    let same : record { channel = x.0.channel; policy = x.0.policy; number = x.0.number; request = x.0.request; body = x.1.rest } ≡ c = ok_same _ c g in
    subst (λ (c : OpnChunk). opn c bytes) same (x.0.certificate, x.0.thumbprint, record { front = t.text; back = x.1.rest; first = t.spelled; second = refl; whole = t.whole })
opn_by bytes (Err f) e (Ok c) g = absurd (ok_err c f (sym g))
opn_by bytes (Ok x) e (Err faults.Short) g = absurd (ok_err _ Short g)
opn_by bytes (Err f) e (Err faults.Short) g = is_read opn_head (Begun opn_head) opn_head_at (reads opn_head opn_head_at opn_head_codec) bytes (Err faults.Short) (ap sized e ∙ ap (λ f. Err f) (err_same f Short g))
opn_by bytes (Ok x) e (Err (faults.Bad place code)) g = absurd (ok_err _ (Bad place code) g)
opn_by bytes (Err f) e (Err (faults.Bad place code)) g =
    is_read opn_head (Begun opn_head) opn_head_at (reads opn_head opn_head_at opn_head_codec) bytes (Err (faults.Bad place code)) (ap sized e ∙ ap (λ f. Err f) (err_same f (Bad place code) g))
opn_by bytes q e (Err faults.OutOfMemory) g = tt

pub opn_is : (bytes : List ℕ) (r : Result OpnChunk ValueFault) → Gives r (opn_of (opn_head_at (input 0 bytes))) → IsOpn bytes r
opn_is bytes r g = opn_by bytes (opn_head_at (input 0 bytes)) refl r g
