-- Codecs of structures: their fields in turn.
use Rattle.std.proofs.Common.{◌≡◌, ℕ, Bool, true, false, List, [], ◌++◌, refl, sym, ap, subst, ◌∙◌}
use Rattle.std.proofs.lemmas.List.{append-nil}
use Rattle.ua_values.specs.Reading.{Reader, ◌>>=◌, give}
use Rattle.ua_values.specs.Parts.{optional, ◌followed_by◌, Chained}
use Rattle.ua_values.specs.Codec.{IsCodec}
use Rattle.ua_values.specs.Readers.{optional_at}
use Rattle.ua_values.proofs.Chain.{same, chain}
use Rattle.ua_values.proofs.Leaves.{given, give_codec}

-- nothing follows
alone : (bytes front back : List ℕ) → bytes ≡ front ++ back → back ≡ [] → front ≡ bytes
alone bytes front back whole none = sym (whole ∙ ap (λ (l : List ℕ). front ++ l) none ∙ append-nil front)

whole_nil : (bytes : List ℕ) → bytes ≡ bytes ++ []
whole_nil bytes = sym (append-nil bytes)

-- ---- a value that is made of another

abbrev pub Mapped : {A B : Type 0} → (A → List ℕ → Type 0) → (A → B) → B → List ℕ → Type 0
Mapped {A = A} S make b bytes = (a : A) × (b ≡ make a) × S a bytes

pub mapped : {A B : Type 0} (S : A → List ℕ → Type 0) (at : Reader A) (make : A → B) → IsCodec S at → IsCodec (Mapped S make) (at >>= λ a. give (make a))
mapped S at make codec =
    same (Chained S (λ a. given (make a))) (Mapped S make) (at >>= λ a. give (make a))
    (λ b bytes c. (c.value, c.parts.second.0, subst (λ (l : List ℕ). S c.value l) (alone bytes c.parts.front c.parts.back c.parts.whole c.parts.second.1) c.parts.first))
    (λ b bytes m. record { value = m.0; parts = record { front = bytes; back = []; first = m.2; second = (m.1, refl); whole = whole_nil bytes } })
    (chain S at (λ a. given (make a)) (λ a. give (make a)) codec (λ a. give_codec (make a)))

-- ---- a value that is made of two

abbrev pub MadeOf : {A B C : Type 0} → (A → List ℕ → Type 0) → (B → List ℕ → Type 0) → (A → B → C) → C → List ℕ → Type 0
MadeOf {A = A} {B = B} S T make c bytes = (a : A) × (b : B) × (c ≡ make a b) × (S a followed_by T b) bytes

pub made_of : {A B C : Type 0} (S : A → List ℕ → Type 0) (at : Reader A) (T : B → List ℕ → Type 0) (next : Reader B) (make : A → B → C) → IsCodec S at → IsCodec T next
    → IsCodec (MadeOf S T make) (at >>= λ a. next >>= λ b. give (make a b))
made_of S at T next make first second =
    same (Chained S (λ a. Mapped T (make a))) (MadeOf S T make) (at >>= λ a. next >>= λ b. give (make a b))
    (λ c bytes h. (h.value, h.parts.second.0, h.parts.second.1, record { front = h.parts.front; back = h.parts.back; first = h.parts.first; second = h.parts.second.2; whole = h.parts.whole }))
    (λ c bytes m. record { value = m.0; parts = record { front = m.3.front; back = m.3.back; first = m.3.first; second = (m.1, m.2, m.3.second); whole = m.3.whole } })
    (chain S at (λ a. Mapped T (make a)) (λ a. next >>= λ b. give (make a b)) first (λ a. mapped T next (make a) second))

-- ---- a field that may be left out

pub optional_codec : {A : Type 0} (S : A → List ℕ → Type 0) (at : Reader A) (blank : A) (is_there : Bool) → IsCodec S at → IsCodec (optional is_there blank S) (optional_at is_there blank at)
optional_codec S at blank true codec = codec
optional_codec S at blank false codec = give_codec blank

-- ---- the fields of a structure: what Known says of it is read already

pub goes_on : {A C : Type 0} (Known : C → Type 0) (S : A → List ℕ → Type 0) (at : Reader A) (part : C → A) (Rest : C → List ℕ → Type 0) (next : A → Reader C)
    → IsCodec S at → ((a : A) → IsCodec (λ c bytes. (Known c × (part c ≡ a)) × Rest c bytes) (next a))
    → IsCodec (λ c bytes. Known c × (S (part c) followed_by Rest c) bytes) (at >>= next)
goes_on Known S at part Rest next first second =
    same (Chained S (λ a c bytes. (Known c × (part c ≡ a)) × Rest c bytes)) (λ c bytes. Known c × (S (part c) followed_by Rest c) bytes) (at >>= next)
    (λ c bytes h. (
      h.parts.second.0.0,
      record {
        front = h.parts.front;
        back = h.parts.back;
        first = subst (λ a. S a h.parts.front) (sym h.parts.second.0.1) h.parts.first;
        second = h.parts.second.1;
        whole = h.parts.whole;
      },
    ))
    (λ c bytes m. record { value = part c; parts = record { front = m.1.front; back = m.1.back; first = m.1.first; second = ((m.0, refl), m.1.second); whole = m.1.whole } })
    (chain S at (λ a c bytes. (Known c × (part c ≡ a)) × Rest c bytes) next first second)

-- the first field
pub begins : {A C : Type 0} (S : A → List ℕ → Type 0) (at : Reader A) (part : C → A) (Rest : C → List ℕ → Type 0) (next : A → Reader C)
    → IsCodec S at → ((a : A) → IsCodec (λ c bytes. (part c ≡ a) × Rest c bytes) (next a))
    → IsCodec (λ c. S (part c) followed_by Rest c) (at >>= next)
begins S at part Rest next first second =
    same (Chained S (λ a c bytes. (part c ≡ a) × Rest c bytes)) (λ c. S (part c) followed_by Rest c) (at >>= next)
    (λ c bytes h. record {
      front = h.parts.front;
      back = h.parts.back;
      first = subst (λ a. S a h.parts.front) (sym h.parts.second.0) h.parts.first;
      second = h.parts.second.1;
      whole = h.parts.whole;
    })
    (λ c bytes m. record { value = part c; parts = record { front = m.front; back = m.back; first = m.first; second = (refl, m.second); whole = m.whole } })
    (chain S at (λ a c bytes. (part c ≡ a) × Rest c bytes) next first second)

-- the last field, and the structure is made
pub ends : {A C : Type 0} (Known : C → Type 0) (S : A → List ℕ → Type 0) (at : Reader A) (part : C → A) (make : A → C)
    → ((a : A) → Known (make a)) → ((a : A) → part (make a) ≡ a) → ((c : C) → Known c → c ≡ make (part c)) → IsCodec S at
    → IsCodec (λ c bytes. Known c × S (part c) bytes) (at >>= λ a. give (make a))
ends Known S at part make known made is codec =
    same (Mapped S make) (λ c bytes. Known c × S (part c) bytes) (at >>= λ a. give (make a))
    (λ c bytes m. (subst Known (sym m.1) (known m.0), subst (λ a. S a bytes) (sym (ap part m.1 ∙ made m.0)) m.2))
    (λ c bytes k. (part c, is c k.0, k.1))
    (mapped S at make codec)
