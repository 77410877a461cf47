-- What is put together of readers reads what is put together of their grammars.
use Rattle.std.proofs.Common.{◌≡◌, ℕ, ℤ, ◌^◌, ◌<◌, List, [], ◌++◌, None, refl, sym, ap, subst, ◌∙◌, arith, FitsSigned}
use Rattle.std.specs.Int.{w32, w64}
use Rattle.byteorder.specs.Endian.{little_bytes}
use Rattle.ua_values.specs.Reading.{Reader, ◌>>=◌, give}
use Rattle.ua_values.specs.Parts.{number, ◌followed_by◌, ChainCut}
use Rattle.ua_values.specs.Codec.{Reads, IsCodec}
use Rattle.ua_values.specs.Readers.{signed_at}
use Rattle.ua_values.specs.Types.{signed}
use Rattle.ua_values.specs.Written.{written_signed}
use Rattle.ua_values.specs.Laws.{KeepsText, KeepsExtension, KeepsArray}
use Rattle.ua_values.specs.declared.node.NodeId.TheVariants as node
use Rattle.ua_values.specs.declared.extension.ExtensionBody.TheVariants as extension
use Rattle.ua_values.proofs.Chain.{reads_as}
use Rattle.ua_values.proofs.Fields.{Mapped, MadeOf}
use Rattle.ua_values.proofs.Nesting.{reads_mapped, reads_made_of}
use Rattle.ua_values.proofs.TypeCodecs.{signed_codec}
use Rattle.ua_values.proofs.WrittenLemmas.{number_spelled, signed_spelled, in_turn}

pub number8 : (n : ℕ) → n < 2 ^ 64 → number 8 n (little_bytes 8 n)
number8 n lt = number_spelled 8 n (omega arith)

pub int32_codec : IsCodec (signed 4 w32) (signed_at 4 w32)
int32_codec = signed_codec 4 w32 (omega arith)

pub int64_codec : IsCodec (signed 8 w64) (signed_at 8 w64)
int64_codec = signed_codec 8 w64 (omega arith)

pub int32_spelled : (z : ℤ) → FitsSigned w32 z → signed 4 w32 z (written_signed 4 w32 z)
int32_spelled z fits = signed_spelled 4 w32 z fits (λ n lt. omega arith)

pub int64_spelled : (z : ℤ) → FitsSigned w64 z → signed 8 w64 z (written_signed 8 w64 z)
int64_spelled z fits = signed_spelled 8 w64 z fits (λ n lt. omega arith)

pub pair_reads : {A B : Type 0} (S : A → List ℕ → Type 0) (C : List ℕ → Type 0) (at : Reader A) (T : B → List ℕ → Type 0) (D : List ℕ → Type 0) (next : Reader B) → Reads S C at → Reads T D next
    → Reads (λ (p : A × B). S p.0 followed_by T p.1) (ChainCut S C (λ (a : A). D)) (at >>= λ a. next >>= λ b. give (a, b))
pair_reads {A = A} {B = B} S C at T D next first second =
    reads_as (MadeOf S T (λ a b. (a, b))) (λ (p : A × B). S p.0 followed_by T p.1) (ChainCut S C (λ (a : A). D)) (ChainCut S C (λ (a : A). D)) (at >>= λ a. next >>= λ b. give (a, b))
    (λ p bytes m. subst (λ (q : A × B). (S q.0 followed_by T q.1) bytes) (sym m.2) m.3)
    (λ p bytes s. (p.0, p.1, refl, s))
    (λ bytes cut. cut)
    (reads_made_of S C at T D next (λ a b. (a, b)) first second)

pub pair_spelled : {A B : Type 0} (S : A → List ℕ → Type 0) (written : A → List ℕ) (keeps : A → Type 0) (T : B → List ℕ → Type 0) (next : B → List ℕ) (also : B → Type 0)
    → ((a : A) → keeps a → S a (written a)) → ((b : B) → also b → T b (next b)) → (p : A × B) → keeps p.0 × also p.1 → (S p.0 followed_by T p.1) (written p.0 ++ next p.1)
pair_spelled S written keeps T next also first second p kept = in_turn (S p.0) (T p.1) (written p.0) (next p.1) (first p.0 kept.0) (second p.1 kept.1)

pub record_reads : {A R : Type 0} (S : A → List ℕ → Type 0) (C : List ℕ → Type 0) (at : Reader A) (parts : R → A) (make : A → R) → ((r : R) → make (parts r) ≡ r) → ((a : A) → parts (make a) ≡ a) → Reads S C at
    → Reads (λ (r : R). S (parts r)) C (at >>= λ a. give (make a))
record_reads S C at parts make made parted reader =
    reads_as (Mapped S make) (λ r. S (parts r)) C C (at >>= λ a. give (make a))
    (λ r bytes m. subst (λ a. S a bytes) (sym (ap parts m.1 ∙ parted m.0)) m.2)
    (λ r bytes s. (parts r, sym (made r), s))
    (λ bytes cut. cut)
    (reads_mapped S C at make reader)

pub unused_reads : {A U : Type 0} (S : A → List ℕ → Type 0) (C : List ℕ → Type 0) (at : Reader A) (nothing : U) → ((u : U) → u ≡ nothing) → Reads S C at
    → Reads (λ (u : U) bytes. (a : A) × S a bytes) C (at >>= λ a. give nothing)
unused_reads {A = A} S C at nothing only reader =
    reads_as (Mapped S (λ a. nothing)) (λ u bytes. (a : A) × S a bytes) C C (at >>= λ a. give nothing)
    (λ u bytes m. (m.0, m.2))
    (λ u bytes s. (s.0, only u, s.1))
    (λ bytes cut. cut)
    (reads_mapped S C at (λ a. nothing) reader)

-- ---- the blanks of what is never used keep the rules

pub fits_zero : 0 < 2 ^ 32
fits_zero = omega arith

pub fits_none : {A : Type 0} (keeps : A → Type 0) → KeepsArray keeps []
fits_none keeps = (omega arith, tt)

pub fits_object : KeepsExtension (record { type_id = node.Numeric 0 0; body = extension.Absent })
fits_object = ((omega arith, omega arith), tt)

pub fits_rest_of_request : (0 < 2 ^ 32) × (KeepsText None × ((0 < 2 ^ 32) × KeepsExtension (record { type_id = node.Numeric 0 0; body = extension.Absent })))
fits_rest_of_request = (fits_zero, (tt, (fits_zero, fits_object)))

pub fits_rest_of_response : (Unit {0}) × (KeepsArray KeepsText [] × KeepsExtension (record { type_id = node.Numeric 0 0; body = extension.Absent }))
fits_rest_of_response = (tt, (fits_none KeepsText, fits_object))
