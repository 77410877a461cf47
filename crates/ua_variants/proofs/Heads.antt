-- The first byte of a Variant.
use Rattle.std.proofs.Common.{◌≡◌, ℕ, ◌+◌, ◌*◌, ◌/◌, ◌%◌, ◌<◌, Bool, true, false, eqb, cond, length, Result, Ok, Err, refl, sym, ap, subst, ◌∙◌, arith, inl}
use Rattle.std.proofs.lemmas.Bool.{eqb-true}
use Rattle.std.proofs.lemmas.Bool.Decides.{nat_tests}
use Rattle.ua_base.specs.Status.{bad_decoding_error}
use Rattle.ua_values.specs.Reading.{field_at}
use Rattle.ua_values.specs.Parts.{number, IsRefused}
use Rattle.ua_values.specs.Codec.{Reads}
use Rattle.ua_values.proofs.Chain.{reads_as}
use Rattle.ua_values.proofs.Leaves.{field, field_reads}
use Rattle.ua_values.proofs.TypeCodecs.{tested, refused, failed_not, err_is, fine_is, cut_byte}
use Rattle.ua_variants.specs.declared.variant.Flat.TheVariants as flat
use Rattle.ua_variants.specs.declared.head.Kind.{Kind}
use Rattle.ua_variants.specs.declared.head.Kind.TheVariants as kind
use Rattle.ua_variants.specs.declared.head.Head.{Head}
use Rattle.ua_variants.specs.declared.head.Head.TheVariants as head
use Rattle.ua_variants.specs.Kinds.{kind_number, head_number, kind_of, with_kind, head_of}

kind_is : (n : ℕ) (k : Kind) → kind_of n ≡ Ok k → n ≡ kind_number k
kind_is n k =
    tested kind_number n 1 (kind.Flat flat.Boolean) k _ refl
    (tested kind_number n 2 (kind.Flat flat.SByte) k _ refl
    (tested kind_number n 3 (kind.Flat flat.Byte) k _ refl
    (tested kind_number n 4 (kind.Flat flat.Int16) k _ refl
    (tested kind_number n 5 (kind.Flat flat.UInt16) k _ refl
    (tested kind_number n 6 (kind.Flat flat.Int32) k _ refl
    (tested kind_number n 7 (kind.Flat flat.UInt32) k _ refl
    (tested kind_number n 8 (kind.Flat flat.Int64) k _ refl
    (tested kind_number n 9 (kind.Flat flat.UInt64) k _ refl
    (tested kind_number n 10 (kind.Flat flat.Float) k _ refl
    (tested kind_number n 11 (kind.Flat flat.Double) k _ refl
    (tested kind_number n 12 (kind.Flat flat.String) k _ refl
    (tested kind_number n 13 (kind.Flat flat.DateTime) k _ refl
    (tested kind_number n 14 (kind.Flat flat.Guid) k _ refl
    (tested kind_number n 15 (kind.Flat flat.ByteString) k _ refl
    (tested kind_number n 16 (kind.Flat flat.XmlElement) k _ refl
    (tested kind_number n 17 (kind.Flat flat.NodeId) k _ refl
    (tested kind_number n 18 (kind.Flat flat.ExpandedNodeId) k _ refl
    (tested kind_number n 19 (kind.Flat flat.StatusCode) k _ refl
    (tested kind_number n 20 (kind.Flat flat.QualifiedName) k _ refl
    (tested kind_number n 21 (kind.Flat flat.LocalizedText) k _ refl
    (tested kind_number n 22 (kind.Flat flat.ExtensionObject) k _ refl
    (tested kind_number n 23 kind.DataValue k _ refl
    (tested kind_number n 24 kind.Variant k _ refl
    (tested kind_number n 25 kind.DiagnosticInfo k (Err bad_decoding_error) refl
    (λ e. absurd (failed_not k bad_decoding_error e))))))))))))))))))))))))))

kind_refuses : (n code : ℕ) → kind_of n ≡ Err code → code ≡ bad_decoding_error
kind_refuses n code e =
    let e1 = refused (eqb n 1) (kind.Flat flat.Boolean) _ code e in
    let e2 = refused (eqb n 2) (kind.Flat flat.SByte) _ code e1 in
    let e3 = refused (eqb n 3) (kind.Flat flat.Byte) _ code e2 in
    let e4 = refused (eqb n 4) (kind.Flat flat.Int16) _ code e3 in
    let e5 = refused (eqb n 5) (kind.Flat flat.UInt16) _ code e4 in
    let e6 = refused (eqb n 6) (kind.Flat flat.Int32) _ code e5 in
    let e7 = refused (eqb n 7) (kind.Flat flat.UInt32) _ code e6 in
    let e8 = refused (eqb n 8) (kind.Flat flat.Int64) _ code e7 in
    let e9 = refused (eqb n 9) (kind.Flat flat.UInt64) _ code e8 in
    let e10 = refused (eqb n 10) (kind.Flat flat.Float) _ code e9 in
    let e11 = refused (eqb n 11) (kind.Flat flat.Double) _ code e10 in
    let e12 = refused (eqb n 12) (kind.Flat flat.String) _ code e11 in
    let e13 = refused (eqb n 13) (kind.Flat flat.DateTime) _ code e12 in
    let e14 = refused (eqb n 14) (kind.Flat flat.Guid) _ code e13 in
    let e15 = refused (eqb n 15) (kind.Flat flat.ByteString) _ code e14 in
    let e16 = refused (eqb n 16) (kind.Flat flat.XmlElement) _ code e15 in
    let e17 = refused (eqb n 17) (kind.Flat flat.NodeId) _ code e16 in
    let e18 = refused (eqb n 18) (kind.Flat flat.ExpandedNodeId) _ code e17 in
    let e19 = refused (eqb n 19) (kind.Flat flat.StatusCode) _ code e18 in
    let e20 = refused (eqb n 20) (kind.Flat flat.QualifiedName) _ code e19 in
    let e21 = refused (eqb n 21) (kind.Flat flat.LocalizedText) _ code e20 in
    let e22 = refused (eqb n 22) (kind.Flat flat.ExtensionObject) _ code e21 in
    let e23 = refused (eqb n 23) kind.DataValue _ code e22 in
    let e24 = refused (eqb n 24) kind.Variant _ code e23 in
    let e25 = refused (eqb n 25) kind.DiagnosticInfo (Err bad_decoding_error) code e24 in
    sym (err_is {A = Kind} bad_decoding_error code e25)

kind_says : (k : Kind) → kind_of (kind_number k) ≡ Ok k
kind_says (kind.Flat flat.Boolean) = refl
kind_says (kind.Flat flat.SByte) = refl
kind_says (kind.Flat flat.Byte) = refl
kind_says (kind.Flat flat.Int16) = refl
kind_says (kind.Flat flat.UInt16) = refl
kind_says (kind.Flat flat.Int32) = refl
kind_says (kind.Flat flat.UInt32) = refl
kind_says (kind.Flat flat.Int64) = refl
kind_says (kind.Flat flat.UInt64) = refl
kind_says (kind.Flat flat.Float) = refl
kind_says (kind.Flat flat.Double) = refl
kind_says (kind.Flat flat.String) = refl
kind_says (kind.Flat flat.DateTime) = refl
kind_says (kind.Flat flat.Guid) = refl
kind_says (kind.Flat flat.ByteString) = refl
kind_says (kind.Flat flat.XmlElement) = refl
kind_says (kind.Flat flat.NodeId) = refl
kind_says (kind.Flat flat.ExpandedNodeId) = refl
kind_says (kind.Flat flat.StatusCode) = refl
kind_says (kind.Flat flat.QualifiedName) = refl
kind_says (kind.Flat flat.LocalizedText) = refl
kind_says (kind.Flat flat.ExtensionObject) = refl
kind_says kind.DataValue = refl
kind_says kind.Variant = refl
kind_says kind.DiagnosticInfo = refl

-- a type's number fits the low six bits, and is not 0
pub record IsNumber (n : ℕ) : Type 0 where
  pub some : 0 < n
  pub small : n < 64

pub kind_fits : (k : Kind) → IsNumber (kind_number k)
kind_fits (kind.Flat flat.Boolean) = record { some = omega arith; small = omega arith }
kind_fits (kind.Flat flat.SByte) = record { some = omega arith; small = omega arith }
kind_fits (kind.Flat flat.Byte) = record { some = omega arith; small = omega arith }
kind_fits (kind.Flat flat.Int16) = record { some = omega arith; small = omega arith }
kind_fits (kind.Flat flat.UInt16) = record { some = omega arith; small = omega arith }
kind_fits (kind.Flat flat.Int32) = record { some = omega arith; small = omega arith }
kind_fits (kind.Flat flat.UInt32) = record { some = omega arith; small = omega arith }
kind_fits (kind.Flat flat.Int64) = record { some = omega arith; small = omega arith }
kind_fits (kind.Flat flat.UInt64) = record { some = omega arith; small = omega arith }
kind_fits (kind.Flat flat.Float) = record { some = omega arith; small = omega arith }
kind_fits (kind.Flat flat.Double) = record { some = omega arith; small = omega arith }
kind_fits (kind.Flat flat.String) = record { some = omega arith; small = omega arith }
kind_fits (kind.Flat flat.DateTime) = record { some = omega arith; small = omega arith }
kind_fits (kind.Flat flat.Guid) = record { some = omega arith; small = omega arith }
kind_fits (kind.Flat flat.ByteString) = record { some = omega arith; small = omega arith }
kind_fits (kind.Flat flat.XmlElement) = record { some = omega arith; small = omega arith }
kind_fits (kind.Flat flat.NodeId) = record { some = omega arith; small = omega arith }
kind_fits (kind.Flat flat.ExpandedNodeId) = record { some = omega arith; small = omega arith }
kind_fits (kind.Flat flat.StatusCode) = record { some = omega arith; small = omega arith }
kind_fits (kind.Flat flat.QualifiedName) = record { some = omega arith; small = omega arith }
kind_fits (kind.Flat flat.LocalizedText) = record { some = omega arith; small = omega arith }
kind_fits (kind.Flat flat.ExtensionObject) = record { some = omega arith; small = omega arith }
kind_fits kind.DataValue = record { some = omega arith; small = omega arith }
kind_fits kind.Variant = record { some = omega arith; small = omega arith }
kind_fits kind.DiagnosticInfo = record { some = omega arith; small = omega arith }

-- the bits of a byte with a type
parts_of : (high k byte : ℕ) → byte ≡ high * 64 + k → k < 64 → (byte / 64 ≡ high) × (byte % 64 ≡ k)
parts_of high k byte is small = (omega (arith, is, small), omega (arith, is, small))

not_zero : (n : ℕ) → 0 < n → eqb n 0 ≡ false
not_zero n some = grind (arith, nat_tests)

chosen_head : (byte high : ℕ) (k : Kind) (h : Head) → byte ≡ high * 64 + kind_number k → with_kind high (Ok k) ≡ Ok h → head_of byte ≡ Ok h
chosen_head byte high k h is says =
    let fits = kind_fits k in
    let p = parts_of high (kind_number k) byte is fits.small in
    rw (not_zero byte (omega (arith, is, fits.some)), p.0, p.1, kind_says k) says

pub head_says : (h : Head) → head_of (head_number h) ≡ Ok h
head_says head.Null = refl
head_says (head.One k) = chosen_head (kind_number k) 0 k (head.One k) (omega arith) refl
head_says (head.Many k false) = chosen_head (128 + kind_number k) 2 k (head.Many k false) (omega arith) refl
head_says (head.Many k true) = chosen_head (192 + kind_number k) 3 k (head.Many k true) (omega arith) refl

-- ---- back

abbrev judged_kind : Bool → Bool → Bool → Kind → Result Head ℕ
judged_kind a b c k = cond a (Ok (head.One k)) (cond b (Ok (head.Many k false)) (cond c (Ok (head.Many k true)) (Err bad_decoding_error)))

joined : (byte high k : ℕ) → byte / 64 ≡ high → byte % 64 ≡ k → byte ≡ high * 64 + k
joined byte high k p q = omega (arith, p, q)

high_is : (byte : ℕ) (k : Kind) (h : Head) (a b c : Bool) → eqb (byte / 64) 0 ≡ a → eqb (byte / 64) 2 ≡ b → eqb (byte / 64) 3 ≡ c → byte % 64 ≡ kind_number k → judged_kind a b c k ≡ Ok h → byte ≡ head_number h
high_is byte k h true b c p q r low e =
    let whole : byte ≡ kind_number k = omega (arith, joined byte 0 (kind_number k) (eqb-true (byte / 64) 0 p) low) in
    whole ∙ ap head_number (fine_is (head.One k) h e)
high_is byte k h false true c p q r low e = joined byte 2 (kind_number k) (eqb-true (byte / 64) 2 q) low ∙ ap head_number (fine_is (head.Many k false) h e)
high_is byte k h false false true p q r low e = joined byte 3 (kind_number k) (eqb-true (byte / 64) 3 r) low ∙ ap head_number (fine_is (head.Many k true) h e)
high_is byte k h false false false p q r low e = absurd (failed_not h bad_decoding_error e)

with_is : (byte : ℕ) (m : Result Kind ℕ) (h : Head) → kind_of (byte % 64) ≡ m → with_kind (byte / 64) m ≡ Ok h → byte ≡ head_number h
with_is byte (Err c) h is e = absurd (failed_not h c e)
with_is byte (Ok k) h is e = high_is byte k h (eqb (byte / 64) 0) (eqb (byte / 64) 2) (eqb (byte / 64) 3) refl refl refl (kind_is (byte % 64) k is) e

null_or : (byte : ℕ) (h : Head) (b : Bool) → eqb byte 0 ≡ b → cond b (Ok head.Null) (with_kind (byte / 64) (kind_of (byte % 64))) ≡ Ok h → byte ≡ head_number h
null_or byte h true test e = eqb-true byte 0 test ∙ ap head_number (fine_is head.Null h e)
null_or byte h false test e = with_is byte (kind_of (byte % 64)) h refl e

pub head_is : (byte : ℕ) (h : Head) → head_of byte ≡ Ok h → byte ≡ head_number h
head_is byte h e = null_or byte h (eqb byte 0) refl e

-- ---- what is refused

high_refuses : (k : Kind) (code : ℕ) (a b c : Bool) → judged_kind a b c k ≡ Err code → code ≡ bad_decoding_error
high_refuses k code true b c e = absurd cc
high_refuses k code false true c e = absurd cc
high_refuses k code false false true e = absurd cc
high_refuses k code false false false e = sym (err_is {A = Head} bad_decoding_error code e)

with_refuses : (byte code : ℕ) (m : Result Kind ℕ) → kind_of (byte % 64) ≡ m → with_kind (byte / 64) m ≡ Err code → code ≡ bad_decoding_error
with_refuses byte code (Err c) is e = sym (err_is {A = Head} c code e) ∙ kind_refuses (byte % 64) c is
with_refuses byte code (Ok k) is e = high_refuses k code (eqb (byte / 64) 0) (eqb (byte / 64) 2) (eqb (byte / 64) 3) e

head_refuses : (byte code : ℕ) → head_of byte ≡ Err code → IsRefused code 1
head_refuses byte code e = inl (with_refuses byte code (kind_of (byte % 64)) refl (refused (eqb byte 0) head.Null _ code e), refl)

-- ---- a byte that says what follows

pub head_reads : Reads (λ h. number 1 (head_number h)) (λ front. length front < 1) (field_at 1 head_of)
head_reads = reads_as (field 1 head_of) (λ h. number 1 (head_number h)) (λ front. length front < 1) (λ front. length front < 1) (field_at 1 head_of)
    (λ h bytes s. subst (λ (n : ℕ). number 1 n bytes) (head_is s.0 h s.1) s.2)
    (λ h bytes s. (head_number h, head_says h, s))
    (λ bytes cut. cut)
    (field_reads 1 head_of (record { some = omega arith; completes = cut_byte head_of head.Null 0 refl; refuses = head_refuses }))
