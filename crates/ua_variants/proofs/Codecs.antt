-- Each type's reader reads its grammar.
use Rattle.std.proofs.Common.{◌≡◌, ℕ, zero, suc, ◌+◌, ◌*◌, ◌^◌, ◌<◌, Bool, true, false, ◌&&◌, cond, eqb, ltb, List, [], ◌∷◌, length, Option, Some, None, Result, Ok, Err, refl, sym, ap, subst, ◌∙◌, arith, inl, inr}
use Rattle.std.specs.Int.{w8, w16, w32, w64}
use Rattle.std.specs.List.{AllByRecursion}
use Rattle.std.proofs.lemmas.Bool.{eqb-true}
use Rattle.std.proofs.lemmas.Bool.Decides.{nat_tests}
use Rattle.std.proofs.lemmas.List.{length-append}
use Rattle.ua_base.specs.Status.{bad_decoding_error, bad_encoding_limits_exceeded}
use Rattle.ua_values.specs.Limits.{most_items}
use Rattle.ua_values.specs.Reading.{Reader, ◌>>=◌, give, any, field_at, number_at}
use Rattle.ua_values.specs.Parts.{number, optional, Chained, text, elements, array_within, array, Begun, ChainCut, optional_cut, array_cut}
use Rattle.ua_values.specs.Codec.{Reads, IsCodec}
use Rattle.ua_values.specs.Readers.{boolean_at, signed_at, guid_at, text_at, node_at, has_bit, expanded_at, qualified_at, localized_at, extension_at, array_within_at, array_at, optional_at}
use Rattle.ua_values.specs.Types.{boolean, signed, guid, node_id, expanded_node_id, qualified_name, localized_text, extension_object}
use Rattle.ua_values.proofs.Chain.{reads, reads_on, reads_as}
use Rattle.ua_values.proofs.Leaves.{field, number_field, field_reads}
use Rattle.ua_values.proofs.Fields.{mapped, optional_codec, goes_on, begins, ends}
use Rattle.ua_values.proofs.Arrays.{array_codec, array_within_codec}
use Rattle.ua_values.proofs.Nesting.{give_reads, refused_reads, reads_mapped, reads_made_of, reads_optional, list_reads, Checked, checked_reads}
use Rattle.ua_values.proofs.TypeCodecs.{failed_not, err_is, fine_is, byte_codec, number16_codec, number32_codec, number64_codec, signed_codec, boolean_codec, guid_codec, text_codec, node_codec, expanded_codec, qualified_codec, localized_codec, extension_codec}
use Rattle.ua_variants.specs.Limits.{most_dimensions}
use Rattle.ua_variants.specs.declared.variant.Flat.{Flat}
use Rattle.ua_variants.specs.declared.variant.Flat.TheVariants as flat
use Rattle.ua_variants.specs.declared.variant.Scalar.TheVariants as scalar
use Rattle.ua_variants.specs.declared.variant.Array.TheVariants as array
use Rattle.ua_variants.specs.declared.variant.Variant.{Variant}
use Rattle.ua_variants.specs.declared.variant.Variant.TheVariants as variant
use Rattle.ua_variants.specs.declared.variant.Stamped.{Stamped}
use Rattle.ua_variants.specs.declared.variant.Stamps.{Stamps}
use Rattle.ua_variants.specs.declared.diagnostic.Details.{Details}
use Rattle.ua_variants.specs.declared.head.Kind.TheVariants as kind
use Rattle.ua_variants.specs.declared.head.Head.{Head}
use Rattle.ua_variants.specs.declared.head.Head.TheVariants as head
use Rattle.ua_variants.specs.Kinds.{head_number, head_of}
use Rattle.ua_variants.specs.Grammar.{made, made_of, scalar_spells, array_spells, count_of_array, product, dimensions, shape, shape_cut, shaped, shaped_cut, details, diagnostic_info, diagnostic_cut, stamps, with_stamps, data_value_by, data_value_cut_by, body, body_cut, variant_spells, data_value, variant_cut, data_value_cut}
use Rattle.ua_variants.specs.Reader.{making, scalar_at, flat_array_at, none_negative, judged_sizes, dimensions_at, shape_at, shaped_at, details_at, diagnostic_at, stamps_at, data_value_by_at, body_at, variant_at, data_value_at}
use Rattle.ua_variants.proofs.Heads.{head_reads}

-- ---- types whose values hold no others

pub scalar_codec : (f : Flat) → IsCodec (scalar_spells f) (scalar_at f)
scalar_codec flat.Boolean = mapped boolean boolean_at scalar.Boolean boolean_codec
scalar_codec flat.SByte = mapped (signed 1 w8) (signed_at 1 w8) scalar.SByte (signed_codec 1 w8 (omega arith))
scalar_codec flat.Byte = mapped (number 1) (number_at 1) scalar.Byte byte_codec
scalar_codec flat.Int16 = mapped (signed 2 w16) (signed_at 2 w16) scalar.Int16 (signed_codec 2 w16 (omega arith))
scalar_codec flat.UInt16 = mapped (number 2) (number_at 2) scalar.UInt16 number16_codec
scalar_codec flat.Int32 = mapped (signed 4 w32) (signed_at 4 w32) scalar.Int32 (signed_codec 4 w32 (omega arith))
scalar_codec flat.UInt32 = mapped (number 4) (number_at 4) scalar.UInt32 number32_codec
scalar_codec flat.Int64 = mapped (signed 8 w64) (signed_at 8 w64) scalar.Int64 (signed_codec 8 w64 (omega arith))
scalar_codec flat.UInt64 = mapped (number 8) (number_at 8) scalar.UInt64 number64_codec
scalar_codec flat.Float = mapped (number 4) (number_at 4) scalar.Float number32_codec
scalar_codec flat.Double = mapped (number 8) (number_at 8) scalar.Double number64_codec
scalar_codec flat.String = mapped text text_at scalar.String text_codec
scalar_codec flat.DateTime = mapped (signed 8 w64) (signed_at 8 w64) scalar.DateTime (signed_codec 8 w64 (omega arith))
scalar_codec flat.Guid = mapped guid guid_at scalar.Guid guid_codec
scalar_codec flat.ByteString = mapped text text_at scalar.ByteString text_codec
scalar_codec flat.XmlElement = mapped text text_at scalar.XmlElement text_codec
scalar_codec flat.NodeId = mapped node_id node_at scalar.NodeId node_codec
scalar_codec flat.ExpandedNodeId = mapped expanded_node_id expanded_at scalar.ExpandedNodeId expanded_codec
scalar_codec flat.StatusCode = mapped (number 4) (number_at 4) scalar.StatusCode number32_codec
scalar_codec flat.QualifiedName = mapped qualified_name qualified_at scalar.QualifiedName qualified_codec
scalar_codec flat.LocalizedText = mapped localized_text localized_at scalar.LocalizedText localized_codec
scalar_codec flat.ExtensionObject = mapped extension_object extension_at scalar.ExtensionObject extension_codec

pub flat_array_codec : (f : Flat) → IsCodec (array_spells f) (flat_array_at f)
flat_array_codec flat.Boolean = mapped (array boolean) (array_at boolean_at) array.Boolean (array_codec boolean boolean_at boolean_codec)
flat_array_codec flat.SByte = mapped (array (signed 1 w8)) (array_at (signed_at 1 w8)) array.SByte (array_codec (signed 1 w8) (signed_at 1 w8) (signed_codec 1 w8 (omega arith)))
flat_array_codec flat.Byte = mapped (array (number 1)) (array_at (number_at 1)) array.Byte (array_codec (number 1) (number_at 1) byte_codec)
flat_array_codec flat.Int16 = mapped (array (signed 2 w16)) (array_at (signed_at 2 w16)) array.Int16 (array_codec (signed 2 w16) (signed_at 2 w16) (signed_codec 2 w16 (omega arith)))
flat_array_codec flat.UInt16 = mapped (array (number 2)) (array_at (number_at 2)) array.UInt16 (array_codec (number 2) (number_at 2) number16_codec)
flat_array_codec flat.Int32 = mapped (array (signed 4 w32)) (array_at (signed_at 4 w32)) array.Int32 (array_codec (signed 4 w32) (signed_at 4 w32) (signed_codec 4 w32 (omega arith)))
flat_array_codec flat.UInt32 = mapped (array (number 4)) (array_at (number_at 4)) array.UInt32 (array_codec (number 4) (number_at 4) number32_codec)
flat_array_codec flat.Int64 = mapped (array (signed 8 w64)) (array_at (signed_at 8 w64)) array.Int64 (array_codec (signed 8 w64) (signed_at 8 w64) (signed_codec 8 w64 (omega arith)))
flat_array_codec flat.UInt64 = mapped (array (number 8)) (array_at (number_at 8)) array.UInt64 (array_codec (number 8) (number_at 8) number64_codec)
flat_array_codec flat.Float = mapped (array (number 4)) (array_at (number_at 4)) array.Float (array_codec (number 4) (number_at 4) number32_codec)
flat_array_codec flat.Double = mapped (array (number 8)) (array_at (number_at 8)) array.Double (array_codec (number 8) (number_at 8) number64_codec)
flat_array_codec flat.String = mapped (array text) (array_at text_at) array.String (array_codec text text_at text_codec)
flat_array_codec flat.DateTime = mapped (array (signed 8 w64)) (array_at (signed_at 8 w64)) array.DateTime (array_codec (signed 8 w64) (signed_at 8 w64) (signed_codec 8 w64 (omega arith)))
flat_array_codec flat.Guid = mapped (array guid) (array_at guid_at) array.Guid (array_codec guid guid_at guid_codec)
flat_array_codec flat.ByteString = mapped (array text) (array_at text_at) array.ByteString (array_codec text text_at text_codec)
flat_array_codec flat.XmlElement = mapped (array text) (array_at text_at) array.XmlElement (array_codec text text_at text_codec)
flat_array_codec flat.NodeId = mapped (array node_id) (array_at node_at) array.NodeId (array_codec node_id node_at node_codec)
flat_array_codec flat.ExpandedNodeId = mapped (array expanded_node_id) (array_at expanded_at) array.ExpandedNodeId (array_codec expanded_node_id expanded_at expanded_codec)
flat_array_codec flat.StatusCode = mapped (array (number 4)) (array_at (number_at 4)) array.StatusCode (array_codec (number 4) (number_at 4) number32_codec)
flat_array_codec flat.QualifiedName = mapped (array qualified_name) (array_at qualified_at) array.QualifiedName (array_codec qualified_name qualified_at qualified_codec)
flat_array_codec flat.LocalizedText = mapped (array localized_text) (array_at localized_at) array.LocalizedText (array_codec localized_text localized_at localized_codec)
flat_array_codec flat.ExtensionObject = mapped (array extension_object) (array_at extension_at) array.ExtensionObject (array_codec extension_object extension_at extension_codec)

-- a number that is cut off has fewer bytes
pub number_reads : (w : ℕ) → zero < w → Reads (number w) (λ front. length front < w) (number_at w)
number_reads w some = reads_as (field w any) (number w) (λ front. length front < w) (λ front. length front < w) (number_at w)
    (λ n bytes s. (s.2.0, s.2.1 ∙ fine_is s.0 n s.1)) (λ n bytes s. (n, refl, s)) (λ bytes cut. cut) (field_reads w any (number_field w some))

-- ---- dimensions

and_both : (a b : Bool) → (a && b) ≡ true → (a ≡ true) × (b ≡ true)
and_both true b e = (refl, e)
and_both false b e = absurd cc

below : (n m : ℕ) → ltb n m ≡ true → n < m
below n m e = grind (arith, nat_tests)

below_back : (n m : ℕ) → n < m → ltb n m ≡ true
below_back n m lt = grind (arith, nat_tests)

each_below : (sizes : List ℕ) → none_negative sizes ≡ true → AllByRecursion (λ n. n < 2 ^ 31) sizes
each_below [] e = tt
each_below (n ∷ more) e =
    let both = and_both (ltb n (2 ^ 31)) (none_negative more) e in
    (below n (2 ^ 31) both.0, each_below more both.1)

all_below : (sizes : List ℕ) → AllByRecursion (λ n. n < 2 ^ 31) sizes → none_negative sizes ≡ true
all_below [] each = refl
all_below (n ∷ more) each = rw (below_back n (2 ^ 31) each.0, all_below more each.1) refl

abbrev judged_list : Bool → List ℕ → Result (List ℕ) ℕ
judged_list b sizes = cond b (Ok sizes) (Err bad_decoding_error)

sizes_are : (count : ℕ) (sizes kept : List ℕ) (b : Bool) → (none_negative sizes && eqb (product sizes) count) ≡ b → judged_list b sizes ≡ Ok kept
    → (sizes ≡ kept) × AllByRecursion (λ n. n < 2 ^ 31) sizes × (product sizes ≡ count)
sizes_are count sizes kept true test e =
    let both = and_both (none_negative sizes) (eqb (product sizes) count) test in
    (fine_is sizes kept e, each_below sizes both.0, eqb-true (product sizes) count both.1)
sizes_are count sizes kept false test e = absurd (failed_not kept bad_decoding_error e)

sizes_say : (count : ℕ) (sizes : List ℕ) → AllByRecursion (λ n. n < 2 ^ 31) sizes → product sizes ≡ count → judged_sizes count sizes ≡ Ok sizes
sizes_say count sizes each is =
    let same : eqb (product sizes) count ≡ true = grind (arith, nat_tests) in
    rw (all_below sizes each, same) refl

sizes_refuse : (sizes : List ℕ) (code : ℕ) (b : Bool) → judged_list b sizes ≡ Err code → code ≡ bad_decoding_error
sizes_refuse sizes code true e = absurd cc
sizes_refuse sizes code false e = sym (err_is {A = List ℕ} bad_decoding_error code e)

numbers_length : (sizes bytes : List ℕ) → elements (number 4) sizes bytes → length bytes ≡ length sizes * 4
numbers_length [] bytes e = ap length e
numbers_length (n ∷ more) bytes e = omega (arith, ap length e.whole, length-append e.front e.back, e.first.0, numbers_length more e.back e.second)

list_length : (most : ℕ) (sizes bytes : List ℕ) → array_within most (number 4) sizes bytes → (n : ℕ) × (length bytes ≡ 4 + n * 4)
list_length most sizes bytes (inl none) = (0, omega (arith, none.3.0))
list_length most sizes bytes (inr some) = (length sizes, omega (arith, ap length some.1.whole, length-append some.1.front some.1.back, some.1.first.0, numbers_length sizes some.1.back some.1.second))

pub dimensions_reads : (count : ℕ) → Reads (dimensions count) (Begun (array_within most_dimensions (number 4))) (dimensions_at count)
dimensions_reads count =
    reads_as (Checked (array_within most_dimensions (number 4)) (judged_sizes count)) (dimensions count) (Begun (array_within most_dimensions (number 4))) (Begun (array_within most_dimensions (number 4))) (dimensions_at count)
    (λ sizes bytes c.
    let is = sizes_are count c.0 sizes (none_negative c.0 && eqb (product c.0) count) refl c.1 in
    (subst (λ (l : List ℕ). AllByRecursion (λ n. n < 2 ^ 31) l) is.0 is.1, ap product (sym is.0) ∙ is.2, subst (λ (l : List ℕ). array_within most_dimensions (number 4) l bytes) is.0 c.2))
    (λ sizes bytes d. (sizes, sizes_say count sizes d.0 d.1, d.2))
    (λ bytes cut. cut)
    (checked_reads (array_within most_dimensions (number 4)) (Begun (array_within most_dimensions (number 4))) (array_within_at most_dimensions (number_at 4)) (judged_sizes count)
    (reads (array_within most_dimensions (number 4)) (array_within_at most_dimensions (number_at 4)) (array_within_codec most_dimensions (omega arith) (number 4) (number_at 4) number32_codec))
    (λ sizes bytes code spelled e.
    let long = list_length most_dimensions sizes bytes spelled in
    inr (inr (inl (sizes_refuse sizes code (none_negative sizes && eqb (product sizes) count) e, long.0, long.1)))))

shape_reads : (count : ℕ) (is_there : Bool) → Reads (shape count is_there) (shape_cut is_there) (shape_at count is_there)
shape_reads count is_there =
    reads_optional (made (dimensions count) Some) (Begun (array_within most_dimensions (number 4))) (making Some (dimensions_at count)) None is_there
    (reads_mapped (dimensions count) (Begun (array_within most_dimensions (number 4))) (dimensions_at count) Some (dimensions_reads count))

shaped_reads : {A : Type 0} (S : A → List ℕ → Type 0) (C : List ℕ → Type 0) (at : Reader A) (count : A → ℕ) (is_there : Bool) (make : A → Option (List ℕ) → Variant) → Reads S C at
    → Reads (shaped S count is_there make) (shaped_cut S C is_there) (shaped_at at count is_there make)
shaped_reads S C at count is_there make reader =
    reads_on S C at (λ a. made (shape (count a) is_there) (make a)) (λ a. shape_cut is_there) (λ a. making (make a) (shape_at (count a) is_there)) reader
    (λ a. reads_mapped (shape (count a) is_there) (shape_cut is_there) (shape_at (count a) is_there) (make a) (shape_reads (count a) is_there))

-- ---- DiagnosticInfo

number_or : (b : Bool) → IsCodec (optional b 0 (number 4)) (optional_at b 0 (number_at 4))
number_or b = optional_codec (number 4) (number_at 4) 0 b number32_codec

details_codec : (mask : ℕ) → IsCodec (details mask) (details_at mask)
details_codec mask =
    begins (optional (has_bit 1 mask) 0 (number 4)) (optional_at (has_bit 1 mask) 0 (number_at 4)) (λ d. d.symbolic_id) _ _ (number_or (has_bit 1 mask))
    (λ a. goes_on (λ (d : Details). d.symbolic_id ≡ a) (optional (has_bit 2 mask) 0 (number 4)) (optional_at (has_bit 2 mask) 0 (number_at 4)) (λ d. d.namespace_uri) _ _ (number_or (has_bit 2 mask))
    (λ b. goes_on (λ (d : Details). (d.symbolic_id ≡ a) × (d.namespace_uri ≡ b)) (optional (has_bit 4 mask) 0 (number 4)) (optional_at (has_bit 4 mask) 0 (number_at 4)) (λ d. d.locale) _ _ (number_or (has_bit 4 mask))
    (λ c. goes_on (λ (d : Details). ((d.symbolic_id ≡ a) × (d.namespace_uri ≡ b)) × (d.locale ≡ c)) (optional (has_bit 8 mask) 0 (number 4)) (optional_at (has_bit 8 mask) 0 (number_at 4)) (λ d. d.localized_text) _ _ (number_or (has_bit 8 mask))
    (λ e. goes_on (λ (d : Details). (((d.symbolic_id ≡ a) × (d.namespace_uri ≡ b)) × (d.locale ≡ c)) × (d.localized_text ≡ e)) (optional (has_bit 16 mask) None text) (optional_at (has_bit 16 mask) None text_at) (λ d. d.additional_info) _ _ (optional_codec text text_at None (has_bit 16 mask) text_codec)
    (λ f. ends (λ (d : Details). ((((d.symbolic_id ≡ a) × (d.namespace_uri ≡ b)) × (d.locale ≡ c)) × (d.localized_text ≡ e)) × (d.additional_info ≡ f)) (optional (has_bit 32 mask) 0 (number 4)) (optional_at (has_bit 32 mask) 0 (number_at 4)) (λ d. d.inner_status)
    (λ g. record { symbolic_id = a; namespace_uri = b; locale = c; localized_text = e; additional_info = f; inner_status = g })
    (λ g. ((((refl, refl), refl), refl), refl)) (λ g. refl) (λ d known. rw (← known.0.0.0.0, ← known.0.0.0.1, ← known.0.0.1, ← known.0.1, ← known.1) refl) (number_or (has_bit 32 mask)))))))

pub diagnostic_reads : (levels : ℕ) → Reads (diagnostic_info levels) (diagnostic_cut levels) (diagnostic_at levels)
unfolding diagnostic_info diagnostic_cut diagnostic_at
diagnostic_reads zero = refused_reads bad_encoding_limits_exceeded (inr (inr (inr (refl, refl))))
diagnostic_reads (suc levels) =
    reads_on (number 1) (λ front. length front < 1) (number_at 1)
    (λ mask. Chained (details mask) (λ known. optional (has_bit 64 mask) (record {}) (diagnostic_info levels)))
    (λ mask. ChainCut (details mask) (Begun (details mask)) (λ known. optional_cut (has_bit 64 mask) (diagnostic_cut levels)))
    (λ mask. details_at mask >>= λ known. optional_at (has_bit 64 mask) (record {}) (diagnostic_at levels))
    (number_reads 1 (omega arith))
    (λ mask. reads_on (details mask) (Begun (details mask)) (details_at mask) (λ known. optional (has_bit 64 mask) (record {}) (diagnostic_info levels)) (λ known. optional_cut (has_bit 64 mask) (diagnostic_cut levels))
    (λ known. optional_at (has_bit 64 mask) (record {}) (diagnostic_at levels)) (reads (details mask) (details_at mask) (details_codec mask))
    (λ known. reads_optional (diagnostic_info levels) (diagnostic_cut levels) (diagnostic_at levels) (record {}) (has_bit 64 mask) (diagnostic_reads levels)))

-- ---- DataValue

some_or : {A : Type 0} (S : A → List ℕ → Type 0) (at : Reader A) (b : Bool) → IsCodec S at → IsCodec (optional b None (made S Some)) (optional_at b None (making Some at))
some_or S at b codec = optional_codec (made S Some) (making Some at) None b (mapped S at Some codec)

date_codec : IsCodec (signed 8 w64) (signed_at 8 w64)
date_codec = signed_codec 8 w64 (omega arith)

stamps_codec : (mask : ℕ) → IsCodec (stamps mask) (stamps_at mask)
stamps_codec mask =
    begins (optional (has_bit 2 mask) None (made (number 4) Some)) (optional_at (has_bit 2 mask) None (making Some (number_at 4))) (λ s. s.status) _ _ (some_or (number 4) (number_at 4) (has_bit 2 mask) number32_codec)
    (λ a. goes_on (λ (s : Stamps). s.status ≡ a) (optional (has_bit 4 mask) None (made (signed 8 w64) Some)) (optional_at (has_bit 4 mask) None (making Some (signed_at 8 w64))) (λ s. s.source_timestamp) _ _ (some_or (signed 8 w64) (signed_at 8 w64) (has_bit 4 mask) date_codec)
    (λ b. goes_on (λ (s : Stamps). (s.status ≡ a) × (s.source_timestamp ≡ b)) (optional (has_bit 16 mask) None (made (number 2) Some)) (optional_at (has_bit 16 mask) None (making Some (number_at 2))) (λ s. s.source_picoseconds) _ _ (some_or (number 2) (number_at 2) (has_bit 16 mask) number16_codec)
    (λ c. goes_on (λ (s : Stamps). ((s.status ≡ a) × (s.source_timestamp ≡ b)) × (s.source_picoseconds ≡ c)) (optional (has_bit 8 mask) None (made (signed 8 w64) Some)) (optional_at (has_bit 8 mask) None (making Some (signed_at 8 w64))) (λ s. s.server_timestamp) _ _ (some_or (signed 8 w64) (signed_at 8 w64) (has_bit 8 mask) date_codec)
    (λ d. ends (λ (s : Stamps). (((s.status ≡ a) × (s.source_timestamp ≡ b)) × (s.source_picoseconds ≡ c)) × (s.server_timestamp ≡ d)) (optional (has_bit 32 mask) None (made (number 2) Some)) (optional_at (has_bit 32 mask) None (making Some (number_at 2))) (λ s. s.server_picoseconds)
    (λ e. record { status = a; source_timestamp = b; source_picoseconds = c; server_timestamp = d; server_picoseconds = e })
    (λ e. (((refl, refl), refl), refl)) (λ e. refl) (λ s known. rw (← known.0.0.0, ← known.0.0.1, ← known.0.1, ← known.1) refl) (some_or (number 2) (number_at 2) (has_bit 32 mask) number16_codec)))))

data_value_by_reads : (S : Variant → List ℕ → Type 0) (C : List ℕ → Type 0) (at : Reader Variant) → Reads S C at → Reads (data_value_by S) (data_value_cut_by S C) (data_value_by_at at)
data_value_by_reads S C at reader =
    reads_on (number 1) (λ front. length front < 1) (number_at 1)
    (λ mask. made_of (optional (has_bit 1 mask) None (made S Some)) (stamps mask) with_stamps)
    (λ mask. ChainCut (optional (has_bit 1 mask) None (made S Some)) (optional_cut (has_bit 1 mask) C) (λ value. Begun (stamps mask)))
    (λ mask. optional_at (has_bit 1 mask) None (making Some at) >>= λ value. stamps_at mask >>= λ s. give (with_stamps value s))
    (number_reads 1 (omega arith))
    (λ mask. reads_made_of (optional (has_bit 1 mask) None (made S Some)) (optional_cut (has_bit 1 mask) C) (optional_at (has_bit 1 mask) None (making Some at)) (stamps mask) (Begun (stamps mask)) (stamps_at mask) with_stamps
    (reads_optional (made S Some) C (making Some at) None (has_bit 1 mask) (reads_mapped S C at Some reader)) (reads (stamps mask) (stamps_at mask) (stamps_codec mask)))

-- ---- Variant

body_reads : (S : Variant → List ℕ → Type 0) (C : List ℕ → Type 0) (at : Reader Variant) (T : Stamped Variant → List ℕ → Type 0) (D : List ℕ → Type 0) (stamped : Reader (Stamped Variant)) → Reads S C at → Reads T D stamped
    → (h : Head) → Reads (body S T h) (body_cut S C T D h) (body_at at stamped h)
body_reads S C at T D stamped inner outer head.Null = give_reads variant.Null
body_reads S C at T D stamped inner outer (head.One (kind.Flat f)) = reads_mapped (scalar_spells f) (Begun (scalar_spells f)) (scalar_at f) variant.Scalar (reads (scalar_spells f) (scalar_at f) (scalar_codec f))
body_reads S C at T D stamped inner outer (head.One kind.DataValue) = reads_mapped T D stamped variant.DataValue outer
body_reads S C at T D stamped inner outer (head.One kind.Variant) = reads_mapped S C at variant.Variant inner
body_reads S C at T D stamped inner outer (head.One kind.DiagnosticInfo) = reads_mapped (diagnostic_info 101) (diagnostic_cut 101) (diagnostic_at 101) (λ d. variant.DiagnosticInfo) (diagnostic_reads 101)
body_reads S C at T D stamped inner outer (head.Many (kind.Flat f) is_there) = shaped_reads (array_spells f) (Begun (array_spells f)) (flat_array_at f) count_of_array is_there variant.Array (reads (array_spells f) (flat_array_at f) (flat_array_codec f))
body_reads S C at T D stamped inner outer (head.Many kind.DataValue is_there) = shaped_reads (array T) (array_cut most_items T D) (array_at stamped) length is_there variant.DataValues (list_reads T D stamped outer)
body_reads S C at T D stamped inner outer (head.Many kind.Variant is_there) = shaped_reads (array S) (array_cut most_items S C) (array_at at) length is_there variant.Variants (list_reads S C at inner)
body_reads S C at T D stamped inner outer (head.Many kind.DiagnosticInfo is_there) =
    shaped_reads (array (diagnostic_info 101)) (array_cut most_items (diagnostic_info 101) (diagnostic_cut 101)) (array_at (diagnostic_at 101)) length is_there (λ ds. variant.DiagnosticInfos (length ds)) (list_reads (diagnostic_info 101) (diagnostic_cut 101) (diagnostic_at 101) (diagnostic_reads 101))

-- both at once, by the levels that may follow
pub record ReadsBoth (levels : ℕ) : Type 0 where
  pub variant : Reads (variant_spells levels) (variant_cut levels) (variant_at levels)
  pub stamped : Reads (data_value levels) (data_value_cut levels) (data_value_at levels)

pub reads_both : (levels : ℕ) → ReadsBoth levels
unfolding variant_spells data_value variant_cut data_value_cut variant_at data_value_at
reads_both zero = record { variant = refused_reads bad_encoding_limits_exceeded (inr (inr (inr (refl, refl)))); stamped = refused_reads bad_encoding_limits_exceeded (inr (inr (inr (refl, refl)))) }
reads_both (suc levels) =
    let below = reads_both levels in
    record {
      variant = reads_on (λ h. number 1 (head_number h)) (λ front. length front < 1) (field_at 1 head_of) (body (variant_spells levels) (data_value levels)) (body_cut (variant_spells levels) (variant_cut levels) (data_value levels) (data_value_cut levels))
          (body_at (variant_at levels) (data_value_at levels)) head_reads
          (body_reads (variant_spells levels) (variant_cut levels) (variant_at levels) (data_value levels) (data_value_cut levels) (data_value_at levels) below.variant below.stamped);
      stamped = data_value_by_reads (variant_spells levels) (variant_cut levels) (variant_at levels) below.variant;
    }
