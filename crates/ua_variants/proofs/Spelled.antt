-- Written spellings are spellings.
use Rattle.std.proofs.Common.{◌≡◌, ℕ, ℤ, zero, suc, ◌+◌, ◌%◌, ◌^◌, ◌≤◌, ◌<◌, Bool, true, false, List, [], ◌++◌, length, replicate, Option, Some, None, FitsSigned, IfSome, refl, sym, ap, ap₂, subst, ◌∙◌, append_assoc, arith}
use Rattle.std.specs.Int.{w8, w16, w32, w64}
use Rattle.std.specs.List.{flat_map, AllByRecursion}
use Rattle.std.specs.Option.{is_some}
use Rattle.std.proofs.lemmas.List.{length-replicate}
use Rattle.std.proofs.lemmas.List.Concat.{flat_map-cons}
use Rattle.byteorder.specs.Endian.{little_bytes}
use Rattle.ua_values.specs.Limits.{most_items}
use Rattle.ua_values.specs.Parts.{number, optional, Chained, text, array}
use Rattle.ua_values.specs.Readers.{has_bit}
use Rattle.ua_values.specs.Types.{boolean, signed, guid, node_id, expanded_node_id, qualified_name, localized_text, extension_object}
use Rattle.ua_values.specs.Written.{written_boolean, written_signed, written_guid, written_text, written_array, written_node, flag, written_expanded, written_qualified, written_localized, written_extension}
use Rattle.ua_values.specs.Laws.{KeepsText, KeepsGuid, KeepsNode, KeepsExpanded, KeepsQualified, KeepsLocalized, KeepsExtension}
use Rattle.ua_values.proofs.WrittenLemmas.{in_turn, number_spelled, number1, boolean_spelled, guid_spelled, signed_spelled, text_spelled, node_spelled, expanded_spelled, qualified_spelled, localized_spelled, extension_spelled, array_within_spelled, array_spelled}
use Rattle.ua_variants.specs.Limits.{most_dimensions}
use Rattle.ua_variants.specs.declared.variant.Scalar.{Scalar}
use Rattle.ua_variants.specs.declared.variant.Scalar.TheVariants as scalar
use Rattle.ua_variants.specs.declared.variant.Array.{Array}
use Rattle.ua_variants.specs.declared.variant.Array.TheVariants as array
use Rattle.ua_variants.specs.declared.variant.Variant.{Variant, out-Variant, roll-Variant, roll-out-Variant}
use Rattle.ua_variants.specs.declared.variant.Variant.TheOpen.{Variant-F}
use Rattle.ua_variants.specs.declared.variant.Variant.TheVariants as variant
use Rattle.ua_variants.specs.declared.variant.Variant.TheVariants.{rolls-Null, rolls-Scalar, rolls-Variant, rolls-DataValue, rolls-DiagnosticInfo, rolls-Array, rolls-DataValues, rolls-Variants, rolls-DiagnosticInfos}
use Rattle.ua_variants.specs.declared.variant.Stamped.{Stamped}
use Rattle.ua_variants.specs.declared.variant.Stamps.{Stamps}
use Rattle.ua_variants.specs.declared.variant.DiagnosticInfo.{DiagnosticInfo}
use Rattle.ua_variants.specs.declared.head.Kind.{Kind}
use Rattle.ua_variants.specs.declared.head.Kind.TheVariants as kind
use Rattle.ua_variants.specs.declared.head.Head.{Head}
use Rattle.ua_variants.specs.declared.head.Head.TheVariants as head
use Rattle.ua_variants.specs.Kinds.{head_number}
use Rattle.ua_variants.specs.Grammar.{made, scalar_spells, array_spells, count_of_array, shape, shaped, diagnostic_info, stamps, data_value_by, body, variant_spells, data_value}
use Rattle.ua_variants.specs.Spelling.{flat_of, flat_of_array, written_scalar, written_flat_array, written_shape, written_head, written_some, mask_of, written_stamps, written_variant, written_data_value}
use Rattle.ua_variants.specs.Keeps.{KeepsScalar, KeepsFlatArray, KeepsShape, KeepsStamps, KeepsStamped, KeepsLayer, KeepsVariant, KeepsDataValue}
use Rattle.ua_variants.proofs.Heads.{kind_fits}
use Rattle.ua_variants.proofs.Layers.{written_null, written_one, written_inner, written_inner_data, written_diagnostic, written_many, written_many_data, written_many_inner, written_diagnostics}

-- ---- types whose values hold no others

boolean_is : (x : Bool) → Unit {0} → boolean x (written_boolean x)
boolean_is = (λ b kept. boolean_spelled b)

sbyte_is : (x : ℤ) → FitsSigned w8 x → signed 1 w8 x (written_signed 1 w8 x)
sbyte_is = (λ z fits. signed_spelled 1 w8 z fits (λ m lt. omega arith))

byte_is : (x : ℕ) → x < 2 ^ 8 → number 1 x (little_bytes 1 x)
byte_is = (λ n lt. number_spelled 1 n (omega (arith, lt)))

int16_is : (x : ℤ) → FitsSigned w16 x → signed 2 w16 x (written_signed 2 w16 x)
int16_is = (λ z fits. signed_spelled 2 w16 z fits (λ m lt. omega arith))

uint16_is : (x : ℕ) → x < 2 ^ 16 → number 2 x (little_bytes 2 x)
uint16_is = (λ n lt. number_spelled 2 n (omega (arith, lt)))

int32_is : (x : ℤ) → FitsSigned w32 x → signed 4 w32 x (written_signed 4 w32 x)
int32_is = (λ z fits. signed_spelled 4 w32 z fits (λ m lt. omega arith))

uint32_is : (x : ℕ) → x < 2 ^ 32 → number 4 x (little_bytes 4 x)
uint32_is = (λ n lt. number_spelled 4 n (omega (arith, lt)))

int64_is : (x : ℤ) → FitsSigned w64 x → signed 8 w64 x (written_signed 8 w64 x)
int64_is = (λ z fits. signed_spelled 8 w64 z fits (λ m lt. omega arith))

uint64_is : (x : ℕ) → x < 2 ^ 64 → number 8 x (little_bytes 8 x)
uint64_is = (λ n lt. number_spelled 8 n (omega (arith, lt)))

scalar_spelled : (s : Scalar) → KeepsScalar s → scalar_spells (flat_of s) s (written_scalar s)
scalar_spelled (scalar.Boolean x) kept = (x, refl, boolean_is x kept)
scalar_spelled (scalar.SByte x) kept = (x, refl, sbyte_is x kept)
scalar_spelled (scalar.Byte x) kept = (x, refl, byte_is x kept)
scalar_spelled (scalar.Int16 x) kept = (x, refl, int16_is x kept)
scalar_spelled (scalar.UInt16 x) kept = (x, refl, uint16_is x kept)
scalar_spelled (scalar.Int32 x) kept = (x, refl, int32_is x kept)
scalar_spelled (scalar.UInt32 x) kept = (x, refl, uint32_is x kept)
scalar_spelled (scalar.Int64 x) kept = (x, refl, int64_is x kept)
scalar_spelled (scalar.UInt64 x) kept = (x, refl, uint64_is x kept)
scalar_spelled (scalar.Float x) kept = (x, refl, uint32_is x kept)
scalar_spelled (scalar.Double x) kept = (x, refl, uint64_is x kept)
scalar_spelled (scalar.String x) kept = (x, refl, text_spelled x kept)
scalar_spelled (scalar.DateTime x) kept = (x, refl, int64_is x kept)
scalar_spelled (scalar.Guid x) kept = (x, refl, guid_spelled x kept)
scalar_spelled (scalar.ByteString x) kept = (x, refl, text_spelled x kept)
scalar_spelled (scalar.XmlElement x) kept = (x, refl, text_spelled x kept)
scalar_spelled (scalar.NodeId x) kept = (x, refl, node_spelled x kept)
scalar_spelled (scalar.ExpandedNodeId x) kept = (x, refl, expanded_spelled x kept)
scalar_spelled (scalar.StatusCode x) kept = (x, refl, uint32_is x kept)
scalar_spelled (scalar.QualifiedName x) kept = (x, refl, qualified_spelled x kept)
scalar_spelled (scalar.LocalizedText x) kept = (x, refl, localized_spelled x kept)
scalar_spelled (scalar.ExtensionObject x) kept = (x, refl, extension_spelled x kept)

flat_array_spelled : (a : Array) → KeepsFlatArray a → array_spells (flat_of_array a) a (written_flat_array a)
flat_array_spelled (array.Boolean items) kept = (items, refl, array_spelled (λ b. Unit {0}) boolean written_boolean boolean_is items kept)
flat_array_spelled (array.SByte items) kept = (items, refl, array_spelled (FitsSigned w8) (signed 1 w8) (written_signed 1 w8) sbyte_is items kept)
flat_array_spelled (array.Byte items) kept = (items, refl, array_spelled (λ n. n < 2 ^ 8) (number 1) (little_bytes 1) byte_is items kept)
flat_array_spelled (array.Int16 items) kept = (items, refl, array_spelled (FitsSigned w16) (signed 2 w16) (written_signed 2 w16) int16_is items kept)
flat_array_spelled (array.UInt16 items) kept = (items, refl, array_spelled (λ n. n < 2 ^ 16) (number 2) (little_bytes 2) uint16_is items kept)
flat_array_spelled (array.Int32 items) kept = (items, refl, array_spelled (FitsSigned w32) (signed 4 w32) (written_signed 4 w32) int32_is items kept)
flat_array_spelled (array.UInt32 items) kept = (items, refl, array_spelled (λ n. n < 2 ^ 32) (number 4) (little_bytes 4) uint32_is items kept)
flat_array_spelled (array.Int64 items) kept = (items, refl, array_spelled (FitsSigned w64) (signed 8 w64) (written_signed 8 w64) int64_is items kept)
flat_array_spelled (array.UInt64 items) kept = (items, refl, array_spelled (λ n. n < 2 ^ 64) (number 8) (little_bytes 8) uint64_is items kept)
flat_array_spelled (array.Float items) kept = (items, refl, array_spelled (λ n. n < 2 ^ 32) (number 4) (little_bytes 4) uint32_is items kept)
flat_array_spelled (array.Double items) kept = (items, refl, array_spelled (λ n. n < 2 ^ 64) (number 8) (little_bytes 8) uint64_is items kept)
flat_array_spelled (array.String items) kept = (items, refl, array_spelled KeepsText text written_text text_spelled items kept)
flat_array_spelled (array.DateTime items) kept = (items, refl, array_spelled (FitsSigned w64) (signed 8 w64) (written_signed 8 w64) int64_is items kept)
flat_array_spelled (array.Guid items) kept = (items, refl, array_spelled KeepsGuid guid written_guid guid_spelled items kept)
flat_array_spelled (array.ByteString items) kept = (items, refl, array_spelled KeepsText text written_text text_spelled items kept)
flat_array_spelled (array.XmlElement items) kept = (items, refl, array_spelled KeepsText text written_text text_spelled items kept)
flat_array_spelled (array.NodeId items) kept = (items, refl, array_spelled KeepsNode node_id written_node node_spelled items kept)
flat_array_spelled (array.ExpandedNodeId items) kept = (items, refl, array_spelled KeepsExpanded expanded_node_id written_expanded expanded_spelled items kept)
flat_array_spelled (array.StatusCode items) kept = (items, refl, array_spelled (λ n. n < 2 ^ 32) (number 4) (little_bytes 4) uint32_is items kept)
flat_array_spelled (array.QualifiedName items) kept = (items, refl, array_spelled KeepsQualified qualified_name written_qualified qualified_spelled items kept)
flat_array_spelled (array.LocalizedText items) kept = (items, refl, array_spelled KeepsLocalized localized_text written_localized localized_spelled items kept)
flat_array_spelled (array.ExtensionObject items) kept = (items, refl, array_spelled KeepsExtension extension_object written_extension extension_spelled items kept)

-- ---- the first byte, and dimensions

head_fits : (h : Head) → head_number h < 256
head_fits head.Null = omega arith
head_fits (head.One k) = omega (arith, (kind_fits k).small)
head_fits (head.Many k false) = omega (arith, (kind_fits k).small)
head_fits (head.Many k true) = omega (arith, (kind_fits k).small)

head_spelled : (h : Head) → number 1 (head_number h) (little_bytes 1 (head_number h))
head_spelled h = number1 (head_number h) (head_fits h)

shape_spelled : (count : ℕ) (sizes : Option (List ℕ)) → KeepsShape count sizes → shape count (is_some sizes) sizes (written_shape sizes)
shape_spelled count None kept = (refl, refl)
shape_spelled count (Some sizes) kept = (sizes, refl, (kept.1, kept.2, array_within_spelled most_dimensions (omega arith) (λ (n : ℕ). n < 2 ^ 31) (number 4) (little_bytes 4) (λ n lt. number_spelled 4 n (omega (arith, lt))) sizes (kept.0, kept.1)))

shaped_spelled : {A : Type 0} (S : A → List ℕ → Type 0) (count : A → ℕ) (make : A → Option (List ℕ) → Variant) (a : A) (sizes : Option (List ℕ)) (text : List ℕ) → S a text → KeepsShape (count a) sizes
    → shaped S count (is_some sizes) make (make a sizes) (text ++ written_shape sizes)
shaped_spelled S count make a sizes text spelled kept =
    record { value = a; parts = record { front = text; back = written_shape sizes; first = spelled; second = (sizes, refl, shape_spelled (count a) sizes kept); whole = refl } }

-- ---- DataValue

pub record MaskBits (m : ℕ) (a b c d e f : Bool) : Type 0 where
  pub value : has_bit 1 m ≡ a
  pub status : has_bit 2 m ≡ b
  pub source : has_bit 4 m ≡ c
  pub source_pico : has_bit 16 m ≡ d
  pub server : has_bit 8 m ≡ e
  pub server_pico : has_bit 32 m ≡ f
  pub small : m < 256

mask_bits : (a b c d e f : Bool) → MaskBits (flag 1 a + flag 2 b + flag 4 c + flag 16 d + flag 8 e + flag 32 f) a b c d e f
mask_bits true true true true true true = record { value = refl; status = refl; source = refl; source_pico = refl; server = refl; server_pico = refl; small = omega arith }
mask_bits true true true true true false = record { value = refl; status = refl; source = refl; source_pico = refl; server = refl; server_pico = refl; small = omega arith }
mask_bits true true true true false true = record { value = refl; status = refl; source = refl; source_pico = refl; server = refl; server_pico = refl; small = omega arith }
mask_bits true true true true false false = record { value = refl; status = refl; source = refl; source_pico = refl; server = refl; server_pico = refl; small = omega arith }
mask_bits true true true false true true = record { value = refl; status = refl; source = refl; source_pico = refl; server = refl; server_pico = refl; small = omega arith }
mask_bits true true true false true false = record { value = refl; status = refl; source = refl; source_pico = refl; server = refl; server_pico = refl; small = omega arith }
mask_bits true true true false false true = record { value = refl; status = refl; source = refl; source_pico = refl; server = refl; server_pico = refl; small = omega arith }
mask_bits true true true false false false = record { value = refl; status = refl; source = refl; source_pico = refl; server = refl; server_pico = refl; small = omega arith }
mask_bits true true false true true true = record { value = refl; status = refl; source = refl; source_pico = refl; server = refl; server_pico = refl; small = omega arith }
mask_bits true true false true true false = record { value = refl; status = refl; source = refl; source_pico = refl; server = refl; server_pico = refl; small = omega arith }
mask_bits true true false true false true = record { value = refl; status = refl; source = refl; source_pico = refl; server = refl; server_pico = refl; small = omega arith }
mask_bits true true false true false false = record { value = refl; status = refl; source = refl; source_pico = refl; server = refl; server_pico = refl; small = omega arith }
mask_bits true true false false true true = record { value = refl; status = refl; source = refl; source_pico = refl; server = refl; server_pico = refl; small = omega arith }
mask_bits true true false false true false = record { value = refl; status = refl; source = refl; source_pico = refl; server = refl; server_pico = refl; small = omega arith }
mask_bits true true false false false true = record { value = refl; status = refl; source = refl; source_pico = refl; server = refl; server_pico = refl; small = omega arith }
mask_bits true true false false false false = record { value = refl; status = refl; source = refl; source_pico = refl; server = refl; server_pico = refl; small = omega arith }
mask_bits true false true true true true = record { value = refl; status = refl; source = refl; source_pico = refl; server = refl; server_pico = refl; small = omega arith }
mask_bits true false true true true false = record { value = refl; status = refl; source = refl; source_pico = refl; server = refl; server_pico = refl; small = omega arith }
mask_bits true false true true false true = record { value = refl; status = refl; source = refl; source_pico = refl; server = refl; server_pico = refl; small = omega arith }
mask_bits true false true true false false = record { value = refl; status = refl; source = refl; source_pico = refl; server = refl; server_pico = refl; small = omega arith }
mask_bits true false true false true true = record { value = refl; status = refl; source = refl; source_pico = refl; server = refl; server_pico = refl; small = omega arith }
mask_bits true false true false true false = record { value = refl; status = refl; source = refl; source_pico = refl; server = refl; server_pico = refl; small = omega arith }
mask_bits true false true false false true = record { value = refl; status = refl; source = refl; source_pico = refl; server = refl; server_pico = refl; small = omega arith }
mask_bits true false true false false false = record { value = refl; status = refl; source = refl; source_pico = refl; server = refl; server_pico = refl; small = omega arith }
mask_bits true false false true true true = record { value = refl; status = refl; source = refl; source_pico = refl; server = refl; server_pico = refl; small = omega arith }
mask_bits true false false true true false = record { value = refl; status = refl; source = refl; source_pico = refl; server = refl; server_pico = refl; small = omega arith }
mask_bits true false false true false true = record { value = refl; status = refl; source = refl; source_pico = refl; server = refl; server_pico = refl; small = omega arith }
mask_bits true false false true false false = record { value = refl; status = refl; source = refl; source_pico = refl; server = refl; server_pico = refl; small = omega arith }
mask_bits true false false false true true = record { value = refl; status = refl; source = refl; source_pico = refl; server = refl; server_pico = refl; small = omega arith }
mask_bits true false false false true false = record { value = refl; status = refl; source = refl; source_pico = refl; server = refl; server_pico = refl; small = omega arith }
mask_bits true false false false false true = record { value = refl; status = refl; source = refl; source_pico = refl; server = refl; server_pico = refl; small = omega arith }
mask_bits true false false false false false = record { value = refl; status = refl; source = refl; source_pico = refl; server = refl; server_pico = refl; small = omega arith }
mask_bits false true true true true true = record { value = refl; status = refl; source = refl; source_pico = refl; server = refl; server_pico = refl; small = omega arith }
mask_bits false true true true true false = record { value = refl; status = refl; source = refl; source_pico = refl; server = refl; server_pico = refl; small = omega arith }
mask_bits false true true true false true = record { value = refl; status = refl; source = refl; source_pico = refl; server = refl; server_pico = refl; small = omega arith }
mask_bits false true true true false false = record { value = refl; status = refl; source = refl; source_pico = refl; server = refl; server_pico = refl; small = omega arith }
mask_bits false true true false true true = record { value = refl; status = refl; source = refl; source_pico = refl; server = refl; server_pico = refl; small = omega arith }
mask_bits false true true false true false = record { value = refl; status = refl; source = refl; source_pico = refl; server = refl; server_pico = refl; small = omega arith }
mask_bits false true true false false true = record { value = refl; status = refl; source = refl; source_pico = refl; server = refl; server_pico = refl; small = omega arith }
mask_bits false true true false false false = record { value = refl; status = refl; source = refl; source_pico = refl; server = refl; server_pico = refl; small = omega arith }
mask_bits false true false true true true = record { value = refl; status = refl; source = refl; source_pico = refl; server = refl; server_pico = refl; small = omega arith }
mask_bits false true false true true false = record { value = refl; status = refl; source = refl; source_pico = refl; server = refl; server_pico = refl; small = omega arith }
mask_bits false true false true false true = record { value = refl; status = refl; source = refl; source_pico = refl; server = refl; server_pico = refl; small = omega arith }
mask_bits false true false true false false = record { value = refl; status = refl; source = refl; source_pico = refl; server = refl; server_pico = refl; small = omega arith }
mask_bits false true false false true true = record { value = refl; status = refl; source = refl; source_pico = refl; server = refl; server_pico = refl; small = omega arith }
mask_bits false true false false true false = record { value = refl; status = refl; source = refl; source_pico = refl; server = refl; server_pico = refl; small = omega arith }
mask_bits false true false false false true = record { value = refl; status = refl; source = refl; source_pico = refl; server = refl; server_pico = refl; small = omega arith }
mask_bits false true false false false false = record { value = refl; status = refl; source = refl; source_pico = refl; server = refl; server_pico = refl; small = omega arith }
mask_bits false false true true true true = record { value = refl; status = refl; source = refl; source_pico = refl; server = refl; server_pico = refl; small = omega arith }
mask_bits false false true true true false = record { value = refl; status = refl; source = refl; source_pico = refl; server = refl; server_pico = refl; small = omega arith }
mask_bits false false true true false true = record { value = refl; status = refl; source = refl; source_pico = refl; server = refl; server_pico = refl; small = omega arith }
mask_bits false false true true false false = record { value = refl; status = refl; source = refl; source_pico = refl; server = refl; server_pico = refl; small = omega arith }
mask_bits false false true false true true = record { value = refl; status = refl; source = refl; source_pico = refl; server = refl; server_pico = refl; small = omega arith }
mask_bits false false true false true false = record { value = refl; status = refl; source = refl; source_pico = refl; server = refl; server_pico = refl; small = omega arith }
mask_bits false false true false false true = record { value = refl; status = refl; source = refl; source_pico = refl; server = refl; server_pico = refl; small = omega arith }
mask_bits false false true false false false = record { value = refl; status = refl; source = refl; source_pico = refl; server = refl; server_pico = refl; small = omega arith }
mask_bits false false false true true true = record { value = refl; status = refl; source = refl; source_pico = refl; server = refl; server_pico = refl; small = omega arith }
mask_bits false false false true true false = record { value = refl; status = refl; source = refl; source_pico = refl; server = refl; server_pico = refl; small = omega arith }
mask_bits false false false true false true = record { value = refl; status = refl; source = refl; source_pico = refl; server = refl; server_pico = refl; small = omega arith }
mask_bits false false false true false false = record { value = refl; status = refl; source = refl; source_pico = refl; server = refl; server_pico = refl; small = omega arith }
mask_bits false false false false true true = record { value = refl; status = refl; source = refl; source_pico = refl; server = refl; server_pico = refl; small = omega arith }
mask_bits false false false false true false = record { value = refl; status = refl; source = refl; source_pico = refl; server = refl; server_pico = refl; small = omega arith }
mask_bits false false false false false true = record { value = refl; status = refl; source = refl; source_pico = refl; server = refl; server_pico = refl; small = omega arith }
mask_bits false false false false false false = record { value = refl; status = refl; source = refl; source_pico = refl; server = refl; server_pico = refl; small = omega arith }

some_is_spelled : {A : Type 0} (keeps : A → Type 0) (S : A → List ℕ → Type 0) (written : A → List ℕ) → ((a : A) → keeps a → S a (written a)) → (o : Option A) → IfSome o keeps → optional (is_some o) None (made S Some) o (written_some written o)
some_is_spelled keeps S written each None kept = (refl, refl)
some_is_spelled keeps S written each (Some a) kept = (a, refl, each a kept)

some_spelled : {A : Type 0} (keeps : A → Type 0) (S : A → List ℕ → Type 0) (written : A → List ℕ) → ((a : A) → keeps a → S a (written a)) → (is_there : Bool) (o : Option A) → is_there ≡ is_some o → IfSome o keeps
    → optional is_there None (made S Some) o (written_some written o)
some_spelled {A = A} keeps S written each is_there o is kept = subst (λ (b : Bool). optional b None (made S Some) o (written_some written o)) (sym is) (some_is_spelled keeps S written each o kept)

in_five : (a b c d e : List ℕ) → a ++ b ++ c ++ d ++ e ≡ a ++ (b ++ (c ++ (d ++ e)))
in_five a b c d e = append_assoc (a ++ b ++ c) d e ∙ append_assoc (a ++ b) c (d ++ e) ∙ append_assoc a b (c ++ (d ++ e))

stamps_of : Stamped Variant → Stamps
stamps_of d = record { status = d.status; source_timestamp = d.source_timestamp; source_picoseconds = d.source_picoseconds; server_timestamp = d.server_timestamp; server_picoseconds = d.server_picoseconds }

stamps_spelled : (m : ℕ) (d : Stamped Variant) → MaskBits m (is_some d.value) (is_some d.status) (is_some d.source_timestamp) (is_some d.source_picoseconds) (is_some d.server_timestamp) (is_some d.server_picoseconds) → KeepsStamps d
    → stamps m (stamps_of d) (written_stamps d)
unfolding stamps_of
stamps_spelled m d bits kept =
    let a = written_some (little_bytes 4) d.status in
    let b = written_some (written_signed 8 w64) d.source_timestamp in
    let c = written_some (little_bytes 2) d.source_picoseconds in
    let e = written_some (written_signed 8 w64) d.server_timestamp in
    let f = written_some (little_bytes 2) d.server_picoseconds in
    subst (λ (l : List ℕ). stamps m (stamps_of d) l) (sym (in_five a b c e f))
    (in_turn _ _ a (b ++ (c ++ (e ++ f))) (some_spelled (λ (n : ℕ). n < 2 ^ 32) (number 4) (little_bytes 4) uint32_is (has_bit 2 m) d.status bits.status kept.0)
    (in_turn _ _ b (c ++ (e ++ f)) (some_spelled (FitsSigned w64) (signed 8 w64) (written_signed 8 w64) int64_is (has_bit 4 m) d.source_timestamp bits.source kept.1)
    (in_turn _ _ c (e ++ f) (some_spelled (λ (n : ℕ). n < 2 ^ 16) (number 2) (little_bytes 2) uint16_is (has_bit 16 m) d.source_picoseconds bits.source_pico kept.2)
    (in_turn _ _ e f (some_spelled (FitsSigned w64) (signed 8 w64) (written_signed 8 w64) int64_is (has_bit 8 m) d.server_timestamp bits.server kept.3)
    (some_spelled (λ (n : ℕ). n < 2 ^ 16) (number 2) (little_bytes 2) uint16_is (has_bit 32 m) d.server_picoseconds bits.server_pico kept.4)))))

stamped_spelled : (keeps : Variant → Type 0) (S : Variant → List ℕ → Type 0) → ((v : Variant) → keeps v → S v (written_variant v)) → (d : Stamped Variant) → KeepsStamped keeps d → data_value_by S d (written_data_value d)
unfolding stamps_of
stamped_spelled keeps S each d kept =
    let m = mask_of d in
    let bits = mask_bits (is_some d.value) (is_some d.status) (is_some d.source_timestamp) (is_some d.source_picoseconds) (is_some d.server_timestamp) (is_some d.server_picoseconds) in
    record {
      value = m;
      parts = record {
        front = little_bytes 1 m;
        back = written_some written_variant d.value ++ written_stamps d;
        first = number1 m bits.small;
        second = (d.value, stamps_of d, refl, in_turn _ _ (written_some written_variant d.value) (written_stamps d) (some_spelled keeps S written_variant each (has_bit 1 m) d.value bits.value kept.0) (stamps_spelled m d bits kept.1));
        whole = refl;
      };
    }

-- ---- DiagnosticInfo

pub diagnostic_spelled : (levels : ℕ) (d : DiagnosticInfo) → diagnostic_info (suc levels) d (little_bytes 1 0)
unfolding diagnostic_info
diagnostic_spelled levels d =
    record {
      value = 0;
      parts = record {
        front = little_bytes 1 0;
        back = [];
        first = number1 0 (omega arith);
        second = record {
          value = record { symbolic_id = 0; namespace_uri = 0; locale = 0; localized_text = 0; additional_info = None; inner_status = 0 };
          parts = record {
            front = [];
            back = [];
            first = in_turn _ _ [] [] (refl, refl) (in_turn _ _ [] [] (refl, refl) (in_turn _ _ [] [] (refl, refl) (in_turn _ _ [] [] (refl, refl) (in_turn _ _ [] [] (refl, refl) (refl, refl)))));
            second = (refl, refl);
            whole = refl;
          };
        };
        whole = refl;
      };
    }

-- so many DiagnosticInfos that say nothing
many_nothing : (n : ℕ) → flat_map (little_bytes 1) (replicate n 0) ≡ flat_map (λ (d : DiagnosticInfo). little_bytes 1 0) (replicate n (record {}))
many_nothing zero = refl
many_nothing (suc n) =
    let zeros : List ℕ = replicate n 0 in
    flat_map-cons (little_bytes 1) 0 zeros ∙ ap (λ (l : List ℕ). little_bytes 1 0 ++ l) (many_nothing n) ∙ sym (flat_map-cons (λ (d : DiagnosticInfo). little_bytes 1 0) (record {}) (replicate n (record {})))

each_nothing : (n : ℕ) → AllByRecursion (λ (d : DiagnosticInfo). Unit {0}) (replicate n (record {}))
each_nothing zero = tt
each_nothing (suc n) = (tt, each_nothing n)

diagnostics_spelled : (n : ℕ) → n ≤ most_items → array (diagnostic_info 101) (replicate n (record {})) (written_array (little_bytes 1) (replicate n 0))
diagnostics_spelled n few =
    let zeros : List ℕ = replicate n 0 in
    let nothings : List DiagnosticInfo = replicate n (record {}) in
    let counts : length zeros ≡ length nothings = length-replicate {A = ℕ} n 0 ∙ sym (length-replicate {A = DiagnosticInfo} n (record {})) in
    let same : written_array (little_bytes 1) zeros ≡ written_array (λ (d : DiagnosticInfo). little_bytes 1 0) nothings = ap₂ (λ (m : ℕ) (l : List ℕ). little_bytes 4 (m % 2 ^ 32) ++ l) counts (many_nothing n) in
    subst (λ (l : List ℕ). array (diagnostic_info 101) nothings l) (sym same)
    (array_spelled (λ (d : DiagnosticInfo). Unit {0}) (diagnostic_info 101) (λ (d : DiagnosticInfo). little_bytes 1 0) (λ d kept. diagnostic_spelled 100 d) nothings (omega (arith, length-replicate {A = DiagnosticInfo} n (record {}), few), each_nothing n))

-- ---- Variant

-- a first byte, and what it says follows
with_head : (S : Variant → List ℕ → Type 0) (T : Stamped Variant → List ℕ → Type 0) (h : Head) (v : Variant) (text : List ℕ) → body S T h v text
    → Chained (λ h. number 1 (head_number h)) (body S T) v (little_bytes 1 (head_number h) ++ text)
with_head S T h v text spelled = record { value = h; parts = in_turn (number 1 (head_number h)) (body S T h v) (little_bytes 1 (head_number h)) text (head_spelled h) spelled }

-- an array's first byte, elements and dimensions
with_array : {A : Type 0} (S : Variant → List ℕ → Type 0) (T : Stamped Variant → List ℕ → Type 0) (k : Kind) (spells : A → List ℕ → Type 0) (count : A → ℕ) (make : A → Option (List ℕ) → Variant) (a : A) (sizes : Option (List ℕ)) (text : List ℕ)
    → (body S T (head.Many k (is_some sizes)) ≡ shaped spells count (is_some sizes) make) → spells a text → KeepsShape (count a) sizes
    → Chained (λ h. number 1 (head_number h)) (body S T) (make a sizes) (written_head k sizes ++ text ++ written_shape sizes)
with_array S T k spells count make a sizes text is spelled kept =
    with_head S T (head.Many k (is_some sizes)) (make a sizes) (text ++ written_shape sizes)
    (subst (λ (B : Variant → List ℕ → Type 0). B (make a sizes) (text ++ written_shape sizes)) (sym is) (shaped_spelled spells count make a sizes text spelled kept))

-- one level
layer_spelled : (S : Variant → List ℕ → Type 0) (T : Stamped Variant → List ℕ → Type 0) (keeps : Variant → Type 0) (keeps_data : Stamped Variant → Type 0)
    → ((v : Variant) → keeps v → S v (written_variant v)) → ((d : Stamped Variant) → keeps_data d → T d (written_data_value d)) → (l : Variant-F Variant) → KeepsLayer keeps keeps_data l
    → Chained (λ h. number 1 (head_number h)) (body S T) (roll-Variant l) (written_variant (roll-Variant l))
layer_spelled S T keeps keeps_data inner outer Variant-F.Null kept =
    subst (λ (v : Variant). Chained (λ h. number 1 (head_number h)) (body S T) v (written_variant v)) (sym rolls-Null)
    (subst (λ (l : List ℕ). Chained (λ h. number 1 (head_number h)) (body S T) variant.Null l) (sym written_null) (with_head S T head.Null variant.Null [] (refl, refl)))
layer_spelled S T keeps keeps_data inner outer (Variant-F.Scalar s) kept =
    subst (λ (v : Variant). Chained (λ h. number 1 (head_number h)) (body S T) v (written_variant v)) (sym (rolls-Scalar s))
    (subst (λ (l : List ℕ). Chained (λ h. number 1 (head_number h)) (body S T) (variant.Scalar s) l) (sym (written_one s))
    (with_head S T (head.One (kind.Flat (flat_of s))) (variant.Scalar s) (written_scalar s) (s, refl, scalar_spelled s kept)))
layer_spelled S T keeps keeps_data inner outer (Variant-F.DataValue d) kept =
    subst (λ (v : Variant). Chained (λ h. number 1 (head_number h)) (body S T) v (written_variant v)) (sym (rolls-DataValue d))
    (subst (λ (l : List ℕ). Chained (λ h. number 1 (head_number h)) (body S T) (variant.DataValue d) l) (sym (written_inner_data d))
    (with_head S T (head.One kind.DataValue) (variant.DataValue d) (written_data_value d) (d, refl, outer d kept)))
layer_spelled S T keeps keeps_data inner outer (Variant-F.Variant v) kept =
    subst (λ (w : Variant). Chained (λ h. number 1 (head_number h)) (body S T) w (written_variant w)) (sym (rolls-Variant v))
    (subst (λ (l : List ℕ). Chained (λ h. number 1 (head_number h)) (body S T) (variant.Variant v) l) (sym (written_inner v))
    (with_head S T (head.One kind.Variant) (variant.Variant v) (written_variant v) (v, refl, inner v kept)))
layer_spelled S T keeps keeps_data inner outer Variant-F.DiagnosticInfo kept =
    subst (λ (v : Variant). Chained (λ h. number 1 (head_number h)) (body S T) v (written_variant v)) (sym rolls-DiagnosticInfo)
    (subst (λ (l : List ℕ). Chained (λ h. number 1 (head_number h)) (body S T) variant.DiagnosticInfo l) (sym written_diagnostic)
    (with_head S T (head.One kind.DiagnosticInfo) variant.DiagnosticInfo (little_bytes 1 0) (record {}, refl, diagnostic_spelled 100 (record {}))))
layer_spelled S T keeps keeps_data inner outer (Variant-F.Array items sizes) kept =
    subst (λ (v : Variant). Chained (λ h. number 1 (head_number h)) (body S T) v (written_variant v)) (sym (rolls-Array items sizes))
    (subst (λ (l : List ℕ). Chained (λ h. number 1 (head_number h)) (body S T) (variant.Array items sizes) l) (sym (written_many items sizes))
    (with_array S T (kind.Flat (flat_of_array items)) (array_spells (flat_of_array items)) count_of_array variant.Array items sizes (written_flat_array items) refl (flat_array_spelled items kept.0) kept.1))
layer_spelled S T keeps keeps_data inner outer (Variant-F.DataValues items sizes) kept =
    subst (λ (v : Variant). Chained (λ h. number 1 (head_number h)) (body S T) v (written_variant v)) (sym (rolls-DataValues items sizes))
    (subst (λ (l : List ℕ). Chained (λ h. number 1 (head_number h)) (body S T) (variant.DataValues items sizes) l) (sym (written_many_data items sizes))
    (with_array S T kind.DataValue (array T) length variant.DataValues items sizes (written_array written_data_value items) refl (array_spelled keeps_data T written_data_value outer items kept.0) kept.1))
layer_spelled S T keeps keeps_data inner outer (Variant-F.Variants items sizes) kept =
    subst (λ (v : Variant). Chained (λ h. number 1 (head_number h)) (body S T) v (written_variant v)) (sym (rolls-Variants items sizes))
    (subst (λ (l : List ℕ). Chained (λ h. number 1 (head_number h)) (body S T) (variant.Variants items sizes) l) (sym (written_many_inner items sizes))
    (with_array S T kind.Variant (array S) length variant.Variants items sizes (written_array written_variant items) refl (array_spelled keeps S written_variant inner items kept.0) kept.1))
layer_spelled S T keeps keeps_data inner outer (Variant-F.DiagnosticInfos n sizes) kept =
    let many : length (replicate {A = DiagnosticInfo} n (record {})) ≡ n = length-replicate {A = DiagnosticInfo} n (record {}) in
    subst (λ (v : Variant). Chained (λ h. number 1 (head_number h)) (body S T) v (written_variant v)) (sym (rolls-DiagnosticInfos n sizes))
    (subst (λ (l : List ℕ). Chained (λ h. number 1 (head_number h)) (body S T) (variant.DiagnosticInfos n sizes) l) (sym (written_diagnostics n sizes))
    (subst (λ (m : ℕ). Chained (λ h. number 1 (head_number h)) (body S T) (variant.DiagnosticInfos m sizes) (written_head kind.DiagnosticInfo sizes ++ written_array (little_bytes 1) (replicate n 0) ++ written_shape sizes)) many
    (with_array S T kind.DiagnosticInfo (array (diagnostic_info 101)) length (λ ds. variant.DiagnosticInfos (length ds)) (replicate n (record {})) sizes (written_array (little_bytes 1) (replicate n 0)) refl (diagnostics_spelled n kept.0)
    (subst (λ (m : ℕ). KeepsShape m sizes) (sym many) kept.1))))

-- both at once, by the levels that may follow
pub record SpelledBoth (levels : ℕ) : Type 0 where
  pub variant : (v : Variant) → KeepsVariant levels v → variant_spells levels v (written_variant v)
  pub stamped : (d : Stamped Variant) → KeepsDataValue levels d → data_value levels d (written_data_value d)

pub spelled_both : (levels : ℕ) → SpelledBoth levels
unfolding variant_spells data_value KeepsVariant KeepsDataValue
spelled_both zero = record { variant = λ v kept. absurd kept; stamped = λ d kept. absurd kept }
spelled_both (suc levels) =
    let below = spelled_both levels in
    record {
      variant = λ v kept.
          subst (λ (w : Variant). Chained (λ h. number 1 (head_number h)) (body (variant_spells levels) (data_value levels)) w (written_variant w)) (roll-out-Variant v)
          (layer_spelled (variant_spells levels) (data_value levels) (KeepsVariant levels) (KeepsDataValue levels) below.variant below.stamped (out-Variant v) kept);
      stamped = stamped_spelled (KeepsVariant levels) (variant_spells levels) below.variant;
    }
