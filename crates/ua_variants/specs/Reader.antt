-- A reader for each type, field by field.
use Rattle.std.specs.Prelude.{◌==◌, ◌^◌, ◌&&◌, ℕ, zero, suc, nat_lt, List, [], ◌∷◌, length, Bool, true, Option, Some, None, Result, Ok, Err, if◌then◌else◌}
use Rattle.std.specs.Int.{w8, w16, w32, w64}
use Rattle.ua_base.specs.Status.{bad_decoding_error, bad_encoding_limits_exceeded}
use Rattle.ua_values.specs.Reading.{Reader, ◌>>=◌, give, field_at, number_at}
use Rattle.ua_values.specs.Readers.{boolean_at, signed_at, guid_at, text_at, node_at, has_bit, expanded_at, qualified_at, localized_at, extension_at, array_within_at, array_at, optional_at, refused_at, checked_at}
use Rattle.ua_variants.specs.Limits.{most_dimensions}
use Rattle.ua_variants.specs.declared.variant.Flat.{Flat}
use Rattle.ua_variants.specs.declared.variant.Flat.TheVariants as flat
use Rattle.ua_variants.specs.declared.variant.Scalar.{Scalar}
use Rattle.ua_variants.specs.declared.variant.Scalar.TheVariants as scalar
use Rattle.ua_variants.specs.declared.variant.Array.{Array}
use Rattle.ua_variants.specs.declared.variant.Array.TheVariants as array
use Rattle.ua_variants.specs.declared.variant.Variant.{Variant}
use Rattle.ua_variants.specs.declared.variant.Variant.TheVariants as variant
use Rattle.ua_variants.specs.declared.variant.Stamped.{Stamped}
use Rattle.ua_variants.specs.declared.variant.DiagnosticInfo.{DiagnosticInfo}
use Rattle.ua_variants.specs.declared.head.Kind.TheVariants as kind
use Rattle.ua_variants.specs.declared.head.Head.{Head}
use Rattle.ua_variants.specs.declared.head.Head.TheVariants as head
use Rattle.ua_variants.specs.Kinds.{head_of}
use Rattle.ua_variants.specs.declared.variant.Stamps.{Stamps}
use Rattle.ua_variants.specs.declared.diagnostic.Details.{Details}
use Rattle.ua_variants.specs.Grammar.{with_stamps, count_of_array, product}

-- what was read, made into another value
abbrev pub making : {A B : Type 0} → (A → B) → Reader A → Reader B
making make at = at >>= λ a. give (make a)

abbrev pub scalar_at : Flat → Reader Scalar
scalar_at flat.Boolean = making scalar.Boolean boolean_at
scalar_at flat.SByte = making scalar.SByte (signed_at 1 w8)
scalar_at flat.Byte = making scalar.Byte (number_at 1)
scalar_at flat.Int16 = making scalar.Int16 (signed_at 2 w16)
scalar_at flat.UInt16 = making scalar.UInt16 (number_at 2)
scalar_at flat.Int32 = making scalar.Int32 (signed_at 4 w32)
scalar_at flat.UInt32 = making scalar.UInt32 (number_at 4)
scalar_at flat.Int64 = making scalar.Int64 (signed_at 8 w64)
scalar_at flat.UInt64 = making scalar.UInt64 (number_at 8)
scalar_at flat.Float = making scalar.Float (number_at 4)
scalar_at flat.Double = making scalar.Double (number_at 8)
scalar_at flat.String = making scalar.String text_at
scalar_at flat.DateTime = making scalar.DateTime (signed_at 8 w64)
scalar_at flat.Guid = making scalar.Guid guid_at
scalar_at flat.ByteString = making scalar.ByteString text_at
scalar_at flat.XmlElement = making scalar.XmlElement text_at
scalar_at flat.NodeId = making scalar.NodeId node_at
scalar_at flat.ExpandedNodeId = making scalar.ExpandedNodeId expanded_at
scalar_at flat.StatusCode = making scalar.StatusCode (number_at 4)
scalar_at flat.QualifiedName = making scalar.QualifiedName qualified_at
scalar_at flat.LocalizedText = making scalar.LocalizedText localized_at
scalar_at flat.ExtensionObject = making scalar.ExtensionObject extension_at

abbrev pub flat_array_at : Flat → Reader Array
flat_array_at flat.Boolean = making array.Boolean (array_at boolean_at)
flat_array_at flat.SByte = making array.SByte (array_at (signed_at 1 w8))
flat_array_at flat.Byte = making array.Byte (array_at (number_at 1))
flat_array_at flat.Int16 = making array.Int16 (array_at (signed_at 2 w16))
flat_array_at flat.UInt16 = making array.UInt16 (array_at (number_at 2))
flat_array_at flat.Int32 = making array.Int32 (array_at (signed_at 4 w32))
flat_array_at flat.UInt32 = making array.UInt32 (array_at (number_at 4))
flat_array_at flat.Int64 = making array.Int64 (array_at (signed_at 8 w64))
flat_array_at flat.UInt64 = making array.UInt64 (array_at (number_at 8))
flat_array_at flat.Float = making array.Float (array_at (number_at 4))
flat_array_at flat.Double = making array.Double (array_at (number_at 8))
flat_array_at flat.String = making array.String (array_at text_at)
flat_array_at flat.DateTime = making array.DateTime (array_at (signed_at 8 w64))
flat_array_at flat.Guid = making array.Guid (array_at guid_at)
flat_array_at flat.ByteString = making array.ByteString (array_at text_at)
flat_array_at flat.XmlElement = making array.XmlElement (array_at text_at)
flat_array_at flat.NodeId = making array.NodeId (array_at node_at)
flat_array_at flat.ExpandedNodeId = making array.ExpandedNodeId (array_at expanded_at)
flat_array_at flat.StatusCode = making array.StatusCode (array_at (number_at 4))
flat_array_at flat.QualifiedName = making array.QualifiedName (array_at qualified_at)
flat_array_at flat.LocalizedText = making array.LocalizedText (array_at localized_at)
flat_array_at flat.ExtensionObject = making array.ExtensionObject (array_at extension_at)

-- ---- dimensions

abbrev pub none_negative : List ℕ → Bool
none_negative [] = true
none_negative (n ∷ more) = nat_lt n (2 ^ 31) && none_negative more

abbrev pub judged_sizes : ℕ → List ℕ → Result (List ℕ) ℕ
judged_sizes count sizes = if none_negative sizes && product sizes == count then Ok sizes else Err bad_decoding_error

abbrev pub dimensions_at : ℕ → Reader (List ℕ)
dimensions_at count = checked_at (array_within_at most_dimensions (number_at 4)) (judged_sizes count)

abbrev pub shape_at : ℕ → Bool → Reader (Option (List ℕ))
shape_at count is_there = optional_at is_there None (making Some (dimensions_at count))

abbrev pub shaped_at : {A : Type 0} → Reader A → (A → ℕ) → Bool → (A → Option (List ℕ) → Variant) → Reader Variant
shaped_at at count is_there make = at >>= λ a. making (make a) (shape_at (count a) is_there)

-- ---- DiagnosticInfo

abbrev pub details_at : ℕ → Reader Details
details_at mask = do
  symbolic_id ← optional_at (has_bit 1 mask) 0 (number_at 4)
  namespace_uri ← optional_at (has_bit 2 mask) 0 (number_at 4)
  locale ← optional_at (has_bit 4 mask) 0 (number_at 4)
  localized_text ← optional_at (has_bit 8 mask) 0 (number_at 4)
  additional_info ← optional_at (has_bit 16 mask) None text_at
  inner_status ← optional_at (has_bit 32 mask) 0 (number_at 4)
  give (record { symbolic_id = symbolic_id; namespace_uri = namespace_uri; locale = locale; localized_text = localized_text; additional_info = additional_info; inner_status = inner_status })

abbrev pub diagnostic_by_at : Reader DiagnosticInfo → Reader DiagnosticInfo
diagnostic_by_at inner = do
  mask ← number_at 1
  known ← details_at mask
  optional_at (has_bit 64 mask) (record {}) inner

unfoldable pub diagnostic_at : ℕ → Reader DiagnosticInfo
diagnostic_at zero = refused_at bad_encoding_limits_exceeded
diagnostic_at (suc levels) = diagnostic_by_at (diagnostic_at levels)

-- ---- DataValue

abbrev pub stamps_at : ℕ → Reader Stamps
stamps_at mask = do
  status ← optional_at (has_bit 2 mask) None (making Some (number_at 4))
  source_timestamp ← optional_at (has_bit 4 mask) None (making Some (signed_at 8 w64))
  source_picoseconds ← optional_at (has_bit 16 mask) None (making Some (number_at 2))
  server_timestamp ← optional_at (has_bit 8 mask) None (making Some (signed_at 8 w64))
  server_picoseconds ← optional_at (has_bit 32 mask) None (making Some (number_at 2))
  give (record {
    status = status;
    source_timestamp = source_timestamp;
    source_picoseconds = source_picoseconds;
    server_timestamp = server_timestamp;
    server_picoseconds = server_picoseconds;
  })

abbrev pub data_value_by_at : Reader Variant → Reader (Stamped Variant)
data_value_by_at inner = do
  mask ← number_at 1
  value ← optional_at (has_bit 1 mask) None (making Some inner)
  s ← stamps_at mask
  give (with_stamps value s)

-- ---- Variant

abbrev pub body_at : Reader Variant → Reader (Stamped Variant) → Head → Reader Variant
body_at inner stamped head.Null = give variant.Null
body_at inner stamped (head.One (kind.Flat f)) = making variant.Scalar (scalar_at f)
body_at inner stamped (head.One kind.DataValue) = making variant.DataValue stamped
body_at inner stamped (head.One kind.Variant) = making variant.Variant inner
body_at inner stamped (head.One kind.DiagnosticInfo) = making (λ d. variant.DiagnosticInfo) (diagnostic_at 101)
body_at inner stamped (head.Many (kind.Flat f) is_there) = shaped_at (flat_array_at f) count_of_array is_there variant.Array
body_at inner stamped (head.Many kind.DataValue is_there) = shaped_at (array_at stamped) length is_there variant.DataValues
body_at inner stamped (head.Many kind.Variant is_there) = shaped_at (array_at inner) length is_there variant.Variants
body_at inner stamped (head.Many kind.DiagnosticInfo is_there) = shaped_at (array_at (diagnostic_at 101)) length is_there (λ ds. variant.DiagnosticInfos (length ds))

abbrev pub variant_by_at : Reader Variant → Reader (Stamped Variant) → Reader Variant
variant_by_at inner stamped = do
  h ← field_at 1 head_of
  body_at inner stamped h

unfoldable mutual
  pub variant_at : ℕ → Reader Variant
  variant_at zero = refused_at bad_encoding_limits_exceeded
  variant_at (suc levels) = variant_by_at (variant_at levels) (data_value_at levels)

  pub data_value_at : ℕ → Reader (Stamped Variant)
  data_value_at zero = refused_at bad_encoding_limits_exceeded
  data_value_at (suc levels) = data_value_by_at (variant_at levels)
