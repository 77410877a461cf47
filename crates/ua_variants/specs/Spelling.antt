-- The spelling that is written, of a value's several ones. A length of a value that breaks the rules is written modulo 2 ^ 32.
use Rattle.std.specs.Prelude.{ℕ, ◌+◌, List, [], ◌++◌, replicate, Option, Some, None}
use Rattle.std.specs.Option.{is_some}
use Rattle.std.specs.Int.{w8, w16, w32, w64}
use Rattle.byteorder.specs.Endian.{little_bytes}
use Rattle.ua_values.specs.Written.{written_boolean, written_signed, written_guid, written_text, written_array, written_node, flag, written_expanded, written_qualified, written_localized, written_extension}
use Rattle.ua_variants.specs.declared.variant.Flat.{Flat}
use Rattle.ua_variants.specs.declared.variant.Flat.TheVariants as flat
use Rattle.ua_variants.specs.declared.variant.Scalar.{Scalar}
use Rattle.ua_variants.specs.declared.variant.Scalar.TheVariants as scalar
use Rattle.ua_variants.specs.declared.variant.Array.{Array}
use Rattle.ua_variants.specs.declared.variant.Array.TheVariants as array
use Rattle.ua_variants.specs.declared.variant.Variant.{Variant, fold-Variant, out-Variant}
use Rattle.ua_variants.specs.declared.variant.Variant.TheOpen.{Variant-F}
use Rattle.ua_variants.specs.declared.variant.Stamped.{Stamped}
use Rattle.ua_variants.specs.declared.head.Kind.{Kind}
use Rattle.ua_variants.specs.declared.head.Kind.TheVariants as kind
use Rattle.ua_variants.specs.declared.head.Head.TheVariants as head
use Rattle.ua_variants.specs.Kinds.{head_number}

-- ---- types whose values hold no others

abbrev pub flat_of : Scalar → Flat
flat_of (scalar.Boolean x) = flat.Boolean
flat_of (scalar.SByte x) = flat.SByte
flat_of (scalar.Byte x) = flat.Byte
flat_of (scalar.Int16 x) = flat.Int16
flat_of (scalar.UInt16 x) = flat.UInt16
flat_of (scalar.Int32 x) = flat.Int32
flat_of (scalar.UInt32 x) = flat.UInt32
flat_of (scalar.Int64 x) = flat.Int64
flat_of (scalar.UInt64 x) = flat.UInt64
flat_of (scalar.Float x) = flat.Float
flat_of (scalar.Double x) = flat.Double
flat_of (scalar.String x) = flat.String
flat_of (scalar.DateTime x) = flat.DateTime
flat_of (scalar.Guid x) = flat.Guid
flat_of (scalar.ByteString x) = flat.ByteString
flat_of (scalar.XmlElement x) = flat.XmlElement
flat_of (scalar.NodeId x) = flat.NodeId
flat_of (scalar.ExpandedNodeId x) = flat.ExpandedNodeId
flat_of (scalar.StatusCode x) = flat.StatusCode
flat_of (scalar.QualifiedName x) = flat.QualifiedName
flat_of (scalar.LocalizedText x) = flat.LocalizedText
flat_of (scalar.ExtensionObject x) = flat.ExtensionObject

abbrev pub flat_of_array : Array → Flat
flat_of_array (array.Boolean items) = flat.Boolean
flat_of_array (array.SByte items) = flat.SByte
flat_of_array (array.Byte items) = flat.Byte
flat_of_array (array.Int16 items) = flat.Int16
flat_of_array (array.UInt16 items) = flat.UInt16
flat_of_array (array.Int32 items) = flat.Int32
flat_of_array (array.UInt32 items) = flat.UInt32
flat_of_array (array.Int64 items) = flat.Int64
flat_of_array (array.UInt64 items) = flat.UInt64
flat_of_array (array.Float items) = flat.Float
flat_of_array (array.Double items) = flat.Double
flat_of_array (array.String items) = flat.String
flat_of_array (array.DateTime items) = flat.DateTime
flat_of_array (array.Guid items) = flat.Guid
flat_of_array (array.ByteString items) = flat.ByteString
flat_of_array (array.XmlElement items) = flat.XmlElement
flat_of_array (array.NodeId items) = flat.NodeId
flat_of_array (array.ExpandedNodeId items) = flat.ExpandedNodeId
flat_of_array (array.StatusCode items) = flat.StatusCode
flat_of_array (array.QualifiedName items) = flat.QualifiedName
flat_of_array (array.LocalizedText items) = flat.LocalizedText
flat_of_array (array.ExtensionObject items) = flat.ExtensionObject

abbrev pub written_scalar : Scalar → List ℕ
written_scalar (scalar.Boolean x) = written_boolean x
written_scalar (scalar.SByte x) = written_signed 1 w8 x
written_scalar (scalar.Byte x) = little_bytes 1 x
written_scalar (scalar.Int16 x) = written_signed 2 w16 x
written_scalar (scalar.UInt16 x) = little_bytes 2 x
written_scalar (scalar.Int32 x) = written_signed 4 w32 x
written_scalar (scalar.UInt32 x) = little_bytes 4 x
written_scalar (scalar.Int64 x) = written_signed 8 w64 x
written_scalar (scalar.UInt64 x) = little_bytes 8 x
written_scalar (scalar.Float x) = little_bytes 4 x
written_scalar (scalar.Double x) = little_bytes 8 x
written_scalar (scalar.String x) = written_text x
written_scalar (scalar.DateTime x) = written_signed 8 w64 x
written_scalar (scalar.Guid x) = written_guid x
written_scalar (scalar.ByteString x) = written_text x
written_scalar (scalar.XmlElement x) = written_text x
written_scalar (scalar.NodeId x) = written_node x
written_scalar (scalar.ExpandedNodeId x) = written_expanded x
written_scalar (scalar.StatusCode x) = little_bytes 4 x
written_scalar (scalar.QualifiedName x) = written_qualified x
written_scalar (scalar.LocalizedText x) = written_localized x
written_scalar (scalar.ExtensionObject x) = written_extension x

abbrev pub written_flat_array : Array → List ℕ
written_flat_array (array.Boolean items) = written_array written_boolean items
written_flat_array (array.SByte items) = written_array (written_signed 1 w8) items
written_flat_array (array.Byte items) = written_array (little_bytes 1) items
written_flat_array (array.Int16 items) = written_array (written_signed 2 w16) items
written_flat_array (array.UInt16 items) = written_array (little_bytes 2) items
written_flat_array (array.Int32 items) = written_array (written_signed 4 w32) items
written_flat_array (array.UInt32 items) = written_array (little_bytes 4) items
written_flat_array (array.Int64 items) = written_array (written_signed 8 w64) items
written_flat_array (array.UInt64 items) = written_array (little_bytes 8) items
written_flat_array (array.Float items) = written_array (little_bytes 4) items
written_flat_array (array.Double items) = written_array (little_bytes 8) items
written_flat_array (array.String items) = written_array written_text items
written_flat_array (array.DateTime items) = written_array (written_signed 8 w64) items
written_flat_array (array.Guid items) = written_array written_guid items
written_flat_array (array.ByteString items) = written_array written_text items
written_flat_array (array.XmlElement items) = written_array written_text items
written_flat_array (array.NodeId items) = written_array written_node items
written_flat_array (array.ExpandedNodeId items) = written_array written_expanded items
written_flat_array (array.StatusCode items) = written_array (little_bytes 4) items
written_flat_array (array.QualifiedName items) = written_array written_qualified items
written_flat_array (array.LocalizedText items) = written_array written_localized items
written_flat_array (array.ExtensionObject items) = written_array written_extension items

-- ---- dimensions

abbrev pub written_shape : Option (List ℕ) → List ℕ
written_shape None = []
written_shape (Some sizes) = written_array (little_bytes 4) sizes

abbrev pub written_head : Kind → Option (List ℕ) → List ℕ
written_head k sizes = little_bytes 1 (head_number (head.Many k (is_some sizes)))

-- ---- DataValue

abbrev pub written_some : {A : Type 0} → (A → List ℕ) → Option A → List ℕ
written_some written None = []
written_some written (Some a) = written a

abbrev pub mask_of : {A : Type 0} → Stamped A → ℕ
mask_of d = flag 1 (is_some d.value) + flag 2 (is_some d.status) + flag 4 (is_some d.source_timestamp) + flag 16 (is_some d.source_picoseconds) + flag 8 (is_some d.server_timestamp) + flag 32 (is_some d.server_picoseconds)

abbrev pub written_stamps : {A : Type 0} → Stamped A → List ℕ
written_stamps d =
    written_some (little_bytes 4) d.status ++ written_some (written_signed 8 w64) d.source_timestamp ++ written_some (little_bytes 2) d.source_picoseconds
    ++ written_some (written_signed 8 w64) d.server_timestamp ++ written_some (little_bytes 2) d.server_picoseconds

-- `written` says how the value is written
abbrev pub written_stamped : {A : Type 0} → (A → List ℕ) → Stamped A → List ℕ
written_stamped written d = little_bytes 1 (mask_of d) ++ written_some written d.value ++ written_stamps d

-- ---- Variant

-- one level; `written` says how what it holds is written
abbrev pub written_layer : {A : Type 0} → (A → List ℕ) → Variant-F A → List ℕ
written_layer written Variant-F.Null = little_bytes 1 0
written_layer written (Variant-F.Scalar s) = little_bytes 1 (head_number (head.One (kind.Flat (flat_of s)))) ++ written_scalar s
written_layer written (Variant-F.DataValue d) = little_bytes 1 23 ++ written_stamped written d
written_layer written (Variant-F.Variant v) = little_bytes 1 24 ++ written v
written_layer written Variant-F.DiagnosticInfo = little_bytes 1 25 ++ little_bytes 1 0
written_layer written (Variant-F.Array items sizes) = written_head (kind.Flat (flat_of_array items)) sizes ++ written_flat_array items ++ written_shape sizes
written_layer written (Variant-F.DataValues items sizes) = written_head kind.DataValue sizes ++ written_array (written_stamped written) items ++ written_shape sizes
written_layer written (Variant-F.Variants items sizes) = written_head kind.Variant sizes ++ written_array written items ++ written_shape sizes
written_layer written (Variant-F.DiagnosticInfos n sizes) = written_head kind.DiagnosticInfo sizes ++ written_array (little_bytes 1) (replicate n 0) ++ written_shape sizes

-- a Variant that stands inside another: level by level, from within
unfoldable pub written_within : Variant → List ℕ
written_within v = fold-Variant (List ℕ) (written_layer (λ bytes. bytes)) v

-- the outermost level stands apart, so that a Variant that holds no others is written without a fold
unfoldable pub written_variant : Variant → List ℕ
written_variant v = written_layer written_within (out-Variant v)

abbrev pub written_data_value : Stamped Variant → List ℕ
written_data_value d = written_stamped written_variant d
