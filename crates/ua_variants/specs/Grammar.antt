-- The grammar of values that hold others: which bytes are a spelling of a Variant, a DataValue or a DiagnosticInfo
-- (OPC 10000-6, 5.2.2.12, 5.2.2.16 and 5.2.2.17). `levels` is how many more of them may stand inside each other.
use Rattle.std.specs.Prelude.{◌≡◌, ◌<◌, ◌*◌, ◌^◌, ℕ, zero, suc, List, [], ◌∷◌, length, Bool, Option, Some, None}
use Rattle.std.specs.List.{AllByRecursion}
use Rattle.std.specs.Int.{w8, w16, w32, w64}
use Rattle.ua_values.specs.Limits.{most_items}
use Rattle.ua_values.specs.Readers.{has_bit}
use Rattle.ua_values.specs.Parts.{number, nothing, optional, ◌followed_by◌, Chained, text, array_within, array, Begun, ChainCut, optional_cut, array_cut}
use Rattle.ua_values.specs.Types.{boolean, signed, guid, node_id, expanded_node_id, qualified_name, localized_text, extension_object}
use Rattle.ua_variants.specs.Limits.{most_dimensions}
use Rattle.ua_variants.specs.declared.variant.Flat.{Flat}
use Rattle.ua_variants.specs.declared.variant.Flat.TheVariants as flat
use Rattle.ua_variants.specs.declared.variant.Scalar.{Scalar}
use Rattle.ua_variants.specs.declared.variant.Scalar.TheVariants as scalar
use Rattle.ua_variants.specs.declared.variant.Array.{Array}
use Rattle.ua_variants.specs.declared.variant.Array.TheVariants as array
use Rattle.ua_variants.specs.declared.variant.Variant.{Variant}
use Rattle.ua_variants.specs.declared.variant.Variant.TheVariants as variant
use Rattle.ua_variants.specs.declared.variant.Stamped.{Stamped}
use Rattle.ua_variants.specs.declared.variant.DiagnosticInfo.{DiagnosticInfo}
use Rattle.ua_variants.specs.declared.variant.Stamps.{Stamps}
use Rattle.ua_variants.specs.declared.diagnostic.Details.{Details}
use Rattle.ua_variants.specs.declared.head.Kind.TheVariants as kind
use Rattle.ua_variants.specs.declared.head.Head.{Head}
use Rattle.ua_variants.specs.declared.head.Head.TheVariants as head
use Rattle.ua_variants.specs.Kinds.{head_number}

-- a value that is made of another, which is spelled
abbrev pub made : {A B : Type 0} → (A → List ℕ → Type 0) → (A → B) → B → List ℕ → Type 0
made {A = A} spells make b bytes = (a : A) × (b ≡ make a) × spells a bytes

-- a value that is made of two, which are spelled in turn
abbrev pub made_of : {A B C : Type 0} → (A → List ℕ → Type 0) → (B → List ℕ → Type 0) → (A → B → C) → C → List ℕ → Type 0
made_of {A = A} {B = B} first second make c bytes = (a : A) × (b : B) × (c ≡ make a b) × (first a followed_by second b) bytes

-- ---- types whose values hold no others

abbrev pub scalar_spells : Flat → Scalar → List ℕ → Type 0
scalar_spells flat.Boolean = made boolean scalar.Boolean
scalar_spells flat.SByte = made (signed 1 w8) scalar.SByte
scalar_spells flat.Byte = made (number 1) scalar.Byte
scalar_spells flat.Int16 = made (signed 2 w16) scalar.Int16
scalar_spells flat.UInt16 = made (number 2) scalar.UInt16
scalar_spells flat.Int32 = made (signed 4 w32) scalar.Int32
scalar_spells flat.UInt32 = made (number 4) scalar.UInt32
scalar_spells flat.Int64 = made (signed 8 w64) scalar.Int64
scalar_spells flat.UInt64 = made (number 8) scalar.UInt64
scalar_spells flat.Float = made (number 4) scalar.Float
scalar_spells flat.Double = made (number 8) scalar.Double
scalar_spells flat.String = made text scalar.String
scalar_spells flat.DateTime = made (signed 8 w64) scalar.DateTime
scalar_spells flat.Guid = made guid scalar.Guid
scalar_spells flat.ByteString = made text scalar.ByteString
scalar_spells flat.XmlElement = made text scalar.XmlElement
scalar_spells flat.NodeId = made node_id scalar.NodeId
scalar_spells flat.ExpandedNodeId = made expanded_node_id scalar.ExpandedNodeId
scalar_spells flat.StatusCode = made (number 4) scalar.StatusCode
scalar_spells flat.QualifiedName = made qualified_name scalar.QualifiedName
scalar_spells flat.LocalizedText = made localized_text scalar.LocalizedText
scalar_spells flat.ExtensionObject = made extension_object scalar.ExtensionObject

abbrev pub array_spells : Flat → Array → List ℕ → Type 0
array_spells flat.Boolean = made (array boolean) array.Boolean
array_spells flat.SByte = made (array (signed 1 w8)) array.SByte
array_spells flat.Byte = made (array (number 1)) array.Byte
array_spells flat.Int16 = made (array (signed 2 w16)) array.Int16
array_spells flat.UInt16 = made (array (number 2)) array.UInt16
array_spells flat.Int32 = made (array (signed 4 w32)) array.Int32
array_spells flat.UInt32 = made (array (number 4)) array.UInt32
array_spells flat.Int64 = made (array (signed 8 w64)) array.Int64
array_spells flat.UInt64 = made (array (number 8)) array.UInt64
array_spells flat.Float = made (array (number 4)) array.Float
array_spells flat.Double = made (array (number 8)) array.Double
array_spells flat.String = made (array text) array.String
array_spells flat.DateTime = made (array (signed 8 w64)) array.DateTime
array_spells flat.Guid = made (array guid) array.Guid
array_spells flat.ByteString = made (array text) array.ByteString
array_spells flat.XmlElement = made (array text) array.XmlElement
array_spells flat.NodeId = made (array node_id) array.NodeId
array_spells flat.ExpandedNodeId = made (array expanded_node_id) array.ExpandedNodeId
array_spells flat.StatusCode = made (array (number 4)) array.StatusCode
array_spells flat.QualifiedName = made (array qualified_name) array.QualifiedName
array_spells flat.LocalizedText = made (array localized_text) array.LocalizedText
array_spells flat.ExtensionObject = made (array extension_object) array.ExtensionObject

-- how many elements there are
abbrev pub count_of_array : Array → ℕ
count_of_array (array.Boolean items) = length items
count_of_array (array.SByte items) = length items
count_of_array (array.Byte items) = length items
count_of_array (array.Int16 items) = length items
count_of_array (array.UInt16 items) = length items
count_of_array (array.Int32 items) = length items
count_of_array (array.UInt32 items) = length items
count_of_array (array.Int64 items) = length items
count_of_array (array.UInt64 items) = length items
count_of_array (array.Float items) = length items
count_of_array (array.Double items) = length items
count_of_array (array.String items) = length items
count_of_array (array.DateTime items) = length items
count_of_array (array.Guid items) = length items
count_of_array (array.ByteString items) = length items
count_of_array (array.XmlElement items) = length items
count_of_array (array.NodeId items) = length items
count_of_array (array.ExpandedNodeId items) = length items
count_of_array (array.StatusCode items) = length items
count_of_array (array.QualifiedName items) = length items
count_of_array (array.LocalizedText items) = length items
count_of_array (array.ExtensionObject items) = length items

-- ---- dimensions

abbrev pub product : List ℕ → ℕ
product [] = 1
product (n ∷ more) = n * product more

-- none is negative, and their product is the number of elements
abbrev pub dimensions : ℕ → List ℕ → List ℕ → Type 0
dimensions count sizes bytes = AllByRecursion (λ n. n < 2 ^ 31) sizes × (product sizes ≡ count) × array_within most_dimensions (number 4) sizes bytes

-- whether an array has dimensions is said by its first byte
abbrev pub shape : ℕ → Bool → Option (List ℕ) → List ℕ → Type 0
shape count is_there = optional is_there None (made (dimensions count) Some)

-- numbers that are cut off aren't judged
abbrev pub shape_cut : Bool → List ℕ → Type 0
shape_cut is_there = optional_cut is_there (Begun (array_within most_dimensions (number 4)))

-- elements, and the dimensions that they may have
abbrev pub shaped : {A : Type 0} → (A → List ℕ → Type 0) → (A → ℕ) → Bool → (A → Option (List ℕ) → Variant) → Variant → List ℕ → Type 0
shaped spells count is_there make = Chained spells (λ a. made (shape (count a) is_there) (make a))

abbrev pub shaped_cut : {A : Type 0} → (A → List ℕ → Type 0) → (List ℕ → Type 0) → Bool → List ℕ → Type 0
shaped_cut spells cut is_there = ChainCut spells cut (λ a. shape_cut is_there)

-- ---- DiagnosticInfo: its fields are read and dropped, the first four each an Int32 as it stands

abbrev pub details : ℕ → Details → List ℕ → Type 0
details mask d =
    optional (has_bit 1 mask) 0 (number 4) d.symbolic_id
    followed_by optional (has_bit 2 mask) 0 (number 4) d.namespace_uri
    followed_by optional (has_bit 4 mask) 0 (number 4) d.locale
    followed_by optional (has_bit 8 mask) 0 (number 4) d.localized_text
    followed_by optional (has_bit 16 mask) None text d.additional_info
    followed_by optional (has_bit 32 mask) 0 (number 4) d.inner_status

unfoldable pub diagnostic_info : ℕ → DiagnosticInfo → List ℕ → Type 0
diagnostic_info zero d bytes = ⊥
diagnostic_info (suc levels) d bytes = Chained (number 1) (λ mask. Chained (details mask) (λ known. optional (has_bit 64 mask) (record {}) (diagnostic_info levels))) d bytes

unfoldable pub diagnostic_cut : ℕ → List ℕ → Type 0
diagnostic_cut zero bytes = ⊥
diagnostic_cut (suc levels) bytes =
    ChainCut (number 1) (λ front. length front < 1) (λ mask. ChainCut (details mask) (Begun (details mask)) (λ known. optional_cut (has_bit 64 mask) (diagnostic_cut levels))) bytes

-- ---- DataValue

-- the fields after the value
abbrev pub stamps : ℕ → Stamps → List ℕ → Type 0
stamps mask s =
    optional (has_bit 2 mask) None (made (number 4) Some) s.status
    followed_by optional (has_bit 4 mask) None (made (signed 8 w64) Some) s.source_timestamp
    followed_by optional (has_bit 16 mask) None (made (number 2) Some) s.source_picoseconds
    followed_by optional (has_bit 8 mask) None (made (signed 8 w64) Some) s.server_timestamp
    followed_by optional (has_bit 32 mask) None (made (number 2) Some) s.server_picoseconds

abbrev pub with_stamps : Option Variant → Stamps → Stamped Variant
with_stamps value s = record {
  value = value;
  status = s.status;
  source_timestamp = s.source_timestamp;
  source_picoseconds = s.source_picoseconds;
  server_timestamp = s.server_timestamp;
  server_picoseconds = s.server_picoseconds;
}

abbrev pub data_value_by : (Variant → List ℕ → Type 0) → Stamped Variant → List ℕ → Type 0
data_value_by holds = Chained (number 1) (λ mask. made_of (optional (has_bit 1 mask) None (made holds Some)) (stamps mask) with_stamps)

abbrev pub data_value_cut_by : (Variant → List ℕ → Type 0) → (List ℕ → Type 0) → List ℕ → Type 0
data_value_cut_by holds cut = ChainCut (number 1) (λ front. length front < 1)
    (λ mask. ChainCut (optional (has_bit 1 mask) None (made holds Some)) (optional_cut (has_bit 1 mask) cut) (λ value. Begun (stamps mask)))

-- ---- Variant

-- what follows the first byte, `inner` being the Variants and `stamped` the DataValues that may stand inside
abbrev pub body : (Variant → List ℕ → Type 0) → (Stamped Variant → List ℕ → Type 0) → Head → Variant → List ℕ → Type 0
body inner stamped head.Null = λ v bytes. (v ≡ variant.Null) × nothing bytes
body inner stamped (head.One (kind.Flat f)) = made (scalar_spells f) variant.Scalar
body inner stamped (head.One kind.DataValue) = made stamped variant.DataValue
body inner stamped (head.One kind.Variant) = made inner variant.Variant
body inner stamped (head.One kind.DiagnosticInfo) = made (diagnostic_info 101) (λ d. variant.DiagnosticInfo)
body inner stamped (head.Many (kind.Flat f) is_there) = shaped (array_spells f) count_of_array is_there variant.Array
body inner stamped (head.Many kind.DataValue is_there) = shaped (array stamped) length is_there variant.DataValues
body inner stamped (head.Many kind.Variant is_there) = shaped (array inner) length is_there variant.Variants
body inner stamped (head.Many kind.DiagnosticInfo is_there) = shaped (array (diagnostic_info 101)) length is_there (λ ds. variant.DiagnosticInfos (length ds))

abbrev pub body_cut : (Variant → List ℕ → Type 0) → (List ℕ → Type 0) → (Stamped Variant → List ℕ → Type 0) → (List ℕ → Type 0) → Head → List ℕ → Type 0
body_cut inner cut stamped stamped_cut head.Null = λ bytes. ⊥
body_cut inner cut stamped stamped_cut (head.One (kind.Flat f)) = Begun (scalar_spells f)
body_cut inner cut stamped stamped_cut (head.One kind.DataValue) = stamped_cut
body_cut inner cut stamped stamped_cut (head.One kind.Variant) = cut
body_cut inner cut stamped stamped_cut (head.One kind.DiagnosticInfo) = diagnostic_cut 101
body_cut inner cut stamped stamped_cut (head.Many (kind.Flat f) is_there) = shaped_cut (array_spells f) (Begun (array_spells f)) is_there
body_cut inner cut stamped stamped_cut (head.Many kind.DataValue is_there) = shaped_cut (array stamped) (array_cut most_items stamped stamped_cut) is_there
body_cut inner cut stamped stamped_cut (head.Many kind.Variant is_there) = shaped_cut (array inner) (array_cut most_items inner cut) is_there
body_cut inner cut stamped stamped_cut (head.Many kind.DiagnosticInfo is_there) = shaped_cut (array (diagnostic_info 101)) (array_cut most_items (diagnostic_info 101) (diagnostic_cut 101)) is_there

unfoldable mutual
  pub variant_spells : ℕ → Variant → List ℕ → Type 0
  variant_spells zero v bytes = ⊥
  variant_spells (suc levels) v bytes = Chained (λ h. number 1 (head_number h)) (body (variant_spells levels) (data_value levels)) v bytes

  pub data_value : ℕ → Stamped Variant → List ℕ → Type 0
  data_value zero d bytes = ⊥
  data_value (suc levels) d bytes = data_value_by (variant_spells levels) d bytes

unfoldable mutual
  pub variant_cut : ℕ → List ℕ → Type 0
  variant_cut zero bytes = ⊥
  variant_cut (suc levels) bytes =
      ChainCut (λ h. number 1 (head_number h)) (λ front. length front < 1) (body_cut (variant_spells levels) (variant_cut levels) (data_value levels) (data_value_cut levels)) bytes

  pub data_value_cut : ℕ → List ℕ → Type 0
  data_value_cut zero bytes = ⊥
  data_value_cut (suc levels) bytes = data_value_cut_by (variant_spells levels) (variant_cut levels) bytes
