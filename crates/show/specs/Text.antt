-- The text of a DataValue, as `show value` prints it: a line for each field that is there, and one for each element of
-- an array.
use Rattle.std.specs.Prelude.{ℕ, zero, suc, List, [], ◌++◌, codes, length, Bool, if◌then◌else◌, Option, Some, None}
use Rattle.std.specs.List.{flat_map}
use Rattle.std.specs.Fmt.{decimal, signed_decimal}
use Rattle.std.specs.Int.{w32, to_be_bytes}
use Rattle.hex.specs.Hex.{encode_lower, encode_upper}
use Rattle.uuid.specs.Text.{hyphenated_text, lower}
use Rattle.byteorder.specs.Endian.{little_bytes}
use Rattle.ua_values.specs.Written.{written_text, written_node, written_expanded, written_qualified, written_localized, written_extension}
use Rattle.ua_variants.specs.declared.variant.Scalar.{Scalar}
use Rattle.ua_variants.specs.declared.variant.Scalar.TheVariants as scalar
use Rattle.ua_variants.specs.declared.variant.Array.{Array}
use Rattle.ua_variants.specs.declared.variant.Array.TheVariants as array
use Rattle.ua_variants.specs.declared.variant.Stamped.{Stamped}
use Rattle.ua_variants.specs.declared.variant.Variant.{Variant, out-Variant}
use Rattle.ua_variants.specs.declared.variant.Variant.TheOpen.{Variant-F}
use Rattle.ua_variants.specs.Kinds.{flat_number}
use Rattle.ua_variants.specs.Grammar.{count_of_array}
use Rattle.ua_variants.specs.Spelling.{flat_of, flat_of_array, written_variant, written_data_value}

-- ---- the text of one value

abbrev pub boolean_text : Bool → List ℕ
boolean_text b = if b then codes "1" else codes "0"

-- a Guid with its hyphens, in lower case
abbrev pub guid_text : List ℕ → List ℕ
guid_text id = hyphenated_text lower id

-- a status code in eight upper hexadecimal digits
abbrev pub status_text : ℕ → List ℕ
status_text code = encode_upper (to_be_bytes w32 code)

-- an x, and bytes in lower hexadecimal
abbrev pub bytes_text : List ℕ → List ℕ
bytes_text bytes = codes "x" ++ encode_lower bytes

-- the bytes that are written of a DiagnosticInfo, which says nothing
abbrev pub diagnostic_text : List ℕ
diagnostic_text = bytes_text (little_bytes 1 0)

-- whole numbers and times in decimal; of what has no text of its own the bytes that are written
abbrev pub scalar_text : Scalar → List ℕ
scalar_text (scalar.Boolean b) = boolean_text b
scalar_text (scalar.SByte n) = signed_decimal n
scalar_text (scalar.Byte n) = decimal n
scalar_text (scalar.Int16 n) = signed_decimal n
scalar_text (scalar.UInt16 n) = decimal n
scalar_text (scalar.Int32 n) = signed_decimal n
scalar_text (scalar.UInt32 n) = decimal n
scalar_text (scalar.Int64 n) = signed_decimal n
scalar_text (scalar.UInt64 n) = decimal n
scalar_text (scalar.Float bits) = bytes_text (little_bytes 4 bits)
scalar_text (scalar.Double bits) = bytes_text (little_bytes 8 bits)
scalar_text (scalar.String text) = bytes_text (written_text text)
scalar_text (scalar.DateTime time) = signed_decimal time
scalar_text (scalar.Guid id) = guid_text id
scalar_text (scalar.ByteString bytes) = bytes_text (written_text bytes)
scalar_text (scalar.XmlElement text) = bytes_text (written_text text)
scalar_text (scalar.NodeId node) = bytes_text (written_node node)
scalar_text (scalar.ExpandedNodeId node) = bytes_text (written_expanded node)
scalar_text (scalar.StatusCode code) = status_text code
scalar_text (scalar.QualifiedName name) = bytes_text (written_qualified name)
scalar_text (scalar.LocalizedText text) = bytes_text (written_localized text)
scalar_text (scalar.ExtensionObject object) = bytes_text (written_extension object)

-- ---- the lines of a value

-- a type's number, and the text of its value
abbrev pub value_line : ℕ → List ℕ → List ℕ
value_line number text = codes "value " ++ decimal number ++ codes " " ++ text ++ codes "\n"

-- a type's number, and how many elements follow
abbrev pub count_line : ℕ → ℕ → List ℕ
count_line number count = codes "value " ++ decimal number ++ codes "[" ++ decimal count ++ codes "]\n"

abbrev pub element_line : List ℕ → List ℕ
element_line text = codes "  " ++ text ++ codes "\n"

-- a line for each element, `text` being what is printed of one
abbrev pub element_lines : {A : Type 0} → (A → List ℕ) → List A → List ℕ
element_lines text items = flat_map (λ item. element_line (text item)) items

-- of values that have no text of their own
abbrev pub written_lines : {A : Type 0} → (A → List ℕ) → List A → List ℕ
written_lines written items = element_lines (λ item. bytes_text (written item)) items

abbrev pub array_lines : Array → List ℕ
array_lines (array.Boolean items) = element_lines boolean_text items
array_lines (array.SByte items) = element_lines signed_decimal items
array_lines (array.Byte items) = element_lines decimal items
array_lines (array.Int16 items) = element_lines signed_decimal items
array_lines (array.UInt16 items) = element_lines decimal items
array_lines (array.Int32 items) = element_lines signed_decimal items
array_lines (array.UInt32 items) = element_lines decimal items
array_lines (array.Int64 items) = element_lines signed_decimal items
array_lines (array.UInt64 items) = element_lines decimal items
array_lines (array.Float items) = written_lines (little_bytes 4) items
array_lines (array.Double items) = written_lines (little_bytes 8) items
array_lines (array.String items) = written_lines written_text items
array_lines (array.DateTime items) = element_lines signed_decimal items
array_lines (array.Guid items) = element_lines guid_text items
array_lines (array.ByteString items) = written_lines written_text items
array_lines (array.XmlElement items) = written_lines written_text items
array_lines (array.NodeId items) = written_lines written_node items
array_lines (array.ExpandedNodeId items) = written_lines written_expanded items
array_lines (array.StatusCode items) = element_lines status_text items
array_lines (array.QualifiedName items) = written_lines written_qualified items
array_lines (array.LocalizedText items) = written_lines written_localized items
array_lines (array.ExtensionObject items) = written_lines written_extension items

-- of so many DiagnosticInfos
abbrev pub diagnostic_lines : ℕ → List ℕ
diagnostic_lines zero = []
diagnostic_lines (suc count) = diagnostic_lines count ++ element_line diagnostic_text

-- one level of a Variant; dimensions aren't printed
abbrev pub level_text : Variant-F Variant → List ℕ
level_text Variant-F.Null = value_line 0 (codes "null")
level_text (Variant-F.Scalar value) = value_line (flat_number (flat_of value)) (scalar_text value)
level_text (Variant-F.DataValue value) = value_line 23 (bytes_text (written_data_value value))
level_text (Variant-F.Variant value) = value_line 24 (bytes_text (written_variant value))
level_text Variant-F.DiagnosticInfo = value_line 25 diagnostic_text
level_text (Variant-F.Array items sizes) =
    count_line (flat_number (flat_of_array items)) (count_of_array items) ++ array_lines items
level_text (Variant-F.DataValues items sizes) = count_line 23 (length items) ++ written_lines written_data_value items
level_text (Variant-F.Variants items sizes) = count_line 24 (length items) ++ written_lines written_variant items
level_text (Variant-F.DiagnosticInfos count sizes) = count_line 25 count ++ diagnostic_lines count

abbrev pub variant_text : Variant → List ℕ
variant_text value = level_text (out-Variant value)

-- ---- the lines of a DataValue

abbrev pub some_text : {A : Type 0} → (A → List ℕ) → Option A → List ℕ
some_text text None = []
some_text text (Some a) = text a

-- a field's name, and its text
abbrev pub field_line : {A : Type 0} → List ℕ → (A → List ℕ) → Option A → List ℕ
field_line name text field = some_text (λ a. name ++ codes " " ++ text a ++ codes "\n") field

abbrev pub value_text : Stamped Variant → List ℕ
value_text d =
    some_text variant_text d.value
    ++ field_line (codes "status") status_text d.status
    ++ field_line (codes "source") signed_decimal d.source_timestamp
    ++ field_line (codes "sourcepico") decimal d.source_picoseconds
    ++ field_line (codes "server") signed_decimal d.server_timestamp
    ++ field_line (codes "serverpico") decimal d.server_picoseconds
