-- The spelling that is written, of a value's several ones. A length of a value that breaks the rules is written modulo 2 ^ 32.
use Rattle.std.specs.Prelude.{◌==◌, ℕ, ◌+◌, ◌-◌, ◌%◌, ◌^◌, ℤ, nat_lt, not, ◌&&◌, List, [], ◌++◌, length, Bool, true, false, Option, Some, None, if◌then◌else◌}
use Rattle.std.specs.List.{flat_map}
use Rattle.std.specs.Option.{is_some}
use Rattle.std.specs.Int.{Width, cast_unsigned}
use Rattle.byteorder.specs.Endian.{little_bytes}
use Rattle.uuid.specs.Parts.{swap_fields}
use Rattle.ua_values.specs.declared.node.NodeId.{NodeId}
use Rattle.ua_values.specs.declared.node.NodeId.TheVariants as node
use Rattle.ua_values.specs.declared.node.Form.{Form}
use Rattle.ua_values.specs.declared.node.Form.TheVariants as form
use Rattle.ua_values.specs.declared.node.ExpandedNodeId.{ExpandedNodeId}
use Rattle.ua_values.specs.declared.names.QualifiedName.{QualifiedName}
use Rattle.ua_values.specs.declared.names.LocalizedText.{LocalizedText}
use Rattle.ua_values.specs.declared.extension.ExtensionObject.{ExtensionObject}
use Rattle.ua_values.specs.declared.extension.ExtensionBody.{ExtensionBody}
use Rattle.ua_values.specs.declared.extension.ExtensionBody.TheVariants as extension
use Rattle.ua_values.specs.Types.{form_byte}

abbrev pub written_boolean : Bool → List ℕ
written_boolean b = little_bytes 1 (if b then 1 else 0)

abbrev pub written_signed : ℕ → Width → ℤ → List ℕ
written_signed w width z = little_bytes w (cast_unsigned width z)

abbrev pub written_guid : List ℕ → List ℕ
written_guid g = swap_fields g

-- null is the length -1
abbrev pub written_text : Option (List ℕ) → List ℕ
written_text None = little_bytes 4 (2 ^ 32 - 1)
written_text (Some run) = little_bytes 4 (length run % 2 ^ 32) ++ run

-- an empty array has the length 0
abbrev pub written_array : {A : Type 0} → (A → List ℕ) → List A → List ℕ
written_array written items = little_bytes 4 (length items % 2 ^ 32) ++ flat_map written items

-- the shortest form that holds the value
abbrev pub shortest_number : ℕ → ℕ → Form
shortest_number namespace id =
    if namespace == 0 && nat_lt id 256 then form.TwoByte
    else if nat_lt namespace 256 && nat_lt id 65536 then form.FourByte
    else form.Long

abbrev pub shortest : NodeId → Form
shortest (node.Numeric namespace id) = shortest_number namespace id
shortest (node.Text namespace id) = form.Text
shortest (node.Guid namespace id) = form.Guid
shortest (node.Opaque namespace id) = form.Opaque

abbrev pub written_number : Form → ℕ → ℕ → List ℕ
written_number form.TwoByte namespace id = little_bytes 1 id
written_number form.FourByte namespace id = little_bytes 1 namespace ++ little_bytes 2 id
written_number f namespace id = little_bytes 2 namespace ++ little_bytes 4 id

-- what stands after the form
abbrev pub written_form : NodeId → List ℕ
written_form (node.Numeric namespace id) = written_number (shortest_number namespace id) namespace id
written_form (node.Text namespace id) = little_bytes 2 namespace ++ written_text id
written_form (node.Guid namespace id) = little_bytes 2 namespace ++ written_guid id
written_form (node.Opaque namespace id) = little_bytes 2 namespace ++ written_text id

abbrev pub written_node : NodeId → List ℕ
written_node n = little_bytes 1 (form_byte (shortest n)) ++ written_form n

-- a field that is left out where it is blank
abbrev pub flag : ℕ → Bool → ℕ
flag worth true = worth
flag worth false = 0

abbrev pub unless_null : Option (List ℕ) → List ℕ
unless_null None = []
unless_null (Some run) = written_text (Some run)

abbrev pub unless_zero : ℕ → List ℕ
unless_zero n = if n == 0 then [] else little_bytes 4 n

abbrev pub written_head : ExpandedNodeId → ℕ
written_head e = form_byte (shortest e.node) + flag 128 (is_some e.uri) + flag 64 (not (e.server == 0))

abbrev pub written_expanded : ExpandedNodeId → List ℕ
written_expanded e = little_bytes 1 (written_head e) ++ written_form e.node ++ unless_null e.uri ++ unless_zero e.server

abbrev pub written_qualified : QualifiedName → List ℕ
written_qualified q = little_bytes 2 q.namespace ++ written_text q.name

abbrev pub written_mask : LocalizedText → ℕ
written_mask t = flag 1 (is_some t.locale) + flag 2 (is_some t.text)

abbrev pub written_localized : LocalizedText → List ℕ
written_localized t = little_bytes 1 (written_mask t) ++ unless_null t.locale ++ unless_null t.text

abbrev pub written_body : ExtensionBody → List ℕ
written_body extension.Absent = little_bytes 1 0
written_body (extension.Binary run) = little_bytes 1 1 ++ written_text run
written_body (extension.Xml run) = little_bytes 1 2 ++ written_text run

abbrev pub written_extension : ExtensionObject → List ℕ
written_extension x = written_node x.type_id ++ written_body x.body
