-- The grammar: which bytes are a spelling of a value of each built-in type (OPC 10000-6, 5.2.2).
use Rattle.std.specs.Prelude.{◌≡◌, ◌<◌, ◌%◌, ℕ, ℤ, List, length, Bool, true, false, Option, None}
use Rattle.std.specs.Int.{Width, cast_signed}
use Rattle.uuid.specs.Parts.{swap_fields}
use Rattle.ua_values.specs.declared.node.NodeId.{NodeId}
use Rattle.ua_values.specs.declared.node.NodeId.TheVariants as node
use Rattle.ua_values.specs.declared.node.Form.{Form}
use Rattle.ua_values.specs.declared.node.Form.TheVariants as form
use Rattle.ua_values.specs.declared.node.Head.{Head}
use Rattle.ua_values.specs.declared.node.ExpandedNodeId.{ExpandedNodeId}
use Rattle.ua_values.specs.declared.names.QualifiedName.{QualifiedName}
use Rattle.ua_values.specs.declared.names.LocalizedText.{LocalizedText}
use Rattle.ua_values.specs.declared.extension.ExtensionObject.{ExtensionObject}
use Rattle.ua_values.specs.declared.extension.ExtensionBody.{ExtensionBody}
use Rattle.ua_values.specs.declared.extension.ExtensionBody.TheVariants as extension
use Rattle.ua_values.specs.declared.extension.BodyKind.{BodyKind}
use Rattle.ua_values.specs.declared.extension.BodyKind.TheVariants as kind
use Rattle.ua_values.specs.Parts.{number, nothing, optional, ◌followed_by◌, Chained, text}
use Rattle.ua_values.specs.Readers.{has_bit}

-- 0 is false, every other byte is true
abbrev pub boolean : Bool → List ℕ → Type 0
boolean false bytes = number 1 0 bytes
boolean true bytes = (n : ℕ) × (0 < n) × number 1 n bytes

-- two's complement
abbrev pub signed : ℕ → Width → ℤ → List ℕ → Type 0
signed w width z bytes = (n : ℕ) × (z ≡ cast_signed width n) × number w n bytes

-- a number of 4 bytes, two of 2 bytes, each the lowest byte first, and 8 bytes as they stand
abbrev pub guid : List ℕ → List ℕ → Type 0
guid g bytes = (length bytes ≡ 16) × (g ≡ swap_fields bytes)

abbrev pub form_byte : Form → ℕ
form_byte form.TwoByte = 0
form_byte form.FourByte = 1
form_byte form.Long = 2
form_byte form.Text = 3
form_byte form.Guid = 4
form_byte form.Opaque = 5

-- what follows the byte, for each form
abbrev pub form_body : Form → NodeId → List ℕ → Type 0
form_body form.TwoByte n bytes = (id : ℕ) × (n ≡ node.Numeric 0 id) × number 1 id bytes
form_body form.FourByte n bytes = (namespace id : ℕ) × (n ≡ node.Numeric namespace id) × (number 1 namespace followed_by number 2 id) bytes
form_body form.Long n bytes = (namespace id : ℕ) × (n ≡ node.Numeric namespace id) × (number 2 namespace followed_by number 4 id) bytes
form_body form.Text n bytes = (namespace : ℕ) × (id : Option (List ℕ)) × (n ≡ node.Text namespace id) × (number 2 namespace followed_by text id) bytes
form_body form.Guid n bytes = (namespace : ℕ) × (id : List ℕ) × (n ≡ node.Guid namespace id) × (number 2 namespace followed_by guid id) bytes
form_body form.Opaque n bytes = (namespace : ℕ) × (id : Option (List ℕ)) × (n ≡ node.Opaque namespace id) × (number 2 namespace followed_by text id) bytes

abbrev pub node_id : NodeId → List ℕ → Type 0
node_id = Chained (λ f. number 1 (form_byte f)) form_body

-- the low six bits are a form's byte; the bit that is worth 128 says that a uri follows, and the one worth 64 a server
abbrev pub head_byte : Head → List ℕ → Type 0
head_byte h bytes = (byte : ℕ) × (byte % 64 ≡ form_byte h.form) × (h.has_uri ≡ has_bit 128 byte) × (h.has_server ≡ has_bit 64 byte) × number 1 byte bytes

abbrev pub head_body : Head → ExpandedNodeId → List ℕ → Type 0
head_body h e = form_body h.form e.node followed_by optional h.has_uri None text e.uri followed_by optional h.has_server 0 (number 4) e.server

abbrev pub expanded_node_id : ExpandedNodeId → List ℕ → Type 0
expanded_node_id = Chained head_byte head_body

abbrev pub qualified_name : QualifiedName → List ℕ → Type 0
qualified_name q = number 2 q.namespace followed_by text q.name

-- the mask's bit worth 1 says that a locale follows, and the one worth 2 a text; the others say nothing
abbrev pub mask_body : ℕ → LocalizedText → List ℕ → Type 0
mask_body mask t = optional (has_bit 1 mask) None text t.locale followed_by optional (has_bit 2 mask) None text t.text

abbrev pub localized_text : LocalizedText → List ℕ → Type 0
localized_text = Chained (number 1) mask_body

abbrev pub kind_byte : BodyKind → ℕ
kind_byte kind.Absent = 0
kind_byte kind.Binary = 1
kind_byte kind.Xml = 2

abbrev pub kind_body : BodyKind → ExtensionBody → List ℕ → Type 0
kind_body kind.Absent b bytes = (b ≡ extension.Absent) × nothing bytes
kind_body kind.Binary b bytes = (run : Option (List ℕ)) × (b ≡ extension.Binary run) × text run bytes
kind_body kind.Xml b bytes = (run : Option (List ℕ)) × (b ≡ extension.Xml run) × text run bytes

abbrev pub extension_body : ExtensionBody → List ℕ → Type 0
extension_body = Chained (λ k. number 1 (kind_byte k)) kind_body

abbrev pub extension_object : ExtensionObject → List ℕ → Type 0
extension_object x = node_id x.type_id followed_by extension_body x.body
