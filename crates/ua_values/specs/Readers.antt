-- A reader for each type, field by field.
use Rattle.std.specs.Prelude.{◌≡◌, ◌==◌, ℕ, zero, suc, ◌/◌, ◌%◌, ◌^◌, ℤ, nat_lt, nat_le, not, ◌||◌, List, [], ◌∷◌, Bool, true, false, Option, Some, None, Result, Ok, Err, if◌then◌else◌}
use Rattle.std.specs.Int.{Width, cast_signed}
use Rattle.uuid.specs.Parts.{swap_fields}
use Rattle.ua_base.specs.Status.{bad_decoding_error, bad_encoding_limits_exceeded}
use Rattle.ua_values.specs.Limits.{most_bytes, most_items}
use Rattle.ua_values.specs.declared.node.NodeId.{NodeId}
use Rattle.ua_values.specs.declared.node.NodeId.TheVariants as node
use Rattle.ua_values.specs.declared.node.Form.{Form}
use Rattle.ua_values.specs.declared.node.Form.TheVariants as form
use Rattle.ua_values.specs.declared.node.Head.{Head}
use Rattle.ua_values.specs.declared.node.ExpandedNodeId.{ExpandedNodeId}
use Rattle.ua_values.specs.declared.names.QualifiedName.{QualifiedName}
use Rattle.ua_values.specs.declared.names.LocalizedText.{LocalizedText}
use Rattle.ua_values.specs.declared.extension.ExtensionObject.{ExtensionObject}
use Rattle.ua_values.specs.declared.extension.ExtensionBody.{ExtensionBody}
use Rattle.ua_values.specs.declared.extension.ExtensionBody.TheVariants as extension
use Rattle.ua_values.specs.declared.extension.BodyKind.{BodyKind}
use Rattle.ua_values.specs.declared.extension.BodyKind.TheVariants as kind
use Rattle.ua_values.specs.Reading.{Bad, Reader, passed, judged, ◌>>=◌, give, run_at, field_at, number_at}

abbrev pub boolean_at : Reader Bool
boolean_at = do
  n ← number_at 1
  give (not (n == 0))

-- a number of 8 bits per byte in two's complement
abbrev pub signed_at : ℕ → Width → Reader ℤ
signed_at w width = do
  n ← number_at w
  give (cast_signed width n)

abbrev pub guid_at : Reader (List ℕ)
guid_at = do
  bytes ← run_at 16
  give (swap_fields bytes)

-- negative, too much, or a length
abbrev pub length_of : ℕ → Result (Option ℕ) ℕ
length_of n =
    if nat_le (2 ^ 31) n then Ok None
    else if nat_lt most_bytes n then Err bad_encoding_limits_exceeded
    else Ok (Some n)

abbrev pub run_of : Option ℕ → Reader (Option (List ℕ))
run_of None = give None
run_of (Some n) = do
  run ← run_at n
  give (Some run)

abbrev pub text_at : Reader (Option (List ℕ))
text_at = do
  n ← field_at 4 length_of
  run_of n

-- negative is none, too many, or how many elements an array has
abbrev pub count_of : ℕ → ℕ → Result ℕ ℕ
count_of most n =
    if nat_le (2 ^ 31) n then Ok 0
    else if nat_lt most n then Err bad_encoding_limits_exceeded
    else Ok n

abbrev pub elements_at : {A : Type 0} → ℕ → Reader A → Reader (List A)
elements_at zero at = give []
elements_at (suc n) at = do
  first ← at
  more ← elements_at n at
  give (first ∷ more)

-- an array of so many elements at most
abbrev pub array_within_at : {A : Type 0} → ℕ → Reader A → Reader (List A)
array_within_at most at = do
  n ← field_at 4 (count_of most)
  elements_at n at

abbrev pub array_at : {A : Type 0} → Reader A → Reader (List A)
array_at at = array_within_at most_items at

abbrev pub form_of : ℕ → Result Form ℕ
form_of byte =
    if byte == 0 then Ok form.TwoByte
    else if byte == 1 then Ok form.FourByte
    else if byte == 2 then Ok form.Long
    else if byte == 3 then Ok form.Text
    else if byte == 4 then Ok form.Guid
    else if byte == 5 then Ok form.Opaque
    else Err bad_decoding_error

abbrev pub form_body_at : Form → Reader NodeId
form_body_at form.TwoByte = do
  id ← number_at 1
  give (node.Numeric 0 id)
form_body_at form.FourByte = do
  namespace ← number_at 1
  id ← number_at 2
  give (node.Numeric namespace id)
form_body_at form.Long = do
  namespace ← number_at 2
  id ← number_at 4
  give (node.Numeric namespace id)
form_body_at form.Text = do
  namespace ← number_at 2
  id ← text_at
  give (node.Text namespace id)
form_body_at form.Guid = do
  namespace ← number_at 2
  id ← guid_at
  give (node.Guid namespace id)
form_body_at form.Opaque = do
  namespace ← number_at 2
  id ← text_at
  give (node.Opaque namespace id)

abbrev pub node_at : Reader NodeId
node_at = do
  f ← field_at 1 form_of
  form_body_at f

-- what a bit of a byte may be worth
abbrev pub is_worth : ℕ → Bool
is_worth n = n == 1 || n == 2 || n == 4 || n == 8 || n == 16 || n == 32 || n == 64 || n == 128

-- the bit that is worth so much
abbrev pub has_bit : ℕ → ℕ → Bool
has_bit worth byte = byte / worth % 2 == 1

abbrev pub with_flags : ℕ → Result Form ℕ → Result Head ℕ
with_flags byte (Ok f) = Ok (record { form = f; has_uri = has_bit 128 byte; has_server = has_bit 64 byte })
with_flags byte (Err code) = Err code

abbrev pub head_of : ℕ → Result Head ℕ
head_of byte = with_flags byte (form_of (byte % 64))

abbrev pub optional_at : {A : Type 0} → Bool → A → Reader A → Reader A
optional_at true blank at = at
optional_at false blank at = give blank

abbrev pub expanded_at : Reader ExpandedNodeId
expanded_at = do
  head ← field_at 1 head_of
  node ← form_body_at head.form
  uri ← optional_at head.has_uri None text_at
  server ← optional_at head.has_server 0 (number_at 4)
  give (record { node = node; uri = uri; server = server })

abbrev pub qualified_at : Reader QualifiedName
qualified_at = do
  namespace ← number_at 2
  name ← text_at
  give (record { namespace = namespace; name = name })

abbrev pub localized_at : Reader LocalizedText
localized_at = do
  mask ← number_at 1
  locale ← optional_at (has_bit 1 mask) None text_at
  text ← optional_at (has_bit 2 mask) None text_at
  give (record { locale = locale; text = text })

abbrev pub kind_of : ℕ → Result BodyKind ℕ
kind_of byte =
    if byte == 0 then Ok kind.Absent
    else if byte == 1 then Ok kind.Binary
    else if byte == 2 then Ok kind.Xml
    else Err bad_decoding_error

abbrev pub kind_body_at : BodyKind → Reader ExtensionBody
kind_body_at kind.Absent = give extension.Absent
kind_body_at kind.Binary = do
  run ← text_at
  give (extension.Binary run)
kind_body_at kind.Xml = do
  run ← text_at
  give (extension.Xml run)

abbrev pub body_at : Reader ExtensionBody
body_at = do
  k ← field_at 1 kind_of
  kind_body_at k

abbrev pub extension_at : Reader ExtensionObject
extension_at = do
  type_id ← node_at
  body ← body_at
  give (record { type_id = type_id; body = body })

-- a value that may not stand here is refused before its first byte
abbrev pub refused_at : {A : Type 0} → ℕ → Reader A
refused_at code from = Err (Bad from.place code)

-- what was read is judged as a whole, where it began
abbrev pub checked_at : {A B : Type 0} → Reader A → (A → Result B ℕ) → Reader B
checked_at at meaning from = passed (at from) (λ a. judged (meaning a) from.place)

-- what a number says, or nothing where it breaks the rule of that code
abbrev pub MeansOrNot : {A : Type 0} → Option A → Result A ℕ → ℕ → Type 0
MeansOrNot (Some a) meaning code = meaning ≡ Ok a
MeansOrNot None meaning code = meaning ≡ Err code
