-- What holds of each type's grammar, reader and written spelling.
use Rattle.std.specs.Prelude.{◌≡◌, ◌<◌, ◌≤◌, ℕ, ◌^◌, List, [], ◌++◌, length, Option, Ok, IfSome}
use Rattle.std.specs.List.{AllByRecursion}
use Rattle.ua_values.specs.Limits.{most_bytes, most_items}
use Rattle.ua_values.specs.declared.node.NodeId.{NodeId}
use Rattle.ua_values.specs.declared.node.NodeId.TheVariants as node
use Rattle.ua_values.specs.declared.node.ExpandedNodeId.{ExpandedNodeId}
use Rattle.ua_values.specs.declared.names.QualifiedName.{QualifiedName}
use Rattle.ua_values.specs.declared.names.LocalizedText.{LocalizedText}
use Rattle.ua_values.specs.declared.extension.ExtensionObject.{ExtensionObject}
use Rattle.ua_values.specs.declared.extension.ExtensionBody.{ExtensionBody}
use Rattle.ua_values.specs.declared.extension.ExtensionBody.TheVariants as extension
use Rattle.ua_values.specs.Reading.{input, Reader, sized}

-- ---- which values keep the rules on lengths, and have numbers that their types hold

abbrev pub KeepsText : Option (List ℕ) → Type 0
KeepsText o = IfSome o (λ run. length run ≤ most_bytes)

abbrev pub KeepsGuid : List ℕ → Type 0
KeepsGuid g = length g ≡ 16

abbrev pub KeepsNode : NodeId → Type 0
KeepsNode (node.Numeric namespace id) = (namespace < 2 ^ 16) × (id < 2 ^ 32)
KeepsNode (node.Text namespace id) = (namespace < 2 ^ 16) × KeepsText id
KeepsNode (node.Guid namespace id) = (namespace < 2 ^ 16) × KeepsGuid id
KeepsNode (node.Opaque namespace id) = (namespace < 2 ^ 16) × KeepsText id

abbrev pub KeepsExpanded : ExpandedNodeId → Type 0
KeepsExpanded e = KeepsNode e.node × KeepsText e.uri × (e.server < 2 ^ 32)

abbrev pub KeepsQualified : QualifiedName → Type 0
KeepsQualified q = (q.namespace < 2 ^ 16) × KeepsText q.name

abbrev pub KeepsLocalized : LocalizedText → Type 0
KeepsLocalized t = KeepsText t.locale × KeepsText t.text

abbrev pub KeepsBody : ExtensionBody → Type 0
KeepsBody extension.Absent = Unit {0}
KeepsBody (extension.Binary run) = KeepsText run
KeepsBody (extension.Xml run) = KeepsText run

abbrev pub KeepsExtension : ExtensionObject → Type 0
KeepsExtension x = KeepsNode x.type_id × KeepsBody x.body

-- an array whose elements keep theirs
abbrev pub KeepsArrayWithin : {A : Type 0} → ℕ → (A → Type 0) → List A → Type 0
KeepsArrayWithin most keeps items = (length items ≤ most) × AllByRecursion keeps items

abbrev pub KeepsArray : {A : Type 0} → (A → Type 0) → List A → Type 0
KeepsArray keeps items = KeepsArrayWithin most_items keeps items

-- ---- the laws

pub record IsLawful {A : Type 0} (keeps : A → Type 0) (spells : A → List ℕ → Type 0) (at : Reader A) (written : A → List ℕ) : Type 0 where
  -- no spelling is a proper front of another, and bytes spell one value at most
  pub apart : (a b : A) (text more : List ℕ) → spells a text → spells b (text ++ more) → (more ≡ []) × (a ≡ b)
  -- the written spelling is one
  pub spelled : (a : A) → keeps a → spells a (written a)
  -- what was written is read again, whatever follows it
  pub again : (a : A) (more : List ℕ) → keeps a → sized (at (input 0 (written a ++ more))) ≡ Ok (a, length (written a))
