-- Which values keep the rules on lengths, dimensions and depth, and have numbers that their types hold.
use Rattle.std.specs.Prelude.{◌≡◌, ◌<◌, ◌≤◌, ◌^◌, ℕ, zero, suc, List, length, Option, FitsSigned, IfSome}
use Rattle.std.specs.List.{AllByRecursion}
use Rattle.std.specs.Int.{w8, w16, w32, w64}
use Rattle.ua_values.specs.Limits.{most_items}
use Rattle.ua_values.specs.Laws.{KeepsText, KeepsGuid, KeepsNode, KeepsExpanded, KeepsQualified, KeepsLocalized, KeepsExtension, KeepsArray}
use Rattle.ua_variants.specs.Limits.{most_dimensions}
use Rattle.ua_variants.specs.declared.variant.Scalar.{Scalar}
use Rattle.ua_variants.specs.declared.variant.Scalar.TheVariants as scalar
use Rattle.ua_variants.specs.declared.variant.Array.{Array}
use Rattle.ua_variants.specs.declared.variant.Array.TheVariants as array
use Rattle.ua_variants.specs.declared.variant.Variant.{Variant, out-Variant}
use Rattle.ua_variants.specs.declared.variant.Variant.TheOpen.{Variant-F}
use Rattle.ua_variants.specs.declared.variant.Stamped.{Stamped}
use Rattle.ua_variants.specs.Grammar.{count_of_array, product}

abbrev pub KeepsScalar : Scalar → Type 0
KeepsScalar (scalar.Boolean x) = Unit {0}
KeepsScalar (scalar.SByte x) = FitsSigned w8 x
KeepsScalar (scalar.Byte x) = x < 2 ^ 8
KeepsScalar (scalar.Int16 x) = FitsSigned w16 x
KeepsScalar (scalar.UInt16 x) = x < 2 ^ 16
KeepsScalar (scalar.Int32 x) = FitsSigned w32 x
KeepsScalar (scalar.UInt32 x) = x < 2 ^ 32
KeepsScalar (scalar.Int64 x) = FitsSigned w64 x
KeepsScalar (scalar.UInt64 x) = x < 2 ^ 64
KeepsScalar (scalar.Float x) = x < 2 ^ 32
KeepsScalar (scalar.Double x) = x < 2 ^ 64
KeepsScalar (scalar.String x) = KeepsText x
KeepsScalar (scalar.DateTime x) = FitsSigned w64 x
KeepsScalar (scalar.Guid x) = KeepsGuid x
KeepsScalar (scalar.ByteString x) = KeepsText x
KeepsScalar (scalar.XmlElement x) = KeepsText x
KeepsScalar (scalar.NodeId x) = KeepsNode x
KeepsScalar (scalar.ExpandedNodeId x) = KeepsExpanded x
KeepsScalar (scalar.StatusCode x) = x < 2 ^ 32
KeepsScalar (scalar.QualifiedName x) = KeepsQualified x
KeepsScalar (scalar.LocalizedText x) = KeepsLocalized x
KeepsScalar (scalar.ExtensionObject x) = KeepsExtension x

abbrev pub KeepsFlatArray : Array → Type 0
KeepsFlatArray (array.Boolean items) = KeepsArray (λ b. Unit {0}) items
KeepsFlatArray (array.SByte items) = KeepsArray (FitsSigned w8) items
KeepsFlatArray (array.Byte items) = KeepsArray (λ n. n < 2 ^ 8) items
KeepsFlatArray (array.Int16 items) = KeepsArray (FitsSigned w16) items
KeepsFlatArray (array.UInt16 items) = KeepsArray (λ n. n < 2 ^ 16) items
KeepsFlatArray (array.Int32 items) = KeepsArray (FitsSigned w32) items
KeepsFlatArray (array.UInt32 items) = KeepsArray (λ n. n < 2 ^ 32) items
KeepsFlatArray (array.Int64 items) = KeepsArray (FitsSigned w64) items
KeepsFlatArray (array.UInt64 items) = KeepsArray (λ n. n < 2 ^ 64) items
KeepsFlatArray (array.Float items) = KeepsArray (λ n. n < 2 ^ 32) items
KeepsFlatArray (array.Double items) = KeepsArray (λ n. n < 2 ^ 64) items
KeepsFlatArray (array.String items) = KeepsArray KeepsText items
KeepsFlatArray (array.DateTime items) = KeepsArray (FitsSigned w64) items
KeepsFlatArray (array.Guid items) = KeepsArray KeepsGuid items
KeepsFlatArray (array.ByteString items) = KeepsArray KeepsText items
KeepsFlatArray (array.XmlElement items) = KeepsArray KeepsText items
KeepsFlatArray (array.NodeId items) = KeepsArray KeepsNode items
KeepsFlatArray (array.ExpandedNodeId items) = KeepsArray KeepsExpanded items
KeepsFlatArray (array.StatusCode items) = KeepsArray (λ n. n < 2 ^ 32) items
KeepsFlatArray (array.QualifiedName items) = KeepsArray KeepsQualified items
KeepsFlatArray (array.LocalizedText items) = KeepsArray KeepsLocalized items
KeepsFlatArray (array.ExtensionObject items) = KeepsArray KeepsExtension items

abbrev pub KeepsSizes : ℕ → List ℕ → Type 0
KeepsSizes count sizes = (length sizes ≤ most_dimensions) × AllByRecursion (λ n. n < 2 ^ 31) sizes × (product sizes ≡ count)

-- dimensions, where there are some
abbrev pub KeepsShape : ℕ → Option (List ℕ) → Type 0
KeepsShape count sizes = IfSome sizes (KeepsSizes count)

abbrev pub KeepsStamps : {A : Type 0} → Stamped A → Type 0
KeepsStamps d =
    IfSome d.status (λ n. n < 2 ^ 32) × IfSome d.source_timestamp (FitsSigned w64) × IfSome d.source_picoseconds (λ n. n < 2 ^ 16)
    × IfSome d.server_timestamp (FitsSigned w64) × IfSome d.server_picoseconds (λ n. n < 2 ^ 16)

abbrev pub KeepsStamped : (Variant → Type 0) → Stamped Variant → Type 0
KeepsStamped keeps d = IfSome d.value keeps × KeepsStamps d

-- one level, and what `inner` and `stamped` say of what it holds
abbrev pub KeepsLayer : (Variant → Type 0) → (Stamped Variant → Type 0) → Variant-F Variant → Type 0
KeepsLayer inner stamped Variant-F.Null = Unit {0}
KeepsLayer inner stamped (Variant-F.Scalar s) = KeepsScalar s
KeepsLayer inner stamped (Variant-F.DataValue d) = stamped d
KeepsLayer inner stamped (Variant-F.Variant v) = inner v
KeepsLayer inner stamped Variant-F.DiagnosticInfo = Unit {0}
KeepsLayer inner stamped (Variant-F.Array items sizes) = KeepsFlatArray items × KeepsShape (count_of_array items) sizes
KeepsLayer inner stamped (Variant-F.DataValues items sizes) = KeepsArray stamped items × KeepsShape (length items) sizes
KeepsLayer inner stamped (Variant-F.Variants items sizes) = KeepsArray inner items × KeepsShape (length items) sizes
KeepsLayer inner stamped (Variant-F.DiagnosticInfos n sizes) = (n ≤ most_items) × KeepsShape n sizes

-- `levels` is how many values may stand inside each other, this one among them
unfoldable mutual
  pub KeepsVariant : ℕ → Variant → Type 0
  KeepsVariant zero v = ⊥
  KeepsVariant (suc levels) v = KeepsLayer (KeepsVariant levels) (KeepsDataValue levels) (out-Variant v)

  pub KeepsDataValue : ℕ → Stamped Variant → Type 0
  KeepsDataValue zero d = ⊥
  KeepsDataValue (suc levels) d = KeepsStamped (KeepsVariant levels) d
