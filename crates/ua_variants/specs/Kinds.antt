-- The built-in types by their numbers, and the first byte of a Variant (OPC 10000-6, 5.1.2 and 5.2.2.16).
use Rattle.std.specs.Prelude.{ℕ, ◌+◌, ◌/◌, ◌%◌, ◌==◌, true, false, Result, Ok, Err, if◌then◌else◌}
use Rattle.ua_base.specs.Status.{bad_decoding_error}
use Rattle.ua_variants.specs.declared.variant.Flat.{Flat}
use Rattle.ua_variants.specs.declared.variant.Flat.TheVariants as flat
use Rattle.ua_variants.specs.declared.head.Kind.{Kind}
use Rattle.ua_variants.specs.declared.head.Kind.TheVariants as kind
use Rattle.ua_variants.specs.declared.head.Head.{Head}
use Rattle.ua_variants.specs.declared.head.Head.TheVariants as head

abbrev pub flat_number : Flat → ℕ
flat_number flat.Boolean = 1
flat_number flat.SByte = 2
flat_number flat.Byte = 3
flat_number flat.Int16 = 4
flat_number flat.UInt16 = 5
flat_number flat.Int32 = 6
flat_number flat.UInt32 = 7
flat_number flat.Int64 = 8
flat_number flat.UInt64 = 9
flat_number flat.Float = 10
flat_number flat.Double = 11
flat_number flat.String = 12
flat_number flat.DateTime = 13
flat_number flat.Guid = 14
flat_number flat.ByteString = 15
flat_number flat.XmlElement = 16
flat_number flat.NodeId = 17
flat_number flat.ExpandedNodeId = 18
flat_number flat.StatusCode = 19
flat_number flat.QualifiedName = 20
flat_number flat.LocalizedText = 21
flat_number flat.ExtensionObject = 22

abbrev pub kind_number : Kind → ℕ
kind_number (kind.Flat f) = flat_number f
kind_number kind.DataValue = 23
kind_number kind.Variant = 24
kind_number kind.DiagnosticInfo = 25

-- an array adds 128, one with dimensions 64 more
abbrev pub head_number : Head → ℕ
head_number head.Null = 0
head_number (head.One k) = kind_number k
head_number (head.Many k false) = 128 + kind_number k
head_number (head.Many k true) = 192 + kind_number k

abbrev pub kind_of : ℕ → Result Kind ℕ
kind_of n =
    if n == 1 then Ok (kind.Flat flat.Boolean)
    else if n == 2 then Ok (kind.Flat flat.SByte)
    else if n == 3 then Ok (kind.Flat flat.Byte)
    else if n == 4 then Ok (kind.Flat flat.Int16)
    else if n == 5 then Ok (kind.Flat flat.UInt16)
    else if n == 6 then Ok (kind.Flat flat.Int32)
    else if n == 7 then Ok (kind.Flat flat.UInt32)
    else if n == 8 then Ok (kind.Flat flat.Int64)
    else if n == 9 then Ok (kind.Flat flat.UInt64)
    else if n == 10 then Ok (kind.Flat flat.Float)
    else if n == 11 then Ok (kind.Flat flat.Double)
    else if n == 12 then Ok (kind.Flat flat.String)
    else if n == 13 then Ok (kind.Flat flat.DateTime)
    else if n == 14 then Ok (kind.Flat flat.Guid)
    else if n == 15 then Ok (kind.Flat flat.ByteString)
    else if n == 16 then Ok (kind.Flat flat.XmlElement)
    else if n == 17 then Ok (kind.Flat flat.NodeId)
    else if n == 18 then Ok (kind.Flat flat.ExpandedNodeId)
    else if n == 19 then Ok (kind.Flat flat.StatusCode)
    else if n == 20 then Ok (kind.Flat flat.QualifiedName)
    else if n == 21 then Ok (kind.Flat flat.LocalizedText)
    else if n == 22 then Ok (kind.Flat flat.ExtensionObject)
    else if n == 23 then Ok kind.DataValue
    else if n == 24 then Ok kind.Variant
    else if n == 25 then Ok kind.DiagnosticInfo
    else Err bad_decoding_error

-- the two highest bits, and the type
abbrev pub with_kind : ℕ → Result Kind ℕ → Result Head ℕ
with_kind high (Err code) = Err code
with_kind high (Ok k) =
    if high == 0 then Ok (head.One k)
    else if high == 2 then Ok (head.Many k false)
    else if high == 3 then Ok (head.Many k true)
    else Err bad_decoding_error

abbrev pub head_of : ℕ → Result Head ℕ
head_of byte = if byte == 0 then Ok head.Null else with_kind (byte / 64) (kind_of (byte % 64))
