-- A value that a subscription reports, as the log takes it (OPC 10000-4, 7.7).
use Rattle.std.specs.Prelude.{ℕ, ℤ, pos, min, nat_le, ◌^◌, ◌-◌, [], ◌∷◌, Bool, true, false, Option, Some, None, if◌then◌else◌, unwrap_or}
use Rattle.set_model.specs.declared.line.Arrived.{Arrived}
use Rattle.set_model.specs.declared.line.Seen.{Seen}
use Rattle.set_model.specs.declared.line.Seen.TheVariants.{Whole, Raw}
use Rattle.set_model.specs.declared.stamp.Stamp.{Stamp}
use Rattle.ua_variants.specs.declared.variant.Scalar.{Scalar}
use Rattle.ua_variants.specs.declared.variant.Scalar.TheVariants as scalar
use Rattle.ua_variants.specs.declared.variant.Variant.{Variant, out-Variant}
use Rattle.ua_variants.specs.declared.variant.Variant.TheOpen.{Variant-F}
use Rattle.ua_variants.specs.declared.variant.Stamped.{Stamped}
use Rattle.ua_variants.specs.Spelling.{written_variant}

abbrev pub whole_boolean : Bool → ℤ
whole_boolean true = pos 1
whole_boolean false = pos 0

-- a UInt64 that is no Int64 has no whole number here
abbrev pub whole_long : ℕ → Option ℤ
whole_long n = if nat_le n (2 ^ 63 - 1) then Some (pos n) else None

abbrev pub whole_of : Scalar → Option ℤ
whole_of (scalar.Boolean b) = Some (whole_boolean b)
whole_of (scalar.SByte z) = Some z
whole_of (scalar.Byte n) = Some (pos n)
whole_of (scalar.Int16 z) = Some z
whole_of (scalar.UInt16 n) = Some (pos n)
whole_of (scalar.Int32 z) = Some z
whole_of (scalar.UInt32 n) = Some (pos n)
whole_of (scalar.Int64 z) = Some z
whole_of (scalar.UInt64 n) = whole_long n
whole_of other = None

-- a number that stands alone, not in an array
abbrev pub whole_in : Variant-F Variant → Option ℤ
whole_in (Variant-F.Scalar s) = whole_of s
whole_in other = None

abbrev pub seen_by : Option ℤ → Variant → Seen
seen_by (Some number) v = Whole number
seen_by None v = Raw (written_variant v)

-- a value that is absent counts as the null Variant, of which the byte 0 is written
unfoldable pub seen_of : Option Variant → Seen
seen_of None = Raw (0 ∷ [])
seen_of (Some v) = seen_by (whole_in (out-Variant v)) v

-- picoseconds that are absent count as 0, and those above 9999 as 9999 (OPC 10000-4, 7.7.3)
abbrev pub stamp_at : ℤ → Option ℕ → Stamp
stamp_at time pico = record { time = time; pico = min (unwrap_or pico 0) 9999 }

abbrev pub stamp_of : Option ℤ → Option ℕ → Option Stamp
stamp_of None pico = None
stamp_of (Some time) pico = Some (stamp_at time pico)

-- a status that is absent is 0, Good
unfoldable pub arrived_of : Stamped Variant → Arrived
arrived_of d = record {
  time = stamp_of d.source_timestamp d.source_picoseconds;
  value = seen_of d.value;
  status = unwrap_or d.status 0;
}
