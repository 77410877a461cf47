-- The lines of a log, each with its exact text.
use Rattle.std.specs.Prelude.{◌==◌, ℕ, ◌-◌, List, [], ◌++◌, Bool, true, false, codes, if◌then◌else◌, length, replicate, bit_and}
use Rattle.std.specs.List.{flat_map}
use Rattle.std.specs.Fmt.{decimal, signed_decimal, digits}
use Rattle.ua_base.specs.Status.{overflow_bits}
use Rattle.set_model.specs.declared.line.GapCause.{GapCause}
use Rattle.set_model.specs.declared.line.GapCause.TheVariants.{Late, Warm, Cold, Lost, NoTime, Overflow}
use Rattle.set_model.specs.declared.line.Seen.{Seen}
use Rattle.set_model.specs.declared.line.Seen.TheVariants.{Whole, Raw}
use Rattle.set_model.specs.declared.line.LogLine.{LogLine}
use Rattle.set_model.specs.declared.line.LogLine.TheVariants as line
use Rattle.set_model.specs.Stamp.{stamp_text}

abbrev pub cause_text : GapCause → List ℕ
cause_text Late = codes "late"
cause_text Warm = codes "warm"
cause_text Cold = codes "cold"
cause_text Lost = codes "lost"
cause_text NoTime = codes "notime"
cause_text Overflow = codes "overflow"

-- a number's hexadecimal digits, with zeros before them up to a width
abbrev pub hex : ℕ → Bool → ℕ → List ℕ
hex width upper n = replicate (width - length (digits 16 upper n)) 48 ++ digits 16 upper n

abbrev pub raw_text : List ℕ → List ℕ
raw_text bytes = flat_map (hex 2 false) bytes

-- a whole number in decimal; other values as an x and their bytes
abbrev pub seen_text : Seen → List ℕ
seen_text (Whole number) = signed_decimal number
seen_text (Raw bytes) = codes "x" ++ raw_text bytes

-- what of a status is shown: all but the bits that say overflow of a data value
abbrev pub shown_status : ℕ → ℕ
shown_status status = bit_and status (0xFFFF_FFFF - overflow_bits)

abbrev pub status_text : ℕ → List ℕ
status_text status = if shown_status status == 0 then [] else codes " " ++ hex 8 true (shown_status status)

abbrev pub line_text : LogLine → List ℕ
line_text (line.Delivered item time pico value status) =
    codes "data " ++ decimal item ++ codes " " ++ stamp_text (record { time = time; pico = pico }) ++ codes " " ++ seen_text value ++ status_text status ++ codes "\n"
line_text (line.Gap item cause) = codes "gap " ++ decimal item ++ codes " " ++ cause_text cause ++ codes "\n"
line_text (line.Switch from to) = codes "switch " ++ decimal from ++ codes " " ++ decimal to ++ codes "\n"
line_text (line.Ready server) = codes "ready " ++ decimal server ++ codes "\n"
line_text (line.Lost server) = codes "lost " ++ decimal server ++ codes "\n"
line_text (line.Unsupported server) = codes "unsupported " ++ decimal server ++ codes "\n"
line_text (line.Heard listener changes gaps) =
    codes "heard " ++ decimal listener ++ codes " " ++ decimal changes ++ codes " " ++ decimal gaps ++ codes "\n"
line_text (line.Done changes) = codes "done " ++ decimal changes ++ codes "\n"
