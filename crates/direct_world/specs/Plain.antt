-- The statuses of a direct world's log: none but Good, with or without the bits of an overflow (OPC 10000-4, 7.34).
use Rattle.std.specs.Prelude.{◌≡◌, bit_and}
use Rattle.set_model.specs.declared.line.LogLine.{LogLine}
use Rattle.set_model.specs.declared.line.LogLine.TheVariants as line

-- a data line's status without the two bits 0x0480 is 0
abbrev pub IsPlain : LogLine → Type 0
IsPlain (line.Delivered item time pico value status) = bit_and status 0xFFFF_FB7F ≡ 0
IsPlain (line.Gap item cause) = Unit {0}
IsPlain (line.Switch from to) = Unit {0}
IsPlain (line.Ready server) = Unit {0}
IsPlain (line.Lost server) = Unit {0}
IsPlain (line.Unsupported server) = Unit {0}
IsPlain (line.Heard listener changes gaps) = Unit {0}
IsPlain (line.Done changes) = Unit {0}
