use Rattle.std.specs.Prelude.{take}
use Rattle.std.specs.List.{flat_map}
use Rattle.std.specs.Fmt.{IsPlainFormatter, HasWritten}
use Rattle.set_model.specs.Line.{hex}
use Rattle.std.proofs.Common.{false}
use Rattle.set_model.proofs.line.UaRawDisplay.fmt.Given as goal

-- on a plain formatter, what is written so far is the text of the bytes so far
abbrev pub invariant-loop-byte : goal.invariant-loop-byte
invariant-loop-byte g l = IsPlainFormatter l.initial.f → HasWritten g.W.Write.write_str_gives l.initial.f (flat_map (hex 2 false) (take l.byte-index l.byte-items)) l.f
