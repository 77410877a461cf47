use Rattle.std.proofs.Common.{arith, FitsSigned}
use Rattle.std.specs.Int.{w8, w16, w32, w64}
use Rattle.ua_values.specs.Types.{signed}
use Rattle.ua_values.specs.Readers.{signed_at}
use Rattle.ua_values.specs.Written.{written_signed}
use Rattle.ua_values.proofs.TypeCodecs.{signed_codec}
use Rattle.ua_values.proofs.WrittenLemmas.{lawful, signed_spelled}
use Rattle.ua_values.proofs.laws.signed_numbers_are_lawful.Goals as goal

pub returns-clause-sbyte : goal.returns-clause-sbyte
returns-clause-sbyte c = lawful (FitsSigned w8) (signed 1 w8) (signed_at 1 w8) (written_signed 1 w8) (signed_codec 1 w8 (omega arith)) (λ z fits. signed_spelled 1 w8 z fits (λ m lt. omega arith))

pub returns-clause-int16 : goal.returns-clause-int16
returns-clause-int16 c = lawful (FitsSigned w16) (signed 2 w16) (signed_at 2 w16) (written_signed 2 w16) (signed_codec 2 w16 (omega arith)) (λ z fits. signed_spelled 2 w16 z fits (λ m lt. omega arith))

pub returns-clause-int32 : goal.returns-clause-int32
returns-clause-int32 c = lawful (FitsSigned w32) (signed 4 w32) (signed_at 4 w32) (written_signed 4 w32) (signed_codec 4 w32 (omega arith)) (λ z fits. signed_spelled 4 w32 z fits (λ m lt. omega arith))

pub returns-clause-int64 : goal.returns-clause-int64
returns-clause-int64 c = lawful (FitsSigned w64) (signed 8 w64) (signed_at 8 w64) (written_signed 8 w64) (signed_codec 8 w64 (omega arith)) (λ z fits. signed_spelled 8 w64 z fits (λ m lt. omega arith))
