use Rattle.ua_values.specs.Types.{boolean}
use Rattle.ua_values.specs.Readers.{boolean_at}
use Rattle.ua_values.specs.Written.{written_boolean}
use Rattle.ua_values.proofs.TypeCodecs.{boolean_codec}
use Rattle.ua_values.proofs.WrittenLemmas.{lawful, boolean_spelled}
use Rattle.ua_values.proofs.laws.booleans_are_lawful.Goals as goal

pub returns : goal.returns
returns c = lawful (λ b. Unit {0}) boolean boolean_at written_boolean boolean_codec (λ b kept. boolean_spelled b)
