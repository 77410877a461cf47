use Rattle.ua_values.specs.Types.{qualified_name}
use Rattle.ua_values.specs.Readers.{qualified_at}
use Rattle.ua_values.specs.Written.{written_qualified}
use Rattle.ua_values.specs.Laws.{KeepsQualified}
use Rattle.ua_values.proofs.TypeCodecs.{qualified_codec}
use Rattle.ua_values.proofs.WrittenLemmas.{lawful, qualified_spelled}
use Rattle.ua_values.proofs.laws.qualified_names_are_lawful.Goals as goal

pub returns : goal.returns
returns c = lawful KeepsQualified qualified_name qualified_at written_qualified qualified_codec qualified_spelled
