use Rattle.ua_values.specs.Types.{localized_text}
use Rattle.ua_values.specs.Readers.{localized_at}
use Rattle.ua_values.specs.Written.{written_localized}
use Rattle.ua_values.specs.Laws.{KeepsLocalized}
use Rattle.ua_values.proofs.TypeCodecs.{localized_codec}
use Rattle.ua_values.proofs.WrittenLemmas.{lawful, localized_spelled}
use Rattle.ua_values.proofs.laws.localized_texts_are_lawful.Goals as goal

pub returns : goal.returns
returns c = lawful KeepsLocalized localized_text localized_at written_localized localized_codec localized_spelled
