use Rattle.ua_values.specs.Parts.{text}
use Rattle.ua_values.specs.Readers.{text_at}
use Rattle.ua_values.specs.Written.{written_text}
use Rattle.ua_values.specs.Laws.{KeepsText}
use Rattle.ua_values.proofs.TypeCodecs.{text_codec}
use Rattle.ua_values.proofs.WrittenLemmas.{lawful, text_spelled}
use Rattle.ua_values.proofs.laws.texts_are_lawful.Goals as goal

pub returns : goal.returns
returns c = lawful KeepsText text text_at written_text text_codec text_spelled
