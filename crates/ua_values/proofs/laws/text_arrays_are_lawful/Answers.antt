use Rattle.ua_values.specs.Parts.{text, array}
use Rattle.ua_values.specs.Readers.{text_at, array_at}
use Rattle.ua_values.specs.Written.{written_text, written_array}
use Rattle.ua_values.specs.Laws.{KeepsText, KeepsArray}
use Rattle.ua_values.proofs.TypeCodecs.{text_codec}
use Rattle.ua_values.proofs.Arrays.{array_codec}
use Rattle.ua_values.proofs.WrittenLemmas.{lawful, text_spelled, array_spelled}
use Rattle.ua_values.proofs.laws.text_arrays_are_lawful.Goals as goal

pub returns : goal.returns
returns c = lawful (KeepsArray KeepsText) (array text) (array_at text_at) (written_array written_text) (array_codec text text_at text_codec) (array_spelled KeepsText text written_text text_spelled)
