use Rattle.ua_values.specs.Types.{extension_object}
use Rattle.ua_values.specs.Readers.{extension_at}
use Rattle.ua_values.specs.Written.{written_extension}
use Rattle.ua_values.specs.Laws.{KeepsExtension}
use Rattle.ua_values.proofs.TypeCodecs.{extension_codec}
use Rattle.ua_values.proofs.WrittenLemmas.{lawful, extension_spelled}
use Rattle.ua_values.proofs.laws.extension_objects_are_lawful.Goals as goal

pub returns : goal.returns
returns c = lawful KeepsExtension extension_object extension_at written_extension extension_codec extension_spelled
