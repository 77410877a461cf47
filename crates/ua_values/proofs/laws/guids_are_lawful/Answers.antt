use Rattle.ua_values.specs.Types.{guid}
use Rattle.ua_values.specs.Readers.{guid_at}
use Rattle.ua_values.specs.Written.{written_guid}
use Rattle.ua_values.specs.Laws.{KeepsGuid}
use Rattle.ua_values.proofs.TypeCodecs.{guid_codec}
use Rattle.ua_values.proofs.WrittenLemmas.{lawful, guid_spelled}
use Rattle.ua_values.proofs.laws.guids_are_lawful.Goals as goal

pub returns : goal.returns
returns c = lawful KeepsGuid guid guid_at written_guid guid_codec guid_spelled
