use Rattle.ua_values.specs.Readers.{extension_at}
use Rattle.ua_values.specs.Types.{extension_object}
use Rattle.ua_values.proofs.TypeCodecs.{extension_codec}
use Rattle.ua_values.proofs.Answers.{exact_by, spelled_by}
use Rattle.ua_values.proofs.reading.read_extension_object.Goals as goal

pub returns-clause-exact : goal.returns-clause-exact
returns-clause-exact c = exact_by extension_at c.args.bytes.now c.new-from.result c.extension_object-value.result c.extension_object-value.new.self c.sized.result c.new-from.ensures c.extension_object-value.ensures c.sized.ensures

pub returns-clause-spelled : goal.returns-clause-spelled
returns-clause-spelled c = spelled_by extension_object extension_at extension_codec c.args.bytes.now c.new-from.result c.extension_object-value.result c.extension_object-value.new.self c.sized.result c.new-from.ensures c.extension_object-value.ensures c.sized.ensures
