use Rattle.ua_values.specs.Readers.{guid_at}
use Rattle.ua_values.specs.Types.{guid}
use Rattle.ua_values.proofs.TypeCodecs.{guid_codec}
use Rattle.ua_values.proofs.Answers.{exact_by, spelled_by}
use Rattle.ua_values.proofs.reading.read_guid.Goals as goal

pub returns-clause-exact : goal.returns-clause-exact
returns-clause-exact c = exact_by guid_at c.args.bytes.now c.new-from.result c.guid-value.result c.guid-value.new.self c.sized.result c.new-from.ensures c.guid-value.ensures.exact c.sized.ensures

pub returns-clause-spelled : goal.returns-clause-spelled
returns-clause-spelled c = spelled_by guid guid_at guid_codec c.args.bytes.now c.new-from.result c.guid-value.result c.guid-value.new.self c.sized.result c.new-from.ensures c.guid-value.ensures.exact c.sized.ensures
