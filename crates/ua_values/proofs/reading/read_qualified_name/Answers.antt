use Rattle.ua_values.specs.Readers.{qualified_at}
use Rattle.ua_values.specs.Types.{qualified_name}
use Rattle.ua_values.proofs.TypeCodecs.{qualified_codec}
use Rattle.ua_values.proofs.Answers.{exact_by, spelled_by}
use Rattle.ua_values.proofs.reading.read_qualified_name.Goals as goal

pub returns-clause-exact : goal.returns-clause-exact
returns-clause-exact c = exact_by qualified_at c.args.bytes.now c.new-from.result c.qualified_name-value.result c.qualified_name-value.new.self c.sized.result c.new-from.ensures c.qualified_name-value.ensures c.sized.ensures

pub returns-clause-spelled : goal.returns-clause-spelled
returns-clause-spelled c = spelled_by qualified_name qualified_at qualified_codec c.args.bytes.now c.new-from.result c.qualified_name-value.result c.qualified_name-value.new.self c.sized.result c.new-from.ensures c.qualified_name-value.ensures c.sized.ensures
