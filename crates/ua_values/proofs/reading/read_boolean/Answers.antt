use Rattle.ua_values.specs.Readers.{boolean_at}
use Rattle.ua_values.specs.Types.{boolean}
use Rattle.ua_values.proofs.TypeCodecs.{boolean_codec}
use Rattle.ua_values.proofs.Answers.{exact_by, spelled_by}
use Rattle.ua_values.proofs.reading.read_boolean.Goals as goal

pub returns-clause-exact : goal.returns-clause-exact
returns-clause-exact c = exact_by boolean_at c.args.bytes.now c.new-from.result c.boolean-value.result c.boolean-value.new.self c.sized.result c.new-from.ensures c.boolean-value.ensures.exact c.sized.ensures

pub returns-clause-spelled : goal.returns-clause-spelled
returns-clause-spelled c = spelled_by boolean boolean_at boolean_codec c.args.bytes.now c.new-from.result c.boolean-value.result c.boolean-value.new.self c.sized.result c.new-from.ensures c.boolean-value.ensures.exact c.sized.ensures
