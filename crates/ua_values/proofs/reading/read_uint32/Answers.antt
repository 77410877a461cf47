use Rattle.ua_values.specs.Reading.{number_at}
use Rattle.ua_values.specs.Parts.{number}
use Rattle.ua_values.proofs.TypeCodecs.{number32_codec}
use Rattle.ua_values.proofs.Answers.{exact_by, spelled_by}
use Rattle.ua_values.proofs.reading.read_uint32.Goals as goal

pub returns-clause-exact : goal.returns-clause-exact
returns-clause-exact c = exact_by (number_at 4) c.args.bytes.now c.new-from.result c.uint32-value.result c.uint32-value.new.self c.sized.result c.new-from.ensures c.uint32-value.ensures.exact c.sized.ensures

pub returns-clause-spelled : goal.returns-clause-spelled
returns-clause-spelled c = spelled_by (number 4) (number_at 4) number32_codec c.args.bytes.now c.new-from.result c.uint32-value.result c.uint32-value.new.self c.sized.result c.new-from.ensures c.uint32-value.ensures.exact c.sized.ensures
