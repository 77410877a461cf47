use Rattle.ua_values.specs.Reading.{number_at}
use Rattle.ua_values.specs.Parts.{number}
use Rattle.ua_values.proofs.TypeCodecs.{number64_codec}
use Rattle.ua_values.proofs.Answers.{exact_by, spelled_by}
use Rattle.ua_values.proofs.reading.read_double.Goals as goal

pub returns-clause-exact : goal.returns-clause-exact
returns-clause-exact c = exact_by (number_at 8) c.args.bytes.now c.new-from.result c.uint64-value.result c.uint64-value.new.self c.sized.result c.new-from.ensures c.uint64-value.ensures.exact c.sized.ensures

pub returns-clause-spelled : goal.returns-clause-spelled
returns-clause-spelled c = spelled_by (number 8) (number_at 8) number64_codec c.args.bytes.now c.new-from.result c.uint64-value.result c.uint64-value.new.self c.sized.result c.new-from.ensures c.uint64-value.ensures.exact c.sized.ensures
