use Rattle.ua_values.specs.Reading.{number_at}
use Rattle.ua_values.specs.Parts.{number}
use Rattle.ua_values.proofs.TypeCodecs.{byte_codec}
use Rattle.ua_values.proofs.Answers.{exact_by, spelled_by}
use Rattle.ua_values.proofs.reading.read_byte.Goals as goal

pub returns-clause-exact : goal.returns-clause-exact
returns-clause-exact c = exact_by (number_at 1) c.args.bytes.now c.new-from.result c.byte-value.result c.byte-value.new.self c.sized.result c.new-from.ensures c.byte-value.ensures.exact c.sized.ensures

pub returns-clause-spelled : goal.returns-clause-spelled
returns-clause-spelled c = spelled_by (number 1) (number_at 1) byte_codec c.args.bytes.now c.new-from.result c.byte-value.result c.byte-value.new.self c.sized.result c.new-from.ensures c.byte-value.ensures.exact c.sized.ensures
