use Rattle.ua_values.specs.Readers.{text_at}
use Rattle.ua_values.specs.Parts.{text}
use Rattle.ua_values.proofs.TypeCodecs.{text_codec}
use Rattle.ua_values.proofs.Answers.{exact_by, spelled_by}
use Rattle.ua_values.proofs.reading.read_byte_string.Goals as goal

pub returns-clause-exact : goal.returns-clause-exact
returns-clause-exact c = exact_by text_at c.args.bytes.now c.new-from.result c.byte_string-value.result c.byte_string-value.new.self c.sized.result c.new-from.ensures c.byte_string-value.ensures c.sized.ensures

pub returns-clause-spelled : goal.returns-clause-spelled
returns-clause-spelled c = spelled_by text text_at text_codec c.args.bytes.now c.new-from.result c.byte_string-value.result c.byte_string-value.new.self c.sized.result c.new-from.ensures c.byte_string-value.ensures c.sized.ensures
