use Rattle.ua_values.specs.Readers.{localized_at}
use Rattle.ua_values.specs.Types.{localized_text}
use Rattle.ua_values.proofs.TypeCodecs.{localized_codec}
use Rattle.ua_values.proofs.Answers.{exact_by, spelled_by}
use Rattle.ua_values.proofs.reading.read_localized_text.Goals as goal

pub returns-clause-exact : goal.returns-clause-exact
returns-clause-exact c = exact_by localized_at c.args.bytes.now c.new-from.result c.localized_text-value.result c.localized_text-value.new.self c.sized.result c.new-from.ensures c.localized_text-value.ensures c.sized.ensures

pub returns-clause-spelled : goal.returns-clause-spelled
returns-clause-spelled c = spelled_by localized_text localized_at localized_codec c.args.bytes.now c.new-from.result c.localized_text-value.result c.localized_text-value.new.self c.sized.result c.new-from.ensures c.localized_text-value.ensures c.sized.ensures
