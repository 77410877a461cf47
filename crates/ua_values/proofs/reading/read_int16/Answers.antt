use Rattle.std.proofs.Common.{arith}
use Rattle.std.specs.Int.{w16}
use Rattle.ua_values.specs.Readers.{signed_at}
use Rattle.ua_values.specs.Types.{signed}
use Rattle.ua_values.proofs.TypeCodecs.{signed_codec}
use Rattle.ua_values.proofs.Answers.{exact_by, spelled_by}
use Rattle.ua_values.proofs.reading.read_int16.Goals as goal

pub returns-clause-exact : goal.returns-clause-exact
returns-clause-exact c = exact_by (signed_at 2 w16) c.args.bytes.now c.new-from.result c.int16-value.result c.int16-value.new.self c.sized.result c.new-from.ensures c.int16-value.ensures.exact c.sized.ensures

pub returns-clause-spelled : goal.returns-clause-spelled
returns-clause-spelled c = spelled_by (signed 2 w16) (signed_at 2 w16) (signed_codec 2 w16 (omega arith)) c.args.bytes.now c.new-from.result c.int16-value.result c.int16-value.new.self c.sized.result c.new-from.ensures c.int16-value.ensures.exact c.sized.ensures
