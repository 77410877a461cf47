use Rattle.std.proofs.Common.{arith}
use Rattle.std.specs.Int.{w8}
use Rattle.ua_values.specs.Readers.{signed_at}
use Rattle.ua_values.specs.Types.{signed}
use Rattle.ua_values.proofs.TypeCodecs.{signed_codec}
use Rattle.ua_values.proofs.Answers.{exact_by, spelled_by}
use Rattle.ua_values.proofs.reading.read_sbyte.Goals as goal

pub returns-clause-exact : goal.returns-clause-exact
returns-clause-exact c = exact_by (signed_at 1 w8) c.args.bytes.now c.new-from.result c.sbyte-value.result c.sbyte-value.new.self c.sized.result c.new-from.ensures c.sbyte-value.ensures.exact c.sized.ensures

pub returns-clause-spelled : goal.returns-clause-spelled
returns-clause-spelled c = spelled_by (signed 1 w8) (signed_at 1 w8) (signed_codec 1 w8 (omega arith)) c.args.bytes.now c.new-from.result c.sbyte-value.result c.sbyte-value.new.self c.sized.result c.new-from.ensures c.sbyte-value.ensures.exact c.sized.ensures
