use Rattle.std.proofs.Common.{arith}
use Rattle.std.specs.Int.{w64}
use Rattle.ua_values.specs.Readers.{signed_at}
use Rattle.ua_values.specs.Types.{signed}
use Rattle.ua_values.proofs.TypeCodecs.{signed_codec}
use Rattle.ua_values.proofs.Answers.{exact_by, spelled_by}
use Rattle.ua_values.proofs.reading.read_int64.Goals as goal

pub returns-clause-exact : goal.returns-clause-exact
returns-clause-exact c = exact_by (signed_at 8 w64) c.args.bytes.now c.new-from.result c.int64-value.result c.int64-value.new.self c.sized.result c.new-from.ensures c.int64-value.ensures.exact c.sized.ensures

pub returns-clause-spelled : goal.returns-clause-spelled
returns-clause-spelled c = spelled_by (signed 8 w64) (signed_at 8 w64) (signed_codec 8 w64 (omega arith)) c.args.bytes.now c.new-from.result c.int64-value.result c.int64-value.new.self c.sized.result c.new-from.ensures c.int64-value.ensures.exact c.sized.ensures
