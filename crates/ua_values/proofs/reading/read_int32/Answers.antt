use Rattle.std.proofs.Common.{arith}
use Rattle.std.specs.Int.{w32}
use Rattle.ua_values.specs.Readers.{signed_at}
use Rattle.ua_values.specs.Types.{signed}
use Rattle.ua_values.proofs.TypeCodecs.{signed_codec}
use Rattle.ua_values.proofs.Answers.{exact_by, spelled_by}
use Rattle.ua_values.proofs.reading.read_int32.Goals as goal

pub returns-clause-exact : goal.returns-clause-exact
returns-clause-exact c = exact_by (signed_at 4 w32) c.args.bytes.now c.new-from.result c.int32-value.result c.int32-value.new.self c.sized.result c.new-from.ensures c.int32-value.ensures.exact c.sized.ensures

pub returns-clause-spelled : goal.returns-clause-spelled
returns-clause-spelled c = spelled_by (signed 4 w32) (signed_at 4 w32) (signed_codec 4 w32 (omega arith)) c.args.bytes.now c.new-from.result c.int32-value.result c.int32-value.new.self c.sized.result c.new-from.ensures c.int32-value.ensures.exact c.sized.ensures
