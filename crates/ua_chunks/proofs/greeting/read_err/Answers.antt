use Rattle.ua_chunks.specs.Bodies.{error, error_at}
use Rattle.ua_chunks.proofs.BodyCodecs.{error_codec, whole}
use Rattle.ua_chunks.proofs.greeting.read_err.Goals as goal

pub returns-clause-spelled : goal.returns-clause-spelled
returns-clause-spelled c = whole error error_at error_codec c.args.body.now c.whole_err.result c.whole_err.ensures
