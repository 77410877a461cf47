use Rattle.ua_chunks.specs.Bodies.{greeting, greeting_at}
use Rattle.ua_chunks.proofs.BodyCodecs.{greeting_codec, whole}
use Rattle.ua_chunks.proofs.greeting.read_ack.Goals as goal

pub returns-clause-spelled : goal.returns-clause-spelled
returns-clause-spelled c = whole greeting greeting_at greeting_codec c.args.body.now c.whole_ack.result c.whole_ack.ensures.exact
