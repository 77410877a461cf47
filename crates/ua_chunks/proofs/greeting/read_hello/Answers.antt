use Rattle.ua_chunks.specs.Bodies.{hello, hello_at}
use Rattle.ua_chunks.proofs.BodyCodecs.{hello_codec, whole}
use Rattle.ua_chunks.proofs.greeting.read_hello.Goals as goal

pub returns-clause-spelled : goal.returns-clause-spelled
returns-clause-spelled c = whole hello hello_at hello_codec c.args.body.now c.whole_hello.result c.whole_hello.ensures
