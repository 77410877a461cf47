use Rattle.uaset.proofs.Shown.{stream_promised}
use Rattle.uaset.proofs.answer.stream.Goals as goal

pub returns-in-Ok-clause-means : goal.returns-in-Ok-clause-means
returns-in-Ok-clause-means c =
    let shown = c.in-Ok.ensures.framed in
    stream_promised 0 c.args.bytes.now c.in-Ok.text.items shown.0 shown.1 shown.2
